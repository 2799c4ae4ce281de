-- Open claims of jobs, as one more is claimed and as the first is brought back.
use Rattle.std.proofs.Common.{◌≡◌, ℕ, suc, Bool, true, false, not, cond, ◌&&◌, ◌||◌, ◌==◌, List, [], ◌∷◌, ◌++◌, Some, length, slice_get, refl, sym, ap, subst, ◌∙◌, arith}
use Rattle.std.specs.List.{list_any}
use Rattle.std.proofs.lemmas.Bool.{and_from, and_parts, eq-eqb, eqb-true, true≢false}
use Rattle.std.proofs.lemmas.List.{length-map}
use Rattle.std.proofs.lemmas.List.Sums.{fold-append}
use Rattle.pf_entry.specs.Lists.{Every}
use Rattle.pf_entry.proofs.Lists.{every_append}
use Rattle.pf_entry.specs.declared.ops.Job.{Job}
use Rattle.pf_entry.specs.declared.ops.Op.{Op}
use Rattle.pf_entry.specs.declared.ops.Op.TheVariants.{Write, Noop, Mark}
use Rattle.pf_server_apply.specs.Jobs.{IsFilledFor}
use Rattle.pf_protocol.specs.declared.answers.Answer.{Answer}
use Rattle.pf_protocol.specs.declared.answers.Answer.TheVariants.{Job as JobIs, Refused}
use Rattle.pf_protocol.specs.declared.answers.Refusal.TheVariants.{NoneFree}
use Rattle.pf_protocol.specs.declared.events.Event.TheVariants.{Claim, Finish, GiveBack}
use Rattle.pf_protocol.specs.Histories.{History}
use Rattle.pf_protocol.specs.Answers.{Claimed, claims_of, claims_without, is_claim}
use Rattle.pf_group.specs.Events.{Brings}
use Rattle.pf_group.proofs.Claims.{claims_more}
use Rattle.pf_group_copy.specs.declared.work.CopyWork.{CopyWork}
use Rattle.pf_group_copy.specs.Filling.{filled_of, sectors_of}
use Rattle.pf_group_rounds.specs.Open.{AllApart, AreOtherJobs, AreOpen, JobIsOpen, claim_for, jobs_of, with_claims}

-- a property of all claims is one of these jobs
every_job : (P : Claimed → Type 0) (claims : List Claimed) (jobs : List Job) → Every P (with_claims claims jobs) → Every P claims × Every (λ j. P (claim_for j)) jobs
every_job P claims [] all = (all, tt)
every_job P claims (j ∷ js) all = let r = every_job P (claim_for j ∷ claims) js all in (r.0.1, (r.0.0, r.1))

-- two different jobs are different either way
apart_sym : (a b : Job) → AreOtherJobs a b → AreOtherJobs b a
apart_sym a b apart = by (is_claim b.server b.life b.slot (claim_for a)) refl
  where
    by : (t : Bool) → is_claim b.server b.life b.slot (claim_for a) ≡ t → t ≡ false
    by false e = refl
    by true e =
        let outer = and_parts (a.server == b.server && a.life == b.life) (a.slot == b.slot) e in
        let inner = and_parts (a.server == b.server) (a.life == b.life) outer.0 in
        let same : is_claim a.server a.life a.slot (claim_for b) ≡ true = and_from _ _ (and_from _ _ (eq-eqb b.server a.server (sym (eqb-true a.server b.server inner.0))) (eq-eqb b.life a.life (sym (eqb-true a.life b.life inner.1)))) (eq-eqb b.slot a.slot (sym (eqb-true a.slot b.slot outer.1))) in
        absurd (true≢false (sym same ∙ apart))

apart_more : (jobs : List Job) (job : Job) → AllApart jobs → Every (AreOtherJobs job) jobs → AllApart (jobs ++ job ∷ [])
apart_more [] job all others = (tt, tt)
apart_more (j ∷ js) job all others = (every_append (AreOtherJobs j) js (job ∷ []) all.0 (apart_sym job j others.0, tt), apart_more js job all.1 others.1)

-- one more job is claimed
pub opened : (history : History) (jobs : List Job) (job : Job) → AreOpen history jobs → Every (λ c. is_claim job.server job.life job.slot c ≡ false) (claims_of [] history) → AreOpen (history ++ record { event = Claim; answer = JobIs job } ∷ []) (jobs ++ job ∷ [])
opened history jobs job are free =
    let Free : List Claimed → Type 0 = λ claims. Every (λ c. is_claim job.server job.life job.slot c ≡ false) claims in
    record {
      claims = claims_more history [] (record { event = Claim; answer = JobIs job }) ∙ (ap (λ claims. claim_for job ∷ claims) are.claims ∙ sym (fold-append (λ earlier j. claim_for j ∷ earlier) [] jobs (job ∷ [])));
      apart = apart_more jobs job are.apart (every_job (λ c. is_claim job.server job.life job.slot c ≡ false) [] jobs (subst Free are.claims free)).1;
    }

-- a claim for which none was free opens nothing
pub not_opened : (history : History) (jobs : List Job) → AreOpen history jobs → AreOpen (history ++ record { event = Claim; answer = Refused NoneFree } ∷ []) jobs
not_opened history jobs are = record { claims = claims_more history [] (record { event = Claim; answer = Refused NoneFree }) ∙ are.claims; apart = are.apart }

-- what is dropped with a job: its own claim, and no other
without_others : (job : Job) (claims : List Claimed) (jobs : List Job) → Every (AreOtherJobs job) jobs → claims_without job.server job.life job.slot (with_claims claims jobs) ≡ with_claims (claims_without job.server job.life job.slot claims) jobs
without_others job claims [] all = refl
without_others job claims (j ∷ js) all =
    without_others job (claim_for j ∷ claims) js all.1
    ∙ ap (λ b. with_claims (cond (not b) (claim_for j ∷ claims_without job.server job.life job.slot claims) (claims_without job.server job.life job.slot claims)) js) all.0

is_itself : (job : Job) → is_claim job.server job.life job.slot (claim_for job) ≡ true
is_itself job = and_from _ _ (and_from _ _ (eq-eqb job.server job.server refl) (eq-eqb job.life job.life refl)) (eq-eqb job.slot job.slot refl)

first_closed : (job : Job) (jobs : List Job) → AllApart (job ∷ jobs) → claims_without job.server job.life job.slot (with_claims [] (job ∷ jobs)) ≡ with_claims [] jobs
first_closed job jobs all =
    without_others job (claim_for job ∷ []) jobs all.0 ∙ ap (λ b. with_claims (cond (not b) (claim_for job ∷ []) []) jobs) (is_itself job)

-- the first job is finished, or comes back undone
pub finished_first : (history : History) (job : Job) (jobs : List Job) (answer : Answer) → AreOpen history (job ∷ jobs) → AreOpen (history ++ record { event = Finish job.server job.life job.slot; answer = answer } ∷ []) jobs
finished_first history job jobs answer are = record {
  claims = claims_more history [] (record { event = Finish job.server job.life job.slot; answer = answer }) ∙ (ap (claims_without job.server job.life job.slot) are.claims ∙ first_closed job jobs are.apart);
  apart = are.apart.1;
}

pub returned_first : (history : History) (job : Job) (jobs : List Job) (answer : Answer) → AreOpen history (job ∷ jobs) → AreOpen (history ++ record { event = GiveBack job.server job.life job.slot; answer = answer } ∷ []) jobs
returned_first history job jobs answer are = record {
  claims = claims_more history [] (record { event = GiveBack job.server job.life job.slot; answer = answer }) ∙ (ap (claims_without job.server job.life job.slot) are.claims ∙ first_closed job jobs are.apart);
  apart = are.apart.1;
}

-- the claim of the first is open
stays_open : (c : Claimed) (claims : List Claimed) (k : ℕ) (jobs : List Job) → slice_get claims k ≡ Some c → (i : ℕ) × (slice_get (with_claims claims jobs) i ≡ Some c)
stays_open c claims k [] there = (k, there)
stays_open c claims k (j ∷ js) there = stays_open c (claim_for j ∷ claims) (suc k) js there

pub first_is_open : (history : History) (job : Job) (jobs : List Job) → AreOpen history (job ∷ jobs) → JobIsOpen history job
first_is_open history job jobs are =
    let at = stays_open (claim_for job) (claim_for job ∷ []) 0 jobs refl in
    record { place = at.0; claim = ap (λ claims. slice_get claims at.0) are.claims ∙ at.1 }

any_more : (test : Claimed → Bool) (claims : List Claimed) (jobs : List Job) → list_any test claims ≡ true → list_any test (with_claims claims jobs) ≡ true
any_more test claims [] any = any
any_more test claims (j ∷ js) any = any_more test (claim_for j ∷ claims) js (by (test (claim_for j)))
  where
    by : (b : Bool) → (b || list_any test claims) ≡ true
    by true = refl
    by false = any

pub first_may_return : (history : History) (job : Job) (jobs : List Job) → AreOpen history (job ∷ jobs) → list_any (is_claim job.server job.life job.slot) (claims_of [] history) ≡ true
first_may_return history job jobs are =
    ap (list_any (is_claim job.server job.life job.slot)) are.claims ∙ any_more (is_claim job.server job.life job.slot) (claim_for job ∷ []) jobs (ap (λ b. b || false) (is_itself job))

-- its sectors are those of its op
filled_is : (op : Op) (job : Job) → job.op ≡ op → IsFilledFor op (filled_of job)
filled_is (Write range payload) job is = ap sectors_of is
filled_is Noop job is = tt
filled_is Mark job is = tt

pub brings : (history : History) (job : Job) → JobIsOpen history job → Brings (claims_of [] history) (filled_of job)
brings history job is = record { op = job.op; k = is.place; claim = is.claim; brought = filled_is job.op job refl }

-- nothing is left of a list without elements
pub none_left : {A : Type 0} → (n : ℕ) (xs : List A) → n ≡ 0 → n ≡ length xs → xs ≡ []
none_left n [] none is = refl
none_left n (x ∷ xs) none is = absurd (omega arith)

-- as many jobs
pub same_count : (n m : ℕ) (ws vs : List CopyWork) → n ≡ length ws → m ≡ length vs → jobs_of vs ≡ jobs_of ws → n ≡ m
same_count n m ws vs first second same = omega (arith, first, second, length-map ws (λ (w : CopyWork). w.job), length-map vs (λ (w : CopyWork). w.job), ap length same)
