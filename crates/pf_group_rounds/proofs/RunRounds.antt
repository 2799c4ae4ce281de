-- A run that follows a group, claim by claim, finish by finish and round by round.
use Rattle.std.proofs.Common.{◌≡◌, ◌≢◌, ℕ, suc, ◌==◌, if◌then◌else◌, List, [], ◌∷◌, ◌++◌, Some, None, length, refl, sym, ap, subst, ◌∙◌, append_assoc, arith, ⊎_elim}
use Rattle.std.specs.List.{fold}
use Rattle.std.specs.Prelude.{IsTrue}
use Rattle.std.proofs.lemmas.Bool.{false≢true, ne_eqb}
use Rattle.std.proofs.lemmas.List.{append-nil}
use Rattle.pf_entry.specs.declared.ops.Job.{Job}
use Rattle.pf_protocol.specs.declared.answers.Answer.{Answer}
use Rattle.pf_protocol.specs.declared.answers.Answer.TheVariants.{Job as JobIs, Refused}
use Rattle.pf_protocol.specs.declared.answers.Refusal.TheVariants.{NoneFree}
use Rattle.pf_protocol.specs.declared.events.Event.TheVariants.{Claim}
use Rattle.pf_protocol.specs.declared.events.Happening.{Happening}
use Rattle.pf_protocol.specs.Servers.{Setup}
use Rattle.pf_protocol.specs.Groups.{Group, happens}
use Rattle.pf_protocol.specs.Answers.{IsAnswer, answer_to, may_halt}
use Rattle.pf_protocol.proofs.ForMoments.{replay_goes_on}
use Rattle.pf_group.specs.GroupIs.{GroupIs, state_of}
use Rattle.pf_group_rounds.specs.Adding.{GroupGoes, GroupHasClaimed, HasFinished, finish_of, with_more}
use Rattle.pf_group_rounds.specs.Agreeing.{TellsOfGroup, chunk_standing}
use Rattle.pf_group_rounds.specs.Chunks.{Chunk, after, event_answered}
use Rattle.pf_group_rounds.specs.Following.{IsClaimed, IsFinished, IsRound}
use Rattle.pf_group_rounds.specs.Halts.{Halt}
use Rattle.pf_group_rounds.specs.Rounds.{ClaimsMade, IsApplied, applied, claim_on, claims_to, enough, finished, no_jobs, round, rounds_to}
use Rattle.pf_group_rounds.proofs.FollowedHistories.{step_is}
use Rattle.pf_group_rounds.proofs.GroupGrowth.{grown_tells}
use Rattle.pf_group_rounds.proofs.HistoryParts.{grown}

-- the list tells of the group without what it tells of its disks
told : (halts : List Halt) (a b : GroupIs) (more : _) → b ≡ with_more a more b → TellsOfGroup halts b → TellsOfGroup halts (record a { history = a.history ++ more })
told halts a b more recorded tells = let t = subst (TellsOfGroup halts) recorded tells in record { told = t.told; making = t.making; few = t.few; events = t.events }

-- and of it at an earlier moment
told_before : (halts : List Halt) (a b : GroupIs) → GroupGoes a b → TellsOfGroup halts b → TellsOfGroup halts a
told_before halts a b goes tells = grown_tells halts a b (grown a b goes) tells

-- one more event of both
one_more : (halts : List Halt) (a b : GroupIs) (h : Happening) → b ≡ with_more a (h ∷ []) b → (IsTrue a.told → IsAnswer a.setup (state_of a) h.event h.answer) → TellsOfGroup halts b → (event_answered halts (chunk_standing halts a) h.event ≡ h.answer) × (after halts (chunk_standing halts a) h.event ≡ chunk_standing halts b)
one_more halts a b h recorded is tells =
    let before = told halts a b (h ∷ []) recorded tells in
    let step = step_is halts a h (is before.told) before in
    (step.0, step.1 ∙ sym (ap (chunk_standing halts) recorded))

-- claims after these
abbrev pub with_jobs : List Job → ClaimsMade → ClaimsMade
with_jobs jobs claims = record claims { jobs = jobs ++ claims.jobs }

-- the claims so far, with as many tries to come
abbrev pub ClaimsSoFar : (old new : GroupIs) → List Job → (left : ℕ) → Type 0
ClaimsSoFar old new jobs left = (halts : List Halt) → TellsOfGroup halts new → claims_to enough halts (chunk_standing halts old) ≡ with_jobs jobs (claims_to left halts (chunk_standing halts new))

next_claim : (n : ℕ) (halts : List Halt) (c d : Chunk) (answer : Answer) → event_answered halts c Claim ≡ answer → after halts c Claim ≡ d → claims_to (suc n) halts c ≡ claim_on answer d (claims_to n halts)
unfolding claims_to
next_claim n halts c d answer is at = ap (λ a. claim_on a (after halts c Claim) (claims_to n halts)) is ∙ ap (λ x. claim_on answer x (claims_to n halts)) at

pub no_claims : (g : GroupIs) → ClaimsSoFar g g [] enough
no_claims g halts tells = refl

-- one try less
pub one_claim : (old now new : GroupIs) (jobs : List Job) (job : Job) (left : ℕ) → GroupHasClaimed now (Some job) new → ClaimsSoFar old now jobs (suc left) → ClaimsSoFar old new (jobs ++ job ∷ []) left
one_claim old now new jobs job left claimed so_far halts tells =
    let h : Happening = record { event = Claim; answer = JobIs job } in
    let step = one_more halts now new h claimed.recorded claimed.answered tells in
    let rest = claims_to left halts (chunk_standing halts new) in
    so_far halts (told_before halts now new (record { more = h ∷ []; recorded = claimed.recorded; paid = claimed.paid; by = claimed.by }) tells)
    ∙ (ap (with_jobs jobs) (next_claim left halts (chunk_standing halts now) (chunk_standing halts new) (JobIs job) step.0 step.1)
    ∙ ap (λ js. record rest { jobs = js }) (sym (append_assoc jobs (job ∷ []) rest.jobs)))

-- none is free
pub last_claim : (old now new : GroupIs) (jobs : List Job) (left : ℕ) → GroupHasClaimed now None new → ClaimsSoFar old now jobs (suc left) → IsClaimed old new jobs
last_claim old now new jobs left claimed so_far halts tells =
    let h : Happening = record { event = Claim; answer = Refused NoneFree } in
    let step = one_more halts now new h claimed.recorded claimed.answered tells in
    so_far halts (told_before halts now new (record { more = h ∷ []; recorded = claimed.recorded; paid = claimed.paid; by = claimed.by }) tells)
    ∙ (ap (with_jobs jobs) (next_claim left halts (chunk_standing halts now) (chunk_standing halts new) (Refused NoneFree) step.0 step.1)
    ∙ ap (λ js. record (no_jobs (chunk_standing halts new)) { jobs = js }) (append-nil jobs))

-- no try is left
pub all_claims : (old now : GroupIs) (jobs : List Job) → ClaimsSoFar old now jobs 0 → IsClaimed old now jobs
unfolding claims_to
all_claims old now jobs so_far halts tells = so_far halts tells ∙ ap (λ js. record (no_jobs (chunk_standing halts now)) { jobs = js }) (append-nil jobs)

-- a claim that found none is answered so again
none_is_answer : (setup : Setup) (g : Group) → IsAnswer setup g Claim (Refused NoneFree) → answer_to setup g Claim ≡ Refused NoneFree
unfolding may_halt
none_is_answer setup g is = ⊎_elim (λ (e : Refused NoneFree ≡ answer_to setup g Claim). sym e) (λ h. absurd (false≢true h.0)) is

-- a claim for which none was free changes nothing
pub still_none : (now new : GroupIs) → GroupHasClaimed now None new → IsTrue new.told → IsApplied new.setup (state_of new)
unfolding happens
still_none now new claimed told_new =
    let h : Happening = record { event = Claim; answer = Refused NoneFree } in
    let told_now = subst IsTrue (ap (λ (g : GroupIs). g.told) claimed.recorded) told_new in
    let same : state_of new ≡ state_of now = ap state_of claimed.recorded ∙ replay_goes_on now.setup now.history h in
    ap (λ (setup : Setup). answer_to setup (state_of new) Claim) (ap (λ (g : GroupIs). g.setup) claimed.recorded)
    ∙ (ap (λ (state : Group). answer_to now.setup state Claim) same ∙ none_is_answer now.setup (state_of now) (claimed.answered told_now))

-- the finishes so far, with these jobs to come
abbrev pub FinishesSoFar : (old new : GroupIs) → (all rest : List Job) → Type 0
FinishesSoFar old new all rest = (halts : List Halt) → TellsOfGroup halts new → fold (finished halts) (chunk_standing halts old) all ≡ fold (finished halts) (chunk_standing halts new) rest

pub one_finish : (old now new : GroupIs) (all : List Job) (job : Job) (rest : List Job) → HasFinished now job new → FinishesSoFar old now all (job ∷ rest) → FinishesSoFar old new all rest
one_finish old now new all job rest done so_far halts tells =
    let h : Happening = record { event = finish_of job; answer = done.answer } in
    so_far halts (told_before halts now new (record { more = h ∷ []; recorded = done.recorded; paid = done.paid; by = done.by }) tells)
    ∙ ap (λ c. fold (finished halts) c rest) (one_more halts now new h done.recorded done.answered tells).1

-- a round of both
pub one_round : (old claimed new : GroupIs) (jobs : List Job) → IsClaimed old claimed jobs → GroupGoes claimed new → IsFinished claimed new jobs → IsRound old new (length jobs)
one_round old claimed new jobs claims goes ends halts more tells =
    ap (λ (c : ClaimsMade). round halts c more) (claims halts (told_before halts claimed new goes tells)) ∙ by jobs (ends halts tells)
  where
    by : (js : List Job) → fold (finished halts) (chunk_standing halts claimed) js ≡ chunk_standing halts new → round halts (record { chunk = chunk_standing halts claimed; jobs = js }) more ≡ (if length js == 0 then chunk_standing halts new else more (chunk_standing halts new))
    by [] is = is
    by (j ∷ js) is = ap more is ∙ sym (ap (λ b. if b then chunk_standing halts new else more (chunk_standing halts new)) (ne_eqb (suc (length js)) 0 (λ e. omega arith)))

-- a round that claims nothing
pub empty_round : (old new : GroupIs) (jobs : List Job) → jobs ≡ [] → IsClaimed old new jobs → IsRound old new 0
empty_round old new jobs none claims halts more tells =
    ap (λ (c : ClaimsMade). round halts c more) (claims halts tells) ∙ ap (λ js. round halts (record { chunk = chunk_standing halts new; jobs = js }) more) none

-- the rounds so far, with as many to come
abbrev pub RoundsSoFar : (old new : GroupIs) → (left : ℕ) → Type 0
RoundsSoFar old new left = (halts : List Halt) → TellsOfGroup halts new → applied halts (chunk_standing halts old) ≡ rounds_to left halts (chunk_standing halts new)

pub no_rounds : (g : GroupIs) → RoundsSoFar g g enough
unfolding applied
no_rounds g halts tells = refl

round_next : (old now new : GroupIs) (left count : ℕ) → IsRound now new count → GroupGoes now new → RoundsSoFar old now (suc left) → (halts : List Halt) → TellsOfGroup halts new → applied halts (chunk_standing halts old) ≡ (if count == 0 then chunk_standing halts new else rounds_to left halts (chunk_standing halts new))
unfolding rounds_to
round_next old now new left count is goes so_far halts tells = so_far halts (told_before halts now new goes tells) ∙ is halts (rounds_to left halts) tells

pub more_rounds : (old now new : GroupIs) (left count : ℕ) → count ≢ 0 → IsRound now new count → GroupGoes now new → RoundsSoFar old now (suc left) → RoundsSoFar old new left
more_rounds old now new left count some is goes so_far halts tells =
    round_next old now new left count is goes so_far halts tells
    ∙ ap (λ b. if b then chunk_standing halts new else rounds_to left halts (chunk_standing halts new)) (ne_eqb count 0 some)

pub last_round : (old now new : GroupIs) (left count : ℕ) → count ≡ 0 → IsRound now new count → GroupGoes now new → RoundsSoFar old now (suc left) → (halts : List Halt) → TellsOfGroup halts new → applied halts (chunk_standing halts old) ≡ chunk_standing halts new
last_round old now new left count none is goes so_far halts tells =
    round_next old now new left count is goes so_far halts tells
    ∙ ap (λ n. if n == 0 then chunk_standing halts new else rounds_to left halts (chunk_standing halts new)) none
