-- No claim is open where no seat has a job in hand.
use Rattle.std.proofs.Common.{◌≡◌, ℕ, Bool, true, false, cond, eq-eqb, eqb-true, not, ◌&&◌, ◌==◌, List, [], ◌∷◌, ◌++◌, Option, Some, None, sym, refl, ap, ◌∙◌, subst}
use Rattle.std.proofs.lemmas.Bool.{and_from, and_parts, not-true, true≢false}
use Rattle.std.proofs.lemmas.Option.{none-some}
use Rattle.pf_turn.specs.Lists.{entries_of}
use Rattle.pf_turn.specs.declared.log.Stamped.{Stamped}
use Rattle.pf_entry.specs.Lists.{Every}
use Rattle.pf_entry.proofs.Lists.{every_filter, every_more, every_of_all}
use Rattle.pf_entry.specs.declared.ops.Job.{Job}
use Rattle.pf_protocol.specs.Histories.{History}
use Rattle.pf_protocol.specs.declared.answers.Answer.{Answer}
use Rattle.pf_protocol.specs.declared.answers.Answer.TheVariants.{Job as JobIs}
use Rattle.pf_protocol.specs.declared.events.Event.{Event}
use Rattle.pf_protocol.specs.declared.events.Event.TheVariants.{Claim, Finish, GiveBack}
use Rattle.pf_protocol.specs.Answers.{Claimed, claims_after, claims_of, claims_without, is_claim}
use Rattle.pf_shared.specs.declared.moment.SeatMoment.{SeatMoment}
use Rattle.pf_shared.specs.declared.moment.SeatMoment.TheVariants.{Happened, Look}
use Rattle.pf_shared.specs.Moments.{happenings, with_moment}
use Rattle.pf_shared.specs.Hands.{Hand, Key, hand, hand_after, hand_by, hand_of, is_key_of, is_tidy, key}
use Rattle.pf_shared.proofs.SeatEvents.{is_itself}
use Rattle.pf_shared.proofs.SeatJobs.{key_is, mine, own_hand}
use Rattle.pf_shared.proofs.Since.{claims-append}

-- what no seat has by its own entries is in no hand
nobody_has : (k : Key) (list : List (Stamped SeatMoment)) → is_tidy k None list ≡ true → ((n : ℕ) → hand_of k None (entries_of n list) ≡ None) → hand_of k None list ≡ None
nobody_has k list tidy none = by (hand_of k None list) refl
  where
    by : (o : Option Hand) → hand_of k None list ≡ o → hand_of k None list ≡ None
    by None e = e
    by (Some h) e = let own : mine h.seat (Some h) ≡ Some h = ap (λ b. cond b (Some h) None) (eq-eqb h.seat h.seat refl) in
        absurd (none-some h (sym (none h.seat) ∙ (own_hand k h.seat None list tidy ∙ (ap (mine h.seat) e ∙ own))))

-- where the job is in no hand, none of the claims is one of it
abbrev NoneOf : Key → Option Hand → List Claimed → Type 0
NoneOf k o claims = o ≡ None → Every (λ c. is_claim k.server k.life k.slot c ≡ false) claims

abbrev claim_of_job : Job → Claimed
claim_of_job job = record { server = job.server; life = job.life; slot = job.slot; op = job.op }

other_claim : (k : Key) (job : Job) → is_key_of k job.server job.life job.slot ≡ false → is_claim k.server k.life k.slot (claim_of_job job) ≡ false
other_claim k job other = by (is_claim k.server k.life k.slot (claim_of_job job)) refl
  where
    by : (b : Bool) → is_claim k.server k.life k.slot (claim_of_job job) ≡ b → b ≡ false
    by false e = refl
    by true e =
        let outer = and_parts (job.server == k.server && job.life == k.life) (job.slot == k.slot) e in
        let inner = and_parts (job.server == k.server) (job.life == k.life) outer.0 in
        let same : is_key_of k job.server job.life job.slot ≡ true = and_from _ _ (and_from _ _ (eq-eqb k.server job.server (sym (eqb-true job.server k.server inner.0))) (eq-eqb k.life job.life (sym (eqb-true job.life k.life inner.1)))) (eq-eqb k.slot job.slot (sym (eqb-true job.slot k.slot outer.1))) in
        absurd (true≢false (sym same ∙ other))

none_claimed : (k : Key) (o : Option Hand) (claims : List Claimed) (seat : ℕ) (job : Job) → NoneOf k o claims → NoneOf k (hand_by k o seat Claim (JobIs job)) (claims_after claims Claim (JobIs job))
none_claimed k o claims seat job none is = by (is_key_of k job.server job.life job.slot) refl is
  where
    by : (b : Bool) → is_key_of k job.server job.life job.slot ≡ b → cond b (Some (hand seat job.op)) o ≡ None → Every (λ c. is_claim k.server k.life k.slot c ≡ false) (claim_of_job job ∷ claims)
    by true e some = absurd (none-some (hand seat job.op) (sym some))
    by false e free = (other_claim k job e, none free)

none_ended : (k : Key) (o : Option Hand) (claims : List Claimed) (server life slot : ℕ) → NoneOf k o claims → NoneOf k (cond (is_key_of k server life slot) None o) (claims_without server life slot claims)
none_ended k o claims server life slot none is = by (is_key_of k server life slot) refl is
  where
    by : (b : Bool) → is_key_of k server life slot ≡ b → cond b None o ≡ None → Every (λ c. is_claim k.server k.life k.slot c ≡ false) (claims_without server life slot claims)
    by true e free = subst (λ (q : Key). Every (λ c. is_claim q.server q.life q.slot c ≡ false) (claims_without server life slot claims)) (sym (key_is k server life slot e)) (every_filter (λ c. is_claim server life slot c ≡ false) (λ c. not (is_claim server life slot c)) claims
        (every_of_all (λ c. not (is_claim server life slot c) ≡ true → is_claim server life slot c ≡ false) claims (λ c gone. not-true (is_claim server life slot c) gone)))
    by false e free = every_filter (λ c. is_claim k.server k.life k.slot c ≡ false) (λ c. not (is_claim server life slot c)) claims
        (every_more (λ c. is_claim k.server k.life k.slot c ≡ false) (λ c. not (is_claim server life slot c) ≡ true → is_claim k.server k.life k.slot c ≡ false) (λ c is kept. is) claims (none free))

none_by : (k : Key) (o : Option Hand) (claims : List Claimed) (seat : ℕ) (event : Event) (answer : Answer) → NoneOf k o claims → NoneOf k (hand_by k o seat event answer) (claims_after claims event answer)
none_by k o claims seat Claim (JobIs job) none = none_claimed k o claims seat job none
none_by k o claims seat (Finish server life slot) answer none = none_ended k o claims server life slot none
none_by k o claims seat (GiveBack server life slot) answer none = none_ended k o claims server life slot none
none_by k o claims seat event answer none = none

none_first : (k : Key) (o : Option Hand) (claims : List Claimed) (seat : ℕ) (what : SeatMoment) (es : List (Stamped SeatMoment)) → NoneOf k o claims
    → ((o' : Option Hand) (claims' : List Claimed) → NoneOf k o' claims' → NoneOf k (hand_of k o' es) (claims_of claims' (happenings es)))
    → NoneOf k (hand_of k (hand_after k o seat what) es) (claims_of claims (with_moment what (happenings es)))
none_first k o claims seat (Happened h) es none ih = ih (hand_by k o seat h.event h.answer) (claims_after claims h.event h.answer) (none_by k o claims seat h.event h.answer none)
none_first k o claims seat (Look read) es none ih = ih o claims none

none_of : (k : Key) (o : Option Hand) (claims : List Claimed) (list : List (Stamped SeatMoment)) → NoneOf k o claims → NoneOf k (hand_of k o list) (claims_of claims (happenings list))
none_of k o claims [] none = none
none_of k o claims (e ∷ es) none = none_first k o claims e.seat e.what es none (λ o' claims' n. none_of k o' claims' es n)

all_gone : (claims : List Claimed) → ((k : Key) → Every (λ c. is_claim k.server k.life k.slot c ≡ false) claims) → claims ≡ []
all_gone [] none = refl
all_gone (c ∷ cs) none = absurd (true≢false (sym (is_itself c.server c.life c.slot c.op) ∙ (none (key c.server c.life c.slot)).0))

-- what happened before the list left no claim open
pub all_closed : (past : History) (list : List (Stamped SeatMoment)) → claims_of [] past ≡ [] → ((k : Key) → is_tidy k None list ≡ true) → ((n : ℕ) (k : Key) → hand_of k None (entries_of n list) ≡ None) → claims_of [] (past ++ happenings list) ≡ []
all_closed past list bare tidy none = claims-append [] past (happenings list) ∙ (ap (λ c. claims_of c (happenings list)) bare
    ∙ all_gone (claims_of [] (happenings list)) (λ k. none_of k None [] list (λ _. tt) (nobody_has k list (tidy k) (λ n. none n k))))
