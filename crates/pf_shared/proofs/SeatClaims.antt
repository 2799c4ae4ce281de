-- A job that a claim is answered is in nobody's hand.
use Rattle.std.proofs.Common.{◌≡◌, ℕ, Bool, true, false, cond, List, [], ◌∷◌, ◌++◌, length, Option, Some, None, slice_get, sym, refl, ap, ◌∙◌}
use Rattle.std.proofs.lemmas.Bool.{true≢false}
use Rattle.pf_turn.specs.declared.log.Stamped.{Stamped}
use Rattle.pf_entry.specs.Lists.{Every}
use Rattle.pf_entry.proofs.Lists.{every_get}
use Rattle.pf_entry.specs.declared.ops.Op.{Op}
use Rattle.pf_entry.specs.declared.ops.Job.{Job}
use Rattle.pf_protocol.specs.Histories.{History}
use Rattle.pf_protocol.specs.declared.answers.Answer.{Answer}
use Rattle.pf_protocol.specs.declared.answers.Answer.TheVariants.{Job as JobIs}
use Rattle.pf_protocol.specs.declared.events.Event.TheVariants.{Claim, Finish, GiveBack}
use Rattle.pf_protocol.specs.Answers.{Claimed, claims_of, is_claim}
use Rattle.pf_group_rounds.specs.pf_group.specs.Steps.{AnswerIsNew}
use Rattle.pf_shared.specs.declared.moment.SeatMoment.{SeatMoment}
use Rattle.pf_shared.specs.declared.moment.SeatMoment.TheVariants.{Happened, Look}
use Rattle.pf_shared.specs.declared.moment.Did.{Did}
use Rattle.pf_shared.specs.Moments.{entry, happenings}
use Rattle.pf_shared.specs.Woven.{steps_in, woven}
use Rattle.pf_shared.specs.Hands.{Key, key, is_key_of, Hand, hand, hand_of, is_hand_free, is_held_by, may_by, is_tidy}
use Rattle.pf_shared.proofs.SeatEvents.{is_itself}
use Rattle.pf_shared.proofs.Since.{claims-append}
use Rattle.pf_shared.proofs.WovenLists.{happenings-woven}
use Rattle.pf_shared.proofs.SeatJobs.{hand_is_open, key_is, tidy_snoc}

-- no open claim is one of this job, so it is in no hand
nobody : (claims : List Claimed) (job : Job) → Every (λ c. is_claim job.server job.life job.slot c ≡ false) claims → (o : Option Hand)
    → ((h : Hand) → o ≡ Some h → (j : ℕ) × (slice_get claims j ≡ Some (record { server = job.server; life = job.life; slot = job.slot; op = h.op }))) → is_hand_free o ≡ true
nobody claims job none None there = refl
nobody claims job none (Some h) there = let t = there h refl in
    absurd (true≢false (sym (is_itself job.server job.life job.slot h.op) ∙ every_get (λ c. is_claim job.server job.life job.slot c ≡ false) claims t.0 _ none t.1))

-- what happened before the list left no claim open
pub claimed_is_free : (past : History) (list : List (Stamped SeatMoment)) (job : Job) → claims_of [] past ≡ [] → Every (λ c. is_claim job.server job.life job.slot c ≡ false) (claims_of [] (past ++ happenings list))
    → is_hand_free (hand_of (key job.server job.life job.slot) None list) ≡ true
claimed_is_free past list job bare none = let k : Key = key job.server job.life job.slot in let all : History = past ++ happenings list in
    let claims : claims_of [] all ≡ claims_of [] (happenings list) = claims-append [] past (happenings list) ∙ ap (λ c. claims_of c (happenings list)) bare in
    nobody (claims_of [] all) job none (hand_of k None list) (λ h e. let there = hand_is_open k h list e in (there.0, ap (λ c. slice_get c there.0) claims ∙ there.1))

-- an entry of a claim keeps the list tidy
may_claim : (past : History) (list : List (Stamped SeatMoment)) (k : Key) (seat reads : ℕ) (answer : Answer) → claims_of [] past ≡ [] → AnswerIsNew (claims_of [] (past ++ happenings list)) reads answer
    → may_by k (hand_of k None list) seat Claim answer ≡ true
may_claim past list k seat reads (JobIs job) bare new = by (is_key_of k job.server job.life job.slot) refl
  where
    by : (b : Bool) → is_key_of k job.server job.life job.slot ≡ b → cond b (is_hand_free (hand_of k None list)) true ≡ true
    by true e = let at = key_is k job.server job.life job.slot e in ap (λ q. is_hand_free (hand_of q None list)) at ∙ claimed_is_free past list job bare new
    by false e = refl
may_claim past list k seat reads _ bare new = refl

pub tidy_claim : (past : History) (list : List (Stamped SeatMoment)) (seat reads : ℕ) (answer : Answer) → claims_of [] past ≡ [] → AnswerIsNew (claims_of [] (past ++ happenings list)) reads answer
    → (k : Key) → is_tidy k None list ≡ true → is_tidy k None (list ++ entry seat (Happened (record { event = Claim; answer = answer })) ∷ []) ≡ true
tidy_claim past list seat reads answer bare new k tidy = tidy_snoc k None list _ tidy (may_claim past list k seat reads answer bare new)

-- an end by the seat that has the job in hand keeps it so
may_end : (k : Key) (seat server life slot : ℕ) (op : Op) (list : List (Stamped SeatMoment)) → hand_of (key server life slot) None list ≡ Some (hand seat op) → cond (is_key_of k server life slot) (is_held_by seat (hand_of k None list)) true ≡ true
may_end k seat server life slot op list has = by (is_key_of k server life slot) refl
  where
    by : (b : Bool) → is_key_of k server life slot ≡ b → cond b (is_held_by seat (hand_of k None list)) true ≡ true
    by true e = let at = key_is k server life slot e in
        ap (λ q. is_held_by seat (hand_of q None list)) at ∙ (ap (is_held_by seat) has ∙ Rattle.std.proofs.Common.eq-eqb seat seat refl)
    by false e = refl

pub tidy_finish : (seat server life slot : ℕ) (op : Op) (answer : Answer) (list : List (Stamped SeatMoment)) → hand_of (key server life slot) None list ≡ Some (hand seat op)
    → (k : Key) → is_tidy k None list ≡ true → is_tidy k None (list ++ entry seat (Happened (record { event = Finish server life slot; answer = answer })) ∷ []) ≡ true
tidy_finish seat server life slot op answer list has k tidy = tidy_snoc k None list _ tidy (may_end k seat server life slot op list has)

pub tidy_return : (seat server life slot : ℕ) (op : Op) (answer : Answer) (list : List (Stamped SeatMoment)) → hand_of (key server life slot) None list ≡ Some (hand seat op)
    → (k : Key) → is_tidy k None list ≡ true → is_tidy k None (list ++ entry seat (Happened (record { event = GiveBack server life slot; answer = answer })) ∷ []) ≡ true
tidy_return seat server life slot op answer list has k tidy = tidy_snoc k None list _ tidy (may_end k seat server life slot op list has)

pub tidy_look : (seat : ℕ) (read : Option ℕ) (list : List (Stamped SeatMoment)) (k : Key) → is_tidy k None list ≡ true → is_tidy k None (list ++ entry seat (Look read) ∷ []) ≡ true
tidy_look seat read list k tidy = tidy_snoc k None list _ tidy refl

-- the claim of a job in hand is open in the group's history
pub open_claim : (ds : List (Stamped Did)) (hs : History) → steps_in ds ≡ length hs → (seat server life slot : ℕ) (op : Op) → hand_of (key server life slot) None (woven ds hs) ≡ Some (hand seat op)
    → (j : ℕ) × (slice_get (claims_of [] hs) j ≡ Some (record { server = server; life = life; slot = slot; op = op }))
open_claim ds hs counted seat server life slot op is = let there = hand_is_open (key server life slot) (hand seat op) (woven ds hs) is in
    (there.0, ap (λ l. slice_get (claims_of [] l) there.0) (sym (happenings-woven ds hs counted)) ∙ there.1)
