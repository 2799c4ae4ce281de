-- One more event, or one more look, and what the group behind the turn keeps.
use Rattle.std.proofs.Common.{◌≡◌, ℕ, ◌+◌, ◌≤◌, Bool, true, List, [], ◌∷◌, ◌++◌, Option, None, length, length-append, sym, refl, ap, ◌∙◌, eq-eqb, arith}
use Rattle.std.proofs.lemmas.Bool.{and_from}
use Rattle.pf_entry.specs.declared.ops.Op.{Op}
use Rattle.pf_turn.specs.declared.log.Stamped.{Stamped}
use Rattle.pf_protocol.specs.declared.answers.Answer.{Answer}
use Rattle.pf_protocol.specs.declared.answers.Answer.TheVariants.{Job as JobIs}
use Rattle.pf_protocol.specs.declared.events.Happening.{Happening}
use Rattle.pf_protocol.specs.Histories.{History}
use Rattle.pf_protocol.specs.Answers.{Claimed, claims_after, claims_of, claims_with, is_claim}
use Rattle.pf_group_rounds.specs.pf_group.specs.declared.event.GroupEvent.{GroupEvent}
use Rattle.pf_group_rounds.specs.pf_group.specs.declared.event.GroupEvent.TheVariants as asked
use Rattle.pf_group_rounds.specs.pf_group.specs.Events.{rule_event}
use Rattle.pf_group_rounds.specs.pf_group.proofs.Claims.{claims_more}
use Rattle.pf_group_rounds.specs.pf_group_network.specs.Readings.{taken_after}
use Rattle.pf_shared.specs.declared.moment.SeatMoment.{SeatMoment}
use Rattle.pf_shared.specs.declared.moment.SeatMoment.TheVariants.{Happened}
use Rattle.pf_shared.specs.declared.moment.Did.{Did}
use Rattle.pf_shared.specs.declared.moment.Did.TheVariants.{Acted}
use Rattle.pf_shared.specs.Events.{IsSharedStep}
use Rattle.pf_shared.specs.Moments.{entry, handed_out, moment_taken_with}
use Rattle.pf_shared.specs.Woven.{steps_in, woven}
use Rattle.pf_shared.specs.Hands.{Key, ends_after, Hand, hand_of, is_tidy, may_by}
use Rattle.pf_shared.proofs.SeatJobs.{tidy_snoc}
use Rattle.pf_shared.proofs.WovenLists.{did, steps-append, woven-event}

pub handed-append : (taken : List Bool) (xs ys : List (Stamped SeatMoment)) → handed_out taken (xs ++ ys) ≡ handed_out (handed_out taken xs) ys
handed-append taken [] ys = refl
handed-append taken (x ∷ xs) ys = handed-append (moment_taken_with taken x.what) xs ys

-- what was before, and one more event of a seat
module _ (ds : List (Stamped Did)) (hs : History) (counted : steps_in ds ≡ length hs) (seat : ℕ) (h : Happening) (es : List (Stamped Did)) (grown : es ≡ ds ++ did seat Acted ∷ []) (hs' : History) (longer : hs' ≡ hs ++ h ∷ []) where
  pub counted_on : steps_in es ≡ length hs'
  counted_on = let a = ap steps_in grown ∙ steps-append ds seat Acted in let b = ap length longer ∙ length-append hs (h ∷ []) in omega arith

  pub listed_on : woven es hs' ≡ woven ds hs ++ entry seat (Happened h) ∷ []
  listed_on = ap (λ l. woven l hs') grown ∙ (ap (λ l. woven (ds ++ did seat Acted ∷ []) l) longer ∙ woven-event seat h ds hs counted)

  pub handed_on : (from taken taken' : List Bool) → taken ≡ handed_out from (woven ds hs) → taken' ≡ taken_after taken h.answer → taken' ≡ handed_out from (woven es hs')
  handed_on from taken taken' was now = now ∙ (ap (λ t. taken_after t h.answer) was ∙ sym (ap (handed_out from) listed_on ∙ handed-append from (woven ds hs) (entry seat (Happened h) ∷ [])))

  pub claims_on : claims_of [] hs' ≡ claims_after (claims_of [] hs) h.event h.answer
  claims_on = ap (claims_of []) longer ∙ claims_more hs [] h

  -- the list stays tidy where it does with the new entry
  pub tidy_on : (k : Key) → is_tidy k None (woven ds hs ++ entry seat (Happened h) ∷ []) ≡ true → is_tidy k None (woven es hs') ≡ true
  tidy_on k tidy = ap (is_tidy k None) listed_on ∙ tidy

-- a step neither opens a claim nor ends one
pub step_claims : (event : GroupEvent) (found : Bool) (answer : Answer) (claims : List Claimed) → IsSharedStep event → claims_after claims (rule_event event found) answer ≡ claims
step_claims asked.Claim found answer claims never = absurd never
step_claims (asked.Finish filled) found answer claims never = absurd never
step_claims event found answer claims is = refl

step_may : (event : GroupEvent) (found : Bool) (answer : Answer) (k : Key) (o : Option Hand) (seat : ℕ) → IsSharedStep event → may_by k o seat (rule_event event found) answer ≡ true
step_may asked.Claim found answer k o seat never = absurd never
step_may (asked.Finish filled) found answer k o seat never = absurd never
step_may event found answer k o seat is = refl

pub tidy_step : (event : GroupEvent) (found : Bool) (answer : Answer) (seat : ℕ) (list : List (Stamped SeatMoment)) → IsSharedStep event
    → (k : Key) → is_tidy k None list ≡ true → is_tidy k None (list ++ entry seat (Happened (record { event = rule_event event found; answer = answer })) ∷ []) ≡ true
tidy_step event found answer seat list is k tidy = tidy_snoc k None list _ tidy (step_may event found answer k (hand_of k None list) seat is)

-- a claim opens one at most
pub more_claims : (claims : List Claimed) (ends : ℕ) (answer : Answer) → length claims ≤ ends → length (claims_with answer claims) ≤ ends_after ends answer
more_claims claims ends (JobIs job) few = omega arith
more_claims claims ends answer few = few

pub ends_within : (ends : ℕ) (answer : Answer) → ends_after ends answer ≤ ends + 1
ends_within ends (JobIs job) = omega arith
ends_within ends answer = omega arith

pub is_itself : (server life slot : ℕ) (op : Op) → is_claim server life slot (record { server = server; life = life; slot = slot; op = op }) ≡ true
is_itself server life slot op = and_from _ _ (and_from _ _ (eq-eqb server server refl) (eq-eqb life life refl)) (eq-eqb slot slot refl)
