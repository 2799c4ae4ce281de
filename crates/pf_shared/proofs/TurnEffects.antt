-- What a turn with an event does, and one without.
use Rattle.std.proofs.Common.{◌≡◌, ℕ, zero, suc, Bool, IsTrue, true, false, ◌||◌, List, [], ◌∷◌, ◌++◌, length, None, Some, slice_get, refl, sym, ap, ◌∙◌, subst}
use Rattle.std.specs.List.{list_any}
use Rattle.std.proofs.lemmas.Option.{none-some, same_Some}
use Rattle.pf_turn.specs.declared.log.Stamped.{Stamped}
use Rattle.pf_entry.specs.declared.ops.Op.{Op}
use Rattle.pf_protocol.specs.Histories.{History}
use Rattle.pf_disk.specs.declared.disk.Disk.{Ghosts}
use Rattle.pf_protocol.specs.declared.answers.Answer.{Answer}
use Rattle.pf_protocol.specs.declared.events.Event.{Event}
use Rattle.pf_protocol.specs.declared.events.Happening.{Happening}
use Rattle.pf_protocol.specs.Answers.{claims_of, is_claim}
use Rattle.pf_group_rounds.specs.pf_group.specs.GroupIs.{GroupIs}
use Rattle.pf_group_rounds.specs.pf_group.specs.Steps.{GroupSteps}
use Rattle.pf_shared.specs.declared.moment.SeatMoment.TheVariants.{Happened}
use Rattle.pf_shared.specs.declared.moment.Did.{Did}
use Rattle.pf_shared.specs.declared.moment.Did.TheVariants.{Acted}
use Rattle.pf_shared.specs.declared.behind.Behind.{Behind}
use Rattle.pf_shared.specs.Answering.{EventIsAnswered}
use Rattle.pf_shared.specs.Moments.{entry}
use Rattle.pf_shared.specs.Since.{happened_since, whole_history}
use Rattle.pf_shared.specs.Woven.{steps_in, woven}
use Rattle.pf_shared.specs.Hands.{hand, hand_of, key}
use Rattle.pf_shared.specs.Behinds.{Acts, Stays, list_of}
use Rattle.pf_shared.proofs.Since.{claims_since, since_more, since_same}
use Rattle.pf_shared.proofs.WovenLists.{did, happenings-woven}
use Rattle.pf_shared.proofs.SeatEvents.{is_itself, listed_on}
use Rattle.pf_shared.proofs.SeatClaims.{open_claim}

module _ {D : Type 0} {disk : Ghosts D} (old mid new : Behind D disk) (same_group : (mid.group ≡ old.group) × (mid.start ≡ old.start)) (same_turns : mid.turns.items ≡ old.turns.items) where
  pub same_list : list_of mid ≡ list_of old
  same_list = ap (λ l. woven l (happened_since mid.start mid.group)) same_turns ∙ (ap (λ (x : GroupIs). woven old.turns.items (happened_since mid.start x)) same_group.0 ∙ ap (λ (x : GroupIs). woven old.turns.items (happened_since x old.group)) same_group.1)

  pub acts : (seat : ℕ) (event : Event) (answer : Answer) → new.turns.items ≡ mid.turns.items ++ did seat Acted ∷ [] → new.start ≡ mid.start → GroupSteps mid.group event answer new.group → Acts seat event answer old new
  acts seat event answer grown same_start s = let h : Happening = record { event = event; answer = answer } in record {
    listed = listed_on mid.turns.items (happened_since mid.start mid.group) mid.counted seat h new.turns.items grown (happened_since new.start new.group)
        (ap (λ (x : GroupIs). happened_since x new.group) same_start ∙ since_more mid.start mid.group mid.begun new.group h (ap (λ (x : GroupIs). x.history) s.recorded)) ∙ ap (λ l. l ++ entry seat (Happened h) ∷ []) same_list;
    answered = subst (λ (x : GroupIs). EventIsAnswered x.told x.setup x.taken x.history event answer) same_group.0
        (record { asked = s.asked; before = s.before; same = s.same; answered = s.answered; ends = s.ends; fresh = s.fresh });
    root = same_start ∙ same_group.1;
  }

  pub stays : new.turns.items ≡ mid.turns.items → new.group.history ≡ mid.group.history → new.start ≡ mid.start → Stays old new
  stays same_items same_history same_start = record {
    listed = ap (λ l. woven l (happened_since new.start new.group)) same_items
        ∙ (ap (λ l. woven mid.turns.items l) (ap (λ (x : GroupIs). happened_since x new.group) same_start ∙ since_same mid.start mid.group mid.begun new.group same_history) ∙ same_list);
    root = same_start ∙ same_group.1;
  }

-- the whole history is that before the first turn, and then what the list tells
module _ {D : Type 0} {disk : Ghosts D} (b : Behind D disk) where
  pub whole_is : whole_history b.start (list_of b) ≡ b.group.history
  whole_is = ap (λ l. b.start.history ++ l) (happenings-woven b.turns.items (happened_since b.start b.group) b.counted) ∙ b.begun

  pub told_now : IsTrue b.start.told → IsTrue b.group.told
  told_now told = subst IsTrue (sym b.same_told) told

  -- an open claim since the first turn is one of all
  pub all_claims : claims_of [] b.group.history ≡ claims_of [] (happened_since b.start b.group)
  all_claims = claims_since b.start b.group b.begun b.none_open

-- an element that passes is one of some
pub any_at : {X : Type 0} → (f : X → Bool) (xs : List X) (j : ℕ) (x : X) → slice_get xs j ≡ Some x → f x ≡ true → list_any f xs ≡ true
any_at f [] j x there passes = absurd (none-some x there)
any_at f (y ∷ ys) zero x there passes = ap (λ b. b || list_any f ys) (ap f (same_Some y x there) ∙ passes)
any_at f (y ∷ ys) (suc j) x there passes = let ih = any_at f ys j x there passes in elim (f y) as (λ b. b || list_any f ys ≡ true) [ true ↦ refl | false ↦ ih ]

-- so is the claim of a job in hand
pub open_any : (ds : List (Stamped Did)) (hs : History) → steps_in ds ≡ length hs → (seat server life slot : ℕ) (op : Op) → hand_of (key server life slot) None (woven ds hs) ≡ Some (hand seat op) → list_any (is_claim server life slot) (claims_of [] hs) ≡ true
open_any ds hs counted seat server life slot op is = let there = open_claim ds hs counted seat server life slot op is in
    any_at (is_claim server life slot) (claims_of [] hs) there.0 _ there.1 (is_itself server life slot op)
