-- An event in a turn that was taken, by what the seat had seen before.
use Rattle.std.proofs.Common.{◌≡◌, ℕ, Bool, List, [], ◌∷◌, ◌++◌, Result, Ok, Err, IfOk, OnErr, append-nil, ap, sym, ◌∙◌, subst}
use Rattle.pf_base.specs.declared.errors.NoMemory.{NoMemory}
use Rattle.pf_turn.specs.declared.log.Stamped.{Stamped}
use Rattle.pf_turn.specs.Lists.{entries_of}
use Rattle.pf_protocol.specs.Groups.{Group}
use Rattle.pf_protocol.specs.declared.answers.Answer.{Answer}
use Rattle.pf_protocol.specs.declared.events.Event.{Event}
use Rattle.pf_group_rounds.specs.pf_group.specs.declared.event.GroupEvent.{GroupEvent}
use Rattle.pf_group_rounds.specs.pf_group.specs.Events.{rule_event}
use Rattle.pf_group_rounds.specs.pf_group.specs.GroupIs.{GroupIs}
use Rattle.pf_shared.specs.declared.moment.SeatMoment.{SeatMoment}
use Rattle.pf_shared.specs.Moments.{entry}
use Rattle.pf_shared.specs.Since.{state_by_now}
use Rattle.pf_shared.specs.Calls.{Adds, Finds, SeatHasStepped, SeatSteps}

-- the seat has seen what the turn found
pub taken_finds : (n : ℕ) (seen found : List (Stamped SeatMoment)) → seen ≡ found → Finds n (Unit {0}) seen found
taken_finds n seen found is = record { begins = ([], append-nil seen ∙ is); own = ap (entries_of n) (sym is); exact = λ _. sym is }

-- it took a turn, as seat m, in which it saw the list mid, and then made an entry
module _ (n m : ℕ) (number : m ≡ n) (alone : Type 0) (seen mid : List (Stamped SeatMoment)) (found : List (Stamped SeatMoment)) (finds : Finds n alone seen found) (is : mid ≡ found) where
  to_mid : Finds n alone seen mid
  to_mid = subst (Finds n alone seen) (sym is) finds

  finds_on : (new : List (Stamped SeatMoment)) → Finds n (Unit {0}) mid new → Finds n alone seen new
  finds_on new f = subst (Finds n alone seen) (sym (f.exact tt)) to_mid

  abbrev adds_on : (what : SeatMoment) (new : List (Stamped SeatMoment)) → Adds n (Unit {0}) mid what new → Adds n alone seen what new
  adds_on what new a = record { found = a.found; finds = finds_on a.found a.finds; listed = a.listed; own = a.own ∙ ap (λ l. l ++ entry n what ∷ []) to_mid.own }

  abbrev steps_on : (root : GroupIs) (event : Event) (answer : Answer) (new : List (Stamped SeatMoment)) → SeatSteps root n (Unit {0}) mid event answer new → SeatSteps root n alone seen event answer new
  steps_on root event answer new s = record { adds = adds_on _ new s.adds; answered = s.answered }

  pub took_step : (root : GroupIs) (event : GroupEvent) (r : Result Answer NoMemory) (new : List (Stamped SeatMoment)) → IfOk r (λ a. SeatHasStepped root m (Unit {0}) mid event a new) → IfOk r (λ a. SeatHasStepped root n alone seen event a new)
  took_step root event (Ok a) new h = let k = subst (λ i. SeatHasStepped root i (Unit {0}) mid event a new) number h in record { found = k.found; steps = steps_on root _ a new k.steps }
  took_step root event (Err e) new h = tt

  pub took_err : {A : Type 0} → (r : Result A NoMemory) (new : List (Stamped SeatMoment)) → OnErr r (Finds m (Unit {0}) mid new) → OnErr r (Finds n alone seen new)
  took_err (Ok a) new h = tt
  took_err (Err e) new h = finds_on new (subst (λ i. Finds i (Unit {0}) mid new) number h)

  -- so was it of the group where the event stands
  pub took_with : (root : GroupIs) (P : Group → Type 0) (event : GroupEvent) (a : Answer) (new : List (Stamped SeatMoment)) → SeatHasStepped root m (Unit {0}) mid event a new → P (state_by_now root mid) → (found : Bool) × ((steps : SeatSteps root n alone seen (rule_event event found) a new) × P (state_by_now root steps.adds.found))
  took_with root P event a new h p = let k = subst (λ i. SeatHasStepped root i (Unit {0}) mid event a new) number h in
      (k.found, (steps_on root _ a new k.steps, subst (λ l. P (state_by_now root l)) (sym (k.steps.adds.finds.exact tt)) p))

-- what holds at an error, whatever is returned
pub at_err : {B F : Type 0} (P : Type 0) (given : Result B F) → P → OnErr given P
at_err P (Ok b) p = tt
at_err P (Err f) p = p
