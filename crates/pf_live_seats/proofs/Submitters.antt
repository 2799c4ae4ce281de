-- What the worker that submits keeps, as it serves one host after another.
use Rattle.std.proofs.Common.{◌≡◌, ◌≢◌, ℕ, zero, suc, inl, inr, IsTrue, List, [], ◌∷◌, length, Some, slice_get, slice_set, refl, sym, ap, ◌∙◌, subst}
use mathlib.Core.Logic.{dite}
use native.Mathlib.Decide.{ℕ_discrete}
use Rattle.std.proofs.lemmas.List.{length-set}
use Rattle.pf_entry.proofs.Lists.{set_cases, set_there}
use Rattle.pf_turn.specs.Lists.{Begins}
use Rattle.pf_turn.specs.Own.{EachOf}
use Rattle.pf_disk.specs.declared.disk.Disk.{Ghosts}
use Rattle.pf_shared.specs.pf_group.specs.GroupIs.{GroupIs}
use Rattle.pf_leadercell.specs.Passes.{IsPassOf}
use Rattle.pf_leadercell.specs.declared.cell.LeaderCell.{LeaderCell}
use Rattle.pf_shared.specs.declared.parts.SharedGroup.{SharedGroup}
use Rattle.pf_shared.specs.Seats.{IsSeatOf, number_of, root_in, seen_by}
use Rattle.pf_live_seats.specs.declared.line.HostRings.{HostRings}
use Rattle.pf_live_seats.specs.declared.plan.LinePlan.{LinePlan}
use Rattle.pf_live_seats.specs.declared.serving.Served.{Served}
use Rattle.pf_live_seats.specs.declared.submitting.Submitter.{Submitter}
use Rattle.pf_live_seats.specs.Deliveries.{LiveTrace}
use Rattle.pf_live_seats.specs.Submitters.{AllFed, AllStand, IsFed, IsServedIn, IsSubmitter, ServesHost, ServesOn, SubmitterStands, Submits, SubmitsAlone}
use Rattle.pf_live_seats.proofs.Submissions.{alone_before}
use Rattle.pf_live_seats.proofs.Stands.{begins_on, stands_on}

elsewhere : {X : Type 0} → (xs : List X) (i j : ℕ) (x : X) → j ≢ i → slice_get (slice_set xs i x) j ≡ slice_get xs j
elsewhere [] i j x other = refl
elsewhere (z ∷ zs) zero zero x other = absurd (other refl)
elsewhere (z ∷ zs) zero (suc j) x other = refl
elsewhere (z ∷ zs) (suc i) zero x other = refl
elsewhere (z ∷ zs) (suc i) (suc j) x other = elsewhere zs i j x (λ e. other (ap suc e))

same_some : {X : Type 0} → (x y : X) → Some x ≡ Some y → x ≡ y
same_some x y is = cc

-- all that it knows of its own submissions
pub record Knows (plan : LinePlan) (root : GroupIs) (n : ℕ) (begun seen : LiveTrace) (served : List Served) : Type 0 where
  pub steps : SubmitsAlone n begun seen → AllFed plan served → EachOf n (Submits plan root) seen
  pub stand : IsTrue root.told → SubmitsAlone n begun seen → AllFed plan served → AllStand root seen served

module _ (plan : LinePlan) (root : GroupIs) (n : ℕ) (begun seen later : LiveTrace) (served : List Served) (since : Begins begun seen) (host : ℕ) (old new : Served) (at : slice_get served host ≡ Some old) (on : ServesOn plan root n host old seen new later) where
  s : ServesHost plan root n begun host old seen new later
  s = on begun since

  at_new : slice_get (slice_set served host new) host ≡ Some new
  at_new = set_there served host old new at

  module _ (al : SubmitsAlone n begun later) (fed : AllFed plan (slice_set served host new)) where
    alone_then : SubmitsAlone n begun seen
    alone_then = alone_before n begun seen later since s.begins al

    fed_then : AllFed plan served
    fed_then h a there = dite (ℕ_discrete h host)
        (λ is. let same : old ≡ a = same_some old a (sym at ∙ (ap (slice_get served) (sym is) ∙ there)) in subst (λ k. IsFed plan.sectors k a) (sym is) (subst (IsFed plan.sectors host) same (s.fed (fed host new at_new))))
        (λ other. fed h a (elsewhere served host h new other ∙ there))

    fed_new : IsFed plan.sectors host new
    fed_new = fed host new at_new

    stood : Knows plan root n begun seen served → IsTrue root.told → SubmitterStands root host seen old.taken old.standing
    stood k told = k.stand told alone_then fed_then host old at

    stand_then : Knows plan root n begun seen served → IsTrue root.told → AllStand root later (slice_set served host new)
    stand_then k told h a there = elim (set_cases served host new h a there) [
      | inl here ↦ subst (λ j. SubmitterStands root j later a.taken a.standing) (sym here.0) (subst (λ (x : Served). SubmitterStands root host later x.taken x.standing) here.1 (s.stands told al fed_new (stood k told)))
      | inr other ↦ stands_on root h seen later s.begins (s.others told al fed_new (stood k told) h other.0) a.taken a.standing (k.stand told alone_then fed_then h a other.1)
    ]

  pub knows_on : Knows plan root n begun seen served → Knows plan root n begun later (slice_set served host new)
  knows_on k = record {
    steps = λ al fed. s.steps al (fed_new al fed) (k.steps (alone_then al fed) (fed_then al fed)) (stood al fed k);
    stand = λ told al fed. stand_then al fed k told;
  }

-- the worker has served one host
module _ {D : Type 0} {disk : Ghosts D} (group : SharedGroup D disk) (cell : LeaderCell) (plan : LinePlan) (rings : List HostRings) (a b : Submitter D disk) (is : IsSubmitter group cell plan rings a) (host : ℕ) (old new : Served) (at : slice_get a.served.items host ≡ Some old)
    (seat : IsSeatOf group b.seat) (same : number_of b.seat ≡ number_of a.seat) (begun : b.begun ≡ a.begun) (pass : IsPassOf cell b.pass) (items : b.served.items ≡ slice_set a.served.items host new) (served : IsServedIn plan rings host new)
    (on : ServesOn plan (root_in group) (number_of a.seat) host old (seen_by a.seat) new (seen_by b.seat)) where
  knew : Knows plan (root_in group) (number_of a.seat) (seen_by a.begun.value) (seen_by a.seat) a.served.items
  knew = record { steps = is.steps; stand = is.stand }

  knows : Knows plan (root_in group) (number_of b.seat) (seen_by b.begun.value) (seen_by b.seat) b.served.items
  knows = subst (λ l. Knows plan (root_in group) (number_of b.seat) (seen_by b.begun.value) (seen_by b.seat) l) (sym items)
      (subst (λ m. Knows plan (root_in group) m (seen_by b.begun.value) (seen_by b.seat) (slice_set a.served.items host new)) (sym same)
      (subst (λ l. Knows plan (root_in group) (number_of a.seat) l (seen_by b.seat) (slice_set a.served.items host new)) (ap (λ s. seen_by s.value) (sym begun))
      (knows_on plan (root_in group) (number_of a.seat) (seen_by a.begun.value) (seen_by a.seat) (seen_by b.seat) a.served.items is.since host old new at on knew)))

  each_on : (h : ℕ) (s : Served) → slice_get b.served.items h ≡ Some s → IsServedIn plan rings h s
  each_on h s there = elim (set_cases a.served.items host new h s (ap (λ l. slice_get l h) (sym items) ∙ there)) [
    | inl here ↦ subst (λ j. IsServedIn plan rings j s) (sym here.0) (subst (IsServedIn plan rings host) here.1 served)
    | inr other ↦ is.each h s other.1
  ]

  pub submitter_on : IsSubmitter group cell plan rings b
  submitter_on = record {
    seat = seat;
    pass = pass;
    since = subst (λ l. Begins l (seen_by b.seat)) (ap (λ s. seen_by s.value) (sym begun)) (begins_on (seen_by a.begun.value) (seen_by a.seat) (seen_by b.seat) is.since ((on (seen_by a.begun.value) is.since).begins));
    hosts = ap length items ∙ (length-set a.served.items host new ∙ is.hosts);
    each = each_on;
    steps = knows.steps;
    stand = knows.stand;
  }
