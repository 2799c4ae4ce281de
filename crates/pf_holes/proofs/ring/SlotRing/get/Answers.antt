use Rattle.std.proofs.Common.{◌≡◌, MatchOption, None, Some, subst, sym, ap, ◌∙◌}
use Rattle.std.specs.FinMap
use Rattle.std.proofs.lemmas.Bool.{eq-eqb, ne_eqb, cond-true, cond-false}
use Rattle.pf_holes.proofs.Found.{seen_there, seen_none, here}
use Rattle.pf_holes.proofs.ring.SlotRing.get.Goals as goal
use Rattle.pf_holes.proofs.ring.SlotRing.get.Goals.{in_default-via-in-Some+else-there-slot, in_default-via-in_default}

pub returns-in_err-there : goal.returns-in_err-there
returns-in_err-there g c =
    subst (λ r. MatchOption r (FinMap.get c.args.self.now c.args.slot ≡ None) (λ v. FinMap.get c.args.self.now c.args.slot ≡ Some v.now)) (sym c.from_residual.ensures)
    (seen_none c.self.inside.places.items c.deref.result.now c.args.self.now c.args.slot c.self.view_is c.self.invariant c.deref.ensures.value c.in_err-there.ensures.lookup.0)

pub returns-in-Some : goal.returns-in-Some
returns-in-Some g c =
    seen_there c.self.inside.places.items c.deref.result.now c.args.self.now c.args.slot c.in_ok-there.field-0.now c.self.view_is c.self.invariant
    c.deref.ensures.value c.in_ok-there.ensures.lookup.0 c.in_ok-there.ensures.lookup.1
    ∙ ap (λ p. here c.args.slot (Some p)) c.in-Some.is
    ∙ cond-true _ _ _ (eq-eqb c.args.slot c.in-Some.there (sym c.if-there-slot.true))

pub returns-in_default : goal.returns-in_default
returns-in_default g c =
    seen_there c.self.inside.places.items c.deref.result.now c.args.self.now c.args.slot c.in_ok-there.field-0.now c.self.view_is c.self.invariant
    c.deref.ensures.value c.in_ok-there.ensures.lookup.0 c.in_ok-there.ensures.lookup.1
    ∙ elim c.in_default.branch [
      | in_default-via-in-Some+else-there-slot w ↦ ap (λ p. here c.args.slot (Some p)) w.in-Some.is ∙ cond-false _ _ _ (ne_eqb c.args.slot w.in-Some.there (λ e. w.if-there-slot.false (sym e)))
      | in_default-via-in_default w ↦ ap (λ p. here c.args.slot (Some p)) w.in_default.is
    ]
