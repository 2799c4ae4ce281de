use Rattle.std.proofs.Common.{◌%◌, ◌<◌, arith, sym, subst, rules}
use Rattle.pf_holes.proofs.Found.{emptied, is_made, remove_none, ring_set}
use Rattle.pf_holes.proofs.ring.SlotRing.remove.Goals as goal

pub index_mut-requires : goal.index_mut-requires
index_mut-requires g c =
    subst (λ n. c.args.slot % 4096 < n) (sym c.self.inside.places.ok.0)
    (is_made c.self.inside.places.items c.args.self.now c.args.slot c.self.view_is c.self.invariant (sym c.if-has.ensures))

pub invariant_of-self : goal.invariant_of-self
invariant_of-self g c =
    ring_set c.self.inside.places.items (c.args.slot % 4096) _ c.self.invariant
    (is_made c.self.inside.places.items c.args.self.now c.args.slot c.self.view_is c.self.invariant (sym c.if-has.ensures)) (λ p is. absurd (grind arith))

pub returns-else-has : goal.returns-else-has
returns-else-has g c = remove_none c.args.self.now c.args.slot (sym c.if-has.ensures)

pub returns-then-has : goal.returns-then-has
returns-then-has g c =
    search (rules, emptied c.self.inside.places.items c.args.self.now c.args.slot c.self.view_is c.self.invariant (sym c.if-has.ensures))
