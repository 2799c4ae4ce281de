use Rattle.std.proofs.Common.{arith, ap, refl}
use Rattle.pf_holes.proofs.HoleLogs.{held_put}
use Rattle.pf_holes.proofs.log.HoleLog.put.Goals as goal

pub invariant_of-self : goal.invariant_of-self
invariant_of-self c =
    let base = ap (λ h. h.base) c.self.view_is in
    rw (c.put.ensures, c.max-self-inside.ensures)
    (held_put c.self.inside.base c.self.inside.last c.args.entry.slot c.self.inside.entries c.self.inside.committed c.args.entry c.self.invariant (omega (arith, c.requires.above, base)) (omega (arith, c.requires.room, base)) refl)
