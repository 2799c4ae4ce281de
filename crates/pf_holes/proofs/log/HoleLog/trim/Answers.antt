use Rattle.std.proofs.Common.{arith, ap}
use Rattle.pf_holes.proofs.HoleLogs.{held_trim}
use Rattle.pf_holes.proofs.log.HoleLog.trim.Goals as goal

pub invariant_of-self : goal.invariant_of-self
invariant_of-self c =
    rw (c.trim.ensures, c.trim-2.ensures)
    (held_trim c.self.inside.base c.self.inside.last c.args.base c.self.inside.entries c.self.inside.committed c.self.invariant (omega (arith, c.requires, ap (λ h. h.base) c.self.view_is)))
