use Rattle.pf_holes.proofs.HoleLogs.{held_new}
use Rattle.pf_holes.proofs.log.HoleLog.new.Goals as goal

pub invariant_of-result : goal.invariant_of-result
invariant_of-result c = held_new _ _ c.in_ok-new.ensures c.in_ok-new-2.ensures
