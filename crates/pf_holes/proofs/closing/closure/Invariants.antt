use Rattle.pf_entry.specs.Sets as set
use Rattle.pf_holes.proofs.ClosurePasses.{HasReached}
use Rattle.pf_holes.proofs.closing.closure.Given as goal

abbrev pub invariant-loop-entry : goal.invariant-loop-entry
invariant-loop-entry l = HasReached l.entries (set.contains l.committed.slots) (set.contains l.applied.slots) (set.contains l.reached.slots) l.entry-index
