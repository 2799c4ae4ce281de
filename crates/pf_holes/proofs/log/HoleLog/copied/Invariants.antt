use Rattle.pf_holes.proofs.LogCopies.{IsCopied}
use Rattle.pf_holes.proofs.log.HoleLog.copied.Given as goal

abbrev pub invariant-loop-slot : goal.invariant-loop-slot
invariant-loop-slot l = IsCopied l.self.entries l.slot l.rows.items
