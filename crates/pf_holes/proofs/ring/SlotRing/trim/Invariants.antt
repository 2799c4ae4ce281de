use Rattle.pf_holes.proofs.TrimmedSlots.{IsPassed}
use Rattle.pf_holes.proofs.ring.SlotRing.trim.Given as goal

abbrev pub invariant-loop-passed : goal.invariant-loop-passed
invariant-loop-passed g l = IsPassed l.base l.passed l.initial.self l.self
