use Rattle.std.proofs.Common.{length}
use Rattle.pf_merge.proofs.LogSteps.{IsLeft}
use Rattle.pf_merge.proofs.cursors.above.Given as goal

abbrev pub invariant-loop-entry : goal.invariant-loop-entry
invariant-loop-entry l = IsLeft l.log l.base l.rest

abbrev pub decreases-loop-entry : goal.decreases-loop-entry
decreases-loop-entry l = length l.rest
