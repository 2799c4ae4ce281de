use Rattle.pf_merge.proofs.MergeResults.{IsMade}
use Rattle.pf_merge.proofs.merging.merged_ops.Given as goal

abbrev pub invariant-loop-slot : goal.invariant-loop-slot
invariant-loop-slot l = IsMade l.base l.own l.other l.slot l.mine l.theirs l.ops.items
