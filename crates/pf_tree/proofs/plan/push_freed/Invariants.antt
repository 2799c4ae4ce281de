use Rattle.std.proofs.Common.{◌≡◌, ◌++◌, take}
use Rattle.pf_tree.specs.Plans.{blocks_freed}
use Rattle.pf_tree.proofs.plan.push_freed.Given as goal

abbrev pub invariant-loop-block : goal.invariant-loop-block
invariant-loop-block l = l.changes.items ≡ l.fn.changes.items ++ blocks_freed (take l.block-index l.blocks)
