use Rattle.std.proofs.Common.{◌≡◌, ◌-◌, ◌++◌, take}
use Rattle.pf_tree_tables.specs.Tables.{untagged_from}
use Rattle.pf_tree_tables.proofs.look.free_blocks.Given as goal

abbrev pub invariant-loop-taken : goal.invariant-loop-taken
invariant-loop-taken l = l.blocks.items ++ take (l.count - l.taken) (untagged_from l.next l.tags) ≡ take l.count (untagged_from l.fn.first l.tags)
