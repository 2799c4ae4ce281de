use Rattle.std.proofs.Common.{◌≡◌}
use Rattle.pf_tree_tables.specs.Tables.{blocks_of}
use Rattle.pf_tree_tables.proofs.look.blocks_of.Given as goal

abbrev pub invariant-loop-index : goal.invariant-loop-index
invariant-loop-index l = l.blocks.items ≡ blocks_of l.tags l.inode l.index
