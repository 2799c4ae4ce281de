use Rattle.std.proofs.Common.{◌≡◌, replicate, []}
use Rattle.pf_tree_tables.specs.Shelves.{lists_of}
use Rattle.pf_tree_tables.proofs.copies.no_names.Given as goal

abbrev pub invariant-loop-made : goal.invariant-loop-made
invariant-loop-made l = lists_of l.directories.items ≡ replicate l.made []
