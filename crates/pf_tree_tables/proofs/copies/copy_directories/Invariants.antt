use Rattle.std.proofs.Common.{◌≡◌, length, take}
use Rattle.pf_tree_tables.specs.Shelves.{lists_of}
use Rattle.pf_tree_tables.proofs.copies.copy_directories.Given as goal

abbrev pub invariant-loop-rows : goal.invariant-loop-rows
invariant-loop-rows l = record {
  lists : lists_of l.copies.items ≡ lists_of (take l.rows-index l.directories);
  count : length l.copies.items ≡ l.rows-index;
}
