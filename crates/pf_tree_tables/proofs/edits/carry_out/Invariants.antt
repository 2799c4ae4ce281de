use Rattle.std.proofs.Common.{◌≡◌, ◌+◌, ◌≤◌, ◌<◌, ℕ, true, length}
use Rattle.std.specs.List.{list_any}
use Rattle.pf_tree_tables.specs.Tables.{applied}
use Rattle.pf_tree_tables.specs.Shelves.{tables_of, room_in, adds_to}
use Rattle.pf_tree_tables.proofs.edits.carry_out.Given as goal

abbrev pub invariant-loop-change : goal.invariant-loop-change
invariant-loop-change l =
    ((goal.iterator-loop-change).can_next l.change-iterator)
    × ((goal.iterator-loop-change).is_finite l.change-iterator)
    × (tables_of l.inodes l.directories.items l.tags ≡ applied (tables_of l.fn.inodes l.fn.directories.items l.fn.tags) l.yielded)
    × (length l.directories.items ≡ length l.fn.directories.items)
    × ((d : ℕ) → d < length l.directories.items → list_any (adds_to d) l.fn.changes.items ≡ true → length l.fn.changes.items ≤ room_in l.directories.items d + length l.yielded)
