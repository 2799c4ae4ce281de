use Rattle.std.proofs.Common.{◌≡◌, take, length}
use Rattle.pf_tree_tables.specs.Shelves.{lists_of, ShelvesHaveRoom}
use Rattle.pf_tree_tables.proofs.edits.make_room.Given as goal

abbrev pub invariant-loop-change : goal.invariant-loop-change
invariant-loop-change l =
    (lists_of l.directories.items ≡ lists_of l.fn.directories.items)
    × ShelvesHaveRoom l.directories.items (take l.change-index l.changes) (length l.changes)
