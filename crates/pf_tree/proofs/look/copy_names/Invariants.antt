use Rattle.std.proofs.Common.{◌≡◌, map, take}
use Rattle.pf_tree_tables.specs.declared.tables.DirectoryEntry.{DirectoryEntry}
use Rattle.pf_tree.proofs.look.copy_names.Given as goal

abbrev pub invariant-loop-row : goal.invariant-loop-row
invariant-loop-row l = l.names.items ≡ map (λ (row : DirectoryEntry). row.name) (take l.row-index l.rows)
