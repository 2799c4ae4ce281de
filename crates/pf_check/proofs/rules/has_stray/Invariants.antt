use Rattle.std.proofs.Common.{◌<◌, ℕ, get_or}
use Rattle.pf_tree_tables.specs.declared.tables.DirectoryEntry.{DirectoryEntry}
use Rattle.pf_check.specs.Kinds.{EntryIsSound}
use Rattle.pf_check.proofs.rules.has_stray.Given as goal

abbrev pub invariant-loop-row : goal.invariant-loop-row
invariant-loop-row l = (k : ℕ) (d : DirectoryEntry) → k < l.row-index → EntryIsSound l.tables l.directory (get_or l.row-items k d).name (get_or l.row-items k d).inode
