use Rattle.std.proofs.Common.{◌≡◌, ◌<◌, ℕ, length, take, get_or}
use Rattle.pf_tree_tables.specs.declared.tables.DirectoryEntry.{DirectoryEntry}
use Rattle.pf_check.specs.Walks.{front_of, reach_all}
use Rattle.pf_check.proofs.reaching.reach_all.Given as goal

abbrev pub invariant-loop-row : goal.invariant-loop-row
invariant-loop-row l = record {
  front : front_of l.seen.items l.queue.items ≡ reach_all (front_of l.fn.seen.items l.fn.queue.items) (take l.row-index l.rows);
  places : length l.seen.items ≡ 65536;
  low : (k : ℕ) (d : DirectoryEntry) → k < l.row-index → (get_or l.rows k d).inode < 65536;
}
