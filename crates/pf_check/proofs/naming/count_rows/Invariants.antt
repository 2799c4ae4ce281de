use Rattle.std.proofs.Common.{◌≡◌, length, take}
use Rattle.pf_check.specs.Walks.{counted}
use Rattle.pf_check.proofs.naming.count_rows.Given as goal

abbrev pub invariant-loop-row : goal.invariant-loop-row
invariant-loop-row l = record {
  counts : l.counts.items ≡ counted l.fn.counts.items (take l.row-index l.rows);
  places : length l.counts.items ≡ 65536;
}
