use Rattle.std.proofs.Common.{◌≡◌, length, take}
use Rattle.pf_check.specs.Walks.{all_counted}
use Rattle.pf_check.proofs.naming.count_names.Given as goal

abbrev pub invariant-loop-number : goal.invariant-loop-number
invariant-loop-number l = record {
  counts : l.counts.items ≡ all_counted l.initial.counts.items (take l.number l.tables.entries);
  places : length l.counts.items ≡ 65536;
}
