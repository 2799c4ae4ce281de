use Rattle.std.proofs.Common.{◌≡◌, ◌<◌, ◌≤◌, ℕ, ◌+◌, ◌-◌, length, get_or, vec_capacity}
use Rattle.std.specs.declared.cmp.Reverse.{Reverse}
use Rattle.pf_tree_tables.proofs.index.Index.all_free.Given as goal

abbrev pub invariant-loop-number : goal.invariant-loop-number
invariant-loop-number g l = record {
  count : length l.free.items + l.number ≡ l.count;
  free : (k : ℕ) (d : Reverse ℕ) → k < length l.free.items → get_or l.free.items k d ≡ record { 0 = l.count - (k + 1) };
  room : l.count ≤ vec_capacity l.free;
}
