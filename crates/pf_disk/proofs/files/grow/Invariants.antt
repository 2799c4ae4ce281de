use Rattle.std.proofs.Common.{◌≡◌, ◌-◌, ◌++◌, ◌≤◌, max, vec_capacity, length}
use Rattle.std.proofs.Math.ListN.{replicate}
use Rattle.pf_disk.proofs.files.grow.Given as goal

abbrev pub invariant-loop : goal.invariant-loop
invariant-loop l = record {
  items : l.file.items ≡ l.initial.file.items ++ replicate (l.counter - length l.initial.file.items) 0;
  capacity : vec_capacity l.initial.file ≤ vec_capacity l.file;
  bound : l.counter ≤ max l.len (length l.initial.file.items);
}
