use Rattle.std.proofs.Common.{◌≡◌, length}
use Rattle.pf_test_faults.proofs.ends.disks_of.Given as goal

abbrev pub invariant-loop-number : goal.invariant-loop-number
invariant-loop-number l = length l.disks.items ≡ l.number
