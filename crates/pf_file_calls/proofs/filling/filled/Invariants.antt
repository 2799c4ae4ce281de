use Rattle.std.proofs.Common.{◌≡◌, take}
use Rattle.pf_file_calls.specs.Filling.{filled_from}
use Rattle.pf_file_calls.proofs.filling.filled.Given as goal

abbrev pub invariant-loop-k : goal.invariant-loop-k
invariant-loop-k l = l.after.items ≡ filled_from l.fill l.first (take l.k l.bytes)
