use Rattle.std.proofs.Common.{◌≡◌, replicate}
use Rattle.pf_file_calls.proofs.bytes.zeros.Given as goal

abbrev pub invariant-loop-made : goal.invariant-loop-made
invariant-loop-made l = l.bytes.items ≡ replicate l.made 0
