use Rattle.std.proofs.Common.{◌≡◌, replicate, None}
use Rattle.pf_check.proofs.tagging.no_blocks.Given as goal

abbrev pub invariant-loop-number : goal.invariant-loop-number
invariant-loop-number l = l.firsts.items ≡ replicate l.number None
