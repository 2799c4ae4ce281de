use Rattle.std.proofs.Common.{◌≡◌, take, count_by, is_some}
use Rattle.pf_check.proofs.judging.count_used.Given as goal

abbrev pub invariant-loop-number : goal.invariant-loop-number
invariant-loop-number l = l.count ≡ count_by is_some (take l.number l.tables.inodes)
