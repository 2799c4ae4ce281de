use Rattle.std.proofs.Common.{◌≡◌, replicate, None}
use Rattle.pf_check.proofs.tables.free_places.Given as goal

abbrev pub invariant-loop-number : goal.invariant-loop-number
invariant-loop-number g l = l.places.items ≡ replicate l.number None
