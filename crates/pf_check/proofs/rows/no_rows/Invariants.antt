use Rattle.std.proofs.Common.{◌≡◌, replicate, []}
use Rattle.pf_check.proofs.rows.no_rows.Given as goal

abbrev pub invariant-loop-made : goal.invariant-loop-made
invariant-loop-made l = l.directories.items ≡ replicate l.made []
