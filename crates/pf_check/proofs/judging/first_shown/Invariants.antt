use Rattle.std.proofs.Common.{◌<◌, ℕ}
use Rattle.pf_check.specs.Kinds.{KeepsRule}
use Rattle.pf_check.proofs.judging.first_shown.Given as goal

abbrev pub invariant-loop-number : goal.invariant-loop-number
invariant-loop-number l = (n : ℕ) → n < l.number → KeepsRule l.kind l.tables n
