use Rattle.pf_check.specs.Verdicts.{AllKeepBelow}
use Rattle.pf_check.proofs.judging.judge.Given as goal

abbrev pub invariant-loop-kind : goal.invariant-loop-kind
invariant-loop-kind l = AllKeepBelow l.tables l.kind
