use Rattle.std.proofs.Common.{◌≡◌, take}
use Rattle.pf_check.specs.Raw.{empty_tables, made_by}
use Rattle.pf_run_lines.proofs.checking.verdict_on.Given as goal

abbrev pub invariant-loop-txn : goal.invariant-loop-txn
invariant-loop-txn l = l.tables ≡ made_by empty_tables (take l.txn-index l.txns)
