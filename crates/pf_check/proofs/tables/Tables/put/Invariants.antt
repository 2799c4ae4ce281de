use Rattle.std.proofs.Common.{◌≡◌, take}
use Rattle.pf_check.specs.Raw.{tables_made}
use Rattle.pf_check.proofs.tables.Tables.put.Given as goal

abbrev pub invariant-loop-change : goal.invariant-loop-change
invariant-loop-change l = l.self ≡ tables_made l.fn.self (take l.change-index l.change-items)
