use Rattle.std.proofs.Common.{subst, sym}
use Rattle.pf_server_restart.specs.Recovering.{IsFollowed}
use Rattle.pf_server_restart.proofs.RecordReads.{term_followed}
use Rattle.pf_server_restart.proofs.recovery.follow.Goals as goal

pub returns-in-Term : goal.returns-in-Term
returns-in-Term c = subst (λ r. IsFollowed c.args.tables.now r (record c.args.tables.now { term = c.in-Term.term })) (sym c.in-Term.is) (term_followed c.args.tables.now c.in-Term.term)
