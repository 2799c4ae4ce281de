use Rattle.std.proofs.Common.{ap}
use Rattle.std.proofs.lemmas.Result.{err_from_is_err_and}
use Rattle.pf_protocol.specs.declared.events.Event.TheVariants.{Submit}
use Rattle.pf_group.proofs.CallOutcomes.{comes_answered, comes_short, wants_none}
use Rattle.pf_group.proofs.react.submit.Goals as goal

pub returns-in_err-kept : goal.returns-in_err-kept
returns-in_err-kept g c setup past reached =
    let err = err_from_is_err_and c.from_residual.result c.from_residual.ensures.1 in
    wants_none g.S.Store.model setup past.group c.args.network.now reached.shows (Submit c.args.server c.args.op) c.from_residual.result err.0 err.1

pub returns-in_err-answer : goal.returns-in_err-answer
returns-in_err-answer g c setup past reached =
    let err = err_from_is_err_and c.from_residual-in_err-answer.result c.from_residual-in_err-answer.ensures.1 in
    comes_short g.S.Store.model setup past.group c.args.network.now c.submit.new.self (Submit c.args.server c.args.op) c.submit.result _ c.in_err-answer.was (c.submit.ensures setup past reached) c.from_residual-in_err-answer.result err.0 err.1

pub returns : goal.returns
returns g c setup past reached =
    comes_answered g.S.Store.model setup past.group c.args.network.now c.submit.new.self (Submit c.args.server c.args.op) _ c.submit.result c.in_ok-answer.answer c.in_ok-answer.was (c.submit.ensures setup past reached) (ap (Submit c.args.server) c.in_ok-kept.ensures)
