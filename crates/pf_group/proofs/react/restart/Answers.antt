use Rattle.std.proofs.lemmas.Result.{err_from_is_err_and}
use Rattle.pf_group.proofs.CallOutcomes.{back_answered, back_short, somehow_answered, somehow_short}
use Rattle.pf_group.proofs.react.restart.Goals as goal

pub returns-in_err-answer-clause-told : goal.returns-in_err-answer-clause-told
returns-in_err-answer-clause-told g c setup past reached is_told honest =
    let err = err_from_is_err_and c.from_residual.result c.from_residual.ensures.1 in
    back_short g.S.Store.model setup past.group c.args.network.now c.restart.new.self c.args.server c.restart.result _ c.in_err-answer.was (c.restart.ensures.told setup past reached is_told honest) c.from_residual.result err.0 err.1

pub returns-in_err-answer-clause-somehow : goal.returns-in_err-answer-clause-somehow
returns-in_err-answer-clause-somehow g c setup past reached =
    let err = err_from_is_err_and c.from_residual.result c.from_residual.ensures.1 in
    somehow_short g.S.Store.model setup past.group c.args.network.now c.restart.new.self c.args.server c.restart.result _ c.in_err-answer.was (c.restart.ensures.somehow setup past reached) c.from_residual.result err.0 err.1

pub returns-clause-told : goal.returns-clause-told
returns-clause-told g c setup past reached is_told honest =
    back_answered g.S.Store.model setup past.group c.args.network.now c.restart.new.self c.args.server c.restart.result c.in_ok-answer.answer c.in_ok-answer.found c.in_ok-answer.was (c.restart.ensures.told setup past reached is_told honest)

pub returns-clause-somehow : goal.returns-clause-somehow
returns-clause-somehow g c setup past reached =
    somehow_answered g.S.Store.model setup past.group c.args.network.now c.restart.new.self c.args.server c.restart.result c.in_ok-answer.answer c.in_ok-answer.found c.in_ok-answer.was (c.restart.ensures.somehow setup past reached)
