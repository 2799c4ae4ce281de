use Rattle.std.proofs.Common.{is_some, not, ap}
use Rattle.pf_group_network.specs.Going.{is_quiet_event}
use Rattle.pf_group.specs.Reacting.{own_of}
use Rattle.pf_group.proofs.Since.{begun_if}
use Rattle.pf_group.proofs.began.begin.Goals as goal

pub returns-in-Err-clause-tried : goal.returns-in-Err-clause-tried
returns-in-Err-clause-tried g c =
    begun_if c.args.network.now c.args.past.now.happenings c.args.began.now c.now-now.result c.keep_if-in-Err.new.began (is_some (own_of c.args.event)) c.may_touch-may_touch.result c.may_touch-may_touch.ensures c.keep_if-in-Err.ensures c.now-now.ensures

pub returns-in-Err-clause-step : goal.returns-in-Err-clause-step
returns-in-Err-clause-step g c setup came reached told = c.in-Err.ensures.step setup came reached told

pub returns-in-Ok-clause-began : goal.returns-in-Ok-clause-began
returns-in-Ok-clause-began g c =
    begun_if c.args.network.now c.args.past.now.happenings c.args.began.now c.now-now.result c.keep_if.new.began (not (is_quiet_event c.in-Ok.happening.event)) (not c.is_quiet.result) (ap not c.is_quiet.ensures) c.keep_if.ensures c.now-now.ensures

pub returns-in-Ok-clause-step : goal.returns-in-Ok-clause-step
returns-in-Ok-clause-step g c setup came reached told = c.in-Ok.ensures.step setup came reached told

pub returns-in-Err-clause-somehow : goal.returns-in-Err-clause-somehow
returns-in-Err-clause-somehow g c setup came reached = c.in-Err.ensures.somehow setup came reached

pub returns-in-Ok-clause-somehow : goal.returns-in-Ok-clause-somehow
returns-in-Ok-clause-somehow g c setup came reached = c.in-Ok.ensures.somehow setup came reached
