use Rattle.pf_server_leader.proofs.Proposals.{planned}
use Rattle.pf_server_leader.proofs.plans.plan.Goals as goal

pub returns : goal.returns
returns c = planned c.args.me.now c.args.op c.in_ok-leader.leader.now c.in_ok-look_behind.field-0 c.in_ok-look_behind.ensures c.in_ok-leader.ensures
