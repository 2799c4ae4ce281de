use Rattle.pf_server_restart.proofs.StateTests.{applied_here, either_way}
use Rattle.pf_server_restart.proofs.fitting.are_applied.Goals as goal

pub returns : goal.returns
returns c = either_way c.are_placed.ensures (applied_here c.args.base c.args.applied.now c.as_slice.result.now c.as_slice.ensures.items)
