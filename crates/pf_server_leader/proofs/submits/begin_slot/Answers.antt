use Rattle.pf_server_leader.proofs.Proposals.{begun_slot}
use Rattle.pf_server_leader.proofs.submits.begin_slot.Goals as goal

pub returns-in-Serving : goal.returns-in-Serving
returns-in-Serving c = begun_slot _ _ _ _ c.in-Serving.is c.begin.ensures
