use Rattle.pf_protocol.proofs.OutOfOrder.{legal, shows}
use Rattle.pf_protocol.proofs.examples.slots_are_committed_out_of_order.Goals as goal

pub returns : goal.returns
returns c = record { legal = legal; shows = shows }
