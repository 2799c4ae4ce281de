use Rattle.pf_protocol.proofs.Ports.{ordered}
use Rattle.pf_protocol.proofs.laws.ports_are_ordered.Goals as goal

pub returns : goal.returns
returns c = ordered
