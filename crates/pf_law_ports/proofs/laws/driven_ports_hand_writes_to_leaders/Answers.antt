use Rattle.pf_law_ports.proofs.PortSteps.{rises}
use Rattle.pf_law_ports.proofs.laws.driven_ports_hand_writes_to_leaders.Goals as goal

pub returns : goal.returns
returns c = rises
