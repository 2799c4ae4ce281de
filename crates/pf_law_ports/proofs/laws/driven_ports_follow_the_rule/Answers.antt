use Rattle.pf_law_ports.proofs.PortSteps.{follows}
use Rattle.pf_law_ports.proofs.laws.driven_ports_follow_the_rule.Goals as goal

pub returns : goal.returns
returns c = follows
