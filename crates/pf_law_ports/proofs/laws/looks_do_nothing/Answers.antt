use Rattle.pf_law_ports.proofs.CallGrowth.{idle}
use Rattle.pf_law_ports.proofs.laws.looks_do_nothing.Goals as goal

pub returns : goal.returns
returns c = idle
