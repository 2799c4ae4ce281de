use Rattle.pf_law_service.proofs.ServiceDeeds.{handed_of_ports}
use Rattle.pf_law_service.proofs.laws.what_is_handed_on_is_of_ports.Goals as goal

pub returns : goal.returns
returns c = handed_of_ports
