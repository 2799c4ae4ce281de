use Rattle.pf_protocol.proofs.PastTheNames.{legal, shows}
use Rattle.pf_protocol.proofs.examples.slots_wait_for_those_they_do_not_name.Goals as goal

pub returns : goal.returns
returns c = record { legal = legal; shows = shows }
