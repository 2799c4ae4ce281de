use Rattle.pf_protocol.proofs.EarlyApply.{legal, shows}
use Rattle.pf_protocol.proofs.examples.slots_are_applied_beside_a_missing_one.Goals as goal

pub returns : goal.returns
returns c = record { legal = legal; shows = shows }
