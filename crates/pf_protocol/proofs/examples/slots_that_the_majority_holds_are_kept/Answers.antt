use Rattle.pf_protocol.proofs.KeptSlot.{legal, shows}
use Rattle.pf_protocol.proofs.examples.slots_that_the_majority_holds_are_kept.Goals as goal

pub returns : goal.returns
returns c = record { legal = legal; shows = shows }
