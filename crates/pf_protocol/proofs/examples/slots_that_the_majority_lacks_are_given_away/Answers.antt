use Rattle.pf_protocol.proofs.GivenAway.{legal, shows}
use Rattle.pf_protocol.proofs.examples.slots_that_the_majority_lacks_are_given_away.Goals as goal

pub returns : goal.returns
returns c = record { legal = legal; shows = shows }
