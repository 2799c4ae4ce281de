use Rattle.pf_protocol.proofs.Ghosts.{legal, shows}
use Rattle.pf_protocol.proofs.examples.ghosts_are_void.Goals as goal

pub returns : goal.returns
returns c = record { legal = legal; shows = shows }
