use Rattle.pf_protocol.proofs.KeptStarts.{legal, shows}
use Rattle.pf_protocol.proofs.examples.starts_outlive_their_entries.Goals as goal

pub returns : goal.returns
returns c = record { legal = legal; shows = shows }
