use Rattle.pf_protocol.proofs.StaleReads.{legal, shows}
use Rattle.pf_protocol.proofs.examples.deposed_leaders_answer_no_read.Goals as goal

pub returns : goal.returns
returns c = record { legal = legal; shows = shows }
