use Rattle.pf_protocol.proofs.ChosenSubmissions.{was_submitted}
use Rattle.pf_protocol.proofs.laws.chosen_writes_were_submitted.Goals as goal

pub returns : goal.returns
returns c = was_submitted
