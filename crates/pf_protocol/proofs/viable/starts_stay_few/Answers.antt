use Rattle.pf_protocol.proofs.ElectedLeaders.{few_starts_beside}
use Rattle.pf_protocol.proofs.viable.starts_stay_few.Goals as goal

pub returns : goal.returns
returns c = few_starts_beside
