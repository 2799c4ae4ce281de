use Rattle.pf_law_epochs.proofs.MoverCarries.{were_carried}
use Rattle.pf_law_epochs.proofs.laws.switched_chunks_were_carried.Goals as goal

pub returns : goal.returns
returns c = were_carried
