use Rattle.pf_chunk.proofs.ReadsThatWaited.{never_answered}
use Rattle.pf_chunk.proofs.laws.reads_are_answered_while_they_wait.Goals as goal

pub returns : goal.returns
returns c = never_answered
