use Rattle.pf_law_positions.proofs.Volumes.{spelled}
use Rattle.pf_law_positions.proofs.laws.spelled_blocks_are_asked.Goals as goal

pub returns : goal.returns
returns c = spelled
