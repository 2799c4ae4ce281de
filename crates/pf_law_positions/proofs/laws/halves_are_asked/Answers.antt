use Rattle.pf_law_positions.proofs.Volumes.{halves}
use Rattle.pf_law_positions.proofs.laws.halves_are_asked.Goals as goal

pub returns : goal.returns
returns c = halves
