use Rattle.pf_law_positions.proofs.Volumes.{turns_told}
use Rattle.pf_law_positions.proofs.laws.turns_are_told.Goals as goal

pub returns : goal.returns
returns c = turns_told
