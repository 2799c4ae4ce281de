use Rattle.pf_law_positions.proofs.Volumes.{inside, apart}
use Rattle.pf_law_positions.proofs.laws.halves_lie_in_chunks.Goals as goal

pub returns : goal.returns
returns c = record { inside = inside; apart = apart }
