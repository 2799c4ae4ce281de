use Rattle.pf_law_registers.proofs.SubmissionPlaces.{placed}
use Rattle.pf_law_registers.proofs.laws.acknowledged_writes_have_places.Goals as goal

pub returns : goal.returns
returns c = placed
