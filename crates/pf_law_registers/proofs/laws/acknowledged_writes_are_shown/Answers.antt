use Rattle.pf_law_registers.proofs.MovedSectors.{ended_shown}
use Rattle.pf_law_registers.proofs.laws.acknowledged_writes_are_shown.Goals as goal

pub returns : goal.returns
returns c = ended_shown
