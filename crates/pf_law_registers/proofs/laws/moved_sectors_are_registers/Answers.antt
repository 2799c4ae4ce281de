use Rattle.pf_law_registers.proofs.MovedSectors.{moved_register}
use Rattle.pf_law_registers.proofs.laws.moved_sectors_are_registers.Goals as goal

pub returns : goal.returns
returns c = moved_register
