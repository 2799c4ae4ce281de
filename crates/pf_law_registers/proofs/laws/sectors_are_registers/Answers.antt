use Rattle.pf_law_registers.proofs.Sectors.{sector_register}
use Rattle.pf_law_registers.proofs.laws.sectors_are_registers.Goals as goal

pub returns : goal.returns
returns c = sector_register
