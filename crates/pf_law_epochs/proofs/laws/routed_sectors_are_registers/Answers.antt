use Rattle.pf_law_epochs.proofs.Sectors.{routed_sector}
use Rattle.pf_law_epochs.proofs.laws.routed_sectors_are_registers.Goals as goal

pub returns : goal.returns
returns c = routed_sector
