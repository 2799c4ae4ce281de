use Rattle.pf_law_homes.proofs.Blocks.{positions_registers}
use Rattle.pf_law_homes.proofs.laws.positions_over_chunks_are_registers.Goals as goal

pub returns : goal.returns
returns c = positions_registers
