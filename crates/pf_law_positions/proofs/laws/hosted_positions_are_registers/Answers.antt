use Rattle.pf_law_positions.proofs.CopiedBlocks.{registers}
use Rattle.pf_law_positions.proofs.laws.hosted_positions_are_registers.Goals as goal

pub returns : goal.returns
returns c = registers
