use Rattle.pf_law_epochs.proofs.Positions.{position_registers}
use Rattle.pf_law_epochs.proofs.laws.routed_positions_are_registers.Goals as goal

pub returns : goal.returns
returns c = position_registers
