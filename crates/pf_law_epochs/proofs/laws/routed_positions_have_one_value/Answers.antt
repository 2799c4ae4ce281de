use Rattle.pf_law_epochs.proofs.Positions.{position_value}
use Rattle.pf_law_epochs.proofs.laws.routed_positions_have_one_value.Goals as goal

pub returns : goal.returns
returns c = position_value
