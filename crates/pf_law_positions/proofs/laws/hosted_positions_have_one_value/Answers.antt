use Rattle.pf_law_positions.proofs.Volumes.{one_value}
use Rattle.pf_law_positions.proofs.laws.hosted_positions_have_one_value.Goals as goal

pub returns : goal.returns
returns c = one_value
