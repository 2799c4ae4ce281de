use Rattle.pf_law_positions.proofs.ClientRules.{ruled}
use Rattle.pf_law_positions.proofs.laws.ports_follow_their_rule.Goals as goal

pub returns : goal.returns
returns c = ruled
