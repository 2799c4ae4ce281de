use Rattle.pf_law_calls.proofs.Below.{ended_below}
use Rattle.pf_law_calls.proofs.late.ended_calls_are_below.Goals as goal

pub returns : goal.returns
returns c = λ layout v told list can registers is few first rest n same low position value txn here read mount ended. ended_below layout v told can registers list is few first rest n same low position value txn here read mount ended
