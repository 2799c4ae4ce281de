use Rattle.pf_law_calls.proofs.Behind.{call_sees}
use Rattle.pf_law_calls.proofs.late.calls_see_what_ended.Goals as goal

pub returns : goal.returns
returns c = λ layout v told list can registers is few first rest mid after n m call same planned low position value txn here read mount ended. call_sees layout v told can registers list is few first rest mid after n m call same planned low position value txn here read mount ended
