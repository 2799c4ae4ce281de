use Rattle.pf_law_calls.proofs.Behind.{call_late}
use Rattle.pf_law_calls.proofs.late.calls_are_planned_late.Goals as goal

pub returns : goal.returns
returns c = λ layout v told can registers before mid after m call same planned n low. call_late layout v told can registers before mid after m call same n low planned
