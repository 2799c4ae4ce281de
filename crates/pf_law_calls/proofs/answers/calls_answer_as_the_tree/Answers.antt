use Rattle.pf_law_calls.proofs.CallReports.{calls_answered}
use Rattle.pf_law_calls.proofs.answers.calls_answer_as_the_tree.Goals as goal

pub returns : goal.returns
returns c = λ layout v told list volume can registers is spelled few before after m input answer same ends. calls_answered layout v told can registers list is volume spelled few before after m input answer same ends
