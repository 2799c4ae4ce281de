use Rattle.pf_law_plans.proofs.Words.{words_spelled}
use Rattle.pf_law_plans.proofs.laws.calls_of_words_can_be_spelled.Goals as goal

pub returns : goal.returns
returns c = words_spelled
