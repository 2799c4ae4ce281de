use Rattle.pf_law_calls.proofs.Journals.{is_lived}
use Rattle.pf_law_calls.proofs.lives.tables_are_those_of_decisions.Goals as goal

pub returns : goal.returns
returns c = λ layout v told m can low. (is_lived layout v told m can low).tables
