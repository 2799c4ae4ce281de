use Rattle.pf_law_calls.proofs.OneTransaction.{once}
use Rattle.pf_law_calls.proofs.trees.calls_have_one_transaction.Goals as goal

pub returns : goal.returns
returns c = λ layout v told list can registers is few. once layout v told can registers list is few
