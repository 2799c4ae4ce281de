use Rattle.pf_law_calls.proofs.Journals.{begin_at_rest}
use Rattle.pf_law_calls.proofs.lives.ballots_begin_at_rest.Goals as goal

pub returns : goal.returns
returns c = λ layout v told can. begin_at_rest layout v told can
