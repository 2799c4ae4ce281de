use Rattle.pf_law_calls.proofs.WriteSpellings.{own_spelled}
use Rattle.pf_law_calls.proofs.lives.ballots_write_spelled_blocks.Goals as goal

pub returns : goal.returns
returns c = λ layout v told m is short. own_spelled layout v told m is short
