use Rattle.pf_world_moments.proofs.Words.{call_read, call_spelled}
use Rattle.pf_world_moments.proofs.laws.calls_are_read_by_their_words.Goals as goal

pub returns : goal.returns
returns c = λ call file. (call_read call file, call_spelled call file)
