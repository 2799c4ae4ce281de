use Rattle.pf_layout.proofs.PathLaws.{paths_apart}
use Rattle.pf_layout.proofs.laws.paths_tell_themselves.Goals as goal

pub returns : goal.returns
returns c = λ p q is_p is_q e. paths_apart p q is_p.names is_q.names e
