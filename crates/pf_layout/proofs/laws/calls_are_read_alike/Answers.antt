use Rattle.pf_layout.proofs.CallLaws.{read_alike}
use Rattle.pf_layout.proofs.laws.calls_are_read_alike.Goals as goal

pub returns : goal.returns
returns c = λ call file other is is_other. read_alike call file other is is_other
