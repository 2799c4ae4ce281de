use Rattle.pf_check.proofs.Alike.{alike}
use Rattle.pf_check.proofs.laws.verdicts_are_alike.Goals as goal

pub returns : goal.returns
returns c = alike
