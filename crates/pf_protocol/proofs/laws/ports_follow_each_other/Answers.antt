use Rattle.pf_protocol.proofs.Between.{ordered_between}
use Rattle.pf_protocol.proofs.laws.ports_follow_each_other.Goals as goal

pub returns : goal.returns
returns c = ordered_between
