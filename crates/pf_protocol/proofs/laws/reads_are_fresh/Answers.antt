use Rattle.pf_protocol.proofs.Fresh.{fresh}
use Rattle.pf_protocol.proofs.laws.reads_are_fresh.Goals as goal

pub returns : goal.returns
returns c = fresh
