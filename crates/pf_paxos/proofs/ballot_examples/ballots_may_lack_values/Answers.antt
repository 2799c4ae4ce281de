use Rattle.std.proofs.Common.{refl}
use Rattle.pf_paxos.proofs.ballot_examples.ballots_may_lack_values.Goals as goal

pub returns : goal.returns
returns c = (_, (refl, refl))
