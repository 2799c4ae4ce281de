use Rattle.pf_paxos.proofs.BallotTold.{told}
use Rattle.pf_paxos.proofs.ballot_laws.told_values_are_decided_over.Goals as goal

pub returns : goal.returns
returns c = told
