use Rattle.pf_paxos.proofs.BallotInputs.{was_put_in}
use Rattle.pf_paxos.proofs.ballot_laws.decided_values_were_put_in_over.Goals as goal

pub returns : goal.returns
returns c = was_put_in
