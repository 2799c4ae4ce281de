use Rattle.pf_paxos.proofs.BallotAgreement.{one_decision}
use Rattle.pf_paxos.proofs.ballot_laws.no_two_decisions_over.Goals as goal

pub returns : goal.returns
returns c = one_decision
