use Rattle.pf_paxos.proofs.BallotAgreement.{undecided}
use Rattle.pf_paxos.proofs.ballot_laws.quiet_positions_were_undecided_over.Goals as goal

pub returns : goal.returns
returns c = undecided
