use Rattle.pf_paxos.proofs.BallotAgreement.{later_value}
use Rattle.pf_paxos.proofs.ballot_laws.later_ballots_keep_the_value_over.Goals as goal

pub returns : goal.returns
returns c = later_value
