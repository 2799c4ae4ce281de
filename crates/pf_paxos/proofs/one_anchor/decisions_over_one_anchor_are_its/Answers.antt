use Rattle.pf_paxos.proofs.BallotAlone.{over_one, its_one}
use Rattle.pf_paxos.proofs.one_anchor.decisions_over_one_anchor_are_its.Goals as goal

pub returns : goal.returns
returns c = record { over = over_one; its = its_one }
