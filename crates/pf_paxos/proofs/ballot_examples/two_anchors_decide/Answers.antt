use Rattle.pf_paxos.proofs.WorkedBallots.{silent_registers, silent_decided}
use Rattle.pf_paxos.proofs.ballot_examples.two_anchors_decide.Goals as goal

pub returns-clause-registers : goal.returns-clause-registers
returns-clause-registers c = silent_registers

pub returns-clause-decided : goal.returns-clause-decided
returns-clause-decided c = silent_decided
