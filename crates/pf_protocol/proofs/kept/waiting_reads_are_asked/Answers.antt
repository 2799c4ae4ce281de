use Rattle.pf_protocol.proofs.WaitingReads.{legal_asks}
use Rattle.pf_protocol.proofs.kept.waiting_reads_are_asked.Goals as goal

pub returns : goal.returns
returns c = legal_asks
