use Rattle.pf_law_contents.proofs.SerialCalls.{calls_go, reads_go, reads_go_over_ports}
use Rattle.pf_law_contents.proofs.laws.reads_give_the_contents.Goals as goal

pub returns-clause-kept : goal.returns-clause-kept
returns-clause-kept c = calls_go

pub returns-clause-reads : goal.returns-clause-reads
returns-clause-reads c = reads_go

pub returns-clause-ports : goal.returns-clause-ports
returns-clause-ports c = reads_go_over_ports
