use Rattle.pf_law_ports.proofs.RehomedPorts.{idle, pending}
use Rattle.pf_law_ports.proofs.laws.rehomed_ports_begin_anew.Goals as goal

pub returns : goal.returns
returns c = record { pending = pending; idle = idle }
