use Rattle.pf_law_events.proofs.SharedChunks.{anchors_registers}
use Rattle.pf_law_events.proofs.laws.anchors_over_chunks_are_registers.Goals as goal

pub returns : goal.returns
returns c = anchors_registers
