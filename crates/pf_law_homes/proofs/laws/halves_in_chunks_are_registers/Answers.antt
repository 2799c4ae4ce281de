use Rattle.pf_law_homes.proofs.Half.{half_registers}
use Rattle.pf_law_homes.proofs.laws.halves_in_chunks_are_registers.Goals as goal

pub returns : goal.returns
returns c = half_registers
