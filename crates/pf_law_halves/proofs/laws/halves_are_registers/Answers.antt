use Rattle.pf_law_halves.proofs.Beside.{halves_registers}
use Rattle.pf_law_halves.proofs.laws.halves_are_registers.Goals as goal

pub returns : goal.returns
returns c = halves_registers
