use Rattle.pf_law_registers.proofs.Alone.{own}
use Rattle.pf_law_registers.proofs.laws.lone_writers_have_registers.Goals as goal

pub returns : goal.returns
returns c = own
