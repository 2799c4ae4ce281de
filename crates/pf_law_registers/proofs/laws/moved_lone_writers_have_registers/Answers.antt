use Rattle.pf_law_registers.proofs.MovedOwn.{moved_own_register}
use Rattle.pf_law_registers.proofs.laws.moved_lone_writers_have_registers.Goals as goal

pub returns : goal.returns
returns c = moved_own_register
