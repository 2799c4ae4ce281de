use Rattle.pf_law_registers.proofs.Firsts.{firsts_come}
use Rattle.pf_law_registers.proofs.laws.first_writers_come_first.Goals as goal

pub returns : goal.returns
returns c = firsts_come
