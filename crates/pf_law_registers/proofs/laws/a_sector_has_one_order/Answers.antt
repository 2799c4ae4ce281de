use Rattle.pf_law_registers.proofs.Later.{one_order}
use Rattle.pf_law_registers.proofs.laws.a_sector_has_one_order.Goals as goal

pub returns : goal.returns
returns c = one_order
