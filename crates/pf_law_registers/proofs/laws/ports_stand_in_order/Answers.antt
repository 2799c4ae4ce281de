use Rattle.pf_law_registers.proofs.Sectors.{order_between}
use Rattle.pf_law_registers.proofs.laws.ports_stand_in_order.Goals as goal

pub returns : goal.returns
returns c = order_between
