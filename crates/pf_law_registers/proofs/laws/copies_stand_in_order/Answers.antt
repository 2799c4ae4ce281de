use Rattle.pf_law_registers.proofs.Sectors.{ports_order}
use Rattle.pf_law_registers.proofs.laws.copies_stand_in_order.Goals as goal

pub returns : goal.returns
returns c = ports_order
