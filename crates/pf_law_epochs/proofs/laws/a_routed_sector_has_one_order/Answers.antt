use Rattle.pf_law_epochs.proofs.Once.{one_part}
use Rattle.pf_law_epochs.proofs.laws.a_routed_sector_has_one_order.Goals as goal

pub returns : goal.returns
returns c = one_part
