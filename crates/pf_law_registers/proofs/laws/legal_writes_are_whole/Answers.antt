use Rattle.pf_law_registers.proofs.Whole.{whole_write}
use Rattle.pf_law_registers.proofs.laws.legal_writes_are_whole.Goals as goal

pub returns : goal.returns
returns c = whole_write
