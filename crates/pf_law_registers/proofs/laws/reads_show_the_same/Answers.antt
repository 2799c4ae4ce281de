use Rattle.pf_law_registers.proofs.Later.{shows_the_same}
use Rattle.pf_law_registers.proofs.laws.reads_show_the_same.Goals as goal

pub returns : goal.returns
returns c = shows_the_same
