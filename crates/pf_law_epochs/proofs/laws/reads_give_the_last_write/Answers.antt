use Rattle.pf_law_epochs.proofs.InTurn.{last_of_eight, last_of_sector}
use Rattle.pf_law_epochs.proofs.laws.reads_give_the_last_write.Goals as goal

pub returns-clause-sector : goal.returns-clause-sector
returns-clause-sector c = last_of_sector

pub returns-clause-eight : goal.returns-clause-eight
returns-clause-eight c = last_of_eight
