use Rattle.pf_law_epochs.proofs.Positions.{routed_journal}
use Rattle.pf_law_epochs.proofs.laws.routed_journals_are_registers.Goals as goal

pub returns : goal.returns
returns c = routed_journal
