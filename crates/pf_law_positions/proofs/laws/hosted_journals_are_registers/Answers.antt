use Rattle.pf_law_positions.proofs.Volumes.{journal}
use Rattle.pf_law_positions.proofs.laws.hosted_journals_are_registers.Goals as goal

pub returns : goal.returns
returns c = journal
