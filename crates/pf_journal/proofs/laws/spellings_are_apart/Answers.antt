use Rattle.pf_journal.proofs.BlockSpellings.{one_block}
use Rattle.pf_journal.proofs.laws.spellings_are_apart.Goals as goal

pub returns : goal.returns
returns c = one_block
