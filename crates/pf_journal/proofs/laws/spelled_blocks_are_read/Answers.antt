use Rattle.pf_journal.proofs.BlockSpellings.{back, zeros, nothing, form}
use Rattle.pf_journal.proofs.laws.spelled_blocks_are_read.Goals as goal

pub returns : goal.returns
returns c = record { spelled = back; zeros = zeros; other = nothing; form = form }
