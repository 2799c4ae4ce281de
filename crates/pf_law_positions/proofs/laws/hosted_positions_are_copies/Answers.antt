use Rattle.pf_law_positions.proofs.CopiedBlocks.{copies}
use Rattle.pf_law_positions.proofs.laws.hosted_positions_are_copies.Goals as goal

pub returns : goal.returns
returns c = copies
