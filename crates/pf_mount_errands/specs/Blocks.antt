-- The blocks of a journal in sectors.
use Rattle.std.specs.Prelude.{Bool, nat_lt, List, map}
use Rattle.std.specs.List.{list_any}
use Rattle.pf_entry.specs.Ops.{Sector}
use Rattle.pf_paxos.specs.declared.block.Block.{Block}
use Rattle.pf_journal.specs.Sectors.{block_in}

abbrev pub blocks_in : List Sector → List Block
blocks_in sectors = map block_in sectors

abbrev pub has_bal : List Block → Bool
has_bal blocks = list_any (λ (b : Block). nat_lt 0 b.bal) blocks
