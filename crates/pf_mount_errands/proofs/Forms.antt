-- Blocks that are read have their form.
use Rattle.std.proofs.Common.{◌≡◌, zero, suc, List, [], ◌∷◌, map, subst}
use Rattle.pf_entry.specs.Ops.{Sector}
use Rattle.pf_paxos.specs.declared.block.Block.{Block}
use Rattle.pf_paxos.specs.Blocks.{IsBlock}
use Rattle.pf_paxos.specs.Standing.{AreBlocks}
use Rattle.pf_journal.specs.Sectors.{block_in}

pub are_blocks : ((sector : Sector) → IsBlock (block_in sector)) → (sectors : List Sector) → AreBlocks (map block_in sectors)
are_blocks form [] place b e = cc
are_blocks form (sector ∷ sectors) zero b e =
    let same : block_in sector ≡ b = (cc) in
    let P : Block → Type 0 = IsBlock in subst P same (form sector)
are_blocks form (sector ∷ sectors) (suc place) b e = are_blocks form sectors place b e
