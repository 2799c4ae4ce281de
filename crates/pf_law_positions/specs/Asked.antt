-- What the asks of mounts are in a position.
use Rattle.std.specs.Prelude.{ℕ, ◌≢◌, ◌⊎◌}
use Rattle.pf_base.specs.Span.{Span}
use Rattle.pf_entry.specs.Ops.{Sector}
use Rattle.pf_entry.specs.declared.ops.Op.{Op}
use Rattle.pf_entry.specs.declared.ops.Op.TheVariants.{Write}
use Rattle.pf_paxos.specs.declared.block.Block.{Block}
use Rattle.pf_law_positions.specs.Homes.{PositionHome, sector_of}
use Rattle.std.specs.Prelude.{[], ◌∷◌}

-- the op that writes a block
abbrev pub block_op : (Block → Sector) → PositionHome → (client : ℕ) → Block → Op
block_op spell home client block = Write (record { first = sector_of home client; count = 1 }) (spell block ∷ [])

-- the range of a half
abbrev pub half_range : PositionHome → (half : ℕ) → Span
half_range home half = record { first = home.first half; count = 8 }

-- the two halves lie apart
abbrev pub HalvesAreApart : PositionHome → Type 0
HalvesAreApart home = (home.chunk 0 ≢ home.chunk 1) ⊎ (home.first 0 ≢ home.first 1)
