-- What is asked of a journal and of the superblock, where a layout has them.
use Rattle.std.specs.Prelude.{ℕ, ◌*◌, [], ◌∷◌}
use Rattle.pf_base.specs.declared.asks.Ask.{Ask}
use Rattle.pf_volume.specs.Volumes.{Extent}
use Rattle.pf_layout.specs.Supers.{super_block}
use Rattle.pf_paxos.specs.declared.block.Block.{Block}
use Rattle.pf_journal.specs.Layouts.{LayoutIs, place_on}
use Rattle.pf_journal.specs.Sectors.{block_bytes}
use Rattle.pf_file_calls.specs.Blocks.{data_reads, data_writes}

-- the asks of a position at an anchor: a half, the own block, and the one sector of a pause
abbrev pub reads_half : LayoutIs → Extent → (anchor position half : ℕ) → Ask
reads_half l v anchor position half = data_reads v (place_on l anchor position (8 * half)) 8

abbrev pub writes_own : LayoutIs → Extent → (anchor position mount : ℕ) → Block → Ask
writes_own l v anchor position mount block = data_writes v (place_on l anchor position mount) (block_bytes block ∷ [])

abbrev pub reads_first : LayoutIs → Extent → (anchor position : ℕ) → Ask
reads_first l v anchor position = data_reads v (place_on l anchor position 0) 1

-- the superblock is sector 0
abbrev pub reads_super : Extent → Ask
reads_super v = data_reads v 0 1

abbrev pub writes_super : Extent → Ask
writes_super v = data_writes v 0 (super_block v.chunks v.sectors ∷ [])
