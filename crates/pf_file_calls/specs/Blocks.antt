-- Blocks of file data: 4,096 bytes, eight sectors of the volume each. What is asked of a chunk for them.
use Rattle.std.specs.Prelude.{◌≡◌, ℕ, zero, suc, ◌+◌, ◌<◌, ◌≤◌, true, ◌*◌, ◌/◌, ◌%◌, List, [], ◌∷◌, ◌++◌, take, drop, length}
use Rattle.pf_base.specs.Asks.{IsValid, chunk_of, span_of}
use Rattle.pf_base.specs.Span.{Span, fits_in}
use Rattle.pf_base.specs.declared.asks.Ask.{Ask}
use Rattle.pf_base.specs.declared.asks.Ask.TheVariants.{Write, Read}
use Rattle.pf_entry.specs.Ops.{Sector}
use Rattle.pf_volume.specs.Volumes.{Extent, size_of}

-- so many sectors from one of the volume on, which lie in one chunk
abbrev pub run_at : Extent → (first count : ℕ) → Span
run_at v first count = record { first = first % v.sectors; count = count }

-- such a run, of up to eight sectors
pub record FitsIn (v : Extent) (first count : ℕ) : Type 0 where
  pub some : 1 ≤ count
  pub few : count ≤ 8
  pub low : first < size_of v
  pub room : first % v.sectors + count ≤ v.sectors

abbrev pub data_reads : Extent → (first count : ℕ) → Ask
data_reads v first count = Read (first / v.sectors) (run_at v first count)

abbrev pub data_writes : Extent → (first : ℕ) → List Sector → Ask
data_writes v first sectors = Write (first / v.sectors) (run_at v first (length sectors)) sectors

-- bytes as so many sectors, and back
unfoldable pub sectors_of : (count : ℕ) → List ℕ → List Sector
sectors_of zero bytes = []
sectors_of (suc count) bytes = take 512 bytes ∷ sectors_of count (drop 512 bytes)

abbrev pub bytes_of : List Sector → List ℕ
bytes_of [] = []
bytes_of (sector ∷ sectors) = sector ++ bytes_of sectors

-- a block is read and written whole
abbrev pub reads_block : Extent → (block : ℕ) → Ask
reads_block v block = data_reads v (8 * block) 8

abbrev pub writes_block : Extent → (block : ℕ) → List ℕ → Ask
writes_block v block bytes = data_writes v (8 * block) (sectors_of 8 bytes)

-- an ask is valid, and its sectors lie in a chunk of the volume
pub record AskIsInside (v : Extent) (ask : Ask) : Type 0 where
  pub valid : IsValid ask
  pub chunk : chunk_of ask < v.chunks
  pub sectors : fits_in (span_of ask) v.sectors ≡ true
