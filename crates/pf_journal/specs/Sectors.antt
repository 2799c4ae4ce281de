-- The blocks of a journal as sectors, numbers with the highest byte first.
use Rattle.std.specs.Prelude.{◌≡◌, ℕ, ◌+◌, ◌^◌, ◌≤◌, Bool, ◌&&◌, ◌==◌, nat_lt, nat_le, if◌then◌else◌, List, ◌++◌, length, slice_range, Option, Some, None}
use Rattle.std.specs.Int.{w16, w64, to_be_bytes, from_be_bytes}
use Rattle.std.specs.Str.{bytes_eq}
use Rattle.pf_base.specs.Values.{zero_filled}
use Rattle.pf_entry.specs.Ops.{Sector}
use Rattle.pf_paxos.specs.declared.block.Block.{Block}
use Rattle.pf_paxos.specs.Blocks.{IsBlock, zero_block}

-- mbal, bal, and how many bytes the value has
unfoldable pub head_bytes : Block → List ℕ
head_bytes b = to_be_bytes w64 b.mbal ++ (to_be_bytes w64 b.bal ++ to_be_bytes w16 (length b.value))

-- the value behind them, and zeros up to the end of the sector
unfoldable pub block_bytes : Block → Sector
block_bytes b = zero_filled 512 (head_bytes b ++ b.value)

-- a block that has a spelling
pub record HasSpelling (b : Block) : Type 0 where
  pub form : IsBlock b
  pub few : length b.value ≤ 400

-- the sector is the spelling of the block
pub record IsBlockSpelling (b : Block) (sector : Sector) : Type 0 where
  pub has : HasSpelling b
  pub bytes : block_bytes b ≡ sector

-- what is read of a sector: the block whose spelling it is, and nothing exactly where it is the spelling of none
abbrev pub ReadsBlock : Sector → Option Block → Type 0
ReadsBlock sector (Some b) = IsBlockSpelling b sector
ReadsBlock sector None = (b : Block) → IsBlockSpelling b sector → ⊥

-- what the fields of a sector say, whether or not it is the spelling of a block
unfoldable pub fields_of : Sector → Block
fields_of sector = record {
  mbal = from_be_bytes w64 (slice_range sector 0 8);
  bal = from_be_bytes w64 (slice_range sector 8 16);
  value = slice_range sector 18 (18 + from_be_bytes w16 (slice_range sector 16 18));
}

-- whether a block has a spelling
unfoldable pub has_spelling : Block → Bool
has_spelling b =
    nat_lt b.mbal (2 ^ 62) && nat_lt b.bal (2 ^ 62) && nat_le (length b.value) 400
    && (if b.bal == 0 then length b.value == 0 else nat_lt 0 (length b.value))

abbrev pub if_spelled : Block → Sector → Block
if_spelled b sector = if has_spelling b && bytes_eq (block_bytes b) sector then b else zero_block

-- the block of a sector, and the block of zeros where the sector is the spelling of none
unfoldable pub block_in : Sector → Block
block_in sector = if_spelled (fields_of sector) sector
