-- What was asked and answered for the data of files, and the blocks of a file among it.
use Rattle.std.specs.Prelude.{◌≡◌, ℕ, suc, ◌-◌, ◌/◌, nat_lt, if◌then◌else◌, List, [], ◌∷◌, ◌++◌, length}
use Rattle.std.specs.List.{flat_map}
use Rattle.pf_base.specs.declared.asks.Ask.{Ask}
use Rattle.pf_base.specs.declared.asks.Reply.{Reply}
use Rattle.pf_base.specs.declared.asks.Reply.TheVariants.{Bytes}
use Rattle.pf_entry.specs.Ops.{Sector}
use Rattle.pf_volume.specs.Volumes.{Extent}
use Rattle.pf_tree_tables.specs.Tables.{Tables}
use Rattle.pf_tree.specs.Trees.{block_count}
use Rattle.pf_file_calls.specs.Blocks.{bytes_of, reads_block}
use Rattle.pf_file_calls.specs.Filling.{bytes_wanted}
use Rattle.pf_file_calls.specs.Moving.{block_at}

-- an ask with its reply
abbrev pub Exchange : Type 0
Exchange = Ask × Reply

-- Reads of a file

-- these blocks of the file, from the one of an index on, were asked for and came
abbrev pub reads_of : Extent → Tables → (inode index : ℕ) → List (List Sector) → List Exchange
reads_of v tables inode index [] = []
reads_of v tables inode index (block ∷ blocks) = (reads_block v (block_at tables inode index), Bytes block) ∷ reads_of v tables inode (suc index) blocks

-- how many blocks hold the bytes from one place of a file up to another
abbrev pub blocks_between : (offset to : ℕ) → ℕ
blocks_between offset to = if nat_lt offset to then block_count to - offset / 4096 else 0

-- What came last are the blocks of the file that hold its bytes from one place up to another, one after another; and these bytes are theirs
pub record AreBytesOf (v : Extent) (tables : Tables) (came : List Exchange) (inode offset to : ℕ) (bytes : List ℕ) : Type 0 where
  pub blocks : List (List Sector)
  pub earlier : List Exchange
  pub last : came ≡ earlier ++ reads_of v tables inode (offset / 4096) blocks
  pub all : length blocks ≡ blocks_between offset to
  pub are : bytes ≡ bytes_wanted offset to (flat_map bytes_of blocks)
