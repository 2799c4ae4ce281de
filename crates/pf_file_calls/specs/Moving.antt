-- What follows when the metadata of a call stand: file data go from block to block, one ask after another, and the call ends.
use Rattle.std.specs.Prelude.{◌≡◌, ℕ, suc, ◌-◌, ◌/◌, ◌==◌, nat_lt, min, if◌then◌else◌, List, [], ◌++◌, length, map, replicate, Option, Some}
use Rattle.pf_base.specs.declared.asks.Reply.{Reply}
use Rattle.pf_base.specs.declared.asks.Reply.TheVariants.{Written, Bytes}
use Rattle.pf_base.specs.declared.calls.Call.TheVariants.{Write, Read, Truncate, Stat, List as Lists}
use Rattle.pf_volume.specs.Volumes.{Extent, size_of}
use Rattle.pf_tree.specs.Calls.{FileCall}
use Rattle.pf_tree_tables.specs.declared.tables.DirectoryEntry.{DirectoryEntry}
use Rattle.pf_tree_tables.specs.Names.{Path}
use Rattle.pf_tree.specs.Trees.{Node, File, block_count}
use Rattle.pf_tree_tables.specs.Tables.{Tables, block_of, names_in}
use Rattle.pf_tree.specs.Plans.{found, node_at}
use Rattle.pf_file_calls.specs.declared.answers.CallAnswer.{CallAnswer}
use Rattle.pf_file_calls.specs.declared.answers.CallAnswer.TheVariants.{Fine, Bytes as BytesRead, Directory, File as OfFile, Names}
use Rattle.pf_file_calls.specs.declared.filling.Fill.{Fill}
use Rattle.pf_file_calls.specs.declared.moving.DataMoving.{DataMoving}
use Rattle.pf_file_calls.specs.declared.moving.DataMoving.TheVariants.{Fetches, Stores, Gathers}
use Rattle.pf_file_calls.specs.declared.moving.Moved.{Moved}
use Rattle.pf_file_calls.specs.declared.moving.Moved.TheVariants.{Asks, Ends}
use Rattle.pf_file_calls.specs.Blocks.{AskIsInside, reads_block, writes_block, bytes_of}
use Rattle.pf_file_calls.specs.Filling.{filled_block, first_of_fill, end_of_fill, is_new, read_end, bytes_wanted}

-- A call's ask for file data is a read of an old block that is to be filled (`Fetches`), a write of a block (`Stores`), or a read
-- of a block for a read of the file from one place up to another (`Gathers`, with the bytes of the blocks before it). Each names the
-- block by its index in the file.

-- tables of a volume: a place for each block of eight sectors
abbrev pub IsTreeOf : Extent → Tables → Type 0
IsTreeOf v tables = length tables.tags ≡ size_of v / 8

-- a read is answered with a whole block
abbrev pub HasBlock : Reply → Type 0
HasBlock Written = Unit {0}
HasBlock (Bytes sectors) = length sectors ≡ 8

-- The block of an index of the file with this inode. Where tables that stand for no tree have none, it is the last one of the volume: so
-- each ask lies in the volume, whatever was decided
abbrev pub block_at : Tables → (inode index : ℕ) → ℕ
block_at tables inode index = min (block_of tables.tags inode index) (length tables.tags - 1)

-- the filled bytes of a block are written
abbrev pub stores : Extent → (block : ℕ) → Fill → (index : ℕ) → (bytes : List ℕ) → Moved
stores v block f index bytes = Asks (writes_block v block (filled_block f index bytes)) (Stores f index)

abbrev pub fills_block : Extent → (block : ℕ) → Fill → (index : ℕ) → Moved
fills_block v block f index =
    if is_new f index
    then stores v block f index (replicate 4096 0)
    else Asks (reads_block v block) (Fetches f index)

-- a new block is written whole; an old one is read before
abbrev pub fills : Extent → Tables → Fill → (index : ℕ) → Moved
fills v tables f index = if nat_lt index (end_of_fill f) then fills_block v (block_at tables f.inode index) f index else Ends Fine

abbrev pub gathers : Extent → Tables → (inode offset to index : ℕ) → (bytes : List ℕ) → Moved
gathers v tables inode offset to index bytes =
    if nat_lt index (block_count to)
    then Asks (reads_block v (block_at tables inode index)) (Gathers inode offset to index bytes)
    else Ends (BytesRead (bytes_wanted offset to bytes))

-- a stat tells what stands at the path
abbrev pub stat_of : Option Node → CallAnswer
stat_of (Some (File size blocks)) = OfFile size
stat_of _ = Directory

-- a list tells the names in the directory, which stand there in the order of their bytes
abbrev pub names_of : Tables → Path → List (List ℕ)
names_of tables p = map (λ (row : DirectoryEntry). row.name) (names_in tables.entries (found tables p))

abbrev pub fills_file : Extent → Tables → Fill → Moved
fills_file v tables f = fills v tables f (first_of_fill f)

abbrev pub reads_file : Extent → Tables → (inode offset to : ℕ) → Moved
reads_file v tables inode offset to =
    if nat_lt offset to then gathers v tables inode offset to (offset / 4096) [] else Ends (BytesRead [])

-- on tables with the call's changes, of a file that had this size before
abbrev pub data_moves : Extent → Tables → (size : ℕ) → FileCall → Moved
data_moves v tables size (Write p offset byte count) =
    if count == 0
    then Ends Fine
    else fills_file v tables (record { inode = found tables p; size = size; start = offset; byte = byte; count = count })
data_moves v tables size (Truncate p to) =
    if nat_lt size to
    then fills_file v tables (record { inode = found tables p; size = size; start = to; byte = 0; count = 0 })
    else Ends Fine
data_moves v tables size (Read p offset count) = reads_file v tables (found tables p) offset (read_end size offset count)
data_moves v tables size (Stat p) = Ends (stat_of (node_at tables p))
data_moves v tables size (Lists p) = Ends (Names (names_of tables p))
data_moves v tables size call = Ends Fine

-- the ask is answered
abbrev pub moves_on : Extent → Tables → DataMoving → Reply → Moved
moves_on v tables (Fetches f index) (Bytes sectors) =
    stores v (block_at tables f.inode index) f index (bytes_of sectors)
moves_on v tables (Stores f index) Written = fills v tables f (suc index)
moves_on v tables (Gathers inode offset to index bytes) (Bytes sectors) = gathers v tables inode offset to (suc index) (bytes ++ bytes_of sectors)
moves_on v tables moving reply = Ends Fine

-- what is asked next is valid, and lies in a chunk of the volume
abbrev pub AsksInside : Extent → Moved → Type 0
AsksInside v (Asks ask moving) = AskIsInside v ask
AsksInside v (Ends answer) = Unit {0}
