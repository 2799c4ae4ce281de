-- Whatever is asked for file data lies in the volume.
use Rattle.std.proofs.Common.{ℕ, suc, ◌-◌, ◌/◌, ◌<◌, Bool, true, false, List, [], length, replicate, arith, nat_lt}
use Rattle.std.specs.Prelude.{◌==◌, ◌++◌, if◌then◌else◌}
use Rattle.std.proofs.Math.Nat.{min-le_right}
use Rattle.pf_base.specs.declared.asks.Reply.{Reply}
use Rattle.pf_base.specs.declared.asks.Reply.TheVariants.{Written, Bytes}
use Rattle.pf_base.specs.declared.calls.Call.TheVariants.{Mkdir, Create, Write, Read, Truncate, Rename, Unlink, Rmdir, Stat, List as Lists}
use Rattle.pf_volume.specs.Volumes.{Extent, IsVolume, size_of}
use Rattle.pf_tree.specs.Calls.{FileCall}
use Rattle.pf_tree_tables.specs.Tables.{Tables, block_of}
use Rattle.pf_tree.specs.Plans.{found}
use Rattle.pf_tree.specs.Trees.{block_count}
use Rattle.pf_file_calls.specs.declared.answers.CallAnswer.TheVariants.{Fine, Bytes as BytesRead}
use Rattle.pf_file_calls.specs.declared.filling.Fill.{Fill}
use Rattle.pf_file_calls.specs.declared.moving.DataMoving.{DataMoving}
use Rattle.pf_file_calls.specs.declared.moving.DataMoving.TheVariants.{Fetches, Stores, Gathers}
use Rattle.pf_file_calls.specs.declared.moving.Moved.{Moved}
use Rattle.pf_file_calls.specs.declared.moving.Moved.TheVariants.{Asks, Ends}
use Rattle.pf_file_calls.specs.Blocks.{AskIsInside, reads_block, writes_block, bytes_of}
use Rattle.pf_file_calls.specs.Filling.{filled_block, first_of_fill, end_of_fill, is_new, read_end, bytes_wanted}
use Rattle.pf_file_calls.specs.Moving.{AsksInside, IsTreeOf, block_at, stores, fills_block, fills, gathers, fills_file, reads_file, data_moves, moves_on}
use Rattle.pf_file_calls.proofs.BlockChunks.{some_blocks}

either : (P : Moved → Type 0) (b : Bool) (x y : Moved) → P x → P y → P (if b then x else y)
either P true x y px py = px
either P false x y px py = py

-- the block lies in the volume
pub block_low : (v : Extent) (tables : Tables) → IsVolume v → IsTreeOf v tables → (inode index : ℕ) → block_at tables inode index < size_of v / 8
block_low v tables is form inode index =
    let some = some_blocks v is in
    let last = min-le_right (block_of tables.tags inode index) (length tables.tags - 1) in
    omega (arith, form, some, last)

module _ (v : Extent) (tables : Tables) (is : IsVolume v) (form : IsTreeOf v tables)
    (reads : (v : Extent) (block : ℕ) → IsVolume v → block < size_of v / 8 → AskIsInside v (reads_block v block))
    (writes : (v : Extent) (block : ℕ) (bytes : List ℕ) → IsVolume v → block < size_of v / 8 → AskIsInside v (writes_block v block bytes)) where
  stores_inside : (block : ℕ) (f : Fill) (index : ℕ) (bytes : List ℕ) → block < size_of v / 8 → AsksInside v (stores v block f index bytes)
  stores_inside block f index bytes low = writes v block (filled_block f index bytes) is low

  block_inside : (block : ℕ) (f : Fill) (index : ℕ) → block < size_of v / 8 → AsksInside v (fills_block v block f index)
  block_inside block f index low =
      either (AsksInside v) (is_new f index) (stores v block f index (replicate 4096 0)) (Asks (reads_block v block) (Fetches f index))
      (stores_inside block f index (replicate 4096 0) low) (reads v block is low)

  fills_inside : (f : Fill) (index : ℕ) → AsksInside v (fills v tables f index)
  fills_inside f index =
      either (AsksInside v) (nat_lt index (end_of_fill f)) (fills_block v (block_at tables f.inode index) f index) (Ends Fine)
      (block_inside (block_at tables f.inode index) f index (block_low v tables is form f.inode index)) tt

  gathers_inside : (inode offset to index : ℕ) (bytes : List ℕ) → AsksInside v (gathers v tables inode offset to index bytes)
  gathers_inside inode offset to index bytes =
      either (AsksInside v) (nat_lt index (block_count to)) (Asks (reads_block v (block_at tables inode index)) (Gathers inode offset to index bytes)) (Ends (BytesRead (bytes_wanted offset to bytes)))
      (reads v (block_at tables inode index) is (block_low v tables is form inode index)) tt

  file_inside : (inode offset to : ℕ) → AsksInside v (reads_file v tables inode offset to)
  file_inside inode offset to =
      either (AsksInside v) (nat_lt offset to) (gathers v tables inode offset to (offset / 4096) []) (Ends (BytesRead []))
      (gathers_inside inode offset to (offset / 4096) []) tt

  pub first_inside : (size : ℕ) (call : FileCall) → AsksInside v (data_moves v tables size call)
  first_inside size (Write p offset byte count) =
      let f : Fill = record { inode = found tables p; size = size; start = offset; byte = byte; count = count } in
      either (AsksInside v) (count == 0) (Ends Fine) (fills_file v tables f) tt (fills_inside f (first_of_fill f))
  first_inside size (Truncate p to) =
      let f : Fill = record { inode = found tables p; size = size; start = to; byte = 0; count = 0 } in
      either (AsksInside v) (nat_lt size to) (fills_file v tables f) (Ends Fine) (fills_inside f (first_of_fill f)) tt
  first_inside size (Read p offset count) = file_inside (found tables p) offset (read_end size offset count)
  first_inside size (Mkdir p) = tt
  first_inside size (Create p) = tt
  first_inside size (Rename from to) = tt
  first_inside size (Unlink p) = tt
  first_inside size (Rmdir p) = tt
  first_inside size (Stat p) = tt
  first_inside size (Lists p) = tt

  pub next_inside : (moving : DataMoving) (reply : Reply) → AsksInside v (moves_on v tables moving reply)
  next_inside (Fetches f index) (Bytes sectors) = stores_inside (block_at tables f.inode index) f index (bytes_of sectors) (block_low v tables is form f.inode index)
  next_inside (Fetches f index) Written = tt
  next_inside (Stores f index) Written = fills_inside f (suc index)
  next_inside (Stores f index) (Bytes sectors) = tt
  next_inside (Gathers inode offset to index bytes) (Bytes sectors) = gathers_inside inode offset to (suc index) (bytes ++ bytes_of sectors)
  next_inside (Gathers inode offset to index bytes) Written = tt
