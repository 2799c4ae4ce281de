-- What asks for file data await.
use Rattle.std.proofs.Common.{◌≡◌, ℕ, suc, ◌/◌, ◌++◌, Bool, true, false, ◌==◌, nat_lt, if◌then◌else◌, replicate, List, [], ◌∷◌, length, Option, Some, None, slice_get, sym, ◌∙◌, append-nil, arith}
use Rattle.pf_base.specs.Asks.{Answers as AnswersAsk}
use Rattle.pf_base.specs.declared.asks.Reply.{Reply}
use Rattle.pf_base.specs.declared.asks.Reply.TheVariants.{Written, Bytes}
use Rattle.pf_base.specs.declared.calls.Call.TheVariants.{Write, Read, Truncate, Stat, List as Lists}
use Rattle.pf_entry.specs.Ops.{Sector}
use Rattle.pf_volume.specs.Volumes.{Extent}
use Rattle.pf_tree_tables.specs.declared.changes.Txn.{Txn}
use Rattle.pf_tree_tables.specs.Tables.{Tables}
use Rattle.pf_tree.specs.Trees.{Node, Dir, File, block_count}
use Rattle.pf_tree.specs.Plans.{found, node_at}
use Rattle.pf_tree.specs.Calls.{FileCall}
use Rattle.pf_txn.specs.Spelling.{CanSpell}
use Rattle.pf_file_calls.specs.Blocks.{reads_block, bytes_of}
use Rattle.pf_file_calls.specs.Filling.{end_of_fill, first_of_fill, is_new, read_end, bytes_wanted}
use Rattle.pf_file_calls.specs.Moving.{block_at, fills, fills_block, fills_file, gathers, data_moves, moves_on, names_of, stat_of, stores}
use Rattle.pf_file_calls.specs.declared.answers.CallAnswer.{CallAnswer}
use Rattle.pf_file_calls.specs.declared.answers.CallAnswer.TheVariants.{Fine, Names, Refused, Bytes as BytesRead}
use Rattle.pf_file_calls.specs.declared.answers.CallFault.{CallFault}
use Rattle.pf_file_calls.specs.declared.calls.Planned.{Planned}
use Rattle.pf_file_calls.specs.declared.calls.Planned.TheVariants.{Refuses, Proposes, Goes}
use Rattle.pf_file_calls.specs.declared.filling.Fill.{Fill}
use Rattle.pf_file_calls.specs.declared.moving.Moved.{Moved}
use Rattle.pf_file_calls.specs.declared.moving.Moved.TheVariants.{Asks as AsksFor, Ends}
use Rattle.pf_file_calls.specs.declared.moving.DataMoving.{DataMoving}
use Rattle.pf_file_calls.specs.declared.moving.DataMoving.TheVariants.{Fetches, Stores, Gathers}
use Rattle.pf_mount.specs.Filing.{AnswersMoving, CanPropose}

pub can_propose : (x : Planned) (y : Planned) → x ≡ y → ((txn : Txn) → y ≡ Proposes txn → CanSpell txn) → CanPropose x
can_propose (Refuses fault) y e law = tt
can_propose (Proposes txn) y e law = law txn (sym e)
can_propose (Goes step) y e law = tt

pub one_sector : (sectors : List Sector) (sector : Sector) → length sectors ≡ 1 → slice_get sectors 0 ≡ Some sector → sector ≡ bytes_of sectors
one_sector [] sector one e = cc
one_sector (s ∷ []) sector one e = let same : s ≡ sector = (cc) in sym same ∙ sym (append-nil s)
one_sector (s ∷ t ∷ ss) sector one e = absurd (omega (arith, one))

-- the ask of a step of file data is one whose answers it takes, and no call is refused there any more
abbrev pub AwaitsMoved : Moved → Type 0
AwaitsMoved (AsksFor ask moving) = (reply : Reply) → AnswersAsk ask reply → AnswersMoving moving reply
AwaitsMoved (Ends answer) = (fault : CallFault) → answer ≡ Refused fault → ⊥

fine_ends : AwaitsMoved (Ends Fine)
fine_ends fault e = cc

bytes_end : (bytes : List ℕ) → AwaitsMoved (Ends (BytesRead bytes))
bytes_end bytes fault e = cc

names_end : (names : List (List ℕ)) → AwaitsMoved (Ends (Names names))
names_end names fault e = cc

stat_ends : (node : Option Node) → AwaitsMoved (Ends (stat_of node))
stat_ends (Some (File size blocks)) fault e = cc
stat_ends (Some Dir) fault e = cc
stat_ends None fault e = cc

moved_if : (b : Bool) (x y : Moved) → AwaitsMoved x → AwaitsMoved y → AwaitsMoved (if b then x else y)
moved_if true x y of_x of_y = of_x
moved_if false x y of_x of_y = of_y

stores_awaits : (v : Extent) (block : ℕ) (f : Fill) (index : ℕ) (bytes : List ℕ) → AwaitsMoved (stores v block f index bytes)
stores_awaits v block f index bytes Written is = tt
stores_awaits v block f index bytes (Bytes sectors) is = absurd is

fetches_awaits : (v : Extent) (block : ℕ) (f : Fill) (index : ℕ) → AwaitsMoved (AsksFor (reads_block v block) (Fetches f index))
fetches_awaits v block f index Written is = absurd is
fetches_awaits v block f index (Bytes sectors) is = is

fills_awaits : (v : Extent) (tables : Tables) (f : Fill) (index : ℕ) → AwaitsMoved (fills v tables f index)
fills_awaits v tables f index =
    let block = block_at tables f.inode index in
    let made = moved_if (is_new f index) (stores v block f index (replicate 4096 0)) (AsksFor (reads_block v block) (Fetches f index)) (stores_awaits v block f index (replicate 4096 0)) (fetches_awaits v block f index) in
    moved_if (nat_lt index (end_of_fill f)) (fills_block v block f index) (Ends Fine) made fine_ends

gather_awaits : (v : Extent) (block inode offset to index : ℕ) (bytes : List ℕ) → AwaitsMoved (AsksFor (reads_block v block) (Gathers inode offset to index bytes))
gather_awaits v block inode offset to index bytes Written is = absurd is
gather_awaits v block inode offset to index bytes (Bytes sectors) is = is

gathers_awaits : (v : Extent) (tables : Tables) (inode offset to index : ℕ) (bytes : List ℕ) → AwaitsMoved (gathers v tables inode offset to index bytes)
gathers_awaits v tables inode offset to index bytes =
    moved_if (nat_lt index (block_count to)) (AsksFor (reads_block v (block_at tables inode index)) (Gathers inode offset to index bytes)) (Ends (BytesRead (bytes_wanted offset to bytes)))
    (gather_awaits v (block_at tables inode index) inode offset to index bytes) (bytes_end (bytes_wanted offset to bytes))

pub moves_awaits : (v : Extent) (tables : Tables) (size : ℕ) (call : FileCall) → AwaitsMoved (data_moves v tables size call)
moves_awaits v tables size (Write p offset byte count) =
    let f : Fill = record { inode = found tables p; size = size; start = offset; byte = byte; count = count } in
    moved_if (count == 0) (Ends Fine) (fills_file v tables f) fine_ends (fills_awaits v tables f (first_of_fill f))
moves_awaits v tables size (Truncate p to) =
    let f : Fill = record { inode = found tables p; size = size; start = to; byte = 0; count = 0 } in
    moved_if (nat_lt size to) (fills_file v tables f) (Ends Fine) (fills_awaits v tables f (first_of_fill f)) fine_ends
moves_awaits v tables size (Read p offset count) =
    let i = found tables p in
    let to = read_end size offset count in
    moved_if (nat_lt offset to) (gathers v tables i offset to (offset / 4096) []) (Ends (BytesRead [])) (gathers_awaits v tables i offset to (offset / 4096) []) (bytes_end [])
moves_awaits v tables size (Stat p) = stat_ends (node_at tables p)
moves_awaits v tables size (Lists p) = names_end (names_of tables p)
moves_awaits v tables size call = fine_ends

pub moves_on_awaits : (v : Extent) (tables : Tables) (moving : DataMoving) (reply : Reply) → AwaitsMoved (moves_on v tables moving reply)
moves_on_awaits v tables (Fetches f index) (Bytes sectors) = stores_awaits v (block_at tables f.inode index) f index (bytes_of sectors)
moves_on_awaits v tables (Stores f index) Written = fills_awaits v tables f (suc index)
moves_on_awaits v tables (Gathers inode offset to index bytes) (Bytes sectors) = gathers_awaits v tables inode offset to (suc index) (bytes ++ bytes_of sectors)
moves_on_awaits v tables moving reply = fine_ends
