-- Calls that go beside each other: which of them touch a block of file data, and the order of what they leave in files.
use Rattle.std.specs.Prelude.{◌≡◌, ◌⊎◌, ℕ, zero, suc, ◌<◌, ◌≤◌, Bool, not, ◌&&◌, ◌==◌, nat_lt, if◌then◌else◌, List, [], ◌∷◌, ◌++◌, length, take, Option, Some, None, slice_get}
use Rattle.std.specs.List.{Contains, list_any}
use Rattle.std.specs.Option.{option_and_then, option_to_list}
use Rattle.pf_volume.specs.Volumes.{Extent}
use Rattle.pf_tree_tables.specs.Names.{Path}
use Rattle.pf_tree_tables.specs.Tables.{Tables}
use Rattle.pf_tree_tables.specs.declared.changes.Txn.{Txn}
use Rattle.pf_tree.specs.Plans.{found}
use Rattle.pf_tree.specs.Trees.{File, Tree, at}
use Rattle.pf_tree.specs.Calls.{FileCall}
use Rattle.pf_base.specs.declared.calls.Call.TheVariants.{Read, Write, Truncate}
use Rattle.pf_txn.specs.Reading.{txn_in}
use Rattle.pf_file_calls.specs.Blocks.{writes_block}
use Rattle.pf_file_calls.specs.Calls.{is_txn_of, size_in}
use Rattle.pf_file_calls.specs.Filling.{end_of_fill, first_of_fill}
use Rattle.pf_file_calls.specs.Moving.{block_at}
use Rattle.pf_file_calls.specs.declared.answers.CallAnswer.{CallAnswer}
use Rattle.pf_file_calls.specs.declared.calls.Pending.{Pending}
use Rattle.pf_file_calls.specs.declared.filling.Fill.{Fill}
use Rattle.pf_law_plans.specs.Named.{call_in}
use Rattle.pf_law_plans.specs.Numbered.{call_numbered}
use Rattle.pf_law_contents.specs.Contents.{contents_after}
use Rattle.pf_law_contents.specs.Going.{IsReadOf, IsRefusal}
use Rattle.pf_journal.specs.declared.layouts.Layout.{Layout}
use Rattle.pf_mount_errands.specs.Positions.{anchors_of}
use Rattle.pf_mount.specs.declared.work.MountNext.TheVariants.{Done}
use Rattle.pf_mount.specs.Mounts.{ask_at}
use Rattle.pf_law_calls.specs.Since.{called}
use Rattle.pf_law_calls.specs.Answering.{next_by}
use Rattle.pf_law_calls.specs.Lives.{Asks, Begins, Input, Life, MountTold, all_opened, lived, lives, mount_after, tables_from}
use Rattle.pf_law_calls.specs.Trees.{calls_of, tree_after}
use Rattle.pf_law_files.specs.Calls.{done_by}

-- Which blocks a call touches

-- the blocks that a call fills in a file that had this size, by the tables after its changes
abbrev pub fill_of : Tables → (size : ℕ) → FileCall → Option Fill
fill_of t size (Write p offset byte count) =
    if count == 0 then None else Some (record { inode = found t p; size = size; start = offset; byte = byte; count = count })
fill_of t size (Truncate p to) = if nat_lt size to then Some (record { inode = found t p; size = size; start = to; byte = 0; count = 0 }) else None
fill_of t size call = None

-- the block is that of an index that is filled
pub record IsFilled (t : Tables) (block : ℕ) (f : Fill) : Type 0 where
  pub index : ℕ
  pub low : first_of_fill f ≤ index
  pub high : index < end_of_fill f
  pub is : block ≡ block_at t f.inode index

-- the call of mount m with this number has asked to write the block
pub record HasAsked (layout : Layout) (v : Extent) (told : List MountTold) (block m number : ℕ) : Type 0 where
  pub before : List MountTold
  pub after : List MountTold
  pub port : ℕ
  pub bytes : List ℕ
  pub told_so : told ≡ before ++ record { mount = m; input = Asks port } ∷ after
  pub data_port : port ≡ anchors_of (lives layout v before m).mount.position
  pub asks : ask_at (lives layout v before m).mount port ≡ Some (writes_block v block bytes)
  pub its : length (calls_of before m) ≡ number

-- its transaction stands in the list below this position, and wants the block filled, whether it ever asked to or not
pub record IsToFill (v : Extent) (told : List MountTold) (list : List (List ℕ)) (upto block m number : ℕ) : Type 0 where
  pub position : ℕ
  pub low : position < upto
  pub value : List ℕ
  pub there : slice_get list position ≡ Some value
  pub txn : Txn
  pub spells : txn_in value ≡ Some txn
  pub mount_is : txn.mount ≡ m
  pub number_is : txn.number ≡ number
  pub call : FileCall
  pub named : call_numbered (calls_of told m) number ≡ Some call
  pub fill : Fill
  pub fills : fill_of (tables_from v (take (suc position) list)) (size_in (tables_from v (take position list)) call) call ≡ Some fill
  pub filled : IsFilled (tables_from v (take (suc position) list)) block fill

abbrev pub Touches : Layout → Extent → List MountTold → (list : List (List ℕ)) → (upto block m number : ℕ) → Type 0
Touches layout v told list upto block m number = HasAsked layout v told block m number ⊎ IsToFill v told list upto block m number

-- a call ended before another one began
pub record EndedBefore (layout : Layout) (v : Extent) (told : List MountTold) (m number n other : ℕ) : Type 0 where
  pub first : List MountTold
  pub input : Input
  pub mid : List MountTold
  pub call : FileCall
  pub last : List MountTold
  pub answer : CallAnswer
  pub so : told ≡ (first ++ record { mount = m; input = input } ∷ mid) ++ record { mount = n; input = Begins call } ∷ last
  pub ends : next_by (lives layout v first m).mount input ≡ Some (Done answer)
  pub number_is : length (calls_of (first ++ record { mount = m; input = input } ∷ []) m) ≡ number
  pub other_is : suc (length (calls_of (first ++ record { mount = m; input = input } ∷ mid) n)) ≡ other

-- Of the calls that touch the block, each two are apart in time; and each had ended before this read began
pub record CallsAreApart (layout : Layout) (v : Extent) (told : List MountTold) (list : List (List ℕ)) (upto block m number : ℕ) : Type 0 where
  pub each : (a i b j : ℕ) → Touches layout v told list upto block a i → Touches layout v told list upto block b j
      → ((a ≡ b) × (i ≡ j)) ⊎ EndedBefore layout v told a i b j ⊎ EndedBefore layout v told b j a i
  pub before : (a i : ℕ) → Touches layout v told list upto block a i → EndedBefore layout v told a i m number

-- The order of what calls leave

-- no transaction of the list is of this call
abbrev pub has_no_call : (list : List (List ℕ)) → (m number : ℕ) → Bool
has_no_call list m number = not (list_any (λ value. is_txn_of m number (txn_in value)) list)

-- the call that ends with this input at a mount that stands at the position then, without a transaction, if it is not refused
abbrev pub in_place : (list : List (List ℕ)) → (position : ℕ) → (ℕ → Life) → MountTold → List FileCall
in_place list position lives t =
    let x = (lives t.mount).mount in let y = mount_after x t.input in
    if (y.upto == position) && has_no_call list t.mount y.files.calls then option_to_list (done_by (called x t.input) (next_by x t.input)) else []

abbrev pub in_place_from : (list : List (List ℕ)) → (position : ℕ) → (ℕ → Life) → List MountTold → List FileCall
in_place_from list position lives [] = []
in_place_from list position lives (t ∷ told) = in_place list position lives t ++ in_place_from list position (lived lives t) told

-- the call that the value at this position names
abbrev pub calls_named_at : List MountTold → (list : List (List ℕ)) → (position : ℕ) → List FileCall
calls_named_at told list position = option_to_list (option_and_then (call_in (calls_of told)) (slice_get list position))

-- The calls up to a position of the list: at each position those that ended there without a transaction, in the order in which they ended, and
-- then the one whose transaction stands there
abbrev pub calls_below : Layout → Extent → List MountTold → (list : List (List ℕ)) → (position : ℕ) → List FileCall
calls_below layout v told list zero = []
calls_below layout v told list (suc position) =
    calls_below layout v told list position ++ (in_place_from list position (all_opened layout v) told ++ calls_named_at told list position)

abbrev pub calls_up_to : Layout → Extent → List MountTold → (list : List (List ℕ)) → (position : ℕ) → List FileCall
calls_up_to layout v told list position = calls_below layout v told list position ++ in_place_from list position (all_opened layout v) told

-- of each block of the file that the tree has there, the calls that touch it are apart in time, and had ended before this call began
abbrev pub IsFileApart : Layout → Extent → List MountTold → (list : List (List ℕ)) → Tree → Path → (upto m number : ℕ) → Type 0
IsFileApart layout v told list tree p upto m number =
    (size : ℕ) (blocks : List ℕ) (block : ℕ) → at tree p ≡ Some (File size blocks) → Contains blocks block
    → CallsAreApart layout v told list upto block m number

-- The mount's call, which ended last, was a read of this file. Of each block of the file, as the tree at the mount's position has it, the calls
-- that touch it are apart in time and had ended before the read began: then it was refused, or gives the file's contents after the calls up to
-- this position
abbrev pub GivesContentsInOrder : Layout → Extent → (list : List (List ℕ)) → (told now : List MountTold) → (m : ℕ) → Path → (offset count : ℕ) → CallAnswer
    → Type 0
GivesContentsInOrder layout v list told now m p offset count answer =
    let x = (lives layout v now m).mount in let tree = tree_after layout v told (take x.upto list) in
    IsFileApart layout v now list tree p x.upto m x.files.calls
    → IsRefusal answer ⊎ IsReadOf tree (contents_after (calls_up_to layout v now list x.upto)) p offset count answer

-- The law of files: when a read of a file ends, it gives the file's contents in the order of the list
abbrev pub ReadsGiveContentsInOrder : Layout → Extent → (list : List (List ℕ)) → List MountTold → Type 0
ReadsGiveContentsInOrder layout v list told =
    (before after : List MountTold) (m : ℕ) (input : Input) (call : Pending) (p : Path) (offset count : ℕ) (answer : CallAnswer)
    → told ≡ before ++ record { mount = m; input = input } ∷ after
    → next_by (lives layout v before m).mount input ≡ Some (Done answer)
    → called (lives layout v before m).mount input ≡ Some call
    → call.call ≡ Read p offset count
    → GivesContentsInOrder layout v list told (before ++ record { mount = m; input = input } ∷ []) m p offset count answer
