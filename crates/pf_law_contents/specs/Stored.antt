-- What the sectors of chunks hold for blocks of file data, and the bytes of files in it.
use Rattle.std.specs.Prelude.{◌≡◌, ℕ, ◌*◌, ◌/◌, ◌%◌, ◌<◌, ◌≤◌, ◌&&◌, ◌==◌, if◌then◌else◌, List, [], ◌∷◌, length, get_or, Some}
use Rattle.std.specs.List.{fold}
use Rattle.pf_base.specs.Asks.{Answers}
use Rattle.pf_base.specs.declared.asks.Ask.{Ask}
use Rattle.pf_base.specs.declared.asks.Ask.TheVariants.{Write, Read}
use Rattle.pf_base.specs.declared.asks.Reply.{Reply}
use Rattle.pf_base.specs.declared.asks.Reply.TheVariants.{Bytes}
use Rattle.pf_entry.specs.Ops.{Sector}
use Rattle.pf_volume.specs.Volumes.{Extent}
use Rattle.pf_tree_tables.specs.Names.{Path}
use Rattle.pf_tree_tables.specs.Tables.{Tables}
use Rattle.pf_tree.specs.Standing.{TablesStandFor}
use Rattle.pf_tree.specs.Trees.{Data, Tree, File, at}
use Rattle.pf_file_calls.specs.Blocks.{bytes_of}
use Rattle.pf_file_calls.specs.Moving.{moves_on}
use Rattle.pf_file_calls.specs.declared.answers.CallAnswer.{CallAnswer}
use Rattle.pf_file_calls.specs.declared.moving.Moved.{Moved}
use Rattle.pf_file_calls.specs.declared.moving.Moved.TheVariants.{Asks, Ends}
use Rattle.pf_law_plans.specs.Exchanges.{Exchange}
use Rattle.pf_law_contents.specs.Contents.{Contents}

-- of each chunk, the eight sectors from one on
abbrev pub Stored : Type 0
Stored = (chunk first : ℕ) → List Sector

-- the bytes of a block of the volume
abbrev pub block_bytes : Extent → Stored → (block : ℕ) → List ℕ
block_bytes v s block = bytes_of (s (8 * block / v.sectors) (8 * block % v.sectors))

-- after an ask was answered
abbrev pub stored_by : Stored → Ask → Stored
stored_by s (Write to span sectors) chunk first = if (chunk == to) && (first == span.first) then sectors else s chunk first
stored_by s (Read from span) chunk first = s chunk first

abbrev pub stored_after : Stored → List Exchange → Stored
stored_after s came = fold (λ s (e : Exchange). stored_by s e.0) s came

-- a read was answered what is stored
abbrev pub TellsStored : Stored → Ask → Reply → Type 0
TellsStored s (Read from span) (Bytes sectors) = sectors ≡ s from span.first
TellsStored s ask reply = Unit {0}

-- each read was, after all that was written before
abbrev pub TellStored : Stored → List Exchange → Type 0
TellStored s [] = Unit {0}
TellStored s (e ∷ came) = TellsStored s e.0 e.1 × TellStored (stored_by s e.0) came

-- a read of this place was answered what is stored there; of other places nothing is said
abbrev pub TellsStoredAt : (chunk first : ℕ) → Stored → Ask → Reply → Type 0
TellsStoredAt chunk first s (Read from span) (Bytes sectors) = from ≡ chunk → span.first ≡ first → sectors ≡ s chunk first
TellsStoredAt chunk first s ask reply = Unit {0}

-- each read of this place was, after all that was written there before
abbrev pub TellStoredAt : (chunk first : ℕ) → Stored → List Exchange → Type 0
TellStoredAt chunk first s [] = Unit {0}
TellStoredAt chunk first s (e ∷ came) = TellsStoredAt chunk first s e.0 e.1 × TellStoredAt chunk first (stored_by s e.0) came

-- The file data of a call, from a step on, went so: these asks were answered so, one after another, and then the call had this answer
abbrev pub GoesSo : Extent → Tables → Moved → List Exchange → CallAnswer → Type 0
GoesSo v tables (Ends is) [] answer = is ≡ answer
GoesSo v tables (Ends is) (e ∷ came) answer = ⊥
GoesSo v tables (Asks ask moving) [] answer = ⊥
GoesSo v tables (Asks ask moving) (e ∷ came) answer = (e.0 ≡ ask) × Answers ask e.1 × GoesSo v tables (moves_on v tables moving e.1) came answer

-- Up to a later step: these asks were answered so, and then that step comes next
abbrev pub DataGoesTo : Extent → Tables → (first : Moved) → List Exchange → (next : Moved) → Type 0
DataGoesTo v tables first [] next = first ≡ next
DataGoesTo v tables (Ends is) (e ∷ came) next = ⊥
DataGoesTo v tables (Asks ask moving) (e ∷ came) next = (e.0 ≡ ask) × Answers ask e.1 × DataGoesTo v tables (moves_on v tables moving e.1) came next

-- the byte at a place of a file that has these blocks
abbrev pub byte_at : Extent → Stored → (blocks : List ℕ) → (place : ℕ) → ℕ
byte_at v s blocks place = get_or (block_bytes v s (get_or blocks (place / 4096) 0)) (place % 4096) 0

-- Blocks are whole, and the bytes of each file of the tree are stored in its blocks, up to its end
pub record AreHeld (v : Extent) (s : Stored) (tree : Tree) (c : Contents) : Type 0 where
  pub whole : (block : ℕ) → length (block_bytes v s block) ≡ 4096
  pub bytes : (p : Path) (size : ℕ) (blocks : List ℕ) → at tree p ≡ Some (File size blocks) → (place : ℕ) → place < size → byte_at v s blocks place ≡ c p place
  pub past : (p : Path) (size : ℕ) (blocks : List ℕ) → at tree p ≡ Some (File size blocks) → (place : ℕ) → size ≤ place → c p place ≡ 0

-- tables stand for a tree, the bytes of whose files are stored
pub record AreSo (v : Extent) (d : Data) (t : Tables) (s : Stored) (tree : Tree) (c : Contents) : Type 0 where
  pub stands : TablesStandFor d t tree
  pub held : AreHeld v s tree c
