-- Calls that go one at a time, each to its end before the next one begins, of whatever mounts.
use Rattle.std.specs.Prelude.{◌≡◌, ℕ, List, [], ◌∷◌, replicate, Option, Some, None}
use Rattle.std.specs.List.{filter_map, flat_map, fold}
use Rattle.pf_entry.specs.Lists.{Every}
use Rattle.pf_entry.specs.Ops.{zero_sector}
use Rattle.pf_volume.specs.Volumes.{Extent}
use Rattle.pf_tree_tables.specs.Names.{Path}
use Rattle.pf_tree_tables.specs.Tables.{Tables, applied}
use Rattle.pf_tree_tables.specs.declared.changes.Txn.{Txn}
use Rattle.pf_tree.specs.Standing.{IsCall}
use Rattle.pf_tree.specs.Trees.{Data, Tree, at, new_tree, size_at}
use Rattle.pf_tree.specs.Calls.{FileCall}
use Rattle.pf_file_calls.specs.Calls.{planned, size_in}
use Rattle.pf_file_calls.specs.Filling.{read_end}
use Rattle.pf_file_calls.specs.Moving.{data_moves}
use Rattle.pf_file_calls.specs.declared.answers.CallAnswer.{CallAnswer}
use Rattle.pf_file_calls.specs.declared.answers.CallAnswer.TheVariants.{Bytes as BytesRead, Refused}
use Rattle.pf_file_calls.specs.declared.answers.CallFault.{CallFault}
use Rattle.pf_file_calls.specs.declared.answers.CallFault.TheVariants.{JournalFull}
use Rattle.pf_file_calls.specs.declared.calls.Pending.{Pending}
use Rattle.pf_file_calls.specs.declared.calls.Planned.TheVariants.{Refuses, Proposes, Goes}
use Rattle.pf_file_calls.specs.declared.moving.Moved.{Moved}
use Rattle.pf_law_plans.specs.Exchanges.{Exchange}
use Rattle.pf_law_plans.specs.Numbered.{tree_with}
use Rattle.pf_law_contents.specs.Contents.{Contents, bytes_between}
use Rattle.pf_law_contents.specs.Stored.{GoesSo, Stored}

-- A call of mount m on tables: it is refused, by the tables or since the journal is full, changes nothing and asks for no data; or it changes no
-- tables, and its file data go as they are planned; or its changes are applied, and then its file data go. It asked this and was answered so
pub data CallAsks (v : Extent) (d : Data) (m : ℕ) (p : Pending) (t : Tables) : (after : Tables) (came : List Exchange) → CallAnswer → Type 0 where
  IsRefused : (fault : CallFault) → planned m v d t p ≡ Refuses fault → CallAsks v d m p t t [] (Refused fault)
  HasNoRoom : (txn : Txn) → planned m v d t p ≡ Proposes txn → CallAsks v d m p t t [] (Refused JournalFull)
  IsLookedUp : (step : Moved) (came : List Exchange) (answer : CallAnswer) → planned m v d t p ≡ Goes step → GoesSo v t step came answer
      → CallAsks v d m p t t came answer
  IsDone : (txn : Txn) (came : List Exchange) (answer : CallAnswer) → planned m v d t p ≡ Proposes txn
      → GoesSo v (applied t txn.changes) (data_moves v (applied t txn.changes) (size_in t p.call) p.call) came answer
      → CallAsks v d m p t (applied t txn.changes) came answer

-- a call that has ended
pub record Went : Type 0 where
  pub mount : ℕ
  pub call : Pending
  pub came : List Exchange
  pub answer : CallAnswer

-- these calls went one after another
abbrev pub GoOneByOne : Extent → Data → (t : Tables) → List Went → (after : Tables) → Type 0
GoOneByOne v d t [] after = t ≡ after
GoOneByOne v d t (went ∷ more) after = (next : Tables) × CallAsks v d went.mount went.call t next went.came went.answer × GoOneByOne v d next more after

-- all that was asked and answered for them
abbrev pub exchanges_of : List Went → List Exchange
exchanges_of wents = flat_map (λ (went : Went). went.came) wents

-- each is a call that can be made: `/` is no directory that can be removed
abbrev pub AreCalls : List Went → Type 0
AreCalls wents = Every (λ (went : Went). IsCall went.call.call) wents

-- those of them that were not refused
abbrev pub call_done : FileCall → CallAnswer → Option FileCall
call_done call (Refused fault) = None
call_done call answer = Some call

abbrev pub done_of : List Went → List FileCall
done_of wents = filter_map (λ (went : Went). call_done went.call.call went.answer) wents

-- the user's tree after calls that were not refused
abbrev pub tree_of : Data → List FileCall → Tree
tree_of d calls = fold (λ tree call. tree_with d tree (Some call)) new_tree calls

-- on a new volume all sectors are zeros
abbrev pub all_zeros : Stored
all_zeros chunk first = replicate 8 zero_sector

abbrev pub IsRefusal : CallAnswer → Type 0
IsRefusal answer = (fault : CallFault) × (answer ≡ Refused fault)

-- a read of a file that was not refused gives these contents, from one place of the file up to another or to its end in the tree
abbrev pub IsReadOf : Tree → Contents → Path → (offset count : ℕ) → CallAnswer → Type 0
IsReadOf tree c p offset count answer = answer ≡ BytesRead (bytes_between c p offset (read_end (size_at (at tree p)) offset count))
