-- What the answer of a file call says of the user's tree.
use Rattle.std.specs.Prelude.{◌≡◌, ◌⊎◌, ℕ, suc, List, ◌∷◌, take, Some, None, is_some, slice_get}
use Rattle.std.specs.List.{list_any}
use Rattle.std.specs.Str.{bytes_eq}
use Rattle.pf_volume.specs.Volumes.{Extent}
use Rattle.pf_tree_tables.specs.Names.{NamesAreInOrder, Name, Path}
use Rattle.pf_tree_tables.specs.Tables.{Tables}
use Rattle.pf_tree_tables.specs.declared.changes.Txn.{Txn}
use Rattle.pf_tree.specs.Plans.{found}
use Rattle.pf_tree.specs.Trees.{Data, Tree, at, changed, refusal, size_at, tree_sight}
use Rattle.pf_tree.specs.Calls.{FileCall}
use Rattle.pf_base.specs.declared.calls.Call.TheVariants.{Read, Stat, List as Lists}
use Rattle.pf_txn.specs.Reading.{txn_in}
use Rattle.pf_file_calls.specs.Faults.{call_fault_of}
use Rattle.pf_file_calls.specs.Filling.{read_end}
use Rattle.pf_file_calls.specs.Moving.{stat_of}
use Rattle.pf_file_calls.specs.declared.answers.CallAnswer.{CallAnswer}
use Rattle.pf_file_calls.specs.declared.answers.CallAnswer.TheVariants.{Fine, Bytes, Names, Refused}
use Rattle.pf_file_calls.specs.declared.answers.CallFault.TheVariants.{JournalFull}
use Rattle.pf_law_plans.specs.Exchanges.{AreBytesOf, Exchange}
use Rattle.pf_law_plans.specs.Named.{tree_after_calls}
use Rattle.pf_law_plans.specs.Numbered.{call_numbered}

-- the names of what stands in the directory, in the order of their bytes
pub record AreNamesIn (tree : Tree) (p : Path) (names : List Name) : Type 0 where
  pub order : NamesAreInOrder names
  pub all : (name : Name) → list_any (λ other. bytes_eq other name) names ≡ is_some (at tree (name ∷ p))

-- What a call that the tree does not refuse is answered: what stands at the path, the names in the directory, or that it is done. A read is
-- answered the bytes that came last, of the blocks that the mount's tables have for the file, up to its end in the tree
abbrev pub IsAnswerIn : Extent → (came : List Exchange) → Tables → Tree → FileCall → CallAnswer → Type 0
IsAnswerIn v came tables tree (Stat p) answer = answer ≡ stat_of (at tree p)
IsAnswerIn v came tables tree (Lists p) answer = (names : List Name) × (answer ≡ Names names) × AreNamesIn tree p names
IsAnswerIn v came tables tree (Read p offset count) answer =
    (bytes : List ℕ) × (answer ≡ Bytes bytes) × AreBytesOf v tables came (found tables p) offset (read_end (size_at (at tree p)) offset count) bytes
IsAnswerIn v came tables tree call answer = answer ≡ Fine

-- the tree refuses the call so
pub record CallIsRefusedBy (d : Data) (tree : Tree) (call : FileCall) (answer : CallAnswer) : Type 0 where
  pub number : ℕ
  pub refuses : refusal (tree_sight d tree) call ≡ Some number
  pub answer_is : answer ≡ Refused (call_fault_of number)

-- the call would change the tree, but none of so many positions is left in the journal
pub record HasNoRoom (positions : ℕ) (d : Data) (tree : Tree) (upto : ℕ) (call : FileCall) (answer : CallAnswer) : Type 0 where
  pub fine : refusal (tree_sight d tree) call ≡ None
  pub after : Tree
  pub changes : changed d tree call ≡ Some after
  pub full : upto ≡ positions
  pub answer_is : answer ≡ Refused JournalFull

-- the call is not refused, changes nothing, and is answered from the tree
pub record IsLookedUp (v : Extent) (d : Data) (came : List Exchange) (tables : Tables) (tree : Tree) (call : FileCall) (answer : CallAnswer) : Type 0 where
  pub fine : refusal (tree_sight d tree) call ≡ None
  pub stays : changed d tree call ≡ None
  pub answers : IsAnswerIn v came tables tree call answer

-- The call's transaction is in the list, right below this position. The tree before it does not refuse the call, and is changed by it
pub record IsDoneIn (d : Data) (calls_of : (m : ℕ) → List FileCall) (list : List (List ℕ)) (m number upto : ℕ) (call : FileCall) (answer : CallAnswer) : Type 0
  where
    pub position : ℕ
    pub last : upto ≡ suc position
    pub value : List ℕ
    pub there : slice_get list position ≡ Some value
    pub txn : Txn
    pub spells : txn_in value ≡ Some txn
    pub mount_is : txn.mount ≡ m
    pub number_is : txn.number ≡ number
    pub fine : refusal (tree_sight d (tree_after_calls d calls_of (take position list))) call ≡ None
    pub changes : changed d (tree_after_calls d calls_of (take position list)) call ≡ Some (tree_after_calls d calls_of (take upto list))
    pub answer_is : answer ≡ Fine

-- The answer of this call, the mount's with this number, of a mount that stands at this position of the list and to which this came. The journal
-- has so many positions, and the tables after the values of a list are these
pub record PlannedIsAnswered (positions : ℕ) (v : Extent) (d : Data) (calls_of : (m : ℕ) → List FileCall) (tables_after : (values : List (List ℕ)) → Tables)
    (list : List (List ℕ)) (came : List Exchange) (m number upto : ℕ) (answer : CallAnswer) : Type 0 where
  pub call : FileCall
  pub named : call_numbered (calls_of m) number ≡ Some call
  pub is : let tree = tree_after_calls d calls_of (take upto list) in
      CallIsRefusedBy d tree call answer ⊎ HasNoRoom positions d tree upto call answer ⊎ IsLookedUp v d came (tables_after (take upto list)) tree call answer
      ⊎ IsDoneIn d calls_of list m number upto call answer
