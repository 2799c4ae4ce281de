-- A list of transactions, as mounts stand in it.
use Rattle.std.specs.Prelude.{◌≡◌, ℕ, ◌≤◌, List, length, take, Some, slice_get}
use Rattle.pf_tree_tables.specs.declared.changes.Txn.{Txn}
use Rattle.pf_tree_tables.specs.Tables.{Tables}
use Rattle.pf_tree.specs.Calls.{FileCall}
use Rattle.pf_tree.specs.Standing.{TablesStandFor}
use Rattle.pf_tree.specs.Trees.{Data}
use Rattle.pf_txn.specs.Reading.{txn_in}
use Rattle.pf_law_plans.specs.Named.{tree_after_calls}

-- A mount with these tables stands behind the first transactions of the list, so many. The tables are those of a new volume after them, and they
-- stand for the user's tree after the calls that these transactions name
pub record StandsBehind (d : Data) (calls_of : (m : ℕ) → List FileCall) (tables_after : (values : List (List ℕ)) → Tables) (list : List (List ℕ)) (upto : ℕ)
    (its : Tables) : Type 0 where
  pub within : upto ≤ length list
  pub tables : its ≡ tables_after (take upto list)
  pub tree : TablesStandFor d its (tree_after_calls d calls_of (take upto list))

-- no call has two transactions in the list
abbrev pub NamesEachOnce : List (List ℕ) → Type 0
NamesEachOnce list =
    (position other : ℕ) (value its : List ℕ) (txn same : Txn)
    → slice_get list position ≡ Some value
    → slice_get list other ≡ Some its
    → txn_in value ≡ Some txn
    → txn_in its ≡ Some same
    → txn.mount ≡ same.mount
    → txn.number ≡ same.number
    → position ≡ other
