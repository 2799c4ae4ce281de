-- The user's tree, by the calls that transactions name. The calls of each mount are given in the order in which they began.
use Rattle.std.specs.Prelude.{ℕ, List, Option}
use Rattle.std.specs.List.{fold}
use Rattle.std.specs.Option.{option_and_then}
use Rattle.pf_tree_tables.specs.declared.changes.Txn.{Txn}
use Rattle.pf_tree.specs.Calls.{FileCall}
use Rattle.pf_tree.specs.Trees.{Data, Tree, new_tree}
use Rattle.pf_txn.specs.Reading.{txn_in}
use Rattle.pf_law_plans.specs.Numbered.{call_numbered, tree_with}

-- the call that the value names, if it spells a transaction of one
abbrev pub call_in : (calls_of : (m : ℕ) → List FileCall) → (value : List ℕ) → Option FileCall
call_in calls_of value = option_and_then (λ (txn : Txn). call_numbered (calls_of txn.mount) txn.number) (txn_in value)

-- the root alone, changed by the calls that the values name, one after another
abbrev pub tree_after_calls : Data → (calls_of : (m : ℕ) → List FileCall) → (values : List (List ℕ)) → Tree
tree_after_calls d calls_of values = fold (λ tree value. tree_with d tree (call_in calls_of value)) new_tree values
