-- The law of a planned call, as the code of a plan meets it.
use Rattle.std.proofs.Common.{ℕ, List, Option, Result, Vec, Global, Ok, sym, ◌∙◌, subst}
use Rattle.pf_tree.specs.Calls.{FileCall}
use Rattle.pf_tree_tables.specs.declared.changes.Change.{Change}
use Rattle.pf_tree.specs.declared.faults.TreeFault.{TreeFault}
use Rattle.pf_tree.specs.Trees.{Tree, Data, refusal, tree_sight, changed}
use Rattle.pf_tree_tables.specs.Tables.{Tables, TablesAreWhole}
use Rattle.pf_tree.specs.Plans.{tables_sight, changes}
use Rattle.pf_tree.specs.Standing.{TablesStandFor, IsCall, PlanFollows}
use Rattle.pf_tree.specs.Faults.{PlansTo}
use Rattle.pf_tree.proofs.Sights.{same_refusal}
use Rattle.pf_tree.proofs.Law.{follows}

pub stands_whole : (d : Data) (tables : Tables) (tree : Tree) → TablesStandFor d tables tree → TablesAreWhole tables
stands_whole d tables tree s = record { root = s.names.root; sizes = s.sizes }

-- a plan refuses exactly as the tree does
pub plan_refuses : (d : Data) (tables : Tables) (tree : Tree) (s : TablesStandFor d tables tree) (call : FileCall) (cs : List Change) (result : Result (Vec Change Global) TreeFault) → PlansTo (refusal (tables_sight d tables) call) cs result → PlansTo (refusal (tree_sight d tree) call) cs result
plan_refuses d tables tree s call cs result h =
    let P : Option ℕ → Type 0 = λ r. PlansTo r cs result in
    subst P (same_refusal d tables tree s call) h

-- and where it plans changes, they lead to tables that stand for the tree after the call
pub plan_follows : (d : Data) (tables : Tables) (tree : Tree) (s : TablesStandFor d tables tree) (call : FileCall) → IsCall call → (v : Vec Change Global) → PlansTo (refusal (tables_sight d tables) call) (changes d tables call) (Ok v) → PlanFollows d tables v.items tree (changed d tree call)
plan_follows d tables tree s call is v h =
    let P : List Change → Type 0 = λ cs. PlanFollows d tables cs tree (changed d tree call) in
    subst P (sym h.1) (follows d tables tree s call is (sym (same_refusal d tables tree s call) ∙ h.0))
