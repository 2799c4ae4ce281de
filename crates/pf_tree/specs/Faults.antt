-- The numbers of the refusals, and what an answer with one says.
use Rattle.std.specs.Prelude.{◌≡◌, ◌⊎◌, ℕ, List, Option, Some, None, Result, Ok, Err, Vec}
use Rattle.std.specs.Global.{Global}
use Rattle.pf_tree_tables.specs.declared.changes.Change.{Change}
use Rattle.pf_tree.specs.declared.faults.TreeFault.{TreeFault}
use Rattle.pf_tree.specs.declared.faults.TreeFault.TheVariants.{NoMemory, Refused}
use Rattle.pf_tree.specs.declared.faults.TreeRefusal.{TreeRefusal}
use Rattle.pf_tree.specs.declared.faults.TreeRefusal.TheVariants.{NoEntry, Exists, NotDir, IsDir, NotEmpty, NoSpace, TooLarge, IntoItself}

abbrev pub refusal_number : TreeRefusal → ℕ
refusal_number NoEntry = 82
refusal_number Exists = 83
refusal_number NotDir = 84
refusal_number IsDir = 85
refusal_number NotEmpty = 86
refusal_number NoSpace = 87
refusal_number TooLarge = 88
refusal_number IntoItself = 89

abbrev pub tree_number : TreeFault → ℕ
tree_number NoMemory = 1
tree_number (Refused refusal) = refusal_number refusal

-- an answer, or exactly the refusal
abbrev pub TreeRefuses : {X : Type 0} → Option ℕ → Result X TreeRefusal → (X → Type 0) → Type 0
TreeRefuses r (Ok x) P = (r ≡ None) × P x
TreeRefuses r (Err refusal) P = r ≡ Some (refusal_number refusal)

-- the changes, or exactly the refusal, or want of memory
abbrev pub PlansTo : Option ℕ → List Change → Result (Vec Change Global) TreeFault → Type 0
PlansTo r cs (Ok v) = (r ≡ None) × (v.items ≡ cs)
PlansTo r cs (Err fault) = (fault ≡ NoMemory) ⊎ (r ≡ Some (tree_number fault))
