-- The calls of a mount by their numbers, and the user's tree after one.
use Rattle.std.specs.Prelude.{ℕ, zero, suc, unwrap_or, List, Option, Some, None, slice_get}
use Rattle.pf_tree.specs.Calls.{FileCall}
use Rattle.pf_tree.specs.Trees.{Data, Tree, changed}

-- calls have the numbers from 1 on, in the order in which they began
abbrev pub call_numbered : List FileCall → (number : ℕ) → Option FileCall
call_numbered calls zero = None
call_numbered calls (suc before) = slice_get calls before

-- the tree after a call, or the same tree where there is none
abbrev pub tree_with : Data → Tree → Option FileCall → Tree
tree_with d tree None = tree
tree_with d tree (Some call) = unwrap_or (changed d tree call) tree
