-- The count of blocks stays.
use Rattle.std.proofs.Common.{◌≡◌, Option, Some, None, sym, ap, subst, ◌∙◌}
use Rattle.pf_volume.specs.Volumes.{Extent}
use Rattle.pf_tree_tables.specs.declared.changes.Txn.{Txn}
use Rattle.pf_tree.specs.Held.{Held}
use Rattle.pf_tree_tables.specs.Tables.{Tables}
use Rattle.pf_tree_tables.proofs.Shelves.{applied_length}
use Rattle.pf_file_calls.specs.Moving.{IsTreeOf}
use Rattle.pf_file_calls.specs.Calls.{value_applied}

tree_with : (v : Extent) (t : Tables) (txn : Option Txn) → IsTreeOf v t → IsTreeOf v (value_applied t txn)
tree_with v t None is = is
tree_with v t (Some txn) is = (applied_length t txn.changes).2 ∙ is

pub tree_after : (v : Extent) (before after : Held) (txn : Option Txn) → IsTreeOf v before.tables → after ≡ record before { tables = value_applied before.tables txn } → IsTreeOf v after.tables
tree_after v before after txn is e =
    let P : Held → Type 0 = λ h. IsTreeOf v h.tables in subst P (sym e) (tree_with v before.tables txn is)

-- the tree that is taken over has the one before as its spare
pub taken_over : (v : Extent) (before held after new : Held) (txn : Option Txn) → before ≡ held → new ≡ after → IsTreeOf v held.tables → after.tables ≡ value_applied held.tables txn → after.first ≡ held.first → IsTreeOf v new.tables × (new ≡ record before { tables = value_applied before.tables txn })
taken_over v before held after new txn was is form tables starts =
    let P : Held → Type 0 = λ h. IsTreeOf v h.tables in
    let Q : Tables → Type 0 = IsTreeOf v in
    let t : new.tables ≡ value_applied before.tables txn = ap (λ (h : Held). h.tables) is ∙ tables ∙ ap (λ (h : Held). value_applied h.tables txn) (sym was) in
    let f : new.first ≡ before.first = ap (λ (h : Held). h.first) is ∙ starts ∙ ap (λ (h : Held). h.first) (sym was) in
    (subst Q (sym t) (tree_with v before.tables txn (subst P (sym was) form)), λ i. record { first = f i; tables = t i })
