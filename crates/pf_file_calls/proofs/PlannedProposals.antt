-- What a planned call proposes.
use Rattle.std.proofs.Common.{◌≡◌, ℕ, List, [], ◌∷◌, length, Option, Some, None, refl, sym, ap, subst, ◌∙◌}
use Rattle.pf_volume.specs.Volumes.{Extent}
use Rattle.pf_tree_tables.specs.declared.changes.Change.{Change}
use Rattle.pf_tree_tables.specs.declared.changes.Txn.{Txn}
use Rattle.pf_tree.specs.Trees.{Data, Tree, changed, refusal, tree_sight}
use Rattle.pf_tree_tables.specs.Tables.{TablesAreWhole, Tables}
use Rattle.pf_tree.specs.Plans.{changes, tables_sight}
use Rattle.pf_tree.specs.Standing.{PlanFollows, IsCall, TablesStandFor}
use Rattle.pf_tree.proofs.Law.{follows}
use Rattle.pf_tree.proofs.Sights.{same_refusal}
use Rattle.pf_txn.specs.Spelling.{CanSpell, IsShortCall}
use Rattle.pf_txn.proofs.PlannedSizes.{Few, changes_few, can_spell}
use Rattle.pf_file_calls.specs.declared.calls.Pending.{Pending}
use Rattle.pf_file_calls.specs.declared.calls.Planned.TheVariants.{Refuses, Proposes}
use Rattle.pf_file_calls.specs.Calls.{planned, planned_by, planned_with}
use Rattle.pf_file_calls.specs.Faults.{call_fault_of}

-- it is not refused, and these are its changes
pub record IsProposed (d : Data) (tables : Tables) (p : Pending) (r : Option ℕ) (txn : Txn) : Type 0 where
  pub fine : r ≡ None
  pub changes_are : txn.changes ≡ changes d tables p.call

module _ (mount : ℕ) (v : Extent) (d : Data) (tables : Tables) (p : Pending) (txn : Txn) where
  with_changes : (cs : List Change) → planned_with mount v tables p cs ≡ Proposes txn → txn.changes ≡ cs
  with_changes [] e = cc
  with_changes (c ∷ cs) e =
      let same : record { mount = mount; number = p.number; changes = c ∷ cs } ≡ txn = (cc) in
      sym (ap (λ (t : Txn). t.changes) same)

  by_refusal : (r : Option ℕ) → planned_by mount v d tables p r ≡ Proposes txn → IsProposed d tables p r txn
  by_refusal (Some number) e = cc
  by_refusal None e = record { fine = refl; changes_are = with_changes (changes d tables p.call) e }

  pub proposed : planned mount v d tables p ≡ Proposes txn → IsProposed d tables p (refusal (tables_sight d tables) p.call) txn
  proposed e = by_refusal (refusal (tables_sight d tables) p.call) e

  pub spelled_as : TablesAreWhole tables → length tables.inodes ≡ 1024 → IsShortCall p.call → planned mount v d tables p ≡ Proposes txn → CanSpell txn
  spelled_as whole places short e =
      let P : List Change → Type 0 = Few in
      let is = proposed e in
      (can_spell txn (subst P (sym is.changes_are) (changes_few d tables places whole.sizes p.call short is.fine))).0

  module _ (tree : Tree) (s : TablesStandFor d tables tree) where
    pub refused_as : (number : ℕ) → refusal (tree_sight d tree) p.call ≡ Some number → planned mount v d tables p ≡ Refuses (call_fault_of number)
    refused_as number e = ap (λ (r : Option ℕ). planned_by mount v d tables p r) (same_refusal d tables tree s p.call ∙ e)

    not_refused : planned mount v d tables p ≡ Proposes txn → refusal (tree_sight d tree) p.call ≡ None
    not_refused e = sym (same_refusal d tables tree s p.call) ∙ (proposed e).fine

    pub follows_as : IsCall p.call → planned mount v d tables p ≡ Proposes txn → PlanFollows d tables txn.changes tree (changed d tree p.call)
    follows_as is e =
        let P : List Change → Type 0 = λ cs. PlanFollows d tables cs tree (changed d tree p.call) in
        subst P (sym (proposed e).changes_are) (follows d tables tree s p.call is (not_refused e))
