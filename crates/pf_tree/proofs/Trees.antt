-- Look-ups in a tree after a change.
use Rattle.std.proofs.Common.{◌≡◌, ◌≢◌, suc, inl, inr, Bool, true, cond, [], ◌∷◌, length, Some, None, is_some, refl, sym, ap, ◌∙◌, subst}
use Rattle.std.specs.List.{list_any}
use Rattle.std.proofs.lemmas.Bool.{cases_Bool, cond-true, cond-false, false≢true, or_cases, or_left, or_right}
use Rattle.std.proofs.lemmas.Option.{none-some, same_Some}
use Rattle.pf_tree_tables.specs.Names.{Path}
use Rattle.pf_tree.specs.Paths.{is_same}
use Rattle.pf_tree.specs.Trees.{Node, Tree, at, node_put, node_replaced, without_path}
use Rattle.pf_tree.specs.Standing.{IsMap}
use Rattle.pf_tree.proofs.Paths.{cases_path, is_same_true, is_same_false}

pub at_put : (t : Tree) (p : Path) (node : Node) (q : Path) → at (node_put t p node) q ≡ cond (is_same q p) (Some node) (at t q)
at_put t p node q = refl

-- a row's path decides
at_here : (row : Path × Node) (rows : Tree) (q : Path) → q ≡ row.0 → at (row ∷ rows) q ≡ Some row.1
at_here row rows q e = cond-true _ _ _ (is_same_true q row.0 e)

at_past : (row : Path × Node) (rows : Tree) (q : Path) → q ≢ row.0 → at (row ∷ rows) q ≡ at rows q
at_past row rows q e = cond-false _ _ _ (is_same_false q row.0 e)

pub without_same : (t : Tree) (p : Path) → at (without_path t p) p ≡ None
without_same [] p = refl
without_same (row ∷ rows) p =
    elim (cases_path p row.0) [
      | inl same ↦ ap (λ (t : Tree). at t p) (cond-true (is_same p row.0) (without_path rows p) (row ∷ without_path rows p) (is_same_true p row.0 same)) ∙ without_same rows p
      | inr apart ↦
          ap (λ (t : Tree). at t p) (cond-false (is_same p row.0) (without_path rows p) (row ∷ without_path rows p) (is_same_false p row.0 apart))
          ∙ at_past row (without_path rows p) p apart ∙ without_same rows p
    ]

pub without_other : (t : Tree) (p q : Path) → q ≢ p → at (without_path t p) q ≡ at t q
without_other [] p q other = refl
without_other (row ∷ rows) p q other =
    elim (cases_path p row.0) [
      | inl same ↦
          ap (λ (t : Tree). at t q) (cond-true (is_same p row.0) (without_path rows p) (row ∷ without_path rows p) (is_same_true p row.0 same))
          ∙ without_other rows p q other ∙ sym (at_past row rows q (λ e. other (e ∙ sym same)))
      | inr apart ↦
          ap (λ (t : Tree). at t q) (cond-false (is_same p row.0) (without_path rows p) (row ∷ without_path rows p) (is_same_false p row.0 apart))
          ∙ elim (cases_path q row.0) [
            | inl here ↦ at_here row (without_path rows p) q here ∙ sym (at_here row rows q here)
            | inr past ↦ at_past row (without_path rows p) q past ∙ without_other rows p q other ∙ sym (at_past row rows q past)
          ]
    ]

pub replaced_same : (t : Tree) (p : Path) (node : Node) → is_some (at t p) ≡ true → at (node_replaced t p node) p ≡ Some node
replaced_same [] p node there = absurd (false≢true there)
replaced_same (row ∷ rows) p node there =
    elim (cases_path p row.0) [
      | inl same ↦
          at_here _ (node_replaced rows p node) p same ∙ ap Some (cond-true (is_same p row.0) node row.1 (is_same_true p row.0 same))
      | inr apart ↦
          at_past _ (node_replaced rows p node) p apart ∙ replaced_same rows p node (ap is_some (sym (at_past row rows p apart)) ∙ there)
    ]

pub replaced_other : (t : Tree) (p : Path) (node : Node) (q : Path) → q ≢ p → at (node_replaced t p node) q ≡ at t q
replaced_other [] p node q other = refl
replaced_other (row ∷ rows) p node q other =
    elim (cases_path q row.0) [
      | inl here ↦
          at_here _ (node_replaced rows p node) q here
          ∙ ap Some (cond-false (is_same p row.0) node row.1 (is_same_false p row.0 (λ e. other (here ∙ sym e))))
          ∙ sym (at_here row rows q here)
      | inr past ↦ at_past _ (node_replaced rows p node) q past ∙ replaced_other rows p node q other ∙ sym (at_past row rows q past)
    ]

pub length_replaced : (t : Tree) (p : Path) (node : Node) → length (node_replaced t p node) ≡ length t
length_replaced [] p node = refl
length_replaced (row ∷ rows) p node = ap suc (length_replaced rows p node)

pub without_absent : (t : Tree) (p : Path) → at t p ≡ None → without_path t p ≡ t
without_absent [] p e = refl
without_absent (row ∷ rows) p e =
    elim (cases_path p row.0) [
      | inl same ↦ absurd (none-some row.1 (sym e ∙ at_here row rows p same))
      | inr apart ↦
          cond-false (is_same p row.0) (without_path rows p) (row ∷ without_path rows p) (is_same_false p row.0 apart)
          ∙ ap (λ (t : Tree). row ∷ t) (without_absent rows p (sym (at_past row rows p apart) ∙ e))
    ]

-- one row fewer
pub length_without : (t : Tree) (p : Path) → IsMap t → is_some (at t p) ≡ true → suc (length (without_path t p)) ≡ length t
length_without [] p m there = absurd (false≢true there)
length_without (row ∷ rows) p m there =
    elim (cases_path p row.0) [
      | inl same ↦
          ap (λ (t : Tree). suc (length t)) (cond-true (is_same p row.0) (without_path rows p) (row ∷ without_path rows p) (is_same_true p row.0 same)
          ∙ without_absent rows p (ap (at rows) same ∙ m.0))
      | inr apart ↦
          ap (λ (t : Tree). suc (length t)) (cond-false (is_same p row.0) (without_path rows p) (row ∷ without_path rows p) (is_same_false p row.0 apart))
          ∙ ap suc (length_without rows p m.1 (ap is_some (sym (at_past row rows p apart)) ∙ there))
    ]

absent_without : (t : Tree) (p q : Path) → at t q ≡ None → at (without_path t p) q ≡ None
absent_without t p q e =
    elim (cases_path q p) [
      | inl same ↦ ap (at (without_path t p)) same ∙ without_same t p
      | inr apart ↦ without_other t p q apart ∙ e
    ]

pub map_without : (t : Tree) (p : Path) → IsMap t → IsMap (without_path t p)
map_without [] p m = tt
map_without (row ∷ rows) p m =
    elim (cases_Bool (is_same p row.0)) [
      | inl same ↦ subst IsMap (sym (cond-true (is_same p row.0) (without_path rows p) (row ∷ without_path rows p) same)) (map_without rows p m.1)
      | inr apart ↦
          subst IsMap (sym (cond-false (is_same p row.0) (without_path rows p) (row ∷ without_path rows p) apart))
          (absent_without rows p row.0 m.0, map_without rows p m.1)
    ]

absent_replaced : (t : Tree) (p : Path) (node : Node) (q : Path) → at t q ≡ None → at (node_replaced t p node) q ≡ None
absent_replaced [] p node q e = refl
absent_replaced (row ∷ rows) p node q e =
    elim (cases_path q row.0) [
      | inl here ↦ absurd (none-some row.1 (sym e ∙ at_here row rows q here))
      | inr past ↦ at_past _ (node_replaced rows p node) q past ∙ absent_replaced rows p node q (sym (at_past row rows q past) ∙ e)
    ]

pub map_replaced : (t : Tree) (p : Path) (node : Node) → IsMap t → IsMap (node_replaced t p node)
map_replaced [] p node m = tt
map_replaced (row ∷ rows) p node m = (absent_replaced rows p node row.0 m.0, map_replaced rows p node m.1)

-- a row is found
pub any_at : (t : Tree) (f : Path × Node → Bool) (p : Path) (node : Node) → at t p ≡ Some node → f (p, node) ≡ true → list_any f t ≡ true
any_at [] f p node e is = absurd (none-some node e)
any_at (row ∷ rows) f p node e is =
    elim (cases_path p row.0) [
      | inl here ↦
          or_left _ _ (ap f (let e2 = same_Some row.1 node (sym (at_here row rows p here) ∙ e) in
          ap (λ (q : Path). (q, row.1)) (sym here) ∙ ap (λ (v : Node). (p, v)) e2) ∙ is)
      | inr past ↦ or_right _ _ (any_at rows f p node (sym (at_past row rows p past) ∙ e) is)
    ]

pub record Row (t : Tree) (f : Path × Node → Bool) : Type 0 where
  pub path : Path
  pub node : Node
  pub stands : at t path ≡ Some node
  pub passes : f (path, node) ≡ true

pub row_of_any : (t : Tree) (f : Path × Node → Bool) → IsMap t → list_any f t ≡ true → Row t f
row_of_any [] f m e = absurd (false≢true e)
row_of_any (row ∷ rows) f m e =
    elim (or_cases _ _ e) [
      | inl here ↦ record { path = row.0; node = row.1; stands = at_here row rows row.0 refl; passes = here }
      | inr there ↦
          let r = row_of_any rows f m.1 there in
          record {
            path = r.path;
            node = r.node;
            stands = at_past row rows r.path (λ e2. none-some r.node (sym m.0 ∙ ap (at rows) (sym e2) ∙ r.stands)) ∙ r.stands;
            passes = r.passes;
          }
    ]
