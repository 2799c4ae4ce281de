-- Look-ups in a tree after a rename.
use Rattle.std.proofs.Common.{◌≡◌, ◌≢◌, ◌⊎◌, inl, inr, [], ◌∷◌, ◌++◌, Option, Some, None, refl, sym, ap, ◌∙◌}
use Rattle.std.proofs.lemmas.Bool.{cond-true, cond-false}
use Rattle.std.proofs.lemmas.Option.{none-some}
use Rattle.std.proofs.lemmas.List.{append_cancel_right}
use Rattle.pf_tree_tables.specs.Names.{Path}
use Rattle.pf_tree.specs.Paths.{below}
use Rattle.pf_tree.specs.Trees.{Node, Tree, at, path_moved, path_moved_to, with_moved}
use Rattle.pf_tree.specs.Standing.{IsMap}
use Rattle.pf_tree.proofs.Paths.{cases_path, is_same_true, is_same_false, below_of, below_is}

-- what a look-up finds after the move, by what the path is below the new place and below the old one
abbrev pub back : {X : Type 0} → (Path → Option X) → (from : Path) → (under_to under_from : Option Path) → Path → Option X
back look from (Some x) o q = look (x ++ from)
back look from None (Some y) q = None
back look from None None q = look q

pub cases_option : {X : Type 0} → (o : Option X) → ((x : X) × (o ≡ Some x)) ⊎ (o ≡ None)
cases_option None = inr refl
cases_option (Some x) = inl (x, refl)

pub moved_below : (from to p z : Path) → below from p ≡ Some z → path_moved from to p ≡ z ++ to
moved_below from to p z e = ap (λ o. path_moved_to to o p) e

pub moved_apart : (from to p : Path) → below from p ≡ None → path_moved from to p ≡ p
moved_apart from to p e = ap (λ o. path_moved_to to o p) e

at_here : (row : Path × Node) (rows : Tree) (q : Path) → q ≡ row.0 → at (row ∷ rows) q ≡ Some row.1
at_here row rows q e = cond-true _ _ _ (is_same_true q row.0 e)

at_past : (row : Path × Node) (rows : Tree) (q : Path) → q ≢ row.0 → at (row ∷ rows) q ≡ at rows q
at_past row rows q e = cond-false _ _ _ (is_same_false q row.0 e)

-- nothing stands at the new place or below it
abbrev pub IsClear : Tree → Path → Type 0
IsClear t to = (y : Path) → at t (y ++ to) ≡ None

row_apart : (row : Path × Node) (rows : Tree) (to y : Path) → IsClear (row ∷ rows) to → y ++ to ≢ row.0
row_apart row rows to y clear e = none-some row.1 (sym (clear y) ∙ at_here row rows (y ++ to) e)

rest_clear : (row : Path × Node) (rows : Tree) (to : Path) → IsClear (row ∷ rows) to → IsClear rows to
rest_clear row rows to clear y = sym (at_past row rows (y ++ to) (row_apart row rows to y clear)) ∙ clear y

-- one row, where its moved path is the path exactly where its path is another one
same_step : (row : Path × Node) (rows : Tree) (from to q r : Path) → (r ≡ row.0 → q ≡ path_moved from to row.0) → (q ≡ path_moved from to row.0 → r ≡ row.0) → at (with_moved rows from to) q ≡ at rows r → at (with_moved (row ∷ rows) from to) q ≡ at (row ∷ rows) r
same_step row rows from to q r there here rest =
    elim (cases_path r row.0) [
      | inl same ↦ at_here _ (with_moved rows from to) q (there same) ∙ sym (at_here row rows r same)
      | inr apart ↦ at_past _ (with_moved rows from to) q (λ e. apart (here e)) ∙ rest ∙ sym (at_past row rows r apart)
    ]

module _ (from to q : Path) where
  at_new : (t : Tree) (x : Path) → IsClear t to → below to q ≡ Some x → at (with_moved t from to) q ≡ at t (x ++ from)
  at_new [] x clear e = refl
  at_new (row ∷ rows) x clear e =
      same_step row rows from to q (x ++ from)
      (λ same. below_is to q x e ∙ sym (moved_below from to row.0 x (ap (below from) (sym same) ∙ below_of from x)))
      (λ same. elim (cases_option (below from row.0)) [
        | inl (z, is) ↦
            let same2 = append_cancel_right x z to (sym (below_is to q x e) ∙ same ∙ moved_below from to row.0 z is) in
            ap (λ w. w ++ from) same2 ∙ sym (below_is from row.0 z is)
        | inr none ↦ absurd (row_apart row rows to x clear (sym (below_is to q x e) ∙ same ∙ moved_apart from to row.0 none))
      ])
      (at_new rows x (rest_clear row rows to clear) e)

  at_old : (t : Tree) (y : Path) → below to q ≡ None → below from q ≡ Some y → at (with_moved t from to) q ≡ None
  at_old [] y not_new e = refl
  at_old (row ∷ rows) y not_new e =
      at_past _ (with_moved rows from to) q
      (λ same. elim (cases_option (below from row.0)) [
        | inl (z, is) ↦ none-some z (sym not_new ∙ ap (below to) (same ∙ moved_below from to row.0 z is) ∙ below_of to z)
        | inr none ↦ none-some y (sym none ∙ ap (below from) (sym (same ∙ moved_apart from to row.0 none)) ∙ e)
      ])
      ∙ at_old rows y not_new e

  at_other : (t : Tree) → below to q ≡ None → below from q ≡ None → at (with_moved t from to) q ≡ at t q
  at_other [] not_new not_old = refl
  at_other (row ∷ rows) not_new not_old =
      same_step row rows from to q q
      (λ same. same ∙ sym (moved_apart from to row.0 (ap (below from) (sym same) ∙ not_old)))
      (λ same. elim (cases_option (below from row.0)) [
        | inl (z, is) ↦ absurd (none-some z (sym not_new ∙ ap (below to) (same ∙ moved_below from to row.0 z is) ∙ below_of to z))
        | inr none ↦ same ∙ moved_apart from to row.0 none
      ])
      (at_other rows not_new not_old)

pub at_moved : (t : Tree) (from to q : Path) → IsClear t to → at (with_moved t from to) q ≡ back (at t) from (below to q) (below from q) q
at_moved t from to q clear =
    elim (cases_option (below to q)) [
      | inl (x, is) ↦ at_new from to q t x clear is ∙ ap (λ o. back (at t) from o (below from q) q) (sym is)
      | inr none ↦
          elim (cases_option (below from q)) [
            | inl (y, is) ↦ at_old from to q t y none is ∙ sym (ap (λ o. back (at t) from o (below from q) q) none ∙ ap (λ o. back (at t) from None o q) is)
            | inr none2 ↦ at_other from to q t none none2 ∙ sym (ap (λ o. back (at t) from o (below from q) q) none ∙ ap (λ o. back (at t) from None o q) none2)
          ]
    ]

pub map_moved : (t : Tree) (from to : Path) → IsClear t to → IsMap t → IsMap (with_moved t from to)
map_moved [] from to clear m = tt
map_moved (row ∷ rows) from to clear m =
    let rest = rest_clear row rows to clear in
    let absent : at (with_moved rows from to) (path_moved from to row.0) ≡ None =
    elim (cases_option (below from row.0)) [
      | inl (z, is) ↦
          ap (at (with_moved rows from to)) (moved_below from to row.0 z is)
          ∙ at_new from to (z ++ to) rows z rest (below_of to z) ∙ ap (at rows) (sym (below_is from row.0 z is)) ∙ m.0
      | inr none ↦
          ap (at (with_moved rows from to)) (moved_apart from to row.0 none)
          ∙ elim (cases_option (below to row.0)) [
            | inl (y, is) ↦ absurd (row_apart row rows to y clear (sym (below_is to row.0 y is)))
            | inr none2 ↦ at_other from to row.0 rows none2 none ∙ m.0
          ]
    ] in
    (absent, map_moved rows from to rest m.1)
