-- Look-ups in a list whose keys ascend.
use Rattle.std.proofs.Common.{◌≡◌, ℕ, zero, suc, ◌<◌, ◌≤◌, ◌≢◌, inl, inr, true, List, [], ◌∷◌, map, length, get_or, Some, None, ◌==◌, arith, refl, sym, ◌∙◌}
use Rattle.std.specs.List.{Contains}
use Rattle.std.specs.Ordering.{nat_cmp, eq_by_cmp}
use Rattle.std.specs.FinMap.{find}
use Rattle.std.proofs.lemmas.Bool.{cases_Bool, and_parts, ltb-true, cond-true, cond-false, eq-eqb, ne_eqb, eqb-true}
use Rattle.std.proofs.lemmas.Bool.Decides.{nat_tests}
use Rattle.std.proofs.lemmas.Option.{same_Some, none-some}
use Rattle.pf_entry.specs.Lists.{Every}
use Rattle.pf_entry.specs.Tables.{ascends, ascends_from}

pub same_number : (q k : ℕ) → eq_by_cmp nat_cmp q k ≡ (q == k)
same_number q k = grind (arith, nat_tests)

module _ {R X : Type 0} (key : R → ℕ) (value : R → X) where
  abbrev pub pairs : List R → List (ℕ × X)
  pairs rows = map (λ row. (key row, value row)) rows

  pub find_first : (q : ℕ) (x : R) (xs : List R) → q ≡ key x → find nat_cmp q (pairs (x ∷ xs)) ≡ Some (value x)
  find_first q x xs same = cond-true _ _ _ (same_number q (key x) ∙ eq-eqb q (key x) same)

  pub find_later : (q : ℕ) (x : R) (xs : List R) → q ≢ key x → find nat_cmp q (pairs (x ∷ xs)) ≡ find nat_cmp q (pairs xs)
  find_later q x xs apart = cond-false _ _ _ (same_number q (key x) ∙ ne_eqb q (key x) apart)

  pub lower : (n : ℕ) (rows : List R) → ascends_from n (map key rows) ≡ true → ascends (map key rows) ≡ true
  lower n [] is = refl
  lower n (x ∷ xs) is = (and_parts _ _ is).1

  pub rising : (n m : ℕ) (rows : List R) → n ≤ m → ascends_from m (map key rows) ≡ true → Every (λ row. n < key row) rows
  rising n m [] le is = tt
  rising n m (x ∷ xs) le is =
      let both = and_parts _ _ is in
      let h : m < key x = ltb-true m (key x) both.0 in
      (omega arith, rising n (key x) xs (omega arith) both.1)

  -- a key below all is not there
  pub none_below : (q : ℕ) (rows : List R) → Every (λ row. q < key row) rows → find nat_cmp q (pairs rows) ≡ None
  none_below q [] above = refl
  none_below q (x ∷ xs) above =
      let h : q < key x = above.0 in
      find_later q x xs (λ same. omega (arith, h, same)) ∙ none_below q xs above.1

  skipped : (x : R) (xs ys : List R) → Every (λ row. key x < key row) ys → Every (λ row. find nat_cmp (key row) (pairs xs) ≡ Some (value row)) ys → Every (λ row. find nat_cmp (key row) (pairs (x ∷ xs)) ≡ Some (value row)) ys
  skipped x xs [] above there = tt
  skipped x xs (y ∷ ys) above there =
      let h : key x < key y = above.0 in
      (find_later (key y) x xs (λ same. omega (arith, h, same)) ∙ there.0, skipped x xs ys above.1 there.1)

  -- each row is found under its key
  pub found_all : (rows : List R) → ascends (map key rows) ≡ true → Every (λ row. find nat_cmp (key row) (pairs rows) ≡ Some (value row)) rows
  found_all [] is = tt
  found_all (x ∷ xs) is =
      (find_first (key x) x xs refl, skipped x xs xs (rising (key x) (key x) xs (omega arith) is) (found_all xs (lower (key x) xs is)))

  pub every_at : (P : R → Type 0) (rows : List R) (k : ℕ) (row : R) → Every P rows → k < length rows → get_or rows k row ≡ row → (x : R) × (x ≡ row) × P x
  every_at P [] k row each lt at = absurd (omega arith)
  every_at P (x ∷ xs) zero row each lt at = (x, at, each.0)
  every_at P (x ∷ xs) (suc k) row each lt at = every_at P xs k row each.1 (omega arith) at

  -- what is found stands in the list, under that key
  pub listed : (rows : List R) (q : ℕ) (v : X) → find nat_cmp q (pairs rows) ≡ Some v → (row : R) × Contains rows row × (key row ≡ q) × (value row ≡ v)
  listed [] q v is = absurd (none-some v is)
  listed (x ∷ xs) q v is =
      elim (cases_Bool (eq_by_cmp nat_cmp q (key x))) [
        | inl same ↦ (x, (0, omega arith, refl), sym (eqb-true q (key x) (sym (same_number q (key x)) ∙ same)), same_Some (value x) v (sym (cond-true _ _ _ same) ∙ is))
        | inr apart ↦
            let (row, (k, lt, at), keyed, has) = listed xs q v (sym (cond-false _ _ _ apart) ∙ is) in
            (row, (suc k, omega arith, at), keyed, has)
      ]
