-- What passes a test.
use Rattle.std.proofs.Common.{◌≡◌, ℕ, suc, ◌<◌, Bool, true, false, cond, ◌&&◌, ◌==◌, List, [], ◌∷◌, ◌++◌, Option, Some, map, nat_lt, slice_get, arith, refl, sym, ap, ◌∙◌}
use Rattle.std.specs.List.{cons_option, filter, filter_map, find, flat_map, fold}
use Rattle.std.proofs.lemmas.Bool.{and_parts, and_from, cond-true, cond-false, eq-eqb, ltb-true, ne_eqb}
use Rattle.pf_entry.specs.Lists.{Every}
use Rattle.pf_entry.specs.Tables.{ascends, ascends_from}
use Rattle.pf_entry.proofs.Ascents.{from_lower, rest_ascends}
use Rattle.pf_entry.proofs.Cases.{by_test}
use Rattle.pf_entry.proofs.Lists.{every_more}

-- a fact of each place is one of the list
pub every_place : {X : Type 0} → (P : X → Type 0) (xs : List X) → ((k : ℕ) (x : X) → slice_get xs k ≡ Some x → P x) → Every P xs
every_place P [] f = tt
every_place P (x ∷ xs) f = (f 0 x refl, every_place P xs (λ k y at. f (suc k) y at))

module _ {X : Type 0} where
  -- two tests that agree on each
  pub filter_same : (p q : X → Bool) (xs : List X) → Every (λ x. p x ≡ q x) xs → filter p xs ≡ filter q xs
  filter_same p q [] same = refl
  filter_same p q (x ∷ xs) same = ap (λ c. cond c (x ∷ filter p xs) (filter p xs)) same.0 ∙ ap (λ rest. cond (q x) (x ∷ rest) rest) (filter_same p q xs same.1)

  pub filter_all : (p : X → Bool) (xs : List X) → Every (λ x. p x ≡ true) xs → xs ≡ filter p xs
  filter_all p [] all = refl
  filter_all p (x ∷ xs) all = ap (λ rest. x ∷ rest) (filter_all p xs all.1) ∙ sym (cond-true (p x) _ _ all.0)

  pub filter_twice : (p q : X → Bool) (xs : List X) → filter q (filter p xs) ≡ filter (λ x. p x && q x) xs
  filter_twice p q [] = refl
  filter_twice p q (x ∷ xs) =
      by_test (p x) (λ c. filter q (cond c (x ∷ filter p xs) (filter p xs)) ≡ cond (c && q x) (x ∷ filter (λ y. p y && q y) xs) (filter (λ y. p y && q y) xs))
      (λ _. ap (λ rest. cond (q x) (x ∷ rest) rest) (filter_twice p q xs))
      (λ _. filter_twice p q xs)

  pub every_passed : (P : X → Type 0) (p : X → Bool) (xs : List X) → Every P xs → Every P (filter p xs)
  every_passed P p [] all = tt
  every_passed P p (x ∷ xs) all = by_test (p x) (λ c. Every P (cond c (x ∷ filter p xs) (filter p xs))) (λ _. (all.0, every_passed P p xs all.1)) (λ _. every_passed P p xs all.1)

  -- Those that pass alone count, where f makes nothing of the others
  pub flat_map_passed : {Y : Type 0} → (f : X → List Y) (p : X → Bool) (xs : List X) → Every (λ x. p x ≡ false → f x ≡ []) xs → flat_map f (filter p xs) ≡ flat_map f xs
  flat_map_passed f p [] none = refl
  flat_map_passed f p (x ∷ xs) none =
      by_test (p x) (λ c. (c ≡ false → f x ≡ []) → flat_map f (cond c (x ∷ filter p xs) (filter p xs)) ≡ f x ++ flat_map f xs)
      (λ _ _. ap (λ rest. f x ++ rest) (flat_map_passed f p xs none.1))
      (λ _ nothing. flat_map_passed f p xs none.1 ∙ ap (λ front. front ++ flat_map f xs) (sym (nothing refl))) none.0

  pub fold_passed : {Y : Type 0} → (f : Y → X → Y) (p : X → Bool) (xs : List X) → Every (λ x. p x ≡ false → (y : Y) → f y x ≡ y) xs → (y : Y) → fold f y (filter p xs) ≡ fold f y xs
  fold_passed f p [] none y = refl
  fold_passed f p (x ∷ xs) none y =
      by_test (p x) (λ c. (c ≡ false → (z : _) → f z x ≡ z) → fold f y (cond c (x ∷ filter p xs) (filter p xs)) ≡ fold f (f y x) xs)
      (λ _ _. fold_passed f p xs none.1 (f y x))
      (λ _ nothing. fold_passed f p xs none.1 y ∙ ap (λ z. fold f z xs) (sym (nothing refl y))) none.0

module _ {X : Type 0} (key : X → ℕ) where
  -- those that pass a test keep their order
  fewer_from : (test : X → Bool) (n : ℕ) (xs : List X) → ascends_from n (map key xs) ≡ true → ascends_from n (map key (filter test xs)) ≡ true
  fewer_from test n [] is = refl
  fewer_from test n (x ∷ xs) is =
      let parts = and_parts (nat_lt n (key x)) (ascends_from (key x) (map key xs)) is in
      by_test (test x) (λ c. ascends_from n (map key (cond c (x ∷ filter test xs) (filter test xs))) ≡ true)
      (λ _. and_from _ _ parts.0 (fewer_from test (key x) xs parts.1))
      (λ _. let low = ltb-true n (key x) parts.0 in fewer_from test n xs (from_lower n (key x) (map key xs) (omega (arith, low)) parts.1))

  pub fewer_ascend : (test : X → Bool) (xs : List X) → ascends (map key xs) ≡ true → ascends (map key (filter test xs)) ≡ true
  fewer_ascend test [] is = refl
  fewer_ascend test (x ∷ xs) is =
      by_test (test x) (λ c. ascends (map key (cond c (x ∷ filter test xs) (filter test xs))) ≡ true)
      (λ _. fewer_from test (key x) xs is)
      (λ _. rest_ascends (key x) (map key (filter test xs)) (fewer_from test (key x) xs is))

  -- the first is below all others
  pub above_first : (n : ℕ) (xs : List X) → ascends_from n (map key xs) ≡ true → Every (λ x. n < key x) xs
  above_first n [] is = tt
  above_first n (x ∷ xs) is =
      let parts = and_parts (nat_lt n (key x)) (ascends_from (key x) (map key xs)) is in
      let low = ltb-true n (key x) parts.0 in
      (low, every_more (λ y. key x < key y) (λ y. n < key y) (λ y above. omega (arith, low, above)) xs (above_first (key x) xs parts.1))

  -- each is the one that is found by its key
  each_found : (xs : List X) → ascends (map key xs) ≡ true → Every (λ x. find (λ y. key y == key x) xs ≡ Some x) xs
  each_found [] is = tt
  each_found (x ∷ xs) is = (
    cond-true (key x == key x) _ _ (eq-eqb (key x) (key x) refl),
    passed_over xs (above_first (key x) xs is) (each_found xs (rest_ascends (key x) (map key xs) is)),
  )
    where
      passed_over : (ys : List X) → Every (λ y. key x < key y) ys → Every (λ y. find (λ z. key z == key y) xs ≡ Some y) ys → Every (λ y. find (λ z. key z == key y) (x ∷ xs) ≡ Some y) ys
      passed_over [] above found = tt
      passed_over (y ∷ ys) above found =
          (cond-false (key x == key y) _ _ (ne_eqb (key x) (key y) (λ same. omega (arith, above.0, same))) ∙ found.0, passed_over ys above.1 found.1)

  found_all : (all xs : List X) → Every (λ x. find (λ y. key y == key x) all ≡ Some x) xs → filter_map (λ n. find (λ y. key y == n) all) (map key xs) ≡ xs
  found_all all [] each = refl
  found_all all (x ∷ xs) each = ap (λ (o : Option X). cons_option o (filter_map (λ n. find (λ y. key y == n) all) (map key xs))) each.0 ∙ ap (λ rest. x ∷ rest) (found_all all xs each.1)

  mapped_passed : (p : ℕ → Bool) (xs : List X) → filter p (map key xs) ≡ map key (filter (λ x. p (key x)) xs)
  mapped_passed p [] = refl
  mapped_passed p (x ∷ xs) =
      by_test (p (key x)) (λ c. cond c (key x ∷ filter p (map key xs)) (filter p (map key xs)) ≡ map key (cond c (x ∷ filter (λ y. p (key y)) xs) (filter (λ y. p (key y)) xs)))
      (λ _. ap (λ rest. key x ∷ rest) (mapped_passed p xs))
      (λ _. mapped_passed p xs)

  -- Those whose keys pass, found by them
  pub passed_found : (p : ℕ → Bool) (xs : List X) → ascends (map key xs) ≡ true → filter_map (λ n. find (λ x. key x == n) xs) (filter p (map key xs)) ≡ filter (λ x. p (key x)) xs
  passed_found p xs up =
      ap (filter_map (λ n. find (λ x. key x == n) xs)) (mapped_passed p xs)
      ∙ found_all xs (filter (λ x. p (key x)) xs) (every_passed (λ x. find (λ y. key y == key x) xs ≡ Some x) (λ x. p (key x)) xs (each_found xs up))
