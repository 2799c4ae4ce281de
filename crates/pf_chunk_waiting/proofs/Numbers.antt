-- Lists of numbers, and whether they have one.
use Rattle.std.proofs.Common.{◌≡◌, ℕ, suc, ◌+◌, ◌<◌, ◌≤◌, inl, inr, Bool, true, false, cond, ◌&&◌, ◌||◌, ◌==◌, List, [], ◌∷◌, length, map, nat_lt, eqb, arith, refl, sym, ap, subst, ◌∙◌}
use Rattle.std.specs.List.{Contains, dedup, filter, slice_index}
use Rattle.std.specs.List.Sorted.{IsPermutation, IsSorted, IsStrictlyIncreasing}
use Rattle.std.specs.Ordering.{nat_cmp}
use Rattle.std.proofs.lemmas.Bool.{and_parts, and_from, cases_eq, cases_lt, eq-eqb, eqb-true, ltb-true, lt-ltb, ne_eqb, or_cases, true≢false}
use Rattle.std.proofs.lemmas.List.Kept.{Contains-dedup_nat, Contains-from_dedup}
use Rattle.std.proofs.lemmas.List.Sorted.{Contains-permutation, IsPermutation-sym}
use Rattle.std.proofs.lemmas.Map.Keys.{IsStrictlyIncreasing-dedup, any_passes_from_place}
use Rattle.std.proofs.lemmas.Option.{slice_get_read}
use Rattle.pf_entry.specs.Lists.{Every}
use Rattle.pf_entry.specs.Tables.{ascends, ascends_from}
use Rattle.pf_entry.proofs.Ascents.{rest_ascends}
use Rattle.pf_entry.proofs.Cases.{by_test}
use Rattle.pf_chunk_waiting.specs.Waiters.{has}
use Rattle.pf_chunk_waiting.proofs.Filters.{above_first, fewer_ascend}

pub same_truth : (a b : Bool) → (a ≡ true → b ≡ true) → (b ≡ true → a ≡ true) → a ≡ b
same_truth true true f g = refl
same_truth true false f g = sym (f refl)
same_truth false true f g = g refl
same_truth false false f g = refl

-- those above a number have it not
lacks_from : (n : ℕ) (xs : List ℕ) (m : ℕ) → ascends_from n xs ≡ true → m ≤ n → has xs m ≡ false
lacks_from n [] m up le = refl
lacks_from n (x ∷ xs) m up le =
    let parts = and_parts (nat_lt n x) (ascends_from x xs) up in
    let low = ltb-true n x parts.0 in
    ap (λ c. c || has xs m) (ne_eqb x m (λ same. omega (arith, low, le, same))) ∙ lacks_from x xs m parts.1 (omega (arith, low, le))

has_first : (x : ℕ) (xs : List ℕ) → has (x ∷ xs) x ≡ true
has_first x xs = ap (λ c. c || has xs x) (eq-eqb x x refl)

-- two lists that ascend and have the same numbers are one
pub same_numbers : (xs ys : List ℕ) → ascends xs ≡ true → ascends ys ≡ true → ((n : ℕ) → has xs n ≡ has ys n) → xs ≡ ys
same_numbers [] [] up up' same = refl
same_numbers [] (y ∷ ys) up up' same = absurd (true≢false (sym (has_first y ys) ∙ sym (same y)))
same_numbers (x ∷ xs) [] up up' same = absurd (true≢false (sym (has_first x xs) ∙ same x))
same_numbers (x ∷ xs) (y ∷ ys) up up' same =
    elim (cases_lt x y) [
      | inl below ↦ (let none : has (y ∷ ys) x ≡ false = ap (λ c. c || has ys x) (ne_eqb y x (λ e. omega (arith, below, e))) ∙ lacks_from y ys x up' (omega (arith, below)) in
          absurd (true≢false (sym (has_first x xs) ∙ same x ∙ none)))
      | inr least ↦ elim (cases_lt y x) [
        | inl below ↦ (let none : has (x ∷ xs) y ≡ false = ap (λ c. c || has xs y) (ne_eqb x y (λ e. omega (arith, below, e))) ∙ lacks_from x xs y up (omega (arith, below)) in
            absurd (true≢false (sym (has_first y ys) ∙ sym (same y) ∙ none)))
        | inr most ↦ (let e : x ≡ y = omega (arith, least, most) in
            let rest : (n : ℕ) → has xs n ≡ has ys n = λ n.
            elim (cases_eq n x) [
              | inl here ↦ (lacks_from x xs n up (omega (arith, here)) ∙ sym (lacks_from y ys n up' (omega (arith, here, e))))
              | inr apart ↦ (ap (λ c. c || has xs n) (sym (ne_eqb x n (λ is. apart (sym is)))) ∙ same n ∙ ap (λ c. c || has ys n) (ne_eqb y n (λ is. apart (sym (e ∙ is)))))
            ] in
            ap (λ z. z ∷ xs) e ∙ ap (λ zs. y ∷ zs) (same_numbers xs ys (rest_ascends x xs up) (rest_ascends y ys up') rest))
      ]
    ]

-- a test passes the numbers that it is of
pub has_passed : (p : ℕ → Bool) (xs : List ℕ) (n : ℕ) → has (filter p xs) n ≡ (p n && has xs n)
has_passed p [] n = by_test (p n) (λ c. false ≡ (c && false)) (λ _. refl) (λ _. refl)
has_passed p (x ∷ xs) n =
    elim (cases_eq x n) [
      | inl same ↦ (by_test (p x) (λ c. p x ≡ c → has (cond c (x ∷ filter p xs) (filter p xs)) n ≡ (p n && has (x ∷ xs) n))
          (λ _ yes. ap (λ c. c || has (filter p xs) n) (eq-eqb x n same) ∙ sym (ap (λ c. c && has (x ∷ xs) n) (ap p (sym same) ∙ yes) ∙ ap (λ c. c || has xs n) (eq-eqb x n same)))
          (λ _ no. has_passed p xs n ∙ ap (λ c. c && has xs n) (ap p (sym same) ∙ no) ∙ sym (ap (λ c. c && has (x ∷ xs) n) (ap p (sym same) ∙ no))) refl)
      | inr apart ↦ (by_test (p x) (λ c. has (cond c (x ∷ filter p xs) (filter p xs)) n ≡ has (filter p xs) n)
          (λ _. ap (λ c. c || has (filter p xs) n) (ne_eqb x n apart)) (λ _. refl)
          ∙ has_passed p xs n ∙ ap (λ c. p n && (c || has xs n)) (sym (ne_eqb x n apart)))
    ]

from_contains : (xs : List ℕ) (n : ℕ) → Contains xs n → has xs n ≡ true
from_contains xs n among = any_passes_from_place (λ m. m == n) xs among.0 n (slice_get_read xs (length xs) among.0 n refl among.1 (sym among.2)) (eq-eqb n n refl)

to_contains : (xs : List ℕ) (n : ℕ) → has xs n ≡ true → Contains xs n
to_contains [] n is = absurd (true≢false (sym is))
to_contains (x ∷ xs) n is =
    elim (or_cases (x == n) (has xs n) is) [
      | inl here ↦ (0, omega arith, eqb-true x n here)
      | inr there ↦ (let rest = to_contains xs n there in (suc rest.0, omega (arith, rest.1), rest.2))
    ]

rest_rises : (x : ℕ) (xs : List ℕ) → IsStrictlyIncreasing (x ∷ xs) → IsStrictlyIncreasing xs
rest_rises x xs up k inside =
    let e : suc k + 1 ≡ suc (k + 1) = omega arith in
    subst (λ j. slice_index xs k < slice_index (x ∷ xs) j) e (up (suc k) (omega (arith, inside)))

rises_from : (x : ℕ) (xs : List ℕ) → IsStrictlyIncreasing (x ∷ xs) → ascends_from x xs ≡ true
rises_from x [] up = refl
rises_from x (y ∷ ys) up = and_from _ _ (lt-ltb x y (up 0 (omega arith))) (rises_from y ys (rest_rises x (y ∷ ys) up))

pub ascends_so : (xs : List ℕ) → IsStrictlyIncreasing xs → ascends xs ≡ true
ascends_so [] up = refl
ascends_so (x ∷ xs) up = rises_from x xs up

same_map : (ns : List ℕ) → map (λ n. n) ns ≡ ns
same_map [] = refl
same_map (n ∷ ns) = ap (λ ms. n ∷ ms) (same_map ns)

-- What is left of the numbers that pass once they were sorted and each stands once: those of an ascending list that are among them
pub sorted_once : (all numbers sorted : List ℕ) → ascends all ≡ true → IsPermutation (filter (has all) numbers) sorted → IsSorted nat_cmp sorted → dedup eqb sorted ≡ filter (has numbers) all
sorted_once all numbers sorted up moved in_order =
    same_numbers (dedup eqb sorted) (filter (has numbers) all) (ascends_so (dedup eqb sorted) (IsStrictlyIncreasing-dedup sorted in_order)) (passed_ascend all up) (λ n.
    same_truth (has (dedup eqb sorted) n) (has (filter (has all) numbers) n)
    (λ is. from_contains (filter (has all) numbers) n (Contains-permutation sorted (filter (has all) numbers) n (IsPermutation-sym (filter (has all) numbers) sorted moved) (Contains-from_dedup eqb sorted n (to_contains (dedup eqb sorted) n is))))
    (λ is. from_contains (dedup eqb sorted) n (Contains-dedup_nat sorted n (Contains-permutation (filter (has all) numbers) sorted n moved (to_contains (filter (has all) numbers) n is))))
    ∙ has_passed (has all) numbers n ∙ either_way (has all n) (has numbers n) ∙ sym (has_passed (has numbers) all n))
  where
    either_way : (a b : Bool) → (a && b) ≡ (b && a)
    either_way true true = refl
    either_way true false = refl
    either_way false true = refl
    either_way false false = refl

    passed_ascend : (ns : List ℕ) → ascends ns ≡ true → ascends (filter (has numbers) ns) ≡ true
    passed_ascend ns up' = ap ascends (sym (same_map (filter (has numbers) ns))) ∙ fewer_ascend (λ n. n) (has numbers) ns (ap ascends (same_map ns) ∙ up')

module _ {X : Type 0} (key : X → ℕ) (test : X → Bool) where
  lacks_below : (n : ℕ) (xs : List X) → Every (λ x. n < key x) xs → has (map key (filter test xs)) n ≡ false
  lacks_below n [] above = refl
  lacks_below n (x ∷ xs) above =
      by_test (test x) (λ c. has (map key (cond c (x ∷ filter test xs) (filter test xs))) n ≡ false)
      (λ _. ap (λ c. c || has (map key (filter test xs)) n) (ne_eqb (key x) n (λ same. omega (arith, above.0, same))) ∙ lacks_below n xs above.1)
      (λ _. lacks_below n xs above.1)

  -- whether one passes is told by its number
  pub each_by_number : (xs : List X) → ascends (map key xs) ≡ true → Every (λ x. has (map key (filter test xs)) (key x) ≡ test x) xs
  each_by_number [] up = tt
  each_by_number (x ∷ xs) up =
      let above = above_first key (key x) xs up in (
        by_test (test x) (λ c. has (map key (cond c (x ∷ filter test xs) (filter test xs))) (key x) ≡ c) (λ _. has_first (key x) (map key (filter test xs))) (λ _. lacks_below (key x) xs above),
        later xs above (each_by_number xs (rest_ascends (key x) (map key xs) up)),
      )
    where
      later : (ys : List X) → Every (λ y. key x < key y) ys → Every (λ y. has (map key (filter test xs)) (key y) ≡ test y) ys → Every (λ y. has (map key (filter test (x ∷ xs))) (key y) ≡ test y) ys
      later [] above each = tt
      later (y ∷ ys) above each = (
        by_test (test x) (λ c. has (map key (cond c (x ∷ filter test xs) (filter test xs))) (key y) ≡ has (map key (filter test xs)) (key y))
            (λ _. ap (λ c. c || has (map key (filter test xs)) (key y)) (ne_eqb (key x) (key y) (λ same. omega (arith, above.0, same)))) (λ _. refl) ∙ each.0,
        later ys above.1 each.1,
      )
