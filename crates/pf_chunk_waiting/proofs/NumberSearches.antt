-- A search by number in a list in the order of its numbers.
use Rattle.std.proofs.Common.{◌≡◌, ◌≢◌, ℕ, zero, suc, ◌<◌, ◌≤◌, inl, inr, true, List, [], ◌∷◌, ◌++◌, length, get_or, map, nat_lt, ◌-◌, Result, Ok, Err, IfErr, Some, slice_get, arith, refl, sym, ap, ◌∙◌}
use Rattle.std.specs.List.Sorted.{IsBinarySearchResult, IsNonDecreasingBy}
use Rattle.std.specs.Ordering.{nat_cmp, ordering_index}
use Rattle.std.proofs.lemmas.Bool.{and_parts, and_from, cases_lt, lt-ltb}
use Rattle.std.proofs.lemmas.Bool.Decides.{nat_tests}
use Rattle.std.proofs.lemmas.Cmp.{ranked}
use Rattle.std.proofs.lemmas.List.Sorted.{IsNonDecreasingBy-from_default}
use Rattle.std.proofs.lemmas.Option.{get_or_from_slice_get, none-some, same_Some, slice_get_within, slice_get-get_or}
use Rattle.pf_entry.specs.Lists.{Every}
use Rattle.pf_entry.specs.Tables.{ascends, ascends_from}
use Rattle.pf_entry.proofs.Ascents.{rest_ascends}
use Rattle.pf_chunk_waiting.proofs.Filters.{above_first, every_place}
use Rattle.pf_entry.proofs.Lists.{every_get}

last_from : (n : ℕ) (ns : List ℕ) (m : ℕ) → ascends_from n ns ≡ true → n < m → Every (λ k. k < m) ns → ascends_from n (ns ++ m ∷ []) ≡ true
last_from n [] m is low below = and_from _ _ (lt-ltb n m low) refl
last_from n (x ∷ xs) m is low below =
    let parts = and_parts (nat_lt n x) (ascends_from x xs) is in
    and_from _ _ parts.0 (last_from x xs m parts.1 below.0 below.1)

-- a greater number at the end
pub last_greatest : (ns : List ℕ) (m : ℕ) → ascends ns ≡ true → Every (λ k. k < m) ns → ascends (ns ++ m ∷ []) ≡ true
last_greatest [] m is below = refl
last_greatest (n ∷ ns) m is below = last_from n ns m is below.0 below.1

-- without the last one
front_from : (n : ℕ) (ns : List ℕ) (m : ℕ) → ascends_from n (ns ++ m ∷ []) ≡ true → ascends_from n ns ≡ true
front_from n [] m is = refl
front_from n (x ∷ xs) m is = let parts = and_parts (nat_lt n x) (ascends_from x (xs ++ m ∷ [])) is in and_from _ _ parts.0 (front_from x xs m parts.1)

pub front_ascends : (ns : List ℕ) (m : ℕ) → ascends (ns ++ m ∷ []) ≡ true → ascends ns ≡ true
front_ascends [] m is = refl
front_ascends (n ∷ ns) m is = front_from n ns m is

module _ {X : Type 0} (key : X → ℕ) where
  -- earlier ones have lower numbers
  pub rises : (xs : List X) → ascends (map key xs) ≡ true → (j k : ℕ) (x y : X) → slice_get xs j ≡ Some x → slice_get xs k ≡ Some y → j < k → key x < key y
  rises [] up j k x y at_x at_y lt = absurd (none-some x at_x)
  rises (z ∷ zs) up zero zero x y at_x at_y lt = absurd (omega (arith, lt))
  rises (z ∷ zs) up zero (suc k) x y at_x at_y lt =
      let low = every_get (λ v. key z < key v) zs k y (above_first key (key z) zs up) at_y in
      let same = ap key (same_Some z x at_x) in
      omega (arith, low, same)
  rises (z ∷ zs) up (suc j) zero x y at_x at_y lt = absurd (omega (arith, lt))
  rises (z ∷ zs) up (suc j) (suc k) x y at_x at_y lt = rises zs (rest_ascends (key z) (map key zs) up) j k x y at_x at_y (omega (arith, lt))

  module _ (xs : List X) (up : ascends (map key xs) ≡ true) where
    never_falls : (d : X) (i j : ℕ) → i ≤ j → j < length xs → key (get_or xs i d) ≤ key (get_or xs j d)
    never_falls d i j le inside =
        elim (cases_lt i j) [
          | inl before ↦ (let low = rises xs up i j (get_or xs i d) (get_or xs j d) (slice_get-get_or xs i d (omega (arith, before, inside))) (slice_get-get_or xs j d inside) before in omega (arith, low))
          | inr not_before ↦ (let e : i ≡ j = omega (arith, le, not_before) in omega (arith, ap (λ k. key (get_or xs k d)) e))
        ]

    -- all are below one that is above the last
    pub all_below : (n : ℕ) (last : X) → slice_get xs (length xs - 1) ≡ Some last → key last < n → Every (λ x. key x < n) xs
    all_below n last at low = every_place (λ x. key x < n) xs (λ k x there.
        let inside = slice_get_within xs k x there in
        let no_more = never_falls last k (length xs - 1) (omega (arith, inside)) (omega (arith, inside)) in
        let here = ap key (get_or_from_slice_get xs k x last there) in
        let end = ap key (get_or_from_slice_get xs (length xs - 1) last last at) in
        omega (arith, no_more, here, end, low))

    module _ (n : ℕ) (d : X) where
      comparisons_rise : IsNonDecreasingBy (λ x. ordering_index (nat_cmp (key x) n)) xs
      comparisons_rise = IsNonDecreasingBy-from_default (λ x. ordering_index (nat_cmp (key x) n)) xs d (λ i j le inside.
          let higher = never_falls d i j le inside in
          grind (arith, nat_tests, higher))

      -- where the search finds none, none has the number
      pub not_found : (r : Result ℕ ℕ) → IsBinarySearchResult (λ x. nat_cmp (key x) n) xs r → IfErr r (λ _. Every (λ x. key x ≢ n) xs)
      not_found (Ok at) found = tt
      not_found (Err at) parted = every_place (λ x. key x ≢ n) xs (λ k x there same.
          let inside = slice_get_within xs k x there in
          let is : key (get_or xs k d) ≡ n = ap key (get_or_from_slice_get xs k x d there) ∙ same in
          let cut = parted comparisons_rise in
          elim (cases_lt k at) [
            | inl below ↦ (let less = ranked _ n _ (sym (cut.0 k d (omega (arith, inside)) below)) in omega (arith, less, is))
            | inr above ↦ (let more = ranked _ n _ (sym (cut.1 k d above inside)) in omega (arith, more, is))
          ])

    -- another place has another number
    pub others_apart : (k : ℕ) (x : X) → slice_get xs k ≡ Some x → (j : ℕ) (y : X) → slice_get xs j ≡ Some y → key y ≡ key x → y ≡ x
    others_apart k x at j y there same =
        elim (cases_lt j k) [
          | inl before ↦ absurd (let low = rises xs up j k y x there at before in omega (arith, low, same))
          | inr not_before ↦ elim (cases_lt k j) [
            | inl after ↦ absurd (let low = rises xs up k j x y at there after in omega (arith, low, same))
            | inr not_after ↦ (let e : j ≡ k = omega (arith, not_before, not_after) in same_Some y x (sym there ∙ ap (slice_get xs) e ∙ at))
          ]
        ]
