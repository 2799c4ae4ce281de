-- First parts of lists, what they leave, and bounded searches.
use Rattle.std.proofs.Common.{◌≡◌, ℕ, zero, suc, ◌+◌, ◌<◌, ◌≤◌, inl, inr, Bool, true, false, cond, List, [], ◌∷◌, ◌++◌, length, map, take, drop, Some, slice_get, arith, refl, sym, ap, subst, ◌∙◌}
use Rattle.std.proofs.lemmas.Bool.{cases_Bool, cond-true, cond-false}
use Rattle.std.proofs.lemmas.Option.{same_Some, none-some}
use Rattle.pf_entry.specs.Ops.{Sector}
use Rattle.pf_law_registers.specs.Registers.{left_by_writes}

pub something_there : {X : Type 0} → (xs : List X) (i : ℕ) → i < length xs → (x : X) × (slice_get xs i ≡ Some x)
something_there [] i lt = absurd (omega arith)
something_there (x ∷ xs) zero lt = (x, refl)
something_there (x ∷ xs) (suc i) lt = something_there xs i (omega arith)

pub length_mapped : {X Y : Type 0} → (f : X → Y) (xs : List X) → length (map f xs) ≡ length xs
length_mapped f [] = refl
length_mapped f (x ∷ xs) = ap suc (length_mapped f xs)

-- how many elements pass a test before the first that fails it
pub lead : {X : Type 0} → (X → Bool) → List X → ℕ
lead f [] = 0
lead f (x ∷ xs) = cond (f x) (suc (lead f xs)) 0

within_first : (c : Bool) (n m : ℕ) → n ≤ m → cond c (suc n) 0 ≤ suc m
within_first true n m le = omega arith
within_first false n m le = omega arith

pub lead_within : {X : Type 0} → (f : X → Bool) (xs : List X) → lead f xs ≤ length xs
unfolding lead
lead_within f [] = omega arith
lead_within f (x ∷ xs) = within_first (f x) (lead f xs) (length xs) (lead_within f xs)

pub lead_passes : {X : Type 0} → (f : X → Bool) (xs : List X) (k : ℕ) (x : X) → k < lead f xs → slice_get xs k ≡ Some x → f x ≡ true
unfolding lead
lead_passes f [] k x lt at = absurd (none-some x at)
lead_passes f (y ∷ ys) zero x lt at = elim (cases_Bool (f y)) [
  | inl passes ↦ ap f (sym (same_Some y x at)) ∙ passes
  | inr fails ↦ absurd (omega (arith, subst (λ n. 0 < n) (cond-false (f y) (suc (lead f ys)) 0 fails) lt))
]
lead_passes f (y ∷ ys) (suc k) x lt at = elim (cases_Bool (f y)) [
  | inl passes ↦ lead_passes f ys k x (omega (arith, subst (λ n. suc k < n) (cond-true (f y) (suc (lead f ys)) 0 passes) lt)) at
  | inr fails ↦ absurd (omega (arith, subst (λ n. suc k < n) (cond-false (f y) (suc (lead f ys)) 0 fails) lt))
]

-- where whatever stands before an element that passes passes too
pub lead_reaches : {X : Type 0} → (f : X → Bool) (xs : List X) (k : ℕ) (x : X) → slice_get xs k ≡ Some x → ((j : ℕ) (y : X) → j ≤ k → slice_get xs j ≡ Some y → f y ≡ true) → k < lead f xs
unfolding lead
lead_reaches f [] k x at all = absurd (none-some x at)
lead_reaches f (y ∷ ys) zero x at all = subst (λ n. 0 < n) (sym (cond-true (f y) (suc (lead f ys)) 0 (all 0 y (omega arith) refl))) (omega arith)
lead_reaches f (y ∷ ys) (suc k) x at all =
    let rest = lead_reaches f ys k x at (λ j z low there. all (suc j) z (omega arith) there) in
    subst (λ n. suc k < n) (sym (cond-true (f y) (suc (lead f ys)) 0 (all 0 y (omega arith) refl))) (omega arith)

-- the last write of a first part
pub left_at : {X : Type 0} → (bytes : X → Sector) (xs : List X) (k : ℕ) (x : X) (old : Sector) → slice_get xs k ≡ Some x → left_by_writes old (map bytes xs) (suc k) ≡ bytes x
left_at bytes [] k x old at = absurd (none-some x at)
left_at bytes (y ∷ ys) zero x old at = ap bytes (same_Some y x at)
left_at bytes (y ∷ ys) (suc k) x old at = left_at bytes ys k x (bytes y) at

pub left_there : (values : List Sector) (k : ℕ) (value old : Sector) → slice_get values k ≡ Some value → left_by_writes old values (suc k) ≡ value
left_there [] k value old at = absurd (none-some value at)
left_there (v ∷ vs) zero value old at = same_Some v value at
left_there (v ∷ vs) (suc k) value old at = left_there vs k value v at

pub got_mapped : {X Y : Type 0} → (f : X → Y) (xs : List X) (k : ℕ) (y : Y) → slice_get (map f xs) k ≡ Some y → (x : X) × (slice_get xs k ≡ Some x) × (f x ≡ y)
got_mapped f [] k y at = absurd (none-some y at)
got_mapped f (x ∷ xs) zero y at = (x, refl, same_Some (f x) y at)
got_mapped f (x ∷ xs) (suc k) y at = got_mapped f xs k y at

-- what a first part of two lists leaves
pub left_in_first : (old : Sector) (xs ys : List Sector) (n : ℕ) → n ≤ length xs → left_by_writes old (xs ++ ys) n ≡ left_by_writes old xs n
left_in_first old xs ys zero le = refl
left_in_first old [] ys (suc n) le = absurd (omega arith)
left_in_first old (x ∷ xs) ys (suc n) le = left_in_first x xs ys n (omega arith)

pub left_in_second : (old : Sector) (xs ys : List Sector) (n : ℕ) → left_by_writes old (xs ++ ys) (length xs + n) ≡ left_by_writes (left_by_writes old xs (length xs)) ys n
left_in_second old [] ys n = ap (left_by_writes old ys) (omega arith)
left_in_second old (x ∷ xs) ys n =
    let e : suc (length xs) + n ≡ suc (length xs + n) = omega arith in
    ap (left_by_writes old (x ∷ (xs ++ ys))) e ∙ left_in_second x xs ys n

pub left_in_taken : (old : Sector) (xs : List Sector) (m n : ℕ) → n ≤ m → left_by_writes old (take m xs) n ≡ left_by_writes old xs n
left_in_taken old xs m zero le = refl
left_in_taken old [] zero (suc n) le = refl
left_in_taken old [] (suc m) (suc n) le = refl
left_in_taken old (x ∷ xs) zero (suc n) le = absurd (omega arith)
left_in_taken old (x ∷ xs) (suc m) (suc n) le = left_in_taken x xs m n (omega arith)

pub left_after : (old : Sector) (xs : List Sector) (m n : ℕ) → m ≤ length xs → left_by_writes (left_by_writes old xs m) (drop m xs) n ≡ left_by_writes old xs (m + n)
left_after old xs zero n le = ap (left_by_writes old xs) (omega arith)
left_after old [] (suc m) n le = absurd (omega arith)
left_after old (x ∷ xs) (suc m) n le =
    let e : suc (m + n) ≡ suc m + n = omega arith in
    left_after x xs m n (omega arith) ∙ ap (left_by_writes old (x ∷ xs)) e

-- places in parts of a list
pub taken_get : {X : Type 0} → (n : ℕ) (xs : List X) (k : ℕ) (x : X) → slice_get (take n xs) k ≡ Some x → (k < n) × (slice_get xs k ≡ Some x)
taken_get zero xs k x is = absurd (none-some x is)
taken_get (suc n) [] k x is = absurd (none-some x is)
taken_get (suc n) (y ∷ ys) zero x is = (omega arith, is)
taken_get (suc n) (y ∷ ys) (suc k) x is = let rest = taken_get n ys k x is in (omega (arith, rest.0), rest.1)

pub dropped_there : {X : Type 0} → (n : ℕ) (xs : List X) (k : ℕ) → slice_get (drop n xs) k ≡ slice_get xs (n + k)
dropped_there zero xs k = ap (slice_get xs) (omega arith)
dropped_there (suc n) [] k = refl
dropped_there (suc n) (x ∷ xs) k =
    let e : suc (n + k) ≡ suc n + k = omega arith in
    dropped_there n xs k ∙ ap (slice_get (x ∷ xs)) e
