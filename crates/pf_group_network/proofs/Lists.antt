-- Places of lists.
use Rattle.std.proofs.Common.{◌≡◌, ◌≢◌, ◌⊎◌, inl, inr, ℕ, zero, suc, ◌<◌, List, [], ◌∷◌, ◌++◌, length, map, Some, slice_get, slice_set, arith, refl, ap}
use Rattle.std.proofs.lemmas.Option.{same_Some}

pub set_there : {X : Type 0} → (xs : List X) (i : ℕ) (x : X) → i < length xs → slice_get (slice_set xs i x) i ≡ Some x
set_there [] i x lt = absurd (omega arith)
set_there (y ∷ ys) zero x lt = refl
set_there (y ∷ ys) (suc i) x lt = set_there ys i x (omega arith)

pub set_elsewhere : {X : Type 0} → (xs : List X) (i j : ℕ) (x : X) → j ≢ i → slice_get (slice_set xs i x) j ≡ slice_get xs j
set_elsewhere [] i j x apart = refl
set_elsewhere (y ∷ ys) zero zero x apart = absurd (apart refl)
set_elsewhere (y ∷ ys) zero (suc j) x apart = refl
set_elsewhere (y ∷ ys) (suc i) zero x apart = refl
set_elsewhere (y ∷ ys) (suc i) (suc j) x apart = set_elsewhere ys i j x (λ e. apart (ap suc e))

pub set_again : {X : Type 0} → (xs : List X) (i : ℕ) (x y : X) → slice_set (slice_set xs i x) i y ≡ slice_set xs i y
set_again [] i x y = refl
set_again (z ∷ zs) zero x y = refl
set_again (z ∷ zs) (suc i) x y = ap (λ rest. z ∷ rest) (set_again zs i x y)

pub set_same : {X : Type 0} → (xs : List X) (i : ℕ) (x : X) → slice_get xs i ≡ Some x → slice_set xs i x ≡ xs
set_same [] i x is = refl
set_same (y ∷ ys) zero x is = ap (λ z. z ∷ ys) (same_Some x y (grind (arith, is)))
set_same (y ∷ ys) (suc i) x is = ap (λ rest. y ∷ rest) (set_same ys i x is)

pub set_length : {X : Type 0} → (xs : List X) (i : ℕ) (x : X) → length (slice_set xs i x) ≡ length xs
set_length [] i x = refl
set_length (y ∷ ys) zero x = refl
set_length (y ∷ ys) (suc i) x = ap suc (set_length ys i x)

pub set_mapped : {X Y : Type 0} → (f : X → Y) (xs : List X) (k : ℕ) (x : X) → slice_set (map f xs) k (f x) ≡ map f (slice_set xs k x)
set_mapped f [] k x = refl
set_mapped f (y ∷ ys) zero x = refl
set_mapped f (y ∷ ys) (suc k) x = ap (λ rest. f y ∷ rest) (set_mapped f ys k x)

pub at_front : {X : Type 0} → (xs ys : List X) (k : ℕ) (x : X) → slice_get xs k ≡ Some x → slice_get (xs ++ ys) k ≡ Some x
at_front [] ys k x is = absurd (grind (arith, is))
at_front (z ∷ zs) ys zero x is = is
at_front (z ∷ zs) ys (suc k) x is = at_front zs ys k x is

pub at_end : {X : Type 0} → (xs : List X) (x : X) → slice_get (xs ++ x ∷ []) (length xs) ≡ Some x
at_end [] x = refl
at_end (z ∷ zs) x = at_end zs x

-- a place within a list has something
pub something_there : {X : Type 0} → (xs : List X) (i : ℕ) → i < length xs → (x : X) × (slice_get xs i ≡ Some x)
something_there [] i lt = absurd (omega arith)
something_there (x ∷ xs) zero lt = (x, refl)
something_there (x ∷ xs) (suc i) lt = something_there xs i (omega arith)

-- in a list with one more
pub end_cases : {X : Type 0} → (xs : List X) (y : X) (k : ℕ) (x : X) → slice_get (xs ++ y ∷ []) k ≡ Some x → (slice_get xs k ≡ Some x) ⊎ ((k ≡ length xs) × (y ≡ x))
end_cases [] y zero x is = inr (refl, same_Some y x is)
end_cases [] y (suc k) x is = absurd (grind (arith, is))
end_cases (z ∷ zs) y zero x is = inl is
end_cases (z ∷ zs) y (suc k) x is = elim (end_cases zs y k x is) [ inl there ↦ inl there | inr here ↦ inr (ap suc here.0, here.1) ]
