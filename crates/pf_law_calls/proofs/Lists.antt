-- Places of lists.
use Rattle.std.proofs.Common.{◌≡◌, ◌⊎◌, inl, inr, ℕ, zero, suc, ◌<◌, List, [], ◌∷◌, ◌++◌, length, Some, slice_get, arith, refl, sym, ap, ◌∙◌}

pub at_end : {X : Type 0} → (xs : List X) (x : X) → slice_get (xs ++ x ∷ []) (length xs) ≡ Some x
at_end [] x = refl
at_end (z ∷ zs) x = at_end zs x

-- a place within a list has something
pub something_there : {X : Type 0} → (xs : List X) (i : ℕ) → i < length xs → (x : X) × (slice_get xs i ≡ Some x)
something_there [] i lt = absurd (omega arith)
something_there (x ∷ xs) zero lt = (x, refl)
something_there (x ∷ xs) (suc i) lt = something_there xs i (omega arith)

-- of two beginnings of one list the one begins the other
pub split : {X : Type 0} → (xs ys more rest : List X) → xs ++ more ≡ ys ++ rest → ((zs : List X) × (ys ≡ xs ++ zs)) ⊎ ((zs : List X) × (xs ≡ ys ++ zs))
split [] ys more rest same = inl (ys, refl)
split (x ∷ xs) [] more rest same = inr (x ∷ xs, refl)
split (x ∷ xs) (y ∷ ys) more rest same =
    let first : x ≡ y = cc in
    let behind : xs ++ more ≡ ys ++ rest = cc in
    elim (split xs ys more rest behind) [
      | inl is ↦ inl (is.0, ap (λ z. z ∷ ys) (sym first) ∙ ap (λ zs. x ∷ zs) is.1)
      | inr is ↦ inr (is.0, ap (λ z. z ∷ xs) first ∙ ap (λ zs. y ∷ zs) is.1)
    ]
