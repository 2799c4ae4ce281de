-- Lists by the places of what stands in them.
use Rattle.std.proofs.Common.{◌≡◌, ℕ, zero, suc, ◌+◌, ◌<◌, ◌≤◌, ◌⊎◌, inl, inr, List, [], ◌∷◌, ◌++◌, length, take, drop, Some, slice_get, arith, refl, sym, ap, subst, ◌∙◌, append-nil}
use Rattle.std.proofs.lemmas.Option.{none-some, same_Some}
use Rattle.std.proofs.lemmas.List.{append_assoc}

module _ {X : Type 0} where
  -- what stands at a place parts the list
  pub parted : (xs : List X) (p : ℕ) (x : X) → slice_get xs p ≡ Some x → xs ≡ take p xs ++ x ∷ drop (suc p) xs
  parted [] p x at = absurd (none-some x at)
  parted (y ∷ ys) zero x at = ap (λ z. z ∷ ys) (same_Some y x at)
  parted (y ∷ ys) (suc p) x at = ap (λ zs. y ∷ zs) (parted ys p x at)

  pub take_one_more : (xs : List X) (p : ℕ) (x : X) → slice_get xs p ≡ Some x → take (suc p) xs ≡ take p xs ++ x ∷ []
  take_one_more [] p x at = absurd (none-some x at)
  take_one_more (y ∷ ys) zero x at = ap (λ z. z ∷ []) (same_Some y x at)
  take_one_more (y ∷ ys) (suc p) x at = ap (λ zs. y ∷ zs) (take_one_more ys p x at)

  pub get_take : (xs : List X) (p q : ℕ) → q < p → slice_get (take p xs) q ≡ slice_get xs q
  get_take xs zero q low = absurd (omega (arith, low))
  get_take [] (suc p) q low = refl
  get_take (y ∷ ys) (suc p) zero low = refl
  get_take (y ∷ ys) (suc p) (suc q) low = get_take ys p q (omega (arith, low))

  pub take_fewer : (xs : List X) (p q : ℕ) → q ≤ p → take q (take p xs) ≡ take q xs
  take_fewer xs p zero low = refl
  take_fewer xs zero (suc q) low = absurd (omega (arith, low))
  take_fewer [] (suc p) (suc q) low = refl
  take_fewer (y ∷ ys) (suc p) (suc q) low = ap (λ zs. y ∷ zs) (take_fewer ys p q (omega (arith, low)))

  -- a longer part begins with a shorter one
  pub take_goes_on : (xs : List X) (p q : ℕ) → q ≤ p → (more : List X) × (take p xs ≡ take q xs ++ more)
  take_goes_on xs p zero low = (take p xs, refl)
  take_goes_on xs zero (suc q) low = absurd (omega (arith, low))
  take_goes_on [] (suc p) (suc q) low = ([], refl)
  take_goes_on (y ∷ ys) (suc p) (suc q) low = let rest = take_goes_on ys p q (omega (arith, low)) in (rest.0, ap (λ zs. y ∷ zs) rest.1)

  pub at_seam : (xs ys : List X) (y : X) (p : ℕ) → p ≡ length xs → slice_get (xs ++ y ∷ ys) p ≡ Some y
  at_seam [] ys y p is = ap (slice_get (y ∷ ys)) is
  at_seam (x ∷ xs) ys y zero is = absurd (omega (arith, is))
  at_seam (x ∷ xs) ys y (suc p) is = at_seam xs ys y p (omega (arith, is))

  -- what stands in one of two lists after another stands in both together
  pub get_first : (xs ys : List X) (k : ℕ) (x : X) → slice_get xs k ≡ Some x → slice_get (xs ++ ys) k ≡ Some x
  get_first [] ys k x at = absurd (none-some x at)
  get_first (z ∷ zs) ys zero x at = at
  get_first (z ∷ zs) ys (suc k) x at = get_first zs ys k x at

  -- and what stands in both together stands in one of them
  pub get_either : (xs ys : List X) (k : ℕ) (x : X) → slice_get (xs ++ ys) k ≡ Some x → (slice_get xs k ≡ Some x) ⊎ ((j : ℕ) × (slice_get ys j ≡ Some x) × (k ≡ length xs + j))
  get_either [] ys k x at = inr (k, at, omega arith)
  get_either (z ∷ zs) ys zero x at = inl at
  get_either (z ∷ zs) ys (suc k) x at = elim (get_either zs ys k x at) [
    | inl first ↦ inl first
    | inr second ↦ inr (second.0, second.1, omega (arith, second.2))
  ]

  pub some_within : (xs : List X) (k : ℕ) (x : X) → slice_get xs k ≡ Some x → k < length xs
  some_within [] k x at = absurd (none-some x at)
  some_within (z ∷ zs) zero x at = omega arith
  some_within (z ∷ zs) (suc k) x at = let low = some_within zs k x at in omega (arith, low)

  pub more_is_told : (first : List X) (x : X) (second more : List X) (xs : List X) → xs ≡ first ++ x ∷ second → xs ++ more ≡ first ++ x ∷ (second ++ more)
  more_is_told first x second more xs is = ap (λ all. all ++ more) is ∙ append_assoc first (x ∷ second) more

-- a list of one has nothing else
pub only_one : {X : Type 0} → (x y : X) (j : ℕ) → slice_get (x ∷ []) j ≡ Some y → (x ≡ y) × (j ≡ 0)
only_one x y zero at = (same_Some x y at, refl)
only_one x y (suc j) at = absurd (none-some y at)

-- what holds of the empty list, and of each list with one more at its end
pub by_ends : {X : Type 0} → (P : List X → Type 0) → P [] → ((xs : List X) (x : X) → P xs → P (xs ++ x ∷ [])) → (xs : List X) → P xs
by_ends {X} P none one_more xs = from [] xs none
  where
    from : (done rest : List X) → P done → P (done ++ rest)
    from done [] so_far = subst P (sym (append-nil done)) so_far
    from done (x ∷ rest) so_far = subst P (append_assoc done (x ∷ []) rest) (from (done ++ x ∷ []) rest (one_more done x so_far))
