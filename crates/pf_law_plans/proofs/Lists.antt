-- Parts of lists.
use Rattle.std.proofs.Common.{◌≡◌, ℕ, zero, suc, List, [], ◌∷◌, ◌++◌, take, drop, Some, slice_get, ap}
use Rattle.std.proofs.lemmas.Option.{none-some, same_Some}
use Rattle.pf_entry.specs.Lists.{Every}

pub at_front : {X : Type 0} → (xs ys : List X) (k : ℕ) (x : X) → slice_get xs k ≡ Some x → slice_get (xs ++ ys) k ≡ Some x
at_front [] ys k x is = absurd (none-some x is)
at_front (z ∷ zs) ys zero x is = is
at_front (z ∷ zs) ys (suc k) x is = at_front zs ys k x is

-- what stands at a place is the last of one more
pub take_one_more : {X : Type 0} → (xs : List X) (k : ℕ) (x : X) → slice_get xs k ≡ Some x → take (suc k) xs ≡ take k xs ++ x ∷ []
take_one_more [] k x at = absurd (none-some x at)
take_one_more (y ∷ ys) zero x at = ap (λ z. z ∷ []) (same_Some y x at)
take_one_more (y ∷ ys) (suc k) x at = ap (λ zs. y ∷ zs) (take_one_more ys k x at)

-- what holds of each element holds in the parts

pub every_take : {X : Type 0} → (P : X → Type 0) (n : ℕ) (xs : List X) → Every P xs → Every P (take n xs)
every_take P zero xs each = tt
every_take P (suc n) [] each = tt
every_take P (suc n) (x ∷ xs) each = (each.0, every_take P n xs each.1)

pub every_drop : {X : Type 0} → (P : X → Type 0) (n : ℕ) (xs : List X) → Every P xs → Every P (drop n xs)
every_drop P zero xs each = each
every_drop P (suc n) [] each = tt
every_drop P (suc n) (x ∷ xs) each = every_drop P n xs each.1
