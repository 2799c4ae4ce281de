-- Tests of numbers.
use Rattle.std.proofs.Common.{◌≡◌, ◌≢◌, ℕ, ◌&&◌, ◌==◌, Bool, true, false, if◌then◌else◌, refl, ap}
use Rattle.std.proofs.lemmas.Bool.{eq-eqb, false≢true, ne_eqb}

-- where the number is this one
pub its_own : {X : Type 0} → (n m : ℕ) (x y : X) → n ≡ m → (if n == m then x else y) ≡ x
its_own n m x y same = ap (λ (b : Bool). if b then x else y) (eq-eqb n m same)

pub not_its_own : {X : Type 0} → (n m : ℕ) (x y : X) → n ≢ m → (if n == m then x else y) ≡ y
not_its_own n m x y other = ap (λ (b : Bool). if b then x else y) (ne_eqb n m other)

-- where both tests pass, each does
pub both_tests : (a b : Bool) → (a && b) ≡ true → (a ≡ true) × (b ≡ true)
both_tests true b both = (refl, both)
both_tests false b both = absurd (false≢true both)
