-- Proofs by the two values of a test.
use Rattle.std.proofs.Common.{◌≡◌, Bool, true, false, refl}

-- what follows where a test passes and where it fails
pub by_test : (c : Bool) (P : Bool → Type 0) → (c ≡ true → P true) → (c ≡ false → P false) → P c
by_test true P yes_case no_case = yes_case refl
by_test false P yes_case no_case = no_case refl
