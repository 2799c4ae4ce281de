-- Texts that are put one behind another.
use Rattle.std.proofs.Common.{◌≡◌, ℕ, List, ◌++◌, ap, ◌∙◌, append_assoc}

pub both_put : (before mid after first second : List ℕ) → mid ≡ before ++ first → after ≡ mid ++ second → after ≡ before ++ (first ++ second)
both_put before mid after first second was now = now ∙ ap (λ (l : List ℕ). l ++ second) was ∙ append_assoc before first second
