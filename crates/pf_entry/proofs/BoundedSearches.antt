-- Bounded searches among numbers.
use Rattle.std.proofs.Common.{ℕ, zero, suc, ◌+◌, ◌<◌, ◌≤◌, ◌⊎◌, inl, inr, arith, ap, subst}
use Rattle.std.proofs.lemmas.Bool.{cases_eq}

-- something holds of a number below this one, or of none
pub decide_below : (P : ℕ → Type 0) → ((k : ℕ) → P k ⊎ (P k → ⊥)) → (n : ℕ) → ((k : ℕ) × (k < n) × P k) ⊎ ((k : ℕ) → k < n → P k → ⊥)
decide_below P decide zero = inr (λ k lt p. omega arith)
decide_below P decide (suc n) =
    elim (decide_below P decide n) [
      | inl found ↦ inl (found.0, omega (arith, found.1), found.2)
      | inr none ↦ elim (decide n) [
        | inl here ↦ inl (n, omega arith, here)
        | inr not_here ↦ inr (λ k lt p. elim (cases_eq k n) [
          | inl same ↦ not_here (subst P same p)
          | inr apart ↦ none k (omega (arith, apart, lt)) p
        ])
      ]
    ]

-- the sum of the first values, which none of them is above
pub total : (ℕ → ℕ) → ℕ → ℕ
total f zero = 0
total f (suc n) = total f n + f n

pub below_total : (f : ℕ → ℕ) (n k : ℕ) → k < n → f k ≤ total f n
unfolding total
below_total f zero k lt = absurd (omega arith)
below_total f (suc n) k lt =
    elim (cases_eq k n) [
      | inl same ↦ omega (arith, ap f same)
      | inr apart ↦ omega (arith, below_total f n k (omega (arith, apart, lt)))
    ]
