-- Slots that have places of their own.
use Rattle.std.specs.Prelude.{◌≡◌, ℕ, ◌+◌, ◌<◌, ◌≤◌, true}
use Rattle.std.specs.Ordering.{nat_cmp}
use Rattle.std.specs.FinMap
use Rattle.std.specs.FinMap.{FinMap}

-- each slot of the table is less than 4,096 away from this one
abbrev pub IsNear : {V : Type 0} → FinMap nat_cmp V → ℕ → Type 0
IsNear m slot = (q : ℕ) → FinMap.contains_key m q ≡ true → (q < slot + 4096) × (slot < q + 4096)

-- each slot of the table is one of the 4,096 above the base
abbrev pub SlotsAreWithin : {V : Type 0} → ℕ → FinMap nat_cmp V → Type 0
SlotsAreWithin base m = (q : ℕ) → FinMap.contains_key m q ≡ true → (base < q) × (q ≤ base + 4096)
