-- Sectors of which those at the end are zeros, and not kept.
use Rattle.std.specs.Prelude.{ℕ, ◌-◌, ◌*◌, ◌^◌, ◌<◌, ◌≤◌, ◌++◌, List, length, replicate}

-- so many sectors, the first ones as they were written and the others of zeros
abbrev pub thin : List (List ℕ) → ℕ → List (List ℕ)
thin written count = written ++ replicate (count - length written) (replicate 512 0)

-- there are no more than are counted, there is room for all, and their bytes can be counted
pub record IsThin (written : List (List ℕ)) (count capacity : ℕ) : Type 0 where
  pub within : length written ≤ count
  pub room : count ≤ capacity
  pub small : 512 * count < 2 ^ 64
