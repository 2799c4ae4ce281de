-- What a ring of places stands for.
use Rattle.std.specs.Prelude.{◌≡◌, ℕ, ◌%◌, ◌≤◌, List, [], ◌∷◌, length, Option, Some, None, slice_get}
use Rattle.std.specs.Ordering.{nat_cmp}
use Rattle.std.specs.FinMap
use Rattle.std.specs.FinMap.{FinMap}

module _ {V : Type 0} where
  abbrev pub place_in : Option (ℕ × V) → FinMap nat_cmp V → FinMap nat_cmp V
  place_in None m = m
  place_in (Some p) m = FinMap.insert m p.0 p.1

  abbrev pub ring_of : List (Option (ℕ × V)) → FinMap nat_cmp V
  ring_of [] = FinMap.empty
  ring_of (p ∷ ps) = place_in p (ring_of ps)

  -- at most 4096 places, each with a slot of its own class
  pub record IsRing (ps : List (Option (ℕ × V))) : Type 0 where
    pub count : length ps ≤ 4096
    pub placed : (k : ℕ) (p : ℕ × V) → slice_get ps k ≡ Some (Some p) → p.0 % 4096 ≡ k
