-- Values of a few slots.
use Rattle.std.specs.Prelude.{ℕ, List, map}
use Rattle.std.specs.Ordering.{nat_cmp}
use Rattle.std.specs.FinMap
use Rattle.std.specs.FinMap.{FinMap}

module _ {V : Type 0} where
  abbrev pub slots_in : List (ℕ × V) → List ℕ
  slots_in rows = map (λ row. row.0) rows

  -- the map of a list whose slots ascend
  abbrev pub few_of : List (ℕ × V) → FinMap nat_cmp V
  few_of rows = FinMap.from_entries rows
