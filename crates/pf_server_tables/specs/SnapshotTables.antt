-- Snapshots.
use Rattle.std.specs.Prelude.{◌≡◌, ℕ, ◌≤◌, true, List, length, map}
use Rattle.std.specs.Coded.{Coded, coded_ℕ, coded_list}
use Rattle.std.specs.FinMap
use Rattle.pf_entry.specs.Maps.{Map}
use Rattle.pf_entry.specs.Ops.{Sector}
use Rattle.pf_entry.specs.Tables.{ascends}

abbrev pub marks_in : List (ℕ × List Sector) → List ℕ
marks_in rows = map (λ row. row.0) rows

-- the map of a list whose marks ascend
abbrev pub snapshots_of : List (ℕ × List Sector) → Map (List Sector)
snapshots_of rows = FinMap.from_entries rows

abbrev pub snapshots_code : Coded (Map (List Sector))
snapshots_code = FinMap.code coded_ℕ (coded_list (coded_list coded_ℕ))

-- at most four, in the order of their marks, with room for one more
pub record AreFew (capacity : ℕ) (rows : List (ℕ × List Sector)) : Type 0 where
  pub ascending : ascends (marks_in rows) ≡ true
  pub few : length rows ≤ 4
  pub room : 5 ≤ capacity
