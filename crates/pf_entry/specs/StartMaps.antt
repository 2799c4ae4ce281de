-- The starts of terms, as a list and as a map.
use Rattle.std.specs.Prelude.{ℕ, List, map}
use Rattle.std.specs.FinMap
use Rattle.pf_entry.specs.Maps.{Map}
use Rattle.pf_entry.specs.declared.tables.Start.{Start}

abbrev pub terms_in : List Start → List ℕ
terms_in rows = map (λ row. row.term) rows

abbrev pub start_rows : List Start → List (ℕ × ℕ)
start_rows rows = map (λ row. (row.term, row.first)) rows

-- the map of a list whose terms ascend
unfoldable pub starts_of : List Start → Map ℕ
starts_of rows = FinMap.from_entries (start_rows rows)
