-- Finite sets of numbers: std's finite maps with nothing at each key. Unlike std's finite sets they show their items in order.
use Rattle.std.specs.Prelude.{ℕ, Bool, List, map}
use Rattle.std.specs.Coded.{Coded, coded_ℕ}
use Rattle.std.specs.FinMap
use Rattle.pf_entry.specs.Maps.{Numbers}
use base.Stored.{coded_unit}

abbrev pub code : Coded Numbers
code = FinMap.code coded_ℕ coded_unit

abbrev pub empty : Numbers
empty = FinMap.empty

abbrev pub contains : Numbers → ℕ → Bool
contains set n = FinMap.contains_key set n

abbrev pub insert : Numbers → ℕ → Numbers
insert set n = FinMap.insert set n tt

abbrev pub remove : Numbers → ℕ → Numbers
remove set n = FinMap.remove set n

-- those that pass a test
abbrev pub retain : Numbers → (ℕ → Bool) → Numbers
retain set passes = FinMap.retain_keys set passes

abbrev pub len : Numbers → ℕ
len set = FinMap.len set

-- in ascending order
abbrev pub items : Numbers → List ℕ
items set = FinMap.keys set

-- the set of a list that ascends
unfoldable pub from_items : List ℕ → Numbers
from_items ns = FinMap.from_entries (map (λ n. (n, tt)) ns)
