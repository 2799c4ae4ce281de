-- The part of a log from a slot on.
use Rattle.std.specs.Prelude.{◌≡◌, ℕ, ◌≤◌, true, List}
use Rattle.std.specs.Ordering.{nat_cmp}
use Rattle.std.specs.FinMap
use Rattle.std.specs.FinMap.{find}
use Rattle.pf_entry.specs.Maps.{Map}
use Rattle.pf_entry.specs.Lists.{Every}
use Rattle.pf_entry.specs.Tables.{ascends}
use Rattle.pf_entry.specs.EntryMaps.{slots_in, entry_rows}
use Rattle.pf_entry.specs.declared.entries.Entry.{Entry}

-- what the log has from the slot on, in order
pub record IsFrom (log : Map Entry) (slot : ℕ) (rest : List Entry) : Type 0 where
  pub ascending : ascends (slots_in rest) ≡ true
  pub from : Every (λ e. slot ≤ e.slot) rest
  pub same : (q : ℕ) → slot ≤ q → FinMap.get log q ≡ find nat_cmp q (entry_rows rest)
