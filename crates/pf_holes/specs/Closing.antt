-- What can be applied in the end.
use Rattle.std.specs.Prelude.{◌≡◌, ◌↔◌, ℕ, true, List}
use Rattle.std.specs.FinMap
use Rattle.pf_entry.specs.Maps.{Numbers}
use Rattle.pf_entry.specs.Sets
use Rattle.pf_entry.specs.Applying.{InClosure}
use Rattle.pf_entry.specs.EntryMaps.{log_of}
use Rattle.pf_entry.specs.declared.entries.Entry.{Entry}

-- the closure of the applied slots, over the log of these entries and the committed slots
abbrev pub IsClosure : List Entry → (committed applied closure : Numbers) → Type 0
IsClosure entries committed applied closure =
    (slot : ℕ) → (Sets.contains closure slot ≡ true) ↔ InClosure (FinMap.get (log_of entries)) (Sets.contains committed) (Sets.contains applied) slot
