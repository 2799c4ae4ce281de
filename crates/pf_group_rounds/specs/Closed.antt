-- What a server can apply is applied.
use Rattle.std.specs.Prelude.{◌≡◌, ◌↔◌, ℕ, true}
use Rattle.std.specs.FinMap
use Rattle.pf_entry.specs.Sets
use Rattle.pf_entry.specs.Applying.{InClosure}
use Rattle.pf_protocol.specs.Servers.{Server, has_applied}

-- the closure of what it applied, over its log and its committed marks, is what it applied
abbrev pub IsClosed : Server → Type 0
IsClosed s = (slot : ℕ) → (has_applied s slot ≡ true) ↔ InClosure (FinMap.get s.durable.log) (Sets.contains s.committed) (has_applied s) slot
