-- The state that is saved.
use Rattle.std.specs.Prelude.{ℕ, nat_lt}
use Rattle.pf_entry.specs.Sets
use Rattle.pf_entry.specs.Records.{Durable}
use Rattle.pf_server_memory.specs.declared.running.Running.{Running}
use Rattle.pf_server_memory.specs.Images.{imaged}

-- a server's state with its checkpoint there
abbrev pub state_saved_at : Running → (base : ℕ) → Durable
state_saved_at me base = imaged me me.term base (Sets.retain me.applied.slots (nat_lt base)) me.sectors
