-- What a group shows of itself after a history, and the groups of the worked histories.
use Rattle.std.specs.Prelude.{◌≡◌, ℕ, Bool, List, [], ◌∷◌, map, length, Some, slice_get}
use Rattle.std.specs.FinMap
use Rattle.pf_entry.specs.Sets
use Rattle.pf_entry.specs.declared.ops.Op.{Op}
use Rattle.pf_entry.specs.declared.ops.Op.TheVariants.{Write}
use Rattle.pf_entry.specs.declared.entries.Entry.{Entry}
use Rattle.pf_entry.specs.Ops.{Sector}
use Rattle.pf_protocol.specs.Servers.{Setup, Server, Running}
use Rattle.pf_protocol.specs.Groups.{Group}
use Rattle.pf_protocol.specs.declared.answers.Answer.{Answer}
use Rattle.pf_protocol.specs.declared.answers.Answer.TheVariants.{Done, Job as JobIs}
use Rattle.pf_protocol.specs.declared.events.Event.{Event}
use Rattle.pf_protocol.specs.declared.events.Event.TheVariants.{Claim, Deliver, Finish}
use Rattle.pf_protocol.specs.declared.events.Happening.{Happening}

-- a slot of a log: its entry's term and op, and whether it is committed
pub record LogRow : Type 0 where
  pub slot : ℕ
  pub term : ℕ
  pub op : Op
  pub committed : Bool

abbrev pub log_row : Server → ℕ × Entry → LogRow
log_row s held = record { slot = held.0; term = held.1.term; op = held.1.op; committed = Sets.contains s.committed held.0 }

abbrev pub log_of : Server → List LogRow
log_of s = map (log_row s) (FinMap.entries s.durable.log)

-- a running server shows its term, its checkpoint, its log and the slots above the checkpoint that it applied
pub record ServerShows (g : Group) (i term base : ℕ) (log : List LogRow) (applied : List ℕ) : Type 0 where
  pub server : Server
  pub runs : slice_get g.servers i ≡ Some (Running server)
  pub its_term : server.durable.term ≡ term
  pub its_base : server.durable.base ≡ base
  pub its_log : log_of server ≡ log
  pub its_applied : Sets.items server.applied ≡ applied

-- a chunk of 16 sectors, in format 2, whose entries name the two slots before them
abbrev pub small_group : Setup
small_group = record { names = 2; window = 4096; chunk = 16; format = 2; failed = [] }

abbrev pub IsSector : Sector → Type 0
IsSector bytes = length bytes ≡ 512

-- a write of one sector
abbrev pub write_at : ℕ → Sector → Op
write_at sector bytes = Write (record { first = sector; count = 1 }) (bytes ∷ [])

abbrev pub line : (slot term : ℕ) → Op → Bool → LogRow
line slot term op committed = record { slot = slot; term = term; op = op; committed = committed }

abbrev pub so : Event → Answer → Happening
so event answer = record { event = event; answer = answer }

-- the packets of these numbers come, in this order
abbrev pub arrivals : List ℕ → List Happening
arrivals [] = []
arrivals (packet ∷ packets) = so (Deliver packet) Done ∷ arrivals packets

-- a server that did not restart claims the job of a slot, and finishes it
abbrev pub application : (server slot : ℕ) → Op → List Happening
application server slot op =
    so Claim (JobIs (record { server = server; life = 0; slot = slot; op = op }))
    ∷ so (Finish server 0 slot) Done
    ∷ []
