-- What a port did to its group, and what its calls say of the group and do to it.
use Rattle.std.specs.Prelude.{◌≡◌, ◌↔◌, ℕ, List, [], ◌∷◌, ◌++◌, Option, Some, None, IsTrue, slice_get}
use Rattle.pf_base.specs.Span.{Span}
use Rattle.pf_entry.specs.Ops.{Sector}
use Rattle.pf_entry.specs.declared.ops.Op.TheVariants.{Write}
use Rattle.pf_protocol.specs.declared.answers.Answer.{Answer}
use Rattle.pf_protocol.specs.declared.answers.Answer.TheVariants.{Slot, Read}
use Rattle.pf_protocol.specs.declared.events.Event.TheVariants.{Fetch}
use Rattle.pf_protocol.specs.declared.events.Happening.{Happening}
use Rattle.pf_protocol.specs.Servers.{Setup}
use Rattle.pf_protocol.specs.Groups.{Group}
use Rattle.pf_protocol.specs.Histories.{History, replay}
use Rattle.pf_protocol.specs.Ports.{Submission, submitting}
use Rattle.pf_group_network.specs.Showing.{HasAnswer}
use Rattle.pf_group_network.specs.Shown.{IsLeader}
use Rattle.pf_asks.specs.Desks.{DeskCall, CallsLead, Led, Submitted, Fetched, WasAcked, Took}

-- a port asks a server for the sectors of a range, perhaps once more
pub record Fetching : Type 0 where
  pub ask : ℕ  -- its number
  pub before : History  -- of the group
  pub server : ℕ
  pub range : Span
  pub answer : Answer

abbrev pub fetching : Fetching → Happening
fetching f = record { event = Fetch f.server f.range; answer = f.answer }

-- what happened in a group by now, and what a port did of it
pub record PortPast : Type 0 where
  pub history : History  -- of the group
  pub asks : ℕ  -- the number of the last one that was put into the port, 0 where none was: they have numbers that ascend
  pub writes : List Submission  -- each time that it handed on a write, in order
  pub reads : List Fetching  -- each time that it asked for sectors, in order

-- a port that was never asked anything
abbrev pub new_past : History → PortPast
new_past history = record { history = history; asks = 0; writes = []; reads = [] }

-- the last ask is handed to a server as a write of these sectors
abbrev pub submission_of : PortPast → (server : ℕ) → Span → List Sector → Answer → Submission
submission_of past server range sectors answer = record { write = past.asks; before = past.history; server = server; op = Write range sectors; answer = answer }

-- the last ask is handed to a server as a read of this range
abbrev pub fetching_of : PortPast → (server : ℕ) → Span → Answer → Fetching
fetching_of past server range answer = record { ask = past.asks; before = past.history; server = server; range = range; answer = answer }

abbrev pub with_write : PortPast → Submission → PortPast
with_write past a = record past { history = past.history ++ submitting a ∷ []; writes = past.writes ++ a ∷ [] }

abbrev pub with_read : PortPast → Fetching → PortPast
with_read past f = record past { history = past.history ++ fetching f ∷ []; reads = past.reads ++ f ∷ [] }

-- the slot in an answer
abbrev pub slot_in : Answer → Option ℕ
slot_in (Slot slot) = Some slot
slot_in _ = None

-- the number of a read in an answer
abbrev pub number_in : Answer → Option ℕ
number_in (Read number) = Some number
number_in _ = None

-- the leader of this term acknowledged the slot to hosts
pub record HasAcked (g : Group) (term slot : ℕ) : Type 0 where
  pub k : ℕ
  pub at : slice_get g.acked k ≡ Some (record { term = term; slot = slot })

-- What a call says of the group is so, and this is left of it. To submit or to fetch is one event of the group, whose answer tells the
-- slot or the number. A look does nothing
abbrev pub PastSays : Setup → (old : PortPast) → DeskCall → (new : PortPast) → Type 0
PastSays setup old (Led leader) new = (new ≡ old) × IsLeader (replay setup old.history) leader
PastSays setup old (Submitted server range sectors slot) new = (answer : Answer) × (slot ≡ slot_in answer)
    × (new ≡ with_write old (submission_of old server range sectors answer))
PastSays setup old (Fetched server range number) new = (answer : Answer) × (number ≡ number_in answer)
    × (new ≡ with_read old (fetching_of old server range answer))
PastSays setup old (WasAcked term slot is) new = (new ≡ old) × (IsTrue is ↔ HasAcked (replay setup old.history) term slot)
PastSays setup old (Took number None) new = new ≡ old
PastSays setup old (Took number (Some sectors)) new = (new ≡ old) × HasAnswer (replay setup old.history).answered number sectors

-- calls that follow each other, with no event of anybody else between them
abbrev pub SayInTurn : Setup → (old : PortPast) → List DeskCall → (new : PortPast) → Type 0
SayInTurn setup old calls new = CallsLead (PastSays setup) old calls new
