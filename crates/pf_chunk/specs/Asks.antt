-- What a chunk tells a port, as a desk.
use Rattle.std.specs.Prelude.{◌≡◌, ℕ, IsTrue, Option, Some, None, slice_get}
use Rattle.std.specs.Option.{option_map}
use Rattle.pf_base.specs.declared.asks.Reply.{Reply}
use Rattle.pf_base.specs.declared.asks.Reply.TheVariants.{Bytes}
use Rattle.pf_base.specs.Span.{Span}
use Rattle.pf_protocol.specs.Servers.{Condition, Role, Running, Serving}
use Rattle.pf_protocol.specs.Groups.{Group}
use Rattle.pf_protocol.specs.declared.answers.Answer.{Answer}
use Rattle.pf_law_ports.specs.pf_group_network.specs.Shown.{is_acked, later_of}
use Rattle.pf_asks.specs.declared.port.Sent.{Sent}
use Rattle.pf_asks.specs.declared.port.Sent.TheVariants.{Slot, Number}
use Rattle.pf_asks.specs.Desks.{DeskCall, Led, Submitted, Fetched, WasAcked, Took}
use Rattle.pf_asks.specs.Ports.{reply_if}
use Rattle.pf_law_ports.specs.Calls.{number_in, slot_in}
use Rattle.pf_group_rounds.specs.pf_group.specs.declared.event.GroupEvent.{GroupEvent}
use Rattle.pf_group_rounds.specs.pf_group.specs.declared.event.GroupEvent.TheVariants as asked
use Rattle.pf_group_rounds.specs.pf_group.specs.GroupIs.{state_of}
use Rattle.pf_group_rounds.specs.pf_group.specs.Readers.{GroupHasTaken, LacksAnswer}
use Rattle.pf_group_rounds.specs.pf_group.specs.Steps.{GroupHasStepped}
use Rattle.pf_chunk.specs.Views.{ChunkIs, IsFetched}
use Rattle.pf_chunk.specs.Waiting.{answers_of_read}

-- how the last submission of an ask was answered, if it was
abbrev pub ask_reply : Group → (sent : Option Sent) → (last : ℕ) → Option Reply
ask_reply g None last = None
ask_reply g (Some (Slot slot)) last = reply_if (is_acked g last slot)
ask_reply g (Some (Number number)) last = option_map (λ a. Bytes a.bytes) (slice_get (answers_of_read g number) 0)

abbrev pub served_in_role : (term server : ℕ) → Role → Option (ℕ × ℕ)
served_in_role term server (Serving leader) = Some (term, server)
served_in_role term server role = None

-- the term in which a running server serves, and its number
abbrev pub served_by_condition : (server : ℕ) → Option Condition → Option (ℕ × ℕ)
served_by_condition server (Some (Running s)) = served_in_role s.durable.term server s.role
served_by_condition server c = None

abbrev pub served_at : Group → (server : ℕ) → Option (ℕ × ℕ)
served_at g server = served_by_condition server (slice_get g.servers server)

-- of the running servers that serve the one of the greatest term: the term and the number
abbrev pub serving_leader : Group → Option (ℕ × ℕ)
serving_leader g = later_of (later_of (served_at g 0) (served_at g 1)) (served_at g 2)

-- nothing but the group is different
abbrev pub OfGroup : (old new : ChunkIs) → Type 0
OfGroup old new = new ≡ record old { group = new.group }

-- one event of the group was answered, and tells this; it is not followed up
pub record HasTold {A : Type 0} (old : ChunkIs) (event : GroupEvent) (told_in : Answer → A) (told : A) (new : ChunkIs) : Type 0 where
  pub answer : Answer
  pub stepped : GroupHasStepped old.group event answer new.group
  pub rest : OfGroup old new
  pub tells : told ≡ told_in answer

-- The chunk before a call of a port, the call with what it answered, and the chunk after it. What is told of the state of its group is so
-- where the disks tell their content
abbrev pub ChunkSays : (old : ChunkIs) → DeskCall → (new : ChunkIs) → Type 0
ChunkSays old (Led leader) new = (new ≡ old) × (IsTrue old.group.told → leader ≡ serving_leader (state_of old.group))
ChunkSays old (Submitted server range sectors slot) new = HasTold old (asked.Submit server range sectors) slot_in slot new
ChunkSays old (Fetched server range number) new = HasTold old (asked.Fetch server range) number_in number new
ChunkSays old (WasAcked term slot is) new = (new ≡ old) × (IsTrue old.group.told → is ≡ is_acked (state_of old.group) term slot)
ChunkSays old (Took number None) new = (new ≡ old) × LacksAnswer old.group number
ChunkSays old (Took number (Some sectors)) new = GroupHasTaken old.group number sectors new.group × OfGroup old new

-- the read of this number was asked for so many sectors, which its answer has where the disks tell their content
abbrev pub CountsSectors : ChunkIs → (number count : ℕ) → Type 0
CountsSectors c number count = IsTrue c.group.told × ((range : Span) × IsFetched c.group.history number range × (range.count ≡ count))
