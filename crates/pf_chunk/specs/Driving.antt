-- A step of a port of a chunk.
use Rattle.std.specs.Prelude.{◌≡◌, ℕ, ◌++◌, IfSome, IsTrue, List, [], Option, Some, None, ◌⊎◌, if◌then◌else◌, length, slice_get, slice_set}
use Rattle.std.specs.Option.{option_and_then}
use Rattle.pf_base.specs.Asks.{Answers}
use Rattle.pf_base.specs.Span.{Span}
use Rattle.pf_base.specs.declared.asks.Ask.{Ask}
use Rattle.pf_base.specs.declared.asks.Ask.TheVariants as asks
use Rattle.pf_base.specs.declared.asks.Reply.{Reply}
use Rattle.pf_entry.specs.declared.ops.Op.TheVariants.{Write}
use Rattle.pf_protocol.specs.declared.answers.Answer.{Answer}
use Rattle.pf_protocol.specs.declared.answers.Answer.TheVariants.{Slot as SlotIs, Read as ReadIs}
use Rattle.pf_protocol.specs.declared.events.Event.{Event}
use Rattle.pf_protocol.specs.declared.events.Event.TheVariants.{Fetch, Submit}
use Rattle.pf_asks.specs.declared.port.Sent.{Sent}
use Rattle.pf_asks.specs.declared.port.Sent.TheVariants.{Slot, Number}
use Rattle.pf_asks.specs.Desks.{DeskCall, CallsLead}
use Rattle.pf_asks.specs.Ports.{Drives, Hears, IsLed, PortIs, ask_answered as answered_port, goes_to, new_port}
use Rattle.pf_group_rounds.specs.pf_group.specs.GroupIs.{state_of}
use Rattle.pf_group_rounds.specs.pf_group.specs.Packets.{NoneComesBack}
use Rattle.pf_group_rounds.specs.Agreeing.{TellsOfGroup}
use Rattle.pf_group_rounds.specs.Chunks.{event_answered}
use Rattle.pf_group_rounds.specs.Growing.{HasGrown}
use Rattle.pf_group_rounds.specs.Halts.{Halt}
use Rattle.pf_chunk.specs.declared.driving.PortStep.{PortStep}
use Rattle.pf_chunk.specs.declared.driving.PortStep.TheVariants.{Hear, Lead, Drive}
use Rattle.pf_chunk.specs.Asks.{ChunkSays, serving_leader, ask_reply}
use Rattle.pf_chunk.specs.Happenings.{Happened, happened}
use Rattle.pf_chunk.specs.Runs.{ChunkRun}
use Rattle.pf_chunk.specs.Views.{ChunkIs, ChunkIsReady, run_of}

-- the ask that is pending in the port of mount m
abbrev pub ask_at_port : List PortIs → (m : ℕ) → Option Ask
ask_at_port ports m = option_and_then (λ p. p.ask) (slice_get ports m)

-- the event that hands an ask to a server
abbrev pub event_of_ask : Ask → (server : ℕ) → Event
event_of_ask (asks.Write chunk range sectors) server = Submit server (Write range sectors)
event_of_ask (asks.Read chunk range) server = Fetch server range

-- what tells its answer then
abbrev pub sent_of : Answer → Option Sent
sent_of (SlotIs slot) = Some (Slot slot)
sent_of (ReadIs number) = Some (Number number)
sent_of answer = None

abbrev pub with_port : ChunkRun → (m : ℕ) → PortIs → ChunkRun
with_port c m p = record c { ports = slice_set c.ports m p }

abbrev pub asked_at : ChunkRun → (m : ℕ) → Ask → Option PortIs → ChunkRun
asked_at c m ask None = c
asked_at c m ask (Some p) = with_port c m (record p { ask = Some ask; sent = None })

-- an ask is put into the port of mount m
abbrev pub port_asked : ChunkRun → (m : ℕ) → Ask → ChunkRun
port_asked c m ask = asked_at c m ask (slice_get c.ports m)

-- One step of a port: the chunk afterwards, the reply if its last submission was answered, the lines of reads, and the place in the
-- group's history of the event by which it handed the ask on
pub record Driven : Type 0 where
  pub chunk : ChunkRun
  pub reply : Option Reply
  pub text : List ℕ
  pub place : Option ℕ

abbrev pub idle : ChunkRun → Driven
idle c = record { chunk = c; reply = None; text = []; place = None }

-- by an event of the group at this place
abbrev pub handed_by_event : (place : ℕ) → Happened → Driven
handed_by_event place h = record { chunk = h.chunk; reply = None; text = h.text; place = Some place }

-- handed to the server, which is one event of the group, and is followed up like any other
abbrev pub handed_to : List Halt → ChunkRun → (m : ℕ) → PortIs → Event → (term : ℕ) → Driven
handed_to halts c m p event term =
    handed_by_event (length c.group.history) (happened halts (with_port c m (record p { sent = sent_of (event_answered halts c.group event); last = term }))
    event)

-- to the leader of the greatest term, if it goes there
abbrev pub led_to : List Halt → ChunkRun → (m : ℕ) → PortIs → Ask → Option (ℕ × ℕ) → Driven
led_to halts c m p ask None = idle c
led_to halts c m p ask (Some (term, server)) = if goes_to p.sent p.last term then handed_to halts c m p (event_of_ask ask server) term else idle c

-- an answered ask is pending no more
abbrev pub replying : ChunkRun → (m : ℕ) → PortIs → Reply → Driven
replying c m p reply = record { chunk = with_port c m (answered_port p); reply = Some reply; text = []; place = None }

abbrev pub replied : List Halt → ChunkRun → (m : ℕ) → PortIs → Ask → Option Reply → Driven
replied halts c m p ask (Some reply) = replying c m p reply
replied halts c m p ask None = led_to halts c m p ask (serving_leader c.group.state)

abbrev pub driven_for : List Halt → ChunkRun → (m : ℕ) → PortIs → Option Ask → Driven
driven_for halts c m p None = idle c
driven_for halts c m p (Some ask) = replied halts c m p ask (ask_reply c.group.state p.sent p.last)

abbrev pub driven_at : List Halt → ChunkRun → (m : ℕ) → Option PortIs → Driven
driven_at halts c m None = idle c
driven_at halts c m (Some p) = driven_for halts c m p p.ask

-- one step of the port of mount m
abbrev pub driven : List Halt → ChunkRun → (m : ℕ) → Driven
driven halts c m = driven_at halts c m (slice_get c.ports m)

abbrev pub heard_if : ChunkRun → (m : ℕ) → PortIs → Option Reply → Driven
heard_if c m p (Some reply) = replying c m p reply
heard_if c m p None = idle c

abbrev pub heard_for : ChunkRun → (m : ℕ) → PortIs → Option Ask → Driven
heard_for c m p None = idle c
heard_for c m p (Some ask) = heard_if c m p (ask_reply c.group.state p.sent p.last)

abbrev pub heard_at : ChunkRun → (m : ℕ) → Option PortIs → Driven
heard_at c m None = idle c
heard_at c m (Some p) = heard_for c m p p.ask

-- the first half of a step of the port of mount m: its reply, if there is one
abbrev pub port_heard : ChunkRun → (m : ℕ) → Driven
port_heard c m = heard_at c m (slice_get c.ports m)

abbrev pub led_for : List Halt → ChunkRun → (m : ℕ) → PortIs → Option Ask → Driven
led_for halts c m p None = idle c
led_for halts c m p (Some ask) = led_to halts c m p ask (serving_leader c.group.state)

abbrev pub led_at : List Halt → ChunkRun → (m : ℕ) → Option PortIs → Driven
led_at halts c m None = idle c
led_at halts c m (Some p) = led_for halts c m p p.ask

-- the other half: no answer is looked for
abbrev pub led : List Halt → ChunkRun → (m : ℕ) → Driven
led halts c m = led_at halts c m (slice_get c.ports m)

abbrev pub run_by : PortStep → List Halt → ChunkRun → (m : ℕ) → Driven
run_by Hear halts c m = port_heard c m
run_by Lead halts c m = led halts c m
run_by Drive halts c m = driven halts c m

-- under every list of halts that tells of the group afterwards, the step comes to this chunk, gives this reply and writes this text,
-- which was put at the end of a buffer
pub record ChunkHasGone (step : PortStep) (m : ℕ) (old : ChunkIs) (before : List ℕ) (reply : Option Reply) (after : List ℕ) (new : ChunkIs) : Type 0 where
  pub grown : HasGrown old.group new.group
  pub ready : ChunkIsReady new
  pub left : IsTrue old.group.told → NoneComesBack (state_of old.group) (state_of new.group)
  pub first : new.first_left ≡ old.first_left
  pub text : List ℕ
  pub place : Option ℕ
  pub put : after ≡ before ++ text
  pub run : (halts : List Halt) → TellsOfGroup halts new.group → run_by step halts (run_of halts old) m
      ≡ record { chunk = run_of halts new; reply = reply; text = text; place = place }

abbrev pub HasDriven : (m : ℕ) (old : ChunkIs) (before : List ℕ) (reply : Option Reply) (after : List ℕ) (new : ChunkIs) → Type 0
HasDriven m old before reply after new = ChunkHasGone Drive m old before reply after new

abbrev pub HasLed : (m : ℕ) (old : ChunkIs) (before after : List ℕ) (new : ChunkIs) → Type 0
HasLed m old before after new = ChunkHasGone Lead m old before None after new

-- under every list of halts that tells of the group afterwards, the first half of a step comes to this chunk and gives this reply
pub record HasHeard (m : ℕ) (old : ChunkIs) (reply : Option Reply) (new : ChunkIs) : Type 0 where
  pub grown : HasGrown old.group new.group
  pub ready : ChunkIsReady new
  pub left : IsTrue old.group.told → NoneComesBack (state_of old.group) (state_of new.group)
  pub first : new.first_left ≡ old.first_left
  pub run : (halts : List Halt) → TellsOfGroup halts new.group → port_heard (run_of halts old) m
      ≡ record { chunk = run_of halts new; reply = reply; text = []; place = None }

-- an answered ask is pending no more
abbrev pub ask_after : Option Reply → Option Ask → Option Ask
ask_after None ask = ask
ask_after (Some reply) ask = None

-- What a step did to the ports: an answered ask is pending no more, what was not handed on before is not answered, and no port but that of
-- mount m is different
pub record PortDrove (m : ℕ) (reply : Option Reply) (old new : ChunkIs) : Type 0 where
  pub port : PortIs
  pub ports : new.ports ≡ slice_set old.ports m port
  pub asks : (before : PortIs) → slice_get old.ports m ≡ Some before → port.ask ≡ ask_after reply before.ask
  pub unsent : (before : PortIs) → slice_get old.ports m ≡ Some before → before.sent ≡ None → reply ≡ None

-- the chunk and the range of a read
abbrev pub range_read : Ask → Option (ℕ × Span)
range_read (asks.Write chunk range sectors) = None
range_read (asks.Read chunk range) = Some (chunk, range)

-- A reply that does not fit its ask, as a read of other sectors than were asked for, is not heeded: the ask is pending again, as a new one.
-- Where the disks tell their content there is none such.
abbrev pub Heeds : Ask → (given : Option Reply) → (left : PortIs) → Option Reply → (next : PortIs) → Type 0
Heeds ask None left reply next = (reply ≡ None) × (next ≡ left)
Heeds ask (Some given) left reply next =
    (Answers ask given × (reply ≡ Some given) × (next ≡ left)) ⊎ ((Answers ask given → ⊥) × (reply ≡ None)
    × (next ≡ record left { ask = Some ask; sent = None }))

-- a step of a port, or a half of it, by these calls of the desk
abbrev pub StepsBy : PortStep → (old : PortIs) → Ask → List DeskCall → Option Reply → (new : PortIs) → Type 0
StepsBy Hear old ask calls reply new = Hears old calls reply new
StepsBy Lead old ask calls reply new = (reply ≡ None) × IsLed old ask calls new
StepsBy Drive old ask calls reply new = Drives old ask calls reply new

-- the port took the step over the rest of the chunk, and stands in its place again; nothing is followed up
pub record HandsOn (step : PortStep) (m : ℕ) (old : ChunkIs) (reply : Option Reply) (new : ChunkIs) : Type 0 where
  pub port : PortIs
  pub there : slice_get old.ports m ≡ Some port
  pub ask : Ask
  pub pending : port.ask ≡ Some ask
  pub calls : List DeskCall
  pub after : ChunkIs
  pub leads : CallsLead ChunkSays (record old { ports = slice_set old.ports m new_port }) calls after
  pub given : Option Reply
  pub left : PortIs
  pub steps : StepsBy step port ask calls given left
  pub fits : IsTrue old.group.told → IfSome given (Answers ask)
  pub next : PortIs
  pub heeds : Heeds ask given left reply next
  pub is : new ≡ record after { ports = slice_set after.ports m next }
