-- What keeps its size in every legal history: entries lie in the window above a checkpoint and fit the chunk, and no number grows
-- faster than the history.
use Rattle.std.specs.Prelude.{◌≡◌, ℕ, suc, ◌+◌, ◌<◌, ◌≤◌, ◌≢◌, true, List, [], length, map, Some, slice_get}
use Rattle.std.specs.FinMap
use Rattle.pf_base.specs.Span.{IsWritable, is_span, is_whole, fits_in}
use Rattle.pf_entry.specs.Maps.{Numbers}
use Rattle.pf_entry.specs.Sets
use Rattle.pf_entry.specs.Lists.{Every}
use Rattle.pf_entry.specs.Tables.{ascends}
use Rattle.pf_entry.specs.Ops.{Sector}
use Rattle.pf_entry.specs.Records.{Durable, vote_of}
use Rattle.pf_entry.specs.declared.ops.Op.{Op}
use Rattle.pf_entry.specs.declared.ops.Op.TheVariants.{Write, Noop, Mark}
use Rattle.pf_entry.specs.declared.entries.Named.{Named}
use Rattle.pf_entry.specs.declared.entries.Entry.{Entry}
use Rattle.pf_entry.specs.declared.entries.VoteLog.{VoteLog}
use Rattle.pf_entry.specs.declared.packets.Packet.{Packet}
use Rattle.pf_entry.specs.declared.packets.Body.{Body}
use Rattle.pf_entry.specs.declared.packets.Body.TheVariants.{RequestVote, Vote, Accept, Ack, Nack, Commit, Probe, ProbeOk, Image}
use Rattle.pf_protocol.specs.Servers.{Setup, Leader, Role, Follower, Candidate, Merging, Serving, Server, Condition, Running, Stopped, Unformatted}
use Rattle.pf_protocol.specs.Groups.{Group}

-- only the second format has marks
abbrev pub HasMarks : Setup → Type 0
HasMarks setup = setup.format ≡ 2

abbrev pub OpFits : Setup → Op → Type 0
OpFits setup (Write range payload) = IsWritable range.first range.count × (length payload ≡ range.count) × Every (λ bytes. length bytes ≡ 512) payload
    × (fits_in range setup.chunk ≡ true)
OpFits setup Noop = Unit {0}
OpFits setup Mark = HasMarks setup

pub record NameFits (setup : Setup) (slot : ℕ) (n : Named) : Type 0 where
  pub below : n.slot < slot
  pub span : is_span n.range ≡ true
  pub fits : fits_in n.range setup.chunk ≡ true
  pub marks : is_whole n.range ≡ true → HasMarks setup

-- slots up to n, and terms up to t
pub record EntryFits (setup : Setup) (n t : ℕ) (e : Entry) : Type 0 where
  pub slot : 1 ≤ e.slot
  pub slot_low : e.slot ≤ n
  pub term : 1 ≤ e.term
  pub term_low : e.term ≤ t
  pub first : 1 ≤ e.first
  pub first_low : e.first ≤ suc n
  pub few : length e.look ≤ setup.names
  pub ascending : ascends (map (λ m. m.slot) e.look) ≡ true
  pub named : Every (NameFits setup e.slot) e.look
  pub merged : e.slot < e.first → e.look ≡ []
  pub op : OpFits setup e.op

-- an entry under its slot, above the checkpoint and within the window
pub record EntryStandsIn (setup : Setup) (n t base slot : ℕ) (e : Entry) : Type 0 where
  pub fits : EntryFits setup n t e
  pub in_slot : e.slot ≡ slot
  pub is_above : base < slot
  pub within : slot ≤ base + setup.window

pub record StartFits (n t term first : ℕ) : Type 0 where
  pub term_is : 1 ≤ term
  pub term_low : term ≤ t
  pub first_is : 1 ≤ first
  pub first_low : first ≤ suc n

pub record VoteFits (setup : Setup) (n t : ℕ) (v : VoteLog) : Type 0 where
  pub base : v.base ≤ n
  pub log : (slot : ℕ) (e : Entry) → FinMap.get v.log slot ≡ Some e → EntryStandsIn setup n t v.base slot e
  pub starts : (term first : ℕ) → FinMap.get v.starts term ≡ Some first → StartFits n t term first

-- slots above the checkpoint, within the window
abbrev pub SlotFits : Setup → (n base slot : ℕ) → Type 0
SlotFits setup n base slot = (base < slot) × (slot ≤ base + setup.window) × (slot ≤ n)

abbrev pub SlotsFit : Setup → (n base : ℕ) → Numbers → Type 0
SlotsFit setup n base slots = (slot : ℕ) → Sets.contains slots slot ≡ true → SlotFits setup n base slot

abbrev pub SectorsFit : Setup → List Sector → Type 0
SectorsFit setup sectors = (length sectors ≡ setup.chunk) × Every (λ bytes. length bytes ≡ 512) sectors

pub record DurableFits (setup : Setup) (n t : ℕ) (d : Durable) : Type 0 where
  pub generation : d.generation ≤ n
  pub term : 1 ≤ d.term
  pub term_low : d.term ≤ t
  pub vote : VoteFits setup n t (vote_of d)
  pub saved : SlotsFit setup n d.base d.saved
  pub sectors : SectorsFit setup d.sectors

pub record LeaderFits (n base : ℕ) (l : Leader) : Type 0 where
  pub first : 1 ≤ l.first
  pub first_low : l.first ≤ l.next
  pub next_low : l.next ≤ suc n
  pub above_base : base < l.next
  pub b0_low : l.b0 ≤ base
  pub acks : (slot : ℕ) (servers : Numbers) → FinMap.get l.acks slot ≡ Some servers → (l.b0 < slot) × (slot < l.next)
  pub known : (server upto : ℕ) → FinMap.get l.known server ≡ Some upto → upto ≤ n

abbrev pub RoleFits : Setup → (n t base : ℕ) → Role → Type 0
RoleFits setup n t base Follower = Unit {0}
RoleFits setup n t base (Candidate own) = VoteFits setup n t own × (own.base ≤ base)
RoleFits setup n t base (Merging l) = LeaderFits n base l
RoleFits setup n t base (Serving l) = LeaderFits n base l

pub record ServerFits (setup : Setup) (n t : ℕ) (s : Server) : Type 0 where
  pub number : s.number < 3
  pub life : s.life ≤ n
  pub durable : DurableFits setup n t s.durable
  pub applied : SlotsFit setup n s.durable.base s.applied
  pub sectors : SectorsFit setup s.sectors
  pub in_hand : (slot : ℕ) (op : Op) → FinMap.get s.in_hand slot ≡ Some op → SlotFits setup n s.durable.base slot × OpFits setup op
  pub reads : Every (λ r. r.number ≤ n) s.reads
  pub role : RoleFits setup n t s.durable.base s.role

abbrev pub ConditionFits : Setup → (n t : ℕ) → Condition → Type 0
ConditionFits setup n t (Running s) = ServerFits setup n t s
ConditionFits setup n t (Stopped life before after) = (life ≤ n) × DurableFits setup n t before × DurableFits setup n t after
ConditionFits setup n t Unformatted = Unit {0}

abbrev pub BodyFits : Setup → (n t term : ℕ) → Body → Type 0
BodyFits setup n t term (RequestVote base) = base ≤ n
BodyFits setup n t term (Vote v) = VoteFits setup n t v
BodyFits setup n t term (Accept e) = EntryFits setup n t e × (e.term ≡ term)
BodyFits setup n t term (Ack slot upto) = (slot ≤ n) × (upto ≤ n)
BodyFits setup n t term Nack = Unit {0}
BodyFits setup n t term (Commit slot) = slot ≤ n
BodyFits setup n t term (Probe number) = number ≤ n
BodyFits setup n t term (ProbeOk number upto) = (number ≤ n) × (upto ≤ n)
BodyFits setup n t term (Image base applied sectors) = (base ≤ n) × SlotsFit setup n base applied × SectorsFit setup sectors

pub record PacketFits (setup : Setup) (n t : ℕ) (p : Packet) : Type 0 where
  pub from : p.from < 3
  pub to : p.to < 3
  pub apart : p.from ≢ p.to
  pub term : 1 ≤ p.term
  pub term_low : p.term ≤ t
  pub body : BodyFits setup n t p.term p.body

-- after n events. Each election raises the greatest term by one at most
pub record GroupFits (setup : Setup) (n : ℕ) (g : Group) : Type 0 where
  pub servers : (i : ℕ) (c : Condition) → slice_get g.servers i ≡ Some c → (i < 3) × ConditionFits setup n (suc g.elections) c
  pub packets : Every (λ sent. PacketFits setup n (suc g.elections) sent.packet) g.packets
  pub elections : g.elections ≤ 64
  pub reads : g.reads ≤ n

-- what fits after n events, where terms began above `top` at most, and a restart may have begun from any state that fits
pub record FitsFrom (setup : Setup) (top n : ℕ) (g : Group) : Type 0 where
  pub servers : (i : ℕ) (c : Condition) → slice_get g.servers i ≡ Some c → (i < 3) × ConditionFits setup n (suc (top + g.elections)) c
  pub packets : Every (λ sent. PacketFits setup n (suc (top + g.elections)) sent.packet) g.packets
  pub elections : g.elections ≤ 64
  pub reads : g.reads ≤ n
