-- What the ports of mounts were asked and answered, as turns of the positions of a journal and as deeds at the chunks.
use Rattle.std.specs.Prelude.{◌≡◌, ℕ, ◌+◌, ◌*◌, ◌/◌, ◌%◌, ◌<◌, ◌≤◌, ◌⊎◌, ◌==◌, ◌&&◌, if◌then◌else◌, List, [], ◌∷◌, map, length, Option, Some, None}
use Rattle.pf_base.specs.Asks.{Answers, chunk_of, span_of}
use Rattle.pf_base.specs.declared.asks.Ask.{Ask}
use Rattle.pf_base.specs.declared.asks.Ask.TheVariants.{Write, Read}
use Rattle.pf_base.specs.declared.asks.Reply.{Reply}
use Rattle.pf_base.specs.declared.asks.Reply.TheVariants.{Written, Bytes}
use Rattle.pf_entry.specs.Ops.{Sector}
use Rattle.pf_protocol.specs.Groups.{Answered}
use Rattle.pf_volume.specs.Volumes.{Extent}
use Rattle.pf_paxos.specs.declared.block.Block.{Block}
use Rattle.pf_paxos.specs.Registers.{Ask as BlockAsk, AsksRead, AsksWrite, Gives, Reply as BlockReply, Turn, Written as IsPut}
use Rattle.pf_paxos.specs.Runs.{idle_turn}
use Rattle.pf_law_positions.specs.Deeds.{Deed, Submits, Takes}
use Rattle.pf_law_positions.specs.Homes.{if_asked, turn_or_idle}
use Rattle.pf_law_positions.specs.PortDeeds.{no_deed, port_ask, port_reply}
use Rattle.pf_journal.specs.Sectors.{HasSpelling, block_bytes, block_in}
use Rattle.pf_journal.specs.Layouts.{LayoutIs, place_on}
use Rattle.pf_law_homes.specs.Halves.{half_on}

-- As pf_file_calls has them: a run of sectors of the volume, and what is written there

abbrev pub half_reads : Extent → (first count : ℕ) → Ask
half_reads v first count = Read (first / v.sectors) (record { first = first % v.sectors; count = count })

abbrev pub half_writes : Extent → (first : ℕ) → List Sector → Ask
half_writes v first sectors = Write (first / v.sectors) (record { first = first % v.sectors; count = length sectors }) sectors

-- What is asked

-- what an ask is asked for: a ballot writes its own block at a position, or it or a sync reads a half; a pause reads the first sector; or
-- the ask is one for the superblock or for file data
pub data Matter : Type 0 where
  OfBlock : (position : ℕ) (block : Block) → Matter
  OfHalf : (position half : ℕ) → Matter
  OfPause : (position : ℕ) → Matter
  OfSuper : Matter
  OfData : Matter

-- what a port is asked, and by which client of the journal
pub record PortOwed : Type 0 where
  pub client : ℕ
  pub ask : Ask
  pub matter : Matter

-- Of a mount come two clients: one that reads and writes, and one that only reads
abbrev pub IsClientOf : (mount client : ℕ) → Type 0
IsClientOf mount client = (client ≡ mount) ⊎ (client ≡ 17 + mount)

-- the superblock is sector 0
pub record IsSuper (ask : Ask) : Type 0 where
  pub chunk : chunk_of ask ≡ 0
  pub first : (span_of ask).first ≡ 0
  pub one : (span_of ask).count ≡ 1

-- an ask for file data lies behind the journal, and in one chunk
pub record IsBehindJournal (l : LayoutIs) (v : Extent) (ask : Ask) : Type 0 where
  pub behind : 8 * l.first ≤ v.sectors * chunk_of ask + (span_of ask).first
  pub few : (span_of ask).count ≤ 8
  pub room : (span_of ask).first < v.sectors

-- at an anchor, by a mount. (Ports from the count of anchors on are for file data)
abbrev pub IsAskFor : LayoutIs → Extent → (mount port client : ℕ) → Matter → Ask → Type 0
IsAskFor l v mount port client (OfBlock position block) ask = (port < length l.anchors) × (position < l.positions) × (client ≡ mount) × HasSpelling block
    × (ask ≡ half_writes v (place_on l port position mount) (block_bytes block ∷ []))
IsAskFor l v mount port client (OfHalf position half) ask = (port < length l.anchors) × (position < l.positions) × (half < 2)
    × (ask ≡ half_reads v (half_on l port position half) 8)
IsAskFor l v mount port client (OfPause position) ask = (position < l.positions) × (ask ≡ half_reads v (place_on l port position 0) 1)
IsAskFor l v mount port client OfSuper ask = IsSuper ask
IsAskFor l v mount port client OfData ask = IsBehindJournal l v ask

pub record IsOwed (l : LayoutIs) (v : Extent) (mount port : ℕ) (owed : PortOwed) : Type 0 where
  pub mount_low : mount < 16
  pub client : IsClientOf mount owed.client
  pub ask : IsAskFor l v mount port owed.client owed.matter owed.ask

-- What happens at ports

-- A port is asked something, or answers it: then the epoch of the ask's chunk whose group gave it, after so many events of its history, and
-- for a read what that group answered. Or it hands on what it has pending: the event of the group's history at that place. Or
-- something else happens, as that a call begins, or a ballot
pub data PortEvent : Type 0 where
  Goes : (mount port : ℕ) (owed : PortOwed) → PortEvent
  Comes : (mount port : ℕ) (reply : Reply) (epoch by : ℕ) (answer : Answered) → PortEvent
  Hands : (mount port epoch place : ℕ) → PortEvent
  Passes : PortEvent

-- what each port of each mount has pending
abbrev pub Pending : Type 0
Pending = (mount port : ℕ) → Option PortOwed

abbrev pub nothing_pending : Pending
nothing_pending mount port = None

abbrev pub pending_with : Pending → (mount port : ℕ) → Option PortOwed → Pending
pending_with pending mount port owed m p = if m == mount && p == port then owed else pending m p

abbrev pub pending_after : Pending → PortEvent → Pending
pending_after pending (Goes mount port owed) = pending_with pending mount port (Some owed)
pending_after pending (Comes mount port reply epoch by answer) = pending_with pending mount port None
pending_after pending (Hands mount port epoch place) = pending
pending_after pending Passes = pending

-- bytes that come are those that the answer gives of the range that was asked
abbrev pub IsAnswerOf : Ask → Reply → Answered → Type 0
IsAnswerOf (Read chunk span) (Bytes sectors) answer = (answer.range ≡ span) × (answer.bytes ≡ sectors)
IsAnswerOf ask reply answer = Unit {0}

abbrev pub IsReplyTo : Option PortOwed → Reply → Answered → Type 0
IsReplyTo None reply answer = ⊥
IsReplyTo (Some owed) reply answer = Answers owed.ask reply × IsAnswerOf owed.ask reply answer

-- a port has one ask pending at a time, and what comes answers it
abbrev pub CanHappen : LayoutIs → Extent → Pending → PortEvent → Type 0
CanHappen l v pending (Goes mount port owed) = (pending mount port ≡ None) × IsOwed l v mount port owed
CanHappen l v pending (Comes mount port reply epoch by answer) = IsReplyTo (pending mount port) reply answer
CanHappen l v pending event = Unit {0}

abbrev pub AreEventsFrom : LayoutIs → Extent → Pending → List PortEvent → Type 0
AreEventsFrom l v pending [] = Unit {0}
AreEventsFrom l v pending (event ∷ events) = CanHappen l v pending event × AreEventsFrom l v (pending_after pending event) events

abbrev pub AreEvents : LayoutIs → Extent → List PortEvent → Type 0
AreEvents l v events = AreEventsFrom l v nothing_pending events

-- As turns of a position at an anchor

abbrev pub asks_there : (position : ℕ) → Matter → Option BlockAsk
asks_there position (OfBlock other block) = if position == other then Some (AsksWrite block) else None
asks_there position (OfHalf other half) = if position == other then Some (AsksRead half) else None
asks_there position matter = None

abbrev pub ask_on : (anchor position port : ℕ) → Matter → Option BlockAsk
ask_on anchor position port matter = if port == anchor then asks_there position matter else None

abbrev pub block_reply : Reply → BlockReply
block_reply Written = IsPut
block_reply (Bytes sectors) = Gives (map block_in sectors)

abbrev pub port_turn_answered : (anchor position port : ℕ) → Option PortOwed → Reply → Turn
port_turn_answered anchor position port None reply = idle_turn
port_turn_answered anchor position port (Some owed) reply = turn_or_idle owed.client (if_asked (ask_on anchor position port owed.matter) (block_reply reply))
    None

abbrev pub turn_of_event : (anchor position : ℕ) → Pending → PortEvent → Turn
turn_of_event anchor position pending (Goes mount port owed) = turn_or_idle owed.client None (ask_on anchor position port owed.matter)
turn_of_event anchor position pending (Comes mount port reply epoch by answer) = port_turn_answered anchor position port (pending mount port) reply
turn_of_event anchor position pending event = idle_turn

abbrev pub port_turns_from : (anchor position : ℕ) → Pending → List PortEvent → List Turn
port_turns_from anchor position pending [] = []
port_turns_from anchor position pending (event ∷ events) = turn_of_event anchor position pending event ∷ port_turns_from anchor position
    (pending_after pending event) events

abbrev pub port_turns_on : (anchor position : ℕ) → List PortEvent → List Turn
port_turns_on anchor position events = port_turns_from anchor position nothing_pending events

-- As deeds at a chunk, by the chunk of the ask

abbrev pub deed_at : (chunk : ℕ) → PortOwed → Deed → Deed
deed_at chunk owed deed = if chunk_of owed.ask == chunk then deed else no_deed

abbrev pub deed_answered : (chunk epoch by : ℕ) → Answered → Option PortOwed → Reply → Deed
deed_answered chunk epoch by answer None reply = no_deed
deed_answered chunk epoch by answer (Some owed) reply = deed_at chunk owed (Takes owed.client (port_reply owed.ask epoch by answer reply) None)

abbrev pub deed_handed : (chunk epoch place : ℕ) → Option PortOwed → Deed
deed_handed chunk epoch place None = no_deed
deed_handed chunk epoch place (Some owed) = deed_at chunk owed (Submits owed.client (chunk_of owed.ask) epoch place)

abbrev pub deed_of : (chunk : ℕ) → Pending → PortEvent → Deed
deed_of chunk pending (Goes mount port owed) = deed_at chunk owed (Takes owed.client None (Some (port_ask owed.ask)))
deed_of chunk pending (Comes mount port reply epoch by answer) = deed_answered chunk epoch by answer (pending mount port) reply
deed_of chunk pending (Hands mount port epoch place) = deed_handed chunk epoch place (pending mount port)
deed_of chunk pending Passes = no_deed

abbrev pub deeds_from : (chunk : ℕ) → Pending → List PortEvent → List Deed
deeds_from chunk pending [] = []
deeds_from chunk pending (event ∷ events) = deed_of chunk pending event ∷ deeds_from chunk (pending_after pending event) events

abbrev pub deeds_on : (events : List PortEvent) → (chunk : ℕ) → List Deed
deeds_on events chunk = deeds_from chunk nothing_pending events
