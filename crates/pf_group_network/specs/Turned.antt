-- A turn of one server of a network.
use Rattle.std.specs.Prelude.{◌≡◌, ◌⊎◌, ℕ, ◌-◌, ◌<◌, Bool, true, false, List, [], length, map, Option, Some, None, Result, Ok, Err, slice_get, slice_set}
use Rattle.pf_base.specs.declared.errors.NoMemory.{NoMemory}
use Rattle.pf_entry.specs.Lists.{Every}
use Rattle.pf_entry.specs.Canonical.{IsCanonicalPacket}
use Rattle.pf_wire.specs.Packets.{packet_bytes}
use Rattle.pf_protocol.specs.declared.answers.Answer.{Answer}
use Rattle.pf_protocol.specs.declared.answers.Answer.TheVariants.{Refused}
use Rattle.pf_protocol.specs.declared.answers.Refusal.{Refusal}
use Rattle.pf_protocol.specs.declared.answers.Refusal.TheVariants.{Down, Halted}
use Rattle.pf_protocol.specs.Servers.{Setup, Server as ServerIs, Condition, Running as RunningIs}
use Rattle.pf_protocol.specs.Outcomes.{Outcome}
use Rattle.pf_protocol.specs.Rows.{settled}
use Rattle.pf_protocol.specs.Asked.{AreBelow}
use Rattle.pf_protocol.specs.Groups.{Group, Untouched, Whole, at_server, ending, ending_of, reads_after}
use Rattle.pf_protocol.specs.Answers.{ServerTurn, answer_at, can_halt, packets_full}
use Rattle.pf_server_store.specs.Stores.{StoreModel}
use Rattle.pf_server_memory.specs.Outgoing.{Outgoing}
use Rattle.pf_server.specs.declared.server.Server.{Server}
use Rattle.pf_server.specs.Conditions.{AreSized, Meets, untaken_answers}
use Rattle.pf_server.specs.Turns.{Comes, answers_after}
use Rattle.pf_group_network.specs.AckedSlots.{AckedHasRoom}
use Rattle.pf_group_network.specs.declared.network.Network.{Network}
use Rattle.pf_group_network.specs.Showing.{AreMembers, HasTraffic, Shows, seat_of}

abbrev pub is_refused : Answer → Bool
is_refused (Refused refusal) = true
is_refused _ = false

-- room for the packets of one step
abbrev pub outbox_of : {S : Type 0} → Network S → Outgoing
outbox_of network = record { packets = []; packet_room = 65536 - length network.packets.items; byte_room = network.byte_room; acked = None }

-- a refusal leaves the group as it was
abbrev pub LeavesAll : Option Refusal → Type 0
LeavesAll None = Unit {0}
LeavesAll (Some refusal) = ending_of refusal ≡ Untouched

-- what every group knows of a turn of its server
pub record IsTurnOf (g : Group) (turn : ServerTurn) (s : ServerIs) : Type 0 where
  pub leaves : LeavesAll (turn.refusal s)
  pub whole : turn.refusal s ≡ None → ending (turn.rule s).answer ≡ Whole
  pub fits : turn.refusal s ≡ None → packets_full g (turn.rule s).packets ≡ false
  pub below : turn.refusal s ≡ None → AreBelow (reads_after g.reads (turn.rule s).answer) (turn.rule s).server.reads
  pub canonical : turn.refusal s ≡ None → Every IsCanonicalPacket (turn.rule s).packets

-- the turn is answered so
abbrev pub IsTurned : Option Condition → ServerTurn → Answer → Type 0
IsTurned c turn answer = (answer ≡ answer_at c turn) ⊎ ((can_halt c turn ≡ true) × (answer ≡ Refused Halted))

-- how many reads there are then
abbrev pub reads_with : ℕ → Result Answer NoMemory → ℕ
reads_with reads (Ok answer) = reads_after reads answer
reads_with reads (Err e) = reads

module _ {S : Type 0} (model : StoreModel S) where
  -- server i has carried out its step; what it sent, acknowledged and answered is not kept yet
  pub record HasStepped (setup : Setup) (g : Group) (i : ℕ) (o : Outcome) (network : Network S) (out : Outgoing) : Type 0 where
    pub before : List (Server S)
    pub me : Server S
    pub now : network.servers.items ≡ slice_set before i me
    pub three : length before ≡ 3
    pub low : i < 3
    pub members : AreMembers model setup before g.servers
    pub seat : me.seat ≡ seat_of setup i
    pub meets : Meets model me.seat me.store me.state (RunningIs (settled o.server))
    pub answers : untaken_answers me.state ≡ answers_after o.server
    pub sized : AreSized (untaken_answers me.state)
    pub traffic : HasTraffic network g
    pub reads : length network.readings.items ≡ reads_after g.reads o.answer
    pub below : AreBelow (reads_after g.reads o.answer) o.server.reads
    pub fits : packets_full g o.packets ≡ false
    pub canonical : Every IsCanonicalPacket o.packets
    pub sent : out.packets ≡ map packet_bytes o.packets
    pub acks : out.acked ≡ o.acked

  -- the turn was answered as the rules say, and the network stands for the group after it
  pub record HasEnded (setup : Setup) (g : Group) (i : ℕ) (turn : ServerTurn) (network : Network S) (answer : Answer) : Type 0 where
    pub answered : IsTurned (slice_get g.servers i) turn answer
    pub shows : Shows model setup network (at_server (ending answer) g i turn.rule)

  -- the turn ended so, or there was no memory for it
  abbrev pub Ends : Setup → Group → (i : ℕ) → ServerTurn → Network S → Result Answer NoMemory → Type 0
  Ends setup g i turn network (Ok answer) = HasEnded setup g i turn network answer
  Ends setup g i turn network (Err e) = Shows model setup network g

  -- what came of a turn at a server in this condition
  abbrev pub Took : ServerTurn → (before after : Server S) → (out out' : Outgoing) → Result Answer NoMemory → Condition → Type 0
  Took turn before after out out' outcome (RunningIs s) = Comes model before.seat before.store after.store after.state s out out' (turn.refusal s) (turn.rule s)
      outcome
  Took turn before after out out' outcome _ = (after ≡ before) × (outcome ≡ Ok (Refused Down))

  -- server i has had its turn; what it sent, acknowledged and answered is not kept yet
  pub record HasTurned (setup : Setup) (g : Group) (i : ℕ) (turn : ServerTurn) (network : Network S) (out : Outgoing) (outcome : Result Answer NoMemory) : Type
      0 where
    pub before : List (Server S)
    pub me : Server S
    pub next : Server S
    pub c : Condition
    pub here : slice_get before i ≡ Some me
    pub there : slice_get g.servers i ≡ Some c
    pub now : network.servers.items ≡ slice_set before i next
    pub three : length before ≡ 3
    pub members : AreMembers model setup before g.servers
    pub seat : next.seat ≡ me.seat
    pub tells : model.told next.store ≡ model.told me.store
    pub took : Took turn me next (outbox_of network) out outcome c
    pub knows : (s : ServerIs) → c ≡ RunningIs s → IsTurnOf g turn s
    pub traffic : HasTraffic network g
    pub place : AckedHasRoom network.acked.list network.acked.known
    pub reads : length network.readings.items ≡ reads_with g.reads outcome
