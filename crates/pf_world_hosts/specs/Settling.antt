-- Packets are delivered until none is left.
use Rattle.std.specs.Prelude.{◌≡◌, ℕ, zero, suc, ◌+◌, ◌*◌, Bool, true, false, not, ◌&&◌, ◌==◌, List, [], ◌∷◌, ◌++◌, length, find, Option, Some, None}
use Rattle.std.specs.List.{list_any, range_with_len}
use Rattle.pf_protocol.specs.declared.events.Event.TheVariants.{Deliver}
use Rattle.pf_protocol.specs.Answers.{most_packets}
use Rattle.pf_mount_host.specs.pf_group_rounds.specs.Halts.{Halt}
use Rattle.pf_mount_host.specs.pf_group.specs.Packets.{is_left_in, is_refused_for_room}
use Rattle.pf_mount_host.specs.pf_chunk.specs.Runs.{ChunkRun}
use Rattle.pf_mount_host.specs.pf_chunk.specs.Happenings.{Happened, happened}
use Rattle.pf_mount_host.specs.pf_world_moments.specs.Moments.{Moment}
use Rattle.pf_world_hosts.specs.Volumes.{VolumeTold, VolumeRun, volume_happens}

-- a packet by its chunk and its number
pub record PacketName : Type 0 where
  pub chunk : ℕ
  pub packet : ℕ

abbrev pub is_among : List PacketName → (chunk packet : ℕ) → Bool
is_among names chunk packet = list_any (λ name. name.chunk == chunk && name.packet == packet) names

-- the least packet of a chunk that is left and was not passed over
abbrev pub least_left_of_chunk : (passed : List PacketName) → ChunkRun → Option ℕ
least_left_of_chunk passed c =
    find (λ k. is_left_in c.group.state k && not (is_among passed c.group.number k)) (range_with_len 0 (length c.group.state.packets))

-- of the least chunk that has one
pub record NextPacket : Type 0 where
  pub chunk : ChunkRun
  pub packet : ℕ

abbrev pub next_in_chunk : ChunkRun → Option ℕ → Option NextPacket → Option NextPacket
next_in_chunk c None rest = rest
next_in_chunk c (Some k) rest = Some (record { chunk = c; packet = k })

abbrev pub next_packet : (passed : List PacketName) → List ChunkRun → Option NextPacket
next_packet passed [] = None
next_packet passed (c ∷ cs) = next_in_chunk c (least_left_of_chunk passed c) (next_packet passed cs)

pub record Settled : Type 0 where
  pub volume : VolumeRun
  pub told : List Moment
  pub stopped : Bool  -- whether a packet was left when all deliveries were made
  pub spare : ℕ  -- the deliveries that were not made
  pub passed : List PacketName  -- the packets that were passed over

abbrev pub ends : (stopped : Bool) → (limit : ℕ) → List PacketName → VolumeRun → Settled
ends stopped limit passed v = record { volume = v; told = []; stopped = stopped; spare = limit; passed = passed }

abbrev pub having_told : List Moment → Settled → Settled
having_told told s = record s { told = told ++ s.told }

-- how it goes on: with so many deliveries, past these packets
abbrev pub SettlesOn : Type 0
SettlesOn = (limit : ℕ) → (passed : List PacketName) → VolumeRun → Settled

-- a packet that was passed over counts as no delivery
abbrev pub settling_goes_on : (is_passed : Bool) → PacketName → (limit : ℕ) → List PacketName → VolumeRun → SettlesOn → Settled
settling_goes_on true name limit passed v more = more (suc limit) (name ∷ passed) v
settling_goes_on false name limit passed v more = more limit passed v

abbrev pub packet_name_of : NextPacket → PacketName
packet_name_of next = record { chunk = next.chunk.group.number; packet = next.packet }

abbrev pub next_delivered : List Halt → NextPacket → Happened
next_delivered halts next = happened halts next.chunk (Deliver next.packet)

-- after a delivery, and the hosts' steps
abbrev pub tried : VolumeTold → (is_passed : Bool) → PacketName → (limit : ℕ) → List PacketName → SettlesOn → Settled
tried t is_passed name limit passed more = having_told t.told (settling_goes_on is_passed name limit passed t.volume more)

-- quiet where no packet is left, stopped where one is and no delivery
abbrev pub settle_next : List Halt → Option NextPacket → SettlesOn → SettlesOn
settle_next halts None more limit passed v = ends false limit passed v
settle_next halts (Some next) more zero passed v = ends true zero passed v
settle_next halts (Some next) more (suc limit) passed v =
    tried (volume_happens halts v (next_delivered halts next)) (is_refused_for_room (next_delivered halts next).answer) (packet_name_of next) limit passed more

-- A function that counts its tries follows the loop of a proof step by step, and leaves no choice.
unfoldable pub settle_to : (tries : ℕ) → List Halt → SettlesOn
settle_to zero halts limit passed v = ends true limit passed v
settle_to (suc tries) halts limit passed v = settle_next halts (next_packet passed v.chunks) (settle_to tries halts) limit passed v

-- Each try is a delivery, or passes a packet over: each of 8 groups sends at most 65,536. The last one finds that all are made, or none left.
abbrev pub enough_tries : (limit : ℕ) → ℕ
enough_tries limit = suc (limit + 8 * most_packets)

unfoldable pub settled : List Halt → (limit : ℕ) → VolumeRun → Settled
settled halts limit v = settle_to (enough_tries limit) halts limit [] v

-- quiet where no packet is left but those that were passed over; stopped where one is, and all deliveries were made
abbrev pub IsEnd : (stopped : Bool) → (spare : ℕ) → Option NextPacket → Type 0
IsEnd true spare None = ⊥
IsEnd true spare (Some next) = spare ≡ 0
IsEnd false spare None = Unit {0}
IsEnd false spare (Some next) = ⊥

-- it was not the count of tries that ended it
abbrev pub SettlingHasEnded : Settled → Type 0
SettlingHasEnded s = IsEnd s.stopped s.spare (next_packet s.passed s.volume.chunks)
