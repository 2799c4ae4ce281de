-- How far a settling is, and what one try more comes to.
use Rattle.std.specs.Prelude.{◌≡◌, ℕ, ◌+◌, ◌-◌, ◌*◌, ◌<◌, ◌≤◌, Bool, true, IsTrue, List, [], ◌∷◌, ◌++◌, length, Option, Some, slice_get}
use Rattle.pf_protocol.specs.Answers.{most_packets}
use Rattle.pf_mount_host.specs.pf_group.specs.GroupIs.{state_of}
use Rattle.pf_mount_host.specs.pf_group.specs.Packets.{IsPassedUpTo}
use Rattle.pf_mount_host.specs.pf_group_rounds.specs.Halts.{Halt}
use Rattle.pf_mount_host.specs.pf_chunk.specs.declared.settling.TryEnd.{TryEnd}
use Rattle.pf_mount_host.specs.pf_chunk.specs.declared.settling.TryEnd.TheVariants.{Delivered, Passed}
use Rattle.pf_mount_host.specs.pf_chunk.specs.Settling.{is_refused}
use Rattle.pf_mount_host.specs.pf_chunk.specs.Views.{ChunkIs}
use Rattle.pf_mount_host.specs.pf_world_moments.specs.Moments.{Moment, moments_text}
use Rattle.pf_mount_host.specs.pf_world_moments.specs.Steps.{AreReady, HaveGrown, TellsAll, chunk_runs}
use Rattle.pf_world_hosts.specs.declared.settling.Tried.{Tried}
use Rattle.pf_world_hosts.specs.declared.settling.Tried.TheVariants.{Ended, Made}
use Rattle.pf_world_hosts.specs.Settled.{HasSettled}
use Rattle.pf_world_hosts.specs.Settling.{NextPacket, PacketName, having_told, is_among, next_delivered, next_packet, packet_name_of, settle_to}
use Rattle.pf_world_hosts.specs.Steps.{AreSameHosts, FleetIs, IsFleetOf, volume_stands_at}

-- how many packets settlings of these chunks may come to yet, each with at most so many packets
abbrev pub room : List ChunkIs → ℕ
room [] = 0
room (c ∷ cs) = (most_packets - c.next) + room cs

-- the settling of a chunk stands past these packets, and past no other that is left
pub record IsUpTo (passed : List PacketName) (c : ChunkIs) : Type 0 where
  pub over : IsPassedUpTo (state_of c.group) (is_among passed c.group.number) c.next
  pub sent : c.next ≤ length (state_of c.group).packets

abbrev pub AreUpTo : List PacketName → List ChunkIs → Type 0
AreUpTo passed chunks = (k : ℕ) (c : ChunkIs) → slice_get chunks k ≡ Some c → IsTrue c.group.told → IsUpTo passed c

-- A settling of so many deliveries that began at the old chunks and hosts stands at these, with so many deliveries left: each of its tries was a
-- delivery, or passed over one packet more
pub record SettlingStands (limit : ℕ) (old : List ChunkIs) (fleet : FleetIs) (before : List ℕ) (left : ℕ) (after : List ℕ) (now : List ChunkIs)
    (next : FleetIs) : Type 0 where
  pub ready : AreReady now
  pub is_fleet : IsFleetOf now next
  pub same : AreSameHosts fleet next
  pub grown : HaveGrown old now
  pub told : List Moment
  pub put : after ≡ before ++ moments_text told
  pub tries : ℕ
  pub few : tries + left + room now ≤ limit + 8 * most_packets
  pub passed : List PacketName
  pub up_to : AreUpTo passed now
  pub run : (halts : List Halt) → TellsAll halts now → (more : ℕ) → settle_to (tries + more) halts limit [] (volume_stands_at halts old fleet)
      ≡ having_told told (settle_to more halts left passed (volume_stands_at halts now next))

-- the packet that a try takes, and whether it was refused
pub record Takes (halts : List Halt) (next : Option NextPacket) (name : PacketName) (refused : Bool) : Type 0 where
  pub it : NextPacket
  pub found : next ≡ Some it
  pub its_name : packet_name_of it ≡ name
  pub its_refusal : is_refused (next_delivered halts it).answer ≡ refused

-- one try of a settling that had so many deliveries left, and had passed these packets over
pub record HasTriedOne (name : PacketName) (refused : Bool) (left : ℕ) (passed : List PacketName) (now : List ChunkIs) (mid : FleetIs) (out : List ℕ)
    (spare : ℕ) (over : List PacketName) (new : List ChunkIs) (next : FleetIs) (after : List ℕ) : Type 0 where
  pub grown : HaveGrown now new
  pub told : List Moment
  pub put : after ≡ out ++ moments_text told
  pub takes : (halts : List Halt) → TellsAll halts new → Takes halts (next_packet passed (chunk_runs halts now)) name refused
  pub run : (halts : List Halt) → TellsAll halts new → settle_to 1 halts left passed (volume_stands_at halts now mid)
      ≡ record { volume = volume_stands_at halts new next; told = told; stopped = true; spare = spare; passed = over }

-- the settling goes on behind it
pub record GoesOn (name : PacketName) (refused : Bool) (limit : ℕ) (old : List ChunkIs) (fleet : FleetIs) (before : List ℕ) (left spare : ℕ)
    (passed : List PacketName) (out : List ℕ) (now : List ChunkIs) (mid : FleetIs) (after : List ℕ) (new : List ChunkIs) (next : FleetIs) : Type 0 where
  pub stands : SettlingStands limit old fleet before spare after new next
  pub one : HasTriedOne name refused left passed now mid out spare stands.passed new next after
  pub less : spare + room new < left + room now

-- a packet that was passed over is no delivery, and was refused
abbrev pub deliveries : TryEnd → ℕ
deliveries Passed = 0
deliveries (Delivered refused) = 1

abbrev pub was_refused : TryEnd → Bool
was_refused Passed = true
was_refused (Delivered refused) = refused

-- how a try ends, where the settling stood so
abbrev pub TryEnds : Tried → (limit : ℕ) (old : List ChunkIs) (fleet : FleetIs) (before : List ℕ) (left : ℕ) (passed : List PacketName) (out : List ℕ)
    (now : List ChunkIs) (mid : FleetIs) (after : List ℕ) (new : List ChunkIs) (next : FleetIs) → Type 0
TryEnds (Ended stopped) limit old fleet before left passed out now mid after new next = HasSettled limit old fleet before stopped new next after
TryEnds (Made tried) limit old fleet before left passed out now mid after new next =
    (deliveries tried.end ≤ left)
    × GoesOn (record { chunk = tried.group; packet = tried.packet }) (was_refused tried.end) limit old fleet before left (left - deliveries tried.end) passed out
    now mid after new next
