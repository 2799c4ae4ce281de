-- A network as the group of the rules.
use Rattle.std.specs.Prelude.{◌≡◌, ◌≢◌, ℕ, ◌+◌, ◌≤◌, Bool, List, length, map, Some, slice_get, sum_by, vec_capacity}
use Rattle.pf_entry.specs.Lists.{Every}
use Rattle.pf_entry.specs.Ops.{Sector}
use Rattle.pf_entry.specs.Sizes.{packet_size}
use Rattle.pf_wire.specs.Packets.{packet_bytes}
use Rattle.pf_protocol.specs.Servers.{Setup, Condition}
use Rattle.pf_protocol.specs.Groups.{Group, Sent, Acked as AckedIs, Answered as AnsweredIs}
use Rattle.pf_server_store.specs.Stores.{StoreModel}
use Rattle.pf_server_restart.specs.declared.seat.Seat.{Seat}
use Rattle.pf_server.specs.declared.server.Server.{Server}
use Rattle.pf_server.specs.Conditions.{Meets}
use Rattle.pf_group_network.specs.declared.kept.Parcel.{Parcel}
use Rattle.pf_group_network.specs.declared.kept.Acked.{Acked}
use Rattle.pf_group_network.specs.declared.kept.Reading.{Reading}
use Rattle.pf_group_network.specs.declared.kept.Reading.TheVariants.{Waiting, Answered, Taken}
use Rattle.pf_group_network.specs.Readings.{is_taken}
use Rattle.pf_group_network.specs.declared.network.Network.{Network}

-- what a server of the group is made with
abbrev pub seat_of : Setup → ℕ → Seat
seat_of setup i = record { number = i; sectors = setup.chunk; names = setup.names; format = setup.format }

abbrev pub parcel_of : Sent → Parcel
parcel_of sent = record { bytes = packet_bytes sent.packet; delivered = sent.delivered; lost = sent.lost }

abbrev pub acked_entry : AckedIs → Acked
acked_entry a = record { term = a.term; slot = a.slot }

-- a read of this number was answered with these bytes
pub record HasAnswer (answered : List AnsweredIs) (number : ℕ) (bytes : List Sector) : Type 0 where
  pub k : ℕ
  pub answer : AnsweredIs
  pub there : slice_get answered k ≡ Some answer
  pub numbered : answer.number ≡ number
  pub sectors : answer.bytes ≡ bytes

abbrev pub IsReadingOf : List AnsweredIs → (number : ℕ) → Reading → Type 0
IsReadingOf answered number Waiting = Every (λ a. a.number ≢ number) answered
IsReadingOf answered number (Answered bytes) = HasAnswer answered number bytes
IsReadingOf answered number Taken = (bytes : List Sector) × HasAnswer answered number bytes

-- what is there for each number of a read tells whether it was answered
abbrev pub AreReadings : List AnsweredIs → List Reading → Type 0
AreReadings answered readings = (number : ℕ) (reading : Reading) → slice_get readings number ≡ Some reading → IsReadingOf answered number reading

-- for each read by its number, whether its answer was handed out
abbrev pub taken_of : {S : Type 0} → Network S → List Bool
taken_of network = map is_taken network.readings.items

module _ {S : Type 0} where
  -- all that is kept beside the servers
  pub record HasTraffic (network : Network S) (g : Group) : Type 0 where
    pub packets : network.packets.items ≡ map parcel_of g.packets
    pub places : 65536 ≤ vec_capacity network.packets
    pub room : network.byte_room + sum_by (λ sent. packet_size sent.packet) g.packets ≡ 134217728
    pub acked : network.acked.list.items ≡ map acked_entry g.acked
    pub elections : network.elections ≡ g.elections
    pub readings : AreReadings g.answered network.readings.items

module _ {S : Type 0} (model : StoreModel S) where
  -- this server of the group is in this condition
  pub record IsMember (setup : Setup) (i : ℕ) (server : Server S) (c : Condition) : Type 0 where
    pub seat : server.seat ≡ seat_of setup i
    pub meets : Meets model server.seat server.store server.state c

  abbrev pub AreMembers : Setup → List (Server S) → List Condition → Type 0
  AreMembers setup servers conditions = (i : ℕ) (server : Server S) → slice_get servers i ≡ Some server
      → (c : Condition) × (slice_get conditions i ≡ Some c) × IsMember setup i server c

  -- the network stands for this group
  pub record Shows (setup : Setup) (network : Network S) (g : Group) : Type 0 where
    pub three : length network.servers.items ≡ 3
    pub members : AreMembers setup network.servers.items g.servers
    pub traffic : HasTraffic network g
    pub reads : length network.readings.items ≡ g.reads
