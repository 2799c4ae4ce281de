-- Packets as they were sent.
use Rattle.std.proofs.Common.{◌≡◌, ℕ, suc, ◌+◌, ◌-◌, ◌≤◌, false, ◌||◌, List, [], ◌∷◌, length, map, None, nat_lt, sum_by, arith, refl, ap, ◌∙◌}
use Rattle.std.proofs.lemmas.Bool.Decides.{nat_tests}
use Rattle.std.proofs.lemmas.List.Sums.{sum_by-cons}
use Rattle.pf_entry.specs.Lists.{Every}
use Rattle.pf_entry.specs.Canonical.{IsCanonicalPacket}
use Rattle.pf_entry.specs.Sizes.{packet_size}
use Rattle.pf_entry.specs.declared.packets.Packet.{Packet}
use Rattle.pf_wire.specs.Packets.{packet_bytes}
use Rattle.pf_wire.proofs.PacketSizes.{packet_len}
use Rattle.pf_protocol.specs.Groups.{Group, send}
use Rattle.pf_protocol.specs.Answers.{most_packets, most_packet_bytes, packets_full, half_size, refuse, room_refusal as group_room_refusal}
use Rattle.pf_protocol.specs.Outcomes.{Outcome}
use Rattle.pf_server_memory.specs.Outgoing.{Outgoing, exceeds}
use Rattle.pf_server_memory.specs.Standing.{room_refusal}
use Rattle.pf_protocol.specs.declared.answers.Refusal.TheVariants.{PacketsFull, LogFull}
use Rattle.pf_group_network.specs.Keeping.{fresh_parcel}
use Rattle.pf_group_network.specs.Showing.{parcel_of}

-- what a step sends is neither delivered nor lost
pub sent_parcels : (ps : List Packet) → map parcel_of (send ps) ≡ map fresh_parcel (map packet_bytes ps)
sent_parcels [] = refl
sent_parcels (p ∷ ps) = ap (λ rest. fresh_parcel (packet_bytes p) ∷ rest) (sent_parcels ps)

pub sent_size : (ps : List Packet) → sum_by (λ sent. packet_size sent.packet) (send ps) ≡ sum_by packet_size ps
sent_size [] = refl
sent_size (p ∷ ps) = omega (arith, sent_size ps, sum_by-cons packet_size p ps, sum_by-cons (λ sent. packet_size sent.packet) (record { packet = p; delivered = false; lost = false }) (send ps))

pub spelled_size : (ps : List Packet) → Every IsCanonicalPacket ps → sum_by length (map packet_bytes ps) ≡ sum_by packet_size ps
spelled_size [] are = refl
spelled_size (p ∷ ps) are = omega (arith, spelled_size ps are.1, packet_len p are.0, sum_by-cons packet_size p ps, sum_by-cons length (packet_bytes p) (map packet_bytes ps))

pub spelled_count : (ps : List Packet) → length (map packet_bytes ps) ≡ length ps
spelled_count [] = refl
spelled_count (p ∷ ps) = ap suc (spelled_count ps)

shifted : (m n k : ℕ) → n ≤ m → nat_lt (m - n) k ≡ nat_lt m (n + k)
shifted m n k le = grind (arith, nat_tests)

less : (b sent k all : ℕ) → b + sent ≡ all → nat_lt b k ≡ nat_lt all (sent + k)
less b sent k all is = grind (arith, nat_tests)

module _ (g : Group) (out : Outgoing) (packets : out.packet_room ≡ 65536 - length g.packets) (few : length g.packets ≤ 65536) (bytes : out.byte_room + sum_by (λ sent. packet_size sent.packet) g.packets ≡ 134217728) where
  -- a server's outbox is too small exactly where the group has no room
  pub same_room : (ps : List Packet) → exceeds out ps ≡ packets_full g ps
  unfolding exceeds most_packets most_packet_bytes
  same_room ps =
      ap (λ room. nat_lt room (length ps) || nat_lt out.byte_room (sum_by packet_size ps)) packets
      ∙ ap (λ full. full || nat_lt out.byte_room (sum_by packet_size ps)) (shifted 65536 (length g.packets) (length ps) few)
      ∙ ap (λ full. nat_lt 65536 (length g.packets + length ps) || full) (less out.byte_room (sum_by (λ sent. packet_size sent.packet) g.packets) (sum_by packet_size ps) 134217728 bytes)

  pub same_refusal : (o : Outcome) → room_refusal out o ≡ group_room_refusal g o
  unfolding room_refusal group_room_refusal half_size
  same_refusal o = ap (λ full. refuse full PacketsFull (refuse (nat_lt 67108864 o.server.durable.used) LogFull None)) (same_room o.packets)

-- what has room fits the places and the bytes
pub has_places : (g : Group) (ps : List Packet) → packets_full g ps ≡ false → (length g.packets + length ps ≤ 65536) × (sum_by (λ sent. packet_size sent.packet) g.packets + sum_by packet_size ps ≤ 134217728)
unfolding most_packets most_packet_bytes
has_places g ps is = (neither 65536 134217728 _ _ is)
  where
    neither : (a c b d : ℕ) → (nat_lt a b || nat_lt c d) ≡ false → (b ≤ a) × (d ≤ c)
    neither a c b d none = (grind (arith, nat_tests), grind (arith, nat_tests))
