-- One server changes, or one packet, and nothing else.
use Rattle.std.proofs.Common.{◌≡◌, ℕ, zero, suc, List, [], ◌∷◌, map, Some, slice_get, slice_set, sum_by, vec_capacity, ◌≤◌, arith, refl, sym, ap, ◌∙◌}
use Rattle.std.proofs.lemmas.List.Sums.{sum_by-cons}
use Rattle.std.proofs.lemmas.Option.{same_Some, slice_get_within}
use Rattle.std.specs.Global.{Vec}
use Rattle.std.specs.Vec.{with_item}
use Rattle.pf_entry.specs.Sizes.{packet_size}
use Rattle.pf_protocol.specs.Servers.{Setup, Condition}
use Rattle.pf_protocol.specs.Groups.{Group, Sent, with_sent}
use Rattle.pf_server_store.specs.Stores.{StoreModel}
use Rattle.pf_server.specs.declared.server.Server.{Server}
use Rattle.pf_group_network.specs.declared.network.Network.{Network}
use Rattle.pf_group_network.specs.declared.kept.Parcel.{Parcel}
use Rattle.pf_group_network.specs.Showing.{IsMember, Shows, parcel_of}
use Rattle.pf_group_network.proofs.Lists.{set_length, set_mapped}
use Rattle.pf_group_network.proofs.Members.{member_set, member_stays}

-- lists that were mapped
pub get_mapped : {X Y : Type 0} → (f : X → Y) (xs : List X) (k : ℕ) (y : Y) → slice_get (map f xs) k ≡ Some y → (x : X) × (slice_get xs k ≡ Some x) × (y ≡ f x)
get_mapped f [] k y at = absurd (grind (arith, at))
get_mapped f (x ∷ xs) zero y at = (x, refl, same_Some y (f x) (sym at))
get_mapped f (x ∷ xs) (suc k) y at = get_mapped f xs k y at

-- that a packet was delivered does not change its bytes
pub same_bytes : (sents : List Sent) (k : ℕ) (p q : Sent) → slice_get sents k ≡ Some p → q.packet ≡ p.packet → sum_by (λ sent. packet_size sent.packet) (slice_set sents k q) ≡ sum_by (λ sent. packet_size sent.packet) sents
same_bytes [] k p q at same = refl
same_bytes (x ∷ xs) zero p q at same =
    let size : packet_size q.packet ≡ packet_size x.packet = ap packet_size same ∙ ap (λ (y : Sent). packet_size y.packet) (sym (same_Some x p at)) in
    omega (arith, size, sum_by-cons (λ sent. packet_size sent.packet) x xs, sum_by-cons (λ sent. packet_size sent.packet) q xs)
same_bytes (x ∷ xs) (suc k) p q at same =
    omega (arith, same_bytes xs k p q at same, sum_by-cons (λ sent. packet_size sent.packet) x xs, sum_by-cons (λ sent. packet_size sent.packet) x (slice_set xs k q))

module _ {S : Type 0} (model : StoreModel S) (setup : Setup) (g : Group) (network : Network S) (shows : Shows model setup network g) where
  -- a server is in another condition
  pub alone : (i : ℕ) (next : Server S) (was c : Condition) → slice_get g.servers i ≡ Some was → IsMember model setup i next c → Shows model setup (record network { servers = with_item network.servers i next }) (record g { servers = slice_set g.servers i c })
  alone i next was c there member = record {
    three = set_length network.servers.items i next ∙ shows.three;
    members = member_set model setup network.servers.items g.servers shows.members i next c (slice_get_within g.servers i was there) member;
    traffic = (let t = shows.traffic in record { packets = t.packets; places = t.places; room = t.room; acked = t.acked; elections = t.elections; readings = t.readings });
    reads = shows.reads;
  }

  -- it has changed, but not its condition
  pub alone_still : (i : ℕ) (next : Server S) (c : Condition) → slice_get g.servers i ≡ Some c → IsMember model setup i next c → Shows model setup (record network { servers = with_item network.servers i next }) g
  alone_still i next c there member = record {
    three = set_length network.servers.items i next ∙ shows.three;
    members = member_stays model setup network.servers.items g.servers shows.members i next c there member;
    traffic = (let t = shows.traffic in record { packets = t.packets; places = t.places; room = t.room; acked = t.acked; elections = t.elections; readings = t.readings });
    reads = shows.reads;
  }

  -- the packet in this place
  pub packet_there : (k : ℕ) (parcel : Parcel) → slice_get network.packets.items k ≡ Some parcel → (sent : Sent) × (slice_get g.packets k ≡ Some sent) × (parcel ≡ parcel_of sent)
  packet_there k parcel at = get_mapped parcel_of g.packets k parcel (ap (λ xs. slice_get xs k) (sym shows.traffic.packets) ∙ at)

  -- a packet is delivered_there
  pub delivered_there : (k : ℕ) (p q : Sent) (parcel : Parcel) (packets : Vec Parcel) → slice_get g.packets k ≡ Some p → q.packet ≡ p.packet → parcel ≡ parcel_of q → packets.items ≡ slice_set network.packets.items k parcel → vec_capacity network.packets ≤ vec_capacity packets → Shows model setup (record network { packets = packets }) (with_sent g k q)
  delivered_there k p q parcel packets at same is items places = record {
    three = shows.three;
    members = shows.members;
    traffic = (let t = shows.traffic in record {
      packets = items ∙ ap (λ xs. slice_set xs k parcel) t.packets ∙ ap (λ x. slice_set (map parcel_of g.packets) k x) is ∙ set_mapped parcel_of g.packets k q;
      places = omega (arith, t.places, places);
      room = omega (arith, t.room, same_bytes g.packets k p q at same);
      acked = t.acked;
      elections = t.elections;
      readings = t.readings;
    });
    reads = shows.reads;
  }
