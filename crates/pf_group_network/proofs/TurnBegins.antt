-- A turn begins.
use Rattle.std.proofs.Common.{◌≡◌, ℕ, suc, ◌-◌, ◌<◌, ◌≤◌, List, [], ◌∷◌, length, map, Some, slice_get, get_or, arith, refl, sym, ap, subst, ◌∙◌}
use Rattle.std.proofs.lemmas.Option.{slice_get_read}
use Rattle.pf_protocol.specs.Servers.{Setup, Condition}
use Rattle.pf_protocol.specs.Groups.{Sent}
use Rattle.pf_server_store.specs.Stores.{StoreModel}
use Rattle.pf_group_network.specs.Pasts.{GroupPast}
use Rattle.pf_protocol.specs.Outcomes.{Outcome}
use Rattle.pf_protocol.specs.Answers.{most_packets, room_refusal as group_room_refusal}
use Rattle.pf_server_memory.specs.Outgoing.{Outgoing}
use Rattle.pf_server_memory.specs.Standing.{room_refusal}
use Rattle.pf_group_network.proofs.Laws.{viable_room}
use Rattle.pf_server_restart.specs.Beginning.{IsSeat}
use Rattle.pf_server.specs.declared.server.Server.{Server}
use Rattle.pf_server.specs.Conditions.{ServerIsInOrder, IsKnown}
use Rattle.pf_group_network.specs.declared.network.Network.{Network}
use Rattle.pf_group_network.specs.Going.{IsReached}
use Rattle.pf_group_network.specs.Showing.{IsMember, parcel_of}
use Rattle.pf_group_network.specs.Turned.{outbox_of}
use Rattle.pf_group_network.proofs.Parcels.{same_refusal}
use Rattle.pf_group_network.proofs.Fits.{setup_is}
use Rattle.pf_group_network.proofs.Laws.{is_known, is_member_number}

pub parcels_length : (xs : List Sent) → length (map parcel_of xs) ≡ length xs
parcels_length [] = refl
parcels_length (x ∷ xs) = ap suc (parcels_length xs)

few_sent : (setup : Setup) (past : GroupPast) → (r : ℕ) → r ≤ most_packets → r ≤ 65536
unfolding most_packets
few_sent setup past r le = le

module _ {S : Type 0} (model : StoreModel S) (setup : Setup) (past : GroupPast) (network : Network S) (reached : IsReached model setup past network) where
  pub few_packets : length past.group.packets ≤ 65536
  few_packets = few_sent setup past (length past.group.packets) (viable_room setup past reached.viable).count

  pub same_packets : length network.packets.items ≡ length past.group.packets
  same_packets = ap length reached.shows.traffic.packets ∙ parcels_length past.group.packets

  pub few_parcels : length network.packets.items ≤ 65536
  few_parcels = omega (arith, few_packets, same_packets)

  -- the server in a place
  pub server_there : (i : ℕ) (me : Server S) → i < 3 → me ≡ get_or network.servers.items i me → slice_get network.servers.items i ≡ Some me
  server_there i me low is = slice_get_read network.servers.items 3 i me (sym reached.shows.three) low is

  pub its_condition : (i : ℕ) (me : Server S) → slice_get network.servers.items i ≡ Some me → (c : Condition) × (slice_get past.group.servers i ≡ Some c) × IsMember model setup i me c
  its_condition i me here = reached.shows.members i me here

  -- a server of the network can take its turn
  pub in_order : (i : ℕ) (me : Server S) → slice_get network.servers.items i ≡ Some me → ServerIsInOrder model me.seat me.store me.state
  in_order i me here =
      let m = its_condition i me here in
      record {
        made = subst IsSeat (sym m.2.seat) (record { number = is_member_number setup past reached.viable reached.short i m.0 m.1; setup = setup_is setup i reached.viable.is_setup });
        condition = m.0;
        meets = m.2.meets;
        known = subst (λ seat. IsKnown seat m.0) (sym m.2.seat) (is_known setup past reached.viable reached.short i m.0 m.1);
      }

  -- room for the packets of one step is what the group has
  pub same_room_refusal : (out : Outgoing) → out ≡ outbox_of network → (o : Outcome) → room_refusal out o ≡ group_room_refusal past.group o
  same_room_refusal out fresh o =
      ap (λ x. room_refusal x o) fresh
      ∙ same_refusal past.group (outbox_of network) (ap (λ n. 65536 - n) same_packets) few_packets reached.shows.traffic.room o
