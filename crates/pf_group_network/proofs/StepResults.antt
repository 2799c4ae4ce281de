-- What a step leaves is kept.
use Rattle.std.proofs.Common.{◌≡◌, ℕ, suc, ◌+◌, ◌<◌, ◌≤◌, get_or, List, [], ◌∷◌, ◌++◌, length, map, Option, Some, None, slice_get, slice_set, sum_by, vec_capacity, vec_len, arith, refl, sym, ap, subst, ◌∙◌}
use Rattle.std.specs.Option.{option_to_list}
use Rattle.std.proofs.lemmas.List.{map-append}
use Rattle.std.proofs.lemmas.List.Sums.{sum_by-append}
use Rattle.std.proofs.lemmas.Option.{get_or_from_slice_get, slice_get_within}
use Rattle.pf_entry.specs.Records.{Durable}
use Rattle.pf_entry.specs.Sizes.{packet_size}
use Rattle.pf_protocol.specs.Servers.{Setup, Server as ServerIs, Running as RunningIs}
use Rattle.pf_protocol.specs.Outcomes.{Outcome}
use Rattle.pf_protocol.specs.Groups.{Group, Sent, Acked as AckedIs, acted, answer_of, send}
use Rattle.pf_protocol.specs.Rows.{ready_reads, settled}
use Rattle.pf_protocol.specs.Asked.{AreBelow}
use Rattle.pf_server_store.specs.Stores.{StoreModel}
use Rattle.pf_server_memory.specs.Outgoing.{Outgoing}
use Rattle.pf_server.specs.declared.server.Server.{Server}
use Rattle.pf_server.specs.Conditions.{Meets, untaken_answers}
use Rattle.pf_server.specs.Turns.{answers_after}
use Rattle.pf_group_network.specs.declared.network.Network.{Network}
use Rattle.pf_group_network.specs.declared.kept.Acked.{Acked}
use Rattle.pf_group_network.specs.Keeping.{HavePlaces, fresh_parcel, with_answers}
use Rattle.pf_group_network.specs.Showing.{AreMembers, AreReadings, IsMember, Shows, acked_entry, parcel_of}
use Rattle.pf_group_network.specs.Turned.{HasStepped}
use Rattle.pf_group_network.proofs.Lists.{set_again, set_length, set_there, something_there}
use Rattle.pf_group_network.proofs.Members.{member_set}
use Rattle.pf_group_network.proofs.Parcels.{has_places, sent_parcels, sent_size, spelled_count, spelled_size}
use Rattle.pf_group_network.proofs.Readings.{answers_are, have_places, same_count}

-- what is read in a place is what is there
pub read_there : {X : Type 0} → (xs : List X) (i : ℕ) (x y : X) → slice_get xs i ≡ Some x → y ≡ get_or xs i y → y ≡ x
read_there xs i x y at is = is ∙ get_or_from_slice_get xs i x y at

abbrev acked_in : (term : ℕ) → ℕ → AckedIs
acked_in term slot = record { term = term; slot = slot }

abbrev acked_here : (term : ℕ) → ℕ → Acked
acked_here term slot = record { term = term; slot = slot }

same_acked : (term : ℕ) (slot : Option ℕ) → map acked_entry (map (acked_in term) (option_to_list slot)) ≡ map (acked_here term) (option_to_list slot)
same_acked term None = refl
same_acked term (Some slot) = refl

pub settled_disk : (s : ServerIs) → (settled s).durable ≡ s.durable
unfolding settled
settled_disk s = refl

module _ {S : Type 0} (model : StoreModel S) (setup : Setup) (g : Group) (i : ℕ) (o : Outcome) (network : Network S) (out : Outgoing) (stepped : HasStepped model setup g i o network out) where
  pub stepped_there : slice_get network.servers.items i ≡ Some stepped.me
  stepped_there = ap (λ xs. slice_get xs i) stepped.now ∙ set_there stepped.before i stepped.me (omega (arith, stepped.three, stepped.low))

  pub has_three : length network.servers.items ≡ 3
  has_three = ap length stepped.now ∙ set_length stepped.before i stepped.me ∙ stepped.three

  same_length : length network.packets.items ≡ length g.packets
  same_length = ap length stepped.traffic.packets ∙ map_length g.packets
    where
      map_length : (xs : List Sent) → length (map parcel_of xs) ≡ length xs
      map_length [] = refl
      map_length (x ∷ xs) = ap suc (map_length xs)

  pub has_place : vec_len network.packets + length out.packets ≤ vec_capacity network.packets
  has_place = omega (arith, network.packets.ok, same_length, (has_places g o.packets stepped.fits).0, stepped.traffic.places, ap length stepped.sent, spelled_count o.packets)

  its_bytes : sum_by length out.packets ≡ sum_by packet_size o.packets
  its_bytes = ap (sum_by length) stepped.sent ∙ spelled_size o.packets stepped.canonical

  pub has_bytes : sum_by length out.packets ≤ network.byte_room
  has_bytes = omega (arith, its_bytes, (has_places g o.packets stepped.fits).1, stepped.traffic.room)

  pub has_readings : HavePlaces network.readings.items (untaken_answers stepped.me.state)
  has_readings = subst (HavePlaces network.readings.items) (sym stepped.answers) (have_places network.readings.items o.server (subst (λ n. AreBelow n o.server.reads) (sym stepped.reads) stepped.below))

  -- what the step left was moved
  pub record WasMoved (next : Network S) (me : Server S) : Type 0 where
    pub servers : next.servers.items ≡ slice_set network.servers.items i me
    pub seat : me.seat ≡ stepped.me.seat
    pub store : me.store ≡ stepped.me.store
    pub meets : Meets model me.seat me.store me.state (RunningIs (settled o.server))
    pub packets : next.packets.items ≡ network.packets.items ++ map fresh_parcel out.packets
    pub grown : vec_capacity network.packets ≤ vec_capacity next.packets
    pub room : next.byte_room + sum_by length out.packets ≡ network.byte_room
    pub acked : next.acked.list.items ≡ network.acked.list.items ++ map (acked_here (settled o.server).durable.term) (option_to_list out.acked)
    pub readings : next.readings.items ≡ with_answers network.readings.items (untaken_answers stepped.me.state)
    pub elections : next.elections ≡ network.elections

  module _ (next : Network S) (me : Server S) (moved : WasMoved next me) where
    is_member : IsMember model setup i me (RunningIs (settled o.server))
    is_member = record { seat = moved.seat ∙ stepped.seat; meets = moved.meets }

    all_servers : next.servers.items ≡ slice_set stepped.before i me
    all_servers = moved.servers ∙ ap (λ xs. slice_set xs i me) stepped.now ∙ set_again stepped.before i stepped.me me

    in_group : i < length g.servers
    in_group =
        let x = something_there stepped.before i (omega (arith, stepped.three, stepped.low)) in
        let m = stepped.members i x.0 x.1 in
        slice_get_within g.servers i m.0 m.1

    all_members : AreMembers model setup next.servers.items (slice_set g.servers i (RunningIs (settled o.server)))
    all_members = subst (λ xs. AreMembers model setup xs (slice_set g.servers i (RunningIs (settled o.server)))) (sym all_servers)
        (member_set model setup stepped.before g.servers stepped.members i me (RunningIs (settled o.server)) in_group is_member)

    all_packets : next.packets.items ≡ map parcel_of (g.packets ++ send o.packets)
    all_packets =
        moved.packets ∙ ap (λ xs. xs ++ map fresh_parcel out.packets) stepped.traffic.packets
        ∙ ap (λ xs. map parcel_of g.packets ++ xs) (ap (map fresh_parcel) stepped.sent ∙ sym (sent_parcels o.packets))
        ∙ sym (map-append parcel_of g.packets (send o.packets))

    all_room : next.byte_room + sum_by (λ sent. packet_size sent.packet) (g.packets ++ send o.packets) ≡ 134217728
    all_room = omega (arith, moved.room, its_bytes, stepped.traffic.room, sum_by-append (λ sent. packet_size sent.packet) g.packets (send o.packets), sent_size o.packets)

    all_acked : next.acked.list.items ≡ map acked_entry (g.acked ++ map (acked_in o.server.durable.term) (option_to_list o.acked))
    all_acked =
        moved.acked ∙ ap (λ xs. xs ++ map (acked_here (settled o.server).durable.term) (option_to_list out.acked)) stepped.traffic.acked
        ∙ ap (λ (d : Durable). map acked_entry g.acked ++ map (acked_here d.term) (option_to_list out.acked)) (settled_disk o.server)
        ∙ ap (λ slot. map acked_entry g.acked ++ map (acked_here o.server.durable.term) (option_to_list slot)) stepped.acks
        ∙ ap (λ xs. map acked_entry g.acked ++ xs) (sym (same_acked o.server.durable.term o.acked))
        ∙ sym (map-append acked_entry g.acked (map (acked_in o.server.durable.term) (option_to_list o.acked)))

    its_readings : next.readings.items ≡ with_answers network.readings.items (answers_after o.server)
    its_readings = moved.readings ∙ ap (with_answers network.readings.items) stepped.answers

    all_readings : AreReadings (g.answered ++ map (answer_of o.server) (ready_reads o.server)) next.readings.items
    all_readings = subst (AreReadings (g.answered ++ map (answer_of o.server) (ready_reads o.server))) (sym its_readings) (answers_are g.answered network.readings.items o.server stepped.traffic.readings)

    -- the network stands for the group after the step
    pub shows_acted : Shows model setup next (acted g i o)
    unfolding acted
    shows_acted = record {
      three = ap length moved.servers ∙ set_length network.servers.items i me ∙ has_three;
      members = all_members;
      traffic = record {
        packets = all_packets;
        places = omega (arith, stepped.traffic.places, moved.grown);
        room = all_room;
        acked = all_acked;
        elections = moved.elections ∙ stepped.traffic.elections;
        readings = all_readings;
      };
      reads = ap length its_readings ∙ same_count network.readings.items (answers_after o.server) ∙ stepped.reads;
    }
