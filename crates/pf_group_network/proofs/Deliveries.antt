-- A delivery as the turn of a server.
use Rattle.std.proofs.Common.{◌≡◌, inl, ℕ, zero, suc, ◌+◌, ◌<◌, ◌≤◌, Bool, true, false, not, ◌&&◌, ◌||◌, ◌==◌, cond, if◌then◌else◌, List, [], ◌∷◌, ◌++◌, length, map, Option, Some, None, Result, Ok, Err, nat_lt, nat_le, slice_get, slice_set, vec_capacity, arith, refl, sym, ap, subst, ◌∙◌}
use Rattle.std.specs.Global.{Vec}
use Rattle.std.proofs.lemmas.Option.{same_Some, slice_get_past, slice_get_within}
use Rattle.pf_base.specs.declared.errors.NoMemory.{NoMemory}
use Rattle.pf_entry.specs.Records.{holds}
use Rattle.pf_entry.specs.declared.packets.Packet.{Packet}
use Rattle.pf_entry.specs.declared.packets.Body.{Body}
use Rattle.pf_entry.specs.declared.packets.Body.TheVariants.{RequestVote, Vote, Accept, Ack, Nack, Commit, Probe, ProbeOk, Image}
use Rattle.pf_protocol.specs.declared.answers.Answer.{Answer}
use Rattle.pf_protocol.specs.declared.answers.Answer.TheVariants.{Done, Refused}
use Rattle.pf_protocol.specs.declared.answers.Refusal.TheVariants.{Halted, LostPacket, NoPacket}
use Rattle.pf_protocol.specs.declared.events.Event.TheVariants.{Deliver, Lose}
use Rattle.pf_entry.specs.declared.entries.VoteLog.{VoteLog}
use Rattle.pf_protocol.specs.Servers.{upto, Setup, Role, Follower, Candidate, Merging, Serving, Server as ServerIs, Condition, Running as RunningIs, Stopped as StoppedIs, Unformatted as UnformattedIs}
use Rattle.pf_protocol.specs.Outcomes.{Outcome}
use Rattle.pf_protocol.specs.Leading.{on_ack, on_probe_ok, on_vote}
use Rattle.pf_protocol.specs.Following.{on_accept, on_commit, on_image, on_nack, on_probe, on_request_vote}
use Rattle.pf_protocol.specs.Rows.{on_message, on_packet}
use Rattle.pf_protocol.specs.Groups.{Group, Sent, Ending, Whole, CutOff, Missed, Untouched, acted, at_server, cut_off, packet_delivered, ending, happens, lost, delivered_in, reads_after, send, server_step_of, with_sent}
use Rattle.pf_protocol.specs.Answers.{answer_at, answer_to, deliver_turn, delivery_answer, delivery_halts, can_halt, loss_answer, may_halt, room_refusal as group_room_refusal}
use Rattle.pf_server_store.specs.Stores.{StoreModel}
use Rattle.pf_group_network.specs.Pasts.{GroupPast, PastIsShort, IsViablePast}
use Rattle.pf_protocol.proofs.ForRows.{packet_asks}
use Rattle.pf_group_network.proofs.Laws.{viable_asks}
use Rattle.pf_protocol.proofs.ForRows.{room_silent}
use Rattle.pf_server_memory.specs.Outgoing.{Outgoing}
use Rattle.pf_server_memory.specs.Standing.{room_refusal}
use Rattle.pf_server_restart.specs.Beginning.{setup_of_seat}
use Rattle.pf_server_restart.specs.declared.seat.Seat.{Seat}
use Rattle.pf_group_network.specs.declared.network.Network.{Network}
use Rattle.pf_group_network.specs.declared.kept.Parcel.{Parcel}
use Rattle.pf_group_network.specs.Deliveries.{is_delivery_answer, is_delivered}
use Rattle.pf_group_network.specs.Going.{HasGone, IsReached, receiver}
use Rattle.pf_group_network.specs.Showing.{Shows, parcel_of, seat_of}
use Rattle.pf_group_network.proofs.Alone.{delivered_there, packet_there}
use Rattle.pf_group_network.proofs.TurnBegins.{same_packets}
use Rattle.pf_group_network.proofs.Events.{IsTurnEvent, turn_canonical}
use Rattle.pf_group_network.proofs.Lists.{at_front}
use Rattle.pf_group_network.proofs.Plain.{IsTurnAs}
use Rattle.pf_group_network.proofs.Laws.{few_elections, is_for, its_fits}
use Rattle.pf_group_network.proofs.Words.{packet_words}
use Rattle.pf_entry.specs.Canonical.{IsCanonicalPacket}
use Rattle.pf_wire.specs.Packets.{packet_bytes, PacketFitsWords as HasWords}
use Rattle.pf_group_network.proofs.Laws.{canonical_packets}
use Rattle.pf_server.specs.Conditions.{IsFor}
use Rattle.pf_group_network.proofs.Rules.{below_after, leaves_all, packets_fit, same_setup}
use Rattle.pf_group_network.proofs.CrashedDisks.{touches_kept}

-- every packet is answered so
done_if : (c : Bool) (x y : Outcome) → x.answer ≡ Done → y.answer ≡ Done → (if c then x else y).answer ≡ Done
done_if true x y a b = a
done_if false x y a b = b

vote_done : (s : ServerIs) (term : ℕ) (vote : VoteLog) (role : Role) → (on_vote s term vote role).answer ≡ Done
unfolding on_vote
vote_done s term vote Follower = refl
vote_done s term vote (Candidate own) = done_if (term == s.durable.term && nat_le vote.base s.durable.base) _ _ refl refl
vote_done s term vote (Merging l) = refl
vote_done s term vote (Serving l) = refl

ack_done : (s : ServerIs) (from term slot upto_there : ℕ) (role : Role) → (on_ack s from term slot upto_there role).answer ≡ Done
unfolding on_ack
ack_done s from term slot upto_there Follower = refl
ack_done s from term slot upto_there (Candidate own) = refl
ack_done s from term slot upto_there (Merging l) = done_if (term == s.durable.term) _ _ refl refl
ack_done s from term slot upto_there (Serving l) = done_if (term == s.durable.term) _ _ refl refl

probe_ok_done : (s : ServerIs) (from term number upto_there : ℕ) (role : Role) → (on_probe_ok s from term number upto_there role).answer ≡ Done
unfolding on_probe_ok
probe_ok_done s from term number upto_there Follower = refl
probe_ok_done s from term number upto_there (Candidate own) = refl
probe_ok_done s from term number upto_there (Merging l) = refl
probe_ok_done s from term number upto_there (Serving l) = done_if (term == s.durable.term) _ _ refl refl

message_done : (setup : Setup) (s : ServerIs) (from term : ℕ) (body : Body) → (on_message setup s from term body).answer ≡ Done
unfolding on_message on_request_vote on_accept on_nack on_commit on_probe on_image
message_done setup s from term (RequestVote base) = done_if (nat_le term s.durable.term || nat_lt base s.durable.base) _ _ refl refl
message_done setup s from term (Vote vote) = vote_done s term vote s.role
message_done setup s from term (Accept e) =
    done_if (nat_lt e.term s.durable.term) _ _ refl (done_if (nat_le e.slot s.durable.base) _ _ refl (done_if (nat_lt (s.durable.base + setup.window) e.slot) _ _ refl (done_if (holds s.durable e.slot e.term) _ _ refl refl)))
message_done setup s from term (Ack slot upto_there) = ack_done s from term slot upto_there s.role
message_done setup s from term Nack = refl
message_done setup s from term (Commit slot) = done_if (holds s.durable slot term) _ _ refl refl
message_done setup s from term (Probe number) = done_if (nat_lt term s.durable.term) _ _ refl refl
message_done setup s from term (ProbeOk number upto_there) = probe_ok_done s from term number upto_there s.role
message_done setup s from term (Image base applied sectors) = done_if (nat_lt term s.durable.term) _ _ refl (done_if (nat_le base (upto s)) _ _ refl refl)

pub packet_done : (setup : Setup) (s : ServerIs) (p : Packet) → (on_packet setup s p).answer ≡ Done
unfolding on_packet
packet_done setup s p = message_done setup s p.from p.term p.body

-- nothing in the rule depends on which servers could not be formatted
same_message : (setup : Setup) (s : ServerIs) (from term : ℕ) (body : Body) → on_message (record setup { failed = [] }) s from term body ≡ on_message setup s from term body
unfolding on_message on_accept
same_message setup s from term (RequestVote base) = refl
same_message setup s from term (Vote vote) = refl
same_message setup s from term (Accept e) = refl
same_message setup s from term (Ack slot upto_there) = refl
same_message setup s from term Nack = refl
same_message setup s from term (Commit slot) = refl
same_message setup s from term (Probe number) = refl
same_message setup s from term (ProbeOk number upto_there) = refl
same_message setup s from term (Image base applied sectors) = refl

same_packet : (setup : Setup) (s : ServerIs) (p : Packet) → on_packet (record setup { failed = [] }) s p ≡ on_packet setup s p
unfolding on_packet
same_packet setup s p = same_message setup s p.from p.term p.body

delivery_servers : (how : Ending) (g : Group) (k : ℕ) (p : Sent) → (delivered_in how g k p).servers ≡ g.servers
delivery_servers Whole g k p = refl
delivery_servers CutOff g k p = refl
delivery_servers Missed g k p = refl
delivery_servers Untouched g k p = refl

pub deliver_event : (setup : Setup) (g : Group) (k : ℕ) (p : Sent) → slice_get g.packets k ≡ Some p → p.lost ≡ false → IsTurnEvent setup g (Deliver k) p.packet.to (deliver_turn setup g p) (λ how. delivered_in how g k p)
unfolding answer_to may_halt happens
deliver_event setup g k p at here = record {
  answers = ap (delivery_answer setup g) at ∙ ap (λ b. if b then Refused LostPacket else answer_at (slice_get g.servers p.packet.to) (deliver_turn setup g p)) here;
  halts = λ is. ap (delivery_halts setup g) at ∙ ap (λ b. not b && can_halt (slice_get g.servers p.packet.to) (deliver_turn setup g p)) here ∙ is;
  goes = λ how. ap (packet_delivered setup how g k) at ∙ ap (λ b. if b then g else at_server how (delivered_in how g k p) p.packet.to (λ s. on_packet setup s p.packet)) here;
  servers = λ how. delivery_servers how g k p;
  acts = ap receiver at;
  loud = refl;
}

pub delivers : (setup : Setup) (past : GroupPast) → IsViablePast setup past → PastIsShort past → (k : ℕ) (p : Sent) → slice_get past.group.packets k ≡ Some p → p.lost ≡ false → (packet : Packet) → packet ≡ p.packet → (out : Outgoing) → ((o : Outcome) → room_refusal out o ≡ group_room_refusal past.group o) → (seat : Seat) → seat ≡ seat_of setup p.packet.to
    → IsTurnAs setup past (Deliver k) p.packet.to (deliver_turn setup past.group p) (λ how. delivered_in how past.group k p) (λ s. room_refusal out (on_packet (setup_of_seat seat) s packet)) (λ s. on_packet (setup_of_seat seat) s packet)
delivers setup past viable short k p at here packet same out room seat its =
    let g = past.group in
    let rule : (s : ServerIs) → on_packet (setup_of_seat seat) s packet ≡ on_packet setup s p.packet = λ s. ap (λ x. on_packet (setup_of_seat x) s packet) its ∙ same_setup (λ z. on_packet z s packet) setup p.packet.to viable.is_setup.window ∙ same_packet setup s packet ∙ ap (on_packet setup s) same in
    let whole : (s : ServerIs) → ending (on_packet setup s p.packet).answer ≡ Whole = λ s. ap ending (packet_done setup s p.packet) in
    record {
      event_is = deliver_event setup g k p at here;
      same_judged = λ s. ap (room_refusal out) (rule s) ∙ room (on_packet setup s p.packet);
      same_rule = rule;
      knows = λ s runs. record {
        leaves = leaves_all (group_room_refusal g (on_packet setup s p.packet)) (room_silent g (on_packet setup s p.packet));
        whole = λ none. whole s;
        fits = λ none. packets_fit g (on_packet setup s p.packet) none;
        below = λ none. below_after g.reads (on_packet setup s p.packet).answer (on_packet setup s p.packet).server.reads (packet_asks setup setup.chunk g.reads s (viable_asks setup past viable p.packet.to s runs) p.packet).below;
        canonical = λ none. turn_canonical setup past viable short (Deliver k) p.packet.to (deliver_turn setup g p) (λ how. delivered_in how g k p) (deliver_event setup g k p at here) tt s runs none (whole s);
      };
      plain = λ s. ap (reads_after g.reads) (packet_done setup s p.packet);
    }

-- a packet is delivered after the turn as well as before it
set_before : {X : Type 0} → (xs ys : List X) (k : ℕ) (x : X) → k < length xs → slice_set xs k x ++ ys ≡ slice_set (xs ++ ys) k x
set_before [] ys k x lt = absurd (omega arith)
set_before (z ∷ zs) ys zero x lt = refl
set_before (z ∷ zs) ys (suc k) x lt = ap (λ rest. z ∷ rest) (set_before zs ys k x (omega arith))

delivery_step : (g : Group) (i k : ℕ) (q : Sent) (rule : ServerIs → Outcome) → k < length g.packets → (how : Ending) (c : Option Condition) → server_step_of how (with_sent g k q) i c rule ≡ with_sent (server_step_of how g i c rule) k q
unfolding acted cut_off
delivery_step g i k q rule lt Whole (Some (RunningIs s)) = ap (λ packets. record (acted g i (rule s)) { packets = packets }) (set_before g.packets (send (rule s).packets) k q lt)
delivery_step g i k q rule lt Whole (Some (StoppedIs life before after)) = refl
delivery_step g i k q rule lt Whole (Some UnformattedIs) = refl
delivery_step g i k q rule lt Whole None = refl
delivery_step g i k q rule lt CutOff (Some (RunningIs s)) = refl
delivery_step g i k q rule lt CutOff (Some (StoppedIs life before after)) = refl
delivery_step g i k q rule lt CutOff (Some UnformattedIs) = refl
delivery_step g i k q rule lt CutOff None = refl
delivery_step g i k q rule lt Missed (Some (RunningIs s)) = refl
delivery_step g i k q rule lt Missed (Some (StoppedIs life before after)) = refl
delivery_step g i k q rule lt Missed (Some UnformattedIs) = refl
delivery_step g i k q rule lt Missed None = refl
delivery_step g i k q rule lt Untouched (Some (RunningIs s)) = refl
delivery_step g i k q rule lt Untouched (Some (StoppedIs life before after)) = refl
delivery_step g i k q rule lt Untouched (Some UnformattedIs) = refl
delivery_step g i k q rule lt Untouched None = refl

-- the packet is there after the turn
still_there : (g : Group) (i k : ℕ) (p : Sent) (rule : ServerIs → Outcome) → slice_get g.packets k ≡ Some p → (how : Ending) (c : Option Condition) → slice_get (server_step_of how g i c rule).packets k ≡ Some p
unfolding acted cut_off
still_there g i k p rule at Whole (Some (RunningIs s)) = at_front g.packets (send (rule s).packets) k p at
still_there g i k p rule at Whole (Some (StoppedIs life before after)) = at
still_there g i k p rule at Whole (Some UnformattedIs) = at
still_there g i k p rule at Whole None = at
still_there g i k p rule at CutOff (Some (RunningIs s)) = at
still_there g i k p rule at CutOff (Some (StoppedIs life before after)) = at
still_there g i k p rule at CutOff (Some UnformattedIs) = at
still_there g i k p rule at CutOff None = at
still_there g i k p rule at Missed (Some (RunningIs s)) = at
still_there g i k p rule at Missed (Some (StoppedIs life before after)) = at
still_there g i k p rule at Missed (Some UnformattedIs) = at
still_there g i k p rule at Missed None = at
still_there g i k p rule at Untouched (Some (RunningIs s)) = at
still_there g i k p rule at Untouched (Some (StoppedIs life before after)) = at
still_there g i k p rule at Untouched (Some UnformattedIs) = at
still_there g i k p rule at Untouched None = at

get_map : {X Y : Type 0} → (f : X → Y) (xs : List X) (k : ℕ) (x : X) → slice_get xs k ≡ Some x → slice_get (map f xs) k ≡ Some (f x)
get_map f [] k x at = absurd (grind (arith, at))
get_map f (z ∷ zs) zero x at = ap (λ y. Some (f y)) (same_Some z x at)
get_map f (z ∷ zs) (suc k) x at = get_map f zs k x at

module _ {S : Type 0} (model : StoreModel S) where
  -- the packets have moved in memory
  same_parcels : (setup : Setup) (network : Network S) (g : Group) (packets : Vec Parcel) → packets.items ≡ network.packets.items → vec_capacity network.packets ≤ vec_capacity packets → Shows model setup network g → Shows model setup (record network { packets = packets }) g
  same_parcels setup network g packets items places shows = record {
    three = shows.three;
    members = shows.members;
    traffic = (let t = shows.traffic in record { packets = items ∙ t.packets; places = omega (arith, t.places, places); room = t.room; acked = t.acked; elections = t.elections; readings = t.readings });
    reads = shows.reads;
  }

  module _ (setup : Setup) (g : Group) (i k : ℕ) (p : Sent) (rule : ServerIs → Outcome) (at : slice_get g.packets k ≡ Some p) (after : Network S) (packets : Vec Parcel) (outcome : Result Answer NoMemory) (items : (parcel : Parcel) → slice_get after.packets.items k ≡ Some parcel → packets.items ≡ cond (is_delivery_answer outcome) (slice_set after.packets.items k (record parcel { delivered = true })) after.packets.items) (places : vec_capacity after.packets ≤ vec_capacity packets) where
    abbrev now_delivered : Sent
    now_delivered = record p { delivered = true }

    there : (later : Group) → Shows model setup after later → slice_get later.packets k ≡ Some p → slice_get after.packets.items k ≡ Some (parcel_of p)
    there later shows is = ap (λ xs. slice_get xs k) shows.traffic.packets ∙ get_map parcel_of later.packets k p is

    took_place : (how : Ending) → is_delivered how ≡ true → delivered_in how g k p ≡ with_sent g k now_delivered → is_delivery_answer outcome ≡ is_delivered how → Shows model setup after (at_server how g i rule) → Shows model setup (record after { packets = packets }) (at_server how (delivered_in how g k p) i rule)
    took_place how does into is shows =
        let still = still_there g i k p rule at how (slice_get g.servers i) in
        let place = there (at_server how g i rule) shows still in
        let so : packets.items ≡ slice_set after.packets.items k (parcel_of now_delivered) = items (parcel_of p) place ∙ ap (λ b. cond b (slice_set after.packets.items k (parcel_of now_delivered)) after.packets.items) (is ∙ does) in
        subst (Shows model setup (record after { packets = packets }))
        (sym (ap (λ x. at_server how x i rule) into ∙ delivery_step g i k now_delivered rule (slice_get_within g.packets k p at) how (slice_get g.servers i)))
        (delivered_there model setup (at_server how g i rule) after shows k p now_delivered (parcel_of now_delivered) packets still refl refl so places)

    by_how : (how : Ending) → is_delivery_answer outcome ≡ is_delivered how → Shows model setup after (at_server how g i rule) → Shows model setup (record after { packets = packets }) (at_server how (delivered_in how g k p) i rule)
    by_how Whole is shows = took_place Whole refl refl is shows
    by_how CutOff is shows = took_place CutOff refl refl is shows
    by_how Missed is shows = took_place Missed refl refl is shows
    by_how Untouched is shows =
        let place = there (at_server Untouched g i rule) shows (still_there g i k p rule at Untouched (slice_get g.servers i)) in
        same_parcels setup after (at_server Untouched g i rule) packets (items (parcel_of p) place ∙ ap (λ b. cond b (slice_set after.packets.items k (parcel_of now_delivered)) after.packets.items) is) places shows

    pub delivery_whole : (answer : Answer) → outcome ≡ Ok answer → Shows model setup after (at_server (ending answer) g i rule) → Shows model setup (record after { packets = packets }) (at_server (ending answer) (delivered_in (ending answer) g k p) i rule)
    delivery_whole answer is shows = by_how (ending answer) (ap is_delivery_answer is) shows

    pub delivery_none : (e : NoMemory) → outcome ≡ Err e → Shows model setup after g → Shows model setup (record after { packets = packets }) g
    delivery_none e is shows = same_parcels setup after g packets (items (parcel_of p) (there g shows at) ∙ ap (λ b. cond b (slice_set after.packets.items k (parcel_of now_delivered)) after.packets.items) (ap is_delivery_answer is)) places shows

  module _ (setup : Setup) (past : GroupPast) (old : Network S) (reached : IsReached model setup past old) (k : ℕ) where
    -- there is no such packet
    no_packet : length old.packets.items ≤ k → slice_get past.group.packets k ≡ None
    no_packet beyond = slice_get_past past.group.packets k (omega (arith, beyond, same_packets model setup past old reached))

    pub loses_none : length old.packets.items ≤ k → HasGone model setup past.group (Lose k) old old (Refused NoPacket)
    unfolding answer_to happens
    loses_none beyond = record { answered = inl (sym (ap loss_answer (no_packet beyond))); shows = reached.shows; cause = λ halted. absurd (apart halted); crash = touches_kept model.was _ _ _ old old (λ j. refl); others = λ i own. refl; quiet = λ quiet i. refl; tells = λ i. refl; taken = refl }
      where
        apart : Refused NoPacket ≡ Refused Halted → ⊥
        apart is = cc

    pub delivers_none : length old.packets.items ≤ k → HasGone model setup past.group (Deliver k) old old (Refused NoPacket)
    unfolding answer_to happens
    delivers_none beyond = record {
      answered = inl (sym (ap (delivery_answer setup past.group) (no_packet beyond)));
      shows = subst (Shows model setup old) (sym (ap (packet_delivered setup Untouched past.group k) (no_packet beyond))) reached.shows;
      cause = λ halted. absurd (apart halted);
      crash = touches_kept model.was _ _ _ old old (λ j. refl);
      others = λ i own. refl;
      quiet = λ quiet i. refl;
      tells = λ i. refl;
      taken = refl;
    }
      where
        apart : Refused NoPacket ≡ Refused Halted → ⊥
        apart is = cc

    -- a packet that was lost
    module _ (parcel : Parcel) (at : slice_get old.packets.items k ≡ Some parcel) where
      pub sent_there : (sent : Sent) × (slice_get past.group.packets k ≡ Some sent) × (parcel ≡ parcel_of sent)
      sent_there = packet_there model setup past.group old reached.shows k parcel at

      pub loses_again : parcel.lost ≡ true → HasGone model setup past.group (Lose k) old old (Refused LostPacket)
      unfolding answer_to happens
      loses_again is =
          let gone : sent_there.0.lost ≡ true = sym (ap (λ (x : Parcel). x.lost) sent_there.2) ∙ is in
          record { answered = inl (sym (ap loss_answer sent_there.1 ∙ ap (λ b. if b then Refused LostPacket else Done) gone)); shows = reached.shows; cause = λ halted. absurd (apart halted); crash = touches_kept model.was _ _ _ old old (λ j. refl); others = λ i own. refl; quiet = λ quiet i. refl; tells = λ i. refl; taken = refl }
        where
          apart : Refused LostPacket ≡ Refused Halted → ⊥
          apart is = cc

      pub delivers_lost : parcel.lost ≡ true → HasGone model setup past.group (Deliver k) old old (Refused LostPacket)
      unfolding answer_to happens
      delivers_lost is =
          let p = sent_there.0 in
          let gone : p.lost ≡ true = sym (ap (λ (x : Parcel). x.lost) sent_there.2) ∙ is in
          record {
            answered = inl (sym (ap (delivery_answer setup past.group) sent_there.1 ∙ ap (λ b. if b then Refused LostPacket else answer_at (slice_get past.group.servers p.packet.to) (deliver_turn setup past.group p)) gone));
            shows = subst (Shows model setup old) (sym (ap (packet_delivered setup Untouched past.group k) sent_there.1 ∙ ap (λ b. if b then past.group else at_server Untouched (delivered_in Untouched past.group k p) p.packet.to (λ s. on_packet setup s p.packet)) gone)) reached.shows;
            cause = λ halted. absurd (apart halted);
            crash = touches_kept model.was _ _ _ old old (λ j. refl);
            others = λ i own. refl;
            quiet = λ quiet i. refl;
            tells = λ i. refl;
            taken = refl;
          }
        where
          apart : Refused LostPacket ≡ Refused Halted → ⊥
          apart is = cc

      pub loses : parcel.lost ≡ false → (packets : Vec Parcel) → packets.items ≡ slice_set old.packets.items k (record parcel { lost = true }) → vec_capacity old.packets ≤ vec_capacity packets → HasGone model setup past.group (Lose k) old (record old { packets = packets }) Done
      unfolding answer_to happens
      loses is packets items places =
          let p = sent_there.0 in
          let here : p.lost ≡ false = sym (ap (λ (x : Parcel). x.lost) sent_there.2) ∙ is in
          record {
            answered = inl (sym (ap loss_answer sent_there.1 ∙ ap (λ b. if b then Refused LostPacket else Done) here));
            shows = subst (Shows model setup (record old { packets = packets })) (sym (ap (lost past.group k) sent_there.1))
                (delivered_there model setup past.group old reached.shows k p (record p { lost = true }) (record parcel { lost = true }) packets sent_there.1 refl (ap (λ (x : Parcel). record x { lost = true }) sent_there.2) items places);
            cause = λ halted. absurd (apart halted);
            crash = touches_kept model.was _ _ _ old (record old { packets = packets }) (λ j. refl);
            others = λ i own. refl;
            quiet = λ quiet i. refl;
            tells = λ i. refl;
            taken = refl;
          }
        where
          apart : Done ≡ Refused Halted → ⊥
          apart is = cc

      -- what is read from its bytes is what was sent
      pub came : (packet : Packet) (bytes : List ℕ) → bytes ≡ parcel.bytes → ((x : Packet) → HasWords x → IsCanonicalPacket x → packet_bytes x ≡ bytes → packet ≡ x) → packet ≡ sent_there.0.packet
      came packet bytes same read =
          let p = sent_there.0 in
          let g = past.group in
          let fit = its_fits setup past reached.viable reached.short k p sent_there.1 in
          read p.packet (packet_words setup reached.viable.is_setup past.count (suc (past.top + g.elections)) (omega (arith, reached.short.count)) (omega (arith, reached.short.top, few_elections setup past reached.viable)) p.packet fit) (canonical_packets setup past reached.viable k p sent_there.1)
          (sym (same ∙ ap (λ (x : Parcel). x.bytes) sent_there.2))

      module _ (packet : Packet) (is : packet ≡ sent_there.0.packet) where
        pub to_member : packet.to < 3
        to_member =
            let fit = its_fits setup past reached.viable reached.short k sent_there.0 sent_there.1 in
            subst (λ x. x.to < 3) (sym is) fit.to

        pub for_member : (seat : Seat) → seat ≡ seat_of setup packet.to → IsFor seat packet
        for_member seat its = subst (λ x. IsFor x packet) (sym its) (subst (λ x. IsFor (seat_of setup x.to) x) (sym is) (is_for setup past reached.viable reached.short k sent_there.0 sent_there.1))

        pub comes : parcel.lost ≡ false → (out : Outgoing) → ((o : Outcome) → room_refusal out o ≡ group_room_refusal past.group o) → (seat : Seat) → seat ≡ seat_of setup packet.to
            → IsTurnAs setup past (Deliver k) packet.to (deliver_turn setup past.group sent_there.0) (λ how. delivered_in how past.group k sent_there.0) (λ s. room_refusal out (on_packet (setup_of_seat seat) s packet)) (λ s. on_packet (setup_of_seat seat) s packet)
        comes here out room seat its =
            let its_here = its ∙ ap (λ x. seat_of setup x.to) is in
            subst (λ x. IsTurnAs setup past (Deliver k) x.to (deliver_turn setup past.group sent_there.0) (λ how. delivered_in how past.group k sent_there.0) (λ s. room_refusal out (on_packet (setup_of_seat seat) s packet)) (λ s. on_packet (setup_of_seat seat) s packet)) (sym is)
            (delivers setup past reached.viable reached.short k sent_there.0 sent_there.1 (sym (ap (λ (x : Parcel). x.lost) sent_there.2) ∙ here) packet is out room seat its_here)
