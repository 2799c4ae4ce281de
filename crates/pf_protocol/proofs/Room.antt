-- The packets of a legal history are within the limits of a group.
use Rattle.std.proofs.Common.{◌≡◌, ℕ, zero, suc, ◌+◌, ◌≤◌, ◌⊎◌, inl, inr, Bool, true, false, cond, not, ◌&&◌, ◌==◌, if◌then◌else◌, List, [], ◌∷◌, ◌++◌, length, Option, Some, None, nat_lt, nat_le, slice_get, slice_set, sum_by, arith, refl, sym, ap, subst, ◌∙◌}
use Rattle.std.specs.FinMap
use Rattle.std.proofs.lemmas.Bool.{ltb-false, or_parts, false≢true}
use Rattle.std.proofs.lemmas.Option.{same_Some}
use Rattle.std.proofs.lemmas.List.{append-nil, length-append, length-map, length-set}
use Rattle.std.proofs.lemmas.List.Sums.{sum_by-append, sum_by-cons}
use Rattle.pf_entry.specs.declared.ops.Op.{Op}
use Rattle.pf_entry.specs.declared.packets.Packet.{Packet}
use Rattle.pf_base.specs.Span.{Span, fits_in}
use Rattle.pf_entry.specs.Ops.{range_of}
use Rattle.pf_entry.specs.Records.{Durable}
use Rattle.pf_entry.specs.Sizes.{packet_size}
use Rattle.pf_protocol.specs.declared.answers.Answer.{Answer}
use Rattle.pf_protocol.specs.declared.answers.Answer.TheVariants.{Refused}
use Rattle.pf_protocol.specs.declared.answers.Refusal.TheVariants.{BadRange, WindowFull, NotLeader, PacketsFull, ElectionsFull, OldFormat, Halted, LostPacket, Stale}
use Rattle.pf_protocol.specs.declared.events.Event.{Event}
use Rattle.pf_protocol.specs.declared.events.Event.TheVariants.{Submit, Fetch, Deliver, Lose, Elect, Resend, Stop, Restart, Claim, Finish, GiveBack, Checkpoint}
use Rattle.pf_protocol.specs.Servers.{Setup, Server, Condition, Running, Stopped, Unformatted}
use Rattle.pf_protocol.specs.Outcomes.{Outcome, sends, only_answers}
use Rattle.pf_protocol.specs.Leading.{on_submit, on_fetch, on_elect, on_resend}
use Rattle.pf_protocol.specs.Saving.{on_checkpoint, applied_op, on_finish, on_give_back}
use Rattle.pf_protocol.specs.Groups.{Sent, Group, Ending, Whole, CutOff, Missed, Untouched, send, acted, cut_off, step_ended, server_step_of, at_server, with_sent, delivered_in, packet_delivered, lost, stopped, server_begun, restart, least_claim, claim_at, claim_or, first_claim, only_whole, counted_election, ending, happens, opening}
use Rattle.pf_protocol.specs.Histories.{History, replay}
use Rattle.pf_protocol.specs.Answers.{most_packets, most_packet_bytes, most_elections, packets_full, is_mark, is_serving, window_full, delivery_answer, delivery_halts, room_refusal, submit_refusal, fetch_refusal, elect_refusal, ServerTurn, plain_turn, submit_turn, fetch_turn, elect_turn, deliver_turn, answer_at, can_halt, answer_to, may_halt, IsAnswer, IsLegal}
use Rattle.pf_entry.proofs.Cases.{by_test}
use Rattle.pf_protocol.proofs.Legal.{IsSilent, room_silent, submit_silent, elect_silent, refuse_none, stands_or_silent}
use Rattle.pf_protocol.proofs.Moments.{legal_keeps}
use Rattle.pf_protocol.proofs.WaitingReads.{fetch_silent}

abbrev pub bytes_of : List Sent → ℕ
bytes_of packets = sum_by (λ sent. packet_size sent.packet) packets

pub record HasRoom (g : Group) : Type 0 where
  pub count : length g.packets ≤ most_packets
  pub bytes : bytes_of g.packets ≤ most_packet_bytes

-- as many packets, of the same sizes, and the same servers
record SameRoom (g mid : Group) : Type 0 where
  servers : mid.servers ≡ g.servers
  count : length mid.packets ≡ length g.packets
  bytes : bytes_of mid.packets ≡ bytes_of g.packets

itself : (g : Group) → SameRoom g g
itself g = record { servers = refl; count = refl; bytes = refl }

has_room : (g mid : Group) → SameRoom g mid → HasRoom g → HasRoom mid
has_room g mid same room = record { count = omega (arith, room.count, same.count); bytes = omega (arith, room.bytes, same.bytes) }

-- a packet that is marked keeps its size
set_bytes : (packets : List Sent) (k : ℕ) (p q : Sent) → slice_get packets k ≡ Some p → q.packet ≡ p.packet → bytes_of (slice_set packets k q) ≡ bytes_of packets
set_bytes [] k p q at same = refl
set_bytes (x ∷ xs) zero p q at same =
    let size : packet_size q.packet ≡ packet_size x.packet = ap packet_size (same ∙ ap (λ sent. sent.packet) (sym (same_Some x p at))) in
    omega (arith, size, sum_by-cons (λ sent. packet_size sent.packet) x xs, sum_by-cons (λ sent. packet_size sent.packet) q xs)
set_bytes (x ∷ xs) (suc k) p q at same =
    omega (arith, set_bytes xs k p q at same, sum_by-cons (λ sent. packet_size sent.packet) x xs, sum_by-cons (λ sent. packet_size sent.packet) x (slice_set xs k q))

send_length : (packets : List Packet) → length (send packets) ≡ length packets
send_length packets = length-map packets _

send_bytes : (packets : List Packet) → bytes_of (send packets) ≡ sum_by packet_size packets
send_bytes [] = refl
send_bytes (p ∷ ps) = omega (arith, send_bytes ps, sum_by-cons packet_size p ps, sum_by-cons (λ sent. packet_size sent.packet) (record { packet = p; delivered = false; lost = false }) (send ps))

with_same : (g : Group) (k : ℕ) (p q : Sent) → slice_get g.packets k ≡ Some p → q.packet ≡ p.packet → SameRoom g (with_sent g k q)
with_same g k p q at same = record { servers = refl; count = length-set g.packets k q; bytes = set_bytes g.packets k p q at same }

delivery_same : (how : Ending) (g : Group) (k : ℕ) (p : Sent) → slice_get g.packets k ≡ Some p → SameRoom g (delivered_in how g k p)
delivery_same Whole g k p at = with_same g k p _ at refl
delivery_same CutOff g k p at = with_same g k p _ at refl
delivery_same Missed g k p at = with_same g k p _ at refl
delivery_same Untouched g k p at = itself g

counted_same : (how : Ending) (g : Group) → SameRoom g (counted_election how g)
counted_same Whole g = record { servers = refl; count = refl; bytes = refl }
counted_same CutOff g = record { servers = refl; count = refl; bytes = refl }
counted_same Missed g = itself g
counted_same Untouched g = itself g

-- the answer of a server's turn
abbrev IsTurned : Option Condition → ServerTurn → Answer → Type 0
IsTurned c turn answer = (answer ≡ answer_at c turn) ⊎ ((can_halt c turn ≡ true) × (answer ≡ Refused Halted))

module _ (g mid : Group) (same : SameRoom g mid) (room : HasRoom g) where
  sent_room : (i : ℕ) (o : Outcome) → packets_full g o.packets ≡ false → HasRoom (acted mid i o)
  unfolding acted
  sent_room i o fits =
      let count = length g.packets + length o.packets in
      let bytes = bytes_of g.packets + sum_by packet_size o.packets in
      let both = or_parts (nat_lt most_packets count) (nat_lt most_packet_bytes bytes) fits in
      let few : count ≤ most_packets = ltb-false most_packets count both.0 in
      let short : bytes ≤ most_packet_bytes = ltb-false most_packet_bytes bytes both.1 in
      record {
        count = omega (arith, few, same.count, length-append mid.packets (send o.packets), send_length o.packets);
        bytes = omega (arith, short, same.bytes, sum_by-append (λ sent. packet_size sent.packet) mid.packets (send o.packets), send_bytes o.packets);
      }

  acted_room : (i : ℕ) (o : Outcome) → room_refusal g o ≡ None → HasRoom (acted mid i o)
  unfolding room_refusal
  acted_room i o none = sent_room i o (refuse_none (packets_full g o.packets) PacketsFull _ none).0

  cut_room : (i : ℕ) (s : Server) (o : Outcome) → HasRoom (cut_off mid i s o)
  unfolding cut_off
  cut_room i s o = let here = has_room g mid same room in record { count = here.count; bytes = here.bytes }

  ended_room : (how : Ending) (i : ℕ) (s : Server) (o : Outcome) → (how ≡ Whole → HasRoom (acted mid i o)) → HasRoom (step_ended how mid i s o)
  ended_room Whole i s o whole = whole refl
  ended_room CutOff i s o whole = cut_room i s o
  ended_room Missed i s o whole = has_room g mid same room
  ended_room Untouched i s o whole = has_room g mid same room

  step_room : (how : Ending) (i : ℕ) (c : Option Condition) (rule : Server → Outcome) → ((s : Server) → c ≡ Some (Running s) → how ≡ Whole → HasRoom (acted mid i (rule s))) → HasRoom (server_step_of how mid i c rule)
  step_room how i (Some (Running s)) rule whole = ended_room how i s (rule s) (whole s refl)
  step_room how i (Some (Stopped life before after)) rule whole = has_room g mid same room
  step_room how i (Some Unformatted) rule whole = has_room g mid same room
  step_room how i None rule whole = has_room g mid same room

  -- a turn is refused, or its packets have room
  turn_room : (i : ℕ) (turn : ServerTurn) (answer : Answer) → ((s : Server) → IsSilent (turn.refusal s)) → ((s : Server) → turn.refusal s ≡ None → room_refusal g (turn.rule s) ≡ None) → IsTurned (slice_get g.servers i) turn answer → HasRoom (at_server (ending answer) mid i turn.rule)
  turn_room i turn answer silent judged legal = step_room (ending answer) i (slice_get mid.servers i) turn.rule (λ s at whole.
      let there : slice_get g.servers i ≡ Some (Running s) = ap (λ servers. slice_get servers i) (sym same.servers) ∙ at in
      elim (stands_or_silent turn s answer (silent s) (subst (λ c. IsTurned c turn answer) there legal)) [
        | inl none ↦ acted_room i (turn.rule s) (judged s none)
        | inr quiet ↦ absurd (apart (sym whole ∙ quiet))
      ])
    where
      apart : Whole ≡ Untouched → ⊥
      apart e = grind (arith, e)

-- events that send nothing
module _ (g : Group) (room : HasRoom g) where
  without_packets : (how : Ending) (i : ℕ) (rule : Server → Outcome) → ((s : Server) → (rule s).packets ≡ []) → HasRoom (at_server how g i rule)
  unfolding acted
  without_packets how i rule none = step_room g g (itself g) room how i (slice_get g.servers i) rule (λ s at whole.
      let same : g.packets ++ send (rule s).packets ≡ g.packets = ap (λ packets. g.packets ++ send packets) (none s) ∙ append-nil g.packets in
      record { count = subst (λ packets. length packets ≤ most_packets) (sym same) room.count; bytes = subst (λ packets. bytes_of packets ≤ most_packet_bytes) (sym same) room.bytes })

  lost_room : (k : ℕ) (o : Option Sent) → slice_get g.packets k ≡ o → HasRoom (lost g k o)
  lost_room k None at = room
  lost_room k (Some p) at = has_room g (with_sent g k (record p { lost = true })) (with_same g k p _ at refl) room

  stopped_room : (i : ℕ) (c : Option Condition) → HasRoom (stopped g i c)
  stopped_room i (Some (Running s)) = record { count = room.count; bytes = room.bytes }
  stopped_room i (Some (Stopped life before after)) = room
  stopped_room i (Some Unformatted) = room
  stopped_room i None = room

  pub begun_room : (how : Ending) (i life : ℕ) (d before after : Durable) → HasRoom (server_begun how g i life d before after)
  begun_room Whole i life d before after = record { count = room.count; bytes = room.bytes }
  begun_room CutOff i life d before after = record { count = room.count; bytes = room.bytes }
  begun_room Missed i life d before after = room
  begun_room Untouched i life d before after = room

  restart_room : (how : Ending) (i : ℕ) (found : Bool) (c : Option Condition) → HasRoom (restart how g i found c)
  restart_room how i found (Some (Running s)) = begun_room how i s.life s.durable s.durable s.durable
  restart_room how i found (Some (Stopped life before after)) = begun_room how i life (cond found after before) before after
  restart_room how i found (Some Unformatted) = room
  restart_room how i found None = room

  claim_at_room : (i : ℕ) (c : Option Condition) (slot : ℕ) → HasRoom (claim_at g i c (Some slot))
  claim_at_room i (Some (Running s)) slot = record { count = room.count; bytes = room.bytes }
  claim_at_room i (Some (Stopped life before after)) slot = room
  claim_at_room i (Some Unformatted) slot = room
  claim_at_room i None slot = room

  claim_or_room : (i : ℕ) (o : Option ℕ) (rest : Group) → HasRoom rest → HasRoom (claim_or g i o rest)
  claim_or_room i None rest there = there
  claim_or_room i (Some slot) rest there = claim_at_room i (slice_get g.servers i) slot

  claim_room : (window : ℕ) (places : List ℕ) → HasRoom (first_claim window g places)
  claim_room window [] = room
  claim_room window (i ∷ places) = claim_or_room i (least_claim window (slice_get g.servers i)) (first_claim window g places) (claim_room window places)

  only_room : (how : Ending) (later : Group) → HasRoom later → HasRoom (only_whole how g later)
  only_room Whole later there = there
  only_room CutOff later there = room
  only_room Missed later there = room
  only_room Untouched later there = room

finish_packets : (life slot : ℕ) (s : Server) → (on_finish s life slot).packets ≡ []
unfolding on_finish
finish_packets life slot s = by_test (life == s.life) (λ c. (if c then sends (applied_op s slot (FinMap.get s.in_hand slot)) [] else only_answers s (Refused (Stale s.life))).packets ≡ []) (λ _. refl) (λ _. refl)

give_back_packets : (life slot : ℕ) (s : Server) → (on_give_back s life slot).packets ≡ []
unfolding on_give_back
give_back_packets life slot s = by_test (life == s.life) (λ c. (if c then sends (record s { in_hand = FinMap.remove s.in_hand slot }) [] else sends s []).packets ≡ []) (λ _. refl) (λ _. refl)

-- a turn that is not refused has room for its packets
submit_judged : (setup : Setup) (g : Group) (op : Op) (s : Server) → submit_refusal setup g op s ≡ None → room_refusal g (on_submit setup s op s.role) ≡ None
unfolding submit_refusal
submit_judged setup g op s none =
    let format = refuse_none (is_mark op && setup.format == 1) OldFormat _ none in
    let range = refuse_none (not (fits_in (range_of op) setup.chunk)) BadRange _ format.1 in
    let leader = refuse_none (not (is_serving s.role)) NotLeader _ range.1 in
    (refuse_none (window_full setup s s.role) WindowFull _ leader.1).1

fetch_judged : (setup : Setup) (g : Group) (range : Span) (s : Server) → fetch_refusal setup g range s ≡ None → room_refusal g (on_fetch s range g.reads s.role) ≡ None
unfolding fetch_refusal
fetch_judged setup g range s none = (refuse_none (not (is_serving s.role)) NotLeader _ (refuse_none (not (fits_in range setup.chunk)) BadRange _ none).1).1

elect_judged : (g : Group) (s : Server) → elect_refusal g s ≡ None → room_refusal g (on_elect s) ≡ None
unfolding elect_refusal
elect_judged g s none = (refuse_none (nat_le most_elections g.elections) ElectionsFull _ none).1

-- a step that stores nothing does not halt
unhalted : (answer right : Answer) → (answer ≡ right) ⊎ ((false ≡ true) × (answer ≡ Refused Halted)) → answer ≡ right
unhalted answer right legal = elim legal [ inl is ↦ is | inr cut ↦ absurd (false≢true cut.0) ]

deliver_room : (setup : Setup) (g : Group) → HasRoom g → (k : ℕ) (o : Option Sent) (answer : Answer) → slice_get g.packets k ≡ o → (answer ≡ delivery_answer setup g o) ⊎ ((delivery_halts setup g o ≡ true) × (answer ≡ Refused Halted)) → HasRoom (packet_delivered setup (ending answer) g k o)
deliver_room setup g room k None answer at legal = room
deliver_room setup g room k (Some p) answer at legal =
    let turn = deliver_turn setup g p in
    let c = slice_get g.servers p.packet.to in
    by_test p.lost (λ lost. (answer ≡ (if lost then Refused LostPacket else answer_at c turn)) ⊎ (((not lost && can_halt c turn) ≡ true) × (answer ≡ Refused Halted)) → HasRoom (if lost then g else at_server (ending answer) (delivered_in (ending answer) g k p) p.packet.to turn.rule))
    (λ _ _. room)
    (λ _ here. turn_room g (delivered_in (ending answer) g k p) (delivery_same (ending answer) g k p at) room p.packet.to turn answer (λ s. room_silent g (turn.rule s)) (λ s none. none) here)
    legal

-- every event
pub happens_room : (setup : Setup) (g : Group) → HasRoom g → (event : Event) (answer : Answer) → IsAnswer setup g event answer → HasRoom (happens setup g event (ending answer))
unfolding happens answer_to may_halt
happens_room setup g room (Submit i op) answer legal = turn_room g g (itself g) room i (submit_turn setup g op) answer (submit_silent setup g op) (submit_judged setup g op) legal
happens_room setup g room (Fetch i range) answer legal = turn_room g g (itself g) room i (fetch_turn setup g range) answer (fetch_silent setup g range) (fetch_judged setup g range) (inl (unhalted answer _ legal))
happens_room setup g room (Deliver k) answer legal = deliver_room setup g room k (slice_get g.packets k) answer refl legal
happens_room setup g room (Lose k) answer legal = only_room g room (ending answer) _ (lost_room g room k (slice_get g.packets k) refl)
happens_room setup g room (Elect i) answer legal = turn_room g (counted_election (ending answer) g) (counted_same (ending answer) g) room i (elect_turn g) answer (elect_silent g) (elect_judged g) legal
happens_room setup g room (Resend i) answer legal = turn_room g g (itself g) room i (plain_turn g (λ s. on_resend s s.role)) answer (λ s. room_silent g (on_resend s s.role)) (λ s none. none) (inl (unhalted answer _ legal))
happens_room setup g room (Stop i) answer legal = only_room g room (ending answer) _ (stopped_room g room i (slice_get g.servers i))
happens_room setup g room (Restart i found) answer legal = restart_room g room (ending answer) i found (slice_get g.servers i)
happens_room setup g room Claim answer legal = only_room g room (ending answer) _ (claim_room g room setup.window (0 ∷ 1 ∷ 2 ∷ []))
happens_room setup g room (Finish i life slot) answer legal = without_packets g room (ending answer) i (λ s. on_finish s life slot) (finish_packets life slot)
happens_room setup g room (GiveBack i life slot) answer legal = without_packets g room (ending answer) i (λ s. on_give_back s life slot) (give_back_packets life slot)
happens_room setup g room (Checkpoint i) answer legal = turn_room g g (itself g) room i (plain_turn g on_checkpoint) answer (λ s. room_silent g (on_checkpoint s)) (λ s none. none) legal

pub opening_room : (setup : Setup) → HasRoom (opening setup)
unfolding opening most_packets most_packet_bytes
opening_room setup = record { count = omega arith; bytes = omega arith }

-- in every legal history
pub legal_room : (setup : Setup) (history : History) → IsLegal setup history → HasRoom (replay setup history)
legal_room setup history is = legal_keeps setup HasRoom (λ g claims h legal room. happens_room setup g room h.event h.answer legal.answered) history (opening setup) [] is.legal (opening_room setup)
