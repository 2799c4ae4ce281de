-- A read of eight sectors of a new group, event by event.
use Rattle.std.proofs.Common.{◌≡◌, ℕ, false, true, [], ◌∷◌, None, refl, ap, ◌∙◌, arith}
use Rattle.std.specs.FinMap
use Rattle.std.specs.FinMap.{gets}
use Rattle.std.specs.Prelude.{not, ◌&&◌}
use Rattle.pf_base.specs.Span.{overlaps}
use Rattle.pf_entry.specs.Sets
use Rattle.pf_entry.specs.Applying.{is_free}
use Rattle.pf_entry.specs.Ops.{range_of}
use Rattle.pf_entry.specs.declared.packets.Packet.{Packet}
use Rattle.pf_entry.specs.declared.packets.Body.{Body}
use Rattle.pf_entry.specs.declared.packets.Body.TheVariants.{Probe, ProbeOk}
use Rattle.pf_entry.specs.Records.{stored, put_entry, put_entries, add_start, add_merged_start}
use Rattle.pf_entry.specs.Sizes.{packet_size, body_size}
use Rattle.pf_protocol.specs.declared.answers.Answer.TheVariants.{Read as ReadIs, Done}
use Rattle.pf_protocol.specs.declared.events.Event.TheVariants.{Fetch, Deliver}
use Rattle.pf_protocol.specs.Servers.{Leader, Server, Serving, upto, has_applied}
use Rattle.pf_protocol.specs.Outcomes.{Outcome, sends}
use Rattle.pf_protocol.specs.Leading.{op_at, on_fetch, on_probe_ok, on_elect, led}
use Rattle.pf_protocol.specs.Following.{on_probe}
use Rattle.pf_protocol.specs.Saving.{restarted, renewed}
use Rattle.pf_protocol.specs.Rows.{on_message, on_packet, settled}
use Rattle.pf_protocol.specs.Groups.{Group, Whole, opening, first_leader, opening_disk, happens, acted, with_sent}
use Rattle.pf_protocol.specs.Histories.{History, run, replay}
use Rattle.pf_protocol.specs.Answers.{answer_to, room_refusal, most_packets, most_packet_bytes, half_size, IsLegal, IsLegalFrom}
use Rattle.pf_protocol.specs.Shown.{small_group, so}
use Rattle.pf_law_positions.proofs.WorkedReplays.{empty_rows, fetches, delivers, none_of, follows, retains_none, fetch_answer, deliver_answer, goes_on, is_small_group}
use Rattle.pf_law_positions.specs.Carried.{zero_read, zero_answer}

abbrev packet : (from to term : ℕ) → Body → Packet
packet from to term body = record { from = from; to = to; term = term; body = body }

abbrev heard : Group → (k from to term : ℕ) → Body → Outcome → Group
heard g k from to term body o = acted (with_sent g k (record { packet = packet from to term body; delivered = true; lost = false })) to o

abbrev l0 : Leader
l0 = record { first = 1; next = 1; b0 = 0; acks = FinMap.empty; known = FinMap.empty }

abbrev a0 : Server
a0 = record (restarted 0 0 (opening_disk small_group)) { role = Serving l0 }

abbrev b0 : Server
b0 = restarted 1 0 (opening_disk small_group)

abbrev g0 : Group
g0 = opening small_group

-- 1. server 0 is asked to read
waits_1 : Sets.retain a0.committed (λ slot. not (has_applied a0 slot) && overlaps (range_of (op_at a0.durable.log slot)) (record { first = 0; count = 8 })) ≡ Sets.empty
unfolding settled restarted opening_disk stored put_entry put_entries is_free range_of op_at
waits_1 =
    let waits = λ (slot : ℕ). not (has_applied a0 slot) && overlaps (range_of (op_at a0.durable.log slot)) (record { first = 0; count = 8 }) in
    retains_none a0.committed waits (none_of waits)

abbrev a1 : Server
a1 = record a0 { reads = record { number = 0; range = record { first = 0; count = 8 }; waits_for = Sets.empty; confirmed = false } ∷ [] }

rule_1 : on_fetch a0 (record { first = 0; count = 8 }) 0 (Serving l0) ≡ record { server = a1; packets = packet 0 1 1 (Probe 0) ∷ packet 0 2 1 (Probe 0) ∷ []; answer = ReadIs 0; acked = None }
unfolding on_fetch restarted opening_disk stored led
rule_1 = rw waits_1 refl

room_1 : room_refusal g0 (record { server = a1; packets = packet 0 1 1 (Probe 0) ∷ packet 0 2 1 (Probe 0) ∷ []; answer = ReadIs 0; acked = None }) ≡ None
unfolding room_refusal most_packets most_packet_bytes half_size packet_size body_size opening first_leader restarted opening_disk stored acted settled put_entry put_entries add_start add_merged_start on_elect renewed led
room_1 = simp (empty_rows, gets)

abbrev g1 : Group
g1 = acted g0 0 (record { server = a1; packets = packet 0 1 1 (Probe 0) ∷ packet 0 2 1 (Probe 0) ∷ []; answer = ReadIs 0; acked = None })

e1 : happens small_group g0 (Fetch 0 (record { first = 0; count = 8 })) Whole ≡ g1
unfolding opening first_leader acted settled restarted opening_disk stored on_elect renewed led
e1 = fetches small_group g0 0 (record { first = 0; count = 8 }) a0 _ refl rule_1

-- 2. a probe from server 0 comes to server 1
rule_2 : on_packet small_group b0 (packet 0 1 1 (Probe 0)) ≡ sends b0 (packet 1 0 1 (ProbeOk 0 0) ∷ [])
unfolding on_packet on_message on_probe restarted opening_disk stored upto
rule_2 = simp gets

room_2 : room_refusal g1 (sends b0 (packet 1 0 1 (ProbeOk 0 0) ∷ [])) ≡ None
unfolding room_refusal most_packets most_packet_bytes half_size packet_size body_size opening first_leader restarted opening_disk stored acted settled put_entry put_entries add_start add_merged_start on_elect renewed led
room_2 = simp (empty_rows, gets)

abbrev g2 : Group
g2 = heard g1 0 0 1 1 (Probe 0) (sends b0 (packet 1 0 1 (ProbeOk 0 0) ∷ []))

e2 : happens small_group g1 (Deliver 0) Whole ≡ g2
unfolding opening first_leader acted settled restarted opening_disk stored on_elect renewed led
e2 = delivers small_group g1 0 (packet 0 1 1 (Probe 0)) false b0 _ refl refl rule_2

-- 3. the answer to the probe comes to server 0
abbrev l1 : Leader
l1 = record l0 { known = FinMap.insert l0.known 1 0 }

abbrev a2 : Server
a2 = record a1 { role = Serving l1; reads = record { number = 0; range = record { first = 0; count = 8 }; waits_for = Sets.empty; confirmed = true } ∷ [] }

rule_3 : on_packet small_group a1 (packet 1 0 1 (ProbeOk 0 0)) ≡ sends a2 []
unfolding on_packet on_message on_probe_ok restarted opening_disk stored led
rule_3 = refl

room_3 : room_refusal g2 (sends a2 []) ≡ None
unfolding room_refusal most_packets most_packet_bytes half_size packet_size body_size opening first_leader restarted opening_disk stored acted settled put_entry put_entries add_start add_merged_start on_elect renewed led
room_3 = simp (empty_rows, gets)

abbrev g3 : Group
g3 = heard g2 2 1 0 1 (ProbeOk 0 0) (sends a2 [])

e3 : happens small_group g2 (Deliver 2) Whole ≡ g3
unfolding opening first_leader acted settled restarted opening_disk stored on_elect renewed led
e3 = delivers small_group g2 2 (packet 1 0 1 (ProbeOk 0 0)) false a1 _ refl refl rule_3

abbrev rest_2 : History
rest_2 = so (Deliver 2) Done ∷ []

abbrev rest_1 : History
rest_1 = so (Deliver 0) Done ∷ rest_2

replayed_2 : run small_group g2 rest_2 ≡ g3
replayed_2 = follows small_group g2 g3 g3 (so (Deliver 2) Done) [] e3 refl

replayed_1 : run small_group g1 rest_1 ≡ g3
replayed_1 = follows small_group g1 g2 g3 (so (Deliver 0) Done) rest_2 e2 replayed_2

replayed : replay small_group zero_read ≡ g3
replayed = follows small_group g0 g1 g3 (so (Fetch 0 (record { first = 0; count = 8 })) (ReadIs 0)) rest_1 e1 replayed_1

answered_last : g3.answered ≡ zero_answer ∷ []
unfolding opening first_leader acted settled restarted opening_disk stored on_elect renewed led
answered_last = simp empty_rows

pub answered : (replay small_group zero_read).answered ≡ zero_answer ∷ []
answered = ap (λ (g : Group). g.answered) replayed ∙ answered_last

answer_3 : answer_to small_group g2 (Deliver 2) ≡ Done
unfolding opening first_leader acted settled restarted opening_disk stored on_elect renewed led
answer_3 = deliver_answer small_group g2 2 (packet 1 0 1 (ProbeOk 0 0)) false a1 _ refl refl rule_3 room_3

answer_2 : answer_to small_group g1 (Deliver 0) ≡ Done
unfolding opening first_leader acted settled restarted opening_disk stored on_elect renewed led
answer_2 = deliver_answer small_group g1 0 (packet 0 1 1 (Probe 0)) false b0 _ refl refl rule_2 room_2

answer_1 : answer_to small_group g0 (Fetch 0 (record { first = 0; count = 8 })) ≡ ReadIs 0
unfolding opening first_leader acted settled restarted opening_disk stored on_elect renewed led
answer_1 = fetch_answer small_group g0 0 (record { first = 0; count = 8 }) a0 _ refl refl refl rule_1 room_1

legal_2 : IsLegalFrom small_group g2 [] rest_2
legal_2 = goes_on small_group g2 g3 [] (so (Deliver 2) Done) [] tt answer_3 e3 tt

legal_1 : IsLegalFrom small_group g1 [] rest_1
legal_1 = goes_on small_group g1 g2 [] (so (Deliver 0) Done) rest_2 tt answer_2 e2 legal_2

legal_0 : IsLegalFrom small_group g0 [] zero_read
legal_0 = goes_on small_group g0 g1 [] (so (Fetch 0 (record { first = 0; count = 8 })) (ReadIs 0)) rest_1 (omega arith, record { some = omega arith; few = omega arith; low = omega arith }) answer_1 e1 legal_1

pub legal : IsLegal small_group zero_read
legal = record { is_setup = is_small_group; legal = legal_0 }
