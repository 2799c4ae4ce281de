-- Applying before a missing slot, event by event.
use Rattle.std.proofs.Common.{◌≡◌, ℕ, true, false, [], ◌∷◌, Some, None, refl, ap, ◌∙◌, arith}
use Rattle.std.specs.Prelude.{slice_set}
use Rattle.std.specs.Cmp.{nat_cmp_total}
use Rattle.std.specs.FinMap
use Rattle.std.specs.FinMap.{gets, entries-insert}
use Rattle.pf_entry.specs.Sets
use Rattle.pf_entry.specs.Applying.{is_free}
use Rattle.pf_entry.specs.Ops.{Sector, range_of}
use Rattle.pf_entry.specs.declared.entries.Entry.{Entry}
use Rattle.pf_entry.specs.declared.packets.Packet.{Packet}
use Rattle.pf_entry.specs.declared.packets.Body.{Body}
use Rattle.pf_entry.specs.declared.packets.Body.TheVariants.{Accept, Ack, Commit}
use Rattle.pf_entry.specs.declared.records.Record.TheVariants.{Entry as EntryRecord}
use Rattle.pf_entry.specs.Records.{stored, put_entry, put_entries, add_start, add_merged_start, holds}
use Rattle.pf_entry.specs.Merging.{merged_entry}
use Rattle.pf_entry.specs.Sizes.{packet_size, body_size}
use Rattle.pf_protocol.specs.declared.answers.Answer.TheVariants.{Slot as SlotIs, Done, Job as JobIs, Refused}
use Rattle.pf_protocol.specs.declared.answers.Refusal.TheVariants.{NoneFree}
use Rattle.pf_protocol.specs.declared.events.Event.TheVariants.{Submit, Deliver, Claim, Finish}
use Rattle.pf_protocol.specs.Servers.{Leader, Server, Serving, Running, upto}
use Rattle.pf_protocol.specs.Outcomes.{Outcome, sends}
use Rattle.pf_protocol.specs.Leading.{on_submit, submitted, new_entry, look_behind, op_at, acknowledged, all_acknowledged, on_elect, led, on_ack, counted, commit, commit_own}
use Rattle.pf_protocol.specs.Following.{on_accept, accepted, on_commit}
use Rattle.pf_protocol.specs.Saving.{restarted, renewed, is_claimable, claimable, claimed, on_finish, applied_op, changed, snapshots_after}
use Rattle.pf_protocol.specs.Rows.{on_message, on_packet, settled}
use Rattle.pf_protocol.specs.Groups.{Group, Whole, opening, first_leader, opening_disk, happens, acted, with_sent}
use Rattle.pf_protocol.specs.Histories.{History, run}
use Rattle.pf_protocol.specs.Answers.{answer_to, room_refusal, most_packets, most_packet_bytes, half_size, IsLegal, IsLegalFrom}
use Rattle.pf_protocol.specs.Shown.{ServerShows, small_group, write_at, IsSector, line, so}
use Rattle.pf_protocol.proofs.Replays.{empty_rows, submits, delivers, claims_at_0, claims_at_1, finishes, second_is, none_marked, nor_of, none_of, follows}
use Rattle.pf_protocol.proofs.WorkedAnswers.{submit_answer, deliver_answer, finish_answer, claim_answer_0, claim_answer_1, claim_answer_none, goes_on, is_small_group}
use Rattle.pf_protocol.specs.EarlyApply.{early_apply, AppliesEarly}

-- the states of the servers 0, 1 and 2 are a, b and c, each with its number; l are records of leaders, and g are the group after each event
module _ (first second third : Sector) where
  abbrev packet : (from to term : ℕ) → Body → Packet
  packet from to term body = record { from = from; to = to; term = term; body = body }

  abbrev heard : Group → (k from to term : ℕ) → Body → Outcome → Group
  heard g k from to term body o = acted (with_sent g k (record { packet = packet from to term body; delivered = true; lost = false })) to o

  abbrev l0 : Leader
  l0 = record { first = 1; next = 1; b0 = 0; acks = FinMap.empty; known = FinMap.empty }

  abbrev a0 : Server
  a0 = record (restarted 0 0 (opening_disk small_group)) { role = Serving l0 }

  abbrev b0 : Server
  b0 = restarted 1 0 (opening_disk small_group)

  abbrev c0 : Server
  c0 = restarted 2 0 (opening_disk small_group)

  abbrev g0 : Group
  g0 = opening small_group

  -- 1. server 0 takes a submission
  abbrev one : Entry
  one = record { slot = 1; term = 1; first = 1; look = []; op = write_at 0 first }

  abbrev l1 : Leader
  l1 = record l0 { next = 2; acks = acknowledged l0.acks 0 1 }

  abbrev a1 : Server
  a1 = record a0 { durable = stored a0.durable (EntryRecord one); role = Serving l1 }

  rule_1 : on_submit small_group a0 (write_at 0 first) (Serving l0) ≡ record { server = a1; packets = packet 0 1 1 (Accept one) ∷ packet 0 2 1 (Accept one) ∷ []; answer = SlotIs 1; acked = None }
  unfolding on_submit submitted new_entry look_behind restarted opening_disk stored op_at range_of put_entry put_entries led
  rule_1 = refl

  room_1 : room_refusal g0 (record { server = a1; packets = packet 0 1 1 (Accept one) ∷ packet 0 2 1 (Accept one) ∷ []; answer = SlotIs 1; acked = None }) ≡ None
  unfolding room_refusal most_packets most_packet_bytes half_size packet_size body_size opening first_leader restarted opening_disk stored acted settled put_entry put_entries add_start add_merged_start on_elect renewed led
  room_1 = simp (empty_rows, gets)

  abbrev g1 : Group
  g1 = acted g0 0 (record { server = a1; packets = packet 0 1 1 (Accept one) ∷ packet 0 2 1 (Accept one) ∷ []; answer = SlotIs 1; acked = None })

  e1 : happens small_group g0 (Submit 0 (write_at 0 first)) Whole ≡ g1
  unfolding opening first_leader acted settled restarted opening_disk stored on_elect renewed led
  e1 = submits small_group g0 0 (write_at 0 first) a0 _ refl rule_1

  -- 2. server 0 takes a submission
  abbrev two : Entry
  two = record { slot = 2; term = 1; first = 1; look = record { slot = 1; range = record { first = 0; count = 1 } } ∷ []; op = write_at 4 second }

  abbrev l2 : Leader
  l2 = record l1 { next = 3; acks = acknowledged l1.acks 0 2 }

  abbrev a2 : Server
  a2 = record a1 { durable = stored a1.durable (EntryRecord two); role = Serving l2 }

  rule_2 : on_submit small_group a1 (write_at 4 second) (Serving l1) ≡ record { server = a2; packets = packet 0 1 1 (Accept two) ∷ packet 0 2 1 (Accept two) ∷ []; answer = SlotIs 2; acked = None }
  unfolding on_submit submitted new_entry look_behind restarted opening_disk stored op_at range_of put_entry put_entries led
  rule_2 = simp gets

  room_2 : room_refusal g1 (record { server = a2; packets = packet 0 1 1 (Accept two) ∷ packet 0 2 1 (Accept two) ∷ []; answer = SlotIs 2; acked = None }) ≡ None
  unfolding room_refusal most_packets most_packet_bytes half_size packet_size body_size opening first_leader restarted opening_disk stored acted settled put_entry put_entries add_start add_merged_start on_elect renewed led
  room_2 = simp (empty_rows, gets)

  abbrev g2 : Group
  g2 = acted g1 0 (record { server = a2; packets = packet 0 1 1 (Accept two) ∷ packet 0 2 1 (Accept two) ∷ []; answer = SlotIs 2; acked = None })

  e2 : happens small_group g1 (Submit 0 (write_at 4 second)) Whole ≡ g2
  unfolding opening first_leader acted settled restarted opening_disk stored on_elect renewed led
  e2 = submits small_group g1 0 (write_at 4 second) a1 _ refl rule_2

  -- 3. server 0 takes a submission
  abbrev three : Entry
  three = record { slot = 3; term = 1; first = 1; look = record { slot = 1; range = record { first = 0; count = 1 } } ∷ record { slot = 2; range = record { first = 4; count = 1 } } ∷ []; op = write_at 0 third }

  abbrev l3 : Leader
  l3 = record l2 { next = 4; acks = acknowledged l2.acks 0 3 }

  abbrev a3 : Server
  a3 = record a2 { durable = stored a2.durable (EntryRecord three); role = Serving l3 }

  rule_3 : on_submit small_group a2 (write_at 0 third) (Serving l2) ≡ record { server = a3; packets = packet 0 1 1 (Accept three) ∷ packet 0 2 1 (Accept three) ∷ []; answer = SlotIs 3; acked = None }
  unfolding on_submit submitted new_entry look_behind restarted opening_disk stored op_at range_of put_entry put_entries led
  rule_3 = simp gets

  room_3 : room_refusal g2 (record { server = a3; packets = packet 0 1 1 (Accept three) ∷ packet 0 2 1 (Accept three) ∷ []; answer = SlotIs 3; acked = None }) ≡ None
  unfolding room_refusal most_packets most_packet_bytes half_size packet_size body_size opening first_leader restarted opening_disk stored acted settled put_entry put_entries add_start add_merged_start on_elect renewed led
  room_3 = simp (empty_rows, gets)

  abbrev g3 : Group
  g3 = acted g2 0 (record { server = a3; packets = packet 0 1 1 (Accept three) ∷ packet 0 2 1 (Accept three) ∷ []; answer = SlotIs 3; acked = None })

  e3 : happens small_group g2 (Submit 0 (write_at 0 third)) Whole ≡ g3
  unfolding opening first_leader acted settled restarted opening_disk stored on_elect renewed led
  e3 = submits small_group g2 0 (write_at 0 third) a2 _ refl rule_3

  -- 4. a proposal from server 0 comes to server 1
  abbrev b1 : Server
  b1 = record b0 { durable = stored b0.durable (EntryRecord two) }

  rule_4 : on_packet small_group b0 (packet 0 1 1 (Accept two)) ≡ sends b1 (packet 1 0 1 (Ack 2 0) ∷ [])
  unfolding on_packet on_message on_accept accepted restarted opening_disk stored put_entry put_entries holds upto
  rule_4 = simp gets

  room_4 : room_refusal g3 (sends b1 (packet 1 0 1 (Ack 2 0) ∷ [])) ≡ None
  unfolding room_refusal most_packets most_packet_bytes half_size packet_size body_size opening first_leader restarted opening_disk stored acted settled put_entry put_entries add_start add_merged_start on_elect renewed led
  room_4 = simp (empty_rows, gets)

  abbrev g4 : Group
  g4 = heard g3 2 0 1 1 (Accept two) (sends b1 (packet 1 0 1 (Ack 2 0) ∷ []))

  e4 : happens small_group g3 (Deliver 2) Whole ≡ g4
  unfolding opening first_leader acted settled restarted opening_disk stored on_elect renewed led
  e4 = delivers small_group g3 2 (packet 0 1 1 (Accept two)) false b0 _ refl refl rule_4

  -- 5. a proposal from server 0 comes to server 1
  abbrev b2 : Server
  b2 = record b1 { durable = stored b1.durable (EntryRecord three) }

  rule_5 : on_packet small_group b1 (packet 0 1 1 (Accept three)) ≡ sends b2 (packet 1 0 1 (Ack 3 0) ∷ [])
  unfolding on_packet on_message on_accept accepted restarted opening_disk stored put_entry put_entries holds upto
  rule_5 = simp gets

  room_5 : room_refusal g4 (sends b2 (packet 1 0 1 (Ack 3 0) ∷ [])) ≡ None
  unfolding room_refusal most_packets most_packet_bytes half_size packet_size body_size opening first_leader restarted opening_disk stored acted settled put_entry put_entries add_start add_merged_start on_elect renewed led
  room_5 = simp (empty_rows, gets)

  abbrev g5 : Group
  g5 = heard g4 4 0 1 1 (Accept three) (sends b2 (packet 1 0 1 (Ack 3 0) ∷ []))

  e5 : happens small_group g4 (Deliver 4) Whole ≡ g5
  unfolding opening first_leader acted settled restarted opening_disk stored on_elect renewed led
  e5 = delivers small_group g4 4 (packet 0 1 1 (Accept three)) false b1 _ refl refl rule_5

  -- 6. an acknowledgement from server 1 comes to server 0
  abbrev l4 : Leader
  l4 = record l3 { known = FinMap.insert l3.known 1 0; acks = acknowledged l3.acks 1 2 }

  abbrev a4 : Server
  a4 = record a3 { role = Serving l4; committed = Sets.insert a3.committed 2 }

  rule_6 : on_packet small_group a3 (packet 1 0 1 (Ack 2 0)) ≡ record { server = a4; packets = packet 0 1 1 (Commit 2) ∷ []; answer = Done; acked = Some 2 }
  unfolding on_packet on_message on_ack commit_own counted acknowledged restarted opening_disk stored put_entry put_entries holds led all_acknowledged
  rule_6 = simp gets

  room_6 : room_refusal g5 (record { server = a4; packets = packet 0 1 1 (Commit 2) ∷ []; answer = Done; acked = Some 2 }) ≡ None
  unfolding room_refusal most_packets most_packet_bytes half_size packet_size body_size opening first_leader restarted opening_disk stored acted settled put_entry put_entries add_start add_merged_start on_elect renewed led
  room_6 = simp (empty_rows, gets)

  abbrev g6 : Group
  g6 = heard g5 6 1 0 1 (Ack 2 0) (record { server = a4; packets = packet 0 1 1 (Commit 2) ∷ []; answer = Done; acked = Some 2 })

  e6 : happens small_group g5 (Deliver 6) Whole ≡ g6
  unfolding opening first_leader acted settled restarted opening_disk stored on_elect renewed led
  e6 = delivers small_group g5 6 (packet 1 0 1 (Ack 2 0)) false a3 _ refl refl rule_6

  -- 7 and 8. server 0 applies slot 2
  claim_7 : claimable 4096 a4 ≡ Some 2
  unfolding settled restarted opening_disk stored put_entry put_entries is_free range_of merged_entry
  claim_7 = second_is a4 4094 refl (simp gets) (simp gets)

  op_7 : op_at a4.durable.log 2 ≡ write_at 4 second
  unfolding settled restarted opening_disk stored put_entry put_entries is_free range_of merged_entry op_at
  op_7 = simp gets

  abbrev g7 : Group
  g7 = record g6 { servers = slice_set g6.servers 0 (Running (claimed a4 2)) }

  e7 : happens small_group g6 Claim Whole ≡ g7
  unfolding opening first_leader acted settled restarted opening_disk stored on_elect renewed led
  e7 = claims_at_0 small_group g6 a4 2 refl claim_7

  abbrev a5 : Server
  a5 = record a4 { in_hand = FinMap.remove (FinMap.insert a4.in_hand 2 (write_at 4 second)) 2; applied = Sets.insert a4.applied 2; sectors = changed (write_at 4 second) a4.sectors }

  rule_8 : on_finish (claimed a4 2) 0 2 ≡ sends a5 []
  unfolding on_finish applied_op claimed op_at restarted opening_disk stored put_entry put_entries snapshots_after
  rule_8 = simp gets

  abbrev g8 : Group
  g8 = acted g7 0 (sends a5 [])

  e8 : happens small_group g7 (Finish 0 0 2) Whole ≡ g8
  unfolding opening first_leader acted settled restarted opening_disk stored on_elect renewed led
  e8 = finishes small_group g7 0 0 2 (claimed a4 2) _ refl rule_8

  -- 9. an acknowledgement from server 1 comes to server 0
  abbrev l5 : Leader
  l5 = record l4 { known = FinMap.insert l4.known 1 0; acks = acknowledged l4.acks 1 3 }

  abbrev a6 : Server
  a6 = record a5 { role = Serving l5; committed = Sets.insert a5.committed 3 }

  rule_9 : on_packet small_group a5 (packet 1 0 1 (Ack 3 0)) ≡ record { server = a6; packets = packet 0 1 1 (Commit 3) ∷ []; answer = Done; acked = Some 3 }
  unfolding on_packet on_message on_ack commit_own counted acknowledged restarted opening_disk stored put_entry put_entries holds led all_acknowledged
  rule_9 = simp gets

  room_9 : room_refusal g8 (record { server = a6; packets = packet 0 1 1 (Commit 3) ∷ []; answer = Done; acked = Some 3 }) ≡ None
  unfolding room_refusal most_packets most_packet_bytes half_size packet_size body_size opening first_leader restarted opening_disk stored acted settled put_entry put_entries add_start add_merged_start on_elect renewed led
  room_9 = simp (empty_rows, gets)

  abbrev g9 : Group
  g9 = heard g8 7 1 0 1 (Ack 3 0) (record { server = a6; packets = packet 0 1 1 (Commit 3) ∷ []; answer = Done; acked = Some 3 })

  e9 : happens small_group g8 (Deliver 7) Whole ≡ g9
  unfolding opening first_leader acted settled restarted opening_disk stored on_elect renewed led
  e9 = delivers small_group g8 7 (packet 1 0 1 (Ack 3 0)) false a5 _ refl refl rule_9

  -- 10. a commit from server 0 comes to server 1
  abbrev b3 : Server
  b3 = record b2 { committed = Sets.insert b2.committed 2 }

  rule_10 : on_packet small_group b2 (packet 0 1 1 (Commit 2)) ≡ sends b3 []
  unfolding on_packet on_message on_commit commit restarted opening_disk stored put_entry put_entries holds
  rule_10 = simp gets

  room_10 : room_refusal g9 (sends b3 []) ≡ None
  unfolding room_refusal most_packets most_packet_bytes half_size packet_size body_size opening first_leader restarted opening_disk stored acted settled put_entry put_entries add_start add_merged_start on_elect renewed led
  room_10 = simp (empty_rows, gets)

  abbrev g10 : Group
  g10 = heard g9 8 0 1 1 (Commit 2) (sends b3 [])

  e10 : happens small_group g9 (Deliver 8) Whole ≡ g10
  unfolding opening first_leader acted settled restarted opening_disk stored on_elect renewed led
  e10 = delivers small_group g9 8 (packet 0 1 1 (Commit 2)) false b2 _ refl refl rule_10

  -- 11 and 12. server 1 applies slot 2
  none_11_0 : claimable 4096 a6 ≡ None
  unfolding settled restarted opening_disk stored put_entry put_entries is_free range_of merged_entry
  none_11_0 =
      let can = λ (slot : ℕ). is_claimable a6 (FinMap.get a6.durable.log slot) slot in
      none_marked a6 4096 (nor_of can (Sets.insert Sets.empty 2) 3 (simp gets) (nor_of can Sets.empty 2 (simp gets) (none_of can)))

  claim_11 : claimable 4096 b3 ≡ Some 2
  unfolding settled restarted opening_disk stored put_entry put_entries is_free range_of merged_entry
  claim_11 = second_is b3 4094 refl (simp gets) (simp gets)

  op_11 : op_at b3.durable.log 2 ≡ write_at 4 second
  unfolding settled restarted opening_disk stored put_entry put_entries is_free range_of merged_entry op_at
  op_11 = simp gets

  abbrev g11 : Group
  g11 = record g10 { servers = slice_set g10.servers 1 (Running (claimed b3 2)) }

  e11 : happens small_group g10 Claim Whole ≡ g11
  unfolding opening first_leader acted settled restarted opening_disk stored on_elect renewed led
  e11 = claims_at_1 small_group g10 none_11_0 b3 2 refl claim_11

  abbrev b4 : Server
  b4 = record b3 { in_hand = FinMap.remove (FinMap.insert b3.in_hand 2 (write_at 4 second)) 2; applied = Sets.insert b3.applied 2; sectors = changed (write_at 4 second) b3.sectors }

  rule_12 : on_finish (claimed b3 2) 0 2 ≡ sends b4 []
  unfolding on_finish applied_op claimed op_at restarted opening_disk stored put_entry put_entries snapshots_after
  rule_12 = simp gets

  abbrev g12 : Group
  g12 = acted g11 1 (sends b4 [])

  e12 : happens small_group g11 (Finish 1 0 2) Whole ≡ g12
  unfolding opening first_leader acted settled restarted opening_disk stored on_elect renewed led
  e12 = finishes small_group g11 1 0 2 (claimed b3 2) _ refl rule_12

  -- 13. a commit from server 0 comes to server 1
  abbrev b5 : Server
  b5 = record b4 { committed = Sets.insert b4.committed 3 }

  rule_13 : on_packet small_group b4 (packet 0 1 1 (Commit 3)) ≡ sends b5 []
  unfolding on_packet on_message on_commit commit restarted opening_disk stored put_entry put_entries holds
  rule_13 = simp gets

  room_13 : room_refusal g12 (sends b5 []) ≡ None
  unfolding room_refusal most_packets most_packet_bytes half_size packet_size body_size opening first_leader restarted opening_disk stored acted settled put_entry put_entries add_start add_merged_start on_elect renewed led
  room_13 = simp (empty_rows, gets)

  abbrev g13 : Group
  g13 = heard g12 9 0 1 1 (Commit 3) (sends b5 [])

  e13 : happens small_group g12 (Deliver 9) Whole ≡ g13
  unfolding opening first_leader acted settled restarted opening_disk stored on_elect renewed led
  e13 = delivers small_group g12 9 (packet 0 1 1 (Commit 3)) false b4 _ refl refl rule_13

  none_last_0 : claimable 4096 a6 ≡ None
  unfolding settled restarted opening_disk stored put_entry put_entries is_free range_of merged_entry
  none_last_0 =
      let can = λ (slot : ℕ). is_claimable a6 (FinMap.get a6.durable.log slot) slot in
      none_marked a6 4096 (nor_of can (Sets.insert Sets.empty 2) 3 (simp gets) (nor_of can Sets.empty 2 (simp gets) (none_of can)))

  none_last_1 : claimable 4096 b5 ≡ None
  unfolding settled restarted opening_disk stored put_entry put_entries is_free range_of merged_entry
  none_last_1 =
      let can = λ (slot : ℕ). is_claimable b5 (FinMap.get b5.durable.log slot) slot in
      none_marked b5 4096 (nor_of can (Sets.insert Sets.empty 2) 3 (simp gets) (nor_of can Sets.empty 2 (simp gets) (none_of can)))

  none_last_2 : claimable 4096 c0 ≡ None
  unfolding settled restarted opening_disk stored put_entry put_entries is_free range_of merged_entry
  none_last_2 =
      let can = λ (slot : ℕ). is_claimable c0 (FinMap.get c0.durable.log slot) slot in
      none_marked c0 4096 (none_of can)

  calm : answer_to small_group g13 Claim ≡ Refused NoneFree
  unfolding opening first_leader acted settled restarted opening_disk stored on_elect renewed led
  calm = claim_answer_none small_group g13 none_last_0 none_last_1 none_last_2

  abbrev rest_13 : History
  rest_13 = []

  abbrev rest_12 : History
  rest_12 = so (Deliver 9) Done ∷ rest_13

  abbrev rest_11 : History
  rest_11 = so (Finish 1 0 2) Done ∷ rest_12

  abbrev rest_10 : History
  rest_10 = so Claim (JobIs (record { server = 1; life = 0; slot = 2; op = write_at 4 second })) ∷ rest_11

  abbrev rest_9 : History
  rest_9 = so (Deliver 8) Done ∷ rest_10

  abbrev rest_8 : History
  rest_8 = so (Deliver 7) Done ∷ rest_9

  abbrev rest_7 : History
  rest_7 = so (Finish 0 0 2) Done ∷ rest_8

  abbrev rest_6 : History
  rest_6 = so Claim (JobIs (record { server = 0; life = 0; slot = 2; op = write_at 4 second })) ∷ rest_7

  abbrev rest_5 : History
  rest_5 = so (Deliver 6) Done ∷ rest_6

  abbrev rest_4 : History
  rest_4 = so (Deliver 4) Done ∷ rest_5

  abbrev rest_3 : History
  rest_3 = so (Deliver 2) Done ∷ rest_4

  abbrev rest_2 : History
  rest_2 = so (Submit 0 (write_at 0 third)) (SlotIs 3) ∷ rest_3

  abbrev rest_1 : History
  rest_1 = so (Submit 0 (write_at 4 second)) (SlotIs 2) ∷ rest_2

  abbrev rest_0 : History
  rest_0 = so (Submit 0 (write_at 0 first)) (SlotIs 1) ∷ rest_1

  replayed_13 : run small_group g13 rest_13 ≡ g13
  replayed_13 = refl

  replayed_12 : run small_group g12 rest_12 ≡ g13
  replayed_12 = follows small_group g12 g13 g13 (so (Deliver 9) Done) rest_13 e13 replayed_13

  replayed_11 : run small_group g11 rest_11 ≡ g13
  replayed_11 = follows small_group g11 g12 g13 (so (Finish 1 0 2) Done) rest_12 e12 replayed_12

  replayed_10 : run small_group g10 rest_10 ≡ g13
  replayed_10 = follows small_group g10 g11 g13 (so Claim (JobIs (record { server = 1; life = 0; slot = 2; op = write_at 4 second }))) rest_11 e11 replayed_11

  replayed_9 : run small_group g9 rest_9 ≡ g13
  replayed_9 = follows small_group g9 g10 g13 (so (Deliver 8) Done) rest_10 e10 replayed_10

  replayed_8 : run small_group g8 rest_8 ≡ g13
  replayed_8 = follows small_group g8 g9 g13 (so (Deliver 7) Done) rest_9 e9 replayed_9

  replayed_7 : run small_group g7 rest_7 ≡ g13
  replayed_7 = follows small_group g7 g8 g13 (so (Finish 0 0 2) Done) rest_8 e8 replayed_8

  replayed_6 : run small_group g6 rest_6 ≡ g13
  replayed_6 = follows small_group g6 g7 g13 (so Claim (JobIs (record { server = 0; life = 0; slot = 2; op = write_at 4 second }))) rest_7 e7 replayed_7

  replayed_5 : run small_group g5 rest_5 ≡ g13
  replayed_5 = follows small_group g5 g6 g13 (so (Deliver 6) Done) rest_6 e6 replayed_6

  replayed_4 : run small_group g4 rest_4 ≡ g13
  replayed_4 = follows small_group g4 g5 g13 (so (Deliver 4) Done) rest_5 e5 replayed_5

  replayed_3 : run small_group g3 rest_3 ≡ g13
  replayed_3 = follows small_group g3 g4 g13 (so (Deliver 2) Done) rest_4 e4 replayed_4

  replayed_2 : run small_group g2 rest_2 ≡ g13
  replayed_2 = follows small_group g2 g3 g13 (so (Submit 0 (write_at 0 third)) (SlotIs 3)) rest_3 e3 replayed_3

  replayed_1 : run small_group g1 rest_1 ≡ g13
  replayed_1 = follows small_group g1 g2 g13 (so (Submit 0 (write_at 4 second)) (SlotIs 2)) rest_2 e2 replayed_2

  replayed_0 : run small_group g0 rest_0 ≡ g13
  replayed_0 = follows small_group g0 g1 g13 (so (Submit 0 (write_at 0 first)) (SlotIs 1)) rest_1 e1 replayed_1

  answer_13 : answer_to small_group g12 (Deliver 9) ≡ Done
  unfolding opening first_leader acted settled restarted opening_disk stored on_elect renewed led
  answer_13 = deliver_answer small_group g12 9 (packet 0 1 1 (Commit 3)) false b4 _ refl refl rule_13 room_13

  answer_12 : answer_to small_group g11 (Finish 1 0 2) ≡ Done
  unfolding opening first_leader acted settled restarted opening_disk stored on_elect renewed led
  answer_12 = finish_answer small_group g11 1 0 2 (claimed b3 2) _ refl rule_12

  answer_11 : answer_to small_group g10 Claim ≡ JobIs (record { server = 1; life = 0; slot = 2; op = write_at 4 second })
  unfolding opening first_leader acted settled restarted opening_disk stored on_elect renewed led
  answer_11 = claim_answer_1 small_group g10 none_11_0 b3 2 refl claim_11 ∙ ap (λ x. JobIs (record { server = 1; life = 0; slot = 2; op = x })) op_11

  answer_10 : answer_to small_group g9 (Deliver 8) ≡ Done
  unfolding opening first_leader acted settled restarted opening_disk stored on_elect renewed led
  answer_10 = deliver_answer small_group g9 8 (packet 0 1 1 (Commit 2)) false b2 _ refl refl rule_10 room_10

  answer_9 : answer_to small_group g8 (Deliver 7) ≡ Done
  unfolding opening first_leader acted settled restarted opening_disk stored on_elect renewed led
  answer_9 = deliver_answer small_group g8 7 (packet 1 0 1 (Ack 3 0)) false a5 _ refl refl rule_9 room_9

  answer_8 : answer_to small_group g7 (Finish 0 0 2) ≡ Done
  unfolding opening first_leader acted settled restarted opening_disk stored on_elect renewed led
  answer_8 = finish_answer small_group g7 0 0 2 (claimed a4 2) _ refl rule_8

  answer_7 : answer_to small_group g6 Claim ≡ JobIs (record { server = 0; life = 0; slot = 2; op = write_at 4 second })
  unfolding opening first_leader acted settled restarted opening_disk stored on_elect renewed led
  answer_7 = claim_answer_0 small_group g6 a4 2 refl claim_7 ∙ ap (λ x. JobIs (record { server = 0; life = 0; slot = 2; op = x })) op_7

  answer_6 : answer_to small_group g5 (Deliver 6) ≡ Done
  unfolding opening first_leader acted settled restarted opening_disk stored on_elect renewed led
  answer_6 = deliver_answer small_group g5 6 (packet 1 0 1 (Ack 2 0)) false a3 _ refl refl rule_6 room_6

  answer_5 : answer_to small_group g4 (Deliver 4) ≡ Done
  unfolding opening first_leader acted settled restarted opening_disk stored on_elect renewed led
  answer_5 = deliver_answer small_group g4 4 (packet 0 1 1 (Accept three)) false b1 _ refl refl rule_5 room_5

  answer_4 : answer_to small_group g3 (Deliver 2) ≡ Done
  unfolding opening first_leader acted settled restarted opening_disk stored on_elect renewed led
  answer_4 = deliver_answer small_group g3 2 (packet 0 1 1 (Accept two)) false b0 _ refl refl rule_4 room_4

  answer_3 : answer_to small_group g2 (Submit 0 (write_at 0 third)) ≡ SlotIs 3
  unfolding opening first_leader acted settled restarted opening_disk stored on_elect renewed led range_of
  answer_3 = submit_answer small_group g2 0 (write_at 0 third) a2 _ refl refl refl refl refl rule_3 room_3

  answer_2 : answer_to small_group g1 (Submit 0 (write_at 4 second)) ≡ SlotIs 2
  unfolding opening first_leader acted settled restarted opening_disk stored on_elect renewed led range_of
  answer_2 = submit_answer small_group g1 0 (write_at 4 second) a1 _ refl refl refl refl refl rule_2 room_2

  answer_1 : answer_to small_group g0 (Submit 0 (write_at 0 first)) ≡ SlotIs 1
  unfolding opening first_leader acted settled restarted opening_disk stored on_elect renewed led range_of
  answer_1 = submit_answer small_group g0 0 (write_at 0 first) a0 _ refl refl refl refl refl rule_1 room_1

  acked_last : g13.acked ≡ record { term = 1; slot = 2 } ∷ record { term = 1; slot = 3 } ∷ []
  unfolding opening first_leader acted settled restarted opening_disk stored on_elect renewed led
  acked_last = refl

  shown_1 : ServerShows g13 1 1 0 (line 2 1 (write_at 4 second) true ∷ line 3 1 (write_at 0 third) true ∷ []) (2 ∷ [])
  unfolding opening first_leader acted settled restarted opening_disk stored on_elect renewed led put_entry put_entries
  shown_1 = record { server = b5; runs = refl; its_term = refl; its_base = refl; its_log = simp (entries-insert, empty_rows, gets); its_applied = simp (entries-insert, empty_rows, nat_cmp_total) }

  pub shows : AppliesEarly first second third
  shows = record { calm = ap (λ (g : Group). answer_to small_group g Claim) replayed_0 ∙ calm; acked = ap (λ (g : Group). g.acked) replayed_0 ∙ acked_last; shown_1 = rw replayed_0 shown_1 }

  -- with whole sectors the history is one that the group can have
  module _ (length_first : IsSector first) (length_second : IsSector second) (length_third : IsSector third) where
    legal_13 : IsLegalFrom small_group g13 ([]) rest_13
    legal_13 = tt

    legal_12 : IsLegalFrom small_group g12 ([]) rest_12
    legal_12 = goes_on small_group g12 g13 ([]) (so (Deliver 9) Done) rest_13 tt answer_13 e13 legal_13

    legal_11 : IsLegalFrom small_group g11 (record { server = 1; life = 0; slot = 2; op = write_at 4 second } ∷ []) rest_11
    legal_11 = goes_on small_group g11 g12 (record { server = 1; life = 0; slot = 2; op = write_at 4 second } ∷ []) (so (Finish 1 0 2) Done) rest_12 refl answer_12 e12 legal_12

    legal_10 : IsLegalFrom small_group g10 ([]) rest_10
    legal_10 = goes_on small_group g10 g11 ([]) (so Claim (JobIs (record { server = 1; life = 0; slot = 2; op = write_at 4 second }))) rest_11 tt answer_11 e11 legal_11

    legal_9 : IsLegalFrom small_group g9 ([]) rest_9
    legal_9 = goes_on small_group g9 g10 ([]) (so (Deliver 8) Done) rest_10 tt answer_10 e10 legal_10

    legal_8 : IsLegalFrom small_group g8 ([]) rest_8
    legal_8 = goes_on small_group g8 g9 ([]) (so (Deliver 7) Done) rest_9 tt answer_9 e9 legal_9

    legal_7 : IsLegalFrom small_group g7 (record { server = 0; life = 0; slot = 2; op = write_at 4 second } ∷ []) rest_7
    legal_7 = goes_on small_group g7 g8 (record { server = 0; life = 0; slot = 2; op = write_at 4 second } ∷ []) (so (Finish 0 0 2) Done) rest_8 refl answer_8 e8 legal_8

    legal_6 : IsLegalFrom small_group g6 ([]) rest_6
    legal_6 = goes_on small_group g6 g7 ([]) (so Claim (JobIs (record { server = 0; life = 0; slot = 2; op = write_at 4 second }))) rest_7 tt answer_7 e7 legal_7

    legal_5 : IsLegalFrom small_group g5 ([]) rest_5
    legal_5 = goes_on small_group g5 g6 ([]) (so (Deliver 6) Done) rest_6 tt answer_6 e6 legal_6

    legal_4 : IsLegalFrom small_group g4 ([]) rest_4
    legal_4 = goes_on small_group g4 g5 ([]) (so (Deliver 4) Done) rest_5 tt answer_5 e5 legal_5

    legal_3 : IsLegalFrom small_group g3 ([]) rest_3
    legal_3 = goes_on small_group g3 g4 ([]) (so (Deliver 2) Done) rest_4 tt answer_4 e4 legal_4

    legal_2 : IsLegalFrom small_group g2 ([]) rest_2
    legal_2 = goes_on small_group g2 g3 ([]) (so (Submit 0 (write_at 0 third)) (SlotIs 3)) rest_3 (omega arith, (record { some = omega arith; few = omega arith; low = omega arith }, refl, (length_third, tt))) answer_3 e3 legal_3

    legal_1 : IsLegalFrom small_group g1 ([]) rest_1
    legal_1 = goes_on small_group g1 g2 ([]) (so (Submit 0 (write_at 4 second)) (SlotIs 2)) rest_2 (omega arith, (record { some = omega arith; few = omega arith; low = omega arith }, refl, (length_second, tt))) answer_2 e2 legal_2

    legal_0 : IsLegalFrom small_group g0 ([]) rest_0
    legal_0 = goes_on small_group g0 g1 ([]) (so (Submit 0 (write_at 0 first)) (SlotIs 1)) rest_1 (omega arith, (record { some = omega arith; few = omega arith; low = omega arith }, refl, (length_first, tt))) answer_1 e1 legal_1

    pub legal : IsLegal small_group (early_apply first second third)
    legal = record { is_setup = is_small_group; legal = legal_0 }
