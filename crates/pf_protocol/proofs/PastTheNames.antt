-- At the edge of the look-behind list, event by event.
use Rattle.std.proofs.Common.{◌≡◌, ℕ, true, false, [], ◌∷◌, Some, None, refl, ap, ◌∙◌, arith}
use Rattle.std.specs.Prelude.{slice_set}
use Rattle.std.specs.Cmp.{nat_cmp_total}
use Rattle.std.specs.FinMap
use Rattle.std.specs.FinMap.{gets, entries-insert}
use Rattle.pf_entry.specs.Sets
use Rattle.pf_entry.specs.Applying.{is_free}
use Rattle.pf_entry.specs.Ops.{Sector, range_of}
use Rattle.pf_entry.specs.declared.entries.Entry.{Entry}
use Rattle.pf_entry.specs.declared.packets.Packet.{Packet}
use Rattle.pf_entry.specs.declared.packets.Body.{Body}
use Rattle.pf_entry.specs.declared.packets.Body.TheVariants.{Accept, Ack, Commit}
use Rattle.pf_entry.specs.declared.records.Record.TheVariants.{Entry as EntryRecord}
use Rattle.pf_entry.specs.Records.{stored, put_entry, put_entries, add_start, add_merged_start, holds}
use Rattle.pf_entry.specs.Merging.{merged_entry}
use Rattle.pf_entry.specs.Sizes.{packet_size, body_size}
use Rattle.pf_protocol.specs.declared.answers.Answer.TheVariants.{Slot as SlotIs, Done, Job as JobIs, Refused}
use Rattle.pf_protocol.specs.declared.answers.Refusal.TheVariants.{NoneFree}
use Rattle.pf_protocol.specs.declared.events.Event.TheVariants.{Submit, Deliver, Claim, Finish}
use Rattle.pf_protocol.specs.Servers.{Leader, Server, Serving, Running, upto}
use Rattle.pf_protocol.specs.Outcomes.{Outcome, sends}
use Rattle.pf_protocol.specs.Leading.{on_submit, submitted, new_entry, look_behind, op_at, acknowledged, all_acknowledged, on_elect, led, on_ack, counted, commit, commit_own}
use Rattle.pf_protocol.specs.Following.{on_accept, accepted, on_commit}
use Rattle.pf_protocol.specs.Saving.{restarted, renewed, is_claimable, claimable, claimed, on_finish, applied_op, changed, snapshots_after}
use Rattle.pf_protocol.specs.Rows.{on_message, on_packet, settled}
use Rattle.pf_protocol.specs.Groups.{Group, Whole, opening, first_leader, opening_disk, happens, acted, with_sent}
use Rattle.pf_protocol.specs.Histories.{History, run}
use Rattle.pf_protocol.specs.Answers.{answer_to, room_refusal, most_packets, most_packet_bytes, half_size, IsLegal, IsLegalFrom}
use Rattle.pf_protocol.specs.Shown.{ServerShows, small_group, write_at, IsSector, line, so}
use Rattle.pf_protocol.proofs.Replays.{empty_rows, submits, delivers, claims_at_0, claims_at_1, finishes, second_is, third_is, none_marked, nor_of, none_of, follows}
use Rattle.pf_protocol.proofs.WorkedAnswers.{submit_answer, deliver_answer, finish_answer, claim_answer_0, claim_answer_1, claim_answer_none, goes_on, is_small_group}
use Rattle.pf_protocol.specs.PastTheNames.{past_the_names, WaitsPastTheNames}

-- the states of the servers 0, 1 and 2 are a, b and c, each with its number; l are records of leaders, and g are the group after each event
module _ (first second third fourth : Sector) where
  abbrev packet : (from to term : ℕ) → Body → Packet
  packet from to term body = record { from = from; to = to; term = term; body = body }

  abbrev heard : Group → (k from to term : ℕ) → Body → Outcome → Group
  heard g k from to term body o = acted (with_sent g k (record { packet = packet from to term body; delivered = true; lost = false })) to o

  abbrev l0 : Leader
  l0 = record { first = 1; next = 1; b0 = 0; acks = FinMap.empty; known = FinMap.empty }

  abbrev a0 : Server
  a0 = record (restarted 0 0 (opening_disk small_group)) { role = Serving l0 }

  abbrev b0 : Server
  b0 = restarted 1 0 (opening_disk small_group)

  abbrev c0 : Server
  c0 = restarted 2 0 (opening_disk small_group)

  abbrev g0 : Group
  g0 = opening small_group

  -- 1. server 0 takes a submission
  abbrev one : Entry
  one = record { slot = 1; term = 1; first = 1; look = []; op = write_at 0 first }

  abbrev l1 : Leader
  l1 = record l0 { next = 2; acks = acknowledged l0.acks 0 1 }

  abbrev a1 : Server
  a1 = record a0 { durable = stored a0.durable (EntryRecord one); role = Serving l1 }

  rule_1 : on_submit small_group a0 (write_at 0 first) (Serving l0) ≡ record { server = a1; packets = packet 0 1 1 (Accept one) ∷ packet 0 2 1 (Accept one) ∷ []; answer = SlotIs 1; acked = None }
  unfolding on_submit submitted new_entry look_behind restarted opening_disk stored op_at range_of put_entry put_entries led
  rule_1 = refl

  room_1 : room_refusal g0 (record { server = a1; packets = packet 0 1 1 (Accept one) ∷ packet 0 2 1 (Accept one) ∷ []; answer = SlotIs 1; acked = None }) ≡ None
  unfolding room_refusal most_packets most_packet_bytes half_size packet_size body_size opening first_leader restarted opening_disk stored acted settled put_entry put_entries add_start add_merged_start on_elect renewed led
  room_1 = simp (empty_rows, gets)

  abbrev g1 : Group
  g1 = acted g0 0 (record { server = a1; packets = packet 0 1 1 (Accept one) ∷ packet 0 2 1 (Accept one) ∷ []; answer = SlotIs 1; acked = None })

  e1 : happens small_group g0 (Submit 0 (write_at 0 first)) Whole ≡ g1
  unfolding opening first_leader acted settled restarted opening_disk stored on_elect renewed led
  e1 = submits small_group g0 0 (write_at 0 first) a0 _ refl rule_1

  -- 2. server 0 takes a submission
  abbrev two : Entry
  two = record { slot = 2; term = 1; first = 1; look = record { slot = 1; range = record { first = 0; count = 1 } } ∷ []; op = write_at 1 second }

  abbrev l2 : Leader
  l2 = record l1 { next = 3; acks = acknowledged l1.acks 0 2 }

  abbrev a2 : Server
  a2 = record a1 { durable = stored a1.durable (EntryRecord two); role = Serving l2 }

  rule_2 : on_submit small_group a1 (write_at 1 second) (Serving l1) ≡ record { server = a2; packets = packet 0 1 1 (Accept two) ∷ packet 0 2 1 (Accept two) ∷ []; answer = SlotIs 2; acked = None }
  unfolding on_submit submitted new_entry look_behind restarted opening_disk stored op_at range_of put_entry put_entries led
  rule_2 = simp gets

  room_2 : room_refusal g1 (record { server = a2; packets = packet 0 1 1 (Accept two) ∷ packet 0 2 1 (Accept two) ∷ []; answer = SlotIs 2; acked = None }) ≡ None
  unfolding room_refusal most_packets most_packet_bytes half_size packet_size body_size opening first_leader restarted opening_disk stored acted settled put_entry put_entries add_start add_merged_start on_elect renewed led
  room_2 = simp (empty_rows, gets)

  abbrev g2 : Group
  g2 = acted g1 0 (record { server = a2; packets = packet 0 1 1 (Accept two) ∷ packet 0 2 1 (Accept two) ∷ []; answer = SlotIs 2; acked = None })

  e2 : happens small_group g1 (Submit 0 (write_at 1 second)) Whole ≡ g2
  unfolding opening first_leader acted settled restarted opening_disk stored on_elect renewed led
  e2 = submits small_group g1 0 (write_at 1 second) a1 _ refl rule_2

  -- 3. server 0 takes a submission
  abbrev three : Entry
  three = record { slot = 3; term = 1; first = 1; look = record { slot = 1; range = record { first = 0; count = 1 } } ∷ record { slot = 2; range = record { first = 1; count = 1 } } ∷ []; op = write_at 2 third }

  abbrev l3 : Leader
  l3 = record l2 { next = 4; acks = acknowledged l2.acks 0 3 }

  abbrev a3 : Server
  a3 = record a2 { durable = stored a2.durable (EntryRecord three); role = Serving l3 }

  rule_3 : on_submit small_group a2 (write_at 2 third) (Serving l2) ≡ record { server = a3; packets = packet 0 1 1 (Accept three) ∷ packet 0 2 1 (Accept three) ∷ []; answer = SlotIs 3; acked = None }
  unfolding on_submit submitted new_entry look_behind restarted opening_disk stored op_at range_of put_entry put_entries led
  rule_3 = simp gets

  room_3 : room_refusal g2 (record { server = a3; packets = packet 0 1 1 (Accept three) ∷ packet 0 2 1 (Accept three) ∷ []; answer = SlotIs 3; acked = None }) ≡ None
  unfolding room_refusal most_packets most_packet_bytes half_size packet_size body_size opening first_leader restarted opening_disk stored acted settled put_entry put_entries add_start add_merged_start on_elect renewed led
  room_3 = simp (empty_rows, gets)

  abbrev g3 : Group
  g3 = acted g2 0 (record { server = a3; packets = packet 0 1 1 (Accept three) ∷ packet 0 2 1 (Accept three) ∷ []; answer = SlotIs 3; acked = None })

  e3 : happens small_group g2 (Submit 0 (write_at 2 third)) Whole ≡ g3
  unfolding opening first_leader acted settled restarted opening_disk stored on_elect renewed led
  e3 = submits small_group g2 0 (write_at 2 third) a2 _ refl rule_3

  -- 4. server 0 takes a submission
  abbrev four : Entry
  four = record { slot = 4; term = 1; first = 1; look = record { slot = 2; range = record { first = 1; count = 1 } } ∷ record { slot = 3; range = record { first = 2; count = 1 } } ∷ []; op = write_at 3 fourth }

  abbrev l4 : Leader
  l4 = record l3 { next = 5; acks = acknowledged l3.acks 0 4 }

  abbrev a4 : Server
  a4 = record a3 { durable = stored a3.durable (EntryRecord four); role = Serving l4 }

  rule_4 : on_submit small_group a3 (write_at 3 fourth) (Serving l3) ≡ record { server = a4; packets = packet 0 1 1 (Accept four) ∷ packet 0 2 1 (Accept four) ∷ []; answer = SlotIs 4; acked = None }
  unfolding on_submit submitted new_entry look_behind restarted opening_disk stored op_at range_of put_entry put_entries led
  rule_4 = simp gets

  room_4 : room_refusal g3 (record { server = a4; packets = packet 0 1 1 (Accept four) ∷ packet 0 2 1 (Accept four) ∷ []; answer = SlotIs 4; acked = None }) ≡ None
  unfolding room_refusal most_packets most_packet_bytes half_size packet_size body_size opening first_leader restarted opening_disk stored acted settled put_entry put_entries add_start add_merged_start on_elect renewed led
  room_4 = simp (empty_rows, gets)

  abbrev g4 : Group
  g4 = acted g3 0 (record { server = a4; packets = packet 0 1 1 (Accept four) ∷ packet 0 2 1 (Accept four) ∷ []; answer = SlotIs 4; acked = None })

  e4 : happens small_group g3 (Submit 0 (write_at 3 fourth)) Whole ≡ g4
  unfolding opening first_leader acted settled restarted opening_disk stored on_elect renewed led
  e4 = submits small_group g3 0 (write_at 3 fourth) a3 _ refl rule_4

  -- 5. a proposal from server 0 comes to server 1
  abbrev b1 : Server
  b1 = record b0 { durable = stored b0.durable (EntryRecord two) }

  rule_5 : on_packet small_group b0 (packet 0 1 1 (Accept two)) ≡ sends b1 (packet 1 0 1 (Ack 2 0) ∷ [])
  unfolding on_packet on_message on_accept accepted restarted opening_disk stored put_entry put_entries holds upto
  rule_5 = simp gets

  room_5 : room_refusal g4 (sends b1 (packet 1 0 1 (Ack 2 0) ∷ [])) ≡ None
  unfolding room_refusal most_packets most_packet_bytes half_size packet_size body_size opening first_leader restarted opening_disk stored acted settled put_entry put_entries add_start add_merged_start on_elect renewed led
  room_5 = simp (empty_rows, gets)

  abbrev g5 : Group
  g5 = heard g4 2 0 1 1 (Accept two) (sends b1 (packet 1 0 1 (Ack 2 0) ∷ []))

  e5 : happens small_group g4 (Deliver 2) Whole ≡ g5
  unfolding opening first_leader acted settled restarted opening_disk stored on_elect renewed led
  e5 = delivers small_group g4 2 (packet 0 1 1 (Accept two)) false b0 _ refl refl rule_5

  -- 6. a proposal from server 0 comes to server 1
  abbrev b2 : Server
  b2 = record b1 { durable = stored b1.durable (EntryRecord three) }

  rule_6 : on_packet small_group b1 (packet 0 1 1 (Accept three)) ≡ sends b2 (packet 1 0 1 (Ack 3 0) ∷ [])
  unfolding on_packet on_message on_accept accepted restarted opening_disk stored put_entry put_entries holds upto
  rule_6 = simp gets

  room_6 : room_refusal g5 (sends b2 (packet 1 0 1 (Ack 3 0) ∷ [])) ≡ None
  unfolding room_refusal most_packets most_packet_bytes half_size packet_size body_size opening first_leader restarted opening_disk stored acted settled put_entry put_entries add_start add_merged_start on_elect renewed led
  room_6 = simp (empty_rows, gets)

  abbrev g6 : Group
  g6 = heard g5 4 0 1 1 (Accept three) (sends b2 (packet 1 0 1 (Ack 3 0) ∷ []))

  e6 : happens small_group g5 (Deliver 4) Whole ≡ g6
  unfolding opening first_leader acted settled restarted opening_disk stored on_elect renewed led
  e6 = delivers small_group g5 4 (packet 0 1 1 (Accept three)) false b1 _ refl refl rule_6

  -- 7. a proposal from server 0 comes to server 1
  abbrev b3 : Server
  b3 = record b2 { durable = stored b2.durable (EntryRecord four) }

  rule_7 : on_packet small_group b2 (packet 0 1 1 (Accept four)) ≡ sends b3 (packet 1 0 1 (Ack 4 0) ∷ [])
  unfolding on_packet on_message on_accept accepted restarted opening_disk stored put_entry put_entries holds upto
  rule_7 = simp gets

  room_7 : room_refusal g6 (sends b3 (packet 1 0 1 (Ack 4 0) ∷ [])) ≡ None
  unfolding room_refusal most_packets most_packet_bytes half_size packet_size body_size opening first_leader restarted opening_disk stored acted settled put_entry put_entries add_start add_merged_start on_elect renewed led
  room_7 = simp (empty_rows, gets)

  abbrev g7 : Group
  g7 = heard g6 6 0 1 1 (Accept four) (sends b3 (packet 1 0 1 (Ack 4 0) ∷ []))

  e7 : happens small_group g6 (Deliver 6) Whole ≡ g7
  unfolding opening first_leader acted settled restarted opening_disk stored on_elect renewed led
  e7 = delivers small_group g6 6 (packet 0 1 1 (Accept four)) false b2 _ refl refl rule_7

  -- 8. an acknowledgement from server 1 comes to server 0
  abbrev l5 : Leader
  l5 = record l4 { known = FinMap.insert l4.known 1 0; acks = acknowledged l4.acks 1 2 }

  abbrev a5 : Server
  a5 = record a4 { role = Serving l5; committed = Sets.insert a4.committed 2 }

  rule_8 : on_packet small_group a4 (packet 1 0 1 (Ack 2 0)) ≡ record { server = a5; packets = packet 0 1 1 (Commit 2) ∷ []; answer = Done; acked = Some 2 }
  unfolding on_packet on_message on_ack commit_own counted acknowledged restarted opening_disk stored put_entry put_entries holds led all_acknowledged
  rule_8 = simp gets

  room_8 : room_refusal g7 (record { server = a5; packets = packet 0 1 1 (Commit 2) ∷ []; answer = Done; acked = Some 2 }) ≡ None
  unfolding room_refusal most_packets most_packet_bytes half_size packet_size body_size opening first_leader restarted opening_disk stored acted settled put_entry put_entries add_start add_merged_start on_elect renewed led
  room_8 = simp (empty_rows, gets)

  abbrev g8 : Group
  g8 = heard g7 8 1 0 1 (Ack 2 0) (record { server = a5; packets = packet 0 1 1 (Commit 2) ∷ []; answer = Done; acked = Some 2 })

  e8 : happens small_group g7 (Deliver 8) Whole ≡ g8
  unfolding opening first_leader acted settled restarted opening_disk stored on_elect renewed led
  e8 = delivers small_group g7 8 (packet 1 0 1 (Ack 2 0)) false a4 _ refl refl rule_8

  -- 9 and 10. server 0 applies slot 2
  claim_9 : claimable 4096 a5 ≡ Some 2
  unfolding settled restarted opening_disk stored put_entry put_entries is_free range_of merged_entry
  claim_9 = second_is a5 4094 refl (simp gets) (simp gets)

  op_9 : op_at a5.durable.log 2 ≡ write_at 1 second
  unfolding settled restarted opening_disk stored put_entry put_entries is_free range_of merged_entry op_at
  op_9 = simp gets

  abbrev g9 : Group
  g9 = record g8 { servers = slice_set g8.servers 0 (Running (claimed a5 2)) }

  e9 : happens small_group g8 Claim Whole ≡ g9
  unfolding opening first_leader acted settled restarted opening_disk stored on_elect renewed led
  e9 = claims_at_0 small_group g8 a5 2 refl claim_9

  abbrev a6 : Server
  a6 = record a5 { in_hand = FinMap.remove (FinMap.insert a5.in_hand 2 (write_at 1 second)) 2; applied = Sets.insert a5.applied 2; sectors = changed (write_at 1 second) a5.sectors }

  rule_10 : on_finish (claimed a5 2) 0 2 ≡ sends a6 []
  unfolding on_finish applied_op claimed op_at restarted opening_disk stored put_entry put_entries snapshots_after
  rule_10 = simp gets

  abbrev g10 : Group
  g10 = acted g9 0 (sends a6 [])

  e10 : happens small_group g9 (Finish 0 0 2) Whole ≡ g10
  unfolding opening first_leader acted settled restarted opening_disk stored on_elect renewed led
  e10 = finishes small_group g9 0 0 2 (claimed a5 2) _ refl rule_10

  -- 11. an acknowledgement from server 1 comes to server 0
  abbrev l6 : Leader
  l6 = record l5 { known = FinMap.insert l5.known 1 0; acks = acknowledged l5.acks 1 3 }

  abbrev a7 : Server
  a7 = record a6 { role = Serving l6; committed = Sets.insert a6.committed 3 }

  rule_11 : on_packet small_group a6 (packet 1 0 1 (Ack 3 0)) ≡ record { server = a7; packets = packet 0 1 1 (Commit 3) ∷ []; answer = Done; acked = Some 3 }
  unfolding on_packet on_message on_ack commit_own counted acknowledged restarted opening_disk stored put_entry put_entries holds led all_acknowledged
  rule_11 = simp gets

  room_11 : room_refusal g10 (record { server = a7; packets = packet 0 1 1 (Commit 3) ∷ []; answer = Done; acked = Some 3 }) ≡ None
  unfolding room_refusal most_packets most_packet_bytes half_size packet_size body_size opening first_leader restarted opening_disk stored acted settled put_entry put_entries add_start add_merged_start on_elect renewed led
  room_11 = simp (empty_rows, gets)

  abbrev g11 : Group
  g11 = heard g10 9 1 0 1 (Ack 3 0) (record { server = a7; packets = packet 0 1 1 (Commit 3) ∷ []; answer = Done; acked = Some 3 })

  e11 : happens small_group g10 (Deliver 9) Whole ≡ g11
  unfolding opening first_leader acted settled restarted opening_disk stored on_elect renewed led
  e11 = delivers small_group g10 9 (packet 1 0 1 (Ack 3 0)) false a6 _ refl refl rule_11

  -- 12 and 13. server 0 applies slot 3
  claim_12 : claimable 4096 a7 ≡ Some 3
  unfolding settled restarted opening_disk stored put_entry put_entries is_free range_of merged_entry
  claim_12 = third_is a7 4093 refl (simp gets) (simp gets) (simp gets)

  op_12 : op_at a7.durable.log 3 ≡ write_at 2 third
  unfolding settled restarted opening_disk stored put_entry put_entries is_free range_of merged_entry op_at
  op_12 = simp gets

  abbrev g12 : Group
  g12 = record g11 { servers = slice_set g11.servers 0 (Running (claimed a7 3)) }

  e12 : happens small_group g11 Claim Whole ≡ g12
  unfolding opening first_leader acted settled restarted opening_disk stored on_elect renewed led
  e12 = claims_at_0 small_group g11 a7 3 refl claim_12

  abbrev a8 : Server
  a8 = record a7 { in_hand = FinMap.remove (FinMap.insert a7.in_hand 3 (write_at 2 third)) 3; applied = Sets.insert a7.applied 3; sectors = changed (write_at 2 third) a7.sectors }

  rule_13 : on_finish (claimed a7 3) 0 3 ≡ sends a8 []
  unfolding on_finish applied_op claimed op_at restarted opening_disk stored put_entry put_entries snapshots_after
  rule_13 = simp gets

  abbrev g13 : Group
  g13 = acted g12 0 (sends a8 [])

  e13 : happens small_group g12 (Finish 0 0 3) Whole ≡ g13
  unfolding opening first_leader acted settled restarted opening_disk stored on_elect renewed led
  e13 = finishes small_group g12 0 0 3 (claimed a7 3) _ refl rule_13

  -- 14. an acknowledgement from server 1 comes to server 0
  abbrev l7 : Leader
  l7 = record l6 { known = FinMap.insert l6.known 1 0; acks = acknowledged l6.acks 1 4 }

  abbrev a9 : Server
  a9 = record a8 { role = Serving l7; committed = Sets.insert a8.committed 4 }

  rule_14 : on_packet small_group a8 (packet 1 0 1 (Ack 4 0)) ≡ record { server = a9; packets = packet 0 1 1 (Commit 4) ∷ []; answer = Done; acked = Some 4 }
  unfolding on_packet on_message on_ack commit_own counted acknowledged restarted opening_disk stored put_entry put_entries holds led all_acknowledged
  rule_14 = simp gets

  room_14 : room_refusal g13 (record { server = a9; packets = packet 0 1 1 (Commit 4) ∷ []; answer = Done; acked = Some 4 }) ≡ None
  unfolding room_refusal most_packets most_packet_bytes half_size packet_size body_size opening first_leader restarted opening_disk stored acted settled put_entry put_entries add_start add_merged_start on_elect renewed led
  room_14 = simp (empty_rows, gets)

  abbrev g14 : Group
  g14 = heard g13 10 1 0 1 (Ack 4 0) (record { server = a9; packets = packet 0 1 1 (Commit 4) ∷ []; answer = Done; acked = Some 4 })

  e14 : happens small_group g13 (Deliver 10) Whole ≡ g14
  unfolding opening first_leader acted settled restarted opening_disk stored on_elect renewed led
  e14 = delivers small_group g13 10 (packet 1 0 1 (Ack 4 0)) false a8 _ refl refl rule_14

  -- 15. a commit from server 0 comes to server 1
  abbrev b4 : Server
  b4 = record b3 { committed = Sets.insert b3.committed 2 }

  rule_15 : on_packet small_group b3 (packet 0 1 1 (Commit 2)) ≡ sends b4 []
  unfolding on_packet on_message on_commit commit restarted opening_disk stored put_entry put_entries holds
  rule_15 = simp gets

  room_15 : room_refusal g14 (sends b4 []) ≡ None
  unfolding room_refusal most_packets most_packet_bytes half_size packet_size body_size opening first_leader restarted opening_disk stored acted settled put_entry put_entries add_start add_merged_start on_elect renewed led
  room_15 = simp (empty_rows, gets)

  abbrev g15 : Group
  g15 = heard g14 11 0 1 1 (Commit 2) (sends b4 [])

  e15 : happens small_group g14 (Deliver 11) Whole ≡ g15
  unfolding opening first_leader acted settled restarted opening_disk stored on_elect renewed led
  e15 = delivers small_group g14 11 (packet 0 1 1 (Commit 2)) false b3 _ refl refl rule_15

  -- 16 and 17. server 1 applies slot 2
  none_16_0 : claimable 4096 a9 ≡ None
  unfolding settled restarted opening_disk stored put_entry put_entries is_free range_of merged_entry
  none_16_0 =
      let can = λ (slot : ℕ). is_claimable a9 (FinMap.get a9.durable.log slot) slot in
      none_marked a9 4096 (nor_of can (Sets.insert (Sets.insert Sets.empty 2) 3) 4 (simp gets) (nor_of can (Sets.insert Sets.empty 2) 3 (simp gets) (nor_of can Sets.empty 2 (simp gets) (none_of can))))

  claim_16 : claimable 4096 b4 ≡ Some 2
  unfolding settled restarted opening_disk stored put_entry put_entries is_free range_of merged_entry
  claim_16 = second_is b4 4094 refl (simp gets) (simp gets)

  op_16 : op_at b4.durable.log 2 ≡ write_at 1 second
  unfolding settled restarted opening_disk stored put_entry put_entries is_free range_of merged_entry op_at
  op_16 = simp gets

  abbrev g16 : Group
  g16 = record g15 { servers = slice_set g15.servers 1 (Running (claimed b4 2)) }

  e16 : happens small_group g15 Claim Whole ≡ g16
  unfolding opening first_leader acted settled restarted opening_disk stored on_elect renewed led
  e16 = claims_at_1 small_group g15 none_16_0 b4 2 refl claim_16

  abbrev b5 : Server
  b5 = record b4 { in_hand = FinMap.remove (FinMap.insert b4.in_hand 2 (write_at 1 second)) 2; applied = Sets.insert b4.applied 2; sectors = changed (write_at 1 second) b4.sectors }

  rule_17 : on_finish (claimed b4 2) 0 2 ≡ sends b5 []
  unfolding on_finish applied_op claimed op_at restarted opening_disk stored put_entry put_entries snapshots_after
  rule_17 = simp gets

  abbrev g17 : Group
  g17 = acted g16 1 (sends b5 [])

  e17 : happens small_group g16 (Finish 1 0 2) Whole ≡ g17
  unfolding opening first_leader acted settled restarted opening_disk stored on_elect renewed led
  e17 = finishes small_group g16 1 0 2 (claimed b4 2) _ refl rule_17

  -- 18. a commit from server 0 comes to server 1
  abbrev b6 : Server
  b6 = record b5 { committed = Sets.insert b5.committed 3 }

  rule_18 : on_packet small_group b5 (packet 0 1 1 (Commit 3)) ≡ sends b6 []
  unfolding on_packet on_message on_commit commit restarted opening_disk stored put_entry put_entries holds
  rule_18 = simp gets

  room_18 : room_refusal g17 (sends b6 []) ≡ None
  unfolding room_refusal most_packets most_packet_bytes half_size packet_size body_size opening first_leader restarted opening_disk stored acted settled put_entry put_entries add_start add_merged_start on_elect renewed led
  room_18 = simp (empty_rows, gets)

  abbrev g18 : Group
  g18 = heard g17 12 0 1 1 (Commit 3) (sends b6 [])

  e18 : happens small_group g17 (Deliver 12) Whole ≡ g18
  unfolding opening first_leader acted settled restarted opening_disk stored on_elect renewed led
  e18 = delivers small_group g17 12 (packet 0 1 1 (Commit 3)) false b5 _ refl refl rule_18

  -- 19 and 20. server 1 applies slot 3
  none_19_0 : claimable 4096 a9 ≡ None
  unfolding settled restarted opening_disk stored put_entry put_entries is_free range_of merged_entry
  none_19_0 =
      let can = λ (slot : ℕ). is_claimable a9 (FinMap.get a9.durable.log slot) slot in
      none_marked a9 4096 (nor_of can (Sets.insert (Sets.insert Sets.empty 2) 3) 4 (simp gets) (nor_of can (Sets.insert Sets.empty 2) 3 (simp gets) (nor_of can Sets.empty 2 (simp gets) (none_of can))))

  claim_19 : claimable 4096 b6 ≡ Some 3
  unfolding settled restarted opening_disk stored put_entry put_entries is_free range_of merged_entry
  claim_19 = third_is b6 4093 refl (simp gets) (simp gets) (simp gets)

  op_19 : op_at b6.durable.log 3 ≡ write_at 2 third
  unfolding settled restarted opening_disk stored put_entry put_entries is_free range_of merged_entry op_at
  op_19 = simp gets

  abbrev g19 : Group
  g19 = record g18 { servers = slice_set g18.servers 1 (Running (claimed b6 3)) }

  e19 : happens small_group g18 Claim Whole ≡ g19
  unfolding opening first_leader acted settled restarted opening_disk stored on_elect renewed led
  e19 = claims_at_1 small_group g18 none_19_0 b6 3 refl claim_19

  abbrev b7 : Server
  b7 = record b6 { in_hand = FinMap.remove (FinMap.insert b6.in_hand 3 (write_at 2 third)) 3; applied = Sets.insert b6.applied 3; sectors = changed (write_at 2 third) b6.sectors }

  rule_20 : on_finish (claimed b6 3) 0 3 ≡ sends b7 []
  unfolding on_finish applied_op claimed op_at restarted opening_disk stored put_entry put_entries snapshots_after
  rule_20 = simp gets

  abbrev g20 : Group
  g20 = acted g19 1 (sends b7 [])

  e20 : happens small_group g19 (Finish 1 0 3) Whole ≡ g20
  unfolding opening first_leader acted settled restarted opening_disk stored on_elect renewed led
  e20 = finishes small_group g19 1 0 3 (claimed b6 3) _ refl rule_20

  -- 21. a commit from server 0 comes to server 1
  abbrev b8 : Server
  b8 = record b7 { committed = Sets.insert b7.committed 4 }

  rule_21 : on_packet small_group b7 (packet 0 1 1 (Commit 4)) ≡ sends b8 []
  unfolding on_packet on_message on_commit commit restarted opening_disk stored put_entry put_entries holds
  rule_21 = simp gets

  room_21 : room_refusal g20 (sends b8 []) ≡ None
  unfolding room_refusal most_packets most_packet_bytes half_size packet_size body_size opening first_leader restarted opening_disk stored acted settled put_entry put_entries add_start add_merged_start on_elect renewed led
  room_21 = simp (empty_rows, gets)

  abbrev g21 : Group
  g21 = heard g20 13 0 1 1 (Commit 4) (sends b8 [])

  e21 : happens small_group g20 (Deliver 13) Whole ≡ g21
  unfolding opening first_leader acted settled restarted opening_disk stored on_elect renewed led
  e21 = delivers small_group g20 13 (packet 0 1 1 (Commit 4)) false b7 _ refl refl rule_21

  none_last_0 : claimable 4096 a9 ≡ None
  unfolding settled restarted opening_disk stored put_entry put_entries is_free range_of merged_entry
  none_last_0 =
      let can = λ (slot : ℕ). is_claimable a9 (FinMap.get a9.durable.log slot) slot in
      none_marked a9 4096 (nor_of can (Sets.insert (Sets.insert Sets.empty 2) 3) 4 (simp gets) (nor_of can (Sets.insert Sets.empty 2) 3 (simp gets) (nor_of can Sets.empty 2 (simp gets) (none_of can))))

  none_last_1 : claimable 4096 b8 ≡ None
  unfolding settled restarted opening_disk stored put_entry put_entries is_free range_of merged_entry
  none_last_1 =
      let can = λ (slot : ℕ). is_claimable b8 (FinMap.get b8.durable.log slot) slot in
      none_marked b8 4096 (nor_of can (Sets.insert (Sets.insert Sets.empty 2) 3) 4 (simp gets) (nor_of can (Sets.insert Sets.empty 2) 3 (simp gets) (nor_of can Sets.empty 2 (simp gets) (none_of can))))

  none_last_2 : claimable 4096 c0 ≡ None
  unfolding settled restarted opening_disk stored put_entry put_entries is_free range_of merged_entry
  none_last_2 =
      let can = λ (slot : ℕ). is_claimable c0 (FinMap.get c0.durable.log slot) slot in
      none_marked c0 4096 (none_of can)

  calm : answer_to small_group g21 Claim ≡ Refused NoneFree
  unfolding opening first_leader acted settled restarted opening_disk stored on_elect renewed led
  calm = claim_answer_none small_group g21 none_last_0 none_last_1 none_last_2

  abbrev rest_21 : History
  rest_21 = []

  abbrev rest_20 : History
  rest_20 = so (Deliver 13) Done ∷ rest_21

  abbrev rest_19 : History
  rest_19 = so (Finish 1 0 3) Done ∷ rest_20

  abbrev rest_18 : History
  rest_18 = so Claim (JobIs (record { server = 1; life = 0; slot = 3; op = write_at 2 third })) ∷ rest_19

  abbrev rest_17 : History
  rest_17 = so (Deliver 12) Done ∷ rest_18

  abbrev rest_16 : History
  rest_16 = so (Finish 1 0 2) Done ∷ rest_17

  abbrev rest_15 : History
  rest_15 = so Claim (JobIs (record { server = 1; life = 0; slot = 2; op = write_at 1 second })) ∷ rest_16

  abbrev rest_14 : History
  rest_14 = so (Deliver 11) Done ∷ rest_15

  abbrev rest_13 : History
  rest_13 = so (Deliver 10) Done ∷ rest_14

  abbrev rest_12 : History
  rest_12 = so (Finish 0 0 3) Done ∷ rest_13

  abbrev rest_11 : History
  rest_11 = so Claim (JobIs (record { server = 0; life = 0; slot = 3; op = write_at 2 third })) ∷ rest_12

  abbrev rest_10 : History
  rest_10 = so (Deliver 9) Done ∷ rest_11

  abbrev rest_9 : History
  rest_9 = so (Finish 0 0 2) Done ∷ rest_10

  abbrev rest_8 : History
  rest_8 = so Claim (JobIs (record { server = 0; life = 0; slot = 2; op = write_at 1 second })) ∷ rest_9

  abbrev rest_7 : History
  rest_7 = so (Deliver 8) Done ∷ rest_8

  abbrev rest_6 : History
  rest_6 = so (Deliver 6) Done ∷ rest_7

  abbrev rest_5 : History
  rest_5 = so (Deliver 4) Done ∷ rest_6

  abbrev rest_4 : History
  rest_4 = so (Deliver 2) Done ∷ rest_5

  abbrev rest_3 : History
  rest_3 = so (Submit 0 (write_at 3 fourth)) (SlotIs 4) ∷ rest_4

  abbrev rest_2 : History
  rest_2 = so (Submit 0 (write_at 2 third)) (SlotIs 3) ∷ rest_3

  abbrev rest_1 : History
  rest_1 = so (Submit 0 (write_at 1 second)) (SlotIs 2) ∷ rest_2

  abbrev rest_0 : History
  rest_0 = so (Submit 0 (write_at 0 first)) (SlotIs 1) ∷ rest_1

  replayed_21 : run small_group g21 rest_21 ≡ g21
  replayed_21 = refl

  replayed_20 : run small_group g20 rest_20 ≡ g21
  replayed_20 = follows small_group g20 g21 g21 (so (Deliver 13) Done) rest_21 e21 replayed_21

  replayed_19 : run small_group g19 rest_19 ≡ g21
  replayed_19 = follows small_group g19 g20 g21 (so (Finish 1 0 3) Done) rest_20 e20 replayed_20

  replayed_18 : run small_group g18 rest_18 ≡ g21
  replayed_18 = follows small_group g18 g19 g21 (so Claim (JobIs (record { server = 1; life = 0; slot = 3; op = write_at 2 third }))) rest_19 e19 replayed_19

  replayed_17 : run small_group g17 rest_17 ≡ g21
  replayed_17 = follows small_group g17 g18 g21 (so (Deliver 12) Done) rest_18 e18 replayed_18

  replayed_16 : run small_group g16 rest_16 ≡ g21
  replayed_16 = follows small_group g16 g17 g21 (so (Finish 1 0 2) Done) rest_17 e17 replayed_17

  replayed_15 : run small_group g15 rest_15 ≡ g21
  replayed_15 = follows small_group g15 g16 g21 (so Claim (JobIs (record { server = 1; life = 0; slot = 2; op = write_at 1 second }))) rest_16 e16 replayed_16

  replayed_14 : run small_group g14 rest_14 ≡ g21
  replayed_14 = follows small_group g14 g15 g21 (so (Deliver 11) Done) rest_15 e15 replayed_15

  replayed_13 : run small_group g13 rest_13 ≡ g21
  replayed_13 = follows small_group g13 g14 g21 (so (Deliver 10) Done) rest_14 e14 replayed_14

  replayed_12 : run small_group g12 rest_12 ≡ g21
  replayed_12 = follows small_group g12 g13 g21 (so (Finish 0 0 3) Done) rest_13 e13 replayed_13

  replayed_11 : run small_group g11 rest_11 ≡ g21
  replayed_11 = follows small_group g11 g12 g21 (so Claim (JobIs (record { server = 0; life = 0; slot = 3; op = write_at 2 third }))) rest_12 e12 replayed_12

  replayed_10 : run small_group g10 rest_10 ≡ g21
  replayed_10 = follows small_group g10 g11 g21 (so (Deliver 9) Done) rest_11 e11 replayed_11

  replayed_9 : run small_group g9 rest_9 ≡ g21
  replayed_9 = follows small_group g9 g10 g21 (so (Finish 0 0 2) Done) rest_10 e10 replayed_10

  replayed_8 : run small_group g8 rest_8 ≡ g21
  replayed_8 = follows small_group g8 g9 g21 (so Claim (JobIs (record { server = 0; life = 0; slot = 2; op = write_at 1 second }))) rest_9 e9 replayed_9

  replayed_7 : run small_group g7 rest_7 ≡ g21
  replayed_7 = follows small_group g7 g8 g21 (so (Deliver 8) Done) rest_8 e8 replayed_8

  replayed_6 : run small_group g6 rest_6 ≡ g21
  replayed_6 = follows small_group g6 g7 g21 (so (Deliver 6) Done) rest_7 e7 replayed_7

  replayed_5 : run small_group g5 rest_5 ≡ g21
  replayed_5 = follows small_group g5 g6 g21 (so (Deliver 4) Done) rest_6 e6 replayed_6

  replayed_4 : run small_group g4 rest_4 ≡ g21
  replayed_4 = follows small_group g4 g5 g21 (so (Deliver 2) Done) rest_5 e5 replayed_5

  replayed_3 : run small_group g3 rest_3 ≡ g21
  replayed_3 = follows small_group g3 g4 g21 (so (Submit 0 (write_at 3 fourth)) (SlotIs 4)) rest_4 e4 replayed_4

  replayed_2 : run small_group g2 rest_2 ≡ g21
  replayed_2 = follows small_group g2 g3 g21 (so (Submit 0 (write_at 2 third)) (SlotIs 3)) rest_3 e3 replayed_3

  replayed_1 : run small_group g1 rest_1 ≡ g21
  replayed_1 = follows small_group g1 g2 g21 (so (Submit 0 (write_at 1 second)) (SlotIs 2)) rest_2 e2 replayed_2

  replayed_0 : run small_group g0 rest_0 ≡ g21
  replayed_0 = follows small_group g0 g1 g21 (so (Submit 0 (write_at 0 first)) (SlotIs 1)) rest_1 e1 replayed_1

  answer_21 : answer_to small_group g20 (Deliver 13) ≡ Done
  unfolding opening first_leader acted settled restarted opening_disk stored on_elect renewed led
  answer_21 = deliver_answer small_group g20 13 (packet 0 1 1 (Commit 4)) false b7 _ refl refl rule_21 room_21

  answer_20 : answer_to small_group g19 (Finish 1 0 3) ≡ Done
  unfolding opening first_leader acted settled restarted opening_disk stored on_elect renewed led
  answer_20 = finish_answer small_group g19 1 0 3 (claimed b6 3) _ refl rule_20

  answer_19 : answer_to small_group g18 Claim ≡ JobIs (record { server = 1; life = 0; slot = 3; op = write_at 2 third })
  unfolding opening first_leader acted settled restarted opening_disk stored on_elect renewed led
  answer_19 = claim_answer_1 small_group g18 none_19_0 b6 3 refl claim_19 ∙ ap (λ x. JobIs (record { server = 1; life = 0; slot = 3; op = x })) op_19

  answer_18 : answer_to small_group g17 (Deliver 12) ≡ Done
  unfolding opening first_leader acted settled restarted opening_disk stored on_elect renewed led
  answer_18 = deliver_answer small_group g17 12 (packet 0 1 1 (Commit 3)) false b5 _ refl refl rule_18 room_18

  answer_17 : answer_to small_group g16 (Finish 1 0 2) ≡ Done
  unfolding opening first_leader acted settled restarted opening_disk stored on_elect renewed led
  answer_17 = finish_answer small_group g16 1 0 2 (claimed b4 2) _ refl rule_17

  answer_16 : answer_to small_group g15 Claim ≡ JobIs (record { server = 1; life = 0; slot = 2; op = write_at 1 second })
  unfolding opening first_leader acted settled restarted opening_disk stored on_elect renewed led
  answer_16 = claim_answer_1 small_group g15 none_16_0 b4 2 refl claim_16 ∙ ap (λ x. JobIs (record { server = 1; life = 0; slot = 2; op = x })) op_16

  answer_15 : answer_to small_group g14 (Deliver 11) ≡ Done
  unfolding opening first_leader acted settled restarted opening_disk stored on_elect renewed led
  answer_15 = deliver_answer small_group g14 11 (packet 0 1 1 (Commit 2)) false b3 _ refl refl rule_15 room_15

  answer_14 : answer_to small_group g13 (Deliver 10) ≡ Done
  unfolding opening first_leader acted settled restarted opening_disk stored on_elect renewed led
  answer_14 = deliver_answer small_group g13 10 (packet 1 0 1 (Ack 4 0)) false a8 _ refl refl rule_14 room_14

  answer_13 : answer_to small_group g12 (Finish 0 0 3) ≡ Done
  unfolding opening first_leader acted settled restarted opening_disk stored on_elect renewed led
  answer_13 = finish_answer small_group g12 0 0 3 (claimed a7 3) _ refl rule_13

  answer_12 : answer_to small_group g11 Claim ≡ JobIs (record { server = 0; life = 0; slot = 3; op = write_at 2 third })
  unfolding opening first_leader acted settled restarted opening_disk stored on_elect renewed led
  answer_12 = claim_answer_0 small_group g11 a7 3 refl claim_12 ∙ ap (λ x. JobIs (record { server = 0; life = 0; slot = 3; op = x })) op_12

  answer_11 : answer_to small_group g10 (Deliver 9) ≡ Done
  unfolding opening first_leader acted settled restarted opening_disk stored on_elect renewed led
  answer_11 = deliver_answer small_group g10 9 (packet 1 0 1 (Ack 3 0)) false a6 _ refl refl rule_11 room_11

  answer_10 : answer_to small_group g9 (Finish 0 0 2) ≡ Done
  unfolding opening first_leader acted settled restarted opening_disk stored on_elect renewed led
  answer_10 = finish_answer small_group g9 0 0 2 (claimed a5 2) _ refl rule_10

  answer_9 : answer_to small_group g8 Claim ≡ JobIs (record { server = 0; life = 0; slot = 2; op = write_at 1 second })
  unfolding opening first_leader acted settled restarted opening_disk stored on_elect renewed led
  answer_9 = claim_answer_0 small_group g8 a5 2 refl claim_9 ∙ ap (λ x. JobIs (record { server = 0; life = 0; slot = 2; op = x })) op_9

  answer_8 : answer_to small_group g7 (Deliver 8) ≡ Done
  unfolding opening first_leader acted settled restarted opening_disk stored on_elect renewed led
  answer_8 = deliver_answer small_group g7 8 (packet 1 0 1 (Ack 2 0)) false a4 _ refl refl rule_8 room_8

  answer_7 : answer_to small_group g6 (Deliver 6) ≡ Done
  unfolding opening first_leader acted settled restarted opening_disk stored on_elect renewed led
  answer_7 = deliver_answer small_group g6 6 (packet 0 1 1 (Accept four)) false b2 _ refl refl rule_7 room_7

  answer_6 : answer_to small_group g5 (Deliver 4) ≡ Done
  unfolding opening first_leader acted settled restarted opening_disk stored on_elect renewed led
  answer_6 = deliver_answer small_group g5 4 (packet 0 1 1 (Accept three)) false b1 _ refl refl rule_6 room_6

  answer_5 : answer_to small_group g4 (Deliver 2) ≡ Done
  unfolding opening first_leader acted settled restarted opening_disk stored on_elect renewed led
  answer_5 = deliver_answer small_group g4 2 (packet 0 1 1 (Accept two)) false b0 _ refl refl rule_5 room_5

  answer_4 : answer_to small_group g3 (Submit 0 (write_at 3 fourth)) ≡ SlotIs 4
  unfolding opening first_leader acted settled restarted opening_disk stored on_elect renewed led range_of
  answer_4 = submit_answer small_group g3 0 (write_at 3 fourth) a3 _ refl refl refl refl refl rule_4 room_4

  answer_3 : answer_to small_group g2 (Submit 0 (write_at 2 third)) ≡ SlotIs 3
  unfolding opening first_leader acted settled restarted opening_disk stored on_elect renewed led range_of
  answer_3 = submit_answer small_group g2 0 (write_at 2 third) a2 _ refl refl refl refl refl rule_3 room_3

  answer_2 : answer_to small_group g1 (Submit 0 (write_at 1 second)) ≡ SlotIs 2
  unfolding opening first_leader acted settled restarted opening_disk stored on_elect renewed led range_of
  answer_2 = submit_answer small_group g1 0 (write_at 1 second) a1 _ refl refl refl refl refl rule_2 room_2

  answer_1 : answer_to small_group g0 (Submit 0 (write_at 0 first)) ≡ SlotIs 1
  unfolding opening first_leader acted settled restarted opening_disk stored on_elect renewed led range_of
  answer_1 = submit_answer small_group g0 0 (write_at 0 first) a0 _ refl refl refl refl refl rule_1 room_1

  acked_last : g21.acked ≡ record { term = 1; slot = 2 } ∷ record { term = 1; slot = 3 } ∷ record { term = 1; slot = 4 } ∷ []
  unfolding opening first_leader acted settled restarted opening_disk stored on_elect renewed led
  acked_last = refl

  shown_1 : ServerShows g21 1 1 0 (line 2 1 (write_at 1 second) true ∷ line 3 1 (write_at 2 third) true ∷ line 4 1 (write_at 3 fourth) true ∷ []) (2 ∷ 3 ∷ [])
  unfolding opening first_leader acted settled restarted opening_disk stored on_elect renewed led put_entry put_entries
  shown_1 = record { server = b8; runs = refl; its_term = refl; its_base = refl; its_log = simp (entries-insert, empty_rows, gets); its_applied = simp (entries-insert, empty_rows, nat_cmp_total) }

  pub shows : WaitsPastTheNames first second third fourth
  shows = record { calm = ap (λ (g : Group). answer_to small_group g Claim) replayed_0 ∙ calm; acked = ap (λ (g : Group). g.acked) replayed_0 ∙ acked_last; shown_1 = rw replayed_0 shown_1 }

  -- with whole sectors the history is one that the group can have
  module _ (length_first : IsSector first) (length_second : IsSector second) (length_third : IsSector third) (length_fourth : IsSector fourth) where
    legal_21 : IsLegalFrom small_group g21 ([]) rest_21
    legal_21 = tt

    legal_20 : IsLegalFrom small_group g20 ([]) rest_20
    legal_20 = goes_on small_group g20 g21 ([]) (so (Deliver 13) Done) rest_21 tt answer_21 e21 legal_21

    legal_19 : IsLegalFrom small_group g19 (record { server = 1; life = 0; slot = 3; op = write_at 2 third } ∷ []) rest_19
    legal_19 = goes_on small_group g19 g20 (record { server = 1; life = 0; slot = 3; op = write_at 2 third } ∷ []) (so (Finish 1 0 3) Done) rest_20 refl answer_20 e20 legal_20

    legal_18 : IsLegalFrom small_group g18 ([]) rest_18
    legal_18 = goes_on small_group g18 g19 ([]) (so Claim (JobIs (record { server = 1; life = 0; slot = 3; op = write_at 2 third }))) rest_19 tt answer_19 e19 legal_19

    legal_17 : IsLegalFrom small_group g17 ([]) rest_17
    legal_17 = goes_on small_group g17 g18 ([]) (so (Deliver 12) Done) rest_18 tt answer_18 e18 legal_18

    legal_16 : IsLegalFrom small_group g16 (record { server = 1; life = 0; slot = 2; op = write_at 1 second } ∷ []) rest_16
    legal_16 = goes_on small_group g16 g17 (record { server = 1; life = 0; slot = 2; op = write_at 1 second } ∷ []) (so (Finish 1 0 2) Done) rest_17 refl answer_17 e17 legal_17

    legal_15 : IsLegalFrom small_group g15 ([]) rest_15
    legal_15 = goes_on small_group g15 g16 ([]) (so Claim (JobIs (record { server = 1; life = 0; slot = 2; op = write_at 1 second }))) rest_16 tt answer_16 e16 legal_16

    legal_14 : IsLegalFrom small_group g14 ([]) rest_14
    legal_14 = goes_on small_group g14 g15 ([]) (so (Deliver 11) Done) rest_15 tt answer_15 e15 legal_15

    legal_13 : IsLegalFrom small_group g13 ([]) rest_13
    legal_13 = goes_on small_group g13 g14 ([]) (so (Deliver 10) Done) rest_14 tt answer_14 e14 legal_14

    legal_12 : IsLegalFrom small_group g12 (record { server = 0; life = 0; slot = 3; op = write_at 2 third } ∷ []) rest_12
    legal_12 = goes_on small_group g12 g13 (record { server = 0; life = 0; slot = 3; op = write_at 2 third } ∷ []) (so (Finish 0 0 3) Done) rest_13 refl answer_13 e13 legal_13

    legal_11 : IsLegalFrom small_group g11 ([]) rest_11
    legal_11 = goes_on small_group g11 g12 ([]) (so Claim (JobIs (record { server = 0; life = 0; slot = 3; op = write_at 2 third }))) rest_12 tt answer_12 e12 legal_12

    legal_10 : IsLegalFrom small_group g10 ([]) rest_10
    legal_10 = goes_on small_group g10 g11 ([]) (so (Deliver 9) Done) rest_11 tt answer_11 e11 legal_11

    legal_9 : IsLegalFrom small_group g9 (record { server = 0; life = 0; slot = 2; op = write_at 1 second } ∷ []) rest_9
    legal_9 = goes_on small_group g9 g10 (record { server = 0; life = 0; slot = 2; op = write_at 1 second } ∷ []) (so (Finish 0 0 2) Done) rest_10 refl answer_10 e10 legal_10

    legal_8 : IsLegalFrom small_group g8 ([]) rest_8
    legal_8 = goes_on small_group g8 g9 ([]) (so Claim (JobIs (record { server = 0; life = 0; slot = 2; op = write_at 1 second }))) rest_9 tt answer_9 e9 legal_9

    legal_7 : IsLegalFrom small_group g7 ([]) rest_7
    legal_7 = goes_on small_group g7 g8 ([]) (so (Deliver 8) Done) rest_8 tt answer_8 e8 legal_8

    legal_6 : IsLegalFrom small_group g6 ([]) rest_6
    legal_6 = goes_on small_group g6 g7 ([]) (so (Deliver 6) Done) rest_7 tt answer_7 e7 legal_7

    legal_5 : IsLegalFrom small_group g5 ([]) rest_5
    legal_5 = goes_on small_group g5 g6 ([]) (so (Deliver 4) Done) rest_6 tt answer_6 e6 legal_6

    legal_4 : IsLegalFrom small_group g4 ([]) rest_4
    legal_4 = goes_on small_group g4 g5 ([]) (so (Deliver 2) Done) rest_5 tt answer_5 e5 legal_5

    legal_3 : IsLegalFrom small_group g3 ([]) rest_3
    legal_3 = goes_on small_group g3 g4 ([]) (so (Submit 0 (write_at 3 fourth)) (SlotIs 4)) rest_4 (omega arith, (record { some = omega arith; few = omega arith; low = omega arith }, refl, (length_fourth, tt))) answer_4 e4 legal_4

    legal_2 : IsLegalFrom small_group g2 ([]) rest_2
    legal_2 = goes_on small_group g2 g3 ([]) (so (Submit 0 (write_at 2 third)) (SlotIs 3)) rest_3 (omega arith, (record { some = omega arith; few = omega arith; low = omega arith }, refl, (length_third, tt))) answer_3 e3 legal_3

    legal_1 : IsLegalFrom small_group g1 ([]) rest_1
    legal_1 = goes_on small_group g1 g2 ([]) (so (Submit 0 (write_at 1 second)) (SlotIs 2)) rest_2 (omega arith, (record { some = omega arith; few = omega arith; low = omega arith }, refl, (length_second, tt))) answer_2 e2 legal_2

    legal_0 : IsLegalFrom small_group g0 ([]) rest_0
    legal_0 = goes_on small_group g0 g1 ([]) (so (Submit 0 (write_at 0 first)) (SlotIs 1)) rest_1 (omega arith, (record { some = omega arith; few = omega arith; low = omega arith }, refl, (length_first, tt))) answer_1 e1 legal_1

    pub legal : IsLegal small_group (past_the_names first second third fourth)
    legal = record { is_setup = is_small_group; legal = legal_0 }
