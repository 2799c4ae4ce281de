-- A ghost is void, event by event.
use Rattle.std.proofs.Common.{◌≡◌, ℕ, true, false, [], ◌∷◌, Some, None, refl, ap, ◌∙◌, arith}
use Rattle.std.specs.Prelude.{slice_set}
use Rattle.std.specs.Cmp.{nat_cmp_total}
use Rattle.std.specs.FinMap
use Rattle.std.specs.FinMap.{gets, entries-insert}
use Rattle.pf_entry.specs.Sets
use Rattle.pf_entry.specs.Applying.{is_free}
use Rattle.pf_entry.specs.Ops.{Sector, range_of}
use Rattle.pf_entry.specs.declared.entries.Entry.{Entry}
use Rattle.pf_entry.specs.declared.packets.Packet.{Packet}
use Rattle.pf_entry.specs.declared.packets.Body.{Body}
use Rattle.pf_entry.specs.declared.packets.Body.TheVariants.{RequestVote, Vote, Accept, Ack, Commit}
use Rattle.pf_entry.specs.declared.records.Record.TheVariants.{Entry as EntryRecord, Term as TermRecord, Merged as MergedRecord}
use Rattle.pf_entry.specs.Records.{stored, put_entry, put_entries, add_start, add_merged_start, holds, vote_of}
use Rattle.pf_entry.specs.Voids.{is_void}
use Rattle.pf_entry.specs.Merging.{merged_first, merged_entry, merged_entries, merged_op, op_or_noop, taken, left_of, higher}
use Rattle.pf_entry.specs.Sizes.{packet_size, body_size}
use Rattle.pf_protocol.specs.declared.answers.Answer.TheVariants.{Slot as SlotIs, Term as TermIs, Done, Job as JobIs, Refused}
use Rattle.pf_protocol.specs.declared.answers.Refusal.TheVariants.{NoneFree}
use Rattle.pf_protocol.specs.declared.events.Event.TheVariants.{Submit, Deliver, Elect, Stop, Restart, Claim, Finish}
use Rattle.pf_protocol.specs.Servers.{Leader, Server, Candidate, Merging, Serving, Running, Stopped, upto}
use Rattle.pf_protocol.specs.Outcomes.{Outcome, sends}
use Rattle.pf_protocol.specs.Leading.{on_submit, submitted, new_entry, look_behind, op_at, acknowledged, all_acknowledged, on_elect, on_vote, merged, led, on_ack, counted, commit_own}
use Rattle.pf_protocol.specs.Following.{on_request_vote, on_accept, accepted}
use Rattle.pf_protocol.specs.Saving.{restarted, renewed, is_claimable, claimable, claimed, on_finish, applied_op, changed, snapshots_after}
use Rattle.pf_protocol.specs.Rows.{on_message, on_packet, settled}
use Rattle.pf_protocol.specs.Groups.{Group, Whole, opening, first_leader, opening_disk, happens, acted, with_sent}
use Rattle.pf_protocol.specs.Histories.{History, replay, run}
use Rattle.pf_protocol.specs.Answers.{answer_to, room_refusal, most_packets, most_packet_bytes, half_size, most_elections, IsLegal, IsLegalFrom}
use Rattle.pf_protocol.specs.Shown.{ServerShows, small_group, write_at, IsSector, line, so}
use Rattle.pf_protocol.proofs.Replays.{empty_rows, submits, delivers, elects, claims_at_1, finishes, first_is, second_is, none_marked, nor_of, none_of, follows}
use Rattle.pf_protocol.proofs.WorkedAnswers.{submit_answer, deliver_answer, elect_answer, finish_answer, claim_answer_1, claim_answer_none, goes_on, is_small_group}
use Rattle.pf_protocol.specs.Ghosts.{ghost_slots, until_the_merge, PassesOver}

-- the states of the servers 0, 1 and 2 are a, b and c, each with its number; l are records of leaders, and g are the group after each event
module _ (first second third fourth fifth sixth : Sector) where
  abbrev packet : (from to term : ℕ) → Body → Packet
  packet from to term body = record { from = from; to = to; term = term; body = body }

  abbrev heard : Group → (k from to term : ℕ) → Body → Outcome → Group
  heard g k from to term body o = acted (with_sent g k (record { packet = packet from to term body; delivered = true; lost = false })) to o

  abbrev l0 : Leader
  l0 = record { first = 1; next = 1; b0 = 0; acks = FinMap.empty; known = FinMap.empty }

  abbrev a0 : Server
  a0 = record (restarted 0 0 (opening_disk small_group)) { role = Serving l0 }

  abbrev b0 : Server
  b0 = restarted 1 0 (opening_disk small_group)

  abbrev c0 : Server
  c0 = restarted 2 0 (opening_disk small_group)

  abbrev g0 : Group
  g0 = opening small_group

  -- 1. server 0 takes a submission
  abbrev one : Entry
  one = record { slot = 1; term = 1; first = 1; look = []; op = write_at 0 first }

  abbrev l1 : Leader
  l1 = record l0 { next = 2; acks = acknowledged l0.acks 0 1 }

  abbrev a1 : Server
  a1 = record a0 { durable = stored a0.durable (EntryRecord one); role = Serving l1 }

  rule_1 : on_submit small_group a0 (write_at 0 first) (Serving l0) ≡ record { server = a1; packets = packet 0 1 1 (Accept one) ∷ packet 0 2 1 (Accept one) ∷ []; answer = SlotIs 1; acked = None }
  unfolding on_submit submitted new_entry look_behind restarted opening_disk stored op_at range_of put_entry put_entries led
  rule_1 = refl

  room_1 : room_refusal g0 (record { server = a1; packets = packet 0 1 1 (Accept one) ∷ packet 0 2 1 (Accept one) ∷ []; answer = SlotIs 1; acked = None }) ≡ None
  unfolding room_refusal most_packets most_packet_bytes half_size packet_size body_size opening first_leader restarted opening_disk stored acted settled put_entry put_entries add_start add_merged_start on_elect renewed led
  room_1 = simp (empty_rows, gets)

  abbrev g1 : Group
  g1 = acted g0 0 (record { server = a1; packets = packet 0 1 1 (Accept one) ∷ packet 0 2 1 (Accept one) ∷ []; answer = SlotIs 1; acked = None })

  e1 : happens small_group g0 (Submit 0 (write_at 0 first)) Whole ≡ g1
  unfolding opening first_leader acted settled restarted opening_disk stored on_elect renewed led
  e1 = submits small_group g0 0 (write_at 0 first) a0 _ refl rule_1

  -- 2. server 0 takes a submission
  abbrev two : Entry
  two = record { slot = 2; term = 1; first = 1; look = record { slot = 1; range = record { first = 0; count = 1 } } ∷ []; op = write_at 1 second }

  abbrev l2 : Leader
  l2 = record l1 { next = 3; acks = acknowledged l1.acks 0 2 }

  abbrev a2 : Server
  a2 = record a1 { durable = stored a1.durable (EntryRecord two); role = Serving l2 }

  rule_2 : on_submit small_group a1 (write_at 1 second) (Serving l1) ≡ record { server = a2; packets = packet 0 1 1 (Accept two) ∷ packet 0 2 1 (Accept two) ∷ []; answer = SlotIs 2; acked = None }
  unfolding on_submit submitted new_entry look_behind restarted opening_disk stored op_at range_of put_entry put_entries led
  rule_2 = simp gets

  room_2 : room_refusal g1 (record { server = a2; packets = packet 0 1 1 (Accept two) ∷ packet 0 2 1 (Accept two) ∷ []; answer = SlotIs 2; acked = None }) ≡ None
  unfolding room_refusal most_packets most_packet_bytes half_size packet_size body_size opening first_leader restarted opening_disk stored acted settled put_entry put_entries add_start add_merged_start on_elect renewed led
  room_2 = simp (empty_rows, gets)

  abbrev g2 : Group
  g2 = acted g1 0 (record { server = a2; packets = packet 0 1 1 (Accept two) ∷ packet 0 2 1 (Accept two) ∷ []; answer = SlotIs 2; acked = None })

  e2 : happens small_group g1 (Submit 0 (write_at 1 second)) Whole ≡ g2
  unfolding opening first_leader acted settled restarted opening_disk stored on_elect renewed led
  e2 = submits small_group g1 0 (write_at 1 second) a1 _ refl rule_2

  -- 3. server 0 takes a submission
  abbrev three : Entry
  three = record { slot = 3; term = 1; first = 1; look = record { slot = 1; range = record { first = 0; count = 1 } } ∷ record { slot = 2; range = record { first = 1; count = 1 } } ∷ []; op = write_at 2 third }

  abbrev l3 : Leader
  l3 = record l2 { next = 4; acks = acknowledged l2.acks 0 3 }

  abbrev a3 : Server
  a3 = record a2 { durable = stored a2.durable (EntryRecord three); role = Serving l3 }

  rule_3 : on_submit small_group a2 (write_at 2 third) (Serving l2) ≡ record { server = a3; packets = packet 0 1 1 (Accept three) ∷ packet 0 2 1 (Accept three) ∷ []; answer = SlotIs 3; acked = None }
  unfolding on_submit submitted new_entry look_behind restarted opening_disk stored op_at range_of put_entry put_entries led
  rule_3 = simp gets

  room_3 : room_refusal g2 (record { server = a3; packets = packet 0 1 1 (Accept three) ∷ packet 0 2 1 (Accept three) ∷ []; answer = SlotIs 3; acked = None }) ≡ None
  unfolding room_refusal most_packets most_packet_bytes half_size packet_size body_size opening first_leader restarted opening_disk stored acted settled put_entry put_entries add_start add_merged_start on_elect renewed led
  room_3 = simp (empty_rows, gets)

  abbrev g3 : Group
  g3 = acted g2 0 (record { server = a3; packets = packet 0 1 1 (Accept three) ∷ packet 0 2 1 (Accept three) ∷ []; answer = SlotIs 3; acked = None })

  e3 : happens small_group g2 (Submit 0 (write_at 2 third)) Whole ≡ g3
  unfolding opening first_leader acted settled restarted opening_disk stored on_elect renewed led
  e3 = submits small_group g2 0 (write_at 2 third) a2 _ refl rule_3

  -- 4. server 0 takes a submission
  abbrev four : Entry
  four = record { slot = 4; term = 1; first = 1; look = record { slot = 2; range = record { first = 1; count = 1 } } ∷ record { slot = 3; range = record { first = 2; count = 1 } } ∷ []; op = write_at 3 fourth }

  abbrev l4 : Leader
  l4 = record l3 { next = 5; acks = acknowledged l3.acks 0 4 }

  abbrev a4 : Server
  a4 = record a3 { durable = stored a3.durable (EntryRecord four); role = Serving l4 }

  rule_4 : on_submit small_group a3 (write_at 3 fourth) (Serving l3) ≡ record { server = a4; packets = packet 0 1 1 (Accept four) ∷ packet 0 2 1 (Accept four) ∷ []; answer = SlotIs 4; acked = None }
  unfolding on_submit submitted new_entry look_behind restarted opening_disk stored op_at range_of put_entry put_entries led
  rule_4 = simp gets

  room_4 : room_refusal g3 (record { server = a4; packets = packet 0 1 1 (Accept four) ∷ packet 0 2 1 (Accept four) ∷ []; answer = SlotIs 4; acked = None }) ≡ None
  unfolding room_refusal most_packets most_packet_bytes half_size packet_size body_size opening first_leader restarted opening_disk stored acted settled put_entry put_entries add_start add_merged_start on_elect renewed led
  room_4 = simp (empty_rows, gets)

  abbrev g4 : Group
  g4 = acted g3 0 (record { server = a4; packets = packet 0 1 1 (Accept four) ∷ packet 0 2 1 (Accept four) ∷ []; answer = SlotIs 4; acked = None })

  e4 : happens small_group g3 (Submit 0 (write_at 3 fourth)) Whole ≡ g4
  unfolding opening first_leader acted settled restarted opening_disk stored on_elect renewed led
  e4 = submits small_group g3 0 (write_at 3 fourth) a3 _ refl rule_4

  -- 5. a proposal from server 0 comes to server 1
  abbrev b1 : Server
  b1 = record b0 { durable = stored b0.durable (EntryRecord one) }

  rule_5 : on_packet small_group b0 (packet 0 1 1 (Accept one)) ≡ sends b1 (packet 1 0 1 (Ack 1 0) ∷ [])
  unfolding on_packet on_message on_accept accepted restarted opening_disk stored put_entry put_entries holds upto
  rule_5 = simp gets

  room_5 : room_refusal g4 (sends b1 (packet 1 0 1 (Ack 1 0) ∷ [])) ≡ None
  unfolding room_refusal most_packets most_packet_bytes half_size packet_size body_size opening first_leader restarted opening_disk stored acted settled put_entry put_entries add_start add_merged_start on_elect renewed led
  room_5 = simp (empty_rows, gets)

  abbrev g5 : Group
  g5 = heard g4 0 0 1 1 (Accept one) (sends b1 (packet 1 0 1 (Ack 1 0) ∷ []))

  e5 : happens small_group g4 (Deliver 0) Whole ≡ g5
  unfolding opening first_leader acted settled restarted opening_disk stored on_elect renewed led
  e5 = delivers small_group g4 0 (packet 0 1 1 (Accept one)) false b0 _ refl refl rule_5

  -- 6. a proposal from server 0 comes to server 2
  abbrev c1 : Server
  c1 = record c0 { durable = stored c0.durable (EntryRecord one) }

  rule_6 : on_packet small_group c0 (packet 0 2 1 (Accept one)) ≡ sends c1 (packet 2 0 1 (Ack 1 0) ∷ [])
  unfolding on_packet on_message on_accept accepted restarted opening_disk stored put_entry put_entries holds upto
  rule_6 = simp gets

  room_6 : room_refusal g5 (sends c1 (packet 2 0 1 (Ack 1 0) ∷ [])) ≡ None
  unfolding room_refusal most_packets most_packet_bytes half_size packet_size body_size opening first_leader restarted opening_disk stored acted settled put_entry put_entries add_start add_merged_start on_elect renewed led
  room_6 = simp (empty_rows, gets)

  abbrev g6 : Group
  g6 = heard g5 1 0 2 1 (Accept one) (sends c1 (packet 2 0 1 (Ack 1 0) ∷ []))

  e6 : happens small_group g5 (Deliver 1) Whole ≡ g6
  unfolding opening first_leader acted settled restarted opening_disk stored on_elect renewed led
  e6 = delivers small_group g5 1 (packet 0 2 1 (Accept one)) false c0 _ refl refl rule_6

  -- 7. server 0 stops
  abbrev g7 : Group
  g7 = record g6 { servers = slice_set g6.servers 0 (Stopped 1 a4.durable a4.durable) }

  e7 : happens small_group g6 (Stop 0) Whole ≡ g7
  unfolding happens opening first_leader acted settled restarted opening_disk stored on_elect renewed led
  e7 = refl

  -- 8. server 1 stands for election
  abbrev b2 : Server
  b2 = record b1 { durable = stored b1.durable (TermRecord 2); role = Candidate (vote_of b1.durable) }

  rule_8 : on_elect b1 ≡ record { server = b2; packets = packet 1 0 2 (RequestVote 0) ∷ packet 1 2 2 (RequestVote 0) ∷ []; answer = TermIs 2; acked = None }
  unfolding on_elect restarted opening_disk stored
  rule_8 = refl

  room_8 : room_refusal g7 (record { server = b2; packets = packet 1 0 2 (RequestVote 0) ∷ packet 1 2 2 (RequestVote 0) ∷ []; answer = TermIs 2; acked = None }) ≡ None
  unfolding room_refusal most_packets most_packet_bytes half_size packet_size body_size opening first_leader restarted opening_disk stored acted settled put_entry put_entries add_start add_merged_start on_elect renewed led
  room_8 = simp (empty_rows, gets)

  abbrev g8 : Group
  g8 = acted (record g7 { elections = 1 }) 1 (record { server = b2; packets = packet 1 0 2 (RequestVote 0) ∷ packet 1 2 2 (RequestVote 0) ∷ []; answer = TermIs 2; acked = None })

  e8 : happens small_group g7 (Elect 1) Whole ≡ g8
  unfolding opening first_leader acted settled restarted opening_disk stored on_elect renewed led
  e8 = elects small_group g7 1 b1 _ refl rule_8

  -- 9. a request for a vote from server 1 comes to server 2
  abbrev c2 : Server
  c2 = record c1 { durable = stored c1.durable (TermRecord 2) }

  rule_9 : on_packet small_group c1 (packet 1 2 2 (RequestVote 0)) ≡ sends c2 (packet 2 1 2 (Vote (vote_of c1.durable)) ∷ [])
  unfolding on_packet on_message on_request_vote restarted opening_disk stored
  rule_9 = refl

  room_9 : room_refusal g8 (sends c2 (packet 2 1 2 (Vote (vote_of c1.durable)) ∷ [])) ≡ None
  unfolding room_refusal most_packets most_packet_bytes half_size packet_size body_size opening first_leader restarted opening_disk stored acted settled put_entry put_entries add_start add_merged_start on_elect renewed led
  room_9 = simp (empty_rows, entries-insert, gets)

  abbrev g9 : Group
  g9 = heard g8 11 1 2 2 (RequestVote 0) (sends c2 (packet 2 1 2 (Vote (vote_of c1.durable)) ∷ []))

  e9 : happens small_group g8 (Deliver 11) Whole ≡ g9
  unfolding opening first_leader acted settled restarted opening_disk stored on_elect renewed led
  e9 = delivers small_group g8 11 (packet 1 2 2 (RequestVote 0)) false c1 _ refl refl rule_9

  -- 10. a vote from server 2 comes to server 1
  abbrev m2_1 : Entry
  m2_1 = record { slot = 1; term = 2; first = 2; look = []; op = write_at 0 first }

  first_10 : merged_first 0 (vote_of b1.durable) (vote_of c1.durable) ≡ 2
  unfolding merged_first merged_entries taken left_of higher is_void restarted opening_disk stored put_entry put_entries add_start add_merged_start
  first_10 = simp (entries-insert, empty_rows, gets)

  made_10_1 : merged_entry 2 0 (vote_of b1.durable) (vote_of c1.durable) 1 ≡ m2_1
  unfolding merged_entry merged_op op_or_noop taken left_of higher is_void restarted opening_disk stored put_entry put_entries add_start add_merged_start
  made_10_1 = rw first_10 (simp (entries-insert, empty_rows, gets))

  merge_10 : merged_entries 2 0 (vote_of b1.durable) (vote_of c1.durable) ≡ m2_1 ∷ []
  unfolding merged_entries
  merge_10 = rw (first_10, made_10_1) refl

  abbrev l5 : Leader
  l5 = led 0 2 2 1

  abbrev b3 : Server
  b3 = record b2 { durable = stored b2.durable (MergedRecord 2 2 (m2_1 ∷ [])); role = Merging l5 }

  rule_10 : on_packet small_group b2 (packet 2 1 2 (Vote (vote_of c1.durable))) ≡ sends b3 (packet 1 0 2 (Accept m2_1) ∷ packet 1 2 2 (Accept m2_1) ∷ [])
  unfolding on_packet on_message on_vote merged led restarted opening_disk stored
  rule_10 = rw (first_10, merge_10) refl

  room_10 : room_refusal g9 (sends b3 (packet 1 0 2 (Accept m2_1) ∷ packet 1 2 2 (Accept m2_1) ∷ [])) ≡ None
  unfolding room_refusal most_packets most_packet_bytes half_size packet_size body_size opening first_leader restarted opening_disk stored acted settled put_entry put_entries add_start add_merged_start on_elect renewed led
  room_10 = simp (empty_rows, entries-insert, gets)

  abbrev g10 : Group
  g10 = heard g9 12 2 1 2 (Vote (vote_of c1.durable)) (sends b3 (packet 1 0 2 (Accept m2_1) ∷ packet 1 2 2 (Accept m2_1) ∷ []))

  e10 : happens small_group g9 (Deliver 12) Whole ≡ g10
  unfolding opening first_leader acted settled restarted opening_disk stored on_elect renewed led
  e10 = delivers small_group g9 12 (packet 2 1 2 (Vote (vote_of c1.durable))) false b2 _ refl refl rule_10

  -- 11. a proposal from server 1 comes to server 2
  abbrev c3 : Server
  c3 = record c2 { durable = stored c2.durable (EntryRecord m2_1) }

  rule_11 : on_packet small_group c2 (packet 1 2 2 (Accept m2_1)) ≡ sends c3 (packet 2 1 2 (Ack 1 0) ∷ [])
  unfolding on_packet on_message on_accept accepted restarted opening_disk stored put_entry put_entries holds upto
  rule_11 = simp gets

  room_11 : room_refusal g10 (sends c3 (packet 2 1 2 (Ack 1 0) ∷ [])) ≡ None
  unfolding room_refusal most_packets most_packet_bytes half_size packet_size body_size opening first_leader restarted opening_disk stored acted settled put_entry put_entries add_start add_merged_start on_elect renewed led
  room_11 = simp (empty_rows, entries-insert, gets)

  abbrev g11 : Group
  g11 = heard g10 14 1 2 2 (Accept m2_1) (sends c3 (packet 2 1 2 (Ack 1 0) ∷ []))

  e11 : happens small_group g10 (Deliver 14) Whole ≡ g11
  unfolding opening first_leader acted settled restarted opening_disk stored on_elect renewed led
  e11 = delivers small_group g10 14 (packet 1 2 2 (Accept m2_1)) false c2 _ refl refl rule_11

  -- 12. an acknowledgement from server 2 comes to server 1
  abbrev l6 : Leader
  l6 = record l5 { known = FinMap.insert l5.known 2 0; acks = acknowledged l5.acks 2 1 }

  abbrev b4 : Server
  b4 = record b3 { role = Serving l6; committed = Sets.insert b3.committed 1 }

  rule_12 : on_packet small_group b3 (packet 2 1 2 (Ack 1 0)) ≡ record { server = b4; packets = packet 1 2 2 (Commit 1) ∷ []; answer = Done; acked = None }
  unfolding on_packet on_message on_ack commit_own counted acknowledged restarted opening_disk stored put_entry put_entries holds led all_acknowledged
  rule_12 = simp gets

  room_12 : room_refusal g11 (record { server = b4; packets = packet 1 2 2 (Commit 1) ∷ []; answer = Done; acked = None }) ≡ None
  unfolding room_refusal most_packets most_packet_bytes half_size packet_size body_size opening first_leader restarted opening_disk stored acted settled put_entry put_entries add_start add_merged_start on_elect renewed led
  room_12 = simp (empty_rows, entries-insert, gets)

  abbrev g12 : Group
  g12 = heard g11 15 2 1 2 (Ack 1 0) (record { server = b4; packets = packet 1 2 2 (Commit 1) ∷ []; answer = Done; acked = None })

  e12 : happens small_group g11 (Deliver 15) Whole ≡ g12
  unfolding opening first_leader acted settled restarted opening_disk stored on_elect renewed led
  e12 = delivers small_group g11 15 (packet 2 1 2 (Ack 1 0)) false b3 _ refl refl rule_12

  -- 13 and 14. server 1 applies slot 1
  claim_13 : claimable 4096 b4 ≡ Some 1
  unfolding settled restarted opening_disk stored put_entry put_entries is_free range_of merged_entry
  claim_13 = first_is b4 4095 (simp gets)

  op_13 : op_at b4.durable.log 1 ≡ write_at 0 first
  unfolding settled restarted opening_disk stored put_entry put_entries is_free range_of merged_entry op_at
  op_13 = simp gets

  abbrev g13 : Group
  g13 = record g12 { servers = slice_set g12.servers 1 (Running (claimed b4 1)) }

  e13 : happens small_group g12 Claim Whole ≡ g13
  unfolding opening first_leader acted settled restarted opening_disk stored on_elect renewed led
  e13 = claims_at_1 small_group g12 refl b4 1 refl claim_13

  abbrev b5 : Server
  b5 = record b4 { in_hand = FinMap.remove (FinMap.insert b4.in_hand 1 (write_at 0 first)) 1; applied = Sets.insert b4.applied 1; sectors = changed (write_at 0 first) b4.sectors }

  rule_14 : on_finish (claimed b4 1) 0 1 ≡ sends b5 []
  unfolding on_finish applied_op claimed op_at restarted opening_disk stored put_entry put_entries snapshots_after
  rule_14 = simp gets

  abbrev g14 : Group
  g14 = acted g13 1 (sends b5 [])

  e14 : happens small_group g13 (Finish 1 0 1) Whole ≡ g14
  unfolding opening first_leader acted settled restarted opening_disk stored on_elect renewed led
  e14 = finishes small_group g13 1 0 1 (claimed b4 1) _ refl rule_14

  -- 15. server 1 takes a submission
  abbrev five : Entry
  five = record { slot = 2; term = 2; first = 2; look = record { slot = 1; range = record { first = 0; count = 1 } } ∷ []; op = write_at 5 fifth }

  abbrev l7 : Leader
  l7 = record l6 { next = 3; acks = acknowledged l6.acks 1 2 }

  abbrev b6 : Server
  b6 = record b5 { durable = stored b5.durable (EntryRecord five); role = Serving l7 }

  rule_15 : on_submit small_group b5 (write_at 5 fifth) (Serving l6) ≡ record { server = b6; packets = packet 1 0 2 (Accept five) ∷ packet 1 2 2 (Accept five) ∷ []; answer = SlotIs 2; acked = None }
  unfolding on_submit submitted new_entry look_behind restarted opening_disk stored op_at range_of put_entry put_entries led
  rule_15 = simp gets

  room_15 : room_refusal g14 (record { server = b6; packets = packet 1 0 2 (Accept five) ∷ packet 1 2 2 (Accept five) ∷ []; answer = SlotIs 2; acked = None }) ≡ None
  unfolding room_refusal most_packets most_packet_bytes half_size packet_size body_size opening first_leader restarted opening_disk stored acted settled put_entry put_entries add_start add_merged_start on_elect renewed led
  room_15 = simp (empty_rows, entries-insert, gets)

  abbrev g15 : Group
  g15 = acted g14 1 (record { server = b6; packets = packet 1 0 2 (Accept five) ∷ packet 1 2 2 (Accept five) ∷ []; answer = SlotIs 2; acked = None })

  e15 : happens small_group g14 (Submit 1 (write_at 5 fifth)) Whole ≡ g15
  unfolding opening first_leader acted settled restarted opening_disk stored on_elect renewed led
  e15 = submits small_group g14 1 (write_at 5 fifth) b5 _ refl rule_15

  -- 16. a proposal from server 1 comes to server 2
  abbrev c4 : Server
  c4 = record c3 { durable = stored c3.durable (EntryRecord five) }

  rule_16 : on_packet small_group c3 (packet 1 2 2 (Accept five)) ≡ sends c4 (packet 2 1 2 (Ack 2 0) ∷ [])
  unfolding on_packet on_message on_accept accepted restarted opening_disk stored put_entry put_entries holds upto
  rule_16 = simp gets

  room_16 : room_refusal g15 (sends c4 (packet 2 1 2 (Ack 2 0) ∷ [])) ≡ None
  unfolding room_refusal most_packets most_packet_bytes half_size packet_size body_size opening first_leader restarted opening_disk stored acted settled put_entry put_entries add_start add_merged_start on_elect renewed led
  room_16 = simp (empty_rows, entries-insert, gets)

  abbrev g16 : Group
  g16 = heard g15 18 1 2 2 (Accept five) (sends c4 (packet 2 1 2 (Ack 2 0) ∷ []))

  e16 : happens small_group g15 (Deliver 18) Whole ≡ g16
  unfolding opening first_leader acted settled restarted opening_disk stored on_elect renewed led
  e16 = delivers small_group g15 18 (packet 1 2 2 (Accept five)) false c3 _ refl refl rule_16

  -- 17. an acknowledgement from server 2 comes to server 1
  abbrev l8 : Leader
  l8 = record l7 { known = FinMap.insert l7.known 2 0; acks = acknowledged l7.acks 2 2 }

  abbrev b7 : Server
  b7 = record b6 { role = Serving l8; committed = Sets.insert b6.committed 2 }

  rule_17 : on_packet small_group b6 (packet 2 1 2 (Ack 2 0)) ≡ record { server = b7; packets = packet 1 2 2 (Commit 2) ∷ []; answer = Done; acked = Some 2 }
  unfolding on_packet on_message on_ack commit_own counted acknowledged restarted opening_disk stored put_entry put_entries holds led all_acknowledged
  rule_17 = simp gets

  room_17 : room_refusal g16 (record { server = b7; packets = packet 1 2 2 (Commit 2) ∷ []; answer = Done; acked = Some 2 }) ≡ None
  unfolding room_refusal most_packets most_packet_bytes half_size packet_size body_size opening first_leader restarted opening_disk stored acted settled put_entry put_entries add_start add_merged_start on_elect renewed led
  room_17 = simp (empty_rows, entries-insert, gets)

  abbrev g17 : Group
  g17 = heard g16 19 2 1 2 (Ack 2 0) (record { server = b7; packets = packet 1 2 2 (Commit 2) ∷ []; answer = Done; acked = Some 2 })

  e17 : happens small_group g16 (Deliver 19) Whole ≡ g17
  unfolding opening first_leader acted settled restarted opening_disk stored on_elect renewed led
  e17 = delivers small_group g16 19 (packet 2 1 2 (Ack 2 0)) false b6 _ refl refl rule_17

  -- 18 and 19. server 1 applies slot 2
  claim_18 : claimable 4096 b7 ≡ Some 2
  unfolding settled restarted opening_disk stored put_entry put_entries is_free range_of merged_entry
  claim_18 = second_is b7 4094 refl (simp gets) (simp gets)

  op_18 : op_at b7.durable.log 2 ≡ write_at 5 fifth
  unfolding settled restarted opening_disk stored put_entry put_entries is_free range_of merged_entry op_at
  op_18 = simp gets

  abbrev g18 : Group
  g18 = record g17 { servers = slice_set g17.servers 1 (Running (claimed b7 2)) }

  e18 : happens small_group g17 Claim Whole ≡ g18
  unfolding opening first_leader acted settled restarted opening_disk stored on_elect renewed led
  e18 = claims_at_1 small_group g17 refl b7 2 refl claim_18

  abbrev b8 : Server
  b8 = record b7 { in_hand = FinMap.remove (FinMap.insert b7.in_hand 2 (write_at 5 fifth)) 2; applied = Sets.insert b7.applied 2; sectors = changed (write_at 5 fifth) b7.sectors }

  rule_19 : on_finish (claimed b7 2) 0 2 ≡ sends b8 []
  unfolding on_finish applied_op claimed op_at restarted opening_disk stored put_entry put_entries snapshots_after
  rule_19 = simp gets

  abbrev g19 : Group
  g19 = acted g18 1 (sends b8 [])

  e19 : happens small_group g18 (Finish 1 0 2) Whole ≡ g19
  unfolding opening first_leader acted settled restarted opening_disk stored on_elect renewed led
  e19 = finishes small_group g18 1 0 2 (claimed b7 2) _ refl rule_19

  -- 20. server 0 begins again
  abbrev a5 : Server
  a5 = restarted 0 2 a4.durable

  abbrev g20 : Group
  g20 = record g19 { servers = slice_set g19.servers 0 (Running a5) }

  e20 : happens small_group g19 (Restart 0 false) Whole ≡ g20
  unfolding happens opening first_leader acted settled restarted opening_disk stored on_elect renewed led
  e20 = refl

  -- 21. server 1 stands for election
  abbrev b9 : Server
  b9 = record b8 { durable = stored b8.durable (TermRecord 3); role = Candidate (vote_of b8.durable) }

  rule_21 : on_elect b8 ≡ record { server = b9; packets = packet 1 0 3 (RequestVote 0) ∷ packet 1 2 3 (RequestVote 0) ∷ []; answer = TermIs 3; acked = None }
  unfolding on_elect restarted opening_disk stored
  rule_21 = refl

  room_21 : room_refusal g20 (record { server = b9; packets = packet 1 0 3 (RequestVote 0) ∷ packet 1 2 3 (RequestVote 0) ∷ []; answer = TermIs 3; acked = None }) ≡ None
  unfolding room_refusal most_packets most_packet_bytes half_size packet_size body_size opening first_leader restarted opening_disk stored acted settled put_entry put_entries add_start add_merged_start on_elect renewed led
  room_21 = simp (empty_rows, entries-insert, gets)

  abbrev g21 : Group
  g21 = acted (record g20 { elections = 2 }) 1 (record { server = b9; packets = packet 1 0 3 (RequestVote 0) ∷ packet 1 2 3 (RequestVote 0) ∷ []; answer = TermIs 3; acked = None })

  e21 : happens small_group g20 (Elect 1) Whole ≡ g21
  unfolding opening first_leader acted settled restarted opening_disk stored on_elect renewed led
  e21 = elects small_group g20 1 b8 _ refl rule_21

  -- 22. a request for a vote from server 1 comes to server 0
  abbrev a6 : Server
  a6 = record a5 { durable = stored a5.durable (TermRecord 3) }

  rule_22 : on_packet small_group a5 (packet 1 0 3 (RequestVote 0)) ≡ sends a6 (packet 0 1 3 (Vote (vote_of a5.durable)) ∷ [])
  unfolding on_packet on_message on_request_vote restarted opening_disk stored
  rule_22 = refl

  room_22 : room_refusal g21 (sends a6 (packet 0 1 3 (Vote (vote_of a5.durable)) ∷ [])) ≡ None
  unfolding room_refusal most_packets most_packet_bytes half_size packet_size body_size opening first_leader restarted opening_disk stored acted settled put_entry put_entries add_start add_merged_start on_elect renewed led
  room_22 = simp (empty_rows, entries-insert, gets)

  abbrev g22 : Group
  g22 = heard g21 21 1 0 3 (RequestVote 0) (sends a6 (packet 0 1 3 (Vote (vote_of a5.durable)) ∷ []))

  e22 : happens small_group g21 (Deliver 21) Whole ≡ g22
  unfolding opening first_leader acted settled restarted opening_disk stored on_elect renewed led
  e22 = delivers small_group g21 21 (packet 1 0 3 (RequestVote 0)) false a5 _ refl refl rule_22

  -- 23. a vote from server 0 comes to server 1
  abbrev m3_1 : Entry
  m3_1 = record { slot = 1; term = 3; first = 3; look = []; op = write_at 0 first }

  abbrev m3_2 : Entry
  m3_2 = record { slot = 2; term = 3; first = 3; look = []; op = write_at 5 fifth }

  first_23 : merged_first 0 (vote_of b8.durable) (vote_of a5.durable) ≡ 3
  unfolding merged_first merged_entries taken left_of higher is_void restarted opening_disk stored put_entry put_entries add_start add_merged_start
  first_23 = simp (entries-insert, empty_rows, gets)

  made_23_1 : merged_entry 3 0 (vote_of b8.durable) (vote_of a5.durable) 1 ≡ m3_1
  unfolding merged_entry merged_op op_or_noop taken left_of higher is_void restarted opening_disk stored put_entry put_entries add_start add_merged_start
  made_23_1 = rw first_23 (simp (entries-insert, empty_rows, gets))

  made_23_2 : merged_entry 3 0 (vote_of b8.durable) (vote_of a5.durable) 2 ≡ m3_2
  unfolding merged_entry merged_op op_or_noop taken left_of higher is_void restarted opening_disk stored put_entry put_entries add_start add_merged_start
  made_23_2 = rw first_23 (simp (entries-insert, empty_rows, gets))

  merge_23 : merged_entries 3 0 (vote_of b8.durable) (vote_of a5.durable) ≡ m3_1 ∷ m3_2 ∷ []
  unfolding merged_entries
  merge_23 = rw (first_23, made_23_1, made_23_2) refl

  abbrev l9 : Leader
  l9 = led 0 3 3 1

  abbrev b10 : Server
  b10 = record b9 { durable = stored b9.durable (MergedRecord 3 3 (m3_1 ∷ m3_2 ∷ [])); role = Merging l9 }

  rule_23 : on_packet small_group b9 (packet 0 1 3 (Vote (vote_of a5.durable))) ≡ sends b10 (packet 1 0 3 (Accept m3_1) ∷ packet 1 2 3 (Accept m3_1) ∷ packet 1 0 3 (Accept m3_2) ∷ packet 1 2 3 (Accept m3_2) ∷ [])
  unfolding on_packet on_message on_vote merged led restarted opening_disk stored
  rule_23 = rw (first_23, merge_23) refl

  room_23 : room_refusal g22 (sends b10 (packet 1 0 3 (Accept m3_1) ∷ packet 1 2 3 (Accept m3_1) ∷ packet 1 0 3 (Accept m3_2) ∷ packet 1 2 3 (Accept m3_2) ∷ [])) ≡ None
  unfolding room_refusal most_packets most_packet_bytes half_size packet_size body_size opening first_leader restarted opening_disk stored acted settled put_entry put_entries add_start add_merged_start on_elect renewed led
  room_23 = simp (empty_rows, entries-insert, gets)

  abbrev g23 : Group
  g23 = heard g22 23 0 1 3 (Vote (vote_of a5.durable)) (sends b10 (packet 1 0 3 (Accept m3_1) ∷ packet 1 2 3 (Accept m3_1) ∷ packet 1 0 3 (Accept m3_2) ∷ packet 1 2 3 (Accept m3_2) ∷ []))

  e23 : happens small_group g22 (Deliver 23) Whole ≡ g23
  unfolding opening first_leader acted settled restarted opening_disk stored on_elect renewed led
  e23 = delivers small_group g22 23 (packet 0 1 3 (Vote (vote_of a5.durable))) false b9 _ refl refl rule_23

  -- 24. a proposal from server 1 comes to server 0
  abbrev a7 : Server
  a7 = record a6 { durable = stored a6.durable (EntryRecord m3_1) }

  rule_24 : on_packet small_group a6 (packet 1 0 3 (Accept m3_1)) ≡ sends a7 (packet 0 1 3 (Ack 1 0) ∷ [])
  unfolding on_packet on_message on_accept accepted restarted opening_disk stored put_entry put_entries holds upto
  rule_24 = simp gets

  room_24 : room_refusal g23 (sends a7 (packet 0 1 3 (Ack 1 0) ∷ [])) ≡ None
  unfolding room_refusal most_packets most_packet_bytes half_size packet_size body_size opening first_leader restarted opening_disk stored acted settled put_entry put_entries add_start add_merged_start on_elect renewed led
  room_24 = simp (empty_rows, entries-insert, gets)

  abbrev g24 : Group
  g24 = heard g23 24 1 0 3 (Accept m3_1) (sends a7 (packet 0 1 3 (Ack 1 0) ∷ []))

  e24 : happens small_group g23 (Deliver 24) Whole ≡ g24
  unfolding opening first_leader acted settled restarted opening_disk stored on_elect renewed led
  e24 = delivers small_group g23 24 (packet 1 0 3 (Accept m3_1)) false a6 _ refl refl rule_24

  -- 25. a proposal from server 1 comes to server 0
  abbrev a8 : Server
  a8 = record a7 { durable = stored a7.durable (EntryRecord m3_2) }

  rule_25 : on_packet small_group a7 (packet 1 0 3 (Accept m3_2)) ≡ sends a8 (packet 0 1 3 (Ack 2 0) ∷ [])
  unfolding on_packet on_message on_accept accepted restarted opening_disk stored put_entry put_entries holds upto
  rule_25 = simp gets

  room_25 : room_refusal g24 (sends a8 (packet 0 1 3 (Ack 2 0) ∷ [])) ≡ None
  unfolding room_refusal most_packets most_packet_bytes half_size packet_size body_size opening first_leader restarted opening_disk stored acted settled put_entry put_entries add_start add_merged_start on_elect renewed led
  room_25 = simp (empty_rows, entries-insert, gets)

  abbrev g25 : Group
  g25 = heard g24 26 1 0 3 (Accept m3_2) (sends a8 (packet 0 1 3 (Ack 2 0) ∷ []))

  e25 : happens small_group g24 (Deliver 26) Whole ≡ g25
  unfolding opening first_leader acted settled restarted opening_disk stored on_elect renewed led
  e25 = delivers small_group g24 26 (packet 1 0 3 (Accept m3_2)) false a7 _ refl refl rule_25

  -- 26. an acknowledgement from server 0 comes to server 1
  abbrev l10 : Leader
  l10 = record l9 { known = FinMap.insert l9.known 0 0; acks = acknowledged l9.acks 0 1 }

  abbrev b11 : Server
  b11 = record b10 { role = Merging l10; committed = Sets.insert b10.committed 1 }

  rule_26 : on_packet small_group b10 (packet 0 1 3 (Ack 1 0)) ≡ record { server = b11; packets = packet 1 0 3 (Commit 1) ∷ []; answer = Done; acked = None }
  unfolding on_packet on_message on_ack commit_own counted acknowledged restarted opening_disk stored put_entry put_entries holds led all_acknowledged
  rule_26 = simp gets

  room_26 : room_refusal g25 (record { server = b11; packets = packet 1 0 3 (Commit 1) ∷ []; answer = Done; acked = None }) ≡ None
  unfolding room_refusal most_packets most_packet_bytes half_size packet_size body_size opening first_leader restarted opening_disk stored acted settled put_entry put_entries add_start add_merged_start on_elect renewed led
  room_26 = simp (empty_rows, entries-insert, gets)

  abbrev g26 : Group
  g26 = heard g25 28 0 1 3 (Ack 1 0) (record { server = b11; packets = packet 1 0 3 (Commit 1) ∷ []; answer = Done; acked = None })

  e26 : happens small_group g25 (Deliver 28) Whole ≡ g26
  unfolding opening first_leader acted settled restarted opening_disk stored on_elect renewed led
  e26 = delivers small_group g25 28 (packet 0 1 3 (Ack 1 0)) false b10 _ refl refl rule_26

  -- 27. an acknowledgement from server 0 comes to server 1
  abbrev l11 : Leader
  l11 = record l10 { known = FinMap.insert l10.known 0 0; acks = acknowledged l10.acks 0 2 }

  abbrev b12 : Server
  b12 = record b11 { role = Serving l11; committed = Sets.insert b11.committed 2 }

  rule_27 : on_packet small_group b11 (packet 0 1 3 (Ack 2 0)) ≡ record { server = b12; packets = packet 1 0 3 (Commit 2) ∷ []; answer = Done; acked = None }
  unfolding on_packet on_message on_ack commit_own counted acknowledged restarted opening_disk stored put_entry put_entries holds led all_acknowledged
  rule_27 = simp gets

  room_27 : room_refusal g26 (record { server = b12; packets = packet 1 0 3 (Commit 2) ∷ []; answer = Done; acked = None }) ≡ None
  unfolding room_refusal most_packets most_packet_bytes half_size packet_size body_size opening first_leader restarted opening_disk stored acted settled put_entry put_entries add_start add_merged_start on_elect renewed led
  room_27 = simp (empty_rows, entries-insert, gets)

  abbrev g27 : Group
  g27 = heard g26 29 0 1 3 (Ack 2 0) (record { server = b12; packets = packet 1 0 3 (Commit 2) ∷ []; answer = Done; acked = None })

  e27 : happens small_group g26 (Deliver 29) Whole ≡ g27
  unfolding opening first_leader acted settled restarted opening_disk stored on_elect renewed led
  e27 = delivers small_group g26 29 (packet 0 1 3 (Ack 2 0)) false b11 _ refl refl rule_27

  -- 28. server 1 takes a submission
  abbrev six : Entry
  six = record { slot = 3; term = 3; first = 3; look = record { slot = 1; range = record { first = 0; count = 1 } } ∷ record { slot = 2; range = record { first = 5; count = 1 } } ∷ []; op = write_at 6 sixth }

  abbrev l12 : Leader
  l12 = record l11 { next = 4; acks = acknowledged l11.acks 1 3 }

  abbrev b13 : Server
  b13 = record b12 { durable = stored b12.durable (EntryRecord six); role = Serving l12 }

  rule_28 : on_submit small_group b12 (write_at 6 sixth) (Serving l11) ≡ record { server = b13; packets = packet 1 0 3 (Accept six) ∷ packet 1 2 3 (Accept six) ∷ []; answer = SlotIs 3; acked = None }
  unfolding on_submit submitted new_entry look_behind restarted opening_disk stored op_at range_of put_entry put_entries led
  rule_28 = simp gets

  room_28 : room_refusal g27 (record { server = b13; packets = packet 1 0 3 (Accept six) ∷ packet 1 2 3 (Accept six) ∷ []; answer = SlotIs 3; acked = None }) ≡ None
  unfolding room_refusal most_packets most_packet_bytes half_size packet_size body_size opening first_leader restarted opening_disk stored acted settled put_entry put_entries add_start add_merged_start on_elect renewed led
  room_28 = simp (empty_rows, entries-insert, gets)

  abbrev g28 : Group
  g28 = acted g27 1 (record { server = b13; packets = packet 1 0 3 (Accept six) ∷ packet 1 2 3 (Accept six) ∷ []; answer = SlotIs 3; acked = None })

  e28 : happens small_group g27 (Submit 1 (write_at 6 sixth)) Whole ≡ g28
  unfolding opening first_leader acted settled restarted opening_disk stored on_elect renewed led
  e28 = submits small_group g27 1 (write_at 6 sixth) b12 _ refl rule_28

  none_last_0 : claimable 4096 a8 ≡ None
  unfolding settled restarted opening_disk stored put_entry put_entries is_free range_of merged_entry
  none_last_0 =
      let can = λ (slot : ℕ). is_claimable a8 (FinMap.get a8.durable.log slot) slot in
      none_marked a8 4096 (none_of can)

  none_last_1 : claimable 4096 b13 ≡ None
  unfolding settled restarted opening_disk stored put_entry put_entries is_free range_of merged_entry
  none_last_1 =
      let can = λ (slot : ℕ). is_claimable b13 (FinMap.get b13.durable.log slot) slot in
      none_marked b13 4096 (nor_of can (Sets.insert (Sets.insert (Sets.insert Sets.empty 1) 2) 1) 2 (simp gets) (nor_of can (Sets.insert (Sets.insert Sets.empty 1) 2) 1 (simp gets) (nor_of can (Sets.insert Sets.empty 1) 2 (simp gets) (nor_of can Sets.empty 1 (simp gets) (none_of can)))))

  none_last_2 : claimable 4096 c4 ≡ None
  unfolding settled restarted opening_disk stored put_entry put_entries is_free range_of merged_entry
  none_last_2 =
      let can = λ (slot : ℕ). is_claimable c4 (FinMap.get c4.durable.log slot) slot in
      none_marked c4 4096 (none_of can)

  calm : answer_to small_group g28 Claim ≡ Refused NoneFree
  unfolding opening first_leader acted settled restarted opening_disk stored on_elect renewed led
  calm = claim_answer_none small_group g28 none_last_0 none_last_1 none_last_2

  abbrev rest_28 : History
  rest_28 = []

  abbrev rest_27 : History
  rest_27 = so (Submit 1 (write_at 6 sixth)) (SlotIs 3) ∷ rest_28

  abbrev rest_26 : History
  rest_26 = so (Deliver 29) Done ∷ rest_27

  abbrev rest_25 : History
  rest_25 = so (Deliver 28) Done ∷ rest_26

  abbrev rest_24 : History
  rest_24 = so (Deliver 26) Done ∷ rest_25

  abbrev rest_23 : History
  rest_23 = so (Deliver 24) Done ∷ rest_24

  abbrev rest_22 : History
  rest_22 = so (Deliver 23) Done ∷ rest_23

  abbrev rest_21 : History
  rest_21 = so (Deliver 21) Done ∷ rest_22

  abbrev rest_20 : History
  rest_20 = so (Elect 1) (TermIs 3) ∷ rest_21

  abbrev rest_19 : History
  rest_19 = so (Restart 0 false) Done ∷ rest_20

  abbrev rest_18 : History
  rest_18 = so (Finish 1 0 2) Done ∷ rest_19

  abbrev rest_17 : History
  rest_17 = so Claim (JobIs (record { server = 1; life = 0; slot = 2; op = write_at 5 fifth })) ∷ rest_18

  abbrev rest_16 : History
  rest_16 = so (Deliver 19) Done ∷ rest_17

  abbrev rest_15 : History
  rest_15 = so (Deliver 18) Done ∷ rest_16

  abbrev rest_14 : History
  rest_14 = so (Submit 1 (write_at 5 fifth)) (SlotIs 2) ∷ rest_15

  abbrev rest_13 : History
  rest_13 = so (Finish 1 0 1) Done ∷ rest_14

  abbrev rest_12 : History
  rest_12 = so Claim (JobIs (record { server = 1; life = 0; slot = 1; op = write_at 0 first })) ∷ rest_13

  abbrev rest_11 : History
  rest_11 = so (Deliver 15) Done ∷ rest_12

  abbrev rest_10 : History
  rest_10 = so (Deliver 14) Done ∷ rest_11

  abbrev rest_9 : History
  rest_9 = so (Deliver 12) Done ∷ rest_10

  abbrev rest_8 : History
  rest_8 = so (Deliver 11) Done ∷ rest_9

  abbrev rest_7 : History
  rest_7 = so (Elect 1) (TermIs 2) ∷ rest_8

  abbrev rest_6 : History
  rest_6 = so (Stop 0) Done ∷ rest_7

  abbrev rest_5 : History
  rest_5 = so (Deliver 1) Done ∷ rest_6

  abbrev rest_4 : History
  rest_4 = so (Deliver 0) Done ∷ rest_5

  abbrev rest_3 : History
  rest_3 = so (Submit 0 (write_at 3 fourth)) (SlotIs 4) ∷ rest_4

  abbrev rest_2 : History
  rest_2 = so (Submit 0 (write_at 2 third)) (SlotIs 3) ∷ rest_3

  abbrev rest_1 : History
  rest_1 = so (Submit 0 (write_at 1 second)) (SlotIs 2) ∷ rest_2

  abbrev rest_0 : History
  rest_0 = so (Submit 0 (write_at 0 first)) (SlotIs 1) ∷ rest_1

  replayed_28 : run small_group g28 rest_28 ≡ g28
  replayed_28 = refl

  replayed_27 : run small_group g27 rest_27 ≡ g28
  replayed_27 = follows small_group g27 g28 g28 (so (Submit 1 (write_at 6 sixth)) (SlotIs 3)) rest_28 e28 replayed_28

  replayed_26 : run small_group g26 rest_26 ≡ g28
  replayed_26 = follows small_group g26 g27 g28 (so (Deliver 29) Done) rest_27 e27 replayed_27

  replayed_25 : run small_group g25 rest_25 ≡ g28
  replayed_25 = follows small_group g25 g26 g28 (so (Deliver 28) Done) rest_26 e26 replayed_26

  replayed_24 : run small_group g24 rest_24 ≡ g28
  replayed_24 = follows small_group g24 g25 g28 (so (Deliver 26) Done) rest_25 e25 replayed_25

  replayed_23 : run small_group g23 rest_23 ≡ g28
  replayed_23 = follows small_group g23 g24 g28 (so (Deliver 24) Done) rest_24 e24 replayed_24

  replayed_22 : run small_group g22 rest_22 ≡ g28
  replayed_22 = follows small_group g22 g23 g28 (so (Deliver 23) Done) rest_23 e23 replayed_23

  replayed_21 : run small_group g21 rest_21 ≡ g28
  replayed_21 = follows small_group g21 g22 g28 (so (Deliver 21) Done) rest_22 e22 replayed_22

  replayed_20 : run small_group g20 rest_20 ≡ g28
  replayed_20 = follows small_group g20 g21 g28 (so (Elect 1) (TermIs 3)) rest_21 e21 replayed_21

  replayed_19 : run small_group g19 rest_19 ≡ g28
  replayed_19 = follows small_group g19 g20 g28 (so (Restart 0 false) Done) rest_20 e20 replayed_20

  replayed_18 : run small_group g18 rest_18 ≡ g28
  replayed_18 = follows small_group g18 g19 g28 (so (Finish 1 0 2) Done) rest_19 e19 replayed_19

  replayed_17 : run small_group g17 rest_17 ≡ g28
  replayed_17 = follows small_group g17 g18 g28 (so Claim (JobIs (record { server = 1; life = 0; slot = 2; op = write_at 5 fifth }))) rest_18 e18 replayed_18

  replayed_16 : run small_group g16 rest_16 ≡ g28
  replayed_16 = follows small_group g16 g17 g28 (so (Deliver 19) Done) rest_17 e17 replayed_17

  replayed_15 : run small_group g15 rest_15 ≡ g28
  replayed_15 = follows small_group g15 g16 g28 (so (Deliver 18) Done) rest_16 e16 replayed_16

  replayed_14 : run small_group g14 rest_14 ≡ g28
  replayed_14 = follows small_group g14 g15 g28 (so (Submit 1 (write_at 5 fifth)) (SlotIs 2)) rest_15 e15 replayed_15

  replayed_13 : run small_group g13 rest_13 ≡ g28
  replayed_13 = follows small_group g13 g14 g28 (so (Finish 1 0 1) Done) rest_14 e14 replayed_14

  replayed_12 : run small_group g12 rest_12 ≡ g28
  replayed_12 = follows small_group g12 g13 g28 (so Claim (JobIs (record { server = 1; life = 0; slot = 1; op = write_at 0 first }))) rest_13 e13 replayed_13

  replayed_11 : run small_group g11 rest_11 ≡ g28
  replayed_11 = follows small_group g11 g12 g28 (so (Deliver 15) Done) rest_12 e12 replayed_12

  replayed_10 : run small_group g10 rest_10 ≡ g28
  replayed_10 = follows small_group g10 g11 g28 (so (Deliver 14) Done) rest_11 e11 replayed_11

  replayed_9 : run small_group g9 rest_9 ≡ g28
  replayed_9 = follows small_group g9 g10 g28 (so (Deliver 12) Done) rest_10 e10 replayed_10

  replayed_8 : run small_group g8 rest_8 ≡ g28
  replayed_8 = follows small_group g8 g9 g28 (so (Deliver 11) Done) rest_9 e9 replayed_9

  replayed_7 : run small_group g7 rest_7 ≡ g28
  replayed_7 = follows small_group g7 g8 g28 (so (Elect 1) (TermIs 2)) rest_8 e8 replayed_8

  replayed_6 : run small_group g6 rest_6 ≡ g28
  replayed_6 = follows small_group g6 g7 g28 (so (Stop 0) Done) rest_7 e7 replayed_7

  replayed_5 : run small_group g5 rest_5 ≡ g28
  replayed_5 = follows small_group g5 g6 g28 (so (Deliver 1) Done) rest_6 e6 replayed_6

  replayed_4 : run small_group g4 rest_4 ≡ g28
  replayed_4 = follows small_group g4 g5 g28 (so (Deliver 0) Done) rest_5 e5 replayed_5

  replayed_3 : run small_group g3 rest_3 ≡ g28
  replayed_3 = follows small_group g3 g4 g28 (so (Submit 0 (write_at 3 fourth)) (SlotIs 4)) rest_4 e4 replayed_4

  replayed_2 : run small_group g2 rest_2 ≡ g28
  replayed_2 = follows small_group g2 g3 g28 (so (Submit 0 (write_at 2 third)) (SlotIs 3)) rest_3 e3 replayed_3

  replayed_1 : run small_group g1 rest_1 ≡ g28
  replayed_1 = follows small_group g1 g2 g28 (so (Submit 0 (write_at 1 second)) (SlotIs 2)) rest_2 e2 replayed_2

  replayed_0 : run small_group g0 rest_0 ≡ g28
  replayed_0 = follows small_group g0 g1 g28 (so (Submit 0 (write_at 0 first)) (SlotIs 1)) rest_1 e1 replayed_1

  answer_28 : answer_to small_group g27 (Submit 1 (write_at 6 sixth)) ≡ SlotIs 3
  unfolding opening first_leader acted settled restarted opening_disk stored on_elect renewed led range_of
  answer_28 = submit_answer small_group g27 1 (write_at 6 sixth) b12 _ refl refl refl refl refl rule_28 room_28

  answer_27 : answer_to small_group g26 (Deliver 29) ≡ Done
  unfolding opening first_leader acted settled restarted opening_disk stored on_elect renewed led
  answer_27 = deliver_answer small_group g26 29 (packet 0 1 3 (Ack 2 0)) false b11 _ refl refl rule_27 room_27

  answer_26 : answer_to small_group g25 (Deliver 28) ≡ Done
  unfolding opening first_leader acted settled restarted opening_disk stored on_elect renewed led
  answer_26 = deliver_answer small_group g25 28 (packet 0 1 3 (Ack 1 0)) false b10 _ refl refl rule_26 room_26

  answer_25 : answer_to small_group g24 (Deliver 26) ≡ Done
  unfolding opening first_leader acted settled restarted opening_disk stored on_elect renewed led
  answer_25 = deliver_answer small_group g24 26 (packet 1 0 3 (Accept m3_2)) false a7 _ refl refl rule_25 room_25

  answer_24 : answer_to small_group g23 (Deliver 24) ≡ Done
  unfolding opening first_leader acted settled restarted opening_disk stored on_elect renewed led
  answer_24 = deliver_answer small_group g23 24 (packet 1 0 3 (Accept m3_1)) false a6 _ refl refl rule_24 room_24

  answer_23 : answer_to small_group g22 (Deliver 23) ≡ Done
  unfolding opening first_leader acted settled restarted opening_disk stored on_elect renewed led
  answer_23 = deliver_answer small_group g22 23 (packet 0 1 3 (Vote (vote_of a5.durable))) false b9 _ refl refl rule_23 room_23

  answer_22 : answer_to small_group g21 (Deliver 21) ≡ Done
  unfolding opening first_leader acted settled restarted opening_disk stored on_elect renewed led
  answer_22 = deliver_answer small_group g21 21 (packet 1 0 3 (RequestVote 0)) false a5 _ refl refl rule_22 room_22

  answer_21 : answer_to small_group g20 (Elect 1) ≡ TermIs 3
  unfolding opening first_leader acted settled restarted opening_disk stored on_elect renewed led most_elections
  answer_21 = elect_answer small_group g20 1 b8 _ refl refl rule_21 room_21

  answer_20 : answer_to small_group g19 (Restart 0 false) ≡ Done
  unfolding answer_to opening first_leader acted settled restarted opening_disk stored on_elect renewed led
  answer_20 = refl

  answer_19 : answer_to small_group g18 (Finish 1 0 2) ≡ Done
  unfolding opening first_leader acted settled restarted opening_disk stored on_elect renewed led
  answer_19 = finish_answer small_group g18 1 0 2 (claimed b7 2) _ refl rule_19

  answer_18 : answer_to small_group g17 Claim ≡ JobIs (record { server = 1; life = 0; slot = 2; op = write_at 5 fifth })
  unfolding opening first_leader acted settled restarted opening_disk stored on_elect renewed led
  answer_18 = claim_answer_1 small_group g17 refl b7 2 refl claim_18 ∙ ap (λ x. JobIs (record { server = 1; life = 0; slot = 2; op = x })) op_18

  answer_17 : answer_to small_group g16 (Deliver 19) ≡ Done
  unfolding opening first_leader acted settled restarted opening_disk stored on_elect renewed led
  answer_17 = deliver_answer small_group g16 19 (packet 2 1 2 (Ack 2 0)) false b6 _ refl refl rule_17 room_17

  answer_16 : answer_to small_group g15 (Deliver 18) ≡ Done
  unfolding opening first_leader acted settled restarted opening_disk stored on_elect renewed led
  answer_16 = deliver_answer small_group g15 18 (packet 1 2 2 (Accept five)) false c3 _ refl refl rule_16 room_16

  answer_15 : answer_to small_group g14 (Submit 1 (write_at 5 fifth)) ≡ SlotIs 2
  unfolding opening first_leader acted settled restarted opening_disk stored on_elect renewed led range_of
  answer_15 = submit_answer small_group g14 1 (write_at 5 fifth) b5 _ refl refl refl refl refl rule_15 room_15

  answer_14 : answer_to small_group g13 (Finish 1 0 1) ≡ Done
  unfolding opening first_leader acted settled restarted opening_disk stored on_elect renewed led
  answer_14 = finish_answer small_group g13 1 0 1 (claimed b4 1) _ refl rule_14

  answer_13 : answer_to small_group g12 Claim ≡ JobIs (record { server = 1; life = 0; slot = 1; op = write_at 0 first })
  unfolding opening first_leader acted settled restarted opening_disk stored on_elect renewed led
  answer_13 = claim_answer_1 small_group g12 refl b4 1 refl claim_13 ∙ ap (λ x. JobIs (record { server = 1; life = 0; slot = 1; op = x })) op_13

  answer_12 : answer_to small_group g11 (Deliver 15) ≡ Done
  unfolding opening first_leader acted settled restarted opening_disk stored on_elect renewed led
  answer_12 = deliver_answer small_group g11 15 (packet 2 1 2 (Ack 1 0)) false b3 _ refl refl rule_12 room_12

  answer_11 : answer_to small_group g10 (Deliver 14) ≡ Done
  unfolding opening first_leader acted settled restarted opening_disk stored on_elect renewed led
  answer_11 = deliver_answer small_group g10 14 (packet 1 2 2 (Accept m2_1)) false c2 _ refl refl rule_11 room_11

  answer_10 : answer_to small_group g9 (Deliver 12) ≡ Done
  unfolding opening first_leader acted settled restarted opening_disk stored on_elect renewed led
  answer_10 = deliver_answer small_group g9 12 (packet 2 1 2 (Vote (vote_of c1.durable))) false b2 _ refl refl rule_10 room_10

  answer_9 : answer_to small_group g8 (Deliver 11) ≡ Done
  unfolding opening first_leader acted settled restarted opening_disk stored on_elect renewed led
  answer_9 = deliver_answer small_group g8 11 (packet 1 2 2 (RequestVote 0)) false c1 _ refl refl rule_9 room_9

  answer_8 : answer_to small_group g7 (Elect 1) ≡ TermIs 2
  unfolding opening first_leader acted settled restarted opening_disk stored on_elect renewed led most_elections
  answer_8 = elect_answer small_group g7 1 b1 _ refl refl rule_8 room_8

  answer_7 : answer_to small_group g6 (Stop 0) ≡ Done
  unfolding answer_to opening first_leader acted settled restarted opening_disk stored on_elect renewed led
  answer_7 = refl

  answer_6 : answer_to small_group g5 (Deliver 1) ≡ Done
  unfolding opening first_leader acted settled restarted opening_disk stored on_elect renewed led
  answer_6 = deliver_answer small_group g5 1 (packet 0 2 1 (Accept one)) false c0 _ refl refl rule_6 room_6

  answer_5 : answer_to small_group g4 (Deliver 0) ≡ Done
  unfolding opening first_leader acted settled restarted opening_disk stored on_elect renewed led
  answer_5 = deliver_answer small_group g4 0 (packet 0 1 1 (Accept one)) false b0 _ refl refl rule_5 room_5

  answer_4 : answer_to small_group g3 (Submit 0 (write_at 3 fourth)) ≡ SlotIs 4
  unfolding opening first_leader acted settled restarted opening_disk stored on_elect renewed led range_of
  answer_4 = submit_answer small_group g3 0 (write_at 3 fourth) a3 _ refl refl refl refl refl rule_4 room_4

  answer_3 : answer_to small_group g2 (Submit 0 (write_at 2 third)) ≡ SlotIs 3
  unfolding opening first_leader acted settled restarted opening_disk stored on_elect renewed led range_of
  answer_3 = submit_answer small_group g2 0 (write_at 2 third) a2 _ refl refl refl refl refl rule_3 room_3

  answer_2 : answer_to small_group g1 (Submit 0 (write_at 1 second)) ≡ SlotIs 2
  unfolding opening first_leader acted settled restarted opening_disk stored on_elect renewed led range_of
  answer_2 = submit_answer small_group g1 0 (write_at 1 second) a1 _ refl refl refl refl refl rule_2 room_2

  answer_1 : answer_to small_group g0 (Submit 0 (write_at 0 first)) ≡ SlotIs 1
  unfolding opening first_leader acted settled restarted opening_disk stored on_elect renewed led range_of
  answer_1 = submit_answer small_group g0 0 (write_at 0 first) a0 _ refl refl refl refl refl rule_1 room_1

  acked_last : g28.acked ≡ record { term = 2; slot = 2 } ∷ []
  unfolding opening first_leader acted settled restarted opening_disk stored on_elect renewed led
  acked_last = refl

  shown_0 : ServerShows g28 0 3 0 (line 1 3 (write_at 0 first) false ∷ line 2 3 (write_at 5 fifth) false ∷ line 3 1 (write_at 2 third) false ∷ line 4 1 (write_at 3 fourth) false ∷ []) ([])
  unfolding opening first_leader acted settled restarted opening_disk stored on_elect renewed led put_entry put_entries
  shown_0 = record { server = a8; runs = refl; its_term = refl; its_base = refl; its_log = simp (entries-insert, empty_rows, gets); its_applied = simp empty_rows }

  replayed_before : replay small_group (until_the_merge first second third fourth fifth sixth) ≡ g23
  replayed_before = rw (e1, e2, e3, e4, e5, e6, e7, e8, e9, e10, e11, e12, e13, e14, e15, e16, e17, e18, e19, e20, e21, e22, e23)

  shown_before : ServerShows g23 1 3 0 (line 1 3 (write_at 0 first) true ∷ line 2 3 (write_at 5 fifth) true ∷ []) (1 ∷ 2 ∷ [])
  unfolding opening first_leader acted settled restarted opening_disk stored on_elect renewed led put_entry put_entries
  shown_before = record { server = b10; runs = refl; its_term = refl; its_base = refl; its_log = simp (entries-insert, empty_rows, gets); its_applied = simp (entries-insert, empty_rows, nat_cmp_total) }

  pub shows : PassesOver first second third fourth fifth sixth
  shows = record { calm = ap (λ (g : Group). answer_to small_group g Claim) replayed_0 ∙ calm; acked = ap (λ (g : Group). g.acked) replayed_0 ∙ acked_last; shown_0 = rw replayed_0 shown_0; before = rw replayed_before shown_before }

  -- with whole sectors the history is one that the group can have
  module _ (length_first : IsSector first) (length_second : IsSector second) (length_third : IsSector third) (length_fourth : IsSector fourth) (length_fifth : IsSector fifth) (length_sixth : IsSector sixth) where
    legal_28 : IsLegalFrom small_group g28 ([]) rest_28
    legal_28 = tt

    legal_27 : IsLegalFrom small_group g27 ([]) rest_27
    legal_27 = goes_on small_group g27 g28 ([]) (so (Submit 1 (write_at 6 sixth)) (SlotIs 3)) rest_28 (omega arith, (record { some = omega arith; few = omega arith; low = omega arith }, refl, (length_sixth, tt))) answer_28 e28 legal_28

    legal_26 : IsLegalFrom small_group g26 ([]) rest_26
    legal_26 = goes_on small_group g26 g27 ([]) (so (Deliver 29) Done) rest_27 tt answer_27 e27 legal_27

    legal_25 : IsLegalFrom small_group g25 ([]) rest_25
    legal_25 = goes_on small_group g25 g26 ([]) (so (Deliver 28) Done) rest_26 tt answer_26 e26 legal_26

    legal_24 : IsLegalFrom small_group g24 ([]) rest_24
    legal_24 = goes_on small_group g24 g25 ([]) (so (Deliver 26) Done) rest_25 tt answer_25 e25 legal_25

    legal_23 : IsLegalFrom small_group g23 ([]) rest_23
    legal_23 = goes_on small_group g23 g24 ([]) (so (Deliver 24) Done) rest_24 tt answer_24 e24 legal_24

    legal_22 : IsLegalFrom small_group g22 ([]) rest_22
    legal_22 = goes_on small_group g22 g23 ([]) (so (Deliver 23) Done) rest_23 tt answer_23 e23 legal_23

    legal_21 : IsLegalFrom small_group g21 ([]) rest_21
    legal_21 = goes_on small_group g21 g22 ([]) (so (Deliver 21) Done) rest_22 tt answer_22 e22 legal_22

    legal_20 : IsLegalFrom small_group g20 ([]) rest_20
    legal_20 = goes_on small_group g20 g21 ([]) (so (Elect 1) (TermIs 3)) rest_21 (omega arith) answer_21 e21 legal_21

    legal_19 : IsLegalFrom small_group g19 ([]) rest_19
    legal_19 = goes_on small_group g19 g20 ([]) (so (Restart 0 false) Done) rest_20 (omega arith) answer_20 e20 legal_20

    legal_18 : IsLegalFrom small_group g18 (record { server = 1; life = 0; slot = 2; op = write_at 5 fifth } ∷ []) rest_18
    legal_18 = goes_on small_group g18 g19 (record { server = 1; life = 0; slot = 2; op = write_at 5 fifth } ∷ []) (so (Finish 1 0 2) Done) rest_19 refl answer_19 e19 legal_19

    legal_17 : IsLegalFrom small_group g17 ([]) rest_17
    legal_17 = goes_on small_group g17 g18 ([]) (so Claim (JobIs (record { server = 1; life = 0; slot = 2; op = write_at 5 fifth }))) rest_18 tt answer_18 e18 legal_18

    legal_16 : IsLegalFrom small_group g16 ([]) rest_16
    legal_16 = goes_on small_group g16 g17 ([]) (so (Deliver 19) Done) rest_17 tt answer_17 e17 legal_17

    legal_15 : IsLegalFrom small_group g15 ([]) rest_15
    legal_15 = goes_on small_group g15 g16 ([]) (so (Deliver 18) Done) rest_16 tt answer_16 e16 legal_16

    legal_14 : IsLegalFrom small_group g14 ([]) rest_14
    legal_14 = goes_on small_group g14 g15 ([]) (so (Submit 1 (write_at 5 fifth)) (SlotIs 2)) rest_15 (omega arith, (record { some = omega arith; few = omega arith; low = omega arith }, refl, (length_fifth, tt))) answer_15 e15 legal_15

    legal_13 : IsLegalFrom small_group g13 (record { server = 1; life = 0; slot = 1; op = write_at 0 first } ∷ []) rest_13
    legal_13 = goes_on small_group g13 g14 (record { server = 1; life = 0; slot = 1; op = write_at 0 first } ∷ []) (so (Finish 1 0 1) Done) rest_14 refl answer_14 e14 legal_14

    legal_12 : IsLegalFrom small_group g12 ([]) rest_12
    legal_12 = goes_on small_group g12 g13 ([]) (so Claim (JobIs (record { server = 1; life = 0; slot = 1; op = write_at 0 first }))) rest_13 tt answer_13 e13 legal_13

    legal_11 : IsLegalFrom small_group g11 ([]) rest_11
    legal_11 = goes_on small_group g11 g12 ([]) (so (Deliver 15) Done) rest_12 tt answer_12 e12 legal_12

    legal_10 : IsLegalFrom small_group g10 ([]) rest_10
    legal_10 = goes_on small_group g10 g11 ([]) (so (Deliver 14) Done) rest_11 tt answer_11 e11 legal_11

    legal_9 : IsLegalFrom small_group g9 ([]) rest_9
    legal_9 = goes_on small_group g9 g10 ([]) (so (Deliver 12) Done) rest_10 tt answer_10 e10 legal_10

    legal_8 : IsLegalFrom small_group g8 ([]) rest_8
    legal_8 = goes_on small_group g8 g9 ([]) (so (Deliver 11) Done) rest_9 tt answer_9 e9 legal_9

    legal_7 : IsLegalFrom small_group g7 ([]) rest_7
    legal_7 = goes_on small_group g7 g8 ([]) (so (Elect 1) (TermIs 2)) rest_8 (omega arith) answer_8 e8 legal_8

    legal_6 : IsLegalFrom small_group g6 ([]) rest_6
    legal_6 = goes_on small_group g6 g7 ([]) (so (Stop 0) Done) rest_7 (omega arith) answer_7 e7 legal_7

    legal_5 : IsLegalFrom small_group g5 ([]) rest_5
    legal_5 = goes_on small_group g5 g6 ([]) (so (Deliver 1) Done) rest_6 tt answer_6 e6 legal_6

    legal_4 : IsLegalFrom small_group g4 ([]) rest_4
    legal_4 = goes_on small_group g4 g5 ([]) (so (Deliver 0) Done) rest_5 tt answer_5 e5 legal_5

    legal_3 : IsLegalFrom small_group g3 ([]) rest_3
    legal_3 = goes_on small_group g3 g4 ([]) (so (Submit 0 (write_at 3 fourth)) (SlotIs 4)) rest_4 (omega arith, (record { some = omega arith; few = omega arith; low = omega arith }, refl, (length_fourth, tt))) answer_4 e4 legal_4

    legal_2 : IsLegalFrom small_group g2 ([]) rest_2
    legal_2 = goes_on small_group g2 g3 ([]) (so (Submit 0 (write_at 2 third)) (SlotIs 3)) rest_3 (omega arith, (record { some = omega arith; few = omega arith; low = omega arith }, refl, (length_third, tt))) answer_3 e3 legal_3

    legal_1 : IsLegalFrom small_group g1 ([]) rest_1
    legal_1 = goes_on small_group g1 g2 ([]) (so (Submit 0 (write_at 1 second)) (SlotIs 2)) rest_2 (omega arith, (record { some = omega arith; few = omega arith; low = omega arith }, refl, (length_second, tt))) answer_2 e2 legal_2

    legal_0 : IsLegalFrom small_group g0 ([]) rest_0
    legal_0 = goes_on small_group g0 g1 ([]) (so (Submit 0 (write_at 0 first)) (SlotIs 1)) rest_1 (omega arith, (record { some = omega arith; few = omega arith; low = omega arith }, refl, (length_first, tt))) answer_1 e1 legal_1

    pub legal : IsLegal small_group (ghost_slots first second third fourth fifth sixth)
    legal = record { is_setup = is_small_group; legal = legal_0 }
