-- A start outlives its entry, event by event.
use Rattle.std.proofs.Common.{◌≡◌, ℕ, true, false, [], ◌∷◌, Some, None, refl, ap, ◌∙◌, arith}
use Rattle.std.specs.Prelude.{slice_set}
use Rattle.std.specs.FinMap
use Rattle.std.specs.FinMap.{gets, entries-insert}
use Rattle.pf_entry.specs.Sets
use Rattle.pf_entry.specs.Applying.{is_free}
use Rattle.pf_entry.specs.Ops.{Sector, range_of}
use Rattle.pf_entry.specs.declared.ops.Op.TheVariants.{Noop}
use Rattle.pf_entry.specs.declared.entries.Entry.{Entry}
use Rattle.pf_entry.specs.declared.packets.Packet.{Packet}
use Rattle.pf_entry.specs.declared.packets.Body.{Body}
use Rattle.pf_entry.specs.declared.packets.Body.TheVariants.{RequestVote, Vote, Accept, Ack, Commit}
use Rattle.pf_entry.specs.declared.records.Record.TheVariants.{Entry as EntryRecord, Term as TermRecord, Merged as MergedRecord}
use Rattle.pf_entry.specs.Records.{stored, put_entry, put_entries, add_start, add_merged_start, holds, vote_of}
use Rattle.pf_entry.specs.Voids.{is_void}
use Rattle.pf_entry.specs.Merging.{merged_first, merged_entry, merged_entries, merged_op, op_or_noop, taken, left_of, higher}
use Rattle.pf_entry.specs.Sizes.{packet_size, body_size}
use Rattle.pf_protocol.specs.declared.answers.Answer.TheVariants.{Slot as SlotIs, Term as TermIs, Done, Job as JobIs, Refused}
use Rattle.pf_protocol.specs.declared.answers.Refusal.TheVariants.{NoneFree}
use Rattle.pf_protocol.specs.declared.events.Event.TheVariants.{Submit, Deliver, Elect, Stop, Restart, Claim, Finish}
use Rattle.pf_protocol.specs.Servers.{Leader, Server, Candidate, Merging, Serving, Running, Stopped, upto}
use Rattle.pf_protocol.specs.Outcomes.{Outcome, sends}
use Rattle.pf_protocol.specs.Leading.{on_submit, submitted, new_entry, look_behind, op_at, acknowledged, all_acknowledged, on_elect, on_vote, merged, led, on_ack, counted, commit_own}
use Rattle.pf_protocol.specs.Following.{on_request_vote, on_accept, accepted}
use Rattle.pf_protocol.specs.Saving.{restarted, renewed, is_claimable, claimable, claimed, on_finish, applied_op, changed, snapshots_after}
use Rattle.pf_protocol.specs.Rows.{on_message, on_packet, settled}
use Rattle.pf_protocol.specs.Groups.{Group, Whole, opening, first_leader, opening_disk, happens, acted, with_sent}
use Rattle.pf_protocol.specs.Histories.{History, run}
use Rattle.pf_protocol.specs.Answers.{answer_to, room_refusal, most_packets, most_packet_bytes, half_size, most_elections, IsLegal, IsLegalFrom}
use Rattle.pf_protocol.specs.Shown.{ServerShows, small_group, write_at, IsSector, line, so}
use Rattle.pf_protocol.proofs.Replays.{empty_rows, submits, delivers, elects, claims_at_1, finishes, first_is, third_is, none_marked, none_of, follows}
use Rattle.pf_protocol.proofs.WorkedAnswers.{submit_answer, deliver_answer, elect_answer, finish_answer, claim_answer_1, claim_answer_none, goes_on, is_small_group}
use Rattle.pf_protocol.specs.KeptStarts.{kept_start, KeepsStart}

-- the states of the servers 0, 1 and 2 are a, b and c, each with its number; l are records of leaders, and g are the group after each event
module _ (first second third fourth : Sector) where
  abbrev packet : (from to term : ℕ) → Body → Packet
  packet from to term body = record { from = from; to = to; term = term; body = body }

  abbrev heard : Group → (k from to term : ℕ) → Body → Outcome → Group
  heard g k from to term body o = acted (with_sent g k (record { packet = packet from to term body; delivered = true; lost = false })) to o

  abbrev l0 : Leader
  l0 = record { first = 1; next = 1; b0 = 0; acks = FinMap.empty; known = FinMap.empty }

  abbrev a0 : Server
  a0 = record (restarted 0 0 (opening_disk small_group)) { role = Serving l0 }

  abbrev b0 : Server
  b0 = restarted 1 0 (opening_disk small_group)

  abbrev c0 : Server
  c0 = restarted 2 0 (opening_disk small_group)

  abbrev g0 : Group
  g0 = opening small_group

  -- 1. server 0 takes a submission
  abbrev one : Entry
  one = record { slot = 1; term = 1; first = 1; look = []; op = write_at 0 first }

  abbrev l1 : Leader
  l1 = record l0 { next = 2; acks = acknowledged l0.acks 0 1 }

  abbrev a1 : Server
  a1 = record a0 { durable = stored a0.durable (EntryRecord one); role = Serving l1 }

  rule_1 : on_submit small_group a0 (write_at 0 first) (Serving l0) ≡ record { server = a1; packets = packet 0 1 1 (Accept one) ∷ packet 0 2 1 (Accept one) ∷ []; answer = SlotIs 1; acked = None }
  unfolding on_submit submitted new_entry look_behind restarted opening_disk stored op_at range_of put_entry put_entries led
  rule_1 = refl

  room_1 : room_refusal g0 (record { server = a1; packets = packet 0 1 1 (Accept one) ∷ packet 0 2 1 (Accept one) ∷ []; answer = SlotIs 1; acked = None }) ≡ None
  unfolding room_refusal most_packets most_packet_bytes half_size packet_size body_size opening first_leader restarted opening_disk stored acted settled put_entry put_entries add_start add_merged_start on_elect renewed led
  room_1 = simp (empty_rows, gets)

  abbrev g1 : Group
  g1 = acted g0 0 (record { server = a1; packets = packet 0 1 1 (Accept one) ∷ packet 0 2 1 (Accept one) ∷ []; answer = SlotIs 1; acked = None })

  e1 : happens small_group g0 (Submit 0 (write_at 0 first)) Whole ≡ g1
  unfolding opening first_leader acted settled restarted opening_disk stored on_elect renewed led
  e1 = submits small_group g0 0 (write_at 0 first) a0 _ refl rule_1

  -- 2. server 0 takes a submission
  abbrev two : Entry
  two = record { slot = 2; term = 1; first = 1; look = record { slot = 1; range = record { first = 0; count = 1 } } ∷ []; op = write_at 5 second }

  abbrev l2 : Leader
  l2 = record l1 { next = 3; acks = acknowledged l1.acks 0 2 }

  abbrev a2 : Server
  a2 = record a1 { durable = stored a1.durable (EntryRecord two); role = Serving l2 }

  rule_2 : on_submit small_group a1 (write_at 5 second) (Serving l1) ≡ record { server = a2; packets = packet 0 1 1 (Accept two) ∷ packet 0 2 1 (Accept two) ∷ []; answer = SlotIs 2; acked = None }
  unfolding on_submit submitted new_entry look_behind restarted opening_disk stored op_at range_of put_entry put_entries led
  rule_2 = simp gets

  room_2 : room_refusal g1 (record { server = a2; packets = packet 0 1 1 (Accept two) ∷ packet 0 2 1 (Accept two) ∷ []; answer = SlotIs 2; acked = None }) ≡ None
  unfolding room_refusal most_packets most_packet_bytes half_size packet_size body_size opening first_leader restarted opening_disk stored acted settled put_entry put_entries add_start add_merged_start on_elect renewed led
  room_2 = simp (empty_rows, gets)

  abbrev g2 : Group
  g2 = acted g1 0 (record { server = a2; packets = packet 0 1 1 (Accept two) ∷ packet 0 2 1 (Accept two) ∷ []; answer = SlotIs 2; acked = None })

  e2 : happens small_group g1 (Submit 0 (write_at 5 second)) Whole ≡ g2
  unfolding opening first_leader acted settled restarted opening_disk stored on_elect renewed led
  e2 = submits small_group g1 0 (write_at 5 second) a1 _ refl rule_2

  -- 3. a proposal from server 0 comes to server 2
  abbrev c1 : Server
  c1 = record c0 { durable = stored c0.durable (EntryRecord one) }

  rule_3 : on_packet small_group c0 (packet 0 2 1 (Accept one)) ≡ sends c1 (packet 2 0 1 (Ack 1 0) ∷ [])
  unfolding on_packet on_message on_accept accepted restarted opening_disk stored put_entry put_entries holds upto
  rule_3 = simp gets

  room_3 : room_refusal g2 (sends c1 (packet 2 0 1 (Ack 1 0) ∷ [])) ≡ None
  unfolding room_refusal most_packets most_packet_bytes half_size packet_size body_size opening first_leader restarted opening_disk stored acted settled put_entry put_entries add_start add_merged_start on_elect renewed led
  room_3 = simp (empty_rows, gets)

  abbrev g3 : Group
  g3 = heard g2 1 0 2 1 (Accept one) (sends c1 (packet 2 0 1 (Ack 1 0) ∷ []))

  e3 : happens small_group g2 (Deliver 1) Whole ≡ g3
  unfolding opening first_leader acted settled restarted opening_disk stored on_elect renewed led
  e3 = delivers small_group g2 1 (packet 0 2 1 (Accept one)) false c0 _ refl refl rule_3

  -- 4. server 0 stops
  abbrev g4 : Group
  g4 = record g3 { servers = slice_set g3.servers 0 (Stopped 1 a2.durable a2.durable) }

  e4 : happens small_group g3 (Stop 0) Whole ≡ g4
  unfolding happens opening first_leader acted settled restarted opening_disk stored on_elect renewed led
  e4 = refl

  -- 5. server 1 stands for election
  abbrev b1 : Server
  b1 = record b0 { durable = stored b0.durable (TermRecord 2); role = Candidate (vote_of b0.durable) }

  rule_5 : on_elect b0 ≡ record { server = b1; packets = packet 1 0 2 (RequestVote 0) ∷ packet 1 2 2 (RequestVote 0) ∷ []; answer = TermIs 2; acked = None }
  unfolding on_elect restarted opening_disk stored
  rule_5 = refl

  room_5 : room_refusal g4 (record { server = b1; packets = packet 1 0 2 (RequestVote 0) ∷ packet 1 2 2 (RequestVote 0) ∷ []; answer = TermIs 2; acked = None }) ≡ None
  unfolding room_refusal most_packets most_packet_bytes half_size packet_size body_size opening first_leader restarted opening_disk stored acted settled put_entry put_entries add_start add_merged_start on_elect renewed led
  room_5 = simp (empty_rows, gets)

  abbrev g5 : Group
  g5 = acted (record g4 { elections = 1 }) 1 (record { server = b1; packets = packet 1 0 2 (RequestVote 0) ∷ packet 1 2 2 (RequestVote 0) ∷ []; answer = TermIs 2; acked = None })

  e5 : happens small_group g4 (Elect 1) Whole ≡ g5
  unfolding opening first_leader acted settled restarted opening_disk stored on_elect renewed led
  e5 = elects small_group g4 1 b0 _ refl rule_5

  -- 6. a request for a vote from server 1 comes to server 2
  abbrev c2 : Server
  c2 = record c1 { durable = stored c1.durable (TermRecord 2) }

  rule_6 : on_packet small_group c1 (packet 1 2 2 (RequestVote 0)) ≡ sends c2 (packet 2 1 2 (Vote (vote_of c1.durable)) ∷ [])
  unfolding on_packet on_message on_request_vote restarted opening_disk stored
  rule_6 = refl

  room_6 : room_refusal g5 (sends c2 (packet 2 1 2 (Vote (vote_of c1.durable)) ∷ [])) ≡ None
  unfolding room_refusal most_packets most_packet_bytes half_size packet_size body_size opening first_leader restarted opening_disk stored acted settled put_entry put_entries add_start add_merged_start on_elect renewed led
  room_6 = simp (empty_rows, entries-insert, gets)

  abbrev g6 : Group
  g6 = heard g5 6 1 2 2 (RequestVote 0) (sends c2 (packet 2 1 2 (Vote (vote_of c1.durable)) ∷ []))

  e6 : happens small_group g5 (Deliver 6) Whole ≡ g6
  unfolding opening first_leader acted settled restarted opening_disk stored on_elect renewed led
  e6 = delivers small_group g5 6 (packet 1 2 2 (RequestVote 0)) false c1 _ refl refl rule_6

  -- 7. a vote from server 2 comes to server 1
  abbrev m2_1 : Entry
  m2_1 = record { slot = 1; term = 2; first = 2; look = []; op = write_at 0 first }

  first_7 : merged_first 0 (vote_of b0.durable) (vote_of c1.durable) ≡ 2
  unfolding merged_first merged_entries taken left_of higher is_void restarted opening_disk stored put_entry put_entries add_start add_merged_start
  first_7 = simp (entries-insert, empty_rows, gets)

  made_7_1 : merged_entry 2 0 (vote_of b0.durable) (vote_of c1.durable) 1 ≡ m2_1
  unfolding merged_entry merged_op op_or_noop taken left_of higher is_void restarted opening_disk stored put_entry put_entries add_start add_merged_start
  made_7_1 = rw first_7 (simp (entries-insert, empty_rows, gets))

  merge_7 : merged_entries 2 0 (vote_of b0.durable) (vote_of c1.durable) ≡ m2_1 ∷ []
  unfolding merged_entries
  merge_7 = rw (first_7, made_7_1) refl

  abbrev l3 : Leader
  l3 = led 0 2 2 1

  abbrev b2 : Server
  b2 = record b1 { durable = stored b1.durable (MergedRecord 2 2 (m2_1 ∷ [])); role = Merging l3 }

  rule_7 : on_packet small_group b1 (packet 2 1 2 (Vote (vote_of c1.durable))) ≡ sends b2 (packet 1 0 2 (Accept m2_1) ∷ packet 1 2 2 (Accept m2_1) ∷ [])
  unfolding on_packet on_message on_vote merged led restarted opening_disk stored
  rule_7 = rw (first_7, merge_7) refl

  room_7 : room_refusal g6 (sends b2 (packet 1 0 2 (Accept m2_1) ∷ packet 1 2 2 (Accept m2_1) ∷ [])) ≡ None
  unfolding room_refusal most_packets most_packet_bytes half_size packet_size body_size opening first_leader restarted opening_disk stored acted settled put_entry put_entries add_start add_merged_start on_elect renewed led
  room_7 = simp (empty_rows, entries-insert, gets)

  abbrev g7 : Group
  g7 = heard g6 7 2 1 2 (Vote (vote_of c1.durable)) (sends b2 (packet 1 0 2 (Accept m2_1) ∷ packet 1 2 2 (Accept m2_1) ∷ []))

  e7 : happens small_group g6 (Deliver 7) Whole ≡ g7
  unfolding opening first_leader acted settled restarted opening_disk stored on_elect renewed led
  e7 = delivers small_group g6 7 (packet 2 1 2 (Vote (vote_of c1.durable))) false b1 _ refl refl rule_7

  -- 8. a proposal from server 1 comes to server 2
  abbrev c3 : Server
  c3 = record c2 { durable = stored c2.durable (EntryRecord m2_1) }

  rule_8 : on_packet small_group c2 (packet 1 2 2 (Accept m2_1)) ≡ sends c3 (packet 2 1 2 (Ack 1 0) ∷ [])
  unfolding on_packet on_message on_accept accepted restarted opening_disk stored put_entry put_entries holds upto
  rule_8 = simp gets

  room_8 : room_refusal g7 (sends c3 (packet 2 1 2 (Ack 1 0) ∷ [])) ≡ None
  unfolding room_refusal most_packets most_packet_bytes half_size packet_size body_size opening first_leader restarted opening_disk stored acted settled put_entry put_entries add_start add_merged_start on_elect renewed led
  room_8 = simp (empty_rows, entries-insert, gets)

  abbrev g8 : Group
  g8 = heard g7 9 1 2 2 (Accept m2_1) (sends c3 (packet 2 1 2 (Ack 1 0) ∷ []))

  e8 : happens small_group g7 (Deliver 9) Whole ≡ g8
  unfolding opening first_leader acted settled restarted opening_disk stored on_elect renewed led
  e8 = delivers small_group g7 9 (packet 1 2 2 (Accept m2_1)) false c2 _ refl refl rule_8

  -- 9. an acknowledgement from server 2 comes to server 1
  abbrev l4 : Leader
  l4 = record l3 { known = FinMap.insert l3.known 2 0; acks = acknowledged l3.acks 2 1 }

  abbrev b3 : Server
  b3 = record b2 { role = Serving l4; committed = Sets.insert b2.committed 1 }

  rule_9 : on_packet small_group b2 (packet 2 1 2 (Ack 1 0)) ≡ record { server = b3; packets = packet 1 2 2 (Commit 1) ∷ []; answer = Done; acked = None }
  unfolding on_packet on_message on_ack commit_own counted acknowledged restarted opening_disk stored put_entry put_entries holds led all_acknowledged
  rule_9 = simp gets

  room_9 : room_refusal g8 (record { server = b3; packets = packet 1 2 2 (Commit 1) ∷ []; answer = Done; acked = None }) ≡ None
  unfolding room_refusal most_packets most_packet_bytes half_size packet_size body_size opening first_leader restarted opening_disk stored acted settled put_entry put_entries add_start add_merged_start on_elect renewed led
  room_9 = simp (empty_rows, entries-insert, gets)

  abbrev g9 : Group
  g9 = heard g8 10 2 1 2 (Ack 1 0) (record { server = b3; packets = packet 1 2 2 (Commit 1) ∷ []; answer = Done; acked = None })

  e9 : happens small_group g8 (Deliver 10) Whole ≡ g9
  unfolding opening first_leader acted settled restarted opening_disk stored on_elect renewed led
  e9 = delivers small_group g8 10 (packet 2 1 2 (Ack 1 0)) false b2 _ refl refl rule_9

  -- 10 and 11. server 1 applies slot 1
  claim_10 : claimable 4096 b3 ≡ Some 1
  unfolding settled restarted opening_disk stored put_entry put_entries is_free range_of merged_entry
  claim_10 = first_is b3 4095 (simp gets)

  op_10 : op_at b3.durable.log 1 ≡ write_at 0 first
  unfolding settled restarted opening_disk stored put_entry put_entries is_free range_of merged_entry op_at
  op_10 = simp gets

  abbrev g10 : Group
  g10 = record g9 { servers = slice_set g9.servers 1 (Running (claimed b3 1)) }

  e10 : happens small_group g9 Claim Whole ≡ g10
  unfolding opening first_leader acted settled restarted opening_disk stored on_elect renewed led
  e10 = claims_at_1 small_group g9 refl b3 1 refl claim_10

  abbrev b4 : Server
  b4 = record b3 { in_hand = FinMap.remove (FinMap.insert b3.in_hand 1 (write_at 0 first)) 1; applied = Sets.insert b3.applied 1; sectors = changed (write_at 0 first) b3.sectors }

  rule_11 : on_finish (claimed b3 1) 0 1 ≡ sends b4 []
  unfolding on_finish applied_op claimed op_at restarted opening_disk stored put_entry put_entries snapshots_after
  rule_11 = simp gets

  abbrev g11 : Group
  g11 = acted g10 1 (sends b4 [])

  e11 : happens small_group g10 (Finish 1 0 1) Whole ≡ g11
  unfolding opening first_leader acted settled restarted opening_disk stored on_elect renewed led
  e11 = finishes small_group g10 1 0 1 (claimed b3 1) _ refl rule_11

  -- 12. server 1 takes a submission
  abbrev three : Entry
  three = record { slot = 2; term = 2; first = 2; look = record { slot = 1; range = record { first = 0; count = 1 } } ∷ []; op = write_at 6 third }

  abbrev l5 : Leader
  l5 = record l4 { next = 3; acks = acknowledged l4.acks 1 2 }

  abbrev b5 : Server
  b5 = record b4 { durable = stored b4.durable (EntryRecord three); role = Serving l5 }

  rule_12 : on_submit small_group b4 (write_at 6 third) (Serving l4) ≡ record { server = b5; packets = packet 1 0 2 (Accept three) ∷ packet 1 2 2 (Accept three) ∷ []; answer = SlotIs 2; acked = None }
  unfolding on_submit submitted new_entry look_behind restarted opening_disk stored op_at range_of put_entry put_entries led
  rule_12 = simp gets

  room_12 : room_refusal g11 (record { server = b5; packets = packet 1 0 2 (Accept three) ∷ packet 1 2 2 (Accept three) ∷ []; answer = SlotIs 2; acked = None }) ≡ None
  unfolding room_refusal most_packets most_packet_bytes half_size packet_size body_size opening first_leader restarted opening_disk stored acted settled put_entry put_entries add_start add_merged_start on_elect renewed led
  room_12 = simp (empty_rows, entries-insert, gets)

  abbrev g12 : Group
  g12 = acted g11 1 (record { server = b5; packets = packet 1 0 2 (Accept three) ∷ packet 1 2 2 (Accept three) ∷ []; answer = SlotIs 2; acked = None })

  e12 : happens small_group g11 (Submit 1 (write_at 6 third)) Whole ≡ g12
  unfolding opening first_leader acted settled restarted opening_disk stored on_elect renewed led
  e12 = submits small_group g11 1 (write_at 6 third) b4 _ refl rule_12

  -- 13. server 1 takes a submission
  abbrev four : Entry
  four = record { slot = 3; term = 2; first = 2; look = record { slot = 1; range = record { first = 0; count = 1 } } ∷ record { slot = 2; range = record { first = 6; count = 1 } } ∷ []; op = write_at 5 fourth }

  abbrev l6 : Leader
  l6 = record l5 { next = 4; acks = acknowledged l5.acks 1 3 }

  abbrev b6 : Server
  b6 = record b5 { durable = stored b5.durable (EntryRecord four); role = Serving l6 }

  rule_13 : on_submit small_group b5 (write_at 5 fourth) (Serving l5) ≡ record { server = b6; packets = packet 1 0 2 (Accept four) ∷ packet 1 2 2 (Accept four) ∷ []; answer = SlotIs 3; acked = None }
  unfolding on_submit submitted new_entry look_behind restarted opening_disk stored op_at range_of put_entry put_entries led
  rule_13 = simp gets

  room_13 : room_refusal g12 (record { server = b6; packets = packet 1 0 2 (Accept four) ∷ packet 1 2 2 (Accept four) ∷ []; answer = SlotIs 3; acked = None }) ≡ None
  unfolding room_refusal most_packets most_packet_bytes half_size packet_size body_size opening first_leader restarted opening_disk stored acted settled put_entry put_entries add_start add_merged_start on_elect renewed led
  room_13 = simp (empty_rows, entries-insert, gets)

  abbrev g13 : Group
  g13 = acted g12 1 (record { server = b6; packets = packet 1 0 2 (Accept four) ∷ packet 1 2 2 (Accept four) ∷ []; answer = SlotIs 3; acked = None })

  e13 : happens small_group g12 (Submit 1 (write_at 5 fourth)) Whole ≡ g13
  unfolding opening first_leader acted settled restarted opening_disk stored on_elect renewed led
  e13 = submits small_group g12 1 (write_at 5 fourth) b5 _ refl rule_13

  -- 14. a proposal from server 1 comes to server 2
  abbrev c4 : Server
  c4 = record c3 { durable = stored c3.durable (EntryRecord four) }

  rule_14 : on_packet small_group c3 (packet 1 2 2 (Accept four)) ≡ sends c4 (packet 2 1 2 (Ack 3 0) ∷ [])
  unfolding on_packet on_message on_accept accepted restarted opening_disk stored put_entry put_entries holds upto
  rule_14 = simp gets

  room_14 : room_refusal g13 (sends c4 (packet 2 1 2 (Ack 3 0) ∷ [])) ≡ None
  unfolding room_refusal most_packets most_packet_bytes half_size packet_size body_size opening first_leader restarted opening_disk stored acted settled put_entry put_entries add_start add_merged_start on_elect renewed led
  room_14 = simp (empty_rows, entries-insert, gets)

  abbrev g14 : Group
  g14 = heard g13 15 1 2 2 (Accept four) (sends c4 (packet 2 1 2 (Ack 3 0) ∷ []))

  e14 : happens small_group g13 (Deliver 15) Whole ≡ g14
  unfolding opening first_leader acted settled restarted opening_disk stored on_elect renewed led
  e14 = delivers small_group g13 15 (packet 1 2 2 (Accept four)) false c3 _ refl refl rule_14

  -- 15. an acknowledgement from server 2 comes to server 1
  abbrev l7 : Leader
  l7 = record l6 { known = FinMap.insert l6.known 2 0; acks = acknowledged l6.acks 2 3 }

  abbrev b7 : Server
  b7 = record b6 { role = Serving l7; committed = Sets.insert b6.committed 3 }

  rule_15 : on_packet small_group b6 (packet 2 1 2 (Ack 3 0)) ≡ record { server = b7; packets = packet 1 2 2 (Commit 3) ∷ []; answer = Done; acked = Some 3 }
  unfolding on_packet on_message on_ack commit_own counted acknowledged restarted opening_disk stored put_entry put_entries holds led all_acknowledged
  rule_15 = simp gets

  room_15 : room_refusal g14 (record { server = b7; packets = packet 1 2 2 (Commit 3) ∷ []; answer = Done; acked = Some 3 }) ≡ None
  unfolding room_refusal most_packets most_packet_bytes half_size packet_size body_size opening first_leader restarted opening_disk stored acted settled put_entry put_entries add_start add_merged_start on_elect renewed led
  room_15 = simp (empty_rows, entries-insert, gets)

  abbrev g15 : Group
  g15 = heard g14 16 2 1 2 (Ack 3 0) (record { server = b7; packets = packet 1 2 2 (Commit 3) ∷ []; answer = Done; acked = Some 3 })

  e15 : happens small_group g14 (Deliver 16) Whole ≡ g15
  unfolding opening first_leader acted settled restarted opening_disk stored on_elect renewed led
  e15 = delivers small_group g14 16 (packet 2 1 2 (Ack 3 0)) false b6 _ refl refl rule_15

  -- 16 and 17. server 1 applies slot 3
  claim_16 : claimable 4096 b7 ≡ Some 3
  unfolding settled restarted opening_disk stored put_entry put_entries is_free range_of merged_entry
  claim_16 = third_is b7 4093 refl (simp gets) (simp gets) (simp gets)

  op_16 : op_at b7.durable.log 3 ≡ write_at 5 fourth
  unfolding settled restarted opening_disk stored put_entry put_entries is_free range_of merged_entry op_at
  op_16 = simp gets

  abbrev g16 : Group
  g16 = record g15 { servers = slice_set g15.servers 1 (Running (claimed b7 3)) }

  e16 : happens small_group g15 Claim Whole ≡ g16
  unfolding opening first_leader acted settled restarted opening_disk stored on_elect renewed led
  e16 = claims_at_1 small_group g15 refl b7 3 refl claim_16

  abbrev b8 : Server
  b8 = record b7 { in_hand = FinMap.remove (FinMap.insert b7.in_hand 3 (write_at 5 fourth)) 3; applied = Sets.insert b7.applied 3; sectors = changed (write_at 5 fourth) b7.sectors }

  rule_17 : on_finish (claimed b7 3) 0 3 ≡ sends b8 []
  unfolding on_finish applied_op claimed op_at restarted opening_disk stored put_entry put_entries snapshots_after
  rule_17 = simp gets

  abbrev g17 : Group
  g17 = acted g16 1 (sends b8 [])

  e17 : happens small_group g16 (Finish 1 0 3) Whole ≡ g17
  unfolding opening first_leader acted settled restarted opening_disk stored on_elect renewed led
  e17 = finishes small_group g16 1 0 3 (claimed b7 3) _ refl rule_17

  -- 18. server 1 stands for election
  abbrev b9 : Server
  b9 = record b8 { durable = stored b8.durable (TermRecord 3); role = Candidate (vote_of b8.durable) }

  rule_18 : on_elect b8 ≡ record { server = b9; packets = packet 1 0 3 (RequestVote 0) ∷ packet 1 2 3 (RequestVote 0) ∷ []; answer = TermIs 3; acked = None }
  unfolding on_elect restarted opening_disk stored
  rule_18 = refl

  room_18 : room_refusal g17 (record { server = b9; packets = packet 1 0 3 (RequestVote 0) ∷ packet 1 2 3 (RequestVote 0) ∷ []; answer = TermIs 3; acked = None }) ≡ None
  unfolding room_refusal most_packets most_packet_bytes half_size packet_size body_size opening first_leader restarted opening_disk stored acted settled put_entry put_entries add_start add_merged_start on_elect renewed led
  room_18 = simp (empty_rows, entries-insert, gets)

  abbrev g18 : Group
  g18 = acted (record g17 { elections = 2 }) 1 (record { server = b9; packets = packet 1 0 3 (RequestVote 0) ∷ packet 1 2 3 (RequestVote 0) ∷ []; answer = TermIs 3; acked = None })

  e18 : happens small_group g17 (Elect 1) Whole ≡ g18
  unfolding opening first_leader acted settled restarted opening_disk stored on_elect renewed led
  e18 = elects small_group g17 1 b8 _ refl rule_18

  -- 19. a request for a vote from server 1 comes to server 2
  abbrev c5 : Server
  c5 = record c4 { durable = stored c4.durable (TermRecord 3) }

  rule_19 : on_packet small_group c4 (packet 1 2 3 (RequestVote 0)) ≡ sends c5 (packet 2 1 3 (Vote (vote_of c4.durable)) ∷ [])
  unfolding on_packet on_message on_request_vote restarted opening_disk stored
  rule_19 = refl

  room_19 : room_refusal g18 (sends c5 (packet 2 1 3 (Vote (vote_of c4.durable)) ∷ [])) ≡ None
  unfolding room_refusal most_packets most_packet_bytes half_size packet_size body_size opening first_leader restarted opening_disk stored acted settled put_entry put_entries add_start add_merged_start on_elect renewed led
  room_19 = simp (empty_rows, entries-insert, gets)

  abbrev g19 : Group
  g19 = heard g18 19 1 2 3 (RequestVote 0) (sends c5 (packet 2 1 3 (Vote (vote_of c4.durable)) ∷ []))

  e19 : happens small_group g18 (Deliver 19) Whole ≡ g19
  unfolding opening first_leader acted settled restarted opening_disk stored on_elect renewed led
  e19 = delivers small_group g18 19 (packet 1 2 3 (RequestVote 0)) false c4 _ refl refl rule_19

  -- 20. a vote from server 2 comes to server 1
  abbrev m3_1 : Entry
  m3_1 = record { slot = 1; term = 3; first = 4; look = []; op = write_at 0 first }

  abbrev m3_2 : Entry
  m3_2 = record { slot = 2; term = 3; first = 4; look = []; op = write_at 6 third }

  abbrev m3_3 : Entry
  m3_3 = record { slot = 3; term = 3; first = 4; look = []; op = write_at 5 fourth }

  first_20 : merged_first 0 (vote_of b8.durable) (vote_of c4.durable) ≡ 4
  unfolding merged_first merged_entries taken left_of higher is_void restarted opening_disk stored put_entry put_entries add_start add_merged_start
  first_20 = simp (entries-insert, empty_rows, gets)

  made_20_1 : merged_entry 3 0 (vote_of b8.durable) (vote_of c4.durable) 1 ≡ m3_1
  unfolding merged_entry merged_op op_or_noop taken left_of higher is_void restarted opening_disk stored put_entry put_entries add_start add_merged_start
  made_20_1 = rw first_20 (simp (entries-insert, empty_rows, gets))

  made_20_2 : merged_entry 3 0 (vote_of b8.durable) (vote_of c4.durable) 2 ≡ m3_2
  unfolding merged_entry merged_op op_or_noop taken left_of higher is_void restarted opening_disk stored put_entry put_entries add_start add_merged_start
  made_20_2 = rw first_20 (simp (entries-insert, empty_rows, gets))

  made_20_3 : merged_entry 3 0 (vote_of b8.durable) (vote_of c4.durable) 3 ≡ m3_3
  unfolding merged_entry merged_op op_or_noop taken left_of higher is_void restarted opening_disk stored put_entry put_entries add_start add_merged_start
  made_20_3 = rw first_20 (simp (entries-insert, empty_rows, gets))

  merge_20 : merged_entries 3 0 (vote_of b8.durable) (vote_of c4.durable) ≡ m3_1 ∷ m3_2 ∷ m3_3 ∷ []
  unfolding merged_entries
  merge_20 = rw (first_20, made_20_1, made_20_2, made_20_3) refl

  abbrev l8 : Leader
  l8 = led 0 4 4 1

  abbrev b10 : Server
  b10 = record b9 { durable = stored b9.durable (MergedRecord 3 4 (m3_1 ∷ m3_2 ∷ m3_3 ∷ [])); role = Merging l8 }

  rule_20 : on_packet small_group b9 (packet 2 1 3 (Vote (vote_of c4.durable))) ≡ sends b10 (packet 1 0 3 (Accept m3_1) ∷ packet 1 2 3 (Accept m3_1) ∷ packet 1 0 3 (Accept m3_2) ∷ packet 1 2 3 (Accept m3_2) ∷ packet 1 0 3 (Accept m3_3) ∷ packet 1 2 3 (Accept m3_3) ∷ [])
  unfolding on_packet on_message on_vote merged led restarted opening_disk stored
  rule_20 = rw (first_20, merge_20) refl

  room_20 : room_refusal g19 (sends b10 (packet 1 0 3 (Accept m3_1) ∷ packet 1 2 3 (Accept m3_1) ∷ packet 1 0 3 (Accept m3_2) ∷ packet 1 2 3 (Accept m3_2) ∷ packet 1 0 3 (Accept m3_3) ∷ packet 1 2 3 (Accept m3_3) ∷ [])) ≡ None
  unfolding room_refusal most_packets most_packet_bytes half_size packet_size body_size opening first_leader restarted opening_disk stored acted settled put_entry put_entries add_start add_merged_start on_elect renewed led
  room_20 = simp (empty_rows, entries-insert, gets)

  abbrev g20 : Group
  g20 = heard g19 20 2 1 3 (Vote (vote_of c4.durable)) (sends b10 (packet 1 0 3 (Accept m3_1) ∷ packet 1 2 3 (Accept m3_1) ∷ packet 1 0 3 (Accept m3_2) ∷ packet 1 2 3 (Accept m3_2) ∷ packet 1 0 3 (Accept m3_3) ∷ packet 1 2 3 (Accept m3_3) ∷ []))

  e20 : happens small_group g19 (Deliver 20) Whole ≡ g20
  unfolding opening first_leader acted settled restarted opening_disk stored on_elect renewed led
  e20 = delivers small_group g19 20 (packet 2 1 3 (Vote (vote_of c4.durable))) false b9 _ refl refl rule_20

  -- 21. a proposal from server 1 comes to server 2
  abbrev c6 : Server
  c6 = record c5 { durable = stored c5.durable (EntryRecord m3_1) }

  rule_21 : on_packet small_group c5 (packet 1 2 3 (Accept m3_1)) ≡ sends c6 (packet 2 1 3 (Ack 1 0) ∷ [])
  unfolding on_packet on_message on_accept accepted restarted opening_disk stored put_entry put_entries holds upto
  rule_21 = simp gets

  room_21 : room_refusal g20 (sends c6 (packet 2 1 3 (Ack 1 0) ∷ [])) ≡ None
  unfolding room_refusal most_packets most_packet_bytes half_size packet_size body_size opening first_leader restarted opening_disk stored acted settled put_entry put_entries add_start add_merged_start on_elect renewed led
  room_21 = simp (empty_rows, entries-insert, gets)

  abbrev g21 : Group
  g21 = heard g20 22 1 2 3 (Accept m3_1) (sends c6 (packet 2 1 3 (Ack 1 0) ∷ []))

  e21 : happens small_group g20 (Deliver 22) Whole ≡ g21
  unfolding opening first_leader acted settled restarted opening_disk stored on_elect renewed led
  e21 = delivers small_group g20 22 (packet 1 2 3 (Accept m3_1)) false c5 _ refl refl rule_21

  -- 22. a proposal from server 1 comes to server 2
  abbrev c7 : Server
  c7 = record c6 { durable = stored c6.durable (EntryRecord m3_3) }

  rule_22 : on_packet small_group c6 (packet 1 2 3 (Accept m3_3)) ≡ sends c7 (packet 2 1 3 (Ack 3 0) ∷ [])
  unfolding on_packet on_message on_accept accepted restarted opening_disk stored put_entry put_entries holds upto
  rule_22 = simp gets

  room_22 : room_refusal g21 (sends c7 (packet 2 1 3 (Ack 3 0) ∷ [])) ≡ None
  unfolding room_refusal most_packets most_packet_bytes half_size packet_size body_size opening first_leader restarted opening_disk stored acted settled put_entry put_entries add_start add_merged_start on_elect renewed led
  room_22 = simp (empty_rows, entries-insert, gets)

  abbrev g22 : Group
  g22 = heard g21 26 1 2 3 (Accept m3_3) (sends c7 (packet 2 1 3 (Ack 3 0) ∷ []))

  e22 : happens small_group g21 (Deliver 26) Whole ≡ g22
  unfolding opening first_leader acted settled restarted opening_disk stored on_elect renewed led
  e22 = delivers small_group g21 26 (packet 1 2 3 (Accept m3_3)) false c6 _ refl refl rule_22

  -- 23. server 1 stops
  abbrev g23 : Group
  g23 = record g22 { servers = slice_set g22.servers 1 (Stopped 1 b10.durable b10.durable) }

  e23 : happens small_group g22 (Stop 1) Whole ≡ g23
  unfolding happens opening first_leader acted settled restarted opening_disk stored on_elect renewed led
  e23 = refl

  -- 24. server 0 begins again
  abbrev a3 : Server
  a3 = restarted 0 2 a2.durable

  abbrev g24 : Group
  g24 = record g23 { servers = slice_set g23.servers 0 (Running a3) }

  e24 : happens small_group g23 (Restart 0 false) Whole ≡ g24
  unfolding happens opening first_leader acted settled restarted opening_disk stored on_elect renewed led
  e24 = refl

  -- 25. server 2 stands for election
  abbrev c8 : Server
  c8 = record c7 { durable = stored c7.durable (TermRecord 4); role = Candidate (vote_of c7.durable) }

  rule_25 : on_elect c7 ≡ record { server = c8; packets = packet 2 0 4 (RequestVote 0) ∷ packet 2 1 4 (RequestVote 0) ∷ []; answer = TermIs 4; acked = None }
  unfolding on_elect restarted opening_disk stored
  rule_25 = refl

  room_25 : room_refusal g24 (record { server = c8; packets = packet 2 0 4 (RequestVote 0) ∷ packet 2 1 4 (RequestVote 0) ∷ []; answer = TermIs 4; acked = None }) ≡ None
  unfolding room_refusal most_packets most_packet_bytes half_size packet_size body_size opening first_leader restarted opening_disk stored acted settled put_entry put_entries add_start add_merged_start on_elect renewed led
  room_25 = simp (empty_rows, entries-insert, gets)

  abbrev g25 : Group
  g25 = acted (record g24 { elections = 3 }) 2 (record { server = c8; packets = packet 2 0 4 (RequestVote 0) ∷ packet 2 1 4 (RequestVote 0) ∷ []; answer = TermIs 4; acked = None })

  e25 : happens small_group g24 (Elect 2) Whole ≡ g25
  unfolding opening first_leader acted settled restarted opening_disk stored on_elect renewed led
  e25 = elects small_group g24 2 c7 _ refl rule_25

  -- 26. a request for a vote from server 2 comes to server 0
  abbrev a4 : Server
  a4 = record a3 { durable = stored a3.durable (TermRecord 4) }

  rule_26 : on_packet small_group a3 (packet 2 0 4 (RequestVote 0)) ≡ sends a4 (packet 0 2 4 (Vote (vote_of a3.durable)) ∷ [])
  unfolding on_packet on_message on_request_vote restarted opening_disk stored
  rule_26 = refl

  room_26 : room_refusal g25 (sends a4 (packet 0 2 4 (Vote (vote_of a3.durable)) ∷ [])) ≡ None
  unfolding room_refusal most_packets most_packet_bytes half_size packet_size body_size opening first_leader restarted opening_disk stored acted settled put_entry put_entries add_start add_merged_start on_elect renewed led
  room_26 = simp (empty_rows, entries-insert, gets)

  abbrev g26 : Group
  g26 = heard g25 29 2 0 4 (RequestVote 0) (sends a4 (packet 0 2 4 (Vote (vote_of a3.durable)) ∷ []))

  e26 : happens small_group g25 (Deliver 29) Whole ≡ g26
  unfolding opening first_leader acted settled restarted opening_disk stored on_elect renewed led
  e26 = delivers small_group g25 29 (packet 2 0 4 (RequestVote 0)) false a3 _ refl refl rule_26

  -- 27. a vote from server 0 comes to server 2
  abbrev m4_1 : Entry
  m4_1 = record { slot = 1; term = 4; first = 4; look = []; op = write_at 0 first }

  abbrev m4_2 : Entry
  m4_2 = record { slot = 2; term = 4; first = 4; look = []; op = Noop }

  abbrev m4_3 : Entry
  m4_3 = record { slot = 3; term = 4; first = 4; look = []; op = write_at 5 fourth }

  first_27 : merged_first 0 (vote_of c7.durable) (vote_of a3.durable) ≡ 4
  unfolding merged_first merged_entries taken left_of higher is_void restarted opening_disk stored put_entry put_entries add_start add_merged_start
  first_27 = simp (entries-insert, empty_rows, gets)

  made_27_1 : merged_entry 4 0 (vote_of c7.durable) (vote_of a3.durable) 1 ≡ m4_1
  unfolding merged_entry merged_op op_or_noop taken left_of higher is_void restarted opening_disk stored put_entry put_entries add_start add_merged_start
  made_27_1 = rw first_27 (simp (entries-insert, empty_rows, gets))

  made_27_2 : merged_entry 4 0 (vote_of c7.durable) (vote_of a3.durable) 2 ≡ m4_2
  unfolding merged_entry merged_op op_or_noop taken left_of higher is_void restarted opening_disk stored put_entry put_entries add_start add_merged_start
  made_27_2 = rw first_27 (simp (entries-insert, empty_rows, gets))

  made_27_3 : merged_entry 4 0 (vote_of c7.durable) (vote_of a3.durable) 3 ≡ m4_3
  unfolding merged_entry merged_op op_or_noop taken left_of higher is_void restarted opening_disk stored put_entry put_entries add_start add_merged_start
  made_27_3 = rw first_27 (simp (entries-insert, empty_rows, gets))

  merge_27 : merged_entries 4 0 (vote_of c7.durable) (vote_of a3.durable) ≡ m4_1 ∷ m4_2 ∷ m4_3 ∷ []
  unfolding merged_entries
  merge_27 = rw (first_27, made_27_1, made_27_2, made_27_3) refl

  abbrev l9 : Leader
  l9 = led 0 4 4 2

  abbrev c9 : Server
  c9 = record c8 { durable = stored c8.durable (MergedRecord 4 4 (m4_1 ∷ m4_2 ∷ m4_3 ∷ [])); role = Merging l9 }

  rule_27 : on_packet small_group c8 (packet 0 2 4 (Vote (vote_of a3.durable))) ≡ sends c9 (packet 2 0 4 (Accept m4_1) ∷ packet 2 1 4 (Accept m4_1) ∷ packet 2 0 4 (Accept m4_2) ∷ packet 2 1 4 (Accept m4_2) ∷ packet 2 0 4 (Accept m4_3) ∷ packet 2 1 4 (Accept m4_3) ∷ [])
  unfolding on_packet on_message on_vote merged led restarted opening_disk stored
  rule_27 = rw (first_27, merge_27) refl

  room_27 : room_refusal g26 (sends c9 (packet 2 0 4 (Accept m4_1) ∷ packet 2 1 4 (Accept m4_1) ∷ packet 2 0 4 (Accept m4_2) ∷ packet 2 1 4 (Accept m4_2) ∷ packet 2 0 4 (Accept m4_3) ∷ packet 2 1 4 (Accept m4_3) ∷ [])) ≡ None
  unfolding room_refusal most_packets most_packet_bytes half_size packet_size body_size opening first_leader restarted opening_disk stored acted settled put_entry put_entries add_start add_merged_start on_elect renewed led
  room_27 = simp (empty_rows, entries-insert, gets)

  abbrev g27 : Group
  g27 = heard g26 31 0 2 4 (Vote (vote_of a3.durable)) (sends c9 (packet 2 0 4 (Accept m4_1) ∷ packet 2 1 4 (Accept m4_1) ∷ packet 2 0 4 (Accept m4_2) ∷ packet 2 1 4 (Accept m4_2) ∷ packet 2 0 4 (Accept m4_3) ∷ packet 2 1 4 (Accept m4_3) ∷ []))

  e27 : happens small_group g26 (Deliver 31) Whole ≡ g27
  unfolding opening first_leader acted settled restarted opening_disk stored on_elect renewed led
  e27 = delivers small_group g26 31 (packet 0 2 4 (Vote (vote_of a3.durable))) false c8 _ refl refl rule_27

  none_last_0 : claimable 4096 a4 ≡ None
  unfolding settled restarted opening_disk stored put_entry put_entries is_free range_of merged_entry
  none_last_0 =
      let can = λ (slot : ℕ). is_claimable a4 (FinMap.get a4.durable.log slot) slot in
      none_marked a4 4096 (none_of can)

  none_last_2 : claimable 4096 c9 ≡ None
  unfolding settled restarted opening_disk stored put_entry put_entries is_free range_of merged_entry
  none_last_2 =
      let can = λ (slot : ℕ). is_claimable c9 (FinMap.get c9.durable.log slot) slot in
      none_marked c9 4096 (none_of can)

  calm : answer_to small_group g27 Claim ≡ Refused NoneFree
  unfolding opening first_leader acted settled restarted opening_disk stored on_elect renewed led
  calm = claim_answer_none small_group g27 none_last_0 refl none_last_2

  abbrev rest_27 : History
  rest_27 = []

  abbrev rest_26 : History
  rest_26 = so (Deliver 31) Done ∷ rest_27

  abbrev rest_25 : History
  rest_25 = so (Deliver 29) Done ∷ rest_26

  abbrev rest_24 : History
  rest_24 = so (Elect 2) (TermIs 4) ∷ rest_25

  abbrev rest_23 : History
  rest_23 = so (Restart 0 false) Done ∷ rest_24

  abbrev rest_22 : History
  rest_22 = so (Stop 1) Done ∷ rest_23

  abbrev rest_21 : History
  rest_21 = so (Deliver 26) Done ∷ rest_22

  abbrev rest_20 : History
  rest_20 = so (Deliver 22) Done ∷ rest_21

  abbrev rest_19 : History
  rest_19 = so (Deliver 20) Done ∷ rest_20

  abbrev rest_18 : History
  rest_18 = so (Deliver 19) Done ∷ rest_19

  abbrev rest_17 : History
  rest_17 = so (Elect 1) (TermIs 3) ∷ rest_18

  abbrev rest_16 : History
  rest_16 = so (Finish 1 0 3) Done ∷ rest_17

  abbrev rest_15 : History
  rest_15 = so Claim (JobIs (record { server = 1; life = 0; slot = 3; op = write_at 5 fourth })) ∷ rest_16

  abbrev rest_14 : History
  rest_14 = so (Deliver 16) Done ∷ rest_15

  abbrev rest_13 : History
  rest_13 = so (Deliver 15) Done ∷ rest_14

  abbrev rest_12 : History
  rest_12 = so (Submit 1 (write_at 5 fourth)) (SlotIs 3) ∷ rest_13

  abbrev rest_11 : History
  rest_11 = so (Submit 1 (write_at 6 third)) (SlotIs 2) ∷ rest_12

  abbrev rest_10 : History
  rest_10 = so (Finish 1 0 1) Done ∷ rest_11

  abbrev rest_9 : History
  rest_9 = so Claim (JobIs (record { server = 1; life = 0; slot = 1; op = write_at 0 first })) ∷ rest_10

  abbrev rest_8 : History
  rest_8 = so (Deliver 10) Done ∷ rest_9

  abbrev rest_7 : History
  rest_7 = so (Deliver 9) Done ∷ rest_8

  abbrev rest_6 : History
  rest_6 = so (Deliver 7) Done ∷ rest_7

  abbrev rest_5 : History
  rest_5 = so (Deliver 6) Done ∷ rest_6

  abbrev rest_4 : History
  rest_4 = so (Elect 1) (TermIs 2) ∷ rest_5

  abbrev rest_3 : History
  rest_3 = so (Stop 0) Done ∷ rest_4

  abbrev rest_2 : History
  rest_2 = so (Deliver 1) Done ∷ rest_3

  abbrev rest_1 : History
  rest_1 = so (Submit 0 (write_at 5 second)) (SlotIs 2) ∷ rest_2

  abbrev rest_0 : History
  rest_0 = so (Submit 0 (write_at 0 first)) (SlotIs 1) ∷ rest_1

  replayed_27 : run small_group g27 rest_27 ≡ g27
  replayed_27 = refl

  replayed_26 : run small_group g26 rest_26 ≡ g27
  replayed_26 = follows small_group g26 g27 g27 (so (Deliver 31) Done) rest_27 e27 replayed_27

  replayed_25 : run small_group g25 rest_25 ≡ g27
  replayed_25 = follows small_group g25 g26 g27 (so (Deliver 29) Done) rest_26 e26 replayed_26

  replayed_24 : run small_group g24 rest_24 ≡ g27
  replayed_24 = follows small_group g24 g25 g27 (so (Elect 2) (TermIs 4)) rest_25 e25 replayed_25

  replayed_23 : run small_group g23 rest_23 ≡ g27
  replayed_23 = follows small_group g23 g24 g27 (so (Restart 0 false) Done) rest_24 e24 replayed_24

  replayed_22 : run small_group g22 rest_22 ≡ g27
  replayed_22 = follows small_group g22 g23 g27 (so (Stop 1) Done) rest_23 e23 replayed_23

  replayed_21 : run small_group g21 rest_21 ≡ g27
  replayed_21 = follows small_group g21 g22 g27 (so (Deliver 26) Done) rest_22 e22 replayed_22

  replayed_20 : run small_group g20 rest_20 ≡ g27
  replayed_20 = follows small_group g20 g21 g27 (so (Deliver 22) Done) rest_21 e21 replayed_21

  replayed_19 : run small_group g19 rest_19 ≡ g27
  replayed_19 = follows small_group g19 g20 g27 (so (Deliver 20) Done) rest_20 e20 replayed_20

  replayed_18 : run small_group g18 rest_18 ≡ g27
  replayed_18 = follows small_group g18 g19 g27 (so (Deliver 19) Done) rest_19 e19 replayed_19

  replayed_17 : run small_group g17 rest_17 ≡ g27
  replayed_17 = follows small_group g17 g18 g27 (so (Elect 1) (TermIs 3)) rest_18 e18 replayed_18

  replayed_16 : run small_group g16 rest_16 ≡ g27
  replayed_16 = follows small_group g16 g17 g27 (so (Finish 1 0 3) Done) rest_17 e17 replayed_17

  replayed_15 : run small_group g15 rest_15 ≡ g27
  replayed_15 = follows small_group g15 g16 g27 (so Claim (JobIs (record { server = 1; life = 0; slot = 3; op = write_at 5 fourth }))) rest_16 e16 replayed_16

  replayed_14 : run small_group g14 rest_14 ≡ g27
  replayed_14 = follows small_group g14 g15 g27 (so (Deliver 16) Done) rest_15 e15 replayed_15

  replayed_13 : run small_group g13 rest_13 ≡ g27
  replayed_13 = follows small_group g13 g14 g27 (so (Deliver 15) Done) rest_14 e14 replayed_14

  replayed_12 : run small_group g12 rest_12 ≡ g27
  replayed_12 = follows small_group g12 g13 g27 (so (Submit 1 (write_at 5 fourth)) (SlotIs 3)) rest_13 e13 replayed_13

  replayed_11 : run small_group g11 rest_11 ≡ g27
  replayed_11 = follows small_group g11 g12 g27 (so (Submit 1 (write_at 6 third)) (SlotIs 2)) rest_12 e12 replayed_12

  replayed_10 : run small_group g10 rest_10 ≡ g27
  replayed_10 = follows small_group g10 g11 g27 (so (Finish 1 0 1) Done) rest_11 e11 replayed_11

  replayed_9 : run small_group g9 rest_9 ≡ g27
  replayed_9 = follows small_group g9 g10 g27 (so Claim (JobIs (record { server = 1; life = 0; slot = 1; op = write_at 0 first }))) rest_10 e10 replayed_10

  replayed_8 : run small_group g8 rest_8 ≡ g27
  replayed_8 = follows small_group g8 g9 g27 (so (Deliver 10) Done) rest_9 e9 replayed_9

  replayed_7 : run small_group g7 rest_7 ≡ g27
  replayed_7 = follows small_group g7 g8 g27 (so (Deliver 9) Done) rest_8 e8 replayed_8

  replayed_6 : run small_group g6 rest_6 ≡ g27
  replayed_6 = follows small_group g6 g7 g27 (so (Deliver 7) Done) rest_7 e7 replayed_7

  replayed_5 : run small_group g5 rest_5 ≡ g27
  replayed_5 = follows small_group g5 g6 g27 (so (Deliver 6) Done) rest_6 e6 replayed_6

  replayed_4 : run small_group g4 rest_4 ≡ g27
  replayed_4 = follows small_group g4 g5 g27 (so (Elect 1) (TermIs 2)) rest_5 e5 replayed_5

  replayed_3 : run small_group g3 rest_3 ≡ g27
  replayed_3 = follows small_group g3 g4 g27 (so (Stop 0) Done) rest_4 e4 replayed_4

  replayed_2 : run small_group g2 rest_2 ≡ g27
  replayed_2 = follows small_group g2 g3 g27 (so (Deliver 1) Done) rest_3 e3 replayed_3

  replayed_1 : run small_group g1 rest_1 ≡ g27
  replayed_1 = follows small_group g1 g2 g27 (so (Submit 0 (write_at 5 second)) (SlotIs 2)) rest_2 e2 replayed_2

  replayed_0 : run small_group g0 rest_0 ≡ g27
  replayed_0 = follows small_group g0 g1 g27 (so (Submit 0 (write_at 0 first)) (SlotIs 1)) rest_1 e1 replayed_1

  answer_27 : answer_to small_group g26 (Deliver 31) ≡ Done
  unfolding opening first_leader acted settled restarted opening_disk stored on_elect renewed led
  answer_27 = deliver_answer small_group g26 31 (packet 0 2 4 (Vote (vote_of a3.durable))) false c8 _ refl refl rule_27 room_27

  answer_26 : answer_to small_group g25 (Deliver 29) ≡ Done
  unfolding opening first_leader acted settled restarted opening_disk stored on_elect renewed led
  answer_26 = deliver_answer small_group g25 29 (packet 2 0 4 (RequestVote 0)) false a3 _ refl refl rule_26 room_26

  answer_25 : answer_to small_group g24 (Elect 2) ≡ TermIs 4
  unfolding opening first_leader acted settled restarted opening_disk stored on_elect renewed led most_elections
  answer_25 = elect_answer small_group g24 2 c7 _ refl refl rule_25 room_25

  answer_24 : answer_to small_group g23 (Restart 0 false) ≡ Done
  unfolding answer_to opening first_leader acted settled restarted opening_disk stored on_elect renewed led
  answer_24 = refl

  answer_23 : answer_to small_group g22 (Stop 1) ≡ Done
  unfolding answer_to opening first_leader acted settled restarted opening_disk stored on_elect renewed led
  answer_23 = refl

  answer_22 : answer_to small_group g21 (Deliver 26) ≡ Done
  unfolding opening first_leader acted settled restarted opening_disk stored on_elect renewed led
  answer_22 = deliver_answer small_group g21 26 (packet 1 2 3 (Accept m3_3)) false c6 _ refl refl rule_22 room_22

  answer_21 : answer_to small_group g20 (Deliver 22) ≡ Done
  unfolding opening first_leader acted settled restarted opening_disk stored on_elect renewed led
  answer_21 = deliver_answer small_group g20 22 (packet 1 2 3 (Accept m3_1)) false c5 _ refl refl rule_21 room_21

  answer_20 : answer_to small_group g19 (Deliver 20) ≡ Done
  unfolding opening first_leader acted settled restarted opening_disk stored on_elect renewed led
  answer_20 = deliver_answer small_group g19 20 (packet 2 1 3 (Vote (vote_of c4.durable))) false b9 _ refl refl rule_20 room_20

  answer_19 : answer_to small_group g18 (Deliver 19) ≡ Done
  unfolding opening first_leader acted settled restarted opening_disk stored on_elect renewed led
  answer_19 = deliver_answer small_group g18 19 (packet 1 2 3 (RequestVote 0)) false c4 _ refl refl rule_19 room_19

  answer_18 : answer_to small_group g17 (Elect 1) ≡ TermIs 3
  unfolding opening first_leader acted settled restarted opening_disk stored on_elect renewed led most_elections
  answer_18 = elect_answer small_group g17 1 b8 _ refl refl rule_18 room_18

  answer_17 : answer_to small_group g16 (Finish 1 0 3) ≡ Done
  unfolding opening first_leader acted settled restarted opening_disk stored on_elect renewed led
  answer_17 = finish_answer small_group g16 1 0 3 (claimed b7 3) _ refl rule_17

  answer_16 : answer_to small_group g15 Claim ≡ JobIs (record { server = 1; life = 0; slot = 3; op = write_at 5 fourth })
  unfolding opening first_leader acted settled restarted opening_disk stored on_elect renewed led
  answer_16 = claim_answer_1 small_group g15 refl b7 3 refl claim_16 ∙ ap (λ x. JobIs (record { server = 1; life = 0; slot = 3; op = x })) op_16

  answer_15 : answer_to small_group g14 (Deliver 16) ≡ Done
  unfolding opening first_leader acted settled restarted opening_disk stored on_elect renewed led
  answer_15 = deliver_answer small_group g14 16 (packet 2 1 2 (Ack 3 0)) false b6 _ refl refl rule_15 room_15

  answer_14 : answer_to small_group g13 (Deliver 15) ≡ Done
  unfolding opening first_leader acted settled restarted opening_disk stored on_elect renewed led
  answer_14 = deliver_answer small_group g13 15 (packet 1 2 2 (Accept four)) false c3 _ refl refl rule_14 room_14

  answer_13 : answer_to small_group g12 (Submit 1 (write_at 5 fourth)) ≡ SlotIs 3
  unfolding opening first_leader acted settled restarted opening_disk stored on_elect renewed led range_of
  answer_13 = submit_answer small_group g12 1 (write_at 5 fourth) b5 _ refl refl refl refl refl rule_13 room_13

  answer_12 : answer_to small_group g11 (Submit 1 (write_at 6 third)) ≡ SlotIs 2
  unfolding opening first_leader acted settled restarted opening_disk stored on_elect renewed led range_of
  answer_12 = submit_answer small_group g11 1 (write_at 6 third) b4 _ refl refl refl refl refl rule_12 room_12

  answer_11 : answer_to small_group g10 (Finish 1 0 1) ≡ Done
  unfolding opening first_leader acted settled restarted opening_disk stored on_elect renewed led
  answer_11 = finish_answer small_group g10 1 0 1 (claimed b3 1) _ refl rule_11

  answer_10 : answer_to small_group g9 Claim ≡ JobIs (record { server = 1; life = 0; slot = 1; op = write_at 0 first })
  unfolding opening first_leader acted settled restarted opening_disk stored on_elect renewed led
  answer_10 = claim_answer_1 small_group g9 refl b3 1 refl claim_10 ∙ ap (λ x. JobIs (record { server = 1; life = 0; slot = 1; op = x })) op_10

  answer_9 : answer_to small_group g8 (Deliver 10) ≡ Done
  unfolding opening first_leader acted settled restarted opening_disk stored on_elect renewed led
  answer_9 = deliver_answer small_group g8 10 (packet 2 1 2 (Ack 1 0)) false b2 _ refl refl rule_9 room_9

  answer_8 : answer_to small_group g7 (Deliver 9) ≡ Done
  unfolding opening first_leader acted settled restarted opening_disk stored on_elect renewed led
  answer_8 = deliver_answer small_group g7 9 (packet 1 2 2 (Accept m2_1)) false c2 _ refl refl rule_8 room_8

  answer_7 : answer_to small_group g6 (Deliver 7) ≡ Done
  unfolding opening first_leader acted settled restarted opening_disk stored on_elect renewed led
  answer_7 = deliver_answer small_group g6 7 (packet 2 1 2 (Vote (vote_of c1.durable))) false b1 _ refl refl rule_7 room_7

  answer_6 : answer_to small_group g5 (Deliver 6) ≡ Done
  unfolding opening first_leader acted settled restarted opening_disk stored on_elect renewed led
  answer_6 = deliver_answer small_group g5 6 (packet 1 2 2 (RequestVote 0)) false c1 _ refl refl rule_6 room_6

  answer_5 : answer_to small_group g4 (Elect 1) ≡ TermIs 2
  unfolding opening first_leader acted settled restarted opening_disk stored on_elect renewed led most_elections
  answer_5 = elect_answer small_group g4 1 b0 _ refl refl rule_5 room_5

  answer_4 : answer_to small_group g3 (Stop 0) ≡ Done
  unfolding answer_to opening first_leader acted settled restarted opening_disk stored on_elect renewed led
  answer_4 = refl

  answer_3 : answer_to small_group g2 (Deliver 1) ≡ Done
  unfolding opening first_leader acted settled restarted opening_disk stored on_elect renewed led
  answer_3 = deliver_answer small_group g2 1 (packet 0 2 1 (Accept one)) false c0 _ refl refl rule_3 room_3

  answer_2 : answer_to small_group g1 (Submit 0 (write_at 5 second)) ≡ SlotIs 2
  unfolding opening first_leader acted settled restarted opening_disk stored on_elect renewed led range_of
  answer_2 = submit_answer small_group g1 0 (write_at 5 second) a1 _ refl refl refl refl refl rule_2 room_2

  answer_1 : answer_to small_group g0 (Submit 0 (write_at 0 first)) ≡ SlotIs 1
  unfolding opening first_leader acted settled restarted opening_disk stored on_elect renewed led range_of
  answer_1 = submit_answer small_group g0 0 (write_at 0 first) a0 _ refl refl refl refl refl rule_1 room_1

  acked_last : g27.acked ≡ record { term = 2; slot = 3 } ∷ []
  unfolding opening first_leader acted settled restarted opening_disk stored on_elect renewed led
  acked_last = refl

  shown_2 : ServerShows g27 2 4 0 (line 1 4 (write_at 0 first) false ∷ line 2 4 Noop false ∷ line 3 4 (write_at 5 fourth) false ∷ []) ([])
  unfolding opening first_leader acted settled restarted opening_disk stored on_elect renewed led put_entry put_entries
  shown_2 = record { server = c9; runs = refl; its_term = refl; its_base = refl; its_log = simp (entries-insert, empty_rows, gets); its_applied = simp empty_rows }

  pub shows : KeepsStart first second third fourth
  shows = record { calm = ap (λ (g : Group). answer_to small_group g Claim) replayed_0 ∙ calm; acked = ap (λ (g : Group). g.acked) replayed_0 ∙ acked_last; shown_2 = rw replayed_0 shown_2 }

  -- with whole sectors the history is one that the group can have
  module _ (length_first : IsSector first) (length_second : IsSector second) (length_third : IsSector third) (length_fourth : IsSector fourth) where
    legal_27 : IsLegalFrom small_group g27 ([]) rest_27
    legal_27 = tt

    legal_26 : IsLegalFrom small_group g26 ([]) rest_26
    legal_26 = goes_on small_group g26 g27 ([]) (so (Deliver 31) Done) rest_27 tt answer_27 e27 legal_27

    legal_25 : IsLegalFrom small_group g25 ([]) rest_25
    legal_25 = goes_on small_group g25 g26 ([]) (so (Deliver 29) Done) rest_26 tt answer_26 e26 legal_26

    legal_24 : IsLegalFrom small_group g24 ([]) rest_24
    legal_24 = goes_on small_group g24 g25 ([]) (so (Elect 2) (TermIs 4)) rest_25 (omega arith) answer_25 e25 legal_25

    legal_23 : IsLegalFrom small_group g23 ([]) rest_23
    legal_23 = goes_on small_group g23 g24 ([]) (so (Restart 0 false) Done) rest_24 (omega arith) answer_24 e24 legal_24

    legal_22 : IsLegalFrom small_group g22 ([]) rest_22
    legal_22 = goes_on small_group g22 g23 ([]) (so (Stop 1) Done) rest_23 (omega arith) answer_23 e23 legal_23

    legal_21 : IsLegalFrom small_group g21 ([]) rest_21
    legal_21 = goes_on small_group g21 g22 ([]) (so (Deliver 26) Done) rest_22 tt answer_22 e22 legal_22

    legal_20 : IsLegalFrom small_group g20 ([]) rest_20
    legal_20 = goes_on small_group g20 g21 ([]) (so (Deliver 22) Done) rest_21 tt answer_21 e21 legal_21

    legal_19 : IsLegalFrom small_group g19 ([]) rest_19
    legal_19 = goes_on small_group g19 g20 ([]) (so (Deliver 20) Done) rest_20 tt answer_20 e20 legal_20

    legal_18 : IsLegalFrom small_group g18 ([]) rest_18
    legal_18 = goes_on small_group g18 g19 ([]) (so (Deliver 19) Done) rest_19 tt answer_19 e19 legal_19

    legal_17 : IsLegalFrom small_group g17 ([]) rest_17
    legal_17 = goes_on small_group g17 g18 ([]) (so (Elect 1) (TermIs 3)) rest_18 (omega arith) answer_18 e18 legal_18

    legal_16 : IsLegalFrom small_group g16 (record { server = 1; life = 0; slot = 3; op = write_at 5 fourth } ∷ []) rest_16
    legal_16 = goes_on small_group g16 g17 (record { server = 1; life = 0; slot = 3; op = write_at 5 fourth } ∷ []) (so (Finish 1 0 3) Done) rest_17 refl answer_17 e17 legal_17

    legal_15 : IsLegalFrom small_group g15 ([]) rest_15
    legal_15 = goes_on small_group g15 g16 ([]) (so Claim (JobIs (record { server = 1; life = 0; slot = 3; op = write_at 5 fourth }))) rest_16 tt answer_16 e16 legal_16

    legal_14 : IsLegalFrom small_group g14 ([]) rest_14
    legal_14 = goes_on small_group g14 g15 ([]) (so (Deliver 16) Done) rest_15 tt answer_15 e15 legal_15

    legal_13 : IsLegalFrom small_group g13 ([]) rest_13
    legal_13 = goes_on small_group g13 g14 ([]) (so (Deliver 15) Done) rest_14 tt answer_14 e14 legal_14

    legal_12 : IsLegalFrom small_group g12 ([]) rest_12
    legal_12 = goes_on small_group g12 g13 ([]) (so (Submit 1 (write_at 5 fourth)) (SlotIs 3)) rest_13 (omega arith, (record { some = omega arith; few = omega arith; low = omega arith }, refl, (length_fourth, tt))) answer_13 e13 legal_13

    legal_11 : IsLegalFrom small_group g11 ([]) rest_11
    legal_11 = goes_on small_group g11 g12 ([]) (so (Submit 1 (write_at 6 third)) (SlotIs 2)) rest_12 (omega arith, (record { some = omega arith; few = omega arith; low = omega arith }, refl, (length_third, tt))) answer_12 e12 legal_12

    legal_10 : IsLegalFrom small_group g10 (record { server = 1; life = 0; slot = 1; op = write_at 0 first } ∷ []) rest_10
    legal_10 = goes_on small_group g10 g11 (record { server = 1; life = 0; slot = 1; op = write_at 0 first } ∷ []) (so (Finish 1 0 1) Done) rest_11 refl answer_11 e11 legal_11

    legal_9 : IsLegalFrom small_group g9 ([]) rest_9
    legal_9 = goes_on small_group g9 g10 ([]) (so Claim (JobIs (record { server = 1; life = 0; slot = 1; op = write_at 0 first }))) rest_10 tt answer_10 e10 legal_10

    legal_8 : IsLegalFrom small_group g8 ([]) rest_8
    legal_8 = goes_on small_group g8 g9 ([]) (so (Deliver 10) Done) rest_9 tt answer_9 e9 legal_9

    legal_7 : IsLegalFrom small_group g7 ([]) rest_7
    legal_7 = goes_on small_group g7 g8 ([]) (so (Deliver 9) Done) rest_8 tt answer_8 e8 legal_8

    legal_6 : IsLegalFrom small_group g6 ([]) rest_6
    legal_6 = goes_on small_group g6 g7 ([]) (so (Deliver 7) Done) rest_7 tt answer_7 e7 legal_7

    legal_5 : IsLegalFrom small_group g5 ([]) rest_5
    legal_5 = goes_on small_group g5 g6 ([]) (so (Deliver 6) Done) rest_6 tt answer_6 e6 legal_6

    legal_4 : IsLegalFrom small_group g4 ([]) rest_4
    legal_4 = goes_on small_group g4 g5 ([]) (so (Elect 1) (TermIs 2)) rest_5 (omega arith) answer_5 e5 legal_5

    legal_3 : IsLegalFrom small_group g3 ([]) rest_3
    legal_3 = goes_on small_group g3 g4 ([]) (so (Stop 0) Done) rest_4 (omega arith) answer_4 e4 legal_4

    legal_2 : IsLegalFrom small_group g2 ([]) rest_2
    legal_2 = goes_on small_group g2 g3 ([]) (so (Deliver 1) Done) rest_3 tt answer_3 e3 legal_3

    legal_1 : IsLegalFrom small_group g1 ([]) rest_1
    legal_1 = goes_on small_group g1 g2 ([]) (so (Submit 0 (write_at 5 second)) (SlotIs 2)) rest_2 (omega arith, (record { some = omega arith; few = omega arith; low = omega arith }, refl, (length_second, tt))) answer_2 e2 legal_2

    legal_0 : IsLegalFrom small_group g0 ([]) rest_0
    legal_0 = goes_on small_group g0 g1 ([]) (so (Submit 0 (write_at 0 first)) (SlotIs 1)) rest_1 (omega arith, (record { some = omega arith; few = omega arith; low = omega arith }, refl, (length_first, tt))) answer_1 e1 legal_1

    pub legal : IsLegal small_group (kept_start first second third fourth)
    legal = record { is_setup = is_small_group; legal = legal_0 }
