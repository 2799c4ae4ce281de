-- A slot that is kept, event by event.
use Rattle.std.proofs.Common.{◌≡◌, ℕ, true, false, [], ◌∷◌, Some, None, refl, ap, ◌∙◌, arith}
use Rattle.std.specs.Prelude.{slice_set}
use Rattle.std.specs.Cmp.{nat_cmp_total}
use Rattle.std.specs.FinMap
use Rattle.std.specs.FinMap.{gets, entries-insert}
use Rattle.pf_entry.specs.Sets
use Rattle.pf_entry.specs.Applying.{is_free}
use Rattle.pf_entry.specs.Ops.{Sector, range_of}
use Rattle.pf_entry.specs.declared.entries.Entry.{Entry}
use Rattle.pf_entry.specs.declared.packets.Packet.{Packet}
use Rattle.pf_entry.specs.declared.packets.Body.{Body}
use Rattle.pf_entry.specs.declared.packets.Body.TheVariants.{RequestVote, Vote, Accept, Ack, Commit}
use Rattle.pf_entry.specs.declared.records.Record.TheVariants.{Entry as EntryRecord, Term as TermRecord, Merged as MergedRecord}
use Rattle.pf_entry.specs.Records.{stored, put_entry, put_entries, add_start, add_merged_start, holds, vote_of}
use Rattle.pf_entry.specs.Voids.{is_void}
use Rattle.pf_entry.specs.Merging.{merged_first, merged_entry, merged_entries, merged_op, op_or_noop, taken, left_of, higher}
use Rattle.pf_entry.specs.Sizes.{packet_size, body_size}
use Rattle.pf_protocol.specs.declared.answers.Answer.TheVariants.{Slot as SlotIs, Term as TermIs, Done, Job as JobIs, Refused}
use Rattle.pf_protocol.specs.declared.answers.Refusal.TheVariants.{NotLeader, NoneFree}
use Rattle.pf_protocol.specs.declared.events.Event.TheVariants.{Submit, Deliver, Elect, Stop, Claim, Finish}
use Rattle.pf_protocol.specs.Servers.{Leader, Server, Candidate, Merging, Serving, Running, Stopped, upto}
use Rattle.pf_protocol.specs.Outcomes.{Outcome, sends}
use Rattle.pf_protocol.specs.Leading.{on_submit, submitted, new_entry, look_behind, op_at, acknowledged, all_acknowledged, on_elect, on_vote, merged, led, on_ack, counted, commit_own}
use Rattle.pf_protocol.specs.Following.{on_request_vote, on_accept, accepted}
use Rattle.pf_protocol.specs.Saving.{restarted, renewed, is_claimable, claimable, claimed, on_finish, applied_op, changed, snapshots_after}
use Rattle.pf_protocol.specs.Rows.{on_message, on_packet, settled}
use Rattle.pf_protocol.specs.Groups.{Group, Whole, opening, first_leader, opening_disk, happens, acted, with_sent}
use Rattle.pf_protocol.specs.Histories.{History, run}
use Rattle.pf_protocol.specs.Answers.{answer_to, room_refusal, most_packets, most_packet_bytes, half_size, most_elections, IsLegal, IsLegalFrom}
use Rattle.pf_protocol.specs.Shown.{ServerShows, small_group, write_at, IsSector, line, so}
use Rattle.pf_protocol.proofs.Replays.{empty_rows, submits, delivers, elects, claims_at_1, finishes, first_is, none_marked, nor_of, none_of, follows}
use Rattle.pf_protocol.proofs.WorkedAnswers.{submit_answer, deliver_answer, elect_answer, finish_answer, claim_answer_1, claim_answer_none, goes_on, is_small_group}
use Rattle.pf_protocol.specs.Groups.{Untouched}
use Rattle.pf_protocol.specs.Answers.{submit_refusal}
use Rattle.pf_protocol.specs.KeptSlot.{kept_slot, KeepsSlot}

-- the states of the servers 0, 1 and 2 are a, b and c, each with its number; l are records of leaders, and g are the group after each event
module _ (first second : Sector) where
  abbrev packet : (from to term : ℕ) → Body → Packet
  packet from to term body = record { from = from; to = to; term = term; body = body }

  abbrev heard : Group → (k from to term : ℕ) → Body → Outcome → Group
  heard g k from to term body o = acted (with_sent g k (record { packet = packet from to term body; delivered = true; lost = false })) to o

  abbrev l0 : Leader
  l0 = record { first = 1; next = 1; b0 = 0; acks = FinMap.empty; known = FinMap.empty }

  abbrev a0 : Server
  a0 = record (restarted 0 0 (opening_disk small_group)) { role = Serving l0 }

  abbrev b0 : Server
  b0 = restarted 1 0 (opening_disk small_group)

  abbrev c0 : Server
  c0 = restarted 2 0 (opening_disk small_group)

  abbrev g0 : Group
  g0 = opening small_group

  -- 1. server 0 takes a submission
  abbrev one : Entry
  one = record { slot = 1; term = 1; first = 1; look = []; op = write_at 0 first }

  abbrev l1 : Leader
  l1 = record l0 { next = 2; acks = acknowledged l0.acks 0 1 }

  abbrev a1 : Server
  a1 = record a0 { durable = stored a0.durable (EntryRecord one); role = Serving l1 }

  rule_1 : on_submit small_group a0 (write_at 0 first) (Serving l0) ≡ record { server = a1; packets = packet 0 1 1 (Accept one) ∷ packet 0 2 1 (Accept one) ∷ []; answer = SlotIs 1; acked = None }
  unfolding on_submit submitted new_entry look_behind restarted opening_disk stored op_at range_of put_entry put_entries led
  rule_1 = refl

  room_1 : room_refusal g0 (record { server = a1; packets = packet 0 1 1 (Accept one) ∷ packet 0 2 1 (Accept one) ∷ []; answer = SlotIs 1; acked = None }) ≡ None
  unfolding room_refusal most_packets most_packet_bytes half_size packet_size body_size opening first_leader restarted opening_disk stored acted settled put_entry put_entries add_start add_merged_start on_elect renewed led
  room_1 = simp (empty_rows, gets)

  abbrev g1 : Group
  g1 = acted g0 0 (record { server = a1; packets = packet 0 1 1 (Accept one) ∷ packet 0 2 1 (Accept one) ∷ []; answer = SlotIs 1; acked = None })

  e1 : happens small_group g0 (Submit 0 (write_at 0 first)) Whole ≡ g1
  unfolding opening first_leader acted settled restarted opening_disk stored on_elect renewed led
  e1 = submits small_group g0 0 (write_at 0 first) a0 _ refl rule_1

  -- 2. a proposal from server 0 comes to server 1
  abbrev b1 : Server
  b1 = record b0 { durable = stored b0.durable (EntryRecord one) }

  rule_2 : on_packet small_group b0 (packet 0 1 1 (Accept one)) ≡ sends b1 (packet 1 0 1 (Ack 1 0) ∷ [])
  unfolding on_packet on_message on_accept accepted restarted opening_disk stored put_entry put_entries holds upto
  rule_2 = simp gets

  room_2 : room_refusal g1 (sends b1 (packet 1 0 1 (Ack 1 0) ∷ [])) ≡ None
  unfolding room_refusal most_packets most_packet_bytes half_size packet_size body_size opening first_leader restarted opening_disk stored acted settled put_entry put_entries add_start add_merged_start on_elect renewed led
  room_2 = simp (empty_rows, gets)

  abbrev g2 : Group
  g2 = heard g1 0 0 1 1 (Accept one) (sends b1 (packet 1 0 1 (Ack 1 0) ∷ []))

  e2 : happens small_group g1 (Deliver 0) Whole ≡ g2
  unfolding opening first_leader acted settled restarted opening_disk stored on_elect renewed led
  e2 = delivers small_group g1 0 (packet 0 1 1 (Accept one)) false b0 _ refl refl rule_2

  -- 3. server 0 stops
  abbrev g3 : Group
  g3 = record g2 { servers = slice_set g2.servers 0 (Stopped 1 a1.durable a1.durable) }

  e3 : happens small_group g2 (Stop 0) Whole ≡ g3
  unfolding happens opening first_leader acted settled restarted opening_disk stored on_elect renewed led
  e3 = refl

  -- 4. server 1 stands for election
  abbrev b2 : Server
  b2 = record b1 { durable = stored b1.durable (TermRecord 2); role = Candidate (vote_of b1.durable) }

  rule_4 : on_elect b1 ≡ record { server = b2; packets = packet 1 0 2 (RequestVote 0) ∷ packet 1 2 2 (RequestVote 0) ∷ []; answer = TermIs 2; acked = None }
  unfolding on_elect restarted opening_disk stored
  rule_4 = refl

  room_4 : room_refusal g3 (record { server = b2; packets = packet 1 0 2 (RequestVote 0) ∷ packet 1 2 2 (RequestVote 0) ∷ []; answer = TermIs 2; acked = None }) ≡ None
  unfolding room_refusal most_packets most_packet_bytes half_size packet_size body_size opening first_leader restarted opening_disk stored acted settled put_entry put_entries add_start add_merged_start on_elect renewed led
  room_4 = simp (empty_rows, gets)

  abbrev g4 : Group
  g4 = acted (record g3 { elections = 1 }) 1 (record { server = b2; packets = packet 1 0 2 (RequestVote 0) ∷ packet 1 2 2 (RequestVote 0) ∷ []; answer = TermIs 2; acked = None })

  e4 : happens small_group g3 (Elect 1) Whole ≡ g4
  unfolding opening first_leader acted settled restarted opening_disk stored on_elect renewed led
  e4 = elects small_group g3 1 b1 _ refl rule_4

  -- 5. a request for a vote from server 1 comes to server 2
  abbrev c1 : Server
  c1 = record c0 { durable = stored c0.durable (TermRecord 2) }

  rule_5 : on_packet small_group c0 (packet 1 2 2 (RequestVote 0)) ≡ sends c1 (packet 2 1 2 (Vote (vote_of c0.durable)) ∷ [])
  unfolding on_packet on_message on_request_vote restarted opening_disk stored
  rule_5 = refl

  room_5 : room_refusal g4 (sends c1 (packet 2 1 2 (Vote (vote_of c0.durable)) ∷ [])) ≡ None
  unfolding room_refusal most_packets most_packet_bytes half_size packet_size body_size opening first_leader restarted opening_disk stored acted settled put_entry put_entries add_start add_merged_start on_elect renewed led
  room_5 = simp (empty_rows, entries-insert, gets)

  abbrev g5 : Group
  g5 = heard g4 4 1 2 2 (RequestVote 0) (sends c1 (packet 2 1 2 (Vote (vote_of c0.durable)) ∷ []))

  e5 : happens small_group g4 (Deliver 4) Whole ≡ g5
  unfolding opening first_leader acted settled restarted opening_disk stored on_elect renewed led
  e5 = delivers small_group g4 4 (packet 1 2 2 (RequestVote 0)) false c0 _ refl refl rule_5

  -- 6. a vote from server 2 comes to server 1
  abbrev m2_1 : Entry
  m2_1 = record { slot = 1; term = 2; first = 2; look = []; op = write_at 0 first }

  first_6 : merged_first 0 (vote_of b1.durable) (vote_of c0.durable) ≡ 2
  unfolding merged_first merged_entries taken left_of higher is_void restarted opening_disk stored put_entry put_entries add_start add_merged_start
  first_6 = simp (entries-insert, empty_rows, gets)

  made_6_1 : merged_entry 2 0 (vote_of b1.durable) (vote_of c0.durable) 1 ≡ m2_1
  unfolding merged_entry merged_op op_or_noop taken left_of higher is_void restarted opening_disk stored put_entry put_entries add_start add_merged_start
  made_6_1 = rw first_6 (simp (entries-insert, empty_rows, gets))

  merge_6 : merged_entries 2 0 (vote_of b1.durable) (vote_of c0.durable) ≡ m2_1 ∷ []
  unfolding merged_entries
  merge_6 = rw (first_6, made_6_1) refl

  abbrev l2 : Leader
  l2 = led 0 2 2 1

  abbrev b3 : Server
  b3 = record b2 { durable = stored b2.durable (MergedRecord 2 2 (m2_1 ∷ [])); role = Merging l2 }

  rule_6 : on_packet small_group b2 (packet 2 1 2 (Vote (vote_of c0.durable))) ≡ sends b3 (packet 1 0 2 (Accept m2_1) ∷ packet 1 2 2 (Accept m2_1) ∷ [])
  unfolding on_packet on_message on_vote merged led restarted opening_disk stored
  rule_6 = rw (first_6, merge_6) refl

  room_6 : room_refusal g5 (sends b3 (packet 1 0 2 (Accept m2_1) ∷ packet 1 2 2 (Accept m2_1) ∷ [])) ≡ None
  unfolding room_refusal most_packets most_packet_bytes half_size packet_size body_size opening first_leader restarted opening_disk stored acted settled put_entry put_entries add_start add_merged_start on_elect renewed led
  room_6 = simp (empty_rows, entries-insert, gets)

  abbrev g6 : Group
  g6 = heard g5 5 2 1 2 (Vote (vote_of c0.durable)) (sends b3 (packet 1 0 2 (Accept m2_1) ∷ packet 1 2 2 (Accept m2_1) ∷ []))

  e6 : happens small_group g5 (Deliver 5) Whole ≡ g6
  unfolding opening first_leader acted settled restarted opening_disk stored on_elect renewed led
  e6 = delivers small_group g5 5 (packet 2 1 2 (Vote (vote_of c0.durable))) false b2 _ refl refl rule_6

  -- 7. server 1 does not serve, and refuses a submission
  abbrev g7 : Group
  g7 = g6

  e7 : happens small_group g6 (Submit 1 (write_at 1 second)) Untouched ≡ g7
  unfolding happens opening first_leader acted settled restarted opening_disk stored on_elect renewed led
  e7 = refl

  -- 8. a proposal from server 1 comes to server 2
  abbrev c2 : Server
  c2 = record c1 { durable = stored c1.durable (EntryRecord m2_1) }

  rule_8 : on_packet small_group c1 (packet 1 2 2 (Accept m2_1)) ≡ sends c2 (packet 2 1 2 (Ack 1 0) ∷ [])
  unfolding on_packet on_message on_accept accepted restarted opening_disk stored put_entry put_entries holds upto
  rule_8 = simp gets

  room_8 : room_refusal g7 (sends c2 (packet 2 1 2 (Ack 1 0) ∷ [])) ≡ None
  unfolding room_refusal most_packets most_packet_bytes half_size packet_size body_size opening first_leader restarted opening_disk stored acted settled put_entry put_entries add_start add_merged_start on_elect renewed led
  room_8 = simp (empty_rows, entries-insert, gets)

  abbrev g8 : Group
  g8 = heard g7 7 1 2 2 (Accept m2_1) (sends c2 (packet 2 1 2 (Ack 1 0) ∷ []))

  e8 : happens small_group g7 (Deliver 7) Whole ≡ g8
  unfolding opening first_leader acted settled restarted opening_disk stored on_elect renewed led
  e8 = delivers small_group g7 7 (packet 1 2 2 (Accept m2_1)) false c1 _ refl refl rule_8

  -- 9. an acknowledgement from server 2 comes to server 1
  abbrev l3 : Leader
  l3 = record l2 { known = FinMap.insert l2.known 2 0; acks = acknowledged l2.acks 2 1 }

  abbrev b4 : Server
  b4 = record b3 { role = Serving l3; committed = Sets.insert b3.committed 1 }

  rule_9 : on_packet small_group b3 (packet 2 1 2 (Ack 1 0)) ≡ record { server = b4; packets = packet 1 2 2 (Commit 1) ∷ []; answer = Done; acked = None }
  unfolding on_packet on_message on_ack commit_own counted acknowledged restarted opening_disk stored put_entry put_entries holds led all_acknowledged
  rule_9 = simp gets

  room_9 : room_refusal g8 (record { server = b4; packets = packet 1 2 2 (Commit 1) ∷ []; answer = Done; acked = None }) ≡ None
  unfolding room_refusal most_packets most_packet_bytes half_size packet_size body_size opening first_leader restarted opening_disk stored acted settled put_entry put_entries add_start add_merged_start on_elect renewed led
  room_9 = simp (empty_rows, entries-insert, gets)

  abbrev g9 : Group
  g9 = heard g8 8 2 1 2 (Ack 1 0) (record { server = b4; packets = packet 1 2 2 (Commit 1) ∷ []; answer = Done; acked = None })

  e9 : happens small_group g8 (Deliver 8) Whole ≡ g9
  unfolding opening first_leader acted settled restarted opening_disk stored on_elect renewed led
  e9 = delivers small_group g8 8 (packet 2 1 2 (Ack 1 0)) false b3 _ refl refl rule_9

  -- 10 and 11. server 1 applies slot 1
  claim_10 : claimable 4096 b4 ≡ Some 1
  unfolding settled restarted opening_disk stored put_entry put_entries is_free range_of merged_entry
  claim_10 = first_is b4 4095 (simp gets)

  op_10 : op_at b4.durable.log 1 ≡ write_at 0 first
  unfolding settled restarted opening_disk stored put_entry put_entries is_free range_of merged_entry op_at
  op_10 = simp gets

  abbrev g10 : Group
  g10 = record g9 { servers = slice_set g9.servers 1 (Running (claimed b4 1)) }

  e10 : happens small_group g9 Claim Whole ≡ g10
  unfolding opening first_leader acted settled restarted opening_disk stored on_elect renewed led
  e10 = claims_at_1 small_group g9 refl b4 1 refl claim_10

  abbrev b5 : Server
  b5 = record b4 { in_hand = FinMap.remove (FinMap.insert b4.in_hand 1 (write_at 0 first)) 1; applied = Sets.insert b4.applied 1; sectors = changed (write_at 0 first) b4.sectors }

  rule_11 : on_finish (claimed b4 1) 0 1 ≡ sends b5 []
  unfolding on_finish applied_op claimed op_at restarted opening_disk stored put_entry put_entries snapshots_after
  rule_11 = simp gets

  abbrev g11 : Group
  g11 = acted g10 1 (sends b5 [])

  e11 : happens small_group g10 (Finish 1 0 1) Whole ≡ g11
  unfolding opening first_leader acted settled restarted opening_disk stored on_elect renewed led
  e11 = finishes small_group g10 1 0 1 (claimed b4 1) _ refl rule_11

  -- 12. server 1 takes a submission
  abbrev two : Entry
  two = record { slot = 2; term = 2; first = 2; look = record { slot = 1; range = record { first = 0; count = 1 } } ∷ []; op = write_at 1 second }

  abbrev l4 : Leader
  l4 = record l3 { next = 3; acks = acknowledged l3.acks 1 2 }

  abbrev b6 : Server
  b6 = record b5 { durable = stored b5.durable (EntryRecord two); role = Serving l4 }

  rule_12 : on_submit small_group b5 (write_at 1 second) (Serving l3) ≡ record { server = b6; packets = packet 1 0 2 (Accept two) ∷ packet 1 2 2 (Accept two) ∷ []; answer = SlotIs 2; acked = None }
  unfolding on_submit submitted new_entry look_behind restarted opening_disk stored op_at range_of put_entry put_entries led
  rule_12 = simp gets

  room_12 : room_refusal g11 (record { server = b6; packets = packet 1 0 2 (Accept two) ∷ packet 1 2 2 (Accept two) ∷ []; answer = SlotIs 2; acked = None }) ≡ None
  unfolding room_refusal most_packets most_packet_bytes half_size packet_size body_size opening first_leader restarted opening_disk stored acted settled put_entry put_entries add_start add_merged_start on_elect renewed led
  room_12 = simp (empty_rows, entries-insert, gets)

  abbrev g12 : Group
  g12 = acted g11 1 (record { server = b6; packets = packet 1 0 2 (Accept two) ∷ packet 1 2 2 (Accept two) ∷ []; answer = SlotIs 2; acked = None })

  e12 : happens small_group g11 (Submit 1 (write_at 1 second)) Whole ≡ g12
  unfolding opening first_leader acted settled restarted opening_disk stored on_elect renewed led
  e12 = submits small_group g11 1 (write_at 1 second) b5 _ refl rule_12

  none_last_1 : claimable 4096 b6 ≡ None
  unfolding settled restarted opening_disk stored put_entry put_entries is_free range_of merged_entry
  none_last_1 =
      let can = λ (slot : ℕ). is_claimable b6 (FinMap.get b6.durable.log slot) slot in
      none_marked b6 4096 (nor_of can Sets.empty 1 (simp gets) (none_of can))

  none_last_2 : claimable 4096 c2 ≡ None
  unfolding settled restarted opening_disk stored put_entry put_entries is_free range_of merged_entry
  none_last_2 =
      let can = λ (slot : ℕ). is_claimable c2 (FinMap.get c2.durable.log slot) slot in
      none_marked c2 4096 (none_of can)

  calm : answer_to small_group g12 Claim ≡ Refused NoneFree
  unfolding opening first_leader acted settled restarted opening_disk stored on_elect renewed led
  calm = claim_answer_none small_group g12 refl none_last_1 none_last_2

  abbrev rest_12 : History
  rest_12 = []

  abbrev rest_11 : History
  rest_11 = so (Submit 1 (write_at 1 second)) (SlotIs 2) ∷ rest_12

  abbrev rest_10 : History
  rest_10 = so (Finish 1 0 1) Done ∷ rest_11

  abbrev rest_9 : History
  rest_9 = so Claim (JobIs (record { server = 1; life = 0; slot = 1; op = write_at 0 first })) ∷ rest_10

  abbrev rest_8 : History
  rest_8 = so (Deliver 8) Done ∷ rest_9

  abbrev rest_7 : History
  rest_7 = so (Deliver 7) Done ∷ rest_8

  abbrev rest_6 : History
  rest_6 = so (Submit 1 (write_at 1 second)) (Refused NotLeader) ∷ rest_7

  abbrev rest_5 : History
  rest_5 = so (Deliver 5) Done ∷ rest_6

  abbrev rest_4 : History
  rest_4 = so (Deliver 4) Done ∷ rest_5

  abbrev rest_3 : History
  rest_3 = so (Elect 1) (TermIs 2) ∷ rest_4

  abbrev rest_2 : History
  rest_2 = so (Stop 0) Done ∷ rest_3

  abbrev rest_1 : History
  rest_1 = so (Deliver 0) Done ∷ rest_2

  abbrev rest_0 : History
  rest_0 = so (Submit 0 (write_at 0 first)) (SlotIs 1) ∷ rest_1

  replayed_12 : run small_group g12 rest_12 ≡ g12
  replayed_12 = refl

  replayed_11 : run small_group g11 rest_11 ≡ g12
  replayed_11 = follows small_group g11 g12 g12 (so (Submit 1 (write_at 1 second)) (SlotIs 2)) rest_12 e12 replayed_12

  replayed_10 : run small_group g10 rest_10 ≡ g12
  replayed_10 = follows small_group g10 g11 g12 (so (Finish 1 0 1) Done) rest_11 e11 replayed_11

  replayed_9 : run small_group g9 rest_9 ≡ g12
  replayed_9 = follows small_group g9 g10 g12 (so Claim (JobIs (record { server = 1; life = 0; slot = 1; op = write_at 0 first }))) rest_10 e10 replayed_10

  replayed_8 : run small_group g8 rest_8 ≡ g12
  replayed_8 = follows small_group g8 g9 g12 (so (Deliver 8) Done) rest_9 e9 replayed_9

  replayed_7 : run small_group g7 rest_7 ≡ g12
  replayed_7 = follows small_group g7 g8 g12 (so (Deliver 7) Done) rest_8 e8 replayed_8

  replayed_6 : run small_group g6 rest_6 ≡ g12
  replayed_6 = follows small_group g6 g7 g12 (so (Submit 1 (write_at 1 second)) (Refused NotLeader)) rest_7 e7 replayed_7

  replayed_5 : run small_group g5 rest_5 ≡ g12
  replayed_5 = follows small_group g5 g6 g12 (so (Deliver 5) Done) rest_6 e6 replayed_6

  replayed_4 : run small_group g4 rest_4 ≡ g12
  replayed_4 = follows small_group g4 g5 g12 (so (Deliver 4) Done) rest_5 e5 replayed_5

  replayed_3 : run small_group g3 rest_3 ≡ g12
  replayed_3 = follows small_group g3 g4 g12 (so (Elect 1) (TermIs 2)) rest_4 e4 replayed_4

  replayed_2 : run small_group g2 rest_2 ≡ g12
  replayed_2 = follows small_group g2 g3 g12 (so (Stop 0) Done) rest_3 e3 replayed_3

  replayed_1 : run small_group g1 rest_1 ≡ g12
  replayed_1 = follows small_group g1 g2 g12 (so (Deliver 0) Done) rest_2 e2 replayed_2

  replayed_0 : run small_group g0 rest_0 ≡ g12
  replayed_0 = follows small_group g0 g1 g12 (so (Submit 0 (write_at 0 first)) (SlotIs 1)) rest_1 e1 replayed_1

  answer_12 : answer_to small_group g11 (Submit 1 (write_at 1 second)) ≡ SlotIs 2
  unfolding opening first_leader acted settled restarted opening_disk stored on_elect renewed led range_of
  answer_12 = submit_answer small_group g11 1 (write_at 1 second) b5 _ refl refl refl refl refl rule_12 room_12

  answer_11 : answer_to small_group g10 (Finish 1 0 1) ≡ Done
  unfolding opening first_leader acted settled restarted opening_disk stored on_elect renewed led
  answer_11 = finish_answer small_group g10 1 0 1 (claimed b4 1) _ refl rule_11

  answer_10 : answer_to small_group g9 Claim ≡ JobIs (record { server = 1; life = 0; slot = 1; op = write_at 0 first })
  unfolding opening first_leader acted settled restarted opening_disk stored on_elect renewed led
  answer_10 = claim_answer_1 small_group g9 refl b4 1 refl claim_10 ∙ ap (λ x. JobIs (record { server = 1; life = 0; slot = 1; op = x })) op_10

  answer_9 : answer_to small_group g8 (Deliver 8) ≡ Done
  unfolding opening first_leader acted settled restarted opening_disk stored on_elect renewed led
  answer_9 = deliver_answer small_group g8 8 (packet 2 1 2 (Ack 1 0)) false b3 _ refl refl rule_9 room_9

  answer_8 : answer_to small_group g7 (Deliver 7) ≡ Done
  unfolding opening first_leader acted settled restarted opening_disk stored on_elect renewed led
  answer_8 = deliver_answer small_group g7 7 (packet 1 2 2 (Accept m2_1)) false c1 _ refl refl rule_8 room_8

  answer_7 : answer_to small_group g6 (Submit 1 (write_at 1 second)) ≡ Refused NotLeader
  unfolding answer_to submit_refusal range_of opening first_leader acted settled restarted opening_disk stored on_elect renewed led
  answer_7 = refl

  answer_6 : answer_to small_group g5 (Deliver 5) ≡ Done
  unfolding opening first_leader acted settled restarted opening_disk stored on_elect renewed led
  answer_6 = deliver_answer small_group g5 5 (packet 2 1 2 (Vote (vote_of c0.durable))) false b2 _ refl refl rule_6 room_6

  answer_5 : answer_to small_group g4 (Deliver 4) ≡ Done
  unfolding opening first_leader acted settled restarted opening_disk stored on_elect renewed led
  answer_5 = deliver_answer small_group g4 4 (packet 1 2 2 (RequestVote 0)) false c0 _ refl refl rule_5 room_5

  answer_4 : answer_to small_group g3 (Elect 1) ≡ TermIs 2
  unfolding opening first_leader acted settled restarted opening_disk stored on_elect renewed led most_elections
  answer_4 = elect_answer small_group g3 1 b1 _ refl refl rule_4 room_4

  answer_3 : answer_to small_group g2 (Stop 0) ≡ Done
  unfolding answer_to opening first_leader acted settled restarted opening_disk stored on_elect renewed led
  answer_3 = refl

  answer_2 : answer_to small_group g1 (Deliver 0) ≡ Done
  unfolding opening first_leader acted settled restarted opening_disk stored on_elect renewed led
  answer_2 = deliver_answer small_group g1 0 (packet 0 1 1 (Accept one)) false b0 _ refl refl rule_2 room_2

  answer_1 : answer_to small_group g0 (Submit 0 (write_at 0 first)) ≡ SlotIs 1
  unfolding opening first_leader acted settled restarted opening_disk stored on_elect renewed led range_of
  answer_1 = submit_answer small_group g0 0 (write_at 0 first) a0 _ refl refl refl refl refl rule_1 room_1

  acked_last : g12.acked ≡ []
  unfolding opening first_leader acted settled restarted opening_disk stored on_elect renewed led
  acked_last = refl

  shown_1 : ServerShows g12 1 2 0 (line 1 2 (write_at 0 first) true ∷ line 2 2 (write_at 1 second) false ∷ []) (1 ∷ [])
  unfolding opening first_leader acted settled restarted opening_disk stored on_elect renewed led put_entry put_entries
  shown_1 = record { server = b6; runs = refl; its_term = refl; its_base = refl; its_log = simp (entries-insert, empty_rows, gets); its_applied = simp (entries-insert, empty_rows, nat_cmp_total) }

  pub shows : KeepsSlot first second
  shows = record { calm = ap (λ (g : Group). answer_to small_group g Claim) replayed_0 ∙ calm; acked = ap (λ (g : Group). g.acked) replayed_0 ∙ acked_last; shown_1 = rw replayed_0 shown_1 }

  -- with whole sectors the history is one that the group can have
  module _ (length_first : IsSector first) (length_second : IsSector second) where
    legal_12 : IsLegalFrom small_group g12 ([]) rest_12
    legal_12 = tt

    legal_11 : IsLegalFrom small_group g11 ([]) rest_11
    legal_11 = goes_on small_group g11 g12 ([]) (so (Submit 1 (write_at 1 second)) (SlotIs 2)) rest_12 (omega arith, (record { some = omega arith; few = omega arith; low = omega arith }, refl, (length_second, tt))) answer_12 e12 legal_12

    legal_10 : IsLegalFrom small_group g10 (record { server = 1; life = 0; slot = 1; op = write_at 0 first } ∷ []) rest_10
    legal_10 = goes_on small_group g10 g11 (record { server = 1; life = 0; slot = 1; op = write_at 0 first } ∷ []) (so (Finish 1 0 1) Done) rest_11 refl answer_11 e11 legal_11

    legal_9 : IsLegalFrom small_group g9 ([]) rest_9
    legal_9 = goes_on small_group g9 g10 ([]) (so Claim (JobIs (record { server = 1; life = 0; slot = 1; op = write_at 0 first }))) rest_10 tt answer_10 e10 legal_10

    legal_8 : IsLegalFrom small_group g8 ([]) rest_8
    legal_8 = goes_on small_group g8 g9 ([]) (so (Deliver 8) Done) rest_9 tt answer_9 e9 legal_9

    legal_7 : IsLegalFrom small_group g7 ([]) rest_7
    legal_7 = goes_on small_group g7 g8 ([]) (so (Deliver 7) Done) rest_8 tt answer_8 e8 legal_8

    legal_6 : IsLegalFrom small_group g6 ([]) rest_6
    legal_6 = goes_on small_group g6 g7 ([]) (so (Submit 1 (write_at 1 second)) (Refused NotLeader)) rest_7 (omega arith, (record { some = omega arith; few = omega arith; low = omega arith }, refl, (length_second, tt))) answer_7 e7 legal_7

    legal_5 : IsLegalFrom small_group g5 ([]) rest_5
    legal_5 = goes_on small_group g5 g6 ([]) (so (Deliver 5) Done) rest_6 tt answer_6 e6 legal_6

    legal_4 : IsLegalFrom small_group g4 ([]) rest_4
    legal_4 = goes_on small_group g4 g5 ([]) (so (Deliver 4) Done) rest_5 tt answer_5 e5 legal_5

    legal_3 : IsLegalFrom small_group g3 ([]) rest_3
    legal_3 = goes_on small_group g3 g4 ([]) (so (Elect 1) (TermIs 2)) rest_4 (omega arith) answer_4 e4 legal_4

    legal_2 : IsLegalFrom small_group g2 ([]) rest_2
    legal_2 = goes_on small_group g2 g3 ([]) (so (Stop 0) Done) rest_3 (omega arith) answer_3 e3 legal_3

    legal_1 : IsLegalFrom small_group g1 ([]) rest_1
    legal_1 = goes_on small_group g1 g2 ([]) (so (Deliver 0) Done) rest_2 tt answer_2 e2 legal_2

    legal_0 : IsLegalFrom small_group g0 ([]) rest_0
    legal_0 = goes_on small_group g0 g1 ([]) (so (Submit 0 (write_at 0 first)) (SlotIs 1)) rest_1 (omega arith, (record { some = omega arith; few = omega arith; low = omega arith }, refl, (length_first, tt))) answer_1 e1 legal_1

    pub legal : IsLegal small_group (kept_slot first second)
    legal = record { is_setup = is_small_group; legal = legal_0 }
