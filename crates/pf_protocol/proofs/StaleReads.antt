-- A deposed leader is asked to read, event by event.
use Rattle.std.proofs.Common.{◌≡◌, ℕ, true, false, [], ◌∷◌, Some, None, refl, ap, ◌∙◌, arith}
use Rattle.std.specs.Prelude.{slice_set}
use Rattle.std.specs.FinMap
use Rattle.std.specs.FinMap.{gets, entries-insert}
use Rattle.pf_entry.specs.Sets
use Rattle.pf_entry.specs.Applying.{is_free}
use Rattle.pf_entry.specs.Ops.{Sector, range_of}
use Rattle.pf_entry.specs.declared.entries.Entry.{Entry}
use Rattle.pf_entry.specs.declared.packets.Packet.{Packet}
use Rattle.pf_entry.specs.declared.packets.Body.{Body}
use Rattle.pf_entry.specs.declared.packets.Body.TheVariants.{RequestVote, Vote, Accept, Ack, Nack, Commit, Probe, ProbeOk}
use Rattle.pf_entry.specs.declared.records.Record.TheVariants.{Entry as EntryRecord, Term as TermRecord, Merged as MergedRecord}
use Rattle.pf_entry.specs.Records.{stored, put_entry, put_entries, add_start, add_merged_start, holds, vote_of}
use Rattle.pf_entry.specs.Voids.{is_void}
use Rattle.pf_entry.specs.Merging.{merged_first, merged_entry, merged_entries, taken, left_of, higher}
use Rattle.pf_entry.specs.Sizes.{packet_size, body_size}
use Rattle.pf_protocol.specs.declared.answers.Answer.TheVariants.{Slot as SlotIs, Term as TermIs, Read as ReadIs, Done, Job as JobIs, Refused}
use Rattle.pf_protocol.specs.declared.answers.Refusal.TheVariants.{NotLeader, NoneFree}
use Rattle.pf_protocol.specs.declared.events.Event.TheVariants.{Submit, Fetch, Deliver, Elect, Claim, Finish}
use Rattle.pf_protocol.specs.Servers.{Leader, Server, Follower, Candidate, Serving, Running, upto}
use Rattle.pf_protocol.specs.Outcomes.{Outcome, sends}
use Rattle.pf_protocol.specs.Leading.{on_submit, submitted, new_entry, look_behind, op_at, acknowledged, all_acknowledged, on_fetch, on_elect, on_vote, merged, led, on_ack, counted, commit_own, on_probe_ok}
use Rattle.pf_protocol.specs.Following.{on_request_vote, on_accept, accepted, on_nack, on_probe}
use Rattle.pf_protocol.specs.Saving.{restarted, renewed, is_claimable, claimable, claimed, on_finish, applied_op, changed, snapshots_after}
use Rattle.pf_protocol.specs.Rows.{on_message, on_packet, settled}
use Rattle.pf_protocol.specs.Groups.{Group, Whole, opening, first_leader, opening_disk, happens, acted, with_sent}
use Rattle.pf_protocol.specs.Histories.{History, run}
use Rattle.pf_protocol.specs.Answers.{answer_to, room_refusal, most_packets, most_packet_bytes, half_size, most_elections, IsLegal, IsLegalFrom}
use Rattle.pf_protocol.specs.Shown.{small_group, write_at, IsSector, so}
use Rattle.pf_protocol.proofs.Replays.{empty_rows, submits, fetches, delivers, elects, claims_at_1, finishes, first_is, none_marked, nor_of, none_of, follows}
use Rattle.pf_protocol.proofs.WorkedAnswers.{submit_answer, fetch_answer, deliver_answer, elect_answer, finish_answer, claim_answer_1, claim_answer_none, goes_on, is_small_group}
use Rattle.std.specs.Prelude.{not, ◌&&◌}
use Rattle.pf_base.specs.Span.{overlaps}
use Rattle.pf_entry.specs.Ops.{writes, written}
use Rattle.pf_entry.specs.Sets.{from_items}
use Rattle.pf_protocol.specs.Servers.{has_applied}
use Rattle.pf_protocol.specs.Groups.{Untouched}
use Rattle.pf_protocol.specs.Answers.{fetch_refusal}
use Rattle.pf_protocol.proofs.Replays.{retains_none}
use Rattle.pf_protocol.specs.StaleReads.{stale_read, ReadsAtTheLeader}

-- the states of the servers 0, 1 and 2 are a, b and c, each with its number; l are records of leaders, and g are the group after each event
module _ (first : Sector) where
  abbrev packet : (from to term : ℕ) → Body → Packet
  packet from to term body = record { from = from; to = to; term = term; body = body }

  abbrev heard : Group → (k from to term : ℕ) → Body → Outcome → Group
  heard g k from to term body o = acted (with_sent g k (record { packet = packet from to term body; delivered = true; lost = false })) to o

  abbrev l0 : Leader
  l0 = record { first = 1; next = 1; b0 = 0; acks = FinMap.empty; known = FinMap.empty }

  abbrev a0 : Server
  a0 = record (restarted 0 0 (opening_disk small_group)) { role = Serving l0 }

  abbrev b0 : Server
  b0 = restarted 1 0 (opening_disk small_group)

  abbrev c0 : Server
  c0 = restarted 2 0 (opening_disk small_group)

  abbrev g0 : Group
  g0 = opening small_group

  -- 1. server 1 stands for election
  abbrev b1 : Server
  b1 = record b0 { durable = stored b0.durable (TermRecord 2); role = Candidate (vote_of b0.durable) }

  rule_1 : on_elect b0 ≡ record { server = b1; packets = packet 1 0 2 (RequestVote 0) ∷ packet 1 2 2 (RequestVote 0) ∷ []; answer = TermIs 2; acked = None }
  unfolding on_elect restarted opening_disk stored
  rule_1 = refl

  room_1 : room_refusal g0 (record { server = b1; packets = packet 1 0 2 (RequestVote 0) ∷ packet 1 2 2 (RequestVote 0) ∷ []; answer = TermIs 2; acked = None }) ≡ None
  unfolding room_refusal most_packets most_packet_bytes half_size packet_size body_size opening first_leader restarted opening_disk stored acted settled put_entry put_entries add_start add_merged_start on_elect renewed led
  room_1 = simp (empty_rows, gets)

  abbrev g1 : Group
  g1 = acted (record g0 { elections = 1 }) 1 (record { server = b1; packets = packet 1 0 2 (RequestVote 0) ∷ packet 1 2 2 (RequestVote 0) ∷ []; answer = TermIs 2; acked = None })

  e1 : happens small_group g0 (Elect 1) Whole ≡ g1
  unfolding opening first_leader acted settled restarted opening_disk stored on_elect renewed led
  e1 = elects small_group g0 1 b0 _ refl rule_1

  -- 2. a request for a vote from server 1 comes to server 2
  abbrev c1 : Server
  c1 = record c0 { durable = stored c0.durable (TermRecord 2) }

  rule_2 : on_packet small_group c0 (packet 1 2 2 (RequestVote 0)) ≡ sends c1 (packet 2 1 2 (Vote (vote_of c0.durable)) ∷ [])
  unfolding on_packet on_message on_request_vote restarted opening_disk stored
  rule_2 = refl

  room_2 : room_refusal g1 (sends c1 (packet 2 1 2 (Vote (vote_of c0.durable)) ∷ [])) ≡ None
  unfolding room_refusal most_packets most_packet_bytes half_size packet_size body_size opening first_leader restarted opening_disk stored acted settled put_entry put_entries add_start add_merged_start on_elect renewed led
  room_2 = simp (empty_rows, entries-insert, gets)

  abbrev g2 : Group
  g2 = heard g1 1 1 2 2 (RequestVote 0) (sends c1 (packet 2 1 2 (Vote (vote_of c0.durable)) ∷ []))

  e2 : happens small_group g1 (Deliver 1) Whole ≡ g2
  unfolding opening first_leader acted settled restarted opening_disk stored on_elect renewed led
  e2 = delivers small_group g1 1 (packet 1 2 2 (RequestVote 0)) false c0 _ refl refl rule_2

  -- 3. a vote from server 2 comes to server 1
  first_3 : merged_first 0 (vote_of b0.durable) (vote_of c0.durable) ≡ 1
  unfolding merged_first merged_entries taken left_of higher is_void restarted opening_disk stored put_entry put_entries add_start add_merged_start
  first_3 = simp (entries-insert, empty_rows, gets)

  merge_3 : merged_entries 2 0 (vote_of b0.durable) (vote_of c0.durable) ≡ []
  unfolding merged_entries
  merge_3 = rw (first_3) refl

  abbrev l1 : Leader
  l1 = led 0 1 1 1

  abbrev b2 : Server
  b2 = record b1 { durable = stored b1.durable (MergedRecord 2 1 ([])); role = Serving l1 }

  rule_3 : on_packet small_group b1 (packet 2 1 2 (Vote (vote_of c0.durable))) ≡ sends b2 []
  unfolding on_packet on_message on_vote merged led restarted opening_disk stored
  rule_3 = rw (first_3, merge_3) refl

  room_3 : room_refusal g2 (sends b2 []) ≡ None
  unfolding room_refusal most_packets most_packet_bytes half_size packet_size body_size opening first_leader restarted opening_disk stored acted settled put_entry put_entries add_start add_merged_start on_elect renewed led
  room_3 = simp (empty_rows, entries-insert, gets)

  abbrev g3 : Group
  g3 = heard g2 2 2 1 2 (Vote (vote_of c0.durable)) (sends b2 [])

  e3 : happens small_group g2 (Deliver 2) Whole ≡ g3
  unfolding opening first_leader acted settled restarted opening_disk stored on_elect renewed led
  e3 = delivers small_group g2 2 (packet 2 1 2 (Vote (vote_of c0.durable))) false b1 _ refl refl rule_3

  -- 4. server 1 takes a submission
  abbrev one : Entry
  one = record { slot = 1; term = 2; first = 1; look = []; op = write_at 0 first }

  abbrev l2 : Leader
  l2 = record l1 { next = 2; acks = acknowledged l1.acks 1 1 }

  abbrev b3 : Server
  b3 = record b2 { durable = stored b2.durable (EntryRecord one); role = Serving l2 }

  rule_4 : on_submit small_group b2 (write_at 0 first) (Serving l1) ≡ record { server = b3; packets = packet 1 0 2 (Accept one) ∷ packet 1 2 2 (Accept one) ∷ []; answer = SlotIs 1; acked = None }
  unfolding on_submit submitted new_entry look_behind restarted opening_disk stored op_at range_of put_entry put_entries led
  rule_4 = refl

  room_4 : room_refusal g3 (record { server = b3; packets = packet 1 0 2 (Accept one) ∷ packet 1 2 2 (Accept one) ∷ []; answer = SlotIs 1; acked = None }) ≡ None
  unfolding room_refusal most_packets most_packet_bytes half_size packet_size body_size opening first_leader restarted opening_disk stored acted settled put_entry put_entries add_start add_merged_start on_elect renewed led
  room_4 = simp (empty_rows, entries-insert, gets)

  abbrev g4 : Group
  g4 = acted g3 1 (record { server = b3; packets = packet 1 0 2 (Accept one) ∷ packet 1 2 2 (Accept one) ∷ []; answer = SlotIs 1; acked = None })

  e4 : happens small_group g3 (Submit 1 (write_at 0 first)) Whole ≡ g4
  unfolding opening first_leader acted settled restarted opening_disk stored on_elect renewed led
  e4 = submits small_group g3 1 (write_at 0 first) b2 _ refl rule_4

  -- 5. a proposal from server 1 comes to server 2
  abbrev c2 : Server
  c2 = record c1 { durable = stored c1.durable (EntryRecord one) }

  rule_5 : on_packet small_group c1 (packet 1 2 2 (Accept one)) ≡ sends c2 (packet 2 1 2 (Ack 1 0) ∷ [])
  unfolding on_packet on_message on_accept accepted restarted opening_disk stored put_entry put_entries holds upto
  rule_5 = simp gets

  room_5 : room_refusal g4 (sends c2 (packet 2 1 2 (Ack 1 0) ∷ [])) ≡ None
  unfolding room_refusal most_packets most_packet_bytes half_size packet_size body_size opening first_leader restarted opening_disk stored acted settled put_entry put_entries add_start add_merged_start on_elect renewed led
  room_5 = simp (empty_rows, entries-insert, gets)

  abbrev g5 : Group
  g5 = heard g4 4 1 2 2 (Accept one) (sends c2 (packet 2 1 2 (Ack 1 0) ∷ []))

  e5 : happens small_group g4 (Deliver 4) Whole ≡ g5
  unfolding opening first_leader acted settled restarted opening_disk stored on_elect renewed led
  e5 = delivers small_group g4 4 (packet 1 2 2 (Accept one)) false c1 _ refl refl rule_5

  -- 6. an acknowledgement from server 2 comes to server 1
  abbrev l3 : Leader
  l3 = record l2 { known = FinMap.insert l2.known 2 0; acks = acknowledged l2.acks 2 1 }

  abbrev b4 : Server
  b4 = record b3 { role = Serving l3; committed = Sets.insert b3.committed 1 }

  rule_6 : on_packet small_group b3 (packet 2 1 2 (Ack 1 0)) ≡ record { server = b4; packets = packet 1 2 2 (Commit 1) ∷ []; answer = Done; acked = Some 1 }
  unfolding on_packet on_message on_ack commit_own counted acknowledged restarted opening_disk stored put_entry put_entries holds led all_acknowledged
  rule_6 = simp gets

  room_6 : room_refusal g5 (record { server = b4; packets = packet 1 2 2 (Commit 1) ∷ []; answer = Done; acked = Some 1 }) ≡ None
  unfolding room_refusal most_packets most_packet_bytes half_size packet_size body_size opening first_leader restarted opening_disk stored acted settled put_entry put_entries add_start add_merged_start on_elect renewed led
  room_6 = simp (empty_rows, entries-insert, gets)

  abbrev g6 : Group
  g6 = heard g5 5 2 1 2 (Ack 1 0) (record { server = b4; packets = packet 1 2 2 (Commit 1) ∷ []; answer = Done; acked = Some 1 })

  e6 : happens small_group g5 (Deliver 5) Whole ≡ g6
  unfolding opening first_leader acted settled restarted opening_disk stored on_elect renewed led
  e6 = delivers small_group g5 5 (packet 2 1 2 (Ack 1 0)) false b3 _ refl refl rule_6

  -- 7 and 8. server 1 applies slot 1
  none_7_0 : claimable 4096 a0 ≡ None
  unfolding settled restarted opening_disk stored put_entry put_entries is_free range_of merged_entry
  none_7_0 =
      let can = λ (slot : ℕ). is_claimable a0 (FinMap.get a0.durable.log slot) slot in
      none_marked a0 4096 (none_of can)

  claim_7 : claimable 4096 b4 ≡ Some 1
  unfolding settled restarted opening_disk stored put_entry put_entries is_free range_of merged_entry
  claim_7 = first_is b4 4095 (simp gets)

  op_7 : op_at b4.durable.log 1 ≡ write_at 0 first
  unfolding settled restarted opening_disk stored put_entry put_entries is_free range_of merged_entry op_at
  op_7 = simp gets

  abbrev g7 : Group
  g7 = record g6 { servers = slice_set g6.servers 1 (Running (claimed b4 1)) }

  e7 : happens small_group g6 Claim Whole ≡ g7
  unfolding opening first_leader acted settled restarted opening_disk stored on_elect renewed led
  e7 = claims_at_1 small_group g6 none_7_0 b4 1 refl claim_7

  abbrev b5 : Server
  b5 = record b4 { in_hand = FinMap.remove (FinMap.insert b4.in_hand 1 (write_at 0 first)) 1; applied = Sets.insert b4.applied 1; sectors = changed (write_at 0 first) b4.sectors }

  rule_8 : on_finish (claimed b4 1) 0 1 ≡ sends b5 []
  unfolding on_finish applied_op claimed op_at restarted opening_disk stored put_entry put_entries snapshots_after
  rule_8 = simp gets

  abbrev g8 : Group
  g8 = acted g7 1 (sends b5 [])

  e8 : happens small_group g7 (Finish 1 0 1) Whole ≡ g8
  unfolding opening first_leader acted settled restarted opening_disk stored on_elect renewed led
  e8 = finishes small_group g7 1 0 1 (claimed b4 1) _ refl rule_8

  -- 9. server 0 is asked to read
  waits_9 : Sets.retain a0.committed (λ slot. not (has_applied a0 slot) && overlaps (range_of (op_at a0.durable.log slot)) (record { first = 0; count = 1 })) ≡ Sets.empty
  unfolding settled restarted opening_disk stored put_entry put_entries is_free range_of merged_entry op_at
  waits_9 =
      let waits = λ (slot : ℕ). not (has_applied a0 slot) && overlaps (range_of (op_at a0.durable.log slot)) (record { first = 0; count = 1 }) in
      retains_none a0.committed waits (none_of waits)

  abbrev a1 : Server
  a1 = record a0 { reads = record { number = 0; range = record { first = 0; count = 1 }; waits_for = Sets.empty; confirmed = false } ∷ [] }

  rule_9 : on_fetch a0 (record { first = 0; count = 1 }) 0 (Serving l0) ≡ record { server = a1; packets = packet 0 1 1 (Probe 0) ∷ packet 0 2 1 (Probe 0) ∷ []; answer = ReadIs 0; acked = None }
  unfolding on_fetch restarted opening_disk stored led
  rule_9 = rw waits_9 refl

  room_9 : room_refusal g8 (record { server = a1; packets = packet 0 1 1 (Probe 0) ∷ packet 0 2 1 (Probe 0) ∷ []; answer = ReadIs 0; acked = None }) ≡ None
  unfolding room_refusal most_packets most_packet_bytes half_size packet_size body_size opening first_leader restarted opening_disk stored acted settled put_entry put_entries add_start add_merged_start on_elect renewed led
  room_9 = simp (empty_rows, entries-insert, gets)

  abbrev g9 : Group
  g9 = acted g8 0 (record { server = a1; packets = packet 0 1 1 (Probe 0) ∷ packet 0 2 1 (Probe 0) ∷ []; answer = ReadIs 0; acked = None })

  e9 : happens small_group g8 (Fetch 0 (record { first = 0; count = 1 })) Whole ≡ g9
  unfolding opening first_leader acted settled restarted opening_disk stored on_elect renewed led
  e9 = fetches small_group g8 0 (record { first = 0; count = 1 }) a0 _ refl rule_9

  -- 10. a probe from server 0 comes to server 1
  rule_10 : on_packet small_group b5 (packet 0 1 1 (Probe 0)) ≡ sends b5 (packet 1 0 2 Nack ∷ [])
  unfolding on_packet on_message on_probe restarted opening_disk stored upto
  rule_10 = refl

  room_10 : room_refusal g9 (sends b5 (packet 1 0 2 Nack ∷ [])) ≡ None
  unfolding room_refusal most_packets most_packet_bytes half_size packet_size body_size opening first_leader restarted opening_disk stored acted settled put_entry put_entries add_start add_merged_start on_elect renewed led
  room_10 = simp (empty_rows, entries-insert, gets)

  abbrev g10 : Group
  g10 = heard g9 7 0 1 1 (Probe 0) (sends b5 (packet 1 0 2 Nack ∷ []))

  e10 : happens small_group g9 (Deliver 7) Whole ≡ g10
  unfolding opening first_leader acted settled restarted opening_disk stored on_elect renewed led
  e10 = delivers small_group g9 7 (packet 0 1 1 (Probe 0)) false b5 _ refl refl rule_10

  -- 11. a probe from server 0 comes to server 2
  rule_11 : on_packet small_group c2 (packet 0 2 1 (Probe 0)) ≡ sends c2 (packet 2 0 2 Nack ∷ [])
  unfolding on_packet on_message on_probe restarted opening_disk stored upto
  rule_11 = refl

  room_11 : room_refusal g10 (sends c2 (packet 2 0 2 Nack ∷ [])) ≡ None
  unfolding room_refusal most_packets most_packet_bytes half_size packet_size body_size opening first_leader restarted opening_disk stored acted settled put_entry put_entries add_start add_merged_start on_elect renewed led
  room_11 = simp (empty_rows, entries-insert, gets)

  abbrev g11 : Group
  g11 = heard g10 8 0 2 1 (Probe 0) (sends c2 (packet 2 0 2 Nack ∷ []))

  e11 : happens small_group g10 (Deliver 8) Whole ≡ g11
  unfolding opening first_leader acted settled restarted opening_disk stored on_elect renewed led
  e11 = delivers small_group g10 8 (packet 0 2 1 (Probe 0)) false c2 _ refl refl rule_11

  -- 12. a refusal from server 1 comes to server 0
  abbrev a2 : Server
  a2 = record a1 { durable = stored a1.durable (TermRecord 2); role = Follower; reads = [] }

  rule_12 : on_packet small_group a1 (packet 1 0 2 Nack) ≡ sends a2 []
  unfolding on_packet on_message on_nack restarted opening_disk stored
  rule_12 = refl

  room_12 : room_refusal g11 (sends a2 []) ≡ None
  unfolding room_refusal most_packets most_packet_bytes half_size packet_size body_size opening first_leader restarted opening_disk stored acted settled put_entry put_entries add_start add_merged_start on_elect renewed led
  room_12 = simp (empty_rows, entries-insert, gets)

  abbrev g12 : Group
  g12 = heard g11 9 1 0 2 Nack (sends a2 [])

  e12 : happens small_group g11 (Deliver 9) Whole ≡ g12
  unfolding opening first_leader acted settled restarted opening_disk stored on_elect renewed led
  e12 = delivers small_group g11 9 (packet 1 0 2 Nack) false a1 _ refl refl rule_12

  -- 13. server 0 is asked to read
  abbrev g13 : Group
  g13 = g12

  e13 : happens small_group g12 (Fetch 0 (record { first = 0; count = 1 })) Untouched ≡ g13
  unfolding happens opening first_leader acted settled restarted opening_disk stored on_elect renewed led
  e13 = refl

  -- 14. server 1 is asked to read
  waits_14 : Sets.retain b5.committed (λ slot. not (has_applied b5 slot) && overlaps (range_of (op_at b5.durable.log slot)) (record { first = 0; count = 1 })) ≡ Sets.empty
  unfolding settled restarted opening_disk stored put_entry put_entries is_free range_of merged_entry op_at
  waits_14 =
      let waits = λ (slot : ℕ). not (has_applied b5 slot) && overlaps (range_of (op_at b5.durable.log slot)) (record { first = 0; count = 1 }) in
      retains_none b5.committed waits (nor_of waits Sets.empty 1 (simp gets) (none_of waits))

  abbrev b6 : Server
  b6 = record b5 { reads = record { number = 1; range = record { first = 0; count = 1 }; waits_for = Sets.empty; confirmed = false } ∷ [] }

  rule_14 : on_fetch b5 (record { first = 0; count = 1 }) 1 (Serving l3) ≡ record { server = b6; packets = packet 1 0 2 (Probe 1) ∷ packet 1 2 2 (Probe 1) ∷ []; answer = ReadIs 1; acked = None }
  unfolding on_fetch restarted opening_disk stored led
  rule_14 = rw waits_14 refl

  room_14 : room_refusal g13 (record { server = b6; packets = packet 1 0 2 (Probe 1) ∷ packet 1 2 2 (Probe 1) ∷ []; answer = ReadIs 1; acked = None }) ≡ None
  unfolding room_refusal most_packets most_packet_bytes half_size packet_size body_size opening first_leader restarted opening_disk stored acted settled put_entry put_entries add_start add_merged_start on_elect renewed led
  room_14 = simp (empty_rows, entries-insert, gets)

  abbrev g14 : Group
  g14 = acted g13 1 (record { server = b6; packets = packet 1 0 2 (Probe 1) ∷ packet 1 2 2 (Probe 1) ∷ []; answer = ReadIs 1; acked = None })

  e14 : happens small_group g13 (Fetch 1 (record { first = 0; count = 1 })) Whole ≡ g14
  unfolding opening first_leader acted settled restarted opening_disk stored on_elect renewed led
  e14 = fetches small_group g13 1 (record { first = 0; count = 1 }) b5 _ refl rule_14

  -- 15. a probe from server 1 comes to server 2
  rule_15 : on_packet small_group c2 (packet 1 2 2 (Probe 1)) ≡ sends c2 (packet 2 1 2 (ProbeOk 1 0) ∷ [])
  unfolding on_packet on_message on_probe restarted opening_disk stored upto
  rule_15 = simp gets

  room_15 : room_refusal g14 (sends c2 (packet 2 1 2 (ProbeOk 1 0) ∷ [])) ≡ None
  unfolding room_refusal most_packets most_packet_bytes half_size packet_size body_size opening first_leader restarted opening_disk stored acted settled put_entry put_entries add_start add_merged_start on_elect renewed led
  room_15 = simp (empty_rows, entries-insert, gets)

  abbrev g15 : Group
  g15 = heard g14 12 1 2 2 (Probe 1) (sends c2 (packet 2 1 2 (ProbeOk 1 0) ∷ []))

  e15 : happens small_group g14 (Deliver 12) Whole ≡ g15
  unfolding opening first_leader acted settled restarted opening_disk stored on_elect renewed led
  e15 = delivers small_group g14 12 (packet 1 2 2 (Probe 1)) false c2 _ refl refl rule_15

  -- 16. the answer to a probe from server 2 comes to server 1
  abbrev l4 : Leader
  l4 = record l3 { known = FinMap.insert l3.known 2 0 }

  abbrev b7 : Server
  b7 = record b6 { role = Serving l4; reads = record { number = 1; range = record { first = 0; count = 1 }; waits_for = Sets.empty; confirmed = true } ∷ [] }

  rule_16 : on_packet small_group b6 (packet 2 1 2 (ProbeOk 1 0)) ≡ sends b7 []
  unfolding on_packet on_message on_probe_ok restarted opening_disk stored led
  rule_16 = refl

  room_16 : room_refusal g15 (sends b7 []) ≡ None
  unfolding room_refusal most_packets most_packet_bytes half_size packet_size body_size opening first_leader restarted opening_disk stored acted settled put_entry put_entries add_start add_merged_start on_elect renewed led
  room_16 = simp (empty_rows, entries-insert, gets)

  abbrev g16 : Group
  g16 = heard g15 13 2 1 2 (ProbeOk 1 0) (sends b7 [])

  e16 : happens small_group g15 (Deliver 13) Whole ≡ g16
  unfolding opening first_leader acted settled restarted opening_disk stored on_elect renewed led
  e16 = delivers small_group g15 13 (packet 2 1 2 (ProbeOk 1 0)) false b6 _ refl refl rule_16

  none_last_0 : claimable 4096 a2 ≡ None
  unfolding settled restarted opening_disk stored put_entry put_entries is_free range_of merged_entry
  none_last_0 =
      let can = λ (slot : ℕ). is_claimable a2 (FinMap.get a2.durable.log slot) slot in
      none_marked a2 4096 (none_of can)

  none_last_1 : claimable 4096 (settled b7) ≡ None
  unfolding settled restarted opening_disk stored put_entry put_entries is_free range_of merged_entry
  none_last_1 =
      let can = λ (slot : ℕ). is_claimable (settled b7) (FinMap.get (settled b7).durable.log slot) slot in
      none_marked (settled b7) 4096 (nor_of can Sets.empty 1 (simp gets) (none_of can))

  none_last_2 : claimable 4096 c2 ≡ None
  unfolding settled restarted opening_disk stored put_entry put_entries is_free range_of merged_entry
  none_last_2 =
      let can = λ (slot : ℕ). is_claimable c2 (FinMap.get c2.durable.log slot) slot in
      none_marked c2 4096 (none_of can)

  calm : answer_to small_group g16 Claim ≡ Refused NoneFree
  unfolding opening first_leader acted settled restarted opening_disk stored on_elect renewed led
  calm = claim_answer_none small_group g16 none_last_0 none_last_1 none_last_2

  abbrev rest_16 : History
  rest_16 = []

  abbrev rest_15 : History
  rest_15 = so (Deliver 13) Done ∷ rest_16

  abbrev rest_14 : History
  rest_14 = so (Deliver 12) Done ∷ rest_15

  abbrev rest_13 : History
  rest_13 = so (Fetch 1 (record { first = 0; count = 1 })) (ReadIs 1) ∷ rest_14

  abbrev rest_12 : History
  rest_12 = so (Fetch 0 (record { first = 0; count = 1 })) (Refused NotLeader) ∷ rest_13

  abbrev rest_11 : History
  rest_11 = so (Deliver 9) Done ∷ rest_12

  abbrev rest_10 : History
  rest_10 = so (Deliver 8) Done ∷ rest_11

  abbrev rest_9 : History
  rest_9 = so (Deliver 7) Done ∷ rest_10

  abbrev rest_8 : History
  rest_8 = so (Fetch 0 (record { first = 0; count = 1 })) (ReadIs 0) ∷ rest_9

  abbrev rest_7 : History
  rest_7 = so (Finish 1 0 1) Done ∷ rest_8

  abbrev rest_6 : History
  rest_6 = so Claim (JobIs (record { server = 1; life = 0; slot = 1; op = write_at 0 first })) ∷ rest_7

  abbrev rest_5 : History
  rest_5 = so (Deliver 5) Done ∷ rest_6

  abbrev rest_4 : History
  rest_4 = so (Deliver 4) Done ∷ rest_5

  abbrev rest_3 : History
  rest_3 = so (Submit 1 (write_at 0 first)) (SlotIs 1) ∷ rest_4

  abbrev rest_2 : History
  rest_2 = so (Deliver 2) Done ∷ rest_3

  abbrev rest_1 : History
  rest_1 = so (Deliver 1) Done ∷ rest_2

  abbrev rest_0 : History
  rest_0 = so (Elect 1) (TermIs 2) ∷ rest_1

  replayed_16 : run small_group g16 rest_16 ≡ g16
  replayed_16 = refl

  replayed_15 : run small_group g15 rest_15 ≡ g16
  replayed_15 = follows small_group g15 g16 g16 (so (Deliver 13) Done) rest_16 e16 replayed_16

  replayed_14 : run small_group g14 rest_14 ≡ g16
  replayed_14 = follows small_group g14 g15 g16 (so (Deliver 12) Done) rest_15 e15 replayed_15

  replayed_13 : run small_group g13 rest_13 ≡ g16
  replayed_13 = follows small_group g13 g14 g16 (so (Fetch 1 (record { first = 0; count = 1 })) (ReadIs 1)) rest_14 e14 replayed_14

  replayed_12 : run small_group g12 rest_12 ≡ g16
  replayed_12 = follows small_group g12 g13 g16 (so (Fetch 0 (record { first = 0; count = 1 })) (Refused NotLeader)) rest_13 e13 replayed_13

  replayed_11 : run small_group g11 rest_11 ≡ g16
  replayed_11 = follows small_group g11 g12 g16 (so (Deliver 9) Done) rest_12 e12 replayed_12

  replayed_10 : run small_group g10 rest_10 ≡ g16
  replayed_10 = follows small_group g10 g11 g16 (so (Deliver 8) Done) rest_11 e11 replayed_11

  replayed_9 : run small_group g9 rest_9 ≡ g16
  replayed_9 = follows small_group g9 g10 g16 (so (Deliver 7) Done) rest_10 e10 replayed_10

  replayed_8 : run small_group g8 rest_8 ≡ g16
  replayed_8 = follows small_group g8 g9 g16 (so (Fetch 0 (record { first = 0; count = 1 })) (ReadIs 0)) rest_9 e9 replayed_9

  replayed_7 : run small_group g7 rest_7 ≡ g16
  replayed_7 = follows small_group g7 g8 g16 (so (Finish 1 0 1) Done) rest_8 e8 replayed_8

  replayed_6 : run small_group g6 rest_6 ≡ g16
  replayed_6 = follows small_group g6 g7 g16 (so Claim (JobIs (record { server = 1; life = 0; slot = 1; op = write_at 0 first }))) rest_7 e7 replayed_7

  replayed_5 : run small_group g5 rest_5 ≡ g16
  replayed_5 = follows small_group g5 g6 g16 (so (Deliver 5) Done) rest_6 e6 replayed_6

  replayed_4 : run small_group g4 rest_4 ≡ g16
  replayed_4 = follows small_group g4 g5 g16 (so (Deliver 4) Done) rest_5 e5 replayed_5

  replayed_3 : run small_group g3 rest_3 ≡ g16
  replayed_3 = follows small_group g3 g4 g16 (so (Submit 1 (write_at 0 first)) (SlotIs 1)) rest_4 e4 replayed_4

  replayed_2 : run small_group g2 rest_2 ≡ g16
  replayed_2 = follows small_group g2 g3 g16 (so (Deliver 2) Done) rest_3 e3 replayed_3

  replayed_1 : run small_group g1 rest_1 ≡ g16
  replayed_1 = follows small_group g1 g2 g16 (so (Deliver 1) Done) rest_2 e2 replayed_2

  replayed_0 : run small_group g0 rest_0 ≡ g16
  replayed_0 = follows small_group g0 g1 g16 (so (Elect 1) (TermIs 2)) rest_1 e1 replayed_1

  -- up to the read
  abbrev until_13 : History
  until_13 = []

  abbrev until_12 : History
  until_12 = so (Fetch 0 (record { first = 0; count = 1 })) (Refused NotLeader) ∷ until_13

  abbrev until_11 : History
  until_11 = so (Deliver 9) Done ∷ until_12

  abbrev until_10 : History
  until_10 = so (Deliver 8) Done ∷ until_11

  abbrev until_9 : History
  until_9 = so (Deliver 7) Done ∷ until_10

  abbrev until_8 : History
  until_8 = so (Fetch 0 (record { first = 0; count = 1 })) (ReadIs 0) ∷ until_9

  abbrev until_7 : History
  until_7 = so (Finish 1 0 1) Done ∷ until_8

  abbrev until_6 : History
  until_6 = so Claim (JobIs (record { server = 1; life = 0; slot = 1; op = write_at 0 first })) ∷ until_7

  abbrev until_5 : History
  until_5 = so (Deliver 5) Done ∷ until_6

  abbrev until_4 : History
  until_4 = so (Deliver 4) Done ∷ until_5

  abbrev until_3 : History
  until_3 = so (Submit 1 (write_at 0 first)) (SlotIs 1) ∷ until_4

  abbrev until_2 : History
  until_2 = so (Deliver 2) Done ∷ until_3

  abbrev until_1 : History
  until_1 = so (Deliver 1) Done ∷ until_2

  abbrev until_0 : History
  until_0 = so (Elect 1) (TermIs 2) ∷ until_1

  reached_13 : run small_group g13 until_13 ≡ g13
  reached_13 = refl

  reached_12 : run small_group g12 until_12 ≡ g13
  reached_12 = follows small_group g12 g13 g13 (so (Fetch 0 (record { first = 0; count = 1 })) (Refused NotLeader)) until_13 e13 reached_13

  reached_11 : run small_group g11 until_11 ≡ g13
  reached_11 = follows small_group g11 g12 g13 (so (Deliver 9) Done) until_12 e12 reached_12

  reached_10 : run small_group g10 until_10 ≡ g13
  reached_10 = follows small_group g10 g11 g13 (so (Deliver 8) Done) until_11 e11 reached_11

  reached_9 : run small_group g9 until_9 ≡ g13
  reached_9 = follows small_group g9 g10 g13 (so (Deliver 7) Done) until_10 e10 reached_10

  reached_8 : run small_group g8 until_8 ≡ g13
  reached_8 = follows small_group g8 g9 g13 (so (Fetch 0 (record { first = 0; count = 1 })) (ReadIs 0)) until_9 e9 reached_9

  reached_7 : run small_group g7 until_7 ≡ g13
  reached_7 = follows small_group g7 g8 g13 (so (Finish 1 0 1) Done) until_8 e8 reached_8

  reached_6 : run small_group g6 until_6 ≡ g13
  reached_6 = follows small_group g6 g7 g13 (so Claim (JobIs (record { server = 1; life = 0; slot = 1; op = write_at 0 first }))) until_7 e7 reached_7

  reached_5 : run small_group g5 until_5 ≡ g13
  reached_5 = follows small_group g5 g6 g13 (so (Deliver 5) Done) until_6 e6 reached_6

  reached_4 : run small_group g4 until_4 ≡ g13
  reached_4 = follows small_group g4 g5 g13 (so (Deliver 4) Done) until_5 e5 reached_5

  reached_3 : run small_group g3 until_3 ≡ g13
  reached_3 = follows small_group g3 g4 g13 (so (Submit 1 (write_at 0 first)) (SlotIs 1)) until_4 e4 reached_4

  reached_2 : run small_group g2 until_2 ≡ g13
  reached_2 = follows small_group g2 g3 g13 (so (Deliver 2) Done) until_3 e3 reached_3

  reached_1 : run small_group g1 until_1 ≡ g13
  reached_1 = follows small_group g1 g2 g13 (so (Deliver 1) Done) until_2 e2 reached_2

  reached_0 : run small_group g0 until_0 ≡ g13
  reached_0 = follows small_group g0 g1 g13 (so (Elect 1) (TermIs 2)) until_1 e1 reached_1

  acked_13 : g13.acked ≡ record { term = 2; slot = 1 } ∷ []
  unfolding opening first_leader acted settled restarted opening_disk stored on_elect renewed led
  acked_13 = refl

  answer_16 : answer_to small_group g15 (Deliver 13) ≡ Done
  unfolding opening first_leader acted settled restarted opening_disk stored on_elect renewed led
  answer_16 = deliver_answer small_group g15 13 (packet 2 1 2 (ProbeOk 1 0)) false b6 _ refl refl rule_16 room_16

  answer_15 : answer_to small_group g14 (Deliver 12) ≡ Done
  unfolding opening first_leader acted settled restarted opening_disk stored on_elect renewed led
  answer_15 = deliver_answer small_group g14 12 (packet 1 2 2 (Probe 1)) false c2 _ refl refl rule_15 room_15

  answer_14 : answer_to small_group g13 (Fetch 1 (record { first = 0; count = 1 })) ≡ ReadIs 1
  unfolding opening first_leader acted settled restarted opening_disk stored on_elect renewed led
  answer_14 = fetch_answer small_group g13 1 (record { first = 0; count = 1 }) b5 _ refl refl refl rule_14 room_14

  answer_13 : answer_to small_group g12 (Fetch 0 (record { first = 0; count = 1 })) ≡ Refused NotLeader
  unfolding answer_to fetch_refusal opening first_leader acted settled restarted opening_disk stored on_elect renewed led
  answer_13 = refl

  answer_12 : answer_to small_group g11 (Deliver 9) ≡ Done
  unfolding opening first_leader acted settled restarted opening_disk stored on_elect renewed led
  answer_12 = deliver_answer small_group g11 9 (packet 1 0 2 Nack) false a1 _ refl refl rule_12 room_12

  answer_11 : answer_to small_group g10 (Deliver 8) ≡ Done
  unfolding opening first_leader acted settled restarted opening_disk stored on_elect renewed led
  answer_11 = deliver_answer small_group g10 8 (packet 0 2 1 (Probe 0)) false c2 _ refl refl rule_11 room_11

  answer_10 : answer_to small_group g9 (Deliver 7) ≡ Done
  unfolding opening first_leader acted settled restarted opening_disk stored on_elect renewed led
  answer_10 = deliver_answer small_group g9 7 (packet 0 1 1 (Probe 0)) false b5 _ refl refl rule_10 room_10

  answer_9 : answer_to small_group g8 (Fetch 0 (record { first = 0; count = 1 })) ≡ ReadIs 0
  unfolding opening first_leader acted settled restarted opening_disk stored on_elect renewed led
  answer_9 = fetch_answer small_group g8 0 (record { first = 0; count = 1 }) a0 _ refl refl refl rule_9 room_9

  answer_8 : answer_to small_group g7 (Finish 1 0 1) ≡ Done
  unfolding opening first_leader acted settled restarted opening_disk stored on_elect renewed led
  answer_8 = finish_answer small_group g7 1 0 1 (claimed b4 1) _ refl rule_8

  answer_7 : answer_to small_group g6 Claim ≡ JobIs (record { server = 1; life = 0; slot = 1; op = write_at 0 first })
  unfolding opening first_leader acted settled restarted opening_disk stored on_elect renewed led
  answer_7 = claim_answer_1 small_group g6 none_7_0 b4 1 refl claim_7 ∙ ap (λ x. JobIs (record { server = 1; life = 0; slot = 1; op = x })) op_7

  answer_6 : answer_to small_group g5 (Deliver 5) ≡ Done
  unfolding opening first_leader acted settled restarted opening_disk stored on_elect renewed led
  answer_6 = deliver_answer small_group g5 5 (packet 2 1 2 (Ack 1 0)) false b3 _ refl refl rule_6 room_6

  answer_5 : answer_to small_group g4 (Deliver 4) ≡ Done
  unfolding opening first_leader acted settled restarted opening_disk stored on_elect renewed led
  answer_5 = deliver_answer small_group g4 4 (packet 1 2 2 (Accept one)) false c1 _ refl refl rule_5 room_5

  answer_4 : answer_to small_group g3 (Submit 1 (write_at 0 first)) ≡ SlotIs 1
  unfolding opening first_leader acted settled restarted opening_disk stored on_elect renewed led range_of
  answer_4 = submit_answer small_group g3 1 (write_at 0 first) b2 _ refl refl refl refl refl rule_4 room_4

  answer_3 : answer_to small_group g2 (Deliver 2) ≡ Done
  unfolding opening first_leader acted settled restarted opening_disk stored on_elect renewed led
  answer_3 = deliver_answer small_group g2 2 (packet 2 1 2 (Vote (vote_of c0.durable))) false b1 _ refl refl rule_3 room_3

  answer_2 : answer_to small_group g1 (Deliver 1) ≡ Done
  unfolding opening first_leader acted settled restarted opening_disk stored on_elect renewed led
  answer_2 = deliver_answer small_group g1 1 (packet 1 2 2 (RequestVote 0)) false c0 _ refl refl rule_2 room_2

  answer_1 : answer_to small_group g0 (Elect 1) ≡ TermIs 2
  unfolding opening first_leader acted settled restarted opening_disk stored on_elect renewed led most_elections
  answer_1 = elect_answer small_group g0 1 b0 _ refl refl rule_1 room_1

  acked_last : g16.acked ≡ record { term = 2; slot = 1 } ∷ []
  unfolding opening first_leader acted settled restarted opening_disk stored on_elect renewed led
  acked_last = refl

  answered_last : g16.answered ≡ record { number = 1; server = 1; term = 2; range = record { first = 0; count = 1 }; base = 0; applied = Sets.from_items (1 ∷ []); bytes = first ∷ [] } ∷ []
  unfolding opening first_leader acted settled restarted opening_disk stored on_elect renewed led changed range_of writes written from_items
  answered_last = simp empty_rows

  pub shows : ReadsAtTheLeader first
  shows = record { acked_before = ap (λ (g : Group). g.acked) reached_0 ∙ acked_13; calm = ap (λ (g : Group). answer_to small_group g Claim) replayed_0 ∙ calm; acked = ap (λ (g : Group). g.acked) replayed_0 ∙ acked_last; answered = ap (λ (g : Group). g.answered) replayed_0 ∙ answered_last }

  -- with whole sectors the history is one that the group can have
  module _ (length_first : IsSector first) where
    legal_16 : IsLegalFrom small_group g16 ([]) rest_16
    legal_16 = tt

    legal_15 : IsLegalFrom small_group g15 ([]) rest_15
    legal_15 = goes_on small_group g15 g16 ([]) (so (Deliver 13) Done) rest_16 tt answer_16 e16 legal_16

    legal_14 : IsLegalFrom small_group g14 ([]) rest_14
    legal_14 = goes_on small_group g14 g15 ([]) (so (Deliver 12) Done) rest_15 tt answer_15 e15 legal_15

    legal_13 : IsLegalFrom small_group g13 ([]) rest_13
    legal_13 = goes_on small_group g13 g14 ([]) (so (Fetch 1 (record { first = 0; count = 1 })) (ReadIs 1)) rest_14 (omega arith, record { some = omega arith; few = omega arith; low = omega arith }) answer_14 e14 legal_14

    legal_12 : IsLegalFrom small_group g12 ([]) rest_12
    legal_12 = goes_on small_group g12 g13 ([]) (so (Fetch 0 (record { first = 0; count = 1 })) (Refused NotLeader)) rest_13 (omega arith, record { some = omega arith; few = omega arith; low = omega arith }) answer_13 e13 legal_13

    legal_11 : IsLegalFrom small_group g11 ([]) rest_11
    legal_11 = goes_on small_group g11 g12 ([]) (so (Deliver 9) Done) rest_12 tt answer_12 e12 legal_12

    legal_10 : IsLegalFrom small_group g10 ([]) rest_10
    legal_10 = goes_on small_group g10 g11 ([]) (so (Deliver 8) Done) rest_11 tt answer_11 e11 legal_11

    legal_9 : IsLegalFrom small_group g9 ([]) rest_9
    legal_9 = goes_on small_group g9 g10 ([]) (so (Deliver 7) Done) rest_10 tt answer_10 e10 legal_10

    legal_8 : IsLegalFrom small_group g8 ([]) rest_8
    legal_8 = goes_on small_group g8 g9 ([]) (so (Fetch 0 (record { first = 0; count = 1 })) (ReadIs 0)) rest_9 (omega arith, record { some = omega arith; few = omega arith; low = omega arith }) answer_9 e9 legal_9

    legal_7 : IsLegalFrom small_group g7 (record { server = 1; life = 0; slot = 1; op = write_at 0 first } ∷ []) rest_7
    legal_7 = goes_on small_group g7 g8 (record { server = 1; life = 0; slot = 1; op = write_at 0 first } ∷ []) (so (Finish 1 0 1) Done) rest_8 refl answer_8 e8 legal_8

    legal_6 : IsLegalFrom small_group g6 ([]) rest_6
    legal_6 = goes_on small_group g6 g7 ([]) (so Claim (JobIs (record { server = 1; life = 0; slot = 1; op = write_at 0 first }))) rest_7 tt answer_7 e7 legal_7

    legal_5 : IsLegalFrom small_group g5 ([]) rest_5
    legal_5 = goes_on small_group g5 g6 ([]) (so (Deliver 5) Done) rest_6 tt answer_6 e6 legal_6

    legal_4 : IsLegalFrom small_group g4 ([]) rest_4
    legal_4 = goes_on small_group g4 g5 ([]) (so (Deliver 4) Done) rest_5 tt answer_5 e5 legal_5

    legal_3 : IsLegalFrom small_group g3 ([]) rest_3
    legal_3 = goes_on small_group g3 g4 ([]) (so (Submit 1 (write_at 0 first)) (SlotIs 1)) rest_4 (omega arith, (record { some = omega arith; few = omega arith; low = omega arith }, refl, (length_first, tt))) answer_4 e4 legal_4

    legal_2 : IsLegalFrom small_group g2 ([]) rest_2
    legal_2 = goes_on small_group g2 g3 ([]) (so (Deliver 2) Done) rest_3 tt answer_3 e3 legal_3

    legal_1 : IsLegalFrom small_group g1 ([]) rest_1
    legal_1 = goes_on small_group g1 g2 ([]) (so (Deliver 1) Done) rest_2 tt answer_2 e2 legal_2

    legal_0 : IsLegalFrom small_group g0 ([]) rest_0
    legal_0 = goes_on small_group g0 g1 ([]) (so (Elect 1) (TermIs 2)) rest_1 (omega arith) answer_1 e1 legal_1

    pub legal : IsLegal small_group (stale_read first)
    legal = record { is_setup = is_small_group; legal = legal_0 }
