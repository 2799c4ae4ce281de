-- Each rule of a server is something that may happen to the ballots.
use Rattle.std.proofs.Common.{◌≡◌, ℕ, zero, suc, ◌+◌, ◌-◌, ◌<◌, ◌≤◌, ◌≢◌, ◌⊎◌, inl, inr, Bool, true, false, cond, not, ◌&&◌, ◌||◌, List, [], ◌∷◌, Option, Some, None, ◌==◌, if◌then◌else◌, nat_lt, nat_le, arith, refl, sym, ap, subst, ◌∙◌, le_trans, le_refl, le_of_eq, le_of_lt, lt_of_le_of_lt, eq-or-lt_of_le}
use Rattle.std.specs.List.{range_with_len, flat_map, list_all}
use Rattle.std.specs.FinMap
use Rattle.pf_entry.specs.Sets
use Rattle.std.proofs.lemmas.Bool.{cond-true, eq-eqb, ne_eqb, eqb-true, eqb-false, ltb-true, ltb-false, leb-true, leb-false, and_from, or_parts, not-true, lt-ltb, cases_lt, or_cases, or_left, or_right, le-leb, and_parts, lt-leb, false≢true}
use Rattle.std.proofs.lemmas.Option.{same_Some, cond_some, none-some}
use Rattle.pf_entry.specs.Maps.{Numbers}
use Rattle.pf_entry.specs.declared.ops.Op.{Op}
use Rattle.pf_entry.specs.Ops.{Sector, range_of}
use Rattle.pf_base.specs.Span.{Span, overlaps}
use Rattle.pf_entry.specs.declared.entries.Entry.{Entry}
use Rattle.pf_entry.specs.declared.entries.VoteLog.{VoteLog}
use Rattle.pf_entry.specs.declared.packets.Packet.{Packet}
use Rattle.pf_entry.specs.declared.packets.Body.{Body}
use Rattle.pf_entry.specs.declared.packets.Body.TheVariants.{RequestVote, Vote, Accept, Ack, Nack, Commit, Probe, ProbeOk, Image}
use Rattle.pf_entry.specs.Records.{Durable, stored, put_entry, vote_of, holds, above}
use Rattle.pf_entry.specs.declared.records.Record.TheVariants.{Term as TermRecord}
use Rattle.pf_entry.specs.Merging.{merged_first, merged_entry, merged_entries}
use Rattle.pf_entry.proofs.MergedEntries.{base_below_first}
use Rattle.pf_protocol.proofs.Ballots.{Cast, Ballot, first_of, Ballots, IsPicked, HasQuorum, Faithful, Sound}
use Rattle.pf_protocol.proofs.Changes.{put, grown, Grows, voted, merged_proposal, merged as merged_ballots, proposed, Extends}
use Rattle.pf_entry.proofs.Cases.{by_test}
use Rattle.pf_protocol.proofs.BallotsKept.{grown_sound, voted_sound, merged_sound, proposed_sound, holds_is, holds_from}
use Rattle.pf_protocol.proofs.Law.{share, IsChosenBy, proposal_agrees}
use Rattle.std.specs.Ordering.{nat_cmp, eq_by_cmp}
use Rattle.pf_entry.proofs.Sets.{contains-insert, contains-retain}
use Rattle.std.proofs.lemmas.Bool.Decides.{nat_tests}
use Rattle.pf_entry.proofs.Maps.{get_inserted, insert_cases, remove_cases}
use Rattle.std.specs.FinMap.{get-empty, nat_cmp-IsAntisymmetric}
use Rattle.pf_protocol.proofs.DiskGrowth.{WithinTerm, unchanged_grows, term_grows, entry_grows, trim_grows, merge_grows, merge_holds}
use Rattle.pf_protocol.proofs.BallotGrowth.{extends_self, extends_both, extends_grown, extends_voted, extends_merged, extends_proposed, grown_accepted}
use Rattle.pf_protocol.specs.Servers.{Setup, Leader, Role, Follower, Candidate, Merging, Serving, Server, upto, climb, has_applied}
use Rattle.pf_protocol.specs.Outcomes.{Outcome, to_one, to_others, other_servers, sends, nothing, only_answers, raise_term}
use Rattle.pf_protocol.specs.declared.answers.Answer.{Answer}
use Rattle.pf_protocol.specs.Leading.{new_entry, submitted, on_submit, on_fetch, on_elect, resent_entry, resent, on_resend, led, merged, on_vote, has_acked, knows, acknowledged, other_acked, counted, commit, commit_own, is_own, commit_to, on_ack, on_probe_ok, op_of, op_at, look_behind}
use Rattle.pf_protocol.specs.Following.{meets_term, ack, nack, on_request_vote, accepted, on_accept, on_nack, on_commit, on_probe, installed, on_image}
use Rattle.pf_protocol.specs.Rows.{on_message}
use Rattle.pf_protocol.specs.declared.answers.Answer.TheVariants.{Base as BaseIs, Slot as SlotIs}
use Rattle.pf_protocol.specs.Saving.{claimed, is_short_of, trimmed, on_checkpoint, applied_op, on_finish, on_give_back, is_claimable, changed}
use Rattle.pf_entry.specs.Lists.{Every}
use Rattle.pf_entry.proofs.Lists.{every_append, every_more, every_map, every_filter, every_flat_map_from, every_range, every_of_all, all_in_range, some_of_any}
use Rattle.pf_protocol.proofs.LookBehinds.{IsKnown, known_there, Served, IsListed, grown_served, voted_served, merged_served, proposed_served, new_is_chosen}
use Rattle.pf_protocol.proofs.ChosenKnown.{AckMarks, AllAcked, RoleMarks, marks_more, IsAcked, acked_there, acknowledged_more, AppliedKnown, AckIs, IsCommitted, LeaderKnows, MergedKnown, RoleKnows, ServerKnows, Later, applied_there, ack_there, committed_there, leader_there, knows_there, chosen_later, known_later, committed_grows, ack_chooses, applied_to_upto, acked_in, acknowledged_cases, all_acknowledged_cases, nobody_acked, retained, JobIs, applied_later, job_later, applied_same, job_same, applied_more}
use Rattle.pf_entry.proofs.CommutingOps.{with_slot}
use Rattle.pf_entry.specs.Applying.{is_applied, is_free, passes}
use Rattle.pf_protocol.proofs.Follows.{IsCandidate, IsLeader, RoleIs, ServerIs, CommitIs, BodyIs, PacketIs, Row, commit_there, grows_stays}

-- a rule by a test
either : (b : Ballots) (i : ℕ) (s : Server) (c : Bool) (x y : Outcome) → (c ≡ true → Row b i s x) → (c ≡ false → Row b i s y) → Row b i s (if c then x else y)
either b i s true x y f g = f refl
either b i s false x y f g = g refl

-- the others are other servers
others_apart : (me : ℕ) → Every (λ j. j ≢ me) (other_servers me)
others_apart me = every_filter (λ j. j ≢ me) (λ i. not (i == me)) (0 ∷ 1 ∷ 2 ∷ []) (apart 0, (apart 1, (apart 2, tt)))
  where
    apart : (j : ℕ) → not (j == me) ≡ true → j ≢ me
    apart j e = eqb-false j me (not-true _ e)

-- a message of this server to one other
sent_to : (b : Ballots) (s : Server) (i to : ℕ) (body : Body) → s.number ≡ i → i < 3 → to ≢ i → BodyIs b s.number to s.durable.term body → PacketIs b (to_one s to body)
sent_to b s i to body number below apart is = record {
  from_below = subst (λ k. k < 3) (sym number) below;
  apart = λ same. apart (sym same ∙ number);
  body = is;
}

sent_to_others : (b : Ballots) (s : Server) (i : ℕ) (body : Body) → s.number ≡ i → i < 3 → ((to : ℕ) → BodyIs b s.number to s.durable.term body) → Every (PacketIs b) (to_others s body)
sent_to_others b s i body number below is =
    every_map (PacketIs b) (λ j. to_one s j body) (other_servers s.number)
    (every_more (λ j. j ≢ s.number) (λ j. PacketIs b (to_one s j body)) (λ j apart. sent_to b s i j body number below (λ same. apart (same ∙ sym number)) (is j)) (other_servers s.number) (others_apart s.number))

tied_same : (k slot : ℕ) → eq_by_cmp nat_cmp k slot ≡ true → k ≡ slot
tied_same k slot e = grind (arith, nat_tests)

climb_up : (n : ℕ) (applied : Numbers) (k : ℕ) → k ≤ climb n applied k
climb_up zero applied k = le_refl k
climb_up (suc n) applied k = by_test (Sets.contains applied (suc k)) (λ c. k ≤ cond c (climb n applied (suc k)) k) (λ _. let h = climb_up n applied (suc k) in omega arith) (λ _. le_refl k)

pub base_below_upto : (s : Server) → s.durable.base ≤ upto s
unfolding upto
base_below_upto s = climb_up (Sets.len s.applied) s.applied s.durable.base

-- a role stands by the term alone, and a candidate's by its checkpoint
role_after : (vote : ℕ → ℕ → Option Cast) (ballot : ℕ → Option Ballot) (next : ℕ → ℕ) (i : ℕ) (d after : Durable) (role : Role) → after.term ≡ d.term → d.base ≤ after.base → RoleIs vote ballot next i d role → RoleIs vote ballot next i after role
role_after vote ballot next i d after Follower term base h = h
role_after vote ballot next i d after (Candidate own) term base h = record {
  own_vote = ap (vote i) term ∙ h.own_vote;
  own_base = le_trans h.own_base base;
  not_yet = λ m is. h.not_yet m (ap ballot (sym term) ∙ is);
}
role_after vote ballot next i d after (Merging l) term base h = record {
  merge = h.merge;
  is = ap ballot term ∙ h.is;
  leads = h.leads;
  has_first = h.has_first;
  has_next = h.has_next ∙ ap next (sym term);
  has_base = h.has_base;
  base_low = le_trans h.base_low base;
}
role_after vote ballot next i d after (Serving l) term base h = record {
  merge = h.merge;
  is = ap ballot term ∙ h.is;
  leads = h.leads;
  has_first = h.has_first;
  has_next = h.has_next ∙ ap next (sym term);
  has_base = h.has_base;
  base_low = le_trans h.base_low base;
}

two_ways : {X : Type 0} → (f : ℕ → ℕ → X) (j k : ℕ) (x : X) → put f j (put (f j) k x) j k ≡ x
two_ways f j k x = ap (λ g. g k) (cond-true (j == j) (put (f j) k x) (f j) (eq-eqb j j refl)) ∙ cond-true (k == k) x (f j k) (eq-eqb k k refl)

same_to : (v w : Cast) → Some v ≡ Some w → v.to ≡ w.to
same_to v w e = ap (λ c. c.to) (same_Some v w e)

-- what a merge proposes
merge_proposes : (proposal : ℕ → ℕ → Option Entry) (term : ℕ) (m : Ballot) (k : ℕ) → m.base < k → k < first_of m → merged_proposal proposal term m k term ≡ Some (merged_entry term m.base m.own m.theirs k)
merge_proposes proposal term m k above low =
    cond-true (term == term) _ (proposal k term) (eq-eqb term term refl)
    ∙ cond-true _ (Some (merged_entry term m.base m.own m.theirs k)) None (and_from _ _ (lt-ltb m.base k above) (lt-ltb k (first_of m) low))

leading_role : (vote : ℕ → ℕ → Option Cast) (ballot : ℕ → Option Ballot) (next : ℕ → ℕ) (i : ℕ) (d : Durable) (c : Bool) (l : Leader) → IsLeader ballot next i d l → RoleIs vote ballot next i d (if c then Merging l else Serving l)
leading_role vote ballot next i d true l h = h
leading_role vote ballot next i d false l h = h

role_known_by : (b : Ballots) (i term : ℕ) (c : Bool) (l : Leader) → LeaderKnows b i term l → (c ≡ false → MergedKnown b term l) → RoleKnows b i term (if c then Merging l else Serving l)
role_known_by b i term true l k m = k
role_known_by b i term false l k m = (k, m refl)

role_marks_by : (i base : ℕ) (committed : Numbers) (c : Bool) (l : Leader) → AckMarks i base committed l → (c ≡ false → AllAcked i l) → RoleMarks i base committed (if c then Merging l else Serving l)
role_marks_by i base committed true l k m = k
role_marks_by i base committed false l k m = (k, m refl)

serving_marks_by : (i base : ℕ) (committed : Numbers) (c : Bool) (l : Leader) → AckMarks i base committed l → (c ≡ true → AllAcked i l) → RoleMarks i base committed (if c then Serving l else Merging l)
serving_marks_by i base committed true l k m = (k, m refl)
serving_marks_by i base committed false l k m = k

serving_known_by : (b : Ballots) (i term : ℕ) (c : Bool) (l : Leader) → LeaderKnows b i term l → (c ≡ true → MergedKnown b term l) → RoleKnows b i term (if c then Serving l else Merging l)
serving_known_by b i term true l k m = (k, m refl)
serving_known_by b i term false l k m = k

serving_role : (vote : ℕ → ℕ → Option Cast) (ballot : ℕ → Option Ballot) (next : ℕ → ℕ) (i : ℕ) (d : Durable) (c : Bool) (l : Leader) → IsLeader ballot next i d l → RoleIs vote ballot next i d (if c then Serving l else Merging l)
serving_role vote ballot next i d true l h = h
serving_role vote ballot next i d false l h = h

-- each entry of a merge is its term's proposal
merged_proposed : (proposal : ℕ → ℕ → Option Entry) (term : ℕ) (m : Ballot) → Every (λ e. merged_proposal proposal term m e.slot e.term ≡ Some e) (merged_entries term m.base m.own m.theirs)
unfolding merged_entries merged_entry
merged_proposed proposal term m =
    every_map (λ e. merged_proposal proposal term m e.slot e.term ≡ Some e) (merged_entry term m.base m.own m.theirs) (range_with_len (suc m.base) (first_of m - suc m.base))
    (every_range (λ k. merged_proposal proposal term m k term ≡ Some (merged_entry term m.base m.own m.theirs k)) (first_of m - suc m.base) (suc m.base)
    (λ k low high. merge_proposes proposal term m k low (omega (arith, high, base_below_first m.base m.own m.theirs))))

same_number : (q k : ℕ) → eq_by_cmp nat_cmp q k ≡ (q == k)
same_number q k = grind (arith, nat_tests)

swap_or : (x y z : Bool) → (x || (y || z)) ≡ (y || (x || z))
swap_or true true z = refl
swap_or true false z = refl
swap_or false y z = refl

passes_of : (done : ℕ → Bool) (e : Entry) (p : ℕ) → done p ≡ false → (done p || passes e.look p (range_of e.op)) ≡ true → passes e.look p (range_of e.op) ≡ true
passes_of done e p isnt is = elim (or_cases _ _ is) [ inl does ↦ absurd (false≢true (sym isnt ∙ does)) | inr lets ↦ lets ]

and_with : (x y : Bool) → y ≡ true → (x && y) ≡ x
and_with true y is = is
and_with false y is = refl

retain_above : (m : Numbers) (base slot : ℕ) → base < slot → Sets.contains (Sets.retain m (nat_lt base)) slot ≡ Sets.contains m slot
retain_above m base slot low = contains-retain m (nat_lt base) slot (λ x t. ap (nat_lt base) (sym (nat_cmp-IsAntisymmetric slot x t))) ∙ and_with _ _ (lt-ltb base slot low)

-- another job after a slot was applied
other_job : (b : Ballots) (term : ℕ) (done : ℕ → Bool) (slot p : ℕ) (op : Op) → p ≢ slot → JobIs b term done p op → JobIs b term (with_slot done slot) p op
other_job b term done slot p op apart h = record {
  is_above = h.is_above;
  chosen = h.chosen;
  unapplied = ap (λ c. c || done p) (ne_eqb p slot apart) ∙ h.unapplied;
  passed = λ q above low isnt. h.passed q above low (or_parts (q == slot) (done q) isnt).1;
}

module _ (b : Ballots) (sound : Sound b) (served : Served b) (i : ℕ) (below : i < 3) (s : Server) (is_server : ServerIs b i s) where
  within : WithinTerm s.durable
  within k e is = let h = (sound.disks i).proposes k e (ap (λ d. FinMap.get d.log k) is_server.disk ∙ is) in omega (arith, h.0, ap (λ d. d.term) is_server.disk)

  -- the entries that it holds are proposals
  holds_proposal : (k : ℕ) (e : Entry) → FinMap.get s.durable.log k ≡ Some e → b.proposal e.slot e.term ≡ Some e
  holds_proposal k e is =
      let h = (sound.disks i).proposes k e (ap (λ d. FinMap.get d.log k) is_server.disk ∙ is) in
      let slot = (sound.made k e.term e h.1).in_slot in
      ap (λ n. b.proposal n e.term) slot ∙ h.1

  -- what it knows is known later
  has_known : ServerKnows b i s
  has_known = is_server.knows

  knows_later : (z : Later b i s.durable) → ServerKnows z.ballots i s
  knows_later z = knows_there i b z.ballots z.extends z.sound i s has_known

  known_to : (z : Ballots) (x : Extends i b z) (slot : ℕ) → 0 < slot → slot ≤ upto s → IsKnown z slot s.durable.term
  known_to z x slot above low = known_there i b z x slot s.durable.term (has_known.applied.known slot above (applied_to_upto s slot low))

  own_accepted : (z : Ballots) (sound_z : Sound z) (d : Durable) → z.disk i ≡ d → (n : ℕ) → n ≡ i → (slot term : ℕ) → holds d slot term ≡ true → z.accepted n slot term ≡ true
  own_accepted z sound_z d disk n same slot term has =
      let h = holds_is d slot term has in
      ap (λ k. z.accepted k slot term) same ∙ ap (z.accepted i slot) (sym h.2) ∙ sound_z.held_accepted i slot h.0 (ap (λ x. FinMap.get x.log slot) disk ∙ h.1)

  -- a rule that changes the disk alone
  plain : (o : Outcome) → o.server.number ≡ s.number → Grows b.proposal b.ballot s.durable o.server.durable → AppliedKnown b o.server.durable.term o.server.durable.base o.server.durable.saved o.server.durable.sectors → RoleIs b.vote b.ballot b.next i o.server.durable o.server.role → ((z : Later b i o.server.durable) → ServerKnows z.ballots i o.server × Every (PacketIs z.ballots) o.packets) → ((z : Later b i o.server.durable) (slot : ℕ) → o.acked ≡ Some slot → IsAcked z.ballots o.server.durable.term slot) → Row b i s o
  plain o number grows saved role rest acked =
      let z : Later b i o.server.durable = record {
        ballots = grown b i o.server.durable;
        sound = grown_sound b sound i below o.server.durable (subst (λ d. Grows b.proposal b.ballot d o.server.durable) (sym is_server.disk) grows);
        extends = extends_grown b i o.server.durable;
        disk = cond-true _ _ _ (eq-eqb i i refl);
        served = grown_served b i o.server.durable (extends_grown b i o.server.durable) served;
      } in
      record {
        made = b;
        made_sound = sound;
        made_served = served;
        made_extends = extends_self i b;
        made_disk = is_server.disk;
        made_accepted = λ j slot t did. did;
        grows = grows;
        after_known = saved;
        done = grown b i o.server.durable;
        done_sound = z.sound;
        done_served = z.served;
        done_extends = z.extends;
        done_accepted = grown_accepted b i o.server.durable;
        server_is = record { number = number ∙ is_server.number; disk = z.disk; role = role; knows = (rest z).0 };
        packets = (rest z).1;
        acked = acked z;
      }

  -- a rule that leaves the disk as it is
  pub still_acked : (o : Outcome) → o.server.number ≡ s.number → o.server.durable ≡ s.durable → RoleIs b.vote b.ballot b.next i s.durable o.server.role → ((z : Later b i s.durable) → ServerKnows z.ballots i o.server × Every (PacketIs z.ballots) o.packets) → ((z : Later b i s.durable) (slot : ℕ) → o.acked ≡ Some slot → IsAcked z.ballots o.server.durable.term slot) → Row b i s o
  still_acked o number same role rest acked =
      plain o number (subst (λ d. Grows b.proposal b.ballot s.durable d) (sym same) (unchanged_grows b.proposal b.ballot s.durable within))
      (subst (λ d. AppliedKnown b d.term d.base d.saved d.sectors) (sym same) has_known.saved)
      (subst (λ d. RoleIs b.vote b.ballot b.next i d o.server.role) (sym same) role)
      (λ z. rest (record { ballots = z.ballots; sound = z.sound; extends = z.extends; disk = z.disk ∙ same; served = z.served }))
      (λ z. acked (record { ballots = z.ballots; sound = z.sound; extends = z.extends; disk = z.disk ∙ same; served = z.served }))

  pub still : (o : Outcome) → o.server.number ≡ s.number → o.server.durable ≡ s.durable → o.acked ≡ None → RoleIs b.vote b.ballot b.next i s.durable o.server.role → ((z : Later b i s.durable) → ServerKnows z.ballots i o.server × Every (PacketIs z.ballots) o.packets) → Row b i s o
  still o number same none role rest = still_acked o number same role rest (λ z slot is. absurd (none-some slot (sym none ∙ is)))

  -- a rule that sends alone
  pub sends_row : (packets : List Packet) → ((z : Later b i s.durable) → Every (PacketIs z.ballots) packets) → Row b i s (sends s packets)
  sends_row packets sent = still (sends s packets) refl refl refl is_server.role (λ z. (knows_later z, sent z))

  pub nothing_row : Row b i s (nothing s)
  nothing_row = sends_row [] (λ z. tt)

  pub refused_row : (answer : Answer) → Row b i s (only_answers s answer)
  refused_row answer = still (only_answers s answer) refl refl refl is_server.role (λ z. (knows_later z, tt))

  reply : (b2 : Ballots) (z : Server) (to : ℕ) (body : Body) → z.number ≡ s.number → to ≢ i → BodyIs b2 z.number to z.durable.term body → Every (PacketIs b2) (to_one z to body ∷ [])
  reply b2 z to body number apart is = (sent_to b2 z i to body (number ∙ is_server.number) below apart is, tt)

  pub nack_row : (to : ℕ) → to ≢ i → Row b i s (nack s to)
  nack_row to apart = sends_row _ (λ z. reply z.ballots s to Nack refl apart tt)

  -- what it knows in a higher term
  raised_knows : (term : ℕ) → s.durable.term ≤ term → (z : Ballots) → Extends i b z → Sound z → ServerKnows z i (raise_term s term)
  unfolding stored
  raised_knows term le z x sound_z =
      let k = knows_there i b z x sound_z i s has_known in
      record {
        committed = k.committed;
        applied = applied_later z s.durable.term term (has_applied s) s.sectors le k.applied;
        saved = applied_later z s.durable.term term (is_applied s.durable.base s.durable.saved) s.durable.sectors le k.saved;
        in_hand = λ slot op is. job_later z s.durable.term term (has_applied s) slot op le (k.in_hand slot op is);
        role = tt;
        marks = tt;
      }

  -- a higher term from outside
  raised_row : (term : ℕ) (packets : Server → List Packet) → s.durable.term < term → ((z : Later b i (raise_term s term).durable) → Every (PacketIs z.ballots) (packets (raise_term s term))) → Row b i s (sends (raise_term s term) (packets (raise_term s term)))
  raised_row term packets lt sent =
      plain _ refl (term_grows b.proposal b.ballot s.durable within term (le_of_lt lt)) (raised_knows term (le_of_lt lt) b (extends_self i b) sound).saved tt
      (λ z. (raised_knows term (le_of_lt lt) z.ballots z.extends z.sound, sent z)) (λ z slot is. absurd (none-some slot is))

  met_row : (term : ℕ) (packets : Server → List Packet) → ((z : Ballots) → Extends i b z → (after : Server) → after.number ≡ s.number → s.durable.term ≤ after.durable.term → Every (PacketIs z) (packets after)) → Row b i s (sends (meets_term s term) (packets (meets_term s term)))
  unfolding stored
  met_row term packets sent =
      by_test (nat_lt s.durable.term term) (λ c. Row b i s (sends (cond c (raise_term s term) s) (packets (cond c (raise_term s term) s))))
      (λ lt. raised_row term packets (ltb-true _ _ lt) (λ z. sent z.ballots z.extends (raise_term s term) refl (le_of_lt (ltb-true _ _ lt))))
      (λ _. sends_row (packets s) (λ z. sent z.ballots z.extends s refl (le_refl _)))

  pub on_nack_row : (term : ℕ) → Row b i s (on_nack s term)
  unfolding on_nack
  on_nack_row term = met_row term (λ _. []) (λ _ _ _ _ _. tt)

  held_committed : (z : Ballots) (sound_z : Sound z) → z.disk i ≡ s.durable → (slot term : ℕ) → holds s.durable slot term ≡ true → ((e : Entry) → z.proposal slot term ≡ Some e → IsChosenBy z slot term e.op) → IsCommitted z s.durable.log slot
  held_committed z sound_z disk slot term has chosen =
      let h = holds_is s.durable slot term has in
      let p = (sound_z.disks i).proposes slot h.0 (ap (λ d. FinMap.get d.log slot) disk ∙ h.1) in
      record { entry = h.0; held = h.1; chosen = subst (λ t. IsChosenBy z slot t h.0.op) (sym h.2) (chosen h.0 (ap (z.proposal slot) (sym h.2) ∙ p.1)) }

  insert_committed : (z : Ballots) (slot : ℕ) → ((k : ℕ) → Sets.contains s.committed k ≡ true → IsCommitted z s.durable.log k) → IsCommitted z s.durable.log slot → (k : ℕ) → Sets.contains (Sets.insert s.committed slot) k ≡ true → IsCommitted z s.durable.log k
  insert_committed z slot old new k is =
      elim (or_cases _ _ (sym (contains-insert s.committed slot k) ∙ is)) [
        | inl here ↦ subst (IsCommitted z s.durable.log) (sym (tied_same k slot here)) new
        | inr there ↦ old k there
      ]

  pub on_commit_row : (from term slot : ℕ) → IsKnown b slot term → Row b i s (on_commit s term slot)
  unfolding on_commit commit
  on_commit_row from term slot known = either b i s (holds s.durable slot term) (nothing (commit s slot)) _
      (λ has. still (nothing (commit s slot)) refl refl refl is_server.role (λ z.
      let k = knows_later z in
      let c = known_there i b z.ballots z.extends slot term known in (
        record {
          committed = insert_committed z.ballots slot k.committed (held_committed z.ballots z.sound z.disk slot term has
              (λ e is. subst (IsChosenBy z.ballots slot term) (sym (proposal_agrees z.ballots z.sound slot term term c.op e c.chosen (le_refl _) is)) c.chosen));
          applied = k.applied;
          saved = k.saved;
          in_hand = k.in_hand;
          role = k.role;
          marks = marks_more i s.durable.base s.durable.base s.committed (Sets.insert s.committed slot) s.role (le_refl _) (λ k low is. contains-insert s.committed slot k ∙ or_right _ _ is) k.marks;
        },
        tt,
      )))
      (λ _. nothing_row)

  pub on_probe_row : (from term number : ℕ) → from ≢ i → Row b i s (on_probe s from term number)
  unfolding on_probe
  on_probe_row from term number apart = either b i s (nat_lt term s.durable.term) _ _
      (λ _. nack_row from apart)
      (λ _. sends_row (probe_answer ∷ []) (λ z. (record { from_below = subst (λ k. k < 3) (sym is_server.number) below; apart = λ same. apart (sym same ∙ is_server.number); body = tt }, tt)))
    where
      probe_answer : Packet
      probe_answer = record { from = s.number; to = from; term = term; body = ProbeOk number (upto s) }

  -- the entry that a leader proposed is stored
  accepted_knows : (e : Entry) → s.durable.term ≤ e.term → Grows b.proposal b.ballot s.durable (accepted s e).durable → (z : Later b i (accepted s e).durable) → ServerKnows z.ballots i (accepted s e)
  unfolding accepted stored
  accepted_knows e le grows z =
      let k = knows_there i b z.ballots z.extends z.sound i s has_known in
      record {
        committed = λ slot is. committed_grows z.ballots z.sound i s.durable (accepted s e).durable z.disk (grows_stays i b z.ballots z.extends s.durable (accepted s e).durable grows) slot (inr refl) (k.committed slot is);
        applied = applied_later z.ballots s.durable.term e.term (has_applied s) s.sectors le k.applied;
        saved = applied_later z.ballots s.durable.term e.term (is_applied s.durable.base s.durable.saved) s.durable.sectors le k.saved;
        in_hand = λ slot op is. job_later z.ballots s.durable.term e.term (has_applied s) slot op le (k.in_hand slot op is);
        role = tt;
        marks = tt;
      }

  accepted_number : (e : Entry) → (accepted s e).number ≡ s.number
  unfolding accepted
  accepted_number e = refl

  accepted_term : (e : Entry) → (accepted s e).durable.term ≡ e.term
  unfolding accepted stored
  accepted_term e = refl

  accepted_holds : (e : Entry) → holds (accepted s e).durable e.slot e.term ≡ true
  unfolding accepted stored put_entry
  accepted_holds e = holds_from (accepted s e).durable e.slot e (get_inserted s.durable.log e.slot e)

  accepted_row : (e : Entry) (packets : Server → List Packet) → s.durable.term ≤ e.term → b.proposal e.slot e.term ≡ Some e → ((z : Later b i (accepted s e).durable) → Every (PacketIs z.ballots) (packets (accepted s e))) → Row b i s (sends (accepted s e) (packets (accepted s e)))
  unfolding accepted stored
  accepted_row e packets le is sent =
      let made = sound.made e.slot e.term e is in
      let grows = entry_grows b.proposal b.ballot s.durable within e le is (record { merge = made.merge; is = made.is; first_slot = sym made.has_first }) in
      plain _ refl grows (applied_later b s.durable.term e.term (is_applied s.durable.base s.durable.saved) s.durable.sectors le has_known.saved) tt (λ z. (accepted_knows e le grows z, sent z)) (λ z slot is. absurd (none-some slot is))

  -- an acknowledgement of what is applied
  known_ack : (z : Ballots) (x : Extends i b z) (from slot : ℕ) (after : Server) → from ≢ i → after.number ≡ s.number → s.durable.term ≤ after.durable.term → slot ≤ upto s → Every (PacketIs z) (to_one after from (Ack slot (upto after)) ∷ [])
  known_ack z x from slot after apart number le low = reply z after from (Ack slot (upto after)) number apart (λ _. inr (λ p p_above p_low. known_later z p s.durable.term after.durable.term le (known_to z x p p_above (le_trans p_low low))))

  held_ack : (z : Later b i s.durable) (slot term : ℕ) → s.durable.term ≤ term → holds s.durable slot term ≡ true → AckIs z.ballots s.number slot s.durable.term
  held_ack z slot term le has =
      let h = holds_is s.durable slot term has in
      let same : term ≡ s.durable.term = let w = within slot h.0 h.1 in omega (arith, w, h.2) in
      inl (own_accepted z.ballots z.sound s.durable z.disk s.number is_server.number slot s.durable.term (ap (holds s.durable slot) (sym same) ∙ has))

  pub on_accept_row : (setup : Setup) (from : ℕ) (e : Entry) → from ≢ i → b.proposal e.slot e.term ≡ Some e → Row b i s (on_accept setup s from e)
  unfolding on_accept
  on_accept_row setup from e apart is =
      either b i s (nat_lt e.term s.durable.term) _ _ (λ _. nack_row from apart) (λ no_lower.
      either b i s (nat_le e.slot s.durable.base) _ _ (λ low. met_row e.term (λ z. to_one z from (Ack e.slot (upto z)) ∷ []) (λ z x after number le. known_ack z x from e.slot after apart number le (le_trans (leb-true _ _ low) (base_below_upto s)))) (λ _.
      either b i s (nat_lt (s.durable.base + setup.window) e.slot) _ _ (λ _. nothing_row) (λ _.
      either b i s (holds s.durable e.slot e.term) _ _ (λ has. sends_row _ (λ z. reply z.ballots s from (Ack e.slot (upto s)) refl apart (λ _. held_ack z e.slot e.term (ltb-false _ _ no_lower) has))) (λ _.
      accepted_row e (λ z. to_one z from (Ack e.slot (upto z)) ∷ []) (ltb-false _ _ no_lower) is (λ z. reply z.ballots (accepted s e) from (Ack e.slot (upto (accepted s e))) (accepted_number e) apart
      (λ _. inl (ap (z.ballots.accepted (accepted s e).number e.slot) (accepted_term e) ∙ own_accepted z.ballots z.sound (accepted s e).durable z.disk (accepted s e).number (accepted_number e ∙ is_server.number) e.slot e.term (accepted_holds e))))))))

  -- an installed image, or a checkpoint of its own
  image_row : (after : Durable) (o : Outcome) → o.acked ≡ None → o.server.number ≡ s.number → o.server.durable ≡ after → s.durable.term ≤ after.term → s.durable.base < after.base → after.log ≡ above after.base s.durable.log → after.starts ≡ s.durable.starts → AppliedKnown b after.term after.base after.saved after.sectors → RoleIs b.vote b.ballot b.next i after o.server.role → ((z : Later b i after) → ((slot : ℕ) → after.base < slot → Sets.contains s.committed slot ≡ true → IsCommitted z.ballots after.log slot) → ServerKnows z.ballots i o.server × Every (PacketIs z.ballots) o.packets) → Row b i s o
  unfolding stored
  image_row after o none number same term base log starts saved role rest =
      let grows = trim_grows b.proposal b.ballot s.durable within after term base log starts in
      plain o number (subst (λ d. Grows b.proposal b.ballot s.durable d) (sym same) grows)
      (subst (λ d. AppliedKnown b d.term d.base d.saved d.sectors) (sym same) saved)
      (subst (λ d. RoleIs b.vote b.ballot b.next i d o.server.role) (sym same) role)
      (λ z. let y : Later b i after = record { ballots = z.ballots; sound = z.sound; extends = z.extends; disk = z.disk ∙ same; served = z.served } in
      rest y (λ slot low is. committed_grows y.ballots y.sound i s.durable after y.disk (grows_stays i b y.ballots y.extends s.durable after grows) slot (inl low)
      (committed_there i b y.ballots y.extends s.durable.log slot (has_known.committed slot is))))
      (λ z slot is. absurd (none-some slot (sym none ∙ is)))

  installed_term : (term base : ℕ) (applied : Numbers) (sectors : List Sector) → (installed s term base applied sectors).durable.term ≡ term
  unfolding installed stored
  installed_term term base applied sectors = refl

  pub on_image_row : (from term base : ℕ) (applied : Numbers) (sectors : List Sector) → from ≢ i → AppliedKnown b term base applied sectors → Row b i s (on_image s from term base applied sectors)
  unfolding on_image installed stored
  on_image_row from term base applied sectors apart known =
      either b i s (nat_lt term s.durable.term) _ _ (λ _. nack_row from apart) (λ no_lower.
      either b i s (nat_le base (upto s)) _ _ (λ low. met_row term (λ z. to_one z from (Ack base (upto z)) ∷ []) (λ z x after number le. known_ack z x from base after apart number le (leb-true _ _ low))) (λ further.
      image_row _ (ack (installed s term base applied sectors) from base) refl refl refl (ltb-false _ _ no_lower)
      (lt_of_le_of_lt (base_below_upto s) (leb-false _ _ further)) refl refl known tt
      (λ z committed.
      let there = applied_there i b z.ballots z.extends z.sound term (is_applied base applied) sectors known in (
        record {
          committed = λ slot is. let r = retained s.committed base slot is in committed slot r.1 r.0;
          applied = there;
          saved = there;
          in_hand = λ slot op is. absurd (none-some op (sym (get-empty nat_cmp slot) ∙ is));
          role = tt;
          marks = tt;
        },
        reply z.ballots (installed s term base applied sectors) from (Ack base (upto (installed s term base applied sectors))) refl apart (λ _. inr (λ p p_above p_low. there.known p p_above (or_left _ _ (le-leb p base p_low)))),
      ))))

  -- a trim leaves the same slots applied
  trim_same : (slot : ℕ) → is_applied (upto s) (Sets.retain s.applied (nat_lt (upto s))) slot ≡ has_applied s slot
  trim_same slot =
      elim (cases_lt (upto s) slot) [
        | inl beyond ↦
            ap (λ c. nat_le slot (upto s) || c) (retain_above s.applied (upto s) slot beyond)
            ∙ ap (λ c. c || Sets.contains s.applied slot) (lt-leb slot (upto s) beyond ∙ sym (lt-leb slot s.durable.base (lt_of_le_of_lt (base_below_upto s) beyond)))
        | inr within_it ↦ or_left _ _ (le-leb slot (upto s) within_it) ∙ sym (applied_to_upto s slot within_it)
      ]

  pub on_checkpoint_row : Row b i s (on_checkpoint s)
  unfolding on_checkpoint trimmed stored
  on_checkpoint_row = either b i s (upto s == s.durable.base || is_short_of s.role (upto s)) _ _ (λ _. refused_row _) (λ moves.
      let saved = applied_same b s.durable.term (has_applied s) (is_applied (upto s) (Sets.retain s.applied (nat_lt (upto s)))) s.sectors trim_same has_known.applied in
      image_row _ (only_answers (trimmed s) (BaseIs (upto s))) refl refl refl (le_refl _) (risen (or_parts _ _ moves).0) refl refl saved
      (role_after b.vote b.ballot b.next i s.durable _ s.role refl (base_below_upto s) is_server.role)
      (λ z committed.
      let there = applied_there i b z.ballots z.extends z.sound s.durable.term (is_applied (upto s) (Sets.retain s.applied (nat_lt (upto s)))) s.sectors saved in
      let k = knows_there i b z.ballots z.extends z.sound i s has_known in (
        record {
          committed = λ slot is. let r = retained s.committed (upto s) slot is in committed slot r.1 r.0;
          applied = there;
          saved = there;
          in_hand = λ slot op is. job_same z.ballots s.durable.term (has_applied s) (is_applied (upto s) (Sets.retain s.applied (nat_lt (upto s)))) slot op trim_same (k.in_hand slot op is);
          role = k.role;
          marks = marks_more i s.durable.base (upto s) s.committed (Sets.retain s.committed (nat_lt (upto s))) s.role (base_below_upto s) (λ k low is. retain_above s.committed (upto s) k low ∙ is) k.marks;
        },
        tt,
      )))
    where
      risen : (upto s == s.durable.base) ≡ false → s.durable.base < upto s
      risen e = let apart = eqb-false (upto s) s.durable.base e in let le = base_below_upto s in grind (arith, apart, le)

  pub on_fetch_row : (range : Span) (number : ℕ) (role : Role) → s.role ≡ role → Row b i s (on_fetch s range number role)
  unfolding on_fetch
  on_fetch_row range number Follower is = refused_row _
  on_fetch_row range number (Candidate own) is = refused_row _
  on_fetch_row range number (Merging l) is = refused_row _
  on_fetch_row range number (Serving l) is = still (on_fetch s range number (Serving l)) refl refl refl is_server.role
      (λ z. let k = knows_later z in (
        record { committed = k.committed; applied = k.applied; saved = k.saved; in_hand = k.in_hand; role = k.role; marks = k.marks },
        sent_to_others z.ballots s i (Probe number) is_server.number below (λ _. tt),
      ))

  delivery_more : (c : Bool) (slot p : ℕ) → Sets.contains s.committed p ≡ true → Sets.contains (if c then Sets.insert s.committed slot else s.committed) p ≡ true
  delivery_more true slot p is = contains-insert s.committed slot p ∙ or_right _ _ is
  delivery_more false slot p is = is

  insert_same : (slot p : ℕ) → is_applied s.durable.base (Sets.insert s.applied slot) p ≡ with_slot (has_applied s) slot p
  insert_same slot p = ap (λ c. nat_le p s.durable.base || c) (contains-insert s.applied slot p ∙ ap (λ c. c || Sets.contains s.applied p) (same_number p slot)) ∙ swap_or (nat_le p s.durable.base) (p == slot) (Sets.contains s.applied p)

  pub on_finish_row : (life slot : ℕ) → Row b i s (on_finish s life slot)
  unfolding on_finish applied_op
  on_finish_row life slot = either b i s (life == s.life) _ _ (λ _. op_row (FinMap.get s.in_hand slot) refl) (λ _. refused_row _)
    where
      op_row : (o : Option Op) → FinMap.get s.in_hand slot ≡ o → Row b i s (sends (applied_op s slot o) [])
      op_row None is = nothing_row
      op_row (Some op) is = still _ refl refl refl is_server.role (λ z.
          let k = knows_later z in
          let job = k.in_hand slot op is in (
            record {
              committed = k.committed;
              applied = applied_same z.ballots s.durable.term (with_slot (has_applied s) slot) (is_applied s.durable.base (Sets.insert s.applied slot)) (changed op s.sectors) (insert_same slot)
                  (applied_more z.ballots z.sound z.served s.durable.term (has_applied s) s.sectors slot op job k.applied);
              saved = k.saved;
              in_hand = λ p x got. let r = remove_cases s.in_hand slot p x got in job_same z.ballots s.durable.term (with_slot (has_applied s) slot) (is_applied s.durable.base (Sets.insert s.applied slot)) p x (insert_same slot) (other_job z.ballots s.durable.term (has_applied s) slot p x r.0 (k.in_hand p x r.1));
              role = k.role;
              marks = k.marks;
            },
            tt,
          ))

  pub on_give_back_row : (life slot : ℕ) → Row b i s (on_give_back s life slot)
  unfolding on_give_back
  on_give_back_row life slot = either b i s (life == s.life) _ _
      (λ _. still _ refl refl refl is_server.role (λ z.
      let k = knows_later z in
      (record { committed = k.committed; applied = k.applied; saved = k.saved; in_hand = λ p x got. k.in_hand p x (remove_cases s.in_hand slot p x got).1; role = k.role; marks = k.marks }, tt)))
      (λ _. nothing_row)

  -- a vote for a candidate, or for itself
  cast : (term to : ℕ) → Cast
  cast term to = record { to = to; log = vote_of s.durable }

  after_term : ℕ → Durable
  after_term term = stored s.durable (TermRecord term)

  no_vote : (term : ℕ) → s.durable.term < term → (o : Option Cast) → b.vote i term ≡ o → b.vote i term ≡ None
  no_vote term lt None is = is
  no_vote term lt (Some v) is = absurd (omega (arith, sound.vote_terms i term v is, ap (λ d. d.term) is_server.disk))

  higher_sound : (term : ℕ) → s.durable.term < term → Sound (grown b i (after_term term))
  unfolding after_term
  higher_sound term lt = grown_sound b sound i below (after_term term)
      (subst (λ d. Grows b.proposal b.ballot d (after_term term)) (sym is_server.disk) (term_grows b.proposal b.ballot s.durable within term (le_of_lt lt)))

  -- what it held before it took the term stands for all lower terms
  vote_faithful : (term to : ℕ) → s.durable.term < term → Faithful ((grown b i (after_term term)).accepted i) b.proposal b.ballot (vote_of s.durable) term
  unfolding after_term stored
  vote_faithful term to lt =
      let f : Faithful ((grown b i (after_term term)).accepted i) b.proposal b.ballot (vote_of s.durable) (suc term) =
      subst (λ d. Faithful ((grown b i (after_term term)).accepted i) b.proposal b.ballot (vote_of d) (suc d.term))
      (cond-true (i == i) (after_term term) (b.disk i) (eq-eqb i i refl)) ((higher_sound term lt).disks i) in
      let old : Faithful (b.accepted i) b.proposal b.ballot (vote_of s.durable) (suc s.durable.term) =
      subst (λ d. Faithful (b.accepted i) b.proposal b.ballot (vote_of d) (suc d.term)) is_server.disk (sound.disks i) in
      record {
        keeps = λ k t is less. f.keeps k t is (omega arith);
        keeps_starts = λ k t is less. f.keeps_starts k t is (omega arith);
        proposes = λ k e is. let p = old.proposes k e is in (omega (arith, p.0), p.1);
        true_starts = λ t first is. let p = old.true_starts t first is in (omega (arith, p.0), p.1);
      }

  after_vote : (term to : ℕ) → Ballots
  after_vote term to = voted (grown b i (after_term term)) i term (cast term to)

  term_after : (term : ℕ) → ((grown b i (after_term term)).disk i).term ≡ term
  unfolding after_term stored
  term_after term = ap (λ d. d.term) (cond-true (i == i) (after_term term) (b.disk i) (eq-eqb i i refl))

  after_vote_sound : (term to : ℕ) → s.durable.term < term → Sound (after_vote term to)
  unfolding after_vote cast
  after_vote_sound term to lt =
      voted_sound (grown b i (after_term term)) (higher_sound term lt) i term (cast term to) (no_vote term lt (b.vote i term) refl)
      (le_of_eq (sym (term_after term))) (vote_faithful term to lt)

  after_vote_extends : (term to : ℕ) → s.durable.term < term → Extends i b (after_vote term to)
  unfolding after_vote
  after_vote_extends term to lt =
      extends_both i b (grown b i (after_term term)) _ (extends_grown b i (after_term term))
      (extends_voted (grown b i (after_term term)) (higher_sound term lt) i term (cast term to) (no_vote term lt (b.vote i term) refl))

  after_vote_served : (term to : ℕ) → s.durable.term < term → Served (after_vote term to)
  unfolding after_vote
  after_vote_served term to lt =
      voted_served (grown b i (after_term term)) i term (cast term to) (extends_voted (grown b i (after_term term)) (higher_sound term lt) i term (cast term to) (no_vote term lt (b.vote i term) refl))
      (grown_served b i (after_term term) (extends_grown b i (after_term term)) served)

  vote_there : (term to : ℕ) → (after_vote term to).vote i term ≡ Some (cast term to)
  unfolding after_vote
  vote_there term to =
      ap (λ f. f term) (cond-true (i == i) (put (b.vote i) term (Some (cast term to))) (b.vote i) (eq-eqb i i refl))
      ∙ cond-true (term == term) (Some (cast term to)) (b.vote i term) (eq-eqb term term refl)

  disk_after_vote : (term to : ℕ) → (after_vote term to).disk i ≡ after_term term
  unfolding after_vote
  disk_after_vote term to = cond-true (i == i) (after_term term) (b.disk i) (eq-eqb i i refl)

  vote_row : (term to : ℕ) (o : Outcome) → o.acked ≡ None → s.durable.term < term → o.server.number ≡ s.number → o.server.durable ≡ after_term term → RoleIs (after_vote term to).vote b.ballot b.next i (after_term term) o.server.role → ((z : Ballots) → Extends i b z → Sound z → ServerKnows z i o.server) → Every (PacketIs (after_vote term to)) o.packets → Row b i s o
  unfolding after_vote after_term
  vote_row term to o none lt number same role knows_now packets = record {
    made = b;
    made_sound = sound;
    made_served = served;
    made_extends = extends_self i b;
    made_disk = is_server.disk;
    made_accepted = λ j slot t did. did;
    grows = subst (λ d. Grows b.proposal b.ballot s.durable d) (sym same) (term_grows b.proposal b.ballot s.durable within term (le_of_lt lt));
    after_known = (knows_now b (extends_self i b) sound).saved;
    done = after_vote term to;
    done_sound = after_vote_sound term to lt;
    done_served = after_vote_served term to lt;
    done_extends = after_vote_extends term to lt;
    done_accepted = subst (λ d. (j slot t : ℕ) → (after_vote term to).accepted j slot t ≡ true → (b.accepted j slot t ≡ true) ⊎ ((j ≡ i) × (holds d slot t ≡ true))) (sym same) (grown_accepted b i (after_term term));
    server_is = record {
      number = number ∙ is_server.number;
      disk = disk_after_vote term to ∙ sym same;
      role = subst (λ d. RoleIs (after_vote term to).vote b.ballot b.next i d o.server.role) (sym same) role;
      knows = knows_now (after_vote term to) (after_vote_extends term to lt) (after_vote_sound term to lt);
    };
    packets = packets;
    acked = λ slot is. absurd (none-some slot (sym none ∙ is));
  }

  pub on_request_vote_row : (from term base : ℕ) → from ≢ i → Row b i s (on_request_vote s from term base)
  unfolding on_request_vote after_term cast stored
  on_request_vote_row from term base apart =
      either b i s (nat_le term s.durable.term || nat_lt base s.durable.base) _ _ (λ _. nack_row from apart) (λ grants.
      let lt : s.durable.term < term = leb-false term s.durable.term (or_parts _ _ grants).0 in
      vote_row term from (sends (raise_term s term) (to_one (raise_term s term) from (Vote (vote_of s.durable)) ∷ [])) refl lt refl refl tt
      (raised_knows term (le_of_lt lt)) (
        sent_to (after_vote term from) (raise_term s term) i from (Vote (vote_of s.durable)) is_server.number below apart
            (ap (λ k. (after_vote term from).vote k term) is_server.number ∙ vote_there term from),
        tt,
      ))

  -- a term's leader is one of its voters
  leader_voted : (term : ℕ) (m : Ballot) → b.ballot term ≡ Some m → term ≤ (b.disk m.leader).term
  leader_voted term m is = sound.vote_terms m.leader term _ (sound.quorums term m is).own_vote

  pub on_elect_row : Row b i s (on_elect s)
  unfolding on_elect after_term cast stored
  on_elect_row =
      let term = suc s.durable.term in
      let lt : s.durable.term < term = omega arith in
      vote_row term i (on_elect s) refl lt refl refl
      (record {
        own_vote = vote_there term i;
        own_base = le_refl _;
        not_yet = λ m is same. omega (arith, leader_voted term m is, ap (λ k. (b.disk k).term) same, ap (λ d. d.term) is_server.disk);
      })
      (λ z x sound_z. let k = raised_knows term (le_of_lt lt) z x sound_z in record { committed = k.committed; applied = k.applied; saved = k.saved; in_hand = k.in_hand; role = tt; marks = tt })
      (sent_to_others (after_vote term i) (on_elect s).server i (RequestVote s.durable.base) is_server.number below (λ _. tt))

  leader_is : (l : Leader) → s.role ≡ Serving l → IsLeader b.ballot b.next i s.durable l
  leader_is l is = subst (RoleIs b.vote b.ballot b.next i s.durable) is is_server.role

  merging_is : (l : Leader) → s.role ≡ Merging l → IsLeader b.ballot b.next i s.durable l
  merging_is l is = subst (RoleIs b.vote b.ballot b.next i s.durable) is is_server.role

  serving_knows : (l : Leader) → s.role ≡ Serving l → LeaderKnows b i s.durable.term l × MergedKnown b s.durable.term l
  serving_knows l is = subst (RoleKnows b i s.durable.term) is has_known.role

  serving_marks : (l : Leader) → s.role ≡ Serving l → AckMarks i s.durable.base s.committed l × AllAcked i l
  serving_marks l is = subst (RoleMarks i s.durable.base s.committed) is has_known.marks

  merging_marks : (l : Leader) → s.role ≡ Merging l → AckMarks i s.durable.base s.committed l
  merging_marks l is = subst (RoleMarks i s.durable.base s.committed) is has_known.marks

  merging_knows : (l : Leader) → s.role ≡ Merging l → LeaderKnows b i s.durable.term l
  merging_knows l is = subst (RoleKnows b i s.durable.term) is has_known.role

  -- Submit
  submitted_accepts : (l : Leader) (e : Entry) (z : Ballots) → Sound z → z.disk i ≡ (submitted s l e).durable → z.accepted i e.slot e.term ≡ true
  unfolding submitted stored put_entry
  submitted_accepts l e z sound_z disk =
      sound_z.held_accepted i e.slot e (ap (λ d. FinMap.get d.log e.slot) disk ∙ get_inserted s.durable.log e.slot e)

  submit_knows : (setup : Setup) (op : Op) (l : Leader) (done : Ballots) → Sound done → Extends i b done → done.disk i ≡ (submitted s l (new_entry setup.names s l op)).durable → Grows done.proposal done.ballot s.durable (submitted s l (new_entry setup.names s l op)).durable → LeaderKnows b i s.durable.term l × MergedKnown b s.durable.term l → AckMarks i s.durable.base s.committed l × AllAcked i l → ServerKnows done i (submitted s l (new_entry setup.names s l op))
  unfolding submitted new_entry stored
  submit_knows setup op l done done_is x disk grows leads marks =
      let e = new_entry setup.names s l op in
      let k = knows_there i b done x done_is i s has_known in
      let lead = leader_there i b done x i s.durable.term l leads.0 in
      let did = submitted_accepts l e done done_is disk in
      record {
        committed = λ slot is. committed_grows done done_is i s.durable (submitted s l e).durable disk grows slot (inr refl) (k.committed slot is);
        applied = k.applied;
        saved = k.saved;
        in_hand = k.in_hand;
        role = (
          record {
            own = λ slot low high. elim (eq-or-lt_of_le high) [
              | inl last ↦ let same : slot ≡ l.next = omega (arith, last) in ap (λ p. done.accepted i p s.durable.term) same ∙ did
              | inr before ↦ lead.own slot low (omega (arith, before))
            ];
            acks = λ j slot has above. elim (acknowledged_cases l.acks s.number l.next j slot has) [
              | inl here ↦ inl (ap (λ n. done.accepted n slot s.durable.term) (here.0 ∙ is_server.number) ∙ ap (λ p. done.accepted i p s.durable.term) here.1 ∙ did)
              | inr before ↦ lead.acks j slot before above
            ];
          },
          λ slot low high. known_there i b done x slot s.durable.term (leads.1 slot low high),
        );
        marks = (
          λ j slot apart has low. elim (acknowledged_cases l.acks s.number l.next j slot has) [
            | inl here ↦ absurd (apart (here.0 ∙ is_server.number))
            | inr before ↦ marks.0 j slot apart before low
          ],
          λ slot low high.
              let a = marks.1 slot low high in
              (a.0, a.1, acknowledged_more l.acks s.number l.next a.0 slot a.2),
        );
      }

  -- what it holds of its own term, in the slots that it can name
  pub own_entry : (l : Leader) → IsLeader b.ballot b.next i s.durable l → LeaderKnows b i s.durable.term l → (slot : ℕ) → s.durable.base < slot → slot < l.next → (y : Entry) × (FinMap.get s.durable.log slot ≡ Some y) × (b.proposal slot s.durable.term ≡ Some y)
  own_entry l h lead slot low high =
      let did = lead.own slot (omega (arith, h.has_base, h.base_low, low)) high in
      let has = (sound.disks i).keeps slot s.durable.term did (omega (arith, ap (λ d. d.term) is_server.disk)) (omega (arith, ap (λ d. d.base) is_server.disk, low)) in
      let held : FinMap.get s.durable.log slot ≡ Some has.entry = ap (λ d. FinMap.get d.log slot) (sym is_server.disk) ∙ has.held in
      let same : has.entry.term ≡ s.durable.term = let w = within slot has.entry held in omega (arith, w, has.no_lower) in
      (has.entry, held, ap (b.proposal slot) (sym same) ∙ ((sound.disks i).proposes slot has.entry has.held).1)

  lists_own : (names : ℕ) (l : Leader) → IsLeader b.ballot b.next i s.durable l → LeaderKnows b i s.durable.term l → (op : Op) → Every (IsListed b.proposal l.next s.durable.term (new_entry names s l op)) (look_behind names s l.next)
  unfolding new_entry look_behind op_at
  lists_own names l h lead op =
      every_map (IsListed b.proposal l.next s.durable.term (new_entry names s l op)) _ _
      (every_filter _ (nat_lt s.durable.base) (range_with_len (l.next - names) (l.next - (l.next - names)))
      (every_range _ (l.next - (l.next - names)) (l.next - names) (λ slot low high over.
      let y = own_entry l h lead slot (ltb-true _ _ over) (omega (arith, high)) in
      record {
        is_new = omega (arith, h.has_first, h.has_next, (sound.quorums s.durable.term h.merge h.is).begins);
        other = y.0;
        is = y.2;
        has_range = ap (λ o. range_of (op_of o)) y.1;
        below = omega (arith, high);
      })))

  submit_row : (setup : Setup) (op : Op) (l : Leader) → IsLeader b.ballot b.next i s.durable l → LeaderKnows b i s.durable.term l × MergedKnown b s.durable.term l → AckMarks i s.durable.base s.committed l × AllAcked i l → Row b i s (record { server = submitted s l (new_entry setup.names s l op); packets = to_others s (Accept (new_entry setup.names s l op)); answer = SlotIs l.next; acked = None })
  unfolding submitted new_entry stored
  submit_row setup op l h leads marks =
      let term = s.durable.term in
      let e = new_entry setup.names s l op in
      let made = proposed b term e in
      let made_is : Sound made = proposed_sound b sound term h.merge h.is e h.has_next refl h.has_first in
      let made_extends : Extends i b made = extends_proposed b sound i term h.merge e h.leads h.is h.has_next in
      let made_served : Served made = proposed_served b sound i term h.merge e h.leads h.is h.has_next (lists_own setup.names l h leads.0 op) (λ p low high. leads.1 p (omega (arith, h.has_base, low)) (omega (arith, h.has_first, high))) served in
      let is : made.proposal e.slot term ≡ Some e = two_ways b.proposal e.slot term (Some e) in
      let after = (submitted s l e).durable in
      let grows : Grows made.proposal made.ballot s.durable after =
      entry_grows made.proposal made.ballot s.durable within e (le_refl _) is (record { merge = h.merge; is = h.is; first_slot = sym h.has_first }) in
      let done_sound : Sound (grown made i after) = grown_sound made made_is i below after (subst (λ d. Grows made.proposal made.ballot d after) (sym is_server.disk) grows) in
      let done_extends : Extends i b (grown made i after) = extends_both i b made _ made_extends (extends_grown made i after) in
      let disk : (grown made i after).disk i ≡ after = cond-true (i == i) after (made.disk i) (eq-eqb i i refl) in
      record {
        made = made;
        made_sound = made_is;
        made_served = made_served;
        made_extends = made_extends;
        made_disk = is_server.disk;
        made_accepted = λ j slot t did. did;
        grows = grows;
        after_known = applied_there i b made made_extends made_is term (is_applied s.durable.base s.durable.saved) s.durable.sectors has_known.saved;
        done = grown made i after;
        done_sound = done_sound;
        done_served = grown_served made i after (extends_grown made i after) made_served;
        done_extends = done_extends;
        done_accepted = grown_accepted made i after;
        server_is = record {
          number = is_server.number;
          disk = disk;
          role = record {
            merge = h.merge;
            is = h.is;
            leads = h.leads;
            has_first = h.has_first;
            has_next = sym (cond-true (term == term) (suc l.next) (b.next term) (eq-eqb term term refl));
            has_base = h.has_base;
            base_low = h.base_low;
          };
          knows = submit_knows setup op l (grown made i after) done_sound done_extends disk grows leads marks;
        };
        packets = sent_to_others (grown made i after) s i (Accept e) is_server.number below (λ _. is);
        acked = λ slot none. absurd (none-some slot none);
      }

  pub on_submit_row : (setup : Setup) (op : Op) (role : Role) → s.role ≡ role → Row b i s (on_submit setup s op role)
  unfolding on_submit
  on_submit_row setup op Follower is = refused_row _
  on_submit_row setup op (Candidate own) is = refused_row _
  on_submit_row setup op (Merging l) is = refused_row _
  on_submit_row setup op (Serving l) is =
      either b i s (nat_lt (s.durable.base + setup.window) l.next) _ _ (λ _. refused_row _) (λ _. submit_row setup op l (leader_is l is) (serving_knows l is) (serving_marks l is))

  -- Vote
  ballot_of : (from : ℕ) (own vote : VoteLog) → Ballot
  ballot_of from own vote = record { leader = i; other = from; base = s.durable.base; own = own; theirs = vote }

  -- no other leader has merged in the term: it would share a voter
  no_ballot : (from : ℕ) (own vote : VoteLog) → from < 3 → from ≢ i → IsCandidate b.vote b.ballot i s.durable own → b.vote from s.durable.term ≡ Some (record { to = i; log = vote }) → (o : Option Ballot) → b.ballot s.durable.term ≡ o → b.ballot s.durable.term ≡ None
  no_ballot from own vote from_below apart c voted None is = is
  no_ballot from own vote from_below apart c voted (Some x) is =
      let term = s.durable.term in
      let q = sound.quorums term x is in
      absurd (c.not_yet x is (elim (share x.leader x.other i from q.apart (λ same. apart (sym same)) q.leader_below q.other_below below from_below) [
        | inl one ↦ elim one [
          | inl same ↦ same
          | inr same ↦ same_to _ _ (sym q.own_vote ∙ ap (λ k. b.vote k term) same ∙ voted)
        ]
        | inr two ↦ elim two [
          | inl same ↦ same_to _ _ (sym q.other_vote ∙ ap (λ k. b.vote k term) same ∙ c.own_vote)
          | inr same ↦ same_to _ _ (sym q.other_vote ∙ ap (λ k. b.vote k term) same ∙ voted)
        ]
      ]))

  merged_accepts : (own vote : VoteLog) (from : ℕ) (made : Ballots) → made.ballot s.durable.term ≡ Some (ballot_of from own vote) → ((k : ℕ) → s.durable.base < k → k < first_of (ballot_of from own vote) → made.proposal k s.durable.term ≡ Some (merged_entry s.durable.term s.durable.base own vote k)) → (done : Ballots) → Sound done → done.disk i ≡ (merged s own vote).durable → (slot : ℕ) → s.durable.base < slot → slot < merged_first s.durable.base own vote → done.accepted i slot s.durable.term ≡ true
  unfolding merged ballot_of merged_entry
  merged_accepts own vote from made leads proposes done done_is disk slot low high =
      done_is.held_accepted i slot (merged_entry s.durable.term s.durable.base own vote slot)
      (ap (λ d. FinMap.get d.log slot) disk ∙ merge_holds made.proposal made.ballot s.durable within (ballot_of from own vote) leads proposes slot low high)

  merge_knows : (own vote : VoteLog) (done : Ballots) → Sound done → Extends i b done → done.disk i ≡ (merged s own vote).durable → Grows done.proposal done.ballot s.durable (merged s own vote).durable → ((slot : ℕ) → s.durable.base < slot → slot < merged_first s.durable.base own vote → done.accepted i slot s.durable.term ≡ true) → ServerKnows done i (merged s own vote)
  unfolding merged stored led
  merge_knows own vote done done_is x disk grows did =
      let k = knows_there i b done x done_is i s has_known in
      let first = merged_first s.durable.base own vote in
      let lead : LeaderKnows done i s.durable.term (led s.durable.base first first s.number) = record {
        own = λ slot low high. did slot low high;
        acks = λ j slot has above. elim (all_acknowledged_cases (λ p. (s.durable.base < p) × (p < first)) (range_with_len (suc s.durable.base) (first - suc s.durable.base)) FinMap.empty s.number j slot
            (every_range (λ p. (s.durable.base < p) × (p < first)) (first - suc s.durable.base) (suc s.durable.base) (λ p low high. (low, omega (arith, high, base_below_first s.durable.base own vote)))) has) [
              | inl here ↦ inl (ap (λ n. done.accepted n slot s.durable.term) (here.0 ∙ is_server.number) ∙ did slot here.1.0 here.1.1)
              | inr nobody ↦ absurd (nobody_acked j slot nobody)
            ];
      } in
      record {
        committed = λ slot is. committed_grows done done_is i s.durable (merged s own vote).durable disk grows slot (inr refl) (k.committed slot is);
        applied = k.applied;
        saved = k.saved;
        in_hand = k.in_hand;
        role = role_known_by done i s.durable.term (nat_lt (suc s.durable.base) first) (led s.durable.base first first s.number) lead
            (λ none slot low high. absurd (omega (arith, ltb-false _ _ none, low, high)));
        marks = role_marks_by i s.durable.base s.committed (nat_lt (suc s.durable.base) first) (led s.durable.base first first s.number)
            (λ j slot apart has low. elim (all_acknowledged_cases (λ p. Unit {0}) (range_with_len (suc s.durable.base) (first - suc s.durable.base)) FinMap.empty s.number j slot (every_of_all (λ p. Unit {0}) _ (λ p. tt)) has) [
              | inl here ↦ absurd (apart (here.0 ∙ is_server.number))
              | inr nobody ↦ absurd (nobody_acked j slot nobody)
            ])
            (λ none slot low high. absurd (omega (arith, ltb-false _ _ none, low, high)));
      }

  merge_row : (from : ℕ) (own vote : VoteLog) → from < 3 → from ≢ i → vote.base ≤ s.durable.base → IsCandidate b.vote b.ballot i s.durable own → b.vote from s.durable.term ≡ Some (record { to = i; log = vote }) → Row b i s (sends (merged s own vote) (flat_map (λ e. to_others s (Accept e)) (merged_entries s.durable.term s.durable.base own vote)))
  unfolding merged ballot_of stored led
  merge_row from own vote from_below apart low c voted =
      let term = s.durable.term in
      let m = ballot_of from own vote in
      let none = no_ballot from own vote from_below apart c voted (b.ballot term) refl in
      let made = merged_ballots b term m in
      let quorum : HasQuorum b.vote made.next term m = record {
        apart = λ same. apart (sym same);
        leader_below = below;
        other_below = from_below;
        own_vote = c.own_vote;
        other_vote = voted;
        own_base = c.own_base;
        other_base = low;
        begins = le_of_eq (sym (cond-true (term == term) (first_of m) (b.next term) (eq-eqb term term refl)));
      } in
      let made_is : Sound made = merged_sound b sound term m none quorum in
      let made_extends : Extends i b made = extends_merged b sound i term m refl none in
      let made_served : Served made = merged_served b sound i term m refl none served in
      let leads : made.ballot term ≡ Some m = cond-true (term == term) (Some m) (b.ballot term) (eq-eqb term term refl) in
      let proposes = merge_proposes b.proposal term m in
      let after = (merged s own vote).durable in
      let grows : Grows made.proposal made.ballot s.durable after =
      merge_grows made.proposal made.ballot s.durable within m leads proposes (base_below_first m.base own vote) in
      let done_sound : Sound (grown made i after) = grown_sound made made_is i below after (subst (λ d. Grows made.proposal made.ballot d after) (sym is_server.disk) grows) in
      let done_extends : Extends i b (grown made i after) = extends_both i b made _ made_extends (extends_grown made i after) in
      let disk : (grown made i after).disk i ≡ after = cond-true (i == i) after (made.disk i) (eq-eqb i i refl) in
      record {
        made = made;
        made_sound = made_is;
        made_served = made_served;
        made_extends = made_extends;
        made_disk = is_server.disk;
        made_accepted = λ j slot t did. did;
        grows = grows;
        after_known = applied_there i b made made_extends made_is term (is_applied s.durable.base s.durable.saved) s.durable.sectors has_known.saved;
        done = grown made i after;
        done_sound = done_sound;
        done_served = grown_served made i after (extends_grown made i after) made_served;
        done_extends = done_extends;
        done_accepted = grown_accepted made i after;
        server_is = record {
          number = is_server.number;
          disk = disk;
          role = leading_role b.vote made.ballot made.next i after (nat_lt (suc s.durable.base) (first_of m)) (led s.durable.base (first_of m) (first_of m) s.number)
              (record {
                merge = m;
                is = leads;
                leads = refl;
                has_first = refl;
                has_next = sym (cond-true (term == term) (first_of m) (b.next term) (eq-eqb term term refl));
                has_base = refl;
                base_low = le_refl _;
              });
          knows = merge_knows own vote (grown made i after) done_sound done_extends disk grows (merged_accepts own vote from made leads proposes (grown made i after) done_sound disk);
        };
        packets = every_flat_map_from (λ e. made.proposal e.slot e.term ≡ Some e) (PacketIs (grown made i after)) (λ e. to_others s (Accept e)) (merged_entries term s.durable.base own vote)
            (λ e is. sent_to_others (grown made i after) s i (Accept e) is_server.number below (λ _. is))
            (merged_proposed b.proposal term m);
        acked = λ slot none_acked. absurd (none-some slot none_acked);
      }

  pub on_vote_row : (from term : ℕ) (vote : VoteLog) (role : Role) → from < 3 → from ≢ i → b.vote from term ≡ Some (record { to = i; log = vote }) → s.role ≡ role → Row b i s (on_vote s term vote role)
  unfolding on_vote
  on_vote_row from term vote Follower from_below apart voted is = nothing_row
  on_vote_row from term vote (Merging l) from_below apart voted is = nothing_row
  on_vote_row from term vote (Serving l) from_below apart voted is = nothing_row
  on_vote_row from term vote (Candidate own) from_below apart voted is =
      either b i s (term == s.durable.term && nat_le vote.base s.durable.base) _ _
      (λ tests. let t = and_parts _ _ tests in
      merge_row from own vote from_below apart (leb-true _ _ t.1) (subst (RoleIs b.vote b.ballot b.next i s.durable) is is_server.role)
      (ap (b.vote from) (sym (eqb-true _ _ t.0)) ∙ voted))
      (λ _. nothing_row)

  -- Ack
  own_chosen : (l : Leader) → IsLeader b.ballot b.next i s.durable l → LeaderKnows b i s.durable.term l → (from slot : ℕ) → from ≢ i → l.b0 < slot → slot < l.next → AckIs b from slot s.durable.term → CommitIs b s.number slot s.durable.term
  own_chosen l h lead from slot apart low high a =
      let e = sound.complete s.durable.term h.merge slot h.is (omega (arith, h.has_base, low)) (omega (arith, h.has_next, high)) in
      record {
        entry = e.0;
        is = e.1;
        own = ap (λ n. b.accepted n slot s.durable.term) is_server.number ∙ lead.own slot low high;
        chosen = ack_chooses b sound i from slot s.durable.term e.0 e.1 (λ same. apart (sym same)) (lead.own slot low high) a;
      }

  own_slot : (l : Leader) (slot : ℕ) → is_own l slot ≡ true → (l.b0 < slot) × (slot < l.next)
  own_slot l slot is = let p = and_parts _ _ is in (ltb-true _ _ p.0, ltb-true _ _ p.1)

  commit_sent : (z : Later b i s.durable) (l : Leader) → IsLeader b.ballot b.next i s.durable l → LeaderKnows b i s.durable.term l → (from slot : ℕ) → from ≢ i → (0 < slot → AckIs b from slot s.durable.term) → Every (PacketIs z.ballots) (commit_to s l from slot)
  commit_sent z l h lead from slot apart a =
      by_test (is_own l slot) (λ c. is_own l slot ≡ c → Every (PacketIs z.ballots) (if c then to_one s from (Commit slot) ∷ [] else []))
      (λ _ own. let o = own_slot l slot own in
      reply z.ballots s from (Commit slot) refl apart (commit_there i b z.ballots z.extends s.number slot s.durable.term (own_chosen l h lead from slot apart o.0 o.1 (a (omega (arith, o.0))))))
      (λ _ _. tt) refl

  counted_knows : (z : Later b i s.durable) (l : Leader) → LeaderKnows b i s.durable.term l → (from slot upto_there : ℕ) → (0 < slot → AckIs b from slot s.durable.term) → LeaderKnows z.ballots i s.durable.term (counted l from slot upto_there)
  unfolding counted
  counted_knows z l lead from slot upto_there a =
      let k = leader_there i b z.ballots z.extends i s.durable.term l lead in
      record {
        own = k.own;
        acks = λ j p. by_test (is_own l slot) (λ c. acked_in (if c then acknowledged l.acks from slot else l.acks) j p ≡ true → 0 < p → AckIs z.ballots j p s.durable.term)
            (λ _ has above. elim (acknowledged_cases l.acks from slot j p has) [
              | inl here ↦ subst (λ n. AckIs z.ballots n p s.durable.term) (sym here.0) (subst (λ q. AckIs z.ballots from q s.durable.term) (sym here.1) (ack_there i b z.ballots z.extends from slot s.durable.term (a (subst (λ q. 0 < q) here.1 above))))
              | inr before ↦ k.acks j p before above
            ])
            (λ _. k.acks j p);
      }

  marked_knows : (z : Later b i s.durable) (l : Leader) → LeaderKnows b i s.durable.term l → (from slot : ℕ) → from ≢ i → (0 < slot → AckIs b from slot s.durable.term) → (k : ℕ) → Sets.contains (commit_own s l slot).committed k ≡ true → IsCommitted z.ballots s.durable.log k
  unfolding commit_own
  marked_knows z l lead from slot apart a k =
      by_test (is_own l slot && holds s.durable slot s.durable.term) (λ c. (is_own l slot && holds s.durable slot s.durable.term) ≡ c → Sets.contains (if c then Sets.insert s.committed slot else s.committed) k ≡ true → IsCommitted z.ballots s.durable.log k)
      (λ _ both is. let p = and_parts _ _ both in let o = own_slot l slot p.0 in
      insert_committed z.ballots slot (knows_later z).committed
      (held_committed z.ballots z.sound z.disk slot s.durable.term p.1 (λ e is_e. ack_chooses z.ballots z.sound i from slot s.durable.term e is_e (λ same. apart (sym same))
      ((leader_there i b z.ballots z.extends i s.durable.term l lead).own slot o.0 o.1) (ack_there i b z.ballots z.extends from slot s.durable.term (a (omega (arith, o.0)))))) k is)
      (λ _ _ is. (knows_later z).committed k is) refl

  counted_is : (l : Leader) (from slot upto_there : ℕ) → IsLeader b.ballot b.next i s.durable l → IsLeader b.ballot b.next i s.durable (counted l from slot upto_there)
  unfolding counted
  counted_is l from slot upto_there h = record { merge = h.merge; is = h.is; leads = h.leads; has_first = h.has_first; has_next = h.has_next; has_base = h.has_base; base_low = h.base_low }

  -- once each merged slot is acknowledged by another server, what is merged is chosen
  merged_known : (z : Later b i s.durable) (l : Leader) → IsLeader b.ballot b.next i s.durable l → LeaderKnows z.ballots i s.durable.term l → list_all (other_acked l s.number) (range_with_len (suc l.b0) (l.first - suc l.b0)) ≡ true → MergedKnown z.ballots s.durable.term l
  merged_known z l h lead all slot low high =
      let acked = all_in_range (other_acked l s.number) (l.first - suc l.b0) (suc l.b0) slot all low (omega (arith, low, high)) in
      let who = some_of_any (λ j. has_acked l j slot) (λ j. j ≢ s.number) (other_servers s.number) acked (others_apart s.number) in
      let below_next : slot < l.next = omega (arith, high, h.has_first, h.has_next, (sound.quorums s.durable.term h.merge h.is).begins) in
      let e = sound.complete s.durable.term h.merge slot h.is (omega (arith, h.has_base, low)) (omega (arith, h.has_next, below_next)) in
      record {
        op = e.0.op;
        chosen = ack_chooses z.ballots z.sound i who.0 slot s.durable.term e.0 (z.extends.proposals slot s.durable.term e.0 e.1) (λ same. who.2 (sym same ∙ sym is_server.number)) (lead.own slot low below_next)
            (lead.acks who.0 slot who.1 (omega (arith, low)));
      }

  counted_merged : (z : Later b i s.durable) (l : Leader) (from slot upto_there : ℕ) → MergedKnown b s.durable.term l → MergedKnown z.ballots s.durable.term (counted l from slot upto_there)
  unfolding counted
  counted_merged z l from slot upto_there m p low high = known_there i b z.ballots z.extends p s.durable.term (m p low high)

  -- what another server acknowledges is marked
  counted_marks : (l : Leader) → IsLeader b.ballot b.next i s.durable l → LeaderKnows b i s.durable.term l → (from slot upto_there : ℕ) → AckMarks i s.durable.base s.committed l → AckMarks i s.durable.base (commit_own s l slot).committed (counted l from slot upto_there)
  unfolding counted commit_own
  counted_marks l h lead from slot upto_there marks j p apart =
      by_test (is_own l slot) (λ c. is_own l slot ≡ c → acked_in (if c then acknowledged l.acks from slot else l.acks) j p ≡ true → s.durable.base < p → Sets.contains (if c && holds s.durable slot s.durable.term then Sets.insert s.committed slot else s.committed) p ≡ true)
      (λ _ own has low. elim (acknowledged_cases l.acks from slot j p has) [
        | inl here ↦
            let o = own_slot l slot own in
            let y = own_entry l h lead slot (subst (λ q. s.durable.base < q) here.1 low) o.1 in
            let term = ((sound.made slot s.durable.term y.0 y.2).in_term) in
            let held : holds s.durable slot s.durable.term ≡ true = ap (holds s.durable slot) (sym term) ∙ holds_from s.durable slot y.0 y.1 in
            ap (λ c. Sets.contains (if c then Sets.insert s.committed slot else s.committed) p) held ∙ contains-insert s.committed slot p ∙ or_left _ _ (same_number p slot ∙ eq-eqb p slot here.1)
        | inr before ↦ delivery_more (holds s.durable slot s.durable.term) slot p (marks j p apart before low)
      ])
      (λ _ not_own has low. marks j p apart has low) refl

  counted_all : (l : Leader) (from slot upto_there : ℕ) → AllAcked i l → AllAcked i (counted l from slot upto_there)
  unfolding counted
  counted_all l from slot upto_there all p low high =
      let a = all p low high in
      (a.0, a.1, by_test (is_own l slot) (λ c. acked_in (if c then acknowledged l.acks from slot else l.acks) a.0 p ≡ true) (λ _. acknowledged_more l.acks from slot a.0 p a.2) (λ _. a.2))

  -- the host is told of a new entry that two servers accepted
  told_acked : (z : Later b i s.durable) (l : Leader) → IsLeader b.ballot b.next i s.durable l → LeaderKnows b i s.durable.term l → (from slot k : ℕ) → from ≢ i → (0 < slot → AckIs b from slot s.durable.term) → (if is_own l slot && nat_le l.first slot && not (other_acked l s.number slot) then Some slot else None) ≡ Some k → IsAcked z.ballots s.durable.term k
  told_acked z l h lead from slot k apart a is =
      let c = cond_some _ slot k is in
      let p = and_parts _ _ (and_parts _ _ c.0).0 in
      let o = own_slot l slot p.0 in
      let e = sound.complete s.durable.term h.merge slot h.is (omega (arith, h.has_base, o.0)) (omega (arith, h.has_next, o.1)) in
      let made = sound.made slot s.durable.term e.0 e.1 in
      let same_m : made.merge ≡ h.merge = same_Some made.merge h.merge (sym made.is ∙ h.is) in
      let new : first_of h.merge ≤ slot = omega (arith, h.has_first, leb-true l.first slot p.1) in
      let chosen : IsChosenBy b slot e.0.term e.0.op = subst (λ t. IsChosenBy b slot t e.0.op) (sym made.in_term)
      (ack_chooses b sound i from slot s.durable.term e.0 e.1 (λ same. apart (sym same)) (lead.own slot o.0 o.1) (a (omega (arith, o.0)))) in
      let one : IsPicked b slot s.durable.term e.0 = subst (λ t. IsPicked b slot t e.0) made.in_term
      (new_is_chosen b sound slot e.0 (ap (b.proposal slot) made.in_term ∙ e.1) chosen (le_trans (le_of_eq (made.has_first ∙ ap first_of same_m)) new)) in
      subst (IsAcked z.ballots s.durable.term) c.1
      (acked_there i b z.ballots z.extends s.durable.term slot (record { entry = e.0; merge = h.merge; chosen = one; leads = h.is; is_new = new }))

  merged_acked : (l : Leader) → list_all (other_acked l s.number) (range_with_len (suc l.b0) (l.first - suc l.b0)) ≡ true → AllAcked i l
  merged_acked l all slot low high =
      let acked = all_in_range (other_acked l s.number) (l.first - suc l.b0) (suc l.b0) slot all low (omega (arith, low, high)) in
      let who = some_of_any (λ j. has_acked l j slot) (λ j. j ≢ s.number) (other_servers s.number) acked (others_apart s.number) in
      (who.0, λ same. who.2 (same ∙ sym is_server.number), who.1)

  pub on_ack_row : (from term slot upto_there : ℕ) (role : Role) → from ≢ i → (0 < slot → AckIs b from slot term) → s.role ≡ role → Row b i s (on_ack s from term slot upto_there role)
  unfolding on_ack commit_own
  on_ack_row from term slot upto_there Follower apart a is = nothing_row
  on_ack_row from term slot upto_there (Candidate own) apart a is = nothing_row
  on_ack_row from term slot upto_there (Serving l) apart a is =
      either b i s (term == s.durable.term) _ _
      (λ same.
      let h = leader_is l is in
      let leads = serving_knows l is in
      let ack_is : 0 < slot → AckIs b from slot s.durable.term = λ above. subst (AckIs b from slot) (eqb-true term s.durable.term same) (a above) in
      still_acked _ refl refl (counted_is l from slot upto_there h) (λ z.
      let k = knows_later z in (
        record {
          committed = marked_knows z l leads.0 from slot apart ack_is;
          applied = k.applied;
          saved = k.saved;
          in_hand = k.in_hand;
          role = (counted_knows z l leads.0 from slot upto_there ack_is, counted_merged z l from slot upto_there leads.1);
          marks = (counted_marks l h leads.0 from slot upto_there (serving_marks l is).0, counted_all l from slot upto_there (serving_marks l is).1);
        },
        commit_sent z l h leads.0 from slot apart ack_is,
      ))
      (λ z k told. told_acked z l h leads.0 from slot k apart ack_is told))
      (λ _. nothing_row)
  on_ack_row from term slot upto_there (Merging l) apart a is =
      either b i s (term == s.durable.term) _ _
      (λ same.
      let h = merging_is l is in
      let lead = merging_knows l is in
      let ack_is : 0 < slot → AckIs b from slot s.durable.term = λ above. subst (AckIs b from slot) (eqb-true term s.durable.term same) (a above) in
      let heard = counted l from slot upto_there in
      still _ refl refl refl (serving_role b.vote b.ballot b.next i s.durable _ heard (counted_is l from slot upto_there h)) (λ z.
      let k = knows_later z in
      let lead_now = counted_knows z l lead from slot upto_there ack_is in (
        record {
          committed = marked_knows z l lead from slot apart ack_is;
          applied = k.applied;
          saved = k.saved;
          in_hand = k.in_hand;
          role = serving_known_by z.ballots i s.durable.term _ heard lead_now (merged_known z heard (counted_is l from slot upto_there h) lead_now);
          marks = serving_marks_by i s.durable.base (commit_own s l slot).committed _ heard (counted_marks l h lead from slot upto_there (merging_marks l is)) (merged_acked heard);
        },
        commit_sent z l h lead from slot apart ack_is,
      )))
      (λ _. nothing_row)

  -- ProbeOk
  pub on_probe_ok_row : (from term number upto_there : ℕ) (role : Role) → s.role ≡ role → Row b i s (on_probe_ok s from term number upto_there role)
  unfolding on_probe_ok
  on_probe_ok_row from term number upto_there Follower is = nothing_row
  on_probe_ok_row from term number upto_there (Candidate own) is = nothing_row
  on_probe_ok_row from term number upto_there (Merging l) is = nothing_row
  on_probe_ok_row from term number upto_there (Serving l) is =
      either b i s (term == s.durable.term) _ _
      (λ _. let h = leader_is l is in
      still _ refl refl refl (record { merge = h.merge; is = h.is; leads = h.leads; has_first = h.has_first; has_next = h.has_next; has_base = h.has_base; base_low = h.base_low }) (λ z.
      let k = knows_later z in
      let leads = serving_knows l is in
      let lead = leader_there i b z.ballots z.extends i s.durable.term l leads.0 in (
        record {
          committed = k.committed;
          applied = k.applied;
          saved = k.saved;
          in_hand = k.in_hand;
          role = (record { own = lead.own; acks = lead.acks }, λ p low high. known_there i b z.ballots z.extends p s.durable.term (leads.1 p low high));
          marks = serving_marks l is;
        },
        tt,
      )))
      (λ _. nothing_row)

  -- Resend
  resent_entry_sent : (z : Later b i s.durable) (l : Leader) → IsLeader b.ballot b.next i s.durable l → LeaderKnows b i s.durable.term l → (to slot : ℕ) (o : Option Entry) → s.durable.base < slot → slot < l.next → FinMap.get s.durable.log slot ≡ o → to ≢ i → Every (PacketIs z.ballots) (resent_entry s l to o slot)
  resent_entry_sent z l h lead to slot None low high is apart = tt
  resent_entry_sent z l h lead to slot (Some e) low high is apart =
      by_test (has_acked l to slot) (λ c. has_acked l to slot ≡ c → Every (PacketIs z.ballots) (if not c then to_one s to (Accept e) ∷ [] else (if nat_lt (knows l to) slot then to_one s to (Commit slot) ∷ [] else [])))
      (λ _ acked. by_test (nat_lt (knows l to) slot) (λ c. Every (PacketIs z.ballots) (if c then to_one s to (Commit slot) ∷ [] else []))
      (λ _. reply z.ballots s to (Commit slot) refl apart (commit_there i b z.ballots z.extends s.number slot s.durable.term
      (own_chosen l h lead to slot apart (omega (arith, h.has_base, h.base_low, low)) high (lead.acks to slot acked (omega (arith, low)))))) (λ _. tt))
      (λ _ _. reply z.ballots s to (Accept e) refl apart (z.extends.proposals e.slot e.term e (holds_proposal slot e is)))
      refl

  resent_sent : (z : Later b i s.durable) (l : Leader) → IsLeader b.ballot b.next i s.durable l → LeaderKnows b i s.durable.term l → (to : ℕ) → to ≢ i → Every (PacketIs z.ballots) (resent s l to)
  unfolding resent
  resent_sent z l h lead to apart =
      every_append (PacketIs z.ballots) _ _
      (every_append (PacketIs z.ballots) _ _
      (by_test (nat_lt (knows l to) s.durable.base) (λ c. Every (PacketIs z.ballots) (if c then to_one s to (Image s.durable.base s.applied s.sectors) ∷ [] else [])) (λ _. reply z.ballots s to (Image s.durable.base s.applied s.sectors) refl apart (knows_later z).applied) (λ _. tt))
      (every_flat_map_from (λ slot. (s.durable.base < slot) × (slot < l.next)) (PacketIs z.ballots) (λ slot. resent_entry s l to (FinMap.get s.durable.log slot) slot) (range_with_len (suc s.durable.base) (l.next - suc s.durable.base))
      (λ slot within_it. resent_entry_sent z l h lead to slot _ within_it.0 within_it.1 refl apart)
      (every_range (λ slot. (s.durable.base < slot) × (slot < l.next)) (l.next - suc s.durable.base) (suc s.durable.base) (λ k low high. (low, omega (arith, low, high))))))
      (every_map (PacketIs z.ballots) (λ r. to_one s to (Probe r.number)) _
      (every_of_all (λ r. PacketIs z.ballots (to_one s to (Probe r.number))) _ (λ r. sent_to z.ballots s i to (Probe r.number) is_server.number below apart tt)))

  all_resent : (z : Later b i s.durable) (l : Leader) → IsLeader b.ballot b.next i s.durable l → LeaderKnows b i s.durable.term l → Every (PacketIs z.ballots) (flat_map (resent s l) (other_servers s.number))
  all_resent z l h lead = every_flat_map_from (λ j. j ≢ s.number) (PacketIs z.ballots) (resent s l) (other_servers s.number) (λ j apart. resent_sent z l h lead j (λ same. apart (same ∙ sym is_server.number))) (others_apart s.number)

  pub on_resend_row : (role : Role) → s.role ≡ role → Row b i s (on_resend s role)
  unfolding on_resend
  on_resend_row Follower is = sends_row _ (λ z. sent_to_others z.ballots s i (Ack s.durable.base (upto s)) is_server.number below (λ _ _. inr (λ p p_above p_low. known_to z.ballots z.extends p p_above (le_trans p_low (base_below_upto s)))))
  on_resend_row (Candidate own) is = sends_row _ (λ z. sent_to_others z.ballots s i (RequestVote s.durable.base) is_server.number below (λ _. tt))
  on_resend_row (Merging l) is = sends_row _ (λ z. all_resent z l (merging_is l is) (merging_knows l is))
  on_resend_row (Serving l) is = sends_row _ (λ z. all_resent z l (leader_is l is) (serving_knows l is).0)

  -- every message
  pub on_message_row : (setup : Setup) (from term : ℕ) (body : Body) → from < 3 → from ≢ i → BodyIs b from i term body → Row b i s (on_message setup s from term body)
  unfolding on_message
  on_message_row setup from term (RequestVote base) from_below apart is = on_request_vote_row from term base apart
  on_message_row setup from term (Vote vote) from_below apart is = on_vote_row from term vote s.role from_below apart is refl
  on_message_row setup from term (Accept e) from_below apart is = on_accept_row setup from e apart is
  on_message_row setup from term (Ack slot upto_there) from_below apart is = on_ack_row from term slot upto_there s.role apart is refl
  on_message_row setup from term Nack from_below apart is = on_nack_row term
  on_message_row setup from term (Commit slot) from_below apart is = on_commit_row from term slot (record { op = is.entry.op; chosen = is.chosen })
  on_message_row setup from term (Probe number) from_below apart is = on_probe_row from term number apart
  on_message_row setup from term (ProbeOk number upto_there) from_below apart is = on_probe_ok_row from term number upto_there s.role refl
  on_message_row setup from term (Image base applied sectors) from_below apart is = on_image_row from term base applied sectors apart is

  -- a claim
  claimed_job : (slot : ℕ) (e : Entry) → FinMap.get s.durable.log slot ≡ Some e → Sets.contains s.committed slot ≡ true → has_applied s slot ≡ false → is_free (has_applied s) e ≡ true → JobIs b s.durable.term (has_applied s) slot e.op
  unfolding is_free
  claimed_job slot e held is isnt free =
      let c = has_known.committed slot is in
      let same : c.entry ≡ e = same_Some c.entry e (sym c.held ∙ held) in
      let chosen : IsChosenBy b slot e.term e.op = subst (λ x. IsChosenBy b slot x.term x.op) same c.chosen in
      let p = (sound.disks i).proposes slot e (ap (λ d. FinMap.get d.log slot) is_server.disk ∙ held) in
      let made = sound.made slot e.term e p.1 in
      record {
        is_above = omega (arith, made.is_above);
        chosen = chosen_later b slot e.term s.durable.term e.op (within slot e held) chosen;
        unapplied = isnt;
        passed = λ q above low not_yet.
            let lets = passes_of (has_applied s) e q not_yet (all_in_range (λ k. has_applied s k || passes e.look k (range_of e.op)) (e.slot - 1) 1 q free above (omega (arith, made.in_slot, low))) in
            let named = some_of_any (λ n. n.slot == q && not (overlaps n.range (range_of e.op))) (IsListed b.proposal slot e.term e) e.look lets (served.listed slot e.term e p.1) in
            record { entry = e; term = e.term; chosen = new_is_chosen b sound slot e p.1 chosen named.2.is_new; lets = lets };
      }

  pub claimed_is : (slot : ℕ) (o : Option Entry) → FinMap.get s.durable.log slot ≡ o → is_claimable s o slot ≡ true → ServerIs b i (claimed s slot)
  unfolding claimed op_at
  claimed_is slot None held is = absurd (false≢true is)
  claimed_is slot (Some e) held is =
      let p = and_parts _ _ is in
      let q = and_parts _ _ p.0 in
      let r = and_parts _ _ q.0 in
      record {
        number = is_server.number;
        disk = is_server.disk;
        role = is_server.role;
        knows = record {
          committed = has_known.committed;
          applied = has_known.applied;
          saved = has_known.saved;
          role = has_known.role;
          marks = has_known.marks;
          in_hand = λ k op got. elim (insert_cases s.in_hand slot (op_of (FinMap.get s.durable.log slot)) k op got) [
            | inl here ↦
                subst (λ n. JobIs b s.durable.term (has_applied s) n op) (sym here.0)
                (subst (JobIs b s.durable.term (has_applied s) slot) (ap op_of (sym held) ∙ here.1) (claimed_job slot e held r.0 (not-true _ r.1) p.1))
            | inr there ↦ has_known.in_hand k op there.1
          ];
        };
      }
