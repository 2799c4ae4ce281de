-- How a turn ends.
use Rattle.std.proofs.Common.{◌≡◌, ◌⊎◌, ℕ, suc, ◌<◌, true, false, inl, inr, List, length, Option, Some, None, Result, Ok, Err, is_none, ◌&&◌, slice_get, slice_set, arith, refl, sym, ap, subst, ◌∙◌}
use Rattle.std.proofs.lemmas.Bool.{false≢true}
use Rattle.std.proofs.lemmas.Option.{slice_get_within}
use Rattle.pf_base.specs.declared.errors.NoMemory.{NoMemory}
use Rattle.pf_protocol.specs.declared.answers.Answer.{Answer}
use Rattle.pf_protocol.specs.declared.answers.Answer.TheVariants.{Done, Slot, Term, Read, Base, Job, Refused}
use Rattle.pf_protocol.specs.declared.answers.Refusal.{Refusal}
use Rattle.pf_protocol.specs.declared.answers.Refusal.TheVariants.{Down, Halted}
use Rattle.pf_protocol.specs.Servers.{Setup, Server as ServerIs, Condition, Running as RunningIs, Stopped as StoppedIs, Unformatted as UnformattedIs}
use Rattle.pf_protocol.specs.Outcomes.{Outcome}
use Rattle.pf_protocol.specs.Rows.{settled}
use Rattle.pf_protocol.specs.Groups.{Group, Ending, Whole, CutOff, Untouched, acted, at_server, cut_off, step_ended, ending, ending_of, reads_after, server_step_of}
use Rattle.pf_protocol.specs.Answers.{ServerTurn, answer_at, answer_by, can_halt, has_stored}
use Rattle.pf_server_store.specs.Stores.{StoreModel}
use Rattle.pf_server_memory.specs.Outgoing.{Outgoing, sent_by}
use Rattle.pf_server.specs.declared.server.Server.{Server}
use Rattle.pf_server.specs.Conditions.{Meets}
use Rattle.pf_server.specs.Turns.{Comes, WasCarriedOut, WasCutOff, WasRefused}
use Rattle.pf_group_network.specs.declared.network.Network.{Network}
use Rattle.pf_group_network.specs.Going.{HasFault}
use Rattle.pf_group_network.specs.Showing.{AreMembers, IsMember, Shows}
use Rattle.pf_group_network.specs.Turned.{HasEnded, HasStepped, HasTurned, LeavesAll, Took, is_refused, outbox_of}
use Rattle.pf_group_network.proofs.Lists.{set_length, set_there}
use Rattle.pf_group_network.proofs.Members.{member_at, member_set, member_stays}

never_whole : (r : Refusal) → ending_of r ≡ Whole → ⊥
never_whole Halted is = cc
never_whole Down is = cc
never_whole _ is = cc

-- what is whole is no refusal
pub whole_stands : (answer : Answer) → ending answer ≡ Whole → is_refused answer ≡ false
whole_stands Done is = refl
whole_stands (Slot slot) is = refl
whole_stands (Term term) is = refl
whole_stands (Read number) is = refl
whole_stands (Base base) is = refl
whole_stands (Job job) is = refl
whole_stands (Refused refusal) is = absurd (never_whole refusal is)

refused_is : (answer : Answer) (refusal : Refusal) → answer ≡ Refused refusal → is_refused answer ≡ true
refused_is answer refusal is = ap is_refused is

pub same_ok : (answer b : Answer) → ◌≡◌ {A = Result Answer NoMemory} (Ok answer) (Ok b) → answer ≡ b
same_ok answer b is = cc

pub no_ok : {X : Type 0} → (e : NoMemory) (answer : Answer) → ◌≡◌ {A = Result Answer NoMemory} (Err e) (Ok answer) → X
no_ok e answer is = cc

-- without memory the group is as it was
module _ {S : Type 0} (model : StoreModel S) (setup : Setup) (g : Group) (i : ℕ) (turn : ServerTurn) (network : Network S) (out : Outgoing) (e : NoMemory) (t : HasTurned model setup g i turn network out (Err e)) where
  as_before : (s : ServerIs) (o : Option Refusal) → Comes model t.me.seat t.me.store t.next.store t.next.state s (outbox_of network) out o (turn.rule s) (Err e) → Meets model t.me.seat t.next.store t.next.state (RunningIs s)
  as_before s None is = is.kept.meets
  as_before s (Some refusal) is = is.kept.meets

  as_it_was : (c : Condition) → Took model turn t.me t.next (outbox_of network) out (Err e) c → Meets model t.me.seat t.next.store t.next.state c
  as_it_was (RunningIs s) took = as_before s (turn.refusal s) took
  as_it_was (StoppedIs life before after) took = no_ok e (Refused Down) took.1
  as_it_was UnformattedIs took = no_ok e (Refused Down) took.1

  pub ends_without : Shows model setup network g
  ends_without =
      let m = member_at model setup t.before g.servers t.members i t.me t.c t.here t.there in
      let member : IsMember model setup i t.next t.c = record {
        seat = t.seat ∙ m.seat;
        meets = subst (λ seat. Meets model seat t.next.store t.next.state t.c) (sym t.seat) (as_it_was t.c t.took);
      } in
      record {
        three = ap length t.now ∙ set_length t.before i t.next ∙ t.three;
        members = subst (λ xs. AreMembers model setup xs g.servers) (sym t.now) (member_stays model setup t.before g.servers t.members i t.next t.c t.there member);
        traffic = t.traffic;
        reads = t.reads;
      }

module _ {S : Type 0} (model : StoreModel S) (setup : Setup) (g : Group) (i : ℕ) (turn : ServerTurn) (network : Network S) (out : Outgoing) (answer : Answer) (t : HasTurned model setup g i turn network out (Ok answer)) where
  -- the four ways
  record Carried (s : ServerIs) : Type 0 where
    free : turn.refusal s ≡ None
    step : WasCarriedOut model t.me.seat t.me.store t.next.store t.next.state s (outbox_of network) out (turn.rule s) answer

  record Cut (s : ServerIs) : Type 0 where
    free : turn.refusal s ≡ None
    step : WasCutOff model t.me.seat t.me.store t.next.store t.next.state s (turn.rule s) answer

  record Denied (s : ServerIs) : Type 0 where
    refusal : Refusal
    judged : turn.refusal s ≡ Some refusal
    step : WasRefused model t.me.seat t.next.store t.next.state s refusal answer

  record Absent : Type 0 where
    answered : answer ≡ Refused Down
    same : t.next ≡ t.me
    right : answer_at (Some t.c) turn ≡ Refused Down
    idle : (how : Ending) → server_step_of how g i (Some t.c) turn.rule ≡ g

  abbrev Ways : Type 0
  Ways = ((s : ServerIs) × (t.c ≡ RunningIs s) × (Carried s ⊎ (Cut s ⊎ Denied s))) ⊎ Absent

  by_judged : (s : ServerIs) (o : Option Refusal) → turn.refusal s ≡ o → Comes model t.me.seat t.me.store t.next.store t.next.state s (outbox_of network) out o (turn.rule s) (Ok answer) → Carried s ⊎ (Cut s ⊎ Denied s)
  by_judged s None free took = elim took [ inl whole ↦ inl (record { free = free; step = whole }) | inr cut ↦ inr (inl (record { free = free; step = cut })) ]
  by_judged s (Some refusal) judged took = inr (inr (record { refusal = refusal; judged = judged; step = took.0 }))

  by_condition : (c : Condition) → t.c ≡ c → Took model turn t.me t.next (outbox_of network) out (Ok answer) c → Ways
  by_condition (RunningIs s) is took = inl (s, is, by_judged s (turn.refusal s) refl took)
  by_condition (StoppedIs life before after) is took = inr (record { answered = same_ok answer (Refused Down) took.1; same = took.0; right = ap (λ c. answer_at (Some c) turn) is; idle = λ how. ap (λ c. server_step_of how g i (Some c) turn.rule) is })
  by_condition UnformattedIs is took = inr (record { answered = same_ok answer (Refused Down) took.1; same = took.0; right = ap (λ c. answer_at (Some c) turn) is; idle = λ how. ap (λ c. server_step_of how g i (Some c) turn.rule) is })

  ways : Ways
  ways = by_condition t.c refl t.took

  was_member : IsMember model setup i t.me t.c
  was_member = member_at model setup t.before g.servers t.members i t.me t.c t.here t.there

  runs : (s : ServerIs) → t.c ≡ RunningIs s → slice_get g.servers i ≡ Some (RunningIs s)
  runs s is = t.there ∙ ap Some is

  its_seat : t.next.seat ≡ t.me.seat
  its_seat = t.seat

  -- the server is a member in the condition that it came to
  is_member : (c : Condition) → Meets model t.me.seat t.next.store t.next.state c → IsMember model setup i t.next c
  is_member c meets = record {
    seat = t.seat ∙ was_member.seat;
    meets = subst (λ seat. Meets model seat t.next.store t.next.state c) (sym t.seat) meets;
  }

  is_low : i < 3
  is_low = omega (arith, slice_get_within t.before i t.me t.here, t.three)

  stepped_by : (s : ServerIs) → t.c ≡ RunningIs s → Carried s → HasStepped model setup g i (turn.rule s) network out
  unfolding sent_by
  stepped_by s is way =
      let m = is_member (RunningIs (settled (turn.rule s).server)) way.step.settles.meets in
      let knows = t.knows s is in
      record {
        before = t.before;
        me = t.next;
        now = t.now;
        three = t.three;
        low = is_low;
        members = t.members;
        seat = m.seat;
        meets = m.meets;
        answers = way.step.settles.answers;
        sized = way.step.settles.sized;
        traffic = t.traffic;
        reads = t.reads ∙ ap (reads_after g.reads) way.step.settles.answered;
        below = knows.below way.free;
        fits = knows.fits way.free;
        canonical = knows.canonical way.free;
        sent = ap (λ (x : Outgoing). x.packets) way.step.sent;
        acks = ap (λ (x : Outgoing). x.acked) way.step.sent;
      }

  -- where it was not refused, it was carried out
  carried : is_refused answer ≡ false → (s : ServerIs) × (t.c ≡ RunningIs s) × Carried s
  carried stands = elim ways [
    | inl ran ↦ elim ran.2 [
      | inl way ↦ (ran.0, ran.1, way)
      | inr rest ↦ elim rest [ inl cut ↦ absurd (refuses (Halted) cut.step.answered) | inr denied ↦ absurd (refuses denied.refusal denied.step.answered) ]
    ]
    | inr absent ↦ absurd (refuses Down absent.answered)
  ]
    where
      refuses : (refusal : Refusal) → answer ≡ Refused refusal → ⊥
      refuses refusal is = false≢true (sym stands ∙ refused_is answer refusal is)

  pub stepped : is_refused answer ≡ false → (o : Outcome) × HasStepped model setup g i o network out
  stepped stands = let x = carried stands in (turn.rule x.0, stepped_by x.0 x.1 x.2)

  answered_free : (s : ServerIs) → t.c ≡ RunningIs s → turn.refusal s ≡ None → answer_at (slice_get g.servers i) turn ≡ (turn.rule s).answer
  answered_free s is free = ap (λ c. answer_at c turn) (runs s is) ∙ ap (λ o. answer_by o (turn.rule s).answer) free

  comes_to : (s : ServerIs) → t.c ≡ RunningIs s → (how : Ending) → ending answer ≡ how → at_server (ending answer) g i turn.rule ≡ step_ended how g i s (turn.rule s)
  comes_to s is how same = ap (λ h. at_server h g i turn.rule) same ∙ ap (λ c. server_step_of how g i c turn.rule) (runs s is)

  -- what was carried out and kept
  pub ends_whole : (stands : is_refused answer ≡ false) (next : Network S) → ((o : Outcome) → HasStepped model setup g i o network out → Shows model setup next (acted g i o)) → HasEnded model setup g i turn next answer
  ends_whole stands next shows =
      let x = carried stands in
      let s = x.0 in
      let whole : ending answer ≡ Whole = ap ending x.2.step.settles.answered ∙ (t.knows s x.1).whole x.2.free in
      record {
        answered = inl (x.2.step.settles.answered ∙ sym (answered_free s x.1 x.2.free));
        shows = subst (Shows model setup next) (sym (comes_to s x.1 Whole whole)) (shows (turn.rule s) (stepped_by s x.1 x.2));
      }

  shows_with : (servers : List Condition) → AreMembers model setup network.servers.items servers → reads_after g.reads answer ≡ g.reads → Shows model setup network (record g { servers = servers })
  shows_with servers members same = record {
    three = ap length t.now ∙ set_length t.before i t.next ∙ t.three;
    members = members;
    traffic = record { packets = t.traffic.packets; places = t.traffic.places; room = t.traffic.room; acked = t.traffic.acked; elections = t.traffic.elections; readings = t.traffic.readings };
    reads = t.reads ∙ same;
  }

  now_members : (servers : List Condition) → AreMembers model setup (slice_set t.before i t.next) servers → AreMembers model setup network.servers.items servers
  now_members servers are = subst (λ xs. AreMembers model setup xs servers) (sym t.now) are

  ends_cut : (s : ServerIs) → t.c ≡ RunningIs s → Cut s → HasEnded model setup g i turn network answer
  unfolding cut_off
  ends_cut s is way =
      let o = turn.rule s in
      let c = StoppedIs (suc s.life) s.durable o.server.durable in
      let members = member_set model setup t.before g.servers t.members i t.next c (slice_get_within g.servers i t.c t.there) (is_member c way.step.meets) in
      record {
        answered = inr (ap (λ x. can_halt x turn) (runs s is) ∙ ap (λ r. is_none r && has_stored s.durable o.server.durable) way.free ∙ way.step.stores, way.step.answered);
        shows = subst (Shows model setup network) (sym (comes_to s is CutOff (ap ending way.step.answered)))
            (shows_with (slice_set g.servers i c) (now_members (slice_set g.servers i c) members) (ap (reads_after g.reads) way.step.answered));
      }

  stays : (meets : Meets model t.me.seat t.next.store t.next.state t.c) → reads_after g.reads answer ≡ g.reads → Shows model setup network g
  stays meets same = shows_with g.servers (now_members g.servers (member_stays model setup t.before g.servers t.members i t.next t.c t.there (is_member t.c meets))) same

  ends_denied : (s : ServerIs) → t.c ≡ RunningIs s → Denied s → HasEnded model setup g i turn network answer
  ends_denied s is way =
      let quiet : ending_of way.refusal ≡ Untouched = subst LeavesAll way.judged (t.knows s is).leaves in
      record {
        answered = inl (way.step.answered ∙ sym (ap (λ c. answer_at c turn) (runs s is) ∙ ap (λ o. answer_by o (turn.rule s).answer) way.judged));
        shows = subst (Shows model setup network) (sym (comes_to s is Untouched (ap ending way.step.answered ∙ quiet)))
            (stays (subst (Meets model t.me.seat t.next.store t.next.state) (sym is) way.step.kept.meets) (ap (reads_after g.reads) way.step.answered));
      }

  ends_absent : Absent → HasEnded model setup g i turn network answer
  ends_absent way = record {
    answered = inl (way.answered ∙ sym (ap (λ c. answer_at c turn) t.there ∙ way.right));
    shows = subst (Shows model setup network) (sym (ap (λ c. server_step_of (ending answer) g i c turn.rule) t.there ∙ way.idle (ending answer)))
        (stays (subst (λ (x : Server S). Meets model t.me.seat x.store x.state t.c) (sym way.same) was_member.meets) (ap (reads_after g.reads) way.answered));
  }

  -- what was refused, cut off, or asked of a server that does not run
  pub ends_refused : is_refused answer ≡ true → HasEnded model setup g i turn network answer
  ends_refused refused = elim ways [
    | inl ran ↦ elim ran.2 [
      | inl way ↦ absurd (false≢true (sym (whole_stands answer (ap ending way.step.settles.answered ∙ (t.knows ran.0 ran.1).whole way.free)) ∙ refused))
      | inr rest ↦ elim rest [ inl cut ↦ ends_cut ran.0 ran.1 cut | inr denied ↦ ends_denied ran.0 ran.1 denied ]
    ]
    | inr absent ↦ ends_absent absent
  ]

  -- where it was cut off, a disk failed
  pub rises : answer ≡ Refused Halted → model.rose t.me.store t.next.store
  rises halted = elim ways [
    | inl ran ↦ elim ran.2 [
      | inl way ↦ absurd (not_cut (ap ending way.step.settles.answered ∙ (t.knows ran.0 ran.1).whole way.free))
      | inr rest ↦ elim rest [ inl cut ↦ cut.step.cause | inr denied ↦ absurd (not_quiet (ap ending denied.step.answered ∙ subst LeavesAll denied.judged (t.knows ran.0 ran.1).leaves)) ]
    ]
    | inr absent ↦ absurd (not_down (sym absent.answered ∙ halted))
  ]
    where
      not_cut : ending answer ≡ Whole → ⊥
      not_cut is = let e : Whole ≡ CutOff = sym is ∙ ap ending halted in cc

      not_quiet : ending answer ≡ Untouched → ⊥
      not_quiet is = let e : Untouched ≡ CutOff = sym is ∙ ap ending halted in cc

      not_down : Refused Down ≡ Refused Halted → ⊥
      not_down is = cc

  pub has_fault : (old next : Network S) → t.before ≡ old.servers.items → next.servers.items ≡ network.servers.items → answer ≡ Refused Halted → HasFault model.rose i old next
  has_fault old next first same halted = record {
    before = t.me;
    after = t.next;
    was = ap (λ xs. slice_get xs i) (sym first) ∙ t.here;
    is = ap (λ xs. slice_get xs i) same ∙ ap (λ xs. slice_get xs i) t.now ∙ set_there t.before i t.next (slice_get_within t.before i t.me t.here);
    risen = rises halted;
  }
