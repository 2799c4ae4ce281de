-- In a legal history what is chosen in a slot that is acknowledged comes from the submission that was given this slot.
use Rattle.std.proofs.Common.{◌≡◌, ℕ, ◌+◌, ◌⊎◌, inl, inr, Bool, true, false, if◌then◌else◌, List, [], ◌∷◌, ◌++◌, Option, Some, None, nat_lt, slice_get, arith, refl, sym, ap, subst, ◌∙◌}
use Rattle.std.specs.FinMap
use Rattle.std.proofs.lemmas.Option.{same_Some}
use Rattle.std.proofs.lemmas.Bool.{false≢true, and_parts, ltb-true}
use Rattle.std.proofs.lemmas.List.{append_assoc}
use Rattle.pf_entry.specs.Records.{stored, put_entry}
use Rattle.pf_entry.proofs.Lists.{every_get, set_there}
use Rattle.pf_entry.proofs.Maps.{get_inserted}
use Rattle.pf_entry.specs.declared.ops.Op.{Op}
use Rattle.pf_entry.specs.declared.entries.Entry.{Entry}
use Rattle.pf_protocol.specs.declared.answers.Answer.{Answer}
use Rattle.pf_protocol.specs.declared.answers.Answer.TheVariants.{Slot as SlotIs, Refused}
use Rattle.pf_protocol.specs.declared.answers.Refusal.{Refusal}
use Rattle.pf_protocol.specs.declared.answers.Refusal.TheVariants.{WindowFull, NotLeader, Down, Halted}
use Rattle.pf_protocol.specs.declared.events.Event.TheVariants.{Submit}
use Rattle.pf_protocol.specs.declared.events.Happening.{Happening}
use Rattle.pf_protocol.specs.Safety.{is_leading}
use Rattle.pf_protocol.specs.Servers.{Setup, Leader, Role, Follower, Candidate, Merging, Serving, Server, Condition, Running, Stopped, Unformatted}
use Rattle.pf_protocol.specs.Outcomes.{Outcome}
use Rattle.pf_protocol.specs.Leading.{new_entry, submitted, on_submit}
use Rattle.pf_protocol.specs.Rows.{settled}
use Rattle.pf_protocol.specs.Groups.{Group, Ending, Whole, CutOff, Missed, Untouched, TookPlace, ending_of, ending, acted, server_step_of, happens, opening}
use Rattle.pf_protocol.specs.Histories.{History, IsPrefix, run, replay, RunsAs, HasAccepted, Itself}
use Rattle.pf_protocol.specs.Answers.{answer_at, answer_by, submit_turn, submit_refusal, answer_to, IsAnswer, Claimed, IsLegalFrom, IsLegal, claims_after}
use Rattle.pf_protocol.specs.Ports.{Submission, submitting, SubmissionIsAnswered, ComesFrom}
use Rattle.pf_protocol.proofs.ChosenKnown.{LeaderKnows, RoleKnows}
use Rattle.pf_protocol.proofs.Follows.{IsLeader, RoleIs}
use Rattle.pf_protocol.proofs.Moments.{run_longer, begins_with, whole_prefix, comparable, legal_at}
use Rattle.pf_protocol.proofs.Histories.{told, held_at_end, accepted_in_history, one_entry, one_leader}
use Rattle.pf_protocol.proofs.Origins.{accepted_after}
use Rattle.pf_protocol.proofs.ReadLives.{AckedBy, traced}
use Rattle.pf_protocol.proofs.Fresh.{before_or_after}
use Rattle.pf_protocol.proofs.Ports.{acked_chosen, new_slot, never_again}

-- the server serves, its next slot lies in its window, and it gives this slot
pub record Takes (setup : Setup) (g : Group) (i : ℕ) (answer : Answer) : Type 0 where
  pub server : Server
  pub leader : Leader
  pub runs : RunsAs g i server
  pub serves : server.role ≡ Serving leader
  pub gives : answer ≡ SlotIs leader.next
  pub room : nat_lt (server.durable.base + setup.window) leader.next ≡ false

not_whole : (refusal : Refusal) → ending_of refusal ≡ Whole → ⊥
not_whole Halted e = grind (arith, e)
not_whole Down e = grind (arith, e)
not_whole _ e = grind (arith, e)

-- an answer that one of two outcomes does not give
other_one : (answer : Answer) (c : Bool) (x y : Outcome) → answer ≡ (if c then x else y).answer → (answer ≡ x.answer → ⊥) → (c ≡ false) × (answer ≡ y.answer)
other_one answer true x y is differs = absurd (differs is)
other_one answer false x y is differs = (refl, is)

second : (c : Bool) (x y : Outcome) → c ≡ false → (if c then x else y).server ≡ y.server
second true x y is = absurd (false≢true (sym is))
second false x y is = refl

module _ (setup : Setup) (g : Group) (i : ℕ) (op : Op) (answer : Answer) (whole : ending answer ≡ Whole) where
  stands : (refusal : Refusal) → answer ≡ Refused refusal → ⊥
  stands refusal is = not_whole refusal (ap ending (sym is) ∙ whole)

  by_role : (s : Server) → RunsAs g i s → (role : Role) → s.role ≡ role → answer ≡ (on_submit setup s op role).answer → Takes setup g i answer
  unfolding on_submit
  by_role s runs Follower is given = absurd (stands NotLeader given)
  by_role s runs (Candidate own) is given = absurd (stands NotLeader given)
  by_role s runs (Merging l) is given = absurd (stands NotLeader given)
  by_role s runs (Serving l) is given =
      let p = other_one answer (nat_lt (s.durable.base + setup.window) l.next) _ _ given (stands WindowFull) in
      record { server = s; leader = l; runs = runs; serves = is; gives = p.1; room = p.0 }

  by_refusal : (s : Server) → RunsAs g i s → (r : Option Refusal) → answer ≡ answer_by r (on_submit setup s op s.role).answer → Takes setup g i answer
  by_refusal s runs None given = by_role s runs s.role refl given
  by_refusal s runs (Some refusal) given = absurd (stands refusal given)

  by_condition : (c : Option Condition) → slice_get g.servers i ≡ c → answer ≡ answer_at c (submit_turn setup g op) → Takes setup g i answer
  by_condition (Some (Running s)) is given = by_refusal s is (submit_refusal setup g op s) given
  by_condition (Some (Stopped life before after)) is given = absurd (stands Down given)
  by_condition (Some Unformatted) is given = absurd (stands Down given)
  by_condition None is given = absurd (stands Down given)

  takes : IsAnswer setup g (Submit i op) answer → Takes setup g i answer
  unfolding answer_to
  takes legal = elim legal [
    | inl is ↦ by_condition (slice_get g.servers i) refl is
    | inr halted ↦ absurd (stands Halted halted.1)
  ]

  submits : (s : Server) → RunsAs g i s → happens setup g (Submit i op) (ending answer) ≡ acted g i (on_submit setup s op s.role)
  unfolding happens
  submits s runs = ap (happens setup g (Submit i op)) whole ∙ ap (λ c. server_step_of Whole g i c (λ z. on_submit setup z op z.role)) runs

  runs_on : (s : Server) (o : Outcome) → RunsAs g i s → RunsAs (acted g i o) i (settled o.server)
  unfolding acted
  runs_on s o runs = set_there g.servers i (Running s) (Running (settled o.server)) runs

proposes : (setup : Setup) (op : Op) (s : Server) (l : Leader) → nat_lt (s.durable.base + setup.window) l.next ≡ false → (on_submit setup s op (Serving l)).server ≡ submitted s l (new_entry setup.names s l op)
unfolding on_submit
proposes setup op s l room = second (nat_lt (s.durable.base + setup.window) l.next) _ _ room

logs : (s : Server) (l : Leader) (e : Entry) → (settled (submitted s l e)).durable.log ≡ FinMap.insert s.durable.log e.slot e
unfolding settled submitted stored put_entry
logs s l e = refl

-- after the step the leader has the entry in its records
accepted : (setup : Setup) (before : History) (i : ℕ) (op : Op) (answer : Answer) → ending answer ≡ Whole → (t : Takes setup (replay setup before) i answer) → HasAccepted setup (before ++ record { event = Submit i op; answer = answer } ∷ []) i (new_entry setup.names t.server t.leader op)
accepted setup before i op answer whole t =
    let e = new_entry setup.names t.server t.leader op in
    let o = on_submit setup t.server op t.server.role in
    let is : (on_submit setup t.server op t.server.role).server ≡ submitted t.server t.leader (new_entry setup.names t.server t.leader op) =
    ap (λ r. (on_submit setup t.server op r).server) t.serves ∙ proposes setup op t.server t.leader t.room in
    record {
      earlier = before ++ record { event = Submit i op; answer = answer } ∷ [];
      is_earlier = whole_prefix (before ++ record { event = Submit i op; answer = answer } ∷ []);
      holds = record {
        server = settled (on_submit setup t.server op t.server.role).server;
        runs =
            ap (λ g. slice_get g.servers i) (run_longer setup (opening setup) before (record { event = Submit i op; answer = answer }) ∙ submits setup (replay setup before) i op answer whole t.server t.runs)
            ∙ runs_on setup (replay setup before) i op answer whole t.server (on_submit setup t.server op t.server.role) t.runs;
        held =
            ap (λ z. FinMap.get (settled z).durable.log (new_entry setup.names t.server t.leader op).slot) is
            ∙ ap (λ m. FinMap.get m (new_entry setup.names t.server t.leader op).slot) (logs t.server t.leader (new_entry setup.names t.server t.leader op))
            ∙ get_inserted t.server.durable.log (new_entry setup.names t.server t.leader op).slot (new_entry setup.names t.server t.leader op);
      };
    }

-- a submission that was not refused was given its leader's next slot
pub given_slot : (setup : Setup) (history : History) (a : Submission) → IsLegal setup history → IsPrefix (a.before ++ submitting a ∷ []) history → ending a.answer ≡ Whole → Takes setup (replay setup a.before) a.server a.answer
given_slot setup history a legal made whole =
    let is = sym (append_assoc a.before (submitting a ∷ []) made.rest) ∙ made.whole in
    takes setup (replay setup a.before) a.server a.op a.answer whole
    (legal_at setup (opening setup) [] a.before (submitting a) made.rest (subst (IsLegalFrom setup (opening setup) []) (sym is) legal.legal))

running_same : (s z : Server) → Some (Running s) ≡ Some (Running z) → s ≡ z
running_same s z is = let e : Running s ≡ Running z = same_Some (Running s) (Running z) is in cc

serving_same : (l m : Leader) → Serving l ≡ Serving m → l ≡ m
serving_same l m e = cc

whole_or_cut : (how : Ending) → TookPlace how → (how ≡ Whole) ⊎ (how ≡ CutOff)
whole_or_cut Whole took = inl refl
whole_or_cut CutOff took = inr refl
whole_or_cut Missed took = absurd took
whole_or_cut Untouched took = absurd took

module _ (setup : Setup) (history : History) (a : Submission) (made : IsPrefix (a.before ++ submitting a ∷ []) history) (x : SubmissionIsAnswered setup history a) where
  y : AckedBy setup history x.acked
  y = every_get (AckedBy setup history) (replay setup history).acked x.k x.acked (traced setup history).acked x.at

  same_server : y.i ≡ a.server
  same_server = one_leader setup history y.earlier a.before y.i a.server y.server x.target.server y.is_earlier (begins_with a.before history (submitting a) made) y.runs x.target.runs (ap is_leading y.serves) (ap is_leading x.target.serves) (y.in_term ∙ x.in_term)

  -- the slot was not acknowledged before it was given away
  not_before : IsPrefix y.earlier a.before → ⊥
  not_before p =
      let z = told setup y.earlier in
      let s = (z.follows.servers y.i (Running y.server) y.runs).1 in
      let knows : LeaderKnows z.ballots y.i y.server.durable.term y.leader = (subst (RoleKnows z.ballots y.i y.server.durable.term) y.serves s.knows.role).0 in
      let own = and_parts (nat_lt y.leader.b0 x.acked.slot) (nat_lt x.acked.slot y.leader.next) y.own in
      let did = knows.own x.acked.slot (ltb-true _ _ own.0) (ltb-true _ _ own.1) in
      let e = (z.sound.accepted_proposed y.i x.acked.slot y.server.durable.term did).2 in
      let first = z.sound.made x.acked.slot y.server.durable.term e.0 e.1 in
      let t = told setup a.before in
      let held = held_at_end setup a.before y.i e.0 (accepted_after setup y.earlier a.before p y.i e.0 (accepted_in_history setup y.earlier y.i x.acked.slot y.server.durable.term e.0 did e.1)) in
      let low = (t.sound.made e.0.slot e.0.term e.0 held.proposed).is_below in
      let lead : IsLeader t.ballots.ballot t.ballots.next a.server x.target.server.durable x.target.leader = subst (RoleIs t.ballots.vote t.ballots.ballot t.ballots.next a.server x.target.server.durable) x.target.serves (t.follows.servers a.server (Running x.target.server) x.target.runs).1.role in
      omega (arith, low, ap t.ballots.next (first.in_term ∙ y.in_term ∙ x.in_term), lead.has_next, first.in_slot, x.in_slot)

  -- nor after its leader was cut off
  not_cut : ending a.answer ≡ CutOff → ⊥
  not_cut cut =
      elim (comparable y.earlier y.is_earlier.rest (a.before ++ submitting a ∷ []) made.rest (y.is_earlier.whole ∙ sym made.whole)) [
        | inl before ↦ elim (before_or_after y.earlier a.before (submitting a) before) [ inl first ↦ not_before first | inr after ↦ never after ]
        | inr after ↦ never after
      ]
    where
      never : IsPrefix (a.before ++ submitting a ∷ []) y.earlier → ⊥
      never p = never_again setup a.before y.earlier a.server a.op a.answer x.target.server y.server y.leader x.target.runs cut p (ap (slice_get (replay setup y.earlier).servers) (sym same_server) ∙ y.runs) (y.in_term ∙ x.in_term) y.serves

  module _ (legal : IsLegal setup history) where
    whole_copy : ending a.answer ≡ Whole → ComesFrom setup history x.target.leader.next a
    whole_copy whole =
        let t = given_slot setup history a legal made whole in
        let same_s : x.target.server ≡ t.server = running_same x.target.server t.server (sym x.target.runs ∙ t.runs) in
        let same_l : x.target.leader ≡ t.leader = serving_same x.target.leader t.leader (sym x.target.serves ∙ ap (λ s. s.role) same_s ∙ t.serves) in
        let parts = new_slot setup.names t.server t.leader a.op in
        let n = acked_chosen setup history x.k x.acked x.at in
        let has = accepted_after setup (a.before ++ submitting a ∷ []) history made a.server (new_entry setup.names t.server t.leader a.op) (accepted setup a.before a.server a.op a.answer whole t) in
        let same : n.chosen.entry ≡ new_entry setup.names t.server t.leader a.op = one_entry setup history n.chosen.one a.server n.chosen.entry (new_entry setup.names t.server t.leader a.op) n.chosen.one_accepted has
        (n.chosen.in_slot ∙ x.in_slot ∙ ap (λ l. l.next) same_l ∙ sym parts.0)
        (n.chosen.in_term ∙ x.in_term ∙ ap (λ s. s.durable.term) same_s ∙ sym parts.1) in
        subst (λ slot. ComesFrom setup history slot a) x.in_slot (record {
          term = x.acked.term;
          op = n.op;
          chosen = n.chosen;
          origin = n.chosen.entry;
          comes = Itself n.chosen.entry n.chosen.proposed n.is_new;
          copy = record { target = record { server = t.server; leader = t.leader; runs = t.runs; serves = t.serves }; took_place = x.took_place; is = same };
        })

    acknowledged : ComesFrom setup history x.target.leader.next a
    acknowledged = elim (whole_or_cut (ending a.answer) x.took_place) [ inl whole ↦ whole_copy whole | inr cut ↦ absurd (not_cut cut) ]

pub acknowledged_copy : (setup : Setup) (history : History) (a : Submission) → IsLegal setup history → IsPrefix (a.before ++ submitting a ∷ []) history → (x : SubmissionIsAnswered setup history a) → ComesFrom setup history x.target.leader.next a
acknowledged_copy setup history a legal made x = acknowledged setup history a made x legal
