-- Writes of different ports: one that began after another was acknowledged is chosen after it.
use Rattle.std.proofs.Common.{◌≡◌, ℕ, ◌<◌, ◌≤◌, ◌≢◌, ◌⊎◌, inl, inr, true, false, List, [], ◌∷◌, ◌++◌, Some, slice_get, arith, refl, sym, ap, subst, ◌∙◌, lt_of_le_of_lt}
use Rattle.std.specs.FinMap
use Rattle.std.proofs.lemmas.Bool.{cases_lt, cases_eq, or_cases, false_from_ne_true, or_left, le-leb}
use Rattle.std.proofs.lemmas.Option.{same_Some}
use Rattle.std.proofs.lemmas.List.{append_assoc}
use Rattle.pf_entry.proofs.Lists.{every_get}
use Rattle.pf_entry.specs.declared.ops.Op.{Op}
use Rattle.pf_entry.specs.declared.entries.Entry.{Entry}
use Rattle.pf_entry.specs.declared.entries.VoteLog.{VoteLog}
use Rattle.pf_entry.specs.Entries.{EntryIsNew}
use Rattle.pf_entry.specs.Voids.{IsVoid}
use Rattle.pf_entry.specs.Merging.{is_passed_over}
use Rattle.pf_entry.proofs.MergedEntries.{was_taken, takes_from, IsVoid_from_test}
use Rattle.pf_protocol.specs.declared.events.Event.{Event}
use Rattle.pf_protocol.specs.declared.events.Event.TheVariants.{Deliver}
use Rattle.pf_protocol.specs.declared.events.Happening.{Happening}
use Rattle.pf_protocol.specs.Servers.{Setup, Leader, Candidate, Serving, Server, Running}
use Rattle.pf_protocol.specs.Outcomes.{Outcome}
use Rattle.pf_protocol.specs.Rows.{on_packet, settled}
use Rattle.pf_protocol.specs.Saving.{restarted, claimed}
use Rattle.pf_protocol.specs.Groups.{Acked, Group, ending, happens, opening, first_leader}
use Rattle.pf_protocol.specs.Histories.{History, IsPrefix, replay, RunsAs, HasAccepted, IsProposal, IsChosen, IsTakenFrom, HasOrigin, Itself, Through}
use Rattle.pf_protocol.specs.Kept.{Now}
use Rattle.pf_protocol.specs.Ports.{Submission, submitting, FollowsRule, IsOrderedBetween}
use Rattle.pf_protocol.proofs.Ballots.{Cast, first_of, IsStart, Faithful, HasQuorum, IsPicked}
use Rattle.pf_protocol.proofs.Law.{share, kept_at}
use Rattle.pf_protocol.proofs.ChosenKnown.{IsAcked}
use Rattle.pf_protocol.proofs.Follows.{IsCandidate, IsLeader, RoleIs}
use Rattle.pf_protocol.proofs.Moments.{run_longer, prefix_of, begins_with, whole_prefix, by_events, opened, comparable}
use Rattle.pf_protocol.proofs.EntryMakers.{Stems, IsKeyed, VoteFrom, backs_all, submit_stems, fetch_stems, elect_stems, resend_stems, checkpoint_stems, finish_stems, give_back_stems, message_stems, accepted_longer}
use Rattle.pf_protocol.proofs.Histories.{told, Stands, held_at_end, chosen_at_end}
use Rattle.pf_protocol.proofs.Facts.{servers_covered, committed_stand, held_is_within}
use Rattle.pf_protocol.proofs.VoteContents.{votes_are_true}
use Rattle.pf_protocol.proofs.Origins.{accepted_after, taken_is_proposal}
use Rattle.pf_protocol.proofs.NamedSlots.{nothing_old}
use Rattle.pf_protocol.proofs.EventChanges.{IsRule, BySubmit, ByFetch, ByPacket, ByElect, ByResend, ByFinish, ByGiveBack, ByCheckpoint, Came, Stays, Stepped, Begins, Claims, goes}
use Rattle.pf_protocol.proofs.Snapshots.{chosen_after}
use Rattle.pf_protocol.proofs.ReadLives.{told_on, runs_there, disk_term_low, term_low, Says, Granted, AckedBy, traced}
use Rattle.pf_protocol.proofs.Fresh.{marks}
use Rattle.pf_protocol.proofs.Ports.{NewChosen, acked_chosen, new_slot, chosen_below_first, merged_fields, not_from}

-- what a candidate's own vote shows was accepted by it
abbrev AllHeld : Setup → History → Type 0
AllHeld setup history = (i : ℕ) (s : Server) (own : VoteLog) (slot : ℕ) (e : Entry) → RunsAs (replay setup history) i s → s.role ≡ Candidate own → FinMap.get own.log slot ≡ Some e → HasAccepted setup history i e

abbrev Anything : Entry → Type 0
Anything e = Unit {0}

rule_stems : (setup : Setup) (g : Group) (i : ℕ) (s : Server) (event : Event) (o : Outcome) → IsKeyed s.durable.log → IsRule setup g i s event o → Stems s Anything o
unfolding on_packet
rule_stems setup g i s _ _ keyed (BySubmit op) = submit_stems s keyed Anything setup op s.role (λ l is. tt)
rule_stems setup g i s _ _ keyed (ByFetch range) = fetch_stems s keyed Anything range g.reads s.role
rule_stems setup g i s _ _ keyed (ByPacket k p at to) = message_stems s keyed Anything setup p.packet.from p.packet.term p.packet.body (record { by_accept = λ e is. tt; by_vote = λ own vote is role term low slot above below. tt })
rule_stems setup g i s _ _ keyed ByElect = elect_stems s keyed Anything
rule_stems setup g i s _ _ keyed ByResend = resend_stems s keyed Anything s.role
rule_stems setup g i s _ _ keyed (ByFinish life slot) = finish_stems s keyed Anything life slot
rule_stems setup g i s _ _ keyed (ByGiveBack life slot) = give_back_stems s keyed Anything life slot
rule_stems setup g i s _ _ keyed ByCheckpoint = checkpoint_stems s keyed Anything

module _ (setup : Setup) (history : History) (h : Happening) (all : AllHeld setup history) where
  keyed_at : (i : ℕ) (s : Server) → RunsAs (replay setup history) i s → IsKeyed s.durable.log
  keyed_at i s runs = ((backs_all setup history).servers i (Running s) runs).0.keyed

  held_here : (i : ℕ) (s : Server) (slot : ℕ) (e : Entry) → RunsAs (replay setup history) i s → FinMap.get s.durable.log slot ≡ Some e → HasAccepted setup (history ++ h ∷ []) i e
  held_here i s slot e runs at = record { earlier = history; is_earlier = record { rest = h ∷ []; whole = refl }; holds = record { server = s; runs = runs; held = ap (FinMap.get s.durable.log) (keyed_at i s runs slot e at) ∙ at } }

  came_held : (i : ℕ) (z : Server) (own : VoteLog) (slot : ℕ) (e : Entry) → Came setup (replay setup history) h.event (happens setup (replay setup history) h.event (ending h.answer)) i z → z.role ≡ Candidate own → FinMap.get own.log slot ≡ Some e → HasAccepted setup (history ++ h ∷ []) i e
  unfolding settled restarted claimed
  came_held i _ own slot e (Stays s runs) role at = accepted_longer setup history h i e (all i s own slot e runs role at)
  came_held i _ own slot e (Stepped s o step) role at =
      elim (subst (VoteFrom s.role s.durable.log) role (rule_stems setup (replay setup history) i s h.event o (keyed_at i s step.runs) step.rule).role) [
        | inl was ↦ accepted_longer setup history h i e (all i s own slot e step.runs was at)
        | inr log ↦ held_here i s slot e step.runs (ap (λ m. FinMap.get m slot) (sym log) ∙ at)
      ]
  came_held i _ own slot e (Begins life d) role at = absurd (grind (arith, role))
  came_held i _ own slot e (Claims s k runs) role at = accepted_longer setup history h i e (all i s own slot e runs role at)

  next_held : AllHeld setup (history ++ h ∷ [])
  next_held i z own slot e runs role at =
      came_held i z own slot e ((goes setup (replay setup history) h.event (ending h.answer)).servers i z (ap (λ g. slice_get g.servers i) (sym (run_longer setup (opening setup) history h)) ∙ runs)) role at

none_held : (setup : Setup) → AllHeld setup []
unfolding first_leader restarted
none_held setup i s own slot e runs role at = absurd (opened setup (λ x. x.role ≡ Candidate own → ⊥) (λ is. grind (arith, is)) (λ k is. grind (arith, is)) i s runs role)

own_held : (setup : Setup) (history : History) → AllHeld setup history
own_held setup = by_events (AllHeld setup) (none_held setup) (next_held setup)

-- a later merge takes nothing of a term below one in which an op was chosen in that slot
module _ (setup : Setup) (history : History) (d from : Entry) (k : IsTakenFrom setup history d from) where
  stood : Stands (replay setup k.earlier) (told setup history).ballots
  stood = (told setup history).stood k.earlier (record { event = Deliver k.k; answer = k.answer } ∷ k.is_earlier.rest) (sym (append_assoc k.earlier (record { event = Deliver k.k; answer = k.answer } ∷ []) k.is_earlier.rest) ∙ k.is_earlier.whole)

  pub own_faithful : (k.leader < 3) × Faithful ((told setup history).ballots.accepted k.leader) (told setup history).ballots.proposal (told setup history).ballots.ballot k.own k.server.durable.term
  own_faithful = let v = stood.own k.leader k.server k.own k.runs k.merge.stands in (v.0, (told setup history).sound.votes k.leader k.server.durable.term _ v.2)

  pub other_faithful : (k.sent.packet.from < 3) × (k.sent.packet.from ≢ k.leader) × Faithful ((told setup history).ballots.accepted k.sent.packet.from) (told setup history).ballots.proposal (told setup history).ballots.ballot k.other k.server.durable.term
  other_faithful =
      let v = stood.sent k.k k.sent k.other k.merge.was_sent k.merge.is_vote in
      (v.0, (λ same. v.1 (same ∙ sym k.merge.to_it)), (told setup history).sound.votes k.sent.packet.from k.server.durable.term _ (ap ((told setup history).ballots.vote k.sent.packet.from) (sym k.merge.in_term) ∙ v.2))

  -- what was taken is of a lower term
  pub from_lower : from.term < k.server.durable.term
  from_lower = elim (was_taken k.server.durable.base k.own k.other d.slot from k.is_taken).stood [
    | inl own ↦ (own_faithful.1.proposes d.slot from own).0
    | inr other ↦ (other_faithful.2.proposes d.slot from other).0
  ]

  own_low : k.own.base ≤ k.server.durable.base
  own_low =
      let x = ((told setup k.earlier).follows.servers k.leader (Running k.server) k.runs).1 in
      let c : IsCandidate (told setup k.earlier).ballots.vote (told setup k.earlier).ballots.ballot k.leader k.server.durable k.own = subst (RoleIs (told setup k.earlier).ballots.vote (told setup k.earlier).ballots.ballot (told setup k.earlier).ballots.next k.leader k.server.durable) k.merge.stands x.role in
      c.own_base

  module _ (v : ℕ) (op : Op) (c : IsChosen setup history d.slot v op) (later : v < k.server.durable.term) where
    picked : IsPicked (told setup history).ballots d.slot v c.entry
    picked = chosen_at_end setup history d.slot v op c

    -- no start of the two votes makes an entry of the slot void that is not older
    no_start : (u f : ℕ) → v < u → IsStart (told setup history).ballots.ballot u f → f ≤ d.slot → ⊥
    no_start u f after s reaches = omega (arith, kept_at (told setup history).ballots (told setup history).sound d.slot v c.entry picked u s.merge after s.is, s.first_slot, reaches)

    void_own : (w : ℕ) → v ≤ w → IsVoid k.own.starts d.slot w → ⊥
    void_own w le x = no_start x.0 x.1.0 (lt_of_le_of_lt le x.1.2) (own_faithful.1.true_starts x.0 x.1.0 x.1.1).1 x.1.3

    void_other : (w : ℕ) → v ≤ w → IsVoid k.other.starts d.slot w → ⊥
    void_other w le x = no_start x.0 x.1.0 (lt_of_le_of_lt le x.1.2) (other_faithful.2.true_starts x.0 x.1.0 x.1.1).1 x.1.3

    not_void : (w : ℕ) → v ≤ w → is_passed_over k.own k.other d.slot w ≡ false
    not_void w le = false_from_ne_true (is_passed_over k.own k.other d.slot w) (λ void. elim (or_cases _ _ void) [
      | inl own ↦ void_own w le (IsVoid_from_test k.own.starts d.slot w own)
      | inr other ↦ void_other w le (IsVoid_from_test k.other.starts d.slot w other)
    ])

    taken_by : (w : Entry) → (FinMap.get k.own.log d.slot ≡ Some w) ⊎ (FinMap.get k.other.log d.slot ≡ Some w) → v ≤ w.term → v ≤ from.term
    taken_by w at le =
        let t = takes_from k.server.durable.base k.own k.other d.slot w (was_taken k.server.durable.base k.own k.other d.slot from k.is_taken).is_above at (not_void w.term le) in
        omega (arith, le, t.no_lower, ap (λ e. e.term) (same_Some t.entry from (sym t.is_taken ∙ k.is_taken)))

    above_base : k.server.durable.base < d.slot
    above_base = (was_taken k.server.durable.base k.own k.other d.slot from k.is_taken).is_above

    by_own : (told setup history).ballots.accepted k.leader d.slot v ≡ true → v ≤ from.term
    by_own did = let has = own_faithful.1.keeps d.slot v did later (lt_of_le_of_lt own_low above_base) in taken_by has.entry (inl has.held) has.no_lower

    by_other : (told setup history).ballots.accepted k.sent.packet.from d.slot v ≡ true → v ≤ from.term
    by_other did = let has = other_faithful.2.keeps d.slot v did later (lt_of_le_of_lt k.merge.low above_base) in taken_by has.entry (inr has.held) has.no_lower

    pub nothing_lower : v ≤ from.term
    nothing_lower =
        let z = told setup history in
        let one = z.sound.accepted_proposed picked.one d.slot v picked.one_accepted in
        let two = z.sound.accepted_proposed picked.two d.slot v picked.two_accepted in
        elim (share picked.one picked.two k.leader k.sent.packet.from picked.apart (λ same. other_faithful.1 (sym same)) one.0 two.0 own_faithful.0 other_faithful.0) [
          | inl first ↦ elim first [ inl is ↦ by_own (ap (λ j. z.ballots.accepted j d.slot v) (sym is) ∙ picked.one_accepted) | inr is ↦ by_other (ap (λ j. z.ballots.accepted j d.slot v) (sym is) ∙ picked.one_accepted) ]
          | inr second ↦ elim second [ inl is ↦ by_own (ap (λ j. z.ballots.accepted j d.slot v) (sym is) ∙ picked.two_accepted) | inr is ↦ by_other (ap (λ j. z.ballots.accepted j d.slot v) (sym is) ∙ picked.two_accepted) ]
        ]

third : (a b c j : ℕ) → a ≢ b → c ≢ a → c ≢ b → a < 3 → b < 3 → c < 3 → j < 3 → ((j ≡ a) ⊎ (j ≡ b)) ⊎ (j ≡ c)
third a b c j = grind arith

-- an entry that a leader makes while a higher term has acknowledged something is never chosen, nor is what is taken from it
module _ (setup : Setup) (history now : History) (p : IsPrefix now history) (n : ℕ) (x : Acked) (at : slice_get (replay setup now).acked n ≡ Some x) (i : ℕ) (z : Server) (l : Leader) (runs : RunsAs (replay setup now) i z) (serves : z.role ≡ Serving l) (lower : z.durable.term < x.term) (e : Entry) (in_slot : e.slot ≡ l.next) (in_term : e.term ≡ z.durable.term) where
  h : IsAcked (told setup now).ballots x.term x.slot
  h = every_get (λ a. IsAcked (told setup now).ballots a.term a.slot) (replay setup now).acked n x (told setup now).follows.acked at

  q : HasQuorum (told setup now).ballots.vote (told setup now).ballots.next x.term h.merge
  q = (told setup now).sound.quorums x.term h.merge h.leads

  me : ((told setup now).ballots.disk i ≡ z.durable) × (i < 3)
  me = let s = (told setup now).follows.servers i (Running z) runs in (s.1.disk, s.0)

  unproposed : (y : Entry) → (told setup now).ballots.proposal e.slot e.term ≡ Some y → ⊥
  unproposed y is =
      let t = told setup now in
      let lead : IsLeader t.ballots.ballot t.ballots.next i z.durable l = subst (RoleIs t.ballots.vote t.ballots.ballot t.ballots.next i z.durable) serves (t.follows.servers i (Running z) runs).1.role in
      omega (arith, (t.sound.made e.slot e.term y is).is_below, in_slot, lead.has_next, ap t.ballots.next in_term)

  abbrev Pair : ℕ → Type 0
  Pair j = (j ≡ h.merge.leader) ⊎ (j ≡ h.merge.other)

  pair_term : (j : ℕ) → Pair j → x.term ≤ ((told setup now).ballots.disk j).term
  pair_term j which =
      let t = told setup now in
      elim which [
        | inl is ↦ omega (arith, t.sound.vote_terms h.merge.leader x.term _ q.own_vote, ap (λ k. (t.ballots.disk k).term) is)
        | inr is ↦ omega (arith, t.sound.vote_terms h.merge.other x.term _ q.other_vote, ap (λ k. (t.ballots.disk k).term) is)
      ]

  not_pair : Pair i → ⊥
  not_pair which = omega (arith, pair_term i which, ap (λ d. d.term) me.0, lower)

  who : (j : ℕ) → j < 3 → Pair j ⊎ (j ≡ i)
  who j below = third h.merge.leader h.merge.other i j q.apart (λ is. not_pair (inl is)) (λ is. not_pair (inr is)) q.leader_below q.other_below me.1 below

  accepted_before : (j : ℕ) → HasAccepted setup now j e → ⊥
  accepted_before j a = unproposed e (held_at_end setup now j e a).proposed

  -- a server of the higher term's two has a lower term only before now
  sooner_term : (y : History) → IsPrefix y history → (j : ℕ) (w : Server) → Pair j → RunsAs (replay setup y) j w → w.durable.term < x.term → IsPrefix y now
  sooner_term y first j w pair there low =
      elim (comparable y first.rest now p.rest (first.whole ∙ sym p.whole)) [
        | inl before ↦ before
        | inr after ↦ absurd (omega (arith, disk_term_low setup now y after j w there, pair_term j pair, low))
      ]

  pair_silent : (j : ℕ) → Pair j → HasAccepted setup history j e → ⊥
  pair_silent j pair a =
      elim (comparable a.earlier a.is_earlier.rest now p.rest (a.is_earlier.whole ∙ sym p.whole)) [
        | inl before ↦ accepted_before j (record { earlier = a.earlier; is_earlier = before; holds = a.holds })
        | inr after ↦ later_accept after
      ]
    where
      later_accept : IsPrefix now a.earlier → ⊥
      later_accept after =
          let t = told_on setup now a.earlier after in
          let s = (t.follows.servers j (Running a.holds.server) (runs_there setup now a.earlier after j a.holds.server a.holds.runs)).1 in
          elim (t.persists.fresh j e.slot e.term (t.sound.held_accepted j e.slot e (ap (λ d. FinMap.get d.log e.slot) s.disk ∙ a.holds.held))) [
            | inl old ↦ let y = (told setup now).sound.accepted_proposed j e.slot e.term old in unproposed y.2.0 y.2.1
            | inr high ↦ omega (arith, high, pair_term j pair, in_term, lower)
          ]

  not_chosen : (slot t : ℕ) (op : Op) (c : IsChosen setup history slot t op) → c.entry ≡ e → ⊥
  not_chosen slot t op c same =
      let one = held_at_end setup history c.one c.entry c.one_accepted in
      let two = held_at_end setup history c.two c.entry c.two_accepted in
      let b = told setup history in
      elim (share c.one c.two h.merge.leader h.merge.other c.apart q.apart (b.sound.accepted_proposed c.one c.entry.slot c.entry.term one.accepted).0 (b.sound.accepted_proposed c.two c.entry.slot c.entry.term two.accepted).0 q.leader_below q.other_below) [
        | inl first ↦ pair_silent c.one first (subst (HasAccepted setup history c.one) same c.one_accepted)
        | inr second ↦ pair_silent c.two second (subst (HasAccepted setup history c.two) same c.two_accepted)
      ]

  -- a slot below the first new one of the higher term was chosen by now
  record Known : Type 0 where
    op : Op
    term : ℕ
    low : term ≤ x.term
    chosen : IsChosen setup now e.slot term op

  y : AckedBy setup now x
  y = every_get (AckedBy setup now) (replay setup now).acked n x (traced setup now).acked at

  first_there : (y.leader.first ≡ first_of h.merge)
  first_there =
      let by = ((told setup now).stood y.earlier y.is_earlier.rest y.is_earlier.whole).leads y.i y.server y.leader y.runs (inr y.serves) in
      by.first ∙ ap first_of (same_Some by.merge h.merge (sym by.is ∙ ap (told setup now).ballots.ballot y.in_term ∙ h.leads))

  lead_there : IsLeader (told setup y.earlier).ballots.ballot (told setup y.earlier).ballots.next y.i y.server.durable y.leader
  lead_there = subst (RoleIs (told setup y.earlier).ballots.vote (told setup y.earlier).ballots.ballot (told setup y.earlier).ballots.next y.i y.server.durable) y.serves ((told setup y.earlier).follows.servers y.i (Running y.server) y.runs).1.role

  known : 0 < e.slot → e.slot < first_of h.merge → Known
  known positive below =
      elim (cases_lt y.server.durable.base e.slot) [
        | inl above ↦
            let m = marks setup y.earlier y.earlier (whole_prefix y.earlier) y.i y.server y.leader y.runs y.serves in
            let heard = m.1 e.slot (omega (arith, lead_there.has_base, lead_there.base_low, above)) (omega (arith, first_there, below)) in
            let mark = committed_stand setup y.earlier y.i y.server e.slot y.runs (m.0 heard.0 e.slot heard.1 heard.2 above) in
            let within = held_is_within setup y.earlier y.i y.server.durable e.slot mark.entry (Now y.server y.runs) mark.held in
            record { op = mark.entry.op; term = mark.chosen.0; low = omega (arith, mark.chosen.1, within.1, y.in_term); chosen = chosen_after setup y.earlier now y.is_earlier e.slot mark.chosen.0 mark.entry.op mark.chosen.2 }
        | inr under ↦
            let c = (servers_covered setup y.earlier y.i y.server y.runs).chosen e.slot positive (or_left _ _ (le-leb e.slot y.server.durable.base under)) in
            record { op = c.0; term = c.1.0; low = omega (arith, c.1.1, y.in_term); chosen = chosen_after setup y.earlier now y.is_earlier e.slot c.1.0 c.0 c.1.2 }
      ]

  new : NewChosen setup now x.slot x.term
  new = acked_chosen setup now n x at

  first_is : new.chosen.entry.first ≡ first_of h.merge
  first_is =
      let t = told setup now in
      let made = t.sound.made x.slot x.term new.chosen.entry (chosen_at_end setup now x.slot x.term new.op new.chosen).is in
      made.has_first ∙ ap first_of (same_Some made.merge h.merge (sym made.is ∙ h.leads))

  no_older : (d : Entry) (k : IsTakenFrom setup history d e) → x.term < d.term → new.chosen.entry.first ≤ d.slot → ⊥
  unfolding chosen_after
  no_older d k after reaches = omega (arith, nothing_old setup history x.slot x.term new.op (chosen_after setup now history p x.slot x.term new.op new.chosen) new.is_new d e k after reaches, in_term, lower)

  -- a merge of a still higher term
  higher_merge : (d : Entry) → IsProposal setup history e → EntryIsNew e → (k : IsTakenFrom setup history d e) → e.slot ≡ d.slot → d.term ≡ k.server.durable.term → x.term < d.term → ⊥
  higher_merge d proposal is_new k same d_term after =
      elim (cases_lt d.slot new.chosen.entry.first) [
        | inl below ↦ by_known (known (omega (arith, (was_taken k.server.durable.base k.own k.other d.slot e k.is_taken).is_above, same)) (omega (arith, first_is, same, below)))
        | inr reaches ↦ no_older d k after reaches
      ]
    where
      by_known : Known → ⊥
      by_known c =
          let there = chosen_after setup now history p e.slot c.term c.op c.chosen in
          elim (cases_lt c.term e.term) [
            | inl older ↦ omega (arith, chosen_below_first setup history e.slot c.term c.op there e proposal older, is_new)
            | inr not_older ↦ elim (cases_eq c.term e.term) [
              | inl equal ↦ unproposed c.chosen.entry (ap ((told setup now).ballots.proposal e.slot) (sym equal) ∙ (chosen_at_end setup now e.slot c.term c.op c.chosen).is)
              | inr apart ↦ omega (arith, nothing_lower setup history d e k c.term c.op (subst (λ slot. IsChosen setup history slot c.term c.op) same there) (omega (arith, c.low, after, d_term)), not_older, apart)
            ]
          ]

  -- where the entry's leader stands for a term that is not higher
  own_stand : (d : Entry) (k : IsTakenFrom setup history d e) → k.leader ≡ i → k.server.durable.term ≤ x.term → ⊥
  own_stand d k leader_is low =
      let first = begins_with k.earlier history (record { event = Deliver k.k; answer = k.answer }) k.is_earlier in
      let said : Granted setup k.earlier k.sent.packet.from k.sent.packet.to k.sent.packet.term =
      subst (Says setup k.earlier k.sent.packet.from k.sent.packet.to k.sent.packet.term) k.merge.is_vote (every_get (λ s. Says setup k.earlier s.packet.from s.packet.to s.packet.term s.packet.body) (replay setup k.earlier).packets k.k k.sent (traced setup k.earlier).says k.merge.was_sent) in
      let voter : Pair k.sent.packet.from = elim (who k.sent.packet.from (other_faithful setup history d e k).0) [
        | inl pair ↦ pair
        | inr same ↦ absurd ((other_faithful setup history d e k).1 (same ∙ sym leader_is))
      ] in
      let before = sooner_term said.earlier (prefix_of said.earlier k.earlier history said.is_earlier first) k.sent.packet.from said.server voter said.runs (omega (arith, said.lower, k.merge.in_term, low)) in
      let rose = term_low setup said.rose.earlier now (prefix_of said.rose.earlier said.earlier now said.rose.is_earlier before) i said.rose.server z (ap (slice_get (replay setup said.rose.earlier).servers) (sym (k.merge.to_it ∙ leader_is)) ∙ said.rose.runs) runs in
      omega (arith, rose, said.rose.high, k.merge.in_term, from_lower setup history d e k, in_term)

  -- where it votes for another in such a term
  other_stands : (d : Entry) (k : IsTakenFrom setup history d e) → Pair k.leader → IsPrefix now k.earlier → k.server.durable.term ≤ x.term → ⊥
  other_stands d k pair after low =
      let t = told_on setup now k.earlier after in
      let s = (t.follows.servers k.leader (Running k.server) (runs_there setup now k.earlier after k.leader k.server k.runs)).1 in
      let c : IsCandidate t.ballots.vote t.ballots.ballot k.leader k.server.durable k.own = subst (RoleIs t.ballots.vote t.ballots.ballot t.ballots.next k.leader k.server.durable) k.merge.stands s.role in
      let same : x.term ≡ k.server.durable.term = omega (arith, low, disk_term_low setup now k.earlier after k.leader k.server k.runs, pair_term k.leader pair) in
      elim pair [
        | inl lead ↦ c.not_yet h.merge (ap t.ballots.ballot (sym same) ∙ t.persists.ballots x.term h.merge h.leads) (sym lead)
        | inr vote ↦ q.apart (two_votes h.merge.leader k.leader h.merge.theirs k.own (sym (ap (λ j. t.ballots.vote j x.term) vote ∙ t.persists.votes h.merge.other x.term _ q.other_vote) ∙ ap (t.ballots.vote k.leader) same ∙ c.own_vote) ∙ vote)
      ]
    where
      cast_of : ℕ → VoteLog → Cast
      cast_of a v = record { to = a; log = v }

      two_votes : (a b : ℕ) (v w : VoteLog) → Some (cast_of a v) ≡ Some (cast_of b w) → a ≡ b
      two_votes a b v w is = ap (λ cast. cast.to) (same_Some (cast_of a v) (cast_of b w) is)

  lower_merge : (d : Entry) (k : IsTakenFrom setup history d e) → e.slot ≡ d.slot → k.server.durable.term ≤ x.term → ⊥
  lower_merge d k same low =
      elim (was_taken k.server.durable.base k.own k.other d.slot e k.is_taken).stood [
        | inl own ↦
            let a = own_held setup k.earlier k.leader k.server k.own d.slot e k.runs k.merge.stands own in
            elim (who k.leader (own_faithful setup history d e k).0) [
              | inl pair ↦ pair_silent k.leader pair (accepted_after setup k.earlier history first k.leader e a)
              | inr is ↦ own_stand d k is low
            ]
        | inr other ↦
            let w = votes_are_true setup k.earlier k.k k.sent k.other k.merge.was_sent k.merge.is_vote in
            let held : HasAccepted setup k.earlier k.sent.packet.from e = record { earlier = w.earlier; is_earlier = begins_with w.earlier k.earlier w.voting w.is_part; holds = record { server = w.server; runs = w.runs; held = ap (FinMap.get w.server.durable.log) same ∙ ap (λ v. FinMap.get v.log d.slot) (sym w.holds) ∙ other } } in
            elim (who k.sent.packet.from (other_faithful setup history d e k).0) [
              | inl pair ↦ pair_silent k.sent.packet.from pair (accepted_after setup k.earlier history first k.sent.packet.from e held)
              | inr is ↦ elim (comparable k.earlier _ now p.rest (first.whole ∙ sym p.whole)) [
                | inl before ↦ accepted_before k.sent.packet.from (accepted_after setup k.earlier now before k.sent.packet.from e held)
                | inr after ↦ elim (who k.leader (own_faithful setup history d e k).0) [
                  | inl pair ↦ other_stands d k pair after low
                  | inr mine ↦ (other_faithful setup history d e k).1 (is ∙ sym mine)
                ]
              ]
            ]
      ]
    where
      first : IsPrefix k.earlier history
      first = begins_with k.earlier history (record { event = Deliver k.k; answer = k.answer }) k.is_earlier

  never_taken : (d : Entry) → IsProposal setup history e → EntryIsNew e → IsTakenFrom setup history d e → ⊥
  never_taken d proposal is_new k =
      let same : e.slot ≡ d.slot = (taken_is_proposal setup k.earlier k.leader k.k k.server k.sent k.own k.other d.slot e k.runs k.merge k.is_taken).0 in
      let d_term : d.term ≡ k.server.durable.term = ap (λ y. y.term) k.is_merged ∙ (merged_fields k.server.durable.term k.server.durable.base k.own k.other d.slot).1 in
      elim (cases_lt x.term k.server.durable.term) [
        | inl after ↦ higher_merge d proposal is_new k same d_term (omega (arith, after, d_term))
        | inr low ↦ lower_merge d k same low
      ]

  through_never : (d from origin : Entry) → IsTakenFrom setup history d from → HasOrigin setup history from origin → origin ≡ e → ⊥
  through_never d _ _ k (Itself from proposal is_new) same =
      never_taken d (subst (IsProposal setup history) same proposal) (subst EntryIsNew same is_new) (subst (IsTakenFrom setup history d) same k)
  through_never d _ _ k (Through from next origin proposal k2 rest) same = through_never from next origin k2 rest same

  no_origin : (d origin : Entry) → HasOrigin setup history d origin → origin ≡ e → (slot t : ℕ) (op : Op) (c : IsChosen setup history slot t op) → c.entry ≡ d → ⊥
  no_origin _ _ (Itself d proposal is_new) same slot t op c is = not_chosen slot t op c (is ∙ same)
  no_origin _ _ (Through d from origin proposal k rest) same slot t op c is = through_never d from origin k rest same

-- every port and every submission of another, and no slot is of both
pub ordered_between : (setup : Setup) (history : History) (port : List Submission) → FollowsRule setup history port → IsOrderedBetween setup history port
ordered_between setup history port rule j a b first second at_j happened ended fa fb =
    elim (cases_lt first second) [
      | inl below ↦ below
      | inr not_below ↦ elim (cases_lt fb.copy.target.server.durable.term ended.answered.acked.term) [
        | inl lower ↦
            let y = fb.copy.target in
            let fields = new_slot setup.names y.server y.leader b.op in
            absurd (no_origin setup history b.before (begins_with b.before history (submitting b) happened) ended.answered.k ended.answered.acked ended.answered.at b.server y.server y.leader y.runs y.serves lower fb.origin
            (ap (λ x. x.slot) fb.copy.is ∙ fields.0) (ap (λ x. x.term) fb.copy.is ∙ fields.1) fb.chosen.entry fb.origin fb.comes refl second fb.term fb.op fb.chosen refl)
        | inr not_lower ↦ absurd (not_from setup history port rule j a b at_j happened ended second first fb fa (omega (arith, not_lower, ended.answered.in_term)) not_below)
      ]
    ]
