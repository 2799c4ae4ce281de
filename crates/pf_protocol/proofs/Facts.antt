-- What a group keeps, from the ballots of its history.
use Rattle.std.proofs.Common.{◌≡◌, ℕ, suc, ◌<◌, ◌≤◌, inl, inr, Bool, true, false, List, Some, ◌==◌, slice_get, arith, refl, sym, ap, subst, ◌∙◌, le_refl}
use Rattle.std.specs.FinMap
use Rattle.std.proofs.lemmas.Bool.{cond-true, eq-eqb, cases_lt}
use Rattle.std.proofs.lemmas.Option.{same_Some}
use Rattle.pf_base.specs.Span.{Span, overlaps}
use Rattle.std.proofs.lemmas.Bool.Decides.{nat_tests}
use Rattle.pf_entry.specs.Sets
use Rattle.pf_entry.specs.Maps.{Numbers}
use Rattle.pf_entry.specs.Ops.{Sector, range_of}
use Rattle.pf_entry.specs.Voids.{IsVoid}
use Rattle.pf_entry.proofs.Lists.{every_get}
use Rattle.pf_entry.specs.declared.ops.Op.{Op}
use Rattle.pf_entry.specs.declared.entries.Entry.{Entry}
use Rattle.pf_entry.specs.declared.packets.Body.{Body}
use Rattle.pf_entry.specs.declared.packets.Body.TheVariants.{Ack, Commit, Image}
use Rattle.pf_entry.specs.Entries.{EntryIsNew}
use Rattle.pf_entry.specs.Records.{Durable, vote_of}
use Rattle.pf_entry.specs.Applying.{passes, is_applied}
use Rattle.pf_protocol.proofs.Ballots.{first_of, Ballots, Faithful}
use Rattle.pf_protocol.proofs.Changes.{grown, Grows}
use Rattle.pf_protocol.proofs.Law.{IsChosenBy, kept_at, chosen_stays, proposal_agrees}
use Rattle.pf_protocol.proofs.BallotsKept.{grown_sound}
use Rattle.pf_protocol.proofs.BallotGrowth.{extends_grown}
use Rattle.pf_protocol.proofs.LookBehinds.{IsKnown, passed_apart, new_is_chosen}
use Rattle.pf_protocol.proofs.ChosenKnown.{AppliedIs, LeaderKnows, RoleKnows}
use Rattle.pf_protocol.proofs.Follows.{IsLeader, RoleIs, BodyIs, PacketIs}
use Rattle.pf_protocol.proofs.OpeningBallots.{opening_ballots}
use Rattle.pf_protocol.specs.Servers.{Setup, Leader, Server, Running, Stopped, has_applied}
use Rattle.pf_protocol.specs.Groups.{Sent, opening}
use Rattle.pf_protocol.specs.Histories.{History, IsPrefix, replay, RunsAs, HasAccepted, IsProposal, IsChosen}
use Rattle.pf_protocol.specs.Kept.{MayHold, Now, Without, With, IsKeptIn, IsChosenIn, HasChosen, Respects, LeadsAs, IsCommittedIn, IsPassed, IsCovered, IsInHand, MayAck, HasCommitted}
use Rattle.pf_protocol.proofs.LookBehinds.{IsPassed as PassedIn}
use Rattle.pf_protocol.proofs.EntryMakers.{accepted_proposed}
use Rattle.pf_protocol.proofs.Origins.{accepted_after}
use Rattle.pf_protocol.proofs.Histories.{Told, told, held_at_end, accepted_in_history, chosen_at_end, chosen_in_history, chosen_entry, known_in_history}

module _ (setup : Setup) (history : History) where
  t : Told setup (opening setup) (opening_ballots setup) history
  t = told setup history

  b : Ballots
  b = (told setup history).ballots

  -- a state of a server's disks stands for all that it accepted
  record StandsFor (i : ℕ) (d : Durable) : Type 0 where
    accepted : ℕ → ℕ → Bool
    all : (s u : ℕ) → (told setup history).ballots.accepted i s u ≡ true → accepted s u ≡ true
    faithful : Faithful accepted (told setup history).ballots.proposal (told setup history).ballots.ballot (vote_of d) (suc d.term)

  disk_stands : (i : ℕ) (d : Durable) → (told setup history).ballots.disk i ≡ d → StandsFor i d
  disk_stands i d is = record {
    accepted = (told setup history).ballots.accepted i;
    all = λ s u did. did;
    faithful = subst (λ x. Faithful ((told setup history).ballots.accepted i) (told setup history).ballots.proposal (told setup history).ballots.ballot (vote_of x) (suc x.term)) is ((told setup history).sound.disks i);
  }

  later_stands : (i : ℕ) (before d : Durable) → i < 3 → (told setup history).ballots.disk i ≡ before → Grows (told setup history).ballots.proposal (told setup history).ballots.ballot before d → StandsFor i d
  later_stands i before d below is grows =
      let z = (told setup history).ballots in
      let sound = grown_sound z (told setup history).sound i below d (subst (λ x. Grows z.proposal z.ballot x d) (sym is) grows) in
      record {
        accepted = (grown z i d).accepted i;
        all = λ s u did. (extends_grown z i d).accepted i s u did;
        faithful = subst (λ x. Faithful ((grown z i d).accepted i) z.proposal z.ballot (vote_of x) (suc x.term)) (cond-true (i == i) d (z.disk i) (eq-eqb i i refl)) (sound.disks i);
      }

  stands_for : (i : ℕ) (d : Durable) → MayHold (replay setup history) i d → StandsFor i d
  stands_for i _ (Now s at) = disk_stands i s.durable ((told setup history).follows.servers i (Running s) at).1.disk
  stands_for i _ (Without life before after at) = disk_stands i before ((told setup history).follows.servers i (Stopped life before after) at).1.disk
  stands_for i _ (With life before after at) =
      let h = (told setup history).follows.servers i (Stopped life before after) at in
      later_stands i before after h.0 h.1.disk h.1.grows

  term_low_of : (i : ℕ) (e : Entry) (d : Durable) → (told setup history).ballots.accepted i e.slot e.term ≡ true → MayHold (replay setup history) i d → e.term ≤ d.term
  term_low_of i e _ did (Now s at) = let x = (told setup history).follows.servers i (Running s) at in omega (arith, ((told setup history).sound.accepted_proposed i e.slot e.term did).1, ap (λ d. d.term) x.1.disk)
  term_low_of i e _ did (Without life before after at) = let x = (told setup history).follows.servers i (Stopped life before after) at in omega (arith, ((told setup history).sound.accepted_proposed i e.slot e.term did).1, ap (λ d. d.term) x.1.disk)
  term_low_of i e _ did (With life before after at) = let x = (told setup history).follows.servers i (Stopped life before after) at in omega (arith, ((told setup history).sound.accepted_proposed i e.slot e.term did).1, ap (λ d. d.term) x.1.disk, x.1.grows.term)

  -- what was accepted is kept
  pub accepted_is_kept : (i : ℕ) (e : Entry) (d : Durable) → HasAccepted setup history i e → MayHold (replay setup history) i d → IsKeptIn d e
  accepted_is_kept i e d a holds =
      let s = stands_for i d holds in
      let z = told setup history in
      let h = held_at_end setup history i e a in
      elim (cases_lt d.base e.slot) [
        | inl above ↦ elim (cases_lt e.term (suc d.term)) [
          | inl low ↦ let has = s.faithful.keeps e.slot e.term (s.all e.slot e.term h.accepted) low above in inr (has.entry, has.held, has.no_lower)
          | inr high ↦ absurd (omega (arith, high, term_low_of i e d h.accepted holds))
        ]
        | inr below ↦ inl below
      ]

  -- no held entry's term is above its server's
  pub held_is_within : (i : ℕ) (d : Durable) (slot : ℕ) (e : Entry) → MayHold (replay setup history) i d → FinMap.get d.log slot ≡ Some e → (e.slot ≡ slot) × (e.term ≤ d.term)
  held_is_within i d slot e holds at =
      let p = (stands_for i d holds).faithful.proposes slot e at in
      (((told setup history).sound.made slot e.term e p.1).in_slot, omega (arith, p.0))

  -- the start of every accepted entry's term is there
  pub start_is_kept : (i : ℕ) (e : Entry) (d : Durable) → HasAccepted setup history i e → MayHold (replay setup history) i d → FinMap.get d.starts e.term ≡ Some e.first
  start_is_kept i e d a holds =
      let s = stands_for i d holds in
      let z = told setup history in
      let h = held_at_end setup history i e a in
      let has = s.faithful.keeps_starts e.slot e.term (s.all e.slot e.term h.accepted) (omega (arith, term_low_of i e d h.accepted holds)) in
      let true_start = (s.faithful.true_starts e.term has.0 has.1).1 in
      let made = z.sound.made e.slot e.term e h.proposed in
      let same : true_start.merge ≡ made.merge = same_Some true_start.merge made.merge (sym true_start.is ∙ made.is) in
      let first : has.0 ≡ e.first = sym true_start.first_slot ∙ ap first_of same ∙ sym made.has_first in
      has.1 ∙ ap Some first

  -- what the ballots know to be chosen is chosen in the history
  chosen_of : (slot term : ℕ) (op : Op) → IsChosenBy (told setup history).ballots slot term op → IsChosenIn setup history slot term op
  chosen_of slot term op c = let x = known_in_history setup history slot term op c in (x.0, x.1, x.2)

  known_of : (slot term : ℕ) → IsKnown (told setup history).ballots slot term → HasChosen setup history slot term
  known_of slot term k = (k.op, chosen_of slot term k.op k.chosen)

  pub chosen_by : (slot term : ℕ) (op : Op) → IsChosen setup history slot term op → IsChosenBy (told setup history).ballots slot term op
  chosen_by slot term op c = record { entry = c.entry; by = term; chosen = chosen_at_end setup history slot term op c; not_later = le_refl _; has_op = c.has_op }

  passed_of : (a p : ℕ) → PassedIn (told setup history).ballots a p → IsPassed setup history a p
  passed_of a p x = record { term = x.term; op = x.entry.op; chosen = chosen_in_history setup history a x.term x.entry x.chosen; lets = subst (λ e. passes e.look p (range_of x.entry.op) ≡ true) (sym (chosen_entry setup history a x.term x.entry x.chosen)) x.lets }

  covered_of : (term : ℕ) (done : ℕ → Bool) (sectors : List Sector) → AppliedIs (told setup history).ballots term done sectors → IsCovered setup history term done sectors
  covered_of term done sectors x = record {
    chosen = λ slot above is. known_of slot term (x.known slot above is);
    passed = λ a p above low is isnt. passed_of a p (x.passed a p above low is isnt);
    folded = λ sector n bytes ops at bound are. x.in_order sector n bytes ops at bound (λ slot above is.
        let o = are slot above is in
        (o.0, o.1, (o.2.0, chosen_by slot o.2.0 o.0 o.2.1)));
  }

  -- marks
  pub committed_stand : (i : ℕ) (s : Server) (slot : ℕ) → RunsAs (replay setup history) i s → Sets.contains s.committed slot ≡ true → IsCommittedIn setup history s slot
  committed_stand i s slot at is =
      let z = told setup history in
      let x = (z.follows.servers i (Running s) at).1 in
      let c = x.knows.committed slot is in
      let p = (z.sound.disks i).proposes slot c.entry (ap (λ d. FinMap.get d.log slot) x.disk ∙ c.held) in
      record {
        entry = c.entry;
        held = c.held;
        chosen = chosen_of slot c.entry.term c.entry.op c.chosen;
        own_term = λ new. chosen_in_history setup history slot c.entry.term c.entry (new_is_chosen z.ballots z.sound slot c.entry p.1 c.chosen new);
      }

  -- what was applied
  pub servers_covered : (i : ℕ) (s : Server) → RunsAs (replay setup history) i s → IsCovered setup history s.durable.term (has_applied s) s.sectors
  servers_covered i s at = covered_of s.durable.term (has_applied s) s.sectors ((told setup history).follows.servers i (Running s) at).1.knows.applied

  pub disks_covered : (i : ℕ) (d : Durable) → MayHold (replay setup history) i d → IsCovered setup history d.term (is_applied d.base d.saved) d.sectors
  disks_covered i _ (Now s at) = covered_of s.durable.term (is_applied s.durable.base s.durable.saved) s.durable.sectors ((told setup history).follows.servers i (Running s) at).1.knows.saved
  disks_covered i _ (Without life before after at) = covered_of before.term (is_applied before.base before.saved) before.sectors ((told setup history).follows.servers i (Stopped life before after) at).1.before_known
  disks_covered i _ (With life before after at) = covered_of after.term (is_applied after.base after.saved) after.sectors ((told setup history).follows.servers i (Stopped life before after) at).1.after_known

  packet_is : (k : ℕ) (sent : Sent) (body : Body) → slice_get (replay setup history).packets k ≡ Some sent → sent.packet.body ≡ body → BodyIs (told setup history).ballots sent.packet.from sent.packet.to sent.packet.term body
  packet_is k sent body at is =
      subst (BodyIs (told setup history).ballots sent.packet.from sent.packet.to sent.packet.term) is
      (every_get (λ p. PacketIs (told setup history).ballots p.packet) (replay setup history).packets k sent (told setup history).follows.packets at).body

  pub images_covered : (k : ℕ) (sent : Sent) (base : ℕ) (applied : Numbers) (sectors : List Sector) → slice_get (replay setup history).packets k ≡ Some sent → sent.packet.body ≡ Image base applied sectors → IsCovered setup history sent.packet.term (is_applied base applied) sectors
  images_covered k sent base applied sectors at is = covered_of sent.packet.term (is_applied base applied) sectors (packet_is k sent (Image base applied sectors) at is)

  -- jobs
  pub jobs_are_apart : (i : ℕ) (s : Server) (slot : ℕ) (op : Op) → RunsAs (replay setup history) i s → FinMap.get s.in_hand slot ≡ Some op → IsInHand setup history s slot op
  jobs_are_apart i s slot op at job =
      let z = told setup history in
      let knows = (z.follows.servers i (Running s) at).1.knows in
      let mine = knows.in_hand slot op job in
      record {
        unapplied = mine.unapplied;
        chosen = chosen_of slot s.durable.term op mine.chosen;
        passed = λ p above low isnt. passed_of slot p (mine.passed p above low isnt);
        apart = λ other its apart has.
            let theirs = knows.in_hand other its has in
            elim (cases_lt other slot) [
              | inl below ↦ turned (range_of its) (range_of op) (passed_apart z.ballots z.sound z.served slot other s.durable.term s.durable.term op its (mine.passed other theirs.is_above below theirs.unapplied) mine.chosen theirs.chosen)
              | inr not_below ↦ passed_apart z.ballots z.sound z.served other slot s.durable.term s.durable.term its op (theirs.passed slot mine.is_above (omega (arith, not_below, apart)) mine.unapplied) theirs.chosen mine.chosen
            ];
      }
    where
      turned : (x y : Span) → overlaps x y ≡ false → overlaps y x ≡ false
      turned x y is = grind (arith, nat_tests, is)

  -- packets
  pub acks_are_true : (k : ℕ) (sent : Sent) (slot upto : ℕ) → slice_get (replay setup history).packets k ≡ Some sent → sent.packet.body ≡ Ack slot upto → 0 < slot → MayAck setup history sent.packet.from slot sent.packet.term
  acks_are_true k sent slot upto at is above =
      let z = told setup history in
      elim (packet_is k sent (Ack slot upto) at is above) [
        | inl did ↦
            let e = (z.sound.accepted_proposed sent.packet.from slot sent.packet.term did).2 in
            let made = z.sound.made slot sent.packet.term e.0 e.1 in
            inl (e.0, accepted_in_history setup history sent.packet.from slot sent.packet.term e.0 did e.1, made.in_slot, made.in_term)
        | inr knows ↦ inr (λ p p_above low. known_of p sent.packet.term (knows p p_above low))
      ]

  pub commits_are_true : (k : ℕ) (sent : Sent) (slot : ℕ) → slice_get (replay setup history).packets k ≡ Some sent → sent.packet.body ≡ Commit slot → HasCommitted setup history slot sent.packet.term
  commits_are_true k sent slot at is =
      let c = packet_is k sent (Commit slot) at is in
      let made = (told setup history).sound.made slot sent.packet.term c.entry c.is in
      let accepted = accepted_in_history setup history sent.packet.from slot sent.packet.term c.entry c.own c.is in
      (c.entry, accepted_proposed setup history sent.packet.from c.entry accepted, made.in_slot, made.in_term, chosen_of slot sent.packet.term c.entry.op c.chosen)

  -- a leader of a later term, also one that has proposed nothing
  own_proposal : (earlier : History) → IsPrefix earlier history → (i : ℕ) (s : Server) (l : Leader) → RunsAs (replay setup earlier) i s → LeadsAs s l → (slot : ℕ) → l.b0 < slot → slot < l.first → (e : Entry) × IsProposal setup history e × (e.slot ≡ slot) × (e.term ≡ s.durable.term)
  own_proposal earlier p i s l at role slot above below =
      let z = told setup earlier in
      let x = (z.follows.servers i (Running s) at).1 in
      let lead : IsLeader z.ballots.ballot z.ballots.next i s.durable l × LeaderKnows z.ballots i s.durable.term l =
      elim role [
        | inl is ↦ (subst (RoleIs z.ballots.vote z.ballots.ballot z.ballots.next i s.durable) is x.role, subst (RoleKnows z.ballots i s.durable.term) is x.knows.role)
        | inr is ↦ (subst (RoleIs z.ballots.vote z.ballots.ballot z.ballots.next i s.durable) is x.role, (subst (RoleKnows z.ballots i s.durable.term) is x.knows.role).0)
      ] in
      let begins = (z.sound.quorums s.durable.term lead.0.merge lead.0.is).begins in
      let low : slot < z.ballots.next s.durable.term = omega (arith, below, lead.0.has_first, begins) in
      let e = z.sound.complete s.durable.term lead.0.merge slot lead.0.is (omega (arith, lead.0.has_base, above)) low in
      let made = z.sound.made slot s.durable.term e.0 e.1 in
      let did = lead.1.own slot above (omega (arith, lead.0.has_next, low)) in
      let accepted = accepted_after setup earlier history p i e.0 (accepted_in_history setup earlier i slot s.durable.term e.0 did e.1) in
      (e.0, accepted_proposed setup history i e.0 accepted, made.in_slot, made.in_term)

  pub leaders_respect : (slot term : ℕ) (op : Op) (earlier : History) (i : ℕ) (s : Server) (l : Leader) → IsChosen setup history slot term op → IsPrefix earlier history → RunsAs (replay setup earlier) i s → LeadsAs s l → term < s.durable.term → Respects setup history slot op s l
  leaders_respect slot term op earlier i s l c p at role later =
      let z = told setup history in
      let led = (z.stood earlier p.rest p.whole).leads i s l at role in
      let picked = chosen_at_end setup history slot term op c in
      let below : slot < l.first = omega (arith, led.first, kept_at z.ballots z.sound slot term c.entry picked s.durable.term led.merge later led.is) in
      record {
        begins_above = below;
        proposes = λ above.
            let e = own_proposal earlier p i s l at role slot above below in
            let h = held_at_end setup history e.1.leader e.0 e.1.recorded in
            let proposed : z.ballots.proposal slot s.durable.term ≡ Some e.0 = ap (λ x. z.ballots.proposal x s.durable.term) (sym e.2) ∙ ap (z.ballots.proposal e.0.slot) (sym e.3) ∙ h.proposed in
            (e.0, e.1, e.2, e.3, chosen_stays z.ballots z.sound slot term c.entry picked s.durable.term e.0 (omega (arith, later)) proposed ∙ c.has_op);
      }

  -- no start makes an entry void that has the chosen op
  pub starts_respect : (slot term u : ℕ) (op : Op) (earlier : History) (i : ℕ) (d : Durable) → IsChosen setup history slot term op → IsPrefix earlier history → MayHold (replay setup earlier) i d → term ≤ u → IsVoid d.starts slot u → ⊥
  starts_respect slot term u op earlier i d c p holds le void =
      let z = told setup history in
      let start = (z.stood earlier p.rest p.whole).starts i d void.0 void.1.0 holds void.1.1 in
      let above = kept_at z.ballots z.sound slot term c.entry (chosen_at_end setup history slot term op c) void.0 start.merge (omega (arith, le, void.1.2)) start.is in
      omega (arith, above, start.first_slot, void.1.3)

  -- where a new proposal was made, each merged slot of its term was chosen by then
  pub merged_were_chosen : (e m : Entry) → IsProposal setup history e → EntryIsNew e → IsProposal setup history m → m.term ≡ e.term → m.slot < e.first → IsChosenIn setup history m.slot m.term m.op
  merged_were_chosen e m p new q same_term below =
      let z = told setup history in
      let h = held_at_end setup history p.leader e p.recorded in
      let k = held_at_end setup history q.leader m q.recorded in
      let made_e = z.sound.made e.slot e.term e h.proposed in
      let made_m = z.sound.made m.slot m.term m k.proposed in
      let same : made_m.merge ≡ made_e.merge = same_Some made_m.merge made_e.merge (sym made_m.is ∙ ap z.ballots.ballot same_term ∙ made_e.is) in
      let known = z.served.served e.term made_e.merge m.slot made_e.is (omega (arith, made_e.has_first, new, made_e.is_below)) (subst (λ x. x.base < m.slot) same made_m.is_above) (omega (arith, made_e.has_first, below)) in
      let agrees = proposal_agrees z.ballots z.sound m.slot e.term m.term known.op m known.chosen (omega (arith, same_term)) k.proposed in
      subst (λ u. IsChosenIn setup history m.slot u m.op) (sym same_term) (subst (IsChosenIn setup history m.slot e.term) (sym agrees) (chosen_of m.slot e.term known.op known.chosen))
