-- What holds of every history.
use Rattle.std.proofs.Common.{◌≡◌, ℕ, ◌<◌, ◌≤◌, ◌≢◌, ◌⊎◌, inl, inr, true, [], ◌∷◌, ◌++◌, Some, slice_get, arith, refl, sym, ap, subst, ◌∙◌}
use Rattle.std.specs.FinMap
use Rattle.std.proofs.lemmas.Option.{same_Some}
use Rattle.std.proofs.lemmas.Bool.{cases_lt}
use Rattle.pf_entry.specs.declared.ops.Op.{Op}
use Rattle.pf_entry.specs.declared.entries.Entry.{Entry}
use Rattle.pf_entry.specs.Records.{Durable}
use Rattle.pf_entry.specs.declared.entries.VoteLog.{VoteLog}
use Rattle.pf_entry.specs.declared.packets.Body.TheVariants.{Vote}
use Rattle.pf_protocol.proofs.Ballots.{Ballot, first_of, Ballots, IsStart, Sound, IsPicked}
use Rattle.pf_protocol.proofs.Law.{chosen_stays, kept_at, chosen_agree, IsChosenBy}
use Rattle.pf_protocol.proofs.BallotsKept.{holds_is}
use Rattle.pf_protocol.specs.Servers.{Setup, Leader, Role, Follower, Candidate, Merging, Serving, Server, Running, Stopped, has_applied}
use Rattle.pf_protocol.specs.Kept.{MayHold, Now, Without, With}
use Rattle.pf_protocol.specs.Groups.{Sent, Group, ending, happens, opening}
use Rattle.pf_protocol.specs.Histories.{History, IsPrefix, run, replay, RunsAs, Holds, HasAccepted, IsProposal, IsChosen}
use Rattle.pf_protocol.specs.declared.events.Happening.{Happening}
use Rattle.pf_protocol.specs.Safety.{OneLeader, is_leading, Agrees, AppliesInOrder, KeepsAcknowledged, IsSafe}
use Rattle.pf_entry.proofs.Lists.{every_get}
use Rattle.pf_protocol.proofs.EntryMakers.{accepted_proposed}
use Rattle.pf_protocol.proofs.ChosenKnown.{IsAcked, AckMarks, AllAcked, RoleMarks}
use Rattle.pf_protocol.proofs.LookBehinds.{Served}
use Rattle.pf_protocol.proofs.Follows.{Follows, IsCandidate, IsLeader, RoleIs, BodyIs, PacketIs}
use Rattle.pf_protocol.proofs.Steps.{HoldsAt, Persists, happens_next}
use Rattle.pf_protocol.proofs.OpeningBallots.{opening_ballots, nothing_accepted, opening_sound, opening_served, opening_follows}

-- what one of the ballots says of an entry that a server accepted
pub record IsHeld (b : Ballots) (i : ℕ) (e : Entry) : Type 0 where
  pub accepted : b.accepted i e.slot e.term ≡ true
  pub proposed : b.proposal e.slot e.term ≡ Some e

-- at some moment of the run the server had an entry of the slot and term
pub record AcceptedIn (setup : Setup) (g : Group) (history : History) (i slot term : ℕ) : Type 0 where
  pub earlier : History
  pub rest : History
  pub parts : earlier ++ rest ≡ history
  pub holds_it : HoldsAt (run setup g earlier) i slot term

-- the merge by which the server leads
pub record LedBy (b : Ballots) (i term : ℕ) (l : Leader) : Type 0 where
  pub merge : Ballot
  pub is : b.ballot term ≡ Some merge
  pub leader : merge.leader ≡ i
  pub first : l.first ≡ first_of merge
  pub base : l.b0 ≡ merge.base

-- the votes of candidates, those that were sent, and what leaders merged
pub record Stands (g : Group) (b : Ballots) : Type 0 where
  pub own : (i : ℕ) (s : Server) (own : VoteLog) → RunsAs g i s → s.role ≡ Candidate own → (i < 3) × (s.number ≡ i) × (b.vote i s.durable.term ≡ Some (record { to = i; log = own }))
  pub sent : (k : ℕ) (sent : Sent) (v : VoteLog) → slice_get g.packets k ≡ Some sent → sent.packet.body ≡ Vote v → (sent.packet.from < 3) × (sent.packet.from ≢ sent.packet.to) × (b.vote sent.packet.from sent.packet.term ≡ Some (record { to = sent.packet.to; log = v }))
  pub leads : (i : ℕ) (s : Server) (l : Leader) → RunsAs g i s → (s.role ≡ Merging l) ⊎ (s.role ≡ Serving l) → LedBy b i s.durable.term l
  pub starts : (i : ℕ) (d : Durable) (t first : ℕ) → MayHold g i d → FinMap.get d.starts t ≡ Some first → IsStart b.ballot t first

-- ballots that go with a whole run, and with each moment of it
pub record Told (setup : Setup) (g : Group) (b : Ballots) (history : History) : Type 0 where
  pub ballots : Ballots
  pub sound : Sound ballots
  pub served : Served ballots
  pub follows : Follows (run setup g history) ballots
  pub keeps : (i : ℕ) (e : Entry) → IsHeld b i e → IsHeld ballots i e
  pub held : (earlier rest : History) → earlier ++ rest ≡ history → (i : ℕ) (e : Entry) → Holds (run setup g earlier) i e → IsHeld ballots i e
  pub persists : Persists b ballots
  pub stood : (earlier rest : History) → earlier ++ rest ≡ history → Stands (run setup g earlier) ballots
  pub back : (i slot term : ℕ) → ballots.accepted i slot term ≡ true → (b.accepted i slot term ≡ true) ⊎ AcceptedIn setup g history i slot term

-- an entry that a running server holds was accepted and proposed
held_now : (b : Ballots) (sound : Sound b) (g : Group) (follows : Follows g b) (i : ℕ) (e : Entry) → Holds g i e → IsHeld b i e
held_now b sound g follows i e h =
    let is = (follows.servers i (Running h.server) h.runs).1 in
    let in_log = ap (λ d. FinMap.get d.log e.slot) is.disk ∙ h.held in
    record { accepted = sound.held_accepted i e.slot e in_log; proposed = ((sound.disks i).proposes e.slot e in_log).1 }

starts_now : (b : Ballots) (g : Group) → Sound b → Follows g b → (i : ℕ) (d : Durable) (t first : ℕ) → MayHold g i d → FinMap.get d.starts t ≡ Some first → IsStart b.ballot t first
starts_now b g sound follows i _ t first (Now s at) is = ((sound.disks i).true_starts t first (ap (λ d. FinMap.get d.starts t) (follows.servers i (Running s) at).1.disk ∙ is)).1
starts_now b g sound follows i _ t first (Without life before after at) is = ((sound.disks i).true_starts t first (ap (λ d. FinMap.get d.starts t) (follows.servers i (Stopped life before after) at).1.disk ∙ is)).1
starts_now b g sound follows i _ t first (With life before after at) is =
    let h = (follows.servers i (Stopped life before after) at).1 in
    elim (h.grows.true_starts t first is) [
      | inl old ↦ ((sound.disks i).true_starts t first (ap (λ d. FinMap.get d.starts t) h.disk ∙ old)).1
      | inr new ↦ new.1
    ]

stands_now : (b : Ballots) (g : Group) → Sound b → Follows g b → Stands g b
stands_now b g sound follows = record {
  starts = starts_now b g sound follows;
  own = λ i s own at role.
      let h = follows.servers i (Running s) at in
      let c : IsCandidate b.vote b.ballot i s.durable own = subst (RoleIs b.vote b.ballot b.next i s.durable) role h.1.role in
      (h.0, h.1.number, c.own_vote);
  sent = λ k sent v at body.
      let p = every_get (λ p. PacketIs b p.packet) g.packets k sent follows.packets at in
      (p.from_below, p.apart, subst (BodyIs b sent.packet.from sent.packet.to sent.packet.term) body p.body);
  leads = λ i s l at role.
      let h = follows.servers i (Running s) at in
      let lead : IsLeader b.ballot b.next i s.durable l = elim role [ inl is ↦ subst (RoleIs b.vote b.ballot b.next i s.durable) is h.1.role | inr is ↦ subst (RoleIs b.vote b.ballot b.next i s.durable) is h.1.role ] in
      record { merge = lead.merge; is = lead.is; leader = lead.leads; first = lead.has_first; base = lead.has_base };
}

stands_later : (g : Group) (b after : Ballots) → Persists b after → Stands g b → Stands g after
stands_later g b after keeps h = record {
  own = λ i s own at role. let x = h.own i s own at role in (x.0, x.1, keeps.votes i s.durable.term _ x.2);
  sent = λ k sent v at body. let x = h.sent k sent v at body in (x.0, x.1, keeps.votes sent.packet.from sent.packet.term _ x.2);
  leads = λ i s l at role. let x = h.leads i s l at role in record { merge = x.merge; is = keeps.ballots s.durable.term x.merge x.is; leader = x.leader; first = x.first; base = x.base };
  starts = λ i d t first holds is. let x = h.starts i d t first holds is in record { merge = x.merge; is = keeps.ballots t x.merge x.is; first_slot = x.first_slot };
}

both_persist : (a b c : Ballots) → Persists a b → Persists b c → Persists a c
both_persist a b c p q = record { terms = λ i. omega (arith, p.terms i, q.terms i); fresh = λ i s t is. elim (q.fresh i s t is) [ inl old ↦ p.fresh i s t old | inr high ↦ inr (omega (arith, p.terms i, high)) ]; votes = λ i t v is. q.votes i t v (p.votes i t v is); ballots = λ t m is. q.ballots t m (p.ballots t m is) }

nil_parts : (earlier rest : History) → earlier ++ rest ≡ [] → earlier ≡ []
nil_parts [] rest is = refl
nil_parts (h ∷ hs) rest is = absurd (grind arith)

pub tell : (setup : Setup) (history : History) (g : Group) (b : Ballots) → Sound b → Served b → Follows g b → Told setup g b history
tell setup [] g b sound served follows = record {
  ballots = b;
  sound = sound;
  served = served;
  follows = follows;
  keeps = λ i e h. h;
  held = λ earlier rest parts i e h. held_now b sound g follows i e (subst (λ hs. Holds (run setup g hs) i e) (nil_parts earlier rest parts) h);
  persists = record { terms = λ i. omega arith; fresh = λ i s t is. inl is; votes = λ i t v is. is; ballots = λ t m is. is };
  stood = λ earlier rest parts. subst (λ hs. Stands (run setup g hs) b) (sym (nil_parts earlier rest parts)) (stands_now b g sound follows);
  back = λ i slot term is. inl is;
}
tell setup (x ∷ xs) g b sound served follows =
    let n = happens_next setup b sound served g follows x.event (ending x.answer) in
    let t = tell setup xs (happens setup g x.event (ending x.answer)) n.ballots n.sound n.served n.follows in
    let keeps : (i : ℕ) (e : Entry) → IsHeld b i e → IsHeld t.ballots i e =
    λ i e h. t.keeps i e (record { accepted = n.accepted i e.slot e.term h.accepted; proposed = n.proposals e.slot e.term e h.proposed }) in
    record {
      ballots = t.ballots;
      sound = t.sound;
      served = t.served;
      follows = t.follows;
      keeps = keeps;
      held = λ earlier rest parts i e h. held_later setup g b sound follows x xs t.ballots keeps t.held earlier rest parts i e h;
      persists = both_persist b n.ballots t.ballots n.persists t.persists;
      stood = λ earlier rest parts. stood_later setup g b sound follows x xs t.ballots (both_persist b n.ballots t.ballots n.persists t.persists) t.stood earlier rest parts;
      back = λ i slot term is. elim (t.back i slot term is) [
        | inl before ↦ elim (n.new_accepted i slot term before) [
          | inl old ↦ inl old
          | inr now ↦ inr (record { earlier = x ∷ []; rest = xs; parts = refl; holds_it = now })
        ]
        | inr later ↦ inr (record { earlier = x ∷ later.earlier; rest = later.rest; parts = ap (λ hs. x ∷ hs) later.parts; holds_it = later.holds_it })
      ];
    }
  where
    stood_later : (setup : Setup) (g : Group) (b : Ballots) → Sound b → Follows g b → (x : Happening) (xs : History) (last : Ballots) → Persists b last → ((earlier rest : History) → earlier ++ rest ≡ xs → Stands (run setup (happens setup g x.event (ending x.answer)) earlier) last) → (earlier rest : History) → earlier ++ rest ≡ x ∷ xs → Stands (run setup g earlier) last
    stood_later setup g b sound follows x xs last keeps stood [] rest parts = stands_later g b last keeps (stands_now b g sound follows)
    stood_later setup g b sound follows x xs last keeps stood (y ∷ ys) rest parts =
        let p : y ∷ (ys ++ rest) ≡ x ∷ xs = parts in
        let head : y ≡ x = cc in
        let tail : ys ++ rest ≡ xs = cc in
        subst (λ z. Stands (run setup (happens setup g z.event (ending z.answer)) ys) last) (sym head) (stood ys rest tail)

    held_later : (setup : Setup) (g : Group) (b : Ballots) → Sound b → Follows g b → (x : Happening) (xs : History) (last : Ballots) → ((i : ℕ) (e : Entry) → IsHeld b i e → IsHeld last i e) → ((earlier rest : History) → earlier ++ rest ≡ xs → (i : ℕ) (e : Entry) → Holds (run setup (happens setup g x.event (ending x.answer)) earlier) i e → IsHeld last i e) → (earlier rest : History) → earlier ++ rest ≡ x ∷ xs → (i : ℕ) (e : Entry) → Holds (run setup g earlier) i e → IsHeld last i e
    held_later setup g b sound follows x xs last keeps held [] rest parts i e h = keeps i e (held_now b sound g follows i e h)
    held_later setup g b sound follows x xs last keeps held (y ∷ ys) rest parts i e h =
        let p : y ∷ (ys ++ rest) ≡ x ∷ xs = parts in
        let head : y ≡ x = cc in
        let tail : ys ++ rest ≡ xs = cc in
        held ys rest tail i e (subst (λ z. Holds (run setup (happens setup g z.event (ending z.answer)) ys) i e) head h)

pub told : (setup : Setup) (history : History) → Told setup (opening setup) (opening_ballots setup) history
told setup history = tell setup history (opening setup) (opening_ballots setup) (opening_sound setup) (opening_served setup) (opening_follows setup)

-- an accepted entry, at the end
pub held_at_end : (setup : Setup) (history : History) (i : ℕ) (e : Entry) → HasAccepted setup history i e → IsHeld (told setup history).ballots i e
held_at_end setup history i e a = (told setup history).held a.earlier a.is_earlier.rest a.is_earlier.whole i e a.holds

-- no held entry's term is above its server's
pub entries_within : (setup : Setup) (history : History) (i : ℕ) (s : Server) (slot : ℕ) (e : Entry) → RunsAs (replay setup history) i s → FinMap.get s.durable.log slot ≡ Some e → (e.slot ≡ slot) × (e.term ≤ s.durable.term)
entries_within setup history i s slot e at held =
    let t = told setup history in
    let x = (t.follows.servers i (Running s) at).1 in
    let p = (t.sound.disks i).proposes slot e (ap (λ d. FinMap.get d.log slot) x.disk ∙ held) in
    ((t.sound.made slot e.term e p.1).in_slot, omega (arith, p.0, ap (λ d. d.term) x.disk))

-- what the ballots say was accepted was accepted in the history
pub accepted_in_history : (setup : Setup) (history : History) (i slot term : ℕ) (e : Entry) → (told setup history).ballots.accepted i slot term ≡ true → (told setup history).ballots.proposal slot term ≡ Some e → HasAccepted setup history i e
accepted_in_history setup history i slot term e did is =
    elim ((told setup history).back i slot term did) [
      | inl never ↦ absurd (nothing_accepted setup i slot term never)
      | inr a ↦
          let h = holds_is a.holds_it.server.durable slot term a.holds_it.has in
          let in_slot = (entries_within setup a.earlier i a.holds_it.server slot h.0 a.holds_it.runs h.1).0 in
          let it : HasAccepted setup history i h.0 = record {
            earlier = a.earlier;
            is_earlier = record { rest = a.rest; whole = a.parts };
            holds = record { server = a.holds_it.server; runs = a.holds_it.runs; held = ap (FinMap.get a.holds_it.server.durable.log) in_slot ∙ h.1 };
          } in
          let same : h.0 ≡ e = same_Some h.0 e (sym (held_at_end setup history i h.0 it).proposed ∙ ap (λ s. (told setup history).ballots.proposal s h.0.term) in_slot ∙ ap ((told setup history).ballots.proposal slot) h.2 ∙ is) in
          subst (HasAccepted setup history i) same it
    ]

-- what is chosen in a history is chosen in its ballots, and the other way round
pub chosen_at_end : (setup : Setup) (history : History) (slot term : ℕ) (op : Op) (c : IsChosen setup history slot term op) → IsPicked (told setup history).ballots slot term c.entry
chosen_at_end setup history slot term op c =
    let one = held_at_end setup history c.one c.entry c.one_accepted in
    let two = held_at_end setup history c.two c.entry c.two_accepted in
    let b = (told setup history).ballots in
    subst (λ s. IsPicked b s term c.entry) c.in_slot (subst (λ t. IsPicked b c.entry.slot t c.entry) c.in_term (record {
      is = one.proposed;
      one = c.one;
      two = c.two;
      apart = c.apart;
      one_accepted = one.accepted;
      two_accepted = two.accepted;
    }))

pub chosen_in_history : (setup : Setup) (history : History) (slot term : ℕ) (e : Entry) → IsPicked (told setup history).ballots slot term e → IsChosen setup history slot term e.op
chosen_in_history setup history slot term e c =
    let m = (told setup history).sound.made slot term e c.is in
    record {
      entry = e;
      proposed = accepted_proposed setup history c.one e (accepted_in_history setup history c.one slot term e c.one_accepted c.is);
      in_slot = m.in_slot;
      in_term = m.in_term;
      has_op = refl;
      one = c.one;
      two = c.two;
      apart = c.apart;
      one_accepted = accepted_in_history setup history c.one slot term e c.one_accepted c.is;
      two_accepted = accepted_in_history setup history c.two slot term e c.two_accepted c.is;
    }

pub chosen_entry : (setup : Setup) (history : History) (slot term : ℕ) (e : Entry) (c : IsPicked (told setup history).ballots slot term e) → (chosen_in_history setup history slot term e c).entry ≡ e
unfolding chosen_in_history
chosen_entry setup history slot term e c = refl

pub known_in_history : (setup : Setup) (history : History) (slot term : ℕ) (op : Op) → IsChosenBy (told setup history).ballots slot term op → (t : ℕ) × (t ≤ term) × IsChosen setup history slot t op
known_in_history setup history slot term op c = (c.by, c.not_later, subst (IsChosen setup history slot c.by) c.has_op (chosen_in_history setup history slot c.by c.entry c.chosen))

-- an op that was chosen is the op of every later entry of its slot that some server accepted
pub later_entries_agree : (setup : Setup) (history : History) (slot term : ℕ) (op : Op) → IsChosen setup history slot term op → (i : ℕ) (e : Entry) → HasAccepted setup history i e → e.slot ≡ slot → term ≤ e.term → e.op ≡ op
later_entries_agree setup history slot term op c i e a in_slot later =
    let t = told setup history in
    let h = held_at_end setup history i e a in
    chosen_stays t.ballots t.sound slot term c.entry (chosen_at_end setup history slot term op c) e.term e later (ap (λ s. t.ballots.proposal s e.term) (sym in_slot) ∙ h.proposed) ∙ c.has_op

pub later_proposals_agree : (setup : Setup) (history : History) (slot term : ℕ) (op : Op) → IsChosen setup history slot term op → (e : Entry) → IsProposal setup history e → e.slot ≡ slot → term ≤ e.term → e.op ≡ op
later_proposals_agree setup history slot term op c e p = later_entries_agree setup history slot term op c p.leader e p.recorded

-- no slot has two chosen ops
pub one_chosen_op : (setup : Setup) (history : History) (slot t u : ℕ) (x y : Op) → IsChosen setup history slot t x → IsChosen setup history slot u y → x ≡ y
one_chosen_op setup history slot t u x y c d =
    elim (cases_lt t u) [
      | inl less ↦ sym (sym d.has_op ∙ later_entries_agree setup history slot t x c d.one d.entry d.one_accepted d.in_slot (omega (arith, less, d.in_term)))
      | inr not_less ↦ sym c.has_op ∙ later_entries_agree setup history slot u y d c.one c.entry c.one_accepted c.in_slot (omega (arith, not_less, c.in_term))
    ]

-- each committed op is the chosen op of its slot
pub agrees : (setup : Setup) (history : History) → Agrees setup history
agrees setup history = record {
  one_op = one_chosen_op setup history;
  committed = λ i s slot at is.
      let k = ((told setup history).follows.servers i (Running s) at).1.knows.committed slot is in
      let c = known_in_history setup history slot k.entry.term k.entry.op k.chosen in
      (k.entry, k.held, (c.0, c.2));
}

-- each applied slot has a chosen op
pub applied_chosen : (setup : Setup) (history : History) (i : ℕ) (s : Server) (slot : ℕ) → RunsAs (replay setup history) i s → 0 < slot → has_applied s slot ≡ true → (t : ℕ) × ((op : Op) × IsChosen setup history slot t op)
applied_chosen setup history i s slot at above is =
    let k = ((told setup history).follows.servers i (Running s) at).1.knows.applied.known slot above is in
    let c = known_in_history setup history slot s.durable.term k.op k.chosen in
    (c.0, (k.op, c.2))

-- each sector is what the applied ops leave in slot order
pub applies_in_order : (setup : Setup) (history : History) → AppliesInOrder setup history
applies_in_order setup history = record {
  chosen = applied_chosen setup history;
  sectors = λ i s at x n bytes ops is bound are.
      let k = ((told setup history).follows.servers i (Running s) at).1.knows.applied in
      k.in_order x n bytes ops is bound (λ slot above done.
      let o = are slot above done in
      let c = chosen_at_end setup history slot o.2.0 o.0 o.2.1 in
      (o.0, o.1, (o.2.0, record { entry = o.2.1.entry; by = o.2.0; chosen = c; not_later = omega arith; has_op = o.2.1.has_op })));
}

-- what was acknowledged is kept by each later leader
pub keeps_acknowledged : (setup : Setup) (history : History) → KeepsAcknowledged setup history
keeps_acknowledged setup history = record {
  chosen = λ k a at.
      let h = every_get (λ a. IsAcked (told setup history).ballots a.term a.slot) (replay setup history).acked k a (told setup history).follows.acked at in
      (h.entry.op, chosen_in_history setup history a.slot a.term h.entry h.chosen);
  kept = λ k a op i s l at c runs is later above.
      let t = told setup history in
      let h = every_get (λ a. IsAcked t.ballots a.term a.slot) (replay setup history).acked k a t.follows.acked at in
      let x = (t.follows.servers i (Running s) runs).1 in
      let lead : IsLeader t.ballots.ballot t.ballots.next i s.durable l = subst (RoleIs t.ballots.vote t.ballots.ballot t.ballots.next i s.durable) is x.role in
      let marks : AckMarks i s.durable.base s.committed l × AllAcked i l = subst (RoleMarks i s.durable.base s.committed) is x.knows.marks in
      let low = kept_at t.ballots t.sound a.slot a.term h.entry h.chosen s.durable.term lead.merge later lead.is in
      let who = marks.1 a.slot (omega (arith, lead.has_base, lead.base_low, above)) (omega (arith, lead.has_first, low)) in
      let committed = marks.0 who.0 a.slot who.1 who.2 above in
      let z = x.knows.committed a.slot committed in (
        z.entry,
        z.held,
        committed,
        chosen_agree t.ballots t.sound a.slot z.entry.term a.term z.entry.op op z.chosen
            (record { entry = c.entry; by = a.term; chosen = chosen_at_end setup history a.slot a.term op c; not_later = omega arith; has_op = c.has_op }),
      );
}

pub safe : (setup : Setup) (history : History) → IsSafe setup history
safe setup history earlier is = record {
  agrees = agrees setup earlier;
  in_order = applies_in_order setup earlier;
  acknowledged = keeps_acknowledged setup earlier;
}

-- no two servers hold different entries of one slot and term
pub one_entry : (setup : Setup) (history : History) (i j : ℕ) (a b : Entry) → HasAccepted setup history i a → HasAccepted setup history j b → a.slot ≡ b.slot → a.term ≡ b.term → a ≡ b
one_entry setup history i j a b x y slot term =
    let p = (held_at_end setup history i a x).proposed in
    let q = (held_at_end setup history j b y).proposed in
    let f = (told setup history).ballots.proposal in
    same_Some a b (sym p ∙ ap (λ s. f s a.term) slot ∙ ap (f b.slot) term ∙ q)

-- the leader of a term at any moment
led_at : (setup : Setup) (history earlier : History) → IsPrefix earlier history → (i : ℕ) (s : Server) (role : Role) → RunsAs (replay setup earlier) i s → s.role ≡ role → is_leading role ≡ true → (m : Ballot) × ((told setup history).ballots.ballot s.durable.term ≡ Some m) × (m.leader ≡ i)
led_at setup history earlier p i s Follower at is role = absurd (grind arith)
led_at setup history earlier p i s (Candidate own) at is role = absurd (grind arith)
led_at setup history earlier p i s (Merging l) at is role = let x = ((told setup history).stood earlier p.rest p.whole).leads i s l at (inl is) in (x.merge, x.is, x.leader)
led_at setup history earlier p i s (Serving l) at is role = let x = ((told setup history).stood earlier p.rest p.whole).leads i s l at (inr is) in (x.merge, x.is, x.leader)

-- in each term at most one server leads
pub one_leader : (setup : Setup) (history : History) → OneLeader setup history
one_leader setup history a b i j s z before after at_i at_j leads_i leads_j same =
    let l = led_at setup history a before i s s.role at_i refl leads_i in
    let k = led_at setup history b after j z z.role at_j refl leads_j in
    sym l.2 ∙ ap (λ m. m.leader) (same_Some l.0 k.0 (sym l.1 ∙ ap (told setup history).ballots.ballot same ∙ k.1)) ∙ k.2
