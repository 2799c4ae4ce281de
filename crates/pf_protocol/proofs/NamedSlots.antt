-- Named slots keep their op, and nothing old is taken.
use Rattle.std.proofs.Common.{◌≡◌, ℕ, ◌-◌, ◌<◌, ◌≤◌, ◌⊎◌, inl, inr, true, [], ◌∷◌, ◌++◌, Some, nat_lt, slice_get, arith, refl, sym, ap, subst, ◌∙◌}
use Rattle.std.specs.List.{range_with_len}
use Rattle.std.specs.FinMap
use Rattle.std.proofs.lemmas.Bool.{ltb-true, cases_lt, true≢false, or_left, or_right}
use Rattle.std.proofs.lemmas.Option.{same_Some}
use Rattle.std.proofs.lemmas.List.{append_assoc, append-nil}
use Rattle.pf_entry.specs.Ops.{range_of}
use Rattle.pf_entry.specs.Lists.{Every}
use Rattle.pf_entry.proofs.Lists.{every_get, every_map, every_filter, every_range}
use Rattle.pf_entry.specs.declared.ops.Op.{Op}
use Rattle.pf_entry.specs.declared.entries.Named.{Named}
use Rattle.pf_entry.specs.declared.entries.Entry.{Entry}
use Rattle.pf_entry.specs.declared.entries.VoteLog.{VoteLog}
use Rattle.pf_entry.specs.Entries.{EntryIsNew}
use Rattle.pf_entry.specs.Merging.{is_passed_over, merged_entry}
use Rattle.pf_entry.proofs.MergedEntries.{was_taken, test_from_IsVoid}
use Rattle.pf_protocol.proofs.Ballots.{first_of, Faithful, IsPicked}
use Rattle.pf_protocol.proofs.Law.{share}
use Rattle.pf_protocol.proofs.LookBehinds.{named_op}
use Rattle.pf_protocol.proofs.ChosenKnown.{LeaderKnows, RoleKnows}
use Rattle.pf_protocol.proofs.Follows.{IsLeader, RoleIs}
use Rattle.pf_protocol.proofs.Rows.{own_entry}
use Rattle.pf_protocol.specs.Servers.{Setup, Leader, Serving, Server, Running}
use Rattle.pf_protocol.specs.Leading.{op_of, op_at, look_behind, new_entry}
use Rattle.pf_protocol.specs.declared.events.Event.{Event}
use Rattle.pf_protocol.specs.declared.events.Event.TheVariants.{Deliver}
use Rattle.pf_protocol.specs.Histories.{History, replay, RunsAs, HasAccepted, Makes, BySubmit, ByMerge, IsChosen, IsTakenFrom}
use Rattle.pf_protocol.specs.Kept.{KeepsName}
use Rattle.pf_protocol.proofs.EntryMakers.{accepted_proposed}
use Rattle.pf_protocol.proofs.Moments.{begins_with}
use Rattle.pf_protocol.proofs.Origins.{accepted_after}
use Rattle.pf_protocol.proofs.Histories.{told, Stands, held_at_end, chosen_at_end}
use Rattle.pf_protocol.proofs.Facts.{chosen_by}

-- a named slot has the leader's own entry, of this range
record OwnNamed (setup : Setup) (earlier : History) (i : ℕ) (e : Entry) (n : Named) : Type 0 where
  own : Entry
  accepted : HasAccepted setup earlier i own
  in_slot : own.slot ≡ n.slot
  in_term : own.term ≡ e.term
  has_range : n.range ≡ range_of own.op
  below : n.slot < e.slot

held_now : (setup : Setup) (earlier : History) (i : ℕ) (s : Server) (e : Entry) → RunsAs (replay setup earlier) i s → FinMap.get s.durable.log e.slot ≡ Some e → HasAccepted setup earlier i e
held_now setup earlier i s e runs at = record { earlier = earlier; is_earlier = record { rest = []; whole = append-nil earlier }; holds = record { server = s; runs = runs; held = at } }

-- what a leader names
names_own : (setup : Setup) (earlier : History) (i : ℕ) (s : Server) (l : Leader) (op : Op) → RunsAs (replay setup earlier) i s → s.role ≡ Serving l → Every (OwnNamed setup earlier i (new_entry setup.names s l op)) (look_behind setup.names s l.next)
unfolding look_behind new_entry op_at
names_own setup earlier i s l op runs role =
    let z = told setup earlier in
    let x = z.follows.servers i (Running s) runs in
    let lead : IsLeader z.ballots.ballot z.ballots.next i s.durable l = subst (RoleIs z.ballots.vote z.ballots.ballot z.ballots.next i s.durable) role x.1.role in
    let knows : LeaderKnows z.ballots i s.durable.term l = (subst (RoleKnows z.ballots i s.durable.term) role x.1.knows.role).0 in
    every_map (OwnNamed setup earlier i (new_entry setup.names s l op)) _ _
    (every_filter _ (nat_lt s.durable.base) (range_with_len (l.next - setup.names) (l.next - (l.next - setup.names)))
    (every_range _ (l.next - (l.next - setup.names)) (l.next - setup.names) (λ slot low high over.
    let y = own_entry z.ballots z.sound z.served i x.0 s x.1 l lead knows slot (ltb-true _ _ over) (omega (arith, high)) in
    let made = z.sound.made slot s.durable.term y.0 y.2 in
    record {
      own = y.0;
      accepted = held_now setup earlier i s y.0 runs (ap (FinMap.get s.durable.log) made.in_slot ∙ y.1);
      in_slot = made.in_slot;
      in_term = made.in_term;
      has_range = ap (λ o. range_of (op_of o)) y.1;
      below = omega (arith, high);
    })))

look_of_new : (names : ℕ) (s : Server) (l : Leader) (op : Op) → (new_entry names s l op).look ≡ look_behind names s l.next
unfolding new_entry
look_of_new names s l op = refl

look_of_merged : (term base : ℕ) (own other : VoteLog) (slot : ℕ) → (merged_entry term base own other slot).look ≡ []
unfolding merged_entry
look_of_merged term base own other slot = refl

named_by : (setup : Setup) (earlier : History) (i : ℕ) (s : Server) (event : Event) (e : Entry) → RunsAs (replay setup earlier) i s → Makes setup (replay setup earlier) i s event e → Every (OwnNamed setup earlier i e) e.look
named_by setup earlier i s _ _ runs (BySubmit op l role) = subst (Every (OwnNamed setup earlier i (new_entry setup.names s l op))) (sym (look_of_new setup.names s l op)) (names_own setup earlier i s l op runs role)
named_by setup earlier i s _ _ runs (ByMerge k sent own other slot merge above below) =
    subst (Every (OwnNamed setup earlier i (merged_entry s.durable.term s.durable.base own other slot))) (sym (look_of_merged s.durable.term s.durable.base own other slot)) tt

-- whatever is chosen in a named slot is its leader's op or a no-op
pub named_slots : (setup : Setup) (history : History) (slot term : ℕ) (op : Op) (c : IsChosen setup history slot term op) → EntryIsNew c.entry → (k : ℕ) (n : Named) → slice_get c.entry.look k ≡ Some n → KeepsName setup history c.entry n
named_slots setup history slot term op c new k n at =
    let p = c.proposed in
    let m = p.made in
    let x = every_get (OwnNamed setup m.earlier p.leader c.entry) c.entry.look k n (named_by setup m.earlier p.leader m.server m.making.event c.entry m.runs m.makes) at in
    let accepted = accepted_after setup m.earlier history (begins_with m.earlier history m.making m.is_earlier) p.leader x.own x.accepted in
    let z = told setup history in
    let picked = chosen_at_end setup history slot term op c in
    let made = z.sound.made slot term c.entry picked.is in
    let proposed : z.ballots.proposal n.slot term ≡ Some x.own =
    ap (λ s. z.ballots.proposal s term) (sym x.in_slot) ∙ ap (z.ballots.proposal x.own.slot) (sym (x.in_term ∙ c.in_term)) ∙ (held_at_end setup history p.leader x.own accepted).proposed in
    let own_made = z.sound.made n.slot term x.own proposed in
    let same_m : own_made.merge ≡ made.merge = same_Some own_made.merge made.merge (sym own_made.is ∙ made.is) in
    record {
      own = x.own;
      is_proposal = accepted_proposed setup history p.leader x.own accepted;
      in_slot = x.in_slot;
      in_term = x.in_term;
      has_range = x.has_range;
      later = λ t other chosen.
          named_op z.ballots z.sound z.served slot n.slot t term c.entry x.own other picked made.merge made.is (omega (arith, new, c.in_slot, made.has_first)) made.is_below
          (subst (λ y. y.base < n.slot) same_m own_made.is_above) (omega (arith, x.below, c.in_slot)) proposed (chosen_by setup history n.slot t other chosen);
    }

-- the server that accepted what was chosen, and showed its log to the later leader
record Shown (setup : Setup) (history : History) (slot term u : ℕ) (own other : VoteLog) : Type 0 where
  server : ℕ
  did : (told setup history).ballots.accepted server slot term ≡ true
  log : VoteLog
  faithful : Faithful ((told setup history).ballots.accepted server) (told setup history).ballots.proposal (told setup history).ballots.ballot log u
  which : (log ≡ own) ⊎ (log ≡ other)

merged_term : (term base : ℕ) (own other : VoteLog) (slot : ℕ) → (merged_entry term base own other slot).term ≡ term
unfolding merged_entry
merged_term term base own other slot = refl

pub nothing_old : (setup : Setup) (history : History) (slot term : ℕ) (op : Op) (c : IsChosen setup history slot term op) → EntryIsNew c.entry → (e from : Entry) → IsTakenFrom setup history e from → term < e.term → c.entry.first ≤ e.slot → term ≤ from.term
nothing_old setup history slot term op c new e from k later reaches =
    elim (cases_lt from.term term) [
      | inl older ↦ absurd (true≢false (sym (passed older) ∙ (was_taken k.server.durable.base k.own k.other e.slot from k.is_taken).stays))
      | inr not_older ↦ not_older
    ]
  where
    u : ℕ
    u = k.server.durable.term

    in_term : e.term ≡ k.server.durable.term
    in_term = ap (λ x. x.term) k.is_merged ∙ merged_term k.server.durable.term k.server.durable.base k.own k.other e.slot

    parts : k.earlier ++ (record { event = Deliver k.k; answer = k.answer } ∷ k.is_earlier.rest) ≡ history
    parts = sym (append_assoc k.earlier (record { event = Deliver k.k; answer = k.answer } ∷ []) k.is_earlier.rest) ∙ k.is_earlier.whole

    stood : Stands (replay setup k.earlier) (told setup history).ballots
    stood = (told setup history).stood k.earlier (record { event = Deliver k.k; answer = k.answer } ∷ k.is_earlier.rest) parts

    picked : IsPicked (told setup history).ballots slot term c.entry
    picked = chosen_at_end setup history slot term op c

    by_own : (j : ℕ) → j ≡ k.leader → (told setup history).ballots.accepted j slot term ≡ true → Shown setup history slot term k.server.durable.term k.own k.other
    by_own j same did =
        let v = stood.own k.leader k.server k.own k.runs k.merge.stands in
        record { server = k.leader; did = ap (λ x. (told setup history).ballots.accepted x slot term) (sym same) ∙ did; log = k.own; faithful = (told setup history).sound.votes k.leader k.server.durable.term _ v.2; which = inl refl }

    by_other : (j : ℕ) → j ≡ k.sent.packet.from → (told setup history).ballots.accepted j slot term ≡ true → Shown setup history slot term k.server.durable.term k.own k.other
    by_other j same did =
        let v = stood.sent k.k k.sent k.other k.merge.was_sent k.merge.is_vote in
        record {
          server = k.sent.packet.from;
          did = ap (λ x. (told setup history).ballots.accepted x slot term) (sym same) ∙ did;
          log = k.other;
          faithful = (told setup history).sound.votes k.sent.packet.from k.server.durable.term _ (ap ((told setup history).ballots.vote k.sent.packet.from) (sym k.merge.in_term) ∙ v.2);
          which = inr refl;
        }

    shown : Shown setup history slot term k.server.durable.term k.own k.other
    shown =
        let z = told setup history in
        let mine = stood.own k.leader k.server k.own k.runs k.merge.stands in
        let theirs = stood.sent k.k k.sent k.other k.merge.was_sent k.merge.is_vote in
        let one = z.sound.accepted_proposed picked.one slot term picked.one_accepted in
        let two = z.sound.accepted_proposed picked.two slot term picked.two_accepted in
        elim (share picked.one picked.two k.leader k.sent.packet.from picked.apart (λ same. theirs.1 (sym same ∙ sym k.merge.to_it)) one.0 two.0 mine.0 theirs.0) [
          | inl first ↦ elim first [ inl is ↦ by_own picked.one is picked.one_accepted | inr is ↦ by_other picked.one is picked.one_accepted ]
          | inr second ↦ elim second [ inl is ↦ by_own picked.two is picked.two_accepted | inr is ↦ by_other picked.two is picked.two_accepted ]
        ]

    passed : from.term < term → is_passed_over k.own k.other e.slot from.term ≡ true
    passed older =
        let z = told setup history in
        let start = shown.faithful.keeps_starts slot term shown.did (omega (arith, later, in_term)) in
        let true_start = (shown.faithful.true_starts term start.0 start.1).1 in
        let made = z.sound.made slot term c.entry picked.is in
        let same : true_start.merge ≡ made.merge = same_Some true_start.merge made.merge (sym true_start.is ∙ made.is) in
        let first : start.0 ≤ e.slot = omega (arith, sym true_start.first_slot ∙ ap first_of same ∙ sym made.has_first, reaches) in
        elim shown.which [
          | inl is ↦ or_left _ _ (test_from_IsVoid k.own.starts e.slot from.term (term, (start.0, ap (λ x. FinMap.get x.starts term) (sym is) ∙ start.1, older, first)))
          | inr is ↦ or_right _ _ (test_from_IsVoid k.other.starts e.slot from.term (term, (start.0, ap (λ x. FinMap.get x.starts term) (sym is) ∙ start.1, older, first)))
        ]
