-- Look-behind lists, and what a leader waited for before it proposed anything new.
use Rattle.std.proofs.Common.{◌≡◌, ℕ, ◌<◌, ◌≤◌, ◌⊎◌, inl, inr, true, false, not, ◌&&◌, ◌==◌, Option, Some, None, arith, refl, sym, ap, subst, ◌∙◌, le_of_eq, lt_of_lt_of_le, lt_of_le_of_lt, eq-or-lt_of_le}
use Rattle.std.proofs.lemmas.Bool.{cases_eq, cases_lt, cond-true, cond-false, ne_eqb, eq-eqb, eqb-true, and_parts, not-true}
use Rattle.std.proofs.lemmas.Option.{same_Some, cond_some}
use Rattle.pf_entry.specs.Lists.{Every}
use Rattle.pf_entry.proofs.Lists.{every_more, some_of_any}
use Rattle.pf_entry.specs.declared.ops.Op.{Op}
use Rattle.pf_entry.specs.declared.ops.Op.TheVariants.{Noop}
use Rattle.pf_base.specs.Span.{Span}
use Rattle.pf_base.specs.Span.{overlaps}
use Rattle.pf_entry.specs.Ops.{range_of}
use Rattle.pf_entry.specs.declared.entries.Entry.{Entry}
use Rattle.pf_entry.specs.declared.entries.Named.{Named}
use Rattle.pf_entry.specs.Records.{Durable}
use Rattle.pf_entry.specs.Merging.{merged_entry}
use Rattle.pf_entry.specs.Applying.{passes}
use Rattle.pf_protocol.proofs.Ballots.{Cast, Ballot, first_of, Ballots, Sound, IsPicked}
use Rattle.pf_protocol.proofs.Changes.{grown, voted, merged, proposed, Extends}
use Rattle.pf_protocol.proofs.BallotsKept.{put_cases, put_cases_at, proposal_stays, proposals_stay}
use Rattle.pf_protocol.proofs.BallotGrowth.{extends_merged, extends_proposed}
use Rattle.pf_protocol.proofs.Law.{IsChosenBy, kept_at, chosen_below, proposal_agrees, chosen_agree}

-- some op is chosen in the slot, in a term not above this one
pub record IsKnown (b : Ballots) (slot term : ℕ) : Type 0 where
  pub op : Op
  pub chosen : IsChosenBy b slot term op

module _ (i : ℕ) (b after : Ballots) (x : Extends i b after) where
  pub chosen_there : (slot term : ℕ) (op : Op) → IsChosenBy b slot term op → IsChosenBy after slot term op
  chosen_there slot term op c = record {
    entry = c.entry;
    by = c.by;
    not_later = c.not_later;
    has_op = c.has_op;
    chosen = record {
      is = x.proposals slot c.by c.entry c.chosen.is;
      one = c.chosen.one;
      two = c.chosen.two;
      apart = c.chosen.apart;
      one_accepted = x.accepted c.chosen.one slot c.by c.chosen.one_accepted;
      two_accepted = x.accepted c.chosen.two slot c.by c.chosen.two_accepted;
    };
  }

  pub known_there : (slot term : ℕ) → IsKnown b slot term → IsKnown after slot term
  known_there slot term k = record { op = k.op; chosen = chosen_there slot term k.op k.chosen }

-- a named slot has its leader's own op of this range
pub record IsListed (proposal : ℕ → ℕ → Option Entry) (slot term : ℕ) (e : Entry) (n : Named) : Type 0 where
  pub is_new : e.first ≤ slot
  pub other : Entry
  pub is : proposal n.slot term ≡ Some other
  pub has_range : n.range ≡ range_of other.op
  pub below : n.slot < slot

pub record Served (b : Ballots) : Type 0 where
  pub listed : (s t : ℕ) (e : Entry) → b.proposal s t ≡ Some e → Every (IsListed b.proposal s t e) e.look
  pub served : (t : ℕ) (m : Ballot) (p : ℕ) → b.ballot t ≡ Some m → first_of m < b.next t → m.base < p → p < first_of m → IsKnown b p t

listed_stays : (b : Ballots) (proposal : ℕ → ℕ → Option Entry) → ((s t : ℕ) (e : Entry) → b.proposal s t ≡ Some e → proposal s t ≡ Some e) → (s t : ℕ) (e : Entry) → Every (IsListed b.proposal s t e) e.look → Every (IsListed proposal s t e) e.look
listed_stays b proposal stays s t e all =
    every_more (IsListed b.proposal s t e) (IsListed proposal s t e) (λ n l. record { is_new = l.is_new; other = l.other; is = stays n.slot t l.other l.is; has_range = l.has_range; below = l.below }) e.look all

pub grown_served : (b : Ballots) (i : ℕ) (after : Durable) → Extends i b (grown b i after) → Served b → Served (grown b i after)
grown_served b i after x s = record { listed = s.listed; served = λ t m p is new low high. known_there i b (grown b i after) x p t (s.served t m p is new low high) }

pub voted_served : (b : Ballots) (i term : ℕ) (v : Cast) → Extends i b (voted b i term v) → Served b → Served (voted b i term v)
voted_served b i term v x s = record { listed = s.listed; served = λ t m p is new low high. known_there i b (voted b i term v) x p t (s.served t m p is new low high) }

empty_list : (term : ℕ) (m : Ballot) (proposal : ℕ → ℕ → Option Entry) (s t : ℕ) (slot : ℕ) (e : Entry) → merged_entry term m.base m.own m.theirs slot ≡ e → Every (IsListed proposal s t e) e.look
unfolding merged_entry
empty_list term m proposal s t slot e is = subst (λ x. Every (IsListed proposal s t x) x.look) is tt

pub merged_served : (b : Ballots) (sound : Sound b) (i term : ℕ) (m : Ballot) → m.leader ≡ i → b.ballot term ≡ None → Served b → Served (merged b term m)
merged_served b sound i term m leads none s = record {
  listed = λ p t e is. elim (cases_eq t term) [
    | inl same ↦ empty_list term m (merged b term m).proposal p t p e (cond_some _ _ e (sym (cond-true (t == term) _ _ (eq-eqb t term same)) ∙ is)).1
    | inr apart ↦ listed_stays b (merged b term m).proposal (proposal_stays b sound term m none) p t e (s.listed p t e (sym (cond-false (t == term) _ _ (ne_eqb t term apart)) ∙ is))
  ];
  served = λ t x p is new low high. elim (put_cases b.ballot term (Some m) t) [
    | inl here ↦ absurd (omega (arith, new, cond-true (t == term) (first_of m) (b.next t) (eq-eqb t term here.0), ap first_of (same_Some m x (sym here.1 ∙ is))))
    | inr there ↦ known_there i b (merged b term m) (extends_merged b sound i term m leads none) p t
        (s.served t x p (sym there.1 ∙ is) (lt_of_lt_of_le new (le_of_eq (cond-false (t == term) _ _ (ne_eqb t term there.0)))) low high)
  ];
}

pub proposed_served : (b : Ballots) (sound : Sound b) (i term : ℕ) (m : Ballot) (e : Entry) → m.leader ≡ i → b.ballot term ≡ Some m → e.slot ≡ b.next term → Every (IsListed b.proposal e.slot term e) e.look → ((p : ℕ) → m.base < p → p < first_of m → IsKnown b p term) → Served b → Served (proposed b term e)
proposed_served b sound i term m e leads at in_slot lists waits s =
    let x = extends_proposed b sound i term m e leads at in_slot in
    record {
      listed = λ p t y is. elim (put_cases_at b.proposal e.slot term (Some e) p t) [
        | inl new ↦
            subst (λ k. Every (IsListed (proposed b term e).proposal k t y) y.look) (sym new.0)
            (subst (λ k. Every (IsListed (proposed b term e).proposal e.slot k y) y.look) (sym new.1)
            (subst (λ z. Every (IsListed (proposed b term e).proposal e.slot term z) z.look) (same_Some e y (sym new.2 ∙ is))
            (listed_stays b (proposed b term e).proposal (proposals_stay b sound term e in_slot) e.slot term e lists)))
        | inr old ↦ listed_stays b (proposed b term e).proposal (proposals_stay b sound term e in_slot) p t y (s.listed p t y (sym old.1 ∙ is))
      ];
      served = λ t y p is new low high. elim (cases_eq t term) [
        | inl same ↦
            let same_m : y ≡ m = same_Some y m (sym is ∙ ap b.ballot same ∙ at) in
            known_there i b (proposed b term e) x p t (subst (IsKnown b p) (sym same) (waits p (subst (λ z. z.base < p) same_m low) (subst (λ z. p < first_of z) same_m high)))
        | inr apart ↦ known_there i b (proposed b term e) x p t (s.served t y p is (lt_of_lt_of_le new (le_of_eq (cond-false (t == term) _ _ (ne_eqb t term apart)))) low high)
      ];
    }

-- some chosen entry of the slot a lets the slot p be passed
pub record IsPassed (b : Ballots) (a p : ℕ) : Type 0 where
  pub entry : Entry
  pub term : ℕ
  pub chosen : IsPicked b a term entry
  pub lets : passes entry.look p (range_of entry.op) ≡ true

noop_apart : (r : Span) → overlaps (range_of Noop) r ≡ false
unfolding range_of
noop_apart r = refl

-- the op in p is the named one or a no-op
pub named_op : (b : Ballots) (sound : Sound b) (s : Served b) (a p u k : ℕ) (e y : Entry) (other : Op) → IsPicked b a k e → (m : Ballot) → b.ballot k ≡ Some m → first_of m ≤ a → a < b.next k → m.base < p → p < a → b.proposal p k ≡ Some y → IsChosenBy b p u other → (other ≡ y.op) ⊎ (other ≡ Noop)
named_op b sound s a p u k e y other chosen m at new low_next above below in_p d =
    elim (cases_lt p (first_of m)) [
      | inl was_merged ↦
          let known = s.served k m p at (lt_of_le_of_lt new low_next) above was_merged in
          inl (sym (chosen_agree b sound p k u known.op other known.chosen d) ∙ sym (proposal_agrees b sound p k k known.op y known.chosen (omega arith) in_p))
      | inr reaches ↦
          elim (chosen_below b sound a k e chosen m at new p y in_p reaches below d.by d.entry d.chosen) [
            | inl same ↦ inl (sym d.has_op ∙ same)
            | inr noop ↦ inr (sym d.has_op ∙ noop)
          ]
    ]

-- then what is chosen in p shares no sector with what is chosen in a
pub passed_apart : (b : Ballots) (sound : Sound b) (s : Served b) (a p t u : ℕ) (op other : Op) → IsPassed b a p → IsChosenBy b a t op → IsChosenBy b p u other → overlaps (range_of other) (range_of op) ≡ false
passed_apart b sound s a p t u op other passed c d =
    let e = passed.entry in
    let k = passed.term in
    let made = sound.made a k e passed.chosen.is in
    let named = some_of_any (λ n. n.slot == p && not (overlaps n.range (range_of e.op))) (IsListed b.proposal a k e) e.look passed.lets (s.listed a k e passed.chosen.is) in
    let test = and_parts _ _ named.1 in
    let l = named.2 in
    let in_p : named.0.slot ≡ p = eqb-true named.0.slot p test.0 in
    let y_is : b.proposal p k ≡ Some l.other = ap (λ q. b.proposal q k) (sym in_p) ∙ l.is in
    let y_made = sound.made p k l.other y_is in
    let same_m : y_made.merge ≡ made.merge = same_Some y_made.merge made.merge (sym y_made.is ∙ made.is) in
    let above : made.merge.base < p = subst (λ m. m.base < p) same_m y_made.is_above in
    let same_op : e.op ≡ op = chosen_agree b sound a k t e.op op (record { entry = e; by = k; chosen = passed.chosen; not_later = omega arith; has_op = refl }) c in
    let apart : overlaps (range_of l.other.op) (range_of op) ≡ false =
    subst (λ r. overlaps r (range_of op) ≡ false) l.has_range (subst (λ o. overlaps named.0.range (range_of o) ≡ false) same_op (not-true _ test.1)) in
    elim (named_op b sound s a p u k e l.other other passed.chosen made.merge made.is (subst (λ f. f ≤ a) made.has_first l.is_new) made.is_below above (omega (arith, in_p, l.below)) y_is d) [
      | inl same ↦ subst (λ o. overlaps (range_of o) (range_of op) ≡ false) (sym same) apart
      | inr noop ↦ subst (λ o. overlaps (range_of o) (range_of op) ≡ false) (sym noop) (noop_apart (range_of op))
    ]

-- a new entry whose op is chosen by its term is chosen itself
pub new_is_chosen : (b : Ballots) (sound : Sound b) (slot : ℕ) (e : Entry) → b.proposal slot e.term ≡ Some e → IsChosenBy b slot e.term e.op → e.first ≤ slot → IsPicked b slot e.term e
new_is_chosen b sound slot e is c new =
    let made = sound.made slot e.term e is in
    elim (eq-or-lt_of_le c.not_later) [
      | inl same ↦
          let same_e : c.entry ≡ e = same_Some c.entry e (sym c.chosen.is ∙ ap (b.proposal slot) same ∙ is) in
          subst (λ x. IsPicked b slot e.term x) same_e (subst (λ t. IsPicked b slot t c.entry) same c.chosen)
      | inr earlier ↦ absurd (omega (arith, kept_at b sound slot c.by c.entry c.chosen e.term made.merge earlier made.is, made.has_first, new))
    ]
