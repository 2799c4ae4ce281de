-- What may happen to the ballots keeps them sound.
use Rattle.std.proofs.Common.{◌≡◌, ℕ, suc, ◌<◌, ◌≤◌, ◌≢◌, ◌⊎◌, inl, inr, Bool, true, false, cond, Option, Some, None, ◌||◌, ◌==◌, arith, refl, sym, ap, subst, ◌∙◌, le_trans, lt_of_lt_of_le, lt_of_le_of_lt, le_of_eq, eq-or-lt_of_le}
use Rattle.std.specs.FinMap
use Rattle.std.proofs.lemmas.Bool.{cases_eq, or_cases, or_right, eqb-true, eq-eqb, ne_eqb, cond-true, cond-false, and_parts, and_from, ltb-true, lt-ltb}
use Rattle.std.proofs.lemmas.Option.{same_Some, cond_some}
use Rattle.pf_entry.specs.declared.entries.Entry.{Entry}
use Rattle.pf_entry.specs.declared.entries.VoteLog.{VoteLog}
use Rattle.pf_entry.specs.Records.{Durable, holds, has_term, vote_of}
use Rattle.pf_entry.specs.Merging.{merged_entry}
use Rattle.pf_entry.proofs.MergedEntries.{base_below_first}
use Rattle.pf_protocol.proofs.Ballots.{Cast, Ballot, first_of, Ballots, HasFrom, IsStart, HasQuorum, IsMade, Faithful, Sound}
use Rattle.pf_protocol.proofs.Changes.{put, grown, IsNews, Grows, voted, merged_proposal, merged, proposed}
use Rattle.pf_entry.proofs.Cases.{by_test}

-- what a place has after a change: the new value, or what it had
pub put_cases : {X : Type 0} → (f : ℕ → X) (i : ℕ) (x : X) (j : ℕ) → ((j ≡ i) × (put f i x j ≡ x)) ⊎ ((j ≢ i) × (put f i x j ≡ f j))
put_cases f i x j =
    elim (cases_eq j i) [
      | inl same ↦ inl (same, cond-true _ _ _ (eq-eqb j i same))
      | inr apart ↦ inr (apart, cond-false _ _ _ (ne_eqb j i apart))
    ]

-- the same of a table of two indices
pub put_cases_at : {X : Type 0} → (f : ℕ → ℕ → X) (i k : ℕ) (x : X) (j l : ℕ) → ((j ≡ i) × (l ≡ k) × (put f i (put (f i) k x) j l ≡ x)) ⊎ (((j ≡ i) × (l ≡ k) → ⊥) × (put f i (put (f i) k x) j l ≡ f j l))
put_cases_at f i k x j l =
    elim (put_cases f i (put (f i) k x) j) [
      | inl here ↦ elim (put_cases (f i) k x l) [
        | inl same ↦ inl (here.0, same.0, ap (λ g. g l) here.1 ∙ same.1)
        | inr other ↦ inr (λ both. other.0 both.1, ap (λ g. g l) here.1 ∙ other.1 ∙ ap (λ n. f n l) (sym here.0))
      ]
      | inr there ↦ inr (λ both. there.0 both.0, ap (λ g. g l) there.1)
    ]

-- what was there before a step is there after it
pub vote_stays : (b : Ballots) (i term : ℕ) (v : Cast) → b.vote i term ≡ None → (j t : ℕ) (w : Cast) → b.vote j t ≡ Some w → (voted b i term v).vote j t ≡ Some w
vote_stays b i term v none j t w is =
    elim (put_cases_at b.vote i term (Some v) j t) [
      | inl new ↦ absurd (grind (arith, sym is ∙ ap (λ k. b.vote k t) new.0 ∙ ap (b.vote i) new.1 ∙ none))
      | inr old ↦ old.1 ∙ is
    ]

pub ballot_stays : (b : Ballots) (term : ℕ) (m : Ballot) → b.ballot term ≡ None → (t : ℕ) (x : Ballot) → b.ballot t ≡ Some x → (t ≢ term) × ((merged b term m).ballot t ≡ Some x)
ballot_stays b term m none t x is =
    elim (put_cases b.ballot term (Some m) t) [
      | inl same ↦ absurd (grind (arith, sym is ∙ ap b.ballot same.0 ∙ none))
      | inr other ↦ (other.0, other.1 ∙ is)
    ]

pub proposal_stays : (b : Ballots) (sound : Sound b) (term : ℕ) (m : Ballot) → b.ballot term ≡ None → (s t : ℕ) (e : Entry) → b.proposal s t ≡ Some e → (merged b term m).proposal s t ≡ Some e
proposal_stays b sound term m none s t e is =
    let made = sound.made s t e is in
    cond-false _ _ _ (ne_eqb t term (ballot_stays b term m none t made.merge made.is).0) ∙ is

pub proposals_stay : (b : Ballots) (sound : Sound b) (term : ℕ) (e : Entry) → e.slot ≡ b.next term → (s t : ℕ) (x : Entry) → b.proposal s t ≡ Some x → (proposed b term e).proposal s t ≡ Some x
proposals_stay b sound term e in_slot s t x is =
    elim (put_cases_at b.proposal e.slot term (Some e) s t) [
      | inl new ↦ absurd (omega (arith, (sound.made s t x is).is_below, new.0, in_slot, ap b.next new.1))
      | inr old ↦ old.1 ∙ is
    ]

pub put_there_at : {X : Type 0} → (f : ℕ → ℕ → X) (i k : ℕ) (x : X) → put f i (put (f i) k x) i k ≡ x
put_there_at f i k x = ap (λ g. g k) (cond-true (i == i) (put (f i) k x) (f i) (eq-eqb i i refl)) ∙ cond-true (k == k) x (f i k) (eq-eqb k k refl)

suc_same : (a b : ℕ) → suc a ≡ suc b → a ≡ b
suc_same a b e = omega arith

has_term_is : (t : ℕ) (o : Option Entry) → has_term t o ≡ true → (e : Entry) × (o ≡ Some e) × (e.term ≡ t)
has_term_is t None h = grind arith
has_term_is t (Some e) h = (e, refl, eqb-true e.term t h)

-- what a log holds
pub holds_is : (d : Durable) (s t : ℕ) → holds d s t ≡ true → (e : Entry) × (FinMap.get d.log s ≡ Some e) × (e.term ≡ t)
unfolding holds
holds_is d s t h = has_term_is t (FinMap.get d.log s) h

pub holds_from : (d : Durable) (s : ℕ) (e : Entry) → FinMap.get d.log s ≡ Some e → holds d s e.term ≡ true
unfolding holds
holds_from d s e is = ap (has_term e.term) is ∙ eq-eqb e.term e.term refl

module _ (b : Ballots) (sound : Sound b) (i : ℕ) (below : i < 3) (after : Durable) (grows : Grows b.proposal b.ballot (b.disk i) after) where
  abbrev now : ℕ → ℕ → Bool
  now s t = b.accepted i s t || holds after s t

  -- what the disk has is old, or is not below the disk's old term
  data Origin (s t : ℕ) : Type 0 where
    Old : b.accepted i s t ≡ true → Origin s t
    News : (e : Entry) → FinMap.get after.log s ≡ Some e → e.term ≡ t → IsNews b.proposal (b.disk i) after s e → Origin s t

  origin_of_entry : (s : ℕ) (e : Entry) → FinMap.get after.log s ≡ Some e → Origin s e.term
  origin_of_entry s e is =
      elim (grows.news s e is) [
        | inl old ↦ Old (sound.held_accepted i s e old)
        | inr news ↦ News e is refl news
      ]

  origin : (s t : ℕ) → now s t ≡ true → Origin s t
  origin s t is =
      elim (or_cases _ _ is) [
        | inl old ↦ Old old
        | inr held ↦ let h = holds_is after s t held in subst (λ u. Origin s u) h.2 (origin_of_entry s h.0 h.1)
      ]

  grown_keeps : (s t : ℕ) → Origin s t → after.base < s → HasFrom after.log s t
  grown_keeps s t (Old is) above =
      let p = sound.accepted_proposed i s t is in
      let h = (sound.disks i).keeps s t is (omega (arith, p.1)) (lt_of_le_of_lt grows.base above) in
      let k = grows.keeps s h.entry h.held (inl above) in
      record { entry = k.entry; held = k.held; no_lower = le_trans h.no_lower k.no_lower }
  grown_keeps s t (News e is same news) above = record { entry = e; held = is; no_lower = le_of_eq (sym same) }

  grown_starts : (s t : ℕ) → Origin s t → (first : ℕ) × (FinMap.get after.starts t ≡ Some first)
  grown_starts s t (Old is) =
      let p = sound.accepted_proposed i s t is in
      let k = (sound.disks i).keeps_starts s t is (omega (arith, p.1)) in
      grows.starts t k.0 k.1
  grown_starts s t (News e is same news) = (e.first, subst (λ u. FinMap.get after.starts u ≡ Some e.first) same news.started)

  grown_proposes : (s : ℕ) (e : Entry) → FinMap.get after.log s ≡ Some e → (e.term < suc after.term) × (b.proposal s e.term ≡ Some e)
  grown_proposes s e is =
      elim (grows.news s e is) [
        | inl old ↦ let p = (sound.disks i).proposes s e old in (omega (arith, p.0, grows.term), p.1)
        | inr news ↦ (omega (arith, news.not_above), news.is)
      ]

  grown_disk : Faithful now b.proposal b.ballot (vote_of after) (suc after.term)
  grown_disk = record {
    keeps = λ s t is lt above. grown_keeps s t (origin s t is) above;
    keeps_starts = λ s t is lt. grown_starts s t (origin s t is);
    proposes = grown_proposes;
    true_starts = λ t first is. elim (grows.true_starts t first is) [
      | inl old ↦ let p = (sound.disks i).true_starts t first old in (omega (arith, p.0, grows.term), p.1)
      | inr new ↦ (omega (arith, new.0), new.1)
    ];
  }

  -- of the terms below a vote nothing was accepted since
  since_vote : (u : ℕ) (v : Cast) → b.vote i u ≡ Some v → (s t : ℕ) → t < u → Origin s t → b.accepted i s t ≡ true
  since_vote u v is s t lt (Old old) = old
  since_vote u v is s t lt (News e held same news) = absurd (omega (arith, sound.vote_terms i u v is, news.not_old, same))

  grown_vote : (u : ℕ) (v : Cast) → b.vote i u ≡ Some v → Faithful now b.proposal b.ballot v.log u
  grown_vote u v is =
      let f = sound.votes i u v is in
      record {
        keeps = λ s t has lt above. f.keeps s t (since_vote u v is s t lt (origin s t has)) lt above;
        keeps_starts = λ s t has lt. f.keeps_starts s t (since_vote u v is s t lt (origin s t has)) lt;
        proposes = f.proposes;
        true_starts = f.true_starts;
      }

  origin_proposed : (s t : ℕ) → Origin s t → (t ≤ after.term) × ((e : Entry) × (b.proposal s t ≡ Some e))
  origin_proposed s t (Old is) = let p = sound.accepted_proposed i s t is in (le_trans p.1 grows.term, p.2)
  origin_proposed s t (News e held same news) = (subst (λ u. u ≤ after.term) same news.not_above, (e, subst (λ u. b.proposal s u ≡ Some e) same news.is))

  pub grown_sound : Sound (grown b i after)
  grown_sound = record {
    disks = λ j. by_test (j == i)
        (λ c. Faithful (cond c now (b.accepted j)) b.proposal b.ballot (vote_of (cond c after (b.disk j))) (suc (cond c after (b.disk j)).term))
        (λ _. grown_disk) (λ _. sound.disks j);
    votes = λ j t v is. by_test (j == i)
        (λ c. Faithful (cond c now (b.accepted j)) b.proposal b.ballot v.log t)
        (λ same. grown_vote t v (subst (λ k. b.vote k t ≡ Some v) (eqb-true j i same) is)) (λ _. sound.votes j t v is);
    vote_terms = λ j t v is. by_test (j == i)
        (λ c. t ≤ (cond c after (b.disk j)).term)
        (λ same. le_trans (sound.vote_terms i t v (subst (λ k. b.vote k t ≡ Some v) (eqb-true j i same) is)) grows.term)
        (λ _. sound.vote_terms j t v is);
    held_accepted = λ j s e. by_test (j == i)
        (λ c. FinMap.get (cond c after (b.disk j)).log s ≡ Some e → cond c now (b.accepted j) s e.term ≡ true)
        (λ _ is. or_right _ _ (holds_from after s e is))
        (λ _. sound.held_accepted j s e);
    accepted_proposed = λ j s t. by_test (j == i)
        (λ c. cond c now (b.accepted j) s t ≡ true → (j < 3) × (t ≤ (cond c after (b.disk j)).term) × ((e : Entry) × (b.proposal s t ≡ Some e)))
        (λ same is. let o = origin_proposed s t (origin s t is) in (subst (λ k. k < 3) (sym (eqb-true j i same)) below, o.0, o.1))
        (λ _. sound.accepted_proposed j s t);
    made = sound.made;
    quorums = sound.quorums;
    complete = sound.complete;
  }

-- a vote stands for what the voter's disk does
module _ (b : Ballots) (sound : Sound b) (i term : ℕ) (v : Cast) (first_vote : b.vote i term ≡ None) (in_time : term ≤ (b.disk i).term) (faithful : Faithful (b.accepted i) b.proposal b.ballot v.log term) where
  abbrev vote_now : ℕ → ℕ → Option Cast
  vote_now = put b.vote i (put (b.vote i) term (Some v))

  vote_is : (j t : ℕ) (w : Cast) → vote_now j t ≡ Some w → (b.vote j t ≡ Some w) ⊎ ((j ≡ i) × (t ≡ term) × (v ≡ w))
  vote_is j t w is =
      elim (put_cases_at b.vote i term (Some v) j t) [
        | inl new ↦ inr (new.0, new.1, same_Some v w (sym new.2 ∙ is))
        | inr old ↦ inl (sym old.1 ∙ is)
      ]

  new_vote : (j t : ℕ) (w : Cast) → (j ≡ i) × (t ≡ term) × (v ≡ w) → Faithful (b.accepted j) b.proposal b.ballot w.log t
  new_vote j t w same =
      subst (λ k. Faithful (b.accepted k) b.proposal b.ballot w.log t) (sym same.0)
      (subst (λ u. Faithful (b.accepted i) b.proposal b.ballot w.log u) (sym same.1)
      (subst (λ x. Faithful (b.accepted i) b.proposal b.ballot x.log term) same.2 faithful))

  pub voted_sound : Sound (voted b i term v)
  voted_sound = record {
    disks = sound.disks;
    votes = λ j t w is. elim (vote_is j t w is) [ inl old ↦ sound.votes j t w old | inr new ↦ new_vote j t w new ];
    vote_terms = λ j t w is. elim (vote_is j t w is) [
      | inl old ↦ sound.vote_terms j t w old
      | inr new ↦ subst (λ k. t ≤ (b.disk k).term) (sym new.0) (subst (λ u. u ≤ (b.disk i).term) (sym new.1) in_time)
    ];
    held_accepted = sound.held_accepted;
    accepted_proposed = sound.accepted_proposed;
    made = sound.made;
    quorums = λ t m is.
        let q = sound.quorums t m is in
        record {
          apart = q.apart;
          leader_below = q.leader_below;
          other_below = q.other_below;
          own_vote = vote_stays b i term v first_vote m.leader t _ q.own_vote;
          other_vote = vote_stays b i term v first_vote m.other t _ q.other_vote;
          own_base = q.own_base;
          other_base = q.other_base;
          begins = q.begins;
        };
    complete = sound.complete;
  }

-- a merge makes its term's proposals
module _ (b : Ballots) (sound : Sound b) (term : ℕ) (m : Ballot) (first_merge : b.ballot term ≡ None) (quorum : HasQuorum b.vote (put b.next term (first_of m)) term m) where
  abbrev proposal_now : ℕ → ℕ → Option Entry
  proposal_now = merged_proposal b.proposal term m

  abbrev ballot_now : ℕ → Option Ballot
  ballot_now = put b.ballot term (Some m)

  abbrev next_now : ℕ → ℕ
  next_now = put b.next term (first_of m)

  start_stays : (t first : ℕ) → IsStart b.ballot t first → IsStart ballot_now t first
  start_stays t first x = record { merge = x.merge; is = (ballot_stays b term m first_merge t x.merge x.is).1; first_slot = x.first_slot }

  faithful_stays : (accepted : ℕ → ℕ → Bool) (v : VoteLog) (below : ℕ) → Faithful accepted b.proposal b.ballot v below → Faithful accepted proposal_now ballot_now v below
  faithful_stays accepted v below f = record {
    keeps = f.keeps;
    keeps_starts = f.keeps_starts;
    proposes = λ s e is. let p = f.proposes s e is in (p.0, proposal_stays b sound term m first_merge s e.term e p.1);
    true_starts = λ t first is. let p = f.true_starts t first is in (p.0, start_stays t first p.1);
  }

  at_term : {X : Type 0} → (f : ℕ → X) (x : X) → put f term x term ≡ x
  at_term f x = cond-true _ _ _ (eq-eqb term term refl)

  merged_entry_made : (s : ℕ) (e : Entry) → m.base < s → s < first_of m → merged_entry term m.base m.own m.theirs s ≡ e → IsMade ballot_now next_now s term e
  unfolding merged_entry
  merged_entry_made s e above low is = record {
    merge = m;
    is = at_term b.ballot (Some m);
    in_slot = ap (λ x. x.slot) (sym is);
    in_term = ap (λ x. x.term) (sym is);
    has_first = ap (λ x. x.first) (sym is);
    is_above = above;
    is_below = lt_of_lt_of_le low (le_of_eq (sym (at_term b.next (first_of m))));
    was_merged = λ _. ap (λ x. x.op) (sym is);
  }

  merged_made : (s : ℕ) (e : Entry) → proposal_now s term ≡ Some e → IsMade ballot_now next_now s term e
  merged_made s e is =
      let c = cond_some _ (merged_entry term m.base m.own m.theirs s) e (sym (cond-true (term == term) _ (b.proposal s term) (eq-eqb term term refl)) ∙ is) in
      let p = and_parts _ _ c.0 in
      merged_entry_made s e (ltb-true m.base s p.0) (ltb-true s (first_of m) p.1) c.1

  old_made : (s t : ℕ) (e : Entry) → t ≢ term → b.proposal s t ≡ Some e → IsMade ballot_now next_now s t e
  old_made s t e apart is =
      let made = sound.made s t e is in
      record {
        merge = made.merge;
        is = (ballot_stays b term m first_merge t made.merge made.is).1;
        in_slot = made.in_slot;
        in_term = made.in_term;
        has_first = made.has_first;
        is_above = made.is_above;
        is_below = lt_of_lt_of_le made.is_below (le_of_eq (sym (cond-false _ _ _ (ne_eqb t term apart))));
        was_merged = made.was_merged;
      }

  old_quorum : (t : ℕ) (x : Ballot) → t ≢ term → HasQuorum b.vote b.next t x → HasQuorum b.vote next_now t x
  old_quorum t x apart q = record {
    apart = q.apart;
    leader_below = q.leader_below;
    other_below = q.other_below;
    own_vote = q.own_vote;
    other_vote = q.other_vote;
    own_base = q.own_base;
    other_base = q.other_base;
    begins = le_trans q.begins (le_of_eq (sym (cond-false _ _ _ (ne_eqb t term apart))));
  }

  new_complete : (t : ℕ) (x : Ballot) (s : ℕ) → t ≡ term → m ≡ x → x.base < s → s < next_now t → (e : Entry) × (proposal_now s t ≡ Some e)
  new_complete t x s same_t same above low =
      let low2 : s < first_of m = lt_of_lt_of_le (subst (λ u. s < next_now u) same_t low) (le_of_eq (at_term b.next (first_of m))) in
      let above2 : m.base < s = subst (λ y. y.base < s) (sym same) above in (
        merged_entry term m.base m.own m.theirs s,
        cond-true (t == term) _ _ (eq-eqb t term same_t) ∙ cond-true _ _ None (and_from _ _ (lt-ltb m.base s above2) (lt-ltb s (first_of m) low2)),
      )

  pub merged_sound : Sound (merged b term m)
  merged_sound = record {
    disks = λ i. faithful_stays _ _ _ (sound.disks i);
    votes = λ i t v is. faithful_stays _ _ _ (sound.votes i t v is);
    vote_terms = sound.vote_terms;
    held_accepted = sound.held_accepted;
    accepted_proposed = λ i s t is. let p = sound.accepted_proposed i s t is in (p.0, p.1, (p.2.0, proposal_stays b sound term m first_merge s t p.2.0 p.2.1));
    made = λ s t e is. elim (cases_eq t term) [
      | inl same ↦ subst (λ u. proposal_now s u ≡ Some e → IsMade ballot_now next_now s u e) (sym same) (merged_made s e) is
      | inr apart ↦ old_made s t e apart (sym (cond-false _ _ _ (ne_eqb t term apart)) ∙ is)
    ];
    quorums = λ t x is. elim (put_cases b.ballot term (Some m) t) [
      | inl here ↦ subst (λ u. HasQuorum b.vote next_now u x) (sym here.0) (subst (λ y. HasQuorum b.vote next_now term y) (same_Some m x (sym here.1 ∙ is)) quorum)
      | inr other ↦ old_quorum t x other.0 (sound.quorums t x (sym other.1 ∙ is))
    ];
    complete = λ t x s is above low. elim (put_cases b.ballot term (Some m) t) [
      | inl here ↦ new_complete t x s here.0 (same_Some m x (sym here.1 ∙ is)) above low
      | inr other ↦
          let old = sound.complete t x s (sym other.1 ∙ is) above (lt_of_lt_of_le low (le_of_eq (cond-false _ _ _ (ne_eqb t term other.0)))) in
          (old.0, proposal_stays b sound term m first_merge s t old.0 old.1)
    ];
  }

-- a leader's next proposal
module _ (b : Ballots) (sound : Sound b) (term : ℕ) (m : Ballot) (leads : b.ballot term ≡ Some m) (e : Entry) (in_slot : e.slot ≡ b.next term) (in_term : e.term ≡ term) (has_first : e.first ≡ first_of m) where
  abbrev proposals : ℕ → ℕ → Option Entry
  proposals = put b.proposal e.slot (put (b.proposal e.slot) term (Some e))

  abbrev nexts : ℕ → ℕ
  nexts = put b.next term (suc e.slot)

  nexts_rise : (t : ℕ) → b.next t ≤ nexts t
  nexts_rise t =
      elim (put_cases b.next term (suc e.slot) t) [
        | inl here ↦ omega (arith, here.1, ap b.next here.0, in_slot)
        | inr there ↦ le_of_eq (sym there.1)
      ]

  new_faithful : (accepted : ℕ → ℕ → Bool) (v : VoteLog) (below : ℕ) → Faithful accepted b.proposal b.ballot v below → Faithful accepted proposals b.ballot v below
  new_faithful accepted v below f = record {
    keeps = f.keeps;
    keeps_starts = f.keeps_starts;
    proposes = λ s x is. let p = f.proposes s x is in (p.0, proposals_stay b sound term e in_slot s x.term x p.1);
    true_starts = f.true_starts;
  }

  old_made_too : (s t : ℕ) (x : Entry) → b.proposal s t ≡ Some x → IsMade b.ballot nexts s t x
  old_made_too s t x is =
      let made = sound.made s t x is in
      record {
        merge = made.merge;
        is = made.is;
        in_slot = made.in_slot;
        in_term = made.in_term;
        has_first = made.has_first;
        is_above = made.is_above;
        is_below = lt_of_lt_of_le made.is_below (nexts_rise t);
        was_merged = made.was_merged;
      }

  new_made : (s t : ℕ) (x : Entry) → s ≡ e.slot → t ≡ term → e ≡ x → IsMade b.ballot nexts s t x
  new_made s t x same_s same_t same =
      let q = (sound.quorums term m leads).begins in
      let low = base_below_first m.base m.own m.theirs in
      record {
        merge = m;
        is = ap b.ballot same_t ∙ leads;
        in_slot = ap (λ y. y.slot) (sym same) ∙ sym same_s;
        in_term = ap (λ y. y.term) (sym same) ∙ in_term ∙ sym same_t;
        has_first = ap (λ y. y.first) (sym same) ∙ has_first;
        is_above = omega (arith, q, low, same_s, in_slot);
        is_below = subst (λ u. s < nexts u) (sym same_t) (omega (arith, cond-true (term == term) (suc e.slot) (b.next term) (eq-eqb term term refl), same_s));
        was_merged = λ lt. absurd (omega (arith, q, same_s, in_slot, lt));
      }

  is_new_or_old : (s t : ℕ) (x : Entry) → proposals s t ≡ Some x → (b.proposal s t ≡ Some x) ⊎ ((s ≡ e.slot) × (t ≡ term) × (e ≡ x))
  is_new_or_old s t x is =
      elim (put_cases_at b.proposal e.slot term (Some e) s t) [
        | inl new ↦ inr (new.0, new.1, same_Some e x (sym new.2 ∙ is))
        | inr old ↦ inl (sym old.1 ∙ is)
      ]

  more_complete : (t : ℕ) (x : Ballot) (s : ℕ) → b.ballot t ≡ Some x → x.base < s → t ≡ term → s < suc e.slot → (z : Entry) × (proposals s t ≡ Some z)
  more_complete t x s is above same_t low =
      elim (eq-or-lt_of_le low) [
        | inl last ↦ (e, ap (λ k. proposals k t) (suc_same s e.slot last) ∙ ap (proposals e.slot) same_t ∙ put_there_at b.proposal e.slot term (Some e))
        | inr below ↦
            let old = sound.complete t x s is above (omega (arith, below, in_slot, ap b.next same_t)) in
            (old.0, proposals_stay b sound term e in_slot s t old.0 old.1)
      ]

  pub proposed_sound : Sound (proposed b term e)
  proposed_sound = record {
    disks = λ i. new_faithful _ _ _ (sound.disks i);
    votes = λ i t v is. new_faithful _ _ _ (sound.votes i t v is);
    vote_terms = sound.vote_terms;
    held_accepted = sound.held_accepted;
    accepted_proposed = λ i s t is. let p = sound.accepted_proposed i s t is in (p.0, p.1, (p.2.0, proposals_stay b sound term e in_slot s t p.2.0 p.2.1));
    made = λ s t x is. elim (is_new_or_old s t x is) [ inl old ↦ old_made_too s t x old | inr new ↦ new_made s t x new.0 new.1 new.2 ];
    quorums = λ t x is.
        let q = sound.quorums t x is in
        record {
          apart = q.apart;
          leader_below = q.leader_below;
          other_below = q.other_below;
          own_vote = q.own_vote;
          other_vote = q.other_vote;
          own_base = q.own_base;
          other_base = q.other_base;
          begins = le_trans q.begins (nexts_rise t);
        };
    complete = λ t x s is above low. elim (put_cases b.next term (suc e.slot) t) [
      | inl here ↦ more_complete t x s is above here.0 (lt_of_lt_of_le low (le_of_eq here.1))
      | inr there ↦
          let old = sound.complete t x s is above (lt_of_lt_of_le low (le_of_eq there.1)) in
          (old.0, proposals_stay b sound term e in_slot s t old.0 old.1)
    ];
  }
