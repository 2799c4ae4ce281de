-- What is chosen stays: by the votes of one moment alone.
use Rattle.std.proofs.Common.{◌≡◌, ℕ, zero, suc, ◌<◌, ◌≤◌, ◌≢◌, ◌⊎◌, inl, inr, true, false, Option, Some, None, arith, refl, sym, ap, subst, ◌∙◌, eq-or-lt_of_le, le_trans, lt_of_le_of_lt, le_of_lt, lt_trans, le_of_eq}
use Rattle.std.specs.FinMap
use Rattle.std.proofs.lemmas.Bool.{cases_lt, or_cases, or_left, or_right, false_from_ne_true, true≢false}
use Rattle.std.proofs.lemmas.Option.{same_Some}
use Rattle.pf_entry.specs.declared.ops.Op.{Op}
use Rattle.pf_entry.specs.declared.ops.Op.TheVariants.{Noop}
use Rattle.pf_entry.specs.declared.entries.Entry.{Entry}
use Rattle.pf_entry.specs.declared.entries.VoteLog.{VoteLog}
use Rattle.pf_entry.specs.Merging.{is_passed_over, taken, merged_op, op_or_noop}
use Rattle.pf_entry.proofs.MergedEntries.{was_taken, takes_from, taken_below_first, base_below_first, IsVoid_from_test, test_from_IsVoid}
use Rattle.pf_protocol.proofs.Ballots.{Cast, Ballot, first_of, Ballots, IsStart, HasQuorum, Faithful, Sound, IsPicked}

pub share : (a b c d : ℕ) → a ≢ b → c ≢ d → a < 3 → b < 3 → c < 3 → d < 3 → ((a ≡ c) ⊎ (a ≡ d)) ⊎ ((b ≡ c) ⊎ (b ≡ d))
share a b c d = grind arith

-- one of the two votes of a merge
pub record OneVote (b : Ballots) (term : ℕ) (m : Ballot) (i : ℕ) : Type 0 where
  pub log : VoteLog
  pub cast : Cast
  pub is : b.vote i term ≡ Some cast
  pub its_log : cast.log ≡ log
  pub low : log.base ≤ m.base
  pub which : (log ≡ m.own) ⊎ (log ≡ m.theirs)

vote_of_quorum : (b : Ballots) (term : ℕ) (m : Ballot) (i : ℕ) → HasQuorum b.vote b.next term m → (i ≡ m.leader) ⊎ (i ≡ m.other) → OneVote b term m i
vote_of_quorum b term m i q which =
    elim which [
      | inl same ↦ record { log = m.own; cast = record { to = m.leader; log = m.own }; is = ap (λ k. b.vote k term) same ∙ q.own_vote; its_log = refl; low = q.own_base; which = inl refl }
      | inr same ↦ record { log = m.theirs; cast = record { to = m.leader; log = m.theirs }; is = ap (λ k. b.vote k term) same ∙ q.other_vote; its_log = refl; low = q.other_base; which = inr refl }
    ]

-- one who accepted what was chosen
record Witness (b : Ballots) (term : ℕ) (m : Ballot) (s t : ℕ) : Type 0 where
  server : ℕ
  vote : OneVote b term m server
  has_accepted : b.accepted server s t ≡ true

witness : (b : Ballots) (sound : Sound b) (s t : ℕ) (e : Entry) (chosen : IsPicked b s t e) (u : ℕ) (m : Ballot) → b.ballot u ≡ Some m → Witness b u m s t
witness b sound s t e chosen u m at =
    let q = sound.quorums u m at in
    let one = sound.accepted_proposed chosen.one s t chosen.one_accepted in
    let two = sound.accepted_proposed chosen.two s t chosen.two_accepted in
    elim (share chosen.one chosen.two m.leader m.other chosen.apart q.apart one.0 two.0 q.leader_below q.other_below) [
      | inl i ↦ record { server = chosen.one; vote = vote_of_quorum b u m chosen.one q i; has_accepted = chosen.one_accepted }
      | inr j ↦ record { server = chosen.two; vote = vote_of_quorum b u m chosen.two q j; has_accepted = chosen.two_accepted }
    ]

faithful_vote : (b : Ballots) (sound : Sound b) (u : ℕ) (m : Ballot) (i : ℕ) (v : OneVote b u m i) → Faithful (b.accepted i) b.proposal b.ballot v.log u
faithful_vote b sound u m i v = subst (λ l. Faithful (b.accepted i) b.proposal b.ballot l u) v.its_log (sound.votes i u v.cast v.is)

-- the log that a vote showed is one of the two that were merged
stood_of : (b : Ballots) (u : ℕ) (m : Ballot) (i s : ℕ) (e : Entry) (v : OneVote b u m i) → FinMap.get v.log.log s ≡ Some e → (FinMap.get m.own.log s ≡ Some e) ⊎ (FinMap.get m.theirs.log s ≡ Some e)
stood_of b u m i s e v held =
    elim v.which [
      | inl own ↦ inl (ap (λ l. FinMap.get l.log s) (sym own) ∙ held)
      | inr theirs ↦ inr (ap (λ l. FinMap.get l.log s) (sym theirs) ∙ held)
    ]

-- what is taken was a proposal of a lower term
taken_proposed : (b : Ballots) (sound : Sound b) (u : ℕ) (m : Ballot) (s : ℕ) (e : Entry) → b.ballot u ≡ Some m → taken m.base m.own m.theirs s ≡ Some e → (e.term < u) × (b.proposal s e.term ≡ Some e)
taken_proposed b sound u m s e at is =
    let q = sound.quorums u m at in
    elim (was_taken m.base m.own m.theirs s e is).stood [
      | inl own ↦ (sound.votes m.leader u _ q.own_vote).proposes s e own
      | inr theirs ↦ (sound.votes m.other u _ q.other_vote).proposes s e theirs
    ]

-- a start by which a merge passed something over
record PassedBy (b : Ballots) (u s t : ℕ) : Type 0 where
  later : ℕ
  first : ℕ
  is_later : t < later
  is_before : later < u
  starts : IsStart b.ballot later first
  reaches : first ≤ s

passed_by : (b : Ballots) (sound : Sound b) (u : ℕ) (m : Ballot) (s t : ℕ) → b.ballot u ≡ Some m → is_passed_over m.own m.theirs s t ≡ true → PassedBy b u s t
passed_by b sound u m s t at is =
    let q = sound.quorums u m at in
    elim (or_cases _ _ is) [
      | inl own ↦
          let v = IsVoid_from_test m.own.starts s t own in
          let f = (sound.votes m.leader u _ q.own_vote).true_starts v.0 v.1.0 v.1.1 in
          record { later = v.0; first = v.1.0; is_later = v.1.2; is_before = f.0; starts = f.1; reaches = v.1.3 }
      | inr theirs ↦
          let v = IsVoid_from_test m.theirs.starts s t theirs in
          let f = (sound.votes m.other u _ q.other_vote).true_starts v.0 v.1.0 v.1.1 in
          record { later = v.0; first = v.1.0; is_later = v.1.2; is_before = f.0; starts = f.1; reaches = v.1.3 }
    ]

module _ (b : Ballots) (sound : Sound b) (s t : ℕ) (e : Entry) (chosen : IsPicked b s t e) where
  -- a later merge begins above the slot, and has the op there
  record Kept (m : Ballot) : Type 0 where
    below_first : s < first_of m
    has_op : m.base < s → merged_op m.base m.own m.theirs s ≡ e.op

  abbrev KeptAt : ℕ → Type 0
  KeptAt u = (m : Ballot) → b.ballot u ≡ Some m → Kept m

  made_same : (v : ℕ) (e2 : Entry) → b.proposal s v ≡ Some e2 → KeptAt v → e2.op ≡ e.op
  made_same v e2 has kept =
      let m = sound.made s v e2 has in
      let k = kept m.merge m.is in
      m.was_merged k.below_first ∙ k.has_op m.is_above

  same_op : (v : ℕ) (e2 : Entry) → t ≤ v → (t < v → KeptAt v) → b.proposal s v ≡ Some e2 → e2.op ≡ e.op
  same_op v e2 le kept has =
      elim (eq-or-lt_of_le le) [
        | inl same ↦ ap (λ x. x.op) (same_Some e2 e (sym has ∙ ap (b.proposal s) (sym same) ∙ chosen.is))
        | inr after ↦ made_same v e2 has (kept after)
      ]

  not_passed : (u : ℕ) (m : Ballot) (v : ℕ) → ((w : ℕ) → w < u → t < w → KeptAt w) → b.ballot u ≡ Some m → t ≤ v → is_passed_over m.own m.theirs s v ≡ false
  not_passed u m v before at le = false_from_ne_true _ (λ yes_passed.
      let p = passed_by b sound u m s v at yes_passed in
      let k = before p.later p.is_before (lt_of_le_of_lt le p.is_later) p.starts.merge p.starts.is in
      omega (arith, k.below_first, p.starts.first_slot, p.reaches))

  taken_kept : (u : ℕ) (m : Ballot) → t < u → ((w : ℕ) → w < u → t < w → KeptAt w) → b.ballot u ≡ Some m → m.base < s → (s < first_of m) × (merged_op m.base m.own m.theirs s ≡ e.op)
  unfolding merged_op op_or_noop
  taken_kept u m after before at above =
      let w = witness b sound s t e chosen u m at in
      let f = faithful_vote b sound u m w.server w.vote in
      let has = f.keeps s t w.has_accepted after (lt_of_le_of_lt w.vote.low above) in
      let stood = stood_of b u m w.server s has.entry w.vote has.held in
      let takes = takes_from m.base m.own m.theirs s has.entry above stood (not_passed u m has.entry.term before at has.no_lower) in
      let one = taken_proposed b sound u m s takes.entry at takes.is_taken in (
        taken_below_first m.base m.own m.theirs s takes.entry takes.is_taken,
        ap op_or_noop takes.is_taken ∙ same_op takes.entry.term takes.entry (le_trans has.no_lower takes.no_lower) (before takes.entry.term one.0) one.1,
      )

  kept_step : (u : ℕ) → t < u → ((w : ℕ) → w < u → t < w → KeptAt w) → KeptAt u
  kept_step u after before m at =
      elim (cases_lt m.base s) [
        | inl above ↦ let k = taken_kept u m after before at above in record { below_first = k.0; has_op = λ _. k.1 }
        | inr below ↦ record { below_first = lt_of_le_of_lt below (base_below_first m.base m.own m.theirs); has_op = λ above. absurd (omega arith) }
      ]

  kept_below : (n u : ℕ) → u < n → t < u → KeptAt u
  kept_below zero u lt after = absurd (omega arith)
  kept_below (suc n) u lt after = kept_step u after (λ w less after2. kept_below n w (omega arith) after2)

  pub kept_at : (u : ℕ) (m : Ballot) → t < u → b.ballot u ≡ Some m → s < first_of m
  kept_at u m after at = (kept_below (suc u) u (omega arith) after m at).below_first

  -- every later proposal of the slot has the op
  pub chosen_stays : (u : ℕ) (e2 : Entry) → t ≤ u → b.proposal s u ≡ Some e2 → e2.op ≡ e.op
  chosen_stays u e2 le has = same_op u e2 le (λ after. kept_below (suc u) u (omega arith) after) has

-- chosen in a term not above this one
pub record IsChosenBy (b : Ballots) (slot term : ℕ) (op : Op) : Type 0 where
  pub entry : Entry
  pub by : ℕ
  pub chosen : IsPicked b slot by entry
  pub not_later : by ≤ term
  pub has_op : entry.op ≡ op

-- two chosen ops of one slot are one
pub chosen_agree : (b : Ballots) (sound : Sound b) (slot t u : ℕ) (x y : Op) → IsChosenBy b slot t x → IsChosenBy b slot u y → x ≡ y
chosen_agree b sound slot t u x y c d =
    elim (cases_lt c.by d.by) [
      | inl less ↦ sym c.has_op ∙ sym (chosen_stays b sound slot c.by c.entry c.chosen d.by d.entry (le_of_lt less) d.chosen.is) ∙ d.has_op
      | inr not_less ↦ sym c.has_op ∙ chosen_stays b sound slot d.by d.entry d.chosen c.by c.entry not_less c.chosen.is ∙ d.has_op
    ]

-- a proposal of a term that is not below has the chosen op
pub proposal_agrees : (b : Ballots) (sound : Sound b) (slot t u : ℕ) (op : Op) (e : Entry) → IsChosenBy b slot t op → t ≤ u → b.proposal slot u ≡ Some e → e.op ≡ op
proposal_agrees b sound slot t u op e c le is = chosen_stays b sound slot c.by c.entry c.chosen u e (le_trans c.not_later le) is ∙ c.has_op

module _ (b : Ballots) (sound : Sound b) (s t : ℕ) (e : Entry) (chosen : IsPicked b s t e) (m : Ballot) (at_t : b.ballot t ≡ Some m) (new : first_of m ≤ s) where
  -- where a new entry was chosen, no later leader takes anything of an earlier term from its first new slot on
  pub nothing_older : (u : ℕ) (n : Ballot) → t < u → b.ballot u ≡ Some n → (p : ℕ) (x : Entry) → first_of m ≤ p → taken n.base n.own n.theirs p ≡ Some x → t ≤ x.term
  nothing_older u n after at p x reaches is =
      let w = witness b sound s t e chosen u n at in
      let f = faithful_vote b sound u n w.server w.vote in
      let start = f.keeps_starts s t w.has_accepted after in
      let its = (f.true_starts t start.0 start.1).1 in
      let first : start.0 ≡ first_of m = sym its.first_slot ∙ ap first_of (same_Some its.merge m (sym its.is ∙ at_t)) in
      elim (cases_lt x.term t) [
        | inl older ↦ absurd (true≢false (sym (void_by n w.server w.vote start.0 start.1 p x.term older (le_trans (le_of_eq first) reaches)) ∙ (was_taken n.base n.own n.theirs p x is).stays))
        | inr not_older ↦ not_older
      ]
    where
      void_by : (n : Ballot) (i : ℕ) (v : OneVote b u n i) (f : ℕ) → FinMap.get v.log.starts t ≡ Some f → (p k : ℕ) → k < t → f ≤ p → is_passed_over n.own n.theirs p k ≡ true
      void_by n i v f has p k older reaches =
          elim v.which [
            | inl own ↦ or_left _ _ (test_from_IsVoid n.own.starts p k (t, (f, ap (λ l. FinMap.get l.starts t) (sym own) ∙ has, older, reaches)))
            | inr theirs ↦ or_right _ _ (test_from_IsVoid n.theirs.starts p k (t, (f, ap (λ l. FinMap.get l.starts t) (sym theirs) ∙ has, older, reaches)))
          ]

  -- so below the entry only the leader's own op or a no-op is ever proposed later
  abbrev OwnOrNoop : Entry → Entry → Type 0
  OwnOrNoop y x = (x.op ≡ y.op) ⊎ (x.op ≡ Noop)

  module _ (p : ℕ) (y : Entry) (in_p : b.proposal p t ≡ Some y) (reaches : first_of m ≤ p) (below : p < s) where
    later_op : (n v : ℕ) (x : Entry) → v < n → t ≤ v → b.proposal p v ≡ Some x → OwnOrNoop y x
    unfolding merged_op op_or_noop
    later_op zero v x lt le is = absurd (omega arith)
    later_op (suc n) v x lt le is =
        elim (eq-or-lt_of_le le) [
          | inl same ↦ inl (ap (λ z. z.op) (same_Some x y (sym is ∙ ap (b.proposal p) (sym same) ∙ in_p)))
          | inr after ↦
              let made = sound.made p v x is in
              let low = kept_at b sound s t e chosen v made.merge after made.is in
              taken_op made.merge (made.was_merged (lt_trans below low)) (taken made.merge.base made.merge.own made.merge.theirs p) refl
              (λ z took. let older = taken_proposed b sound v made.merge p z made.is took in
              later_op n z.term z (omega (arith, older.0)) (nothing_older v made.merge after made.is p z reaches took) older.1)
        ]
      where
        taken_op : (n : Ballot) → x.op ≡ merged_op n.base n.own n.theirs p → (o : Option Entry) → taken n.base n.own n.theirs p ≡ o → ((z : Entry) → taken n.base n.own n.theirs p ≡ Some z → OwnOrNoop y z) → OwnOrNoop y x
        taken_op n op None is rest = inr (op ∙ ap op_or_noop is)
        taken_op n op (Some z) is rest = elim (rest z is) [ inl same ↦ inl (op ∙ ap op_or_noop is ∙ same) | inr noop ↦ inr (op ∙ ap op_or_noop is ∙ noop) ]

    -- whatever is chosen there is the leader's own op or a no-op
    pub chosen_below : (v : ℕ) (x : Entry) → IsPicked b p v x → OwnOrNoop y x
    chosen_below v x c =
        elim (cases_lt v t) [
          | inl earlier ↦ absurd (omega (arith, kept_at b sound p v x c t m earlier at_t, reaches))
          | inr later ↦ later_op (suc v) v x (omega arith) later c.is
        ]
