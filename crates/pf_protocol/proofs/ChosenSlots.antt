-- Which slots ever have a chosen op can be told.
use Rattle.std.proofs.Common.{◌≡◌, ℕ, suc, ◌<◌, ◌≢◌, ◌⊎◌, inl, inr, true, arith, sym, ◌∙◌}
use Rattle.std.proofs.lemmas.Bool.{cases_Bool, cases_eq, false≢true}
use Rattle.pf_entry.proofs.BoundedSearches.{decide_below, total, below_total}
use Rattle.pf_entry.specs.declared.ops.Op.{Op}
use Rattle.pf_protocol.specs.Servers.{Setup}
use Rattle.pf_protocol.specs.Histories.{History, IsChosen}
use Rattle.pf_protocol.proofs.Histories.{told, chosen_at_end, chosen_in_history}

module _ (setup : Setup) (history : History) where
  -- an op is chosen in the slot at some moment
  abbrev pub HasOp : ℕ → Type 0
  HasOp slot = (term : ℕ) × ((op : Op) × IsChosen setup history slot term op)

  -- two servers accepted the proposal
  record Pair (slot term i j : ℕ) : Type 0 where
    apart : i ≢ j
    one : (told setup history).ballots.accepted i slot term ≡ true
    two : (told setup history).ballots.accepted j slot term ≡ true

  decide_pair : (slot term i j : ℕ) → Pair slot term i j ⊎ (Pair slot term i j → ⊥)
  decide_pair slot term i j =
      elim (cases_eq i j) [
        | inl same ↦ inr (λ p. p.apart same)
        | inr apart ↦ elim (cases_Bool ((told setup history).ballots.accepted i slot term)) [
          | inr not_one ↦ inr (λ p. false≢true (sym not_one ∙ p.one))
          | inl one ↦ elim (cases_Bool ((told setup history).ballots.accepted j slot term)) [
            | inr not_two ↦ inr (λ p. false≢true (sym not_two ∙ p.two))
            | inl two ↦ inl (record { apart = apart; one = one; two = two })
          ]
        ]
      ]

  abbrev WithSome : (slot term i : ℕ) → Type 0
  WithSome slot term i = (j : ℕ) × (j < 3) × Pair slot term i j

  decide_with : (slot term i : ℕ) → WithSome slot term i ⊎ (WithSome slot term i → ⊥)
  decide_with slot term i = elim (decide_below (Pair slot term i) (decide_pair slot term i) 3) [ inl found ↦ inl found | inr none ↦ inr (λ p. none p.0 p.1 p.2) ]

  abbrev InTerm : (slot term : ℕ) → Type 0
  InTerm slot term = (i : ℕ) × (i < 3) × WithSome slot term i

  decide_term : (slot term : ℕ) → InTerm slot term ⊎ (InTerm slot term → ⊥)
  decide_term slot term = elim (decide_below (WithSome slot term) (decide_with slot term) 3) [ inl found ↦ inl found | inr none ↦ inr (λ p. none p.0 p.1 p.2) ]

  -- no term is above this one
  terms : ℕ
  terms = suc (total (λ i. ((told setup history).ballots.disk i).term) 3)

  slots : ℕ
  slots = total (told setup history).ballots.next (suc (total (λ i. ((told setup history).ballots.disk i).term) 3))

  chosen_pair : (slot term : ℕ) (op : Op) → IsChosen setup history slot term op → (term < suc (total (λ i. ((told setup history).ballots.disk i).term) 3)) × InTerm slot term × (slot < (told setup history).ballots.next term)
  chosen_pair slot term op c =
      let t = told setup history in
      let p = chosen_at_end setup history slot term op c in
      let one = t.sound.accepted_proposed p.one slot term p.one_accepted in
      let two = t.sound.accepted_proposed p.two slot term p.two_accepted in
      let low = below_total (λ i. (t.ballots.disk i).term) 3 p.one one.0 in
      (omega (arith, one.1, low), (p.one, one.0, (p.two, two.0, record { apart = p.apart; one = p.one_accepted; two = p.two_accepted })), (t.sound.made slot term c.entry p.is).is_below)

  picked : (slot term : ℕ) → InTerm slot term → HasOp slot
  picked slot term p =
      let t = told setup history in
      let both = p.2.2 in
      let e = (t.sound.accepted_proposed p.0 slot term both.one).2 in
      (term, (e.0.op, chosen_in_history setup history slot term e.0 (record { is = e.1; one = p.0; two = p.2.0; apart = both.apart; one_accepted = both.one; two_accepted = both.two })))

  pub decide_slot : (slot : ℕ) → HasOp slot ⊎ (HasOp slot → ⊥)
  decide_slot slot =
      elim (decide_below (InTerm slot) (decide_term slot) (suc (total (λ i. ((told setup history).ballots.disk i).term) 3))) [
        | inl found ↦ inl (picked slot found.0 found.2)
        | inr none ↦ inr (λ c. let p = chosen_pair slot c.0 c.1.0 c.1.1 in none c.0 p.0 p.1)
      ]

  -- no slot with a chosen op is above this one
  pub last_slot : (n : ℕ) × ((slot term : ℕ) (op : Op) → IsChosen setup history slot term op → slot < n)
  last_slot = (
    total (told setup history).ballots.next (suc (total (λ i. ((told setup history).ballots.disk i).term) 3)),
    λ slot term op c. let p = chosen_pair slot term op c in omega (arith, p.2, below_total (told setup history).ballots.next (suc (total (λ i. ((told setup history).ballots.disk i).term) 3)) term p.0),
  )
