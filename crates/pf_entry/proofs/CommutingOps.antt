-- Ops that share no sector may be applied in any order.
use Rattle.std.proofs.Common.{◌≡◌, ℕ, zero, suc, ◌<◌, ◌≤◌, ◌≢◌, inl, inr, Bool, true, false, ◌||◌, Option, Some, None, ◌==◌, arith, refl, sym, ap, ◌∙◌}
use Rattle.std.proofs.lemmas.Bool.{cases_Bool, cases_eq, cond-true, cond-false, eq-eqb, ne_eqb, false≢true, or_left}
use Rattle.pf_base.specs.Span.{Span, is_in, overlaps}
use Rattle.pf_base.proofs.Spans.{shares}
use Rattle.pf_entry.specs.declared.ops.Op.{Op}
use Rattle.pf_entry.specs.declared.ops.Op.TheVariants.{Write, Noop, Mark}
use Rattle.pf_entry.specs.Ops.{Sector, range_of, writes, written}
use Rattle.pf_entry.specs.Applying.{after_op, fold_to}

-- a sector of both ranges
overlap_test : (a b : Span) (x : ℕ) → is_in a x ≡ true → is_in b x ≡ true → overlaps a b ≡ true
overlap_test a b x in_a in_b = (shares a b).1 (x, in_a, in_b)

writes_in : (op : Op) (x : ℕ) → writes op x ≡ true → is_in (range_of op) x ≡ true
unfolding writes range_of
writes_in (Write range payload) x is = is
writes_in Noop x is = absurd (false≢true is)
writes_in Mark x is = absurd (false≢true is)

-- ops whose ranges share no sector write no sector both
pub writes_apart : (a b : Op) (x : ℕ) → overlaps (range_of a) (range_of b) ≡ false → writes a x ≡ true → writes b x ≡ false
writes_apart a b x apart in_a =
    elim (cases_Bool (writes b x)) [
      | inl in_b ↦ absurd (false≢true (sym apart ∙ overlap_test (range_of a) (range_of b) x (writes_in a x in_a) (writes_in b x in_b)))
      | inr out ↦ out
    ]

-- the order of two ops that do not both write the sector
after_swap : (op : Op) (o : Option Op) (x : ℕ) (old : Sector) → ((other : Op) → o ≡ Some other → writes op x ≡ true → writes other x ≡ false) → after_op o x (after_op (Some op) x old) ≡ after_op (Some op) x (after_op o x old)
after_swap op None x old apart = refl
after_swap op (Some other) x old apart =
    elim (cases_Bool (writes op x)) [
      | inl does ↦
          let doesnt = apart other refl does in
          cond-false _ _ _ doesnt ∙ cond-true _ _ _ does ∙ sym (cond-true _ _ _ does ∙ ap (written op x) (cond-false _ _ _ doesnt))
      | inr not_op ↦ ap (after_op (Some other) x) (cond-false _ _ _ not_op) ∙ sym (cond-false _ _ _ not_op)
    ]

pub fold_same : (ops ops2 : ℕ → Option Op) (done done2 : ℕ → Bool) (x : ℕ) (zeros : Sector) (n : ℕ) → ((p : ℕ) → 0 < p → p ≤ n → done p ≡ done2 p) → ((p : ℕ) → 0 < p → p ≤ n → done p ≡ true → ops p ≡ ops2 p) → fold_to ops done x zeros n ≡ fold_to ops2 done2 x zeros n
fold_same ops ops2 done done2 x zeros zero same_done same_ops = refl
fold_same ops ops2 done done2 x zeros (suc n) same_done same_ops =
    let before = fold_same ops ops2 done done2 x zeros n (λ p above low. same_done p above (omega arith)) (λ p above low. same_ops p above (omega arith)) in
    let here = same_done (suc n) (omega arith) (omega arith) in
    elim (cases_Bool (done (suc n))) [
      | inl does ↦ cond-true _ _ _ does ∙ ap (λ o. after_op o x (fold_to ops done x zeros n)) (same_ops (suc n) (omega arith) (omega arith) does) ∙ ap (after_op (ops2 (suc n)) x) before ∙ sym (cond-true _ _ _ (sym here ∙ does))
      | inr doesnt ↦ cond-false _ _ _ doesnt ∙ before ∙ sym (cond-false _ _ _ (sym here ∙ doesnt))
    ]

abbrev pub with_slot : (ℕ → Bool) → ℕ → ℕ → Bool
with_slot done q p = (p == q) || done p

-- one more slot, below slots that were applied before it
module _ (ops : ℕ → Option Op) (done : ℕ → Bool) (x : ℕ) (zeros : Sector) (q : ℕ) (op : Op) (not_yet : done q ≡ false) (is : ops q ≡ Some op) (above : 0 < q) (later : (a : ℕ) (other : Op) → q < a → done a ≡ true → ops a ≡ Some other → writes op x ≡ true → writes other x ≡ false) where
  other_than : (p : ℕ) → p ≢ q → with_slot done q p ≡ done p
  other_than p apart = ap (λ c. c || done p) (ne_eqb p q apart)

  at_last : (n : ℕ) → q ≡ suc n → fold_to ops (with_slot done q) x zeros (suc n) ≡ after_op (Some op) x (fold_to ops done x zeros (suc n))
  at_last n last =
      cond-true (with_slot done q (suc n)) _ _ (or_left _ _ (eq-eqb (suc n) q (sym last)))
      ∙ ap (λ o. after_op o x (fold_to ops (with_slot done q) x zeros n)) (ap ops (sym last) ∙ is)
      ∙ ap (after_op (Some op) x) (fold_same ops ops (with_slot done q) done x zeros n (λ p low high. other_than p (λ same. omega (arith, same, last, high))) (λ p low high h. refl))
      ∙ ap (after_op (Some op) x) (sym (cond-false (done (suc n)) _ _ (ap done (sym last) ∙ not_yet)))

  pub fold_insert : (n : ℕ) → q ≤ n → fold_to ops (with_slot done q) x zeros n ≡ after_op (Some op) x (fold_to ops done x zeros n)
  fold_insert zero low = absurd (omega arith)
  fold_insert (suc n) low =
      elim (cases_eq q (suc n)) [
        | inl last ↦ at_last n last
        | inr apart ↦
            let before = fold_insert n (omega (arith, apart, low)) in
            let here = other_than (suc n) (λ same. apart (sym same)) in
            elim (cases_Bool (done (suc n))) [
              | inl does ↦
                  cond-true _ _ _ (here ∙ does) ∙ ap (after_op (ops (suc n)) x) before
                  ∙ after_swap op (ops (suc n)) x (fold_to ops done x zeros n) (λ other of_it writes_it. later (suc n) other (omega (arith, apart, low)) does of_it writes_it)
                  ∙ ap (after_op (Some op) x) (sym (cond-true _ _ _ does))
              | inr doesnt ↦ cond-false _ _ _ (here ∙ doesnt) ∙ before ∙ ap (after_op (Some op) x) (sym (cond-false _ _ _ doesnt))
            ]
      ]
