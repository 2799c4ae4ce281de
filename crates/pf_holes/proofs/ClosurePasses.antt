-- One pass over a log's entries reaches all that can be applied.
use Rattle.std.proofs.Common.{◌≡◌, ◌↔◌, ℕ, zero, suc, ◌+◌, ◌<◌, ◌≤◌, inl, inr, Bool, true, false, ◌&&◌, ◌||◌, if◌then◌else◌, List, [], ◌∷◌, length, nat_lt, Some, slice_get, arith, refl, sym, ap, subst, ◌∙◌}
use Rattle.std.specs.Ordering.{nat_cmp, eq_by_cmp}
use Rattle.std.specs.Cmp.{nat_cmp_total, unsigned_tied}
use Rattle.std.specs.FinMap
use Rattle.std.specs.FinMap.{find, get-from_entries}
use Rattle.std.proofs.lemmas.Bool.{cases_Bool, cases_eq, and_parts, and_from, or_cases, or_left, or_right, ltb-true, cond-true, cond-false, eq-eqb, ne_eqb, eqb-true, false≢true}
use Rattle.std.proofs.lemmas.Option.{same_Some, none-some}
use Rattle.pf_entry.specs.Maps.{Numbers}
use Rattle.pf_entry.specs.Sets
use Rattle.pf_entry.specs.Applying.{InClosure, IsFree, is_free}
use Rattle.pf_entry.specs.EntryMaps.{slots_in, entry_rows, log_of}
use Rattle.pf_entry.specs.Tables.{ascends, ascends_from}
use Rattle.pf_entry.specs.declared.entries.Entry.{Entry}
use Rattle.pf_entry.proofs.Ascents.{rest_ascends}
use Rattle.pf_entry.proofs.Sets.{contains-insert}
use Rattle.pf_holes.proofs.FreeTests.{IsFree-more, IsFree-from_test, is_free-from_IsFree}

from_above : (n : ℕ) (rows : List Entry) (k : ℕ) (e : Entry) → ascends_from n (slots_in rows) ≡ true → slice_get rows k ≡ Some e → n < e.slot
from_above n [] k e is at = absurd (none-some e at)
from_above n (row ∷ rows) zero e is at =
    let parts = and_parts (nat_lt n row.slot) (ascends_from row.slot (slots_in rows)) is in
    subst (λ (x : Entry). n < x.slot) (same_Some row e at) (ltb-true n row.slot parts.0)
from_above n (row ∷ rows) (suc k) e is at =
    let parts = and_parts (nat_lt n row.slot) (ascends_from row.slot (slots_in rows)) is in
    let low : n < row.slot = ltb-true n row.slot parts.0 in
    let high : row.slot < e.slot = from_above row.slot rows k e parts.1 at in
    omega arith

-- later entries have greater slots
rising : (rows : List Entry) (i j : ℕ) (a b : Entry) → ascends (slots_in rows) ≡ true → i < j → slice_get rows i ≡ Some a → slice_get rows j ≡ Some b → a.slot < b.slot
rising [] i j a b is lt at_i at_j = absurd (none-some a at_i)
rising (row ∷ rows) i zero a b is lt at_i at_j = absurd (omega arith)
rising (row ∷ rows) zero (suc j) a b is lt at_i at_j = subst (λ (x : Entry). x.slot < b.slot) (same_Some row a at_i) (from_above row.slot rows j b is at_j)
rising (row ∷ rows) (suc i) (suc j) a b is lt at_i at_j = rising rows i j a b (rest_ascends row.slot (slots_in rows) is) (omega arith) at_i at_j

listed : (rows : List Entry) (q : ℕ) (e : Entry) → find nat_cmp q (entry_rows rows) ≡ Some e → (k : ℕ) × (k < length rows) × (slice_get rows k ≡ Some e)
listed [] q e is = absurd (none-some e is)
listed (row ∷ rows) q e is =
    elim (cases_Bool (eq_by_cmp nat_cmp q row.slot)) [
      | inl same ↦ (0, omega arith, sym (cond-true _ _ _ same) ∙ is)
      | inr apart ↦ let (k, low, at) = listed rows q e (sym (cond-false _ _ _ apart) ∙ is) in (suc k, omega (arith, low), at)
    ]

found : (rows : List Entry) (k : ℕ) (e : Entry) → ascends (slots_in rows) ≡ true → slice_get rows k ≡ Some e → find nat_cmp e.slot (entry_rows rows) ≡ Some e
found [] k e is at = absurd (none-some e at)
found (row ∷ rows) zero e is at = cond-true _ _ _ (unsigned_tied e.slot row.slot ∙ eq-eqb e.slot row.slot (ap (λ (x : Entry). x.slot) (sym (same_Some row e at)))) ∙ at
found (row ∷ rows) (suc k) e is at =
    let low : row.slot < e.slot = from_above row.slot rows k e is at in
    cond-false _ _ _ (unsigned_tied e.slot row.slot ∙ ne_eqb e.slot row.slot (λ same. omega (arith, low, same)))
    ∙ found rows k e (rest_ascends row.slot (slots_in rows) is) at

-- what the log has stands in the list
listed_in : (rows : List Entry) (q : ℕ) (e : Entry) → FinMap.get (log_of rows) q ≡ Some e → (k : ℕ) × (k < length rows) × (slice_get rows k ≡ Some e)
unfolding log_of
listed_in rows q e is = listed rows q e (sym (get-from_entries nat_cmp_total (entry_rows rows) q) ∙ is)

-- and what stands in the list the log has
found_in : (rows : List Entry) (k : ℕ) (e : Entry) → ascends (slots_in rows) ≡ true → slice_get rows k ≡ Some e → FinMap.get (log_of rows) e.slot ≡ Some e
unfolding log_of
found_in rows k e is at = get-from_entries nat_cmp_total (entry_rows rows) e.slot ∙ found rows k e is at

module _ (rows : List Entry) (committed start : ℕ → Bool) where
  -- what is reached over the first entries
  pub record HasReached (reached : ℕ → Bool) (count : ℕ) : Type 0 where
    pub begins : (p : ℕ) → start p ≡ true → reached p ≡ true
    pub within : (p : ℕ) → reached p ≡ true → InClosure (FinMap.get (log_of rows)) committed start p
    pub closed : (k : ℕ) (e : Entry) → k < count → slice_get rows k ≡ Some e → committed e.slot ≡ true → IsFree reached e → reached e.slot ≡ true

  reached_none : HasReached start 0
  reached_none = record {
    begins = λ p is. is;
    within = λ p is done begins closed. begins p is;
    closed = λ k e low. absurd (omega (arith, low));
  }

  module _ (reached : ℕ → Bool) (i : ℕ) (e : Entry) (at : slice_get rows i ≡ Some e) (was : HasReached reached i) where
    own : (k : ℕ) (x : Entry) → k ≡ i → slice_get rows k ≡ Some x → e ≡ x
    own k x same held = same_Some e x (sym at ∙ sym (ap (slice_get rows) same) ∙ held)

    -- an entry that may not be applied
    passed_by : committed e.slot && is_free reached e ≡ false → HasReached reached (i + 1)
    passed_by fails = record {
      begins = was.begins;
      within = was.within;
      closed = λ k x low held does free. elim (cases_eq k i) [
        | inl same ↦
            let is = own k x same held in
            absurd (false≢true (sym fails ∙ and_from _ _ (subst (λ (y : Entry). committed y.slot ≡ true) (sym is) does) (subst (λ (y : Entry). is_free reached y ≡ true) (sym is) (is_free-from_IsFree reached x free))))
        | inr apart ↦ was.closed k x (omega (arith, low, apart)) held does free
      ];
    }

    -- one that may: it changes no slot by which an earlier one is free
    applied_too : ascends (slots_in rows) ≡ true → committed e.slot && is_free reached e ≡ true → (next : ℕ → Bool) → ((p : ℕ) → next p ≡ (eq_by_cmp nat_cmp p e.slot || reached p)) → HasReached next (i + 1)
    applied_too ascending may next more = record {
      begins = λ p is. kept p (was.begins p is);
      within = λ p is. elim (or_cases (eq_by_cmp nat_cmp p e.slot) (reached p) (sym (more p) ∙ is)) [
        | inl same ↦ λ done begins closed.
            ap done (eqb-true p e.slot (sym (unsigned_tied p e.slot) ∙ same))
            ∙ closed e (found_in rows i e ascending at) parts.0 (IsFree-more reached done e (λ q has. was.within q has done begins closed) (IsFree-from_test reached e parts.1))
        | inr before ↦ was.within p before
      ];
      closed = λ k x low held does free. elim (cases_eq k i) [
        | inl same ↦ subst (λ (y : Entry). next y.slot ≡ true) (own k x same held) (more e.slot ∙ or_left (eq_by_cmp nat_cmp e.slot e.slot) (reached e.slot) (unsigned_tied e.slot e.slot ∙ eq-eqb e.slot e.slot refl))
        | inr apart ↦
            let lower : x.slot < e.slot = rising rows k i x e ascending (omega (arith, low, apart)) held at in
            kept x.slot (was.closed k x (omega (arith, low, apart)) held does (λ p high under absent. free p high under (unchanged p (omega (arith, under, lower)) ∙ absent)))
      ];
    }
      where
        parts : (committed e.slot ≡ true) × (is_free reached e ≡ true)
        parts = and_parts (committed e.slot) (is_free reached e) may

        kept : (p : ℕ) → reached p ≡ true → next p ≡ true
        kept p is = more p ∙ or_right (eq_by_cmp nat_cmp p e.slot) (reached p) is

        unchanged : (p : ℕ) → p < e.slot → next p ≡ reached p
        unchanged p low = more p ∙ ap (λ b. b || reached p) (unsigned_tied p e.slot ∙ ne_eqb p e.slot (λ same. omega (arith, low, same)))

  -- over all entries it is the closure
  pub reached_all : (reached : ℕ → Bool) (count : ℕ) → length rows ≤ count → HasReached reached count → (slot : ℕ) → (reached slot ≡ true) ↔ InClosure (FinMap.get (log_of rows)) committed start slot
  reached_all reached count whole has slot = (
    has.within slot,
    λ each. each reached has.begins (λ e held does free. let (k, low, at) = listed_in rows e.slot e held in has.closed k e (omega (arith, low, whole)) at does free),
  )

  pub begun : (slots : Numbers) → Sets.contains slots ≡ start → HasReached (Sets.contains slots) 0
  begun slots is = subst (λ (done : ℕ → Bool). HasReached done 0) (sym is) reached_none

  pub reached_next : (old now : Numbers) (i : ℕ) (e : Entry) → ascends (slots_in rows) ≡ true → slice_get rows i ≡ Some e
      → now ≡ (if committed e.slot && is_free (Sets.contains old) e then Sets.insert old e.slot else old) → HasReached (Sets.contains old) i → HasReached (Sets.contains now) (i + 1)
  reached_next old now i e ascending at is was =
      elim (cases_Bool (committed e.slot && is_free (Sets.contains old) e)) [
        | inl may ↦ applied_too (Sets.contains old) i e at was ascending may (Sets.contains now) (λ p. ap (λ (slots : Numbers). Sets.contains slots p) (is ∙ cond-true _ _ _ may) ∙ contains-insert old e.slot p)
        | inr fails ↦ subst (λ (slots : Numbers). HasReached (Sets.contains slots) (i + 1)) (sym (is ∙ cond-false _ _ _ fails)) (passed_by (Sets.contains old) i e at was fails)
      ]
