-- The last entry that is left, along a log.
use Rattle.std.proofs.Common.{◌≡◌, ℕ, zero, suc, [], ◌∷◌, nat_le, ◌+◌, ◌<◌, ◌≤◌, ◌⊎◌, inl, inr, Bool, true, false, List, length, get_or, Some, max, arith, refl, sym, ap, ◌∙◌, subst}
use Rattle.std.specs.List.{Contains}
use Rattle.std.specs.FinMap
use Rattle.std.specs.FinMap.{get-entries, find}
use Rattle.std.specs.Ordering.{nat_cmp}
use Rattle.std.proofs.lemmas.Bool.{cases_eq, cases_Bool, leb-true, leb-false}
use Rattle.pf_entry.specs.Maps.{Map}
use Rattle.pf_entry.specs.Tables.{ascends}
use Rattle.pf_entry.specs.EntryMaps.{slots_in, entry_rows}
use Rattle.pf_entry.specs.declared.entries.Entry.{Entry}
use Rattle.pf_entry.specs.declared.entries.VoteLog.{VoteLog}
use Rattle.pf_merge.specs.Staying.{entry_stays}
use Rattle.pf_merge.specs.Lasts.{IsLastSlot}
use Rattle.pf_merge.proofs.AscendingLists.{found_all, every_at, listed}

-- over the first i entries
pub record IsLastOf (test : Entry → Bool) (base : ℕ) (rows : List Entry) (i last : ℕ) : Type 0 where
  pub above : base ≤ last
  pub upto : (k : ℕ) (e : Entry) → k < i → get_or rows k e ≡ e → test e ≡ true → e.slot ≤ last
  pub met : (last ≡ base) ⊎ ((e : Entry) × Contains rows e × (e.slot ≡ last) × (test e ≡ true))

pub none_yet : (test : Entry → Bool) (base : ℕ) (rows : List Entry) → IsLastOf test base rows 0 base
none_yet test base rows = record { above = omega arith; upto = λ k e lt at stay. absurd (omega arith); met = inl refl }

-- a read at any default is the element
same_at : (rows : List Entry) (k : ℕ) (d e x : Entry) → k < length rows → get_or rows k d ≡ x → get_or rows k e ≡ e → e ≡ x
same_at [] k d e x lt a b = absurd (omega arith)
same_at (y ∷ ys) zero d e x lt a b = sym b ∙ a
same_at (y ∷ ys) (suc k) d e x lt a b = same_at ys k d e x (omega arith) a b

no_test : (a : Bool) → a ≡ true → a ≡ false → ⊥
no_test a t f = cc

pub one_passed : (test : Entry → Bool) (base : ℕ) (rows : List Entry) (i last : ℕ) (x : Entry) → IsLastOf test base rows i last → i < length rows → x ≡ get_or rows i x → test x ≡ false → IsLastOf test base rows (i + 1) last
one_passed test base rows i last x l lt is goes = record {
  above = l.above;
  upto = λ k e low at stay.
      elim (cases_eq k i) [
        | inl same ↦ absurd (no_test (test x) (ap test (sym (same_at rows i x e x lt (sym is) (subst (λ j. get_or rows j e ≡ e) same at))) ∙ stay) goes)
        | inr apart ↦ l.upto k e (omega arith) at stay
      ];
  met = l.met;
}

pub max_cases : (a b : ℕ) → (max a b ≡ a) ⊎ (max a b ≡ b)
max_cases a b = elim (cases_Bool (nat_le b a)) [ inl le ↦ inl (let h : b ≤ a = leb-true b a le in omega arith) | inr gt ↦ inr (let h : a < b = leb-false b a gt in omega arith) ]

pub one_taken : (test : Entry → Bool) (base : ℕ) (rows : List Entry) (i last : ℕ) (x : Entry) → IsLastOf test base rows i last → i < length rows → x ≡ get_or rows i x → test x ≡ true → IsLastOf test base rows (i + 1) (max last x.slot)
one_taken test base rows i last x l lt is stay = record {
  above = let h : base ≤ last = l.above in omega arith;
  upto = λ k e low at stays.
      elim (cases_eq k i) [
        | inl same ↦ let s : e.slot ≡ x.slot = ap (λ y. y.slot) (same_at rows i x e x lt (sym is) (subst (λ j. get_or rows j e ≡ e) same at)) in omega arith
        | inr apart ↦ let h : e.slot ≤ last = l.upto k e (omega arith) at stays in omega arith
      ];
  met =
      elim (max_cases last x.slot) [
        | inl old ↦ subst (λ m. (m ≡ base) ⊎ ((e : Entry) × Contains rows e × (e.slot ≡ m) × (test e ≡ true))) (sym old) l.met
        | inr new ↦ inr (x, (i, lt, sym is), sym new, stay)
      ];
}

found : (log : Map Entry) (rows : List Entry) (q : ℕ) → FinMap.entries log ≡ entry_rows rows → FinMap.get log q ≡ find nat_cmp q (entry_rows rows)
found log rows q are = get-entries log q ∙ ap (find nat_cmp q) are

stands : (log : Map Entry) (rows : List Entry) (e : Entry) → ascends (slots_in rows) ≡ true → FinMap.entries log ≡ entry_rows rows → Contains rows e → FinMap.get log e.slot ≡ Some e
stands log rows e ascending are (k, lt, at) =
    let (x, same, there) = every_at (λ e. e.slot) (λ e. e) (λ x. find nat_cmp x.slot (entry_rows rows) ≡ Some x) rows k e (found_all (λ e. e.slot) (λ e. e) rows ascending) lt at in
    found log rows e.slot are ∙ subst (λ y. find nat_cmp y.slot (entry_rows rows) ≡ Some y) same there

seen : (test : Entry → Bool) (base : ℕ) (log : Map Entry) (rows : List Entry) (last slot : ℕ) (e : Entry) → FinMap.entries log ≡ entry_rows rows → IsLastOf test base rows (length rows) last → FinMap.get log slot ≡ Some e → (e.slot ≡ slot) × (test e ≡ true → slot ≤ last)
seen test base log rows last slot e are l there =
    let (row, (k, lt, at), keyed, has) = listed (λ e. e.slot) (λ e. e) rows slot e (sym (found log rows slot are) ∙ there) in
    (ap (λ y. y.slot) (sym has) ∙ keyed, λ stay. subst (λ n. n ≤ last) keyed (l.upto k row lt at (ap test has ∙ stay)))

pub all_seen : (base : ℕ) (own other : VoteLog) (log : Map Entry) (rows : List Entry) (last : ℕ) → ascends (slots_in rows) ≡ true → FinMap.entries log ≡ entry_rows rows → IsLastOf (entry_stays base own other) base rows (length rows) last → IsLastSlot base own other log last
all_seen base own other log rows last ascending are l = record {
  above = l.above;
  upto = λ slot e there. seen (entry_stays base own other) base log rows last slot e are l there;
  met =
      elim l.met [
        | inl none ↦ inl none
        | inr some ↦ let (e, in_rows, at_last, stay) = some in inr (e, subst (λ n. FinMap.get log n ≡ Some e) at_last (stands log rows e ascending are in_rows), at_last, stay)
      ];
}
