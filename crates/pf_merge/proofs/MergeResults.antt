-- What a merge makes of what it finds.
use Rattle.std.proofs.Common.{◌≡◌, ℕ, ◌+◌, ◌-◌, ◌<◌, ◌≤◌, ◌^◌, ◌⊎◌, inl, inr, Bool, true, false, List, [], ◌∷◌, ◌++◌, map, Option, Some, None, is_some, max, arith, refl, sym, ap, ◌∙◌, subst}
use Rattle.std.specs.List.{filter, range_with_len}
use Rattle.std.specs.FinMap
use Rattle.std.proofs.lemmas.Bool.{cases_Bool, and_parts, and_from, cond-true, cond-false, lt-ltb, ltb-true, not-true, not_from_false}
use Rattle.pf_entry.specs.Maps.{Map}
use Rattle.pf_entry.specs.Merging.{taken, higher, left_of, greatest, merged_first, merged_op, op_or_noop, is_passed_over}
use Rattle.pf_entry.proofs.MergedEntries.{takes_from, was_taken, taken_below_first, base_below_first}
use Rattle.pf_entry.specs.declared.ops.Op.{Op}
use Rattle.pf_entry.specs.declared.ops.Op.TheVariants.{Noop}
use Rattle.pf_entry.specs.declared.entries.Entry.{Entry}
use Rattle.pf_entry.specs.declared.entries.VoteLog.{VoteLog}
use Rattle.std.proofs.lemmas.List.FromFn.{map-range_with_len_more}
use Rattle.std.specs.FinMap.{get-from_entries}
use Rattle.std.specs.Cmp.{nat_cmp_total}
use Rattle.pf_entry.specs.Lists.{Every}
use Rattle.pf_entry.specs.EntryMaps.{log_of, entry_rows}
use Rattle.pf_merge.proofs.AscendingLists.{listed, every_at}
use Rattle.pf_merge.proofs.LastEntries.{max_cases}
use Rattle.pf_merge.specs.Staying.{entry_stays, AreNumbered}
use Rattle.pf_merge.specs.Lasts.{IsLastSlot}
use Rattle.pf_merge.specs.Cursors.{IsFrom}

pub op_of_some : (o : Option Entry) (e : Entry) → o ≡ Some e → e.op ≡ op_or_noop o
unfolding op_or_noop
op_of_some o e is = ap op_or_noop (sym is)

pub op_of_none : (o : Option Entry) → o ≡ None → Noop ≡ op_or_noop o
unfolding op_or_noop
op_of_none o is = ap op_or_noop (sym is)

pub op_is : (base : ℕ) (own other : VoteLog) (slot : ℕ) (a b : Option Entry) → a ≡ FinMap.get own.log slot → b ≡ FinMap.get other.log slot → op_or_noop (higher (left_of base own other slot a) (left_of base own other slot b)) ≡ merged_op base own other slot
unfolding merged_op taken
op_is base own other slot a b is_a is_b =
    ap (λ o. op_or_noop (higher (left_of base own other slot o) (left_of base own other slot b))) is_a
    ∙ ap (λ o. op_or_noop (higher (left_of base own other slot (FinMap.get own.log slot)) (left_of base own other slot o))) is_b

passes_more : (test : ℕ → Bool) (least n g : ℕ) → test n ≡ true → (g ≡ least) ⊎ (test g ≡ true) → (max n g ≡ least) ⊎ (test (max n g) ≡ true)
passes_more test least n g here there =
    elim (max_cases n g) [
      | inl first ↦ inr (ap test first ∙ here)
      | inr rest ↦ subst (λ m. (m ≡ least) ⊎ (test m ≡ true)) (sym rest) there
    ]

greatest_passes : (test : ℕ → Bool) (least : ℕ) (ns : List ℕ) → (greatest least (filter test ns) ≡ least) ⊎ (test (greatest least (filter test ns)) ≡ true)
greatest_passes test least [] = inl refl
greatest_passes test least (n ∷ ns) =
    elim (cases_Bool (test n)) [
      | inl passes ↦
          subst (λ ms. (greatest least ms ≡ least) ⊎ (test (greatest least ms) ≡ true)) (sym (cond-true (test n) (n ∷ filter test ns) (filter test ns) passes))
          (passes_more test least n (greatest least (filter test ns)) passes (greatest_passes test least ns))
      | inr fails ↦
          subst (λ ms. (greatest least ms ≡ least) ⊎ (test (greatest least ms) ≡ true)) (sym (cond-false (test n) (n ∷ filter test ns) (filter test ns) fails))
          (greatest_passes test least ns)
    ]

-- a last slot is below the first new one
last_below : (base : ℕ) (own other : VoteLog) (log : Map Entry) (last : ℕ) → IsLastSlot base own other log last → ((slot : ℕ) (e : Entry) → FinMap.get log slot ≡ Some e → (FinMap.get own.log slot ≡ Some e) ⊎ (FinMap.get other.log slot ≡ Some e)) → last < merged_first base own other
last_below base own other log last l of =
    elim l.met [
      | inl none ↦ let h = base_below_first base own other in omega arith
      | inr some ↦
          let (e, there, at, stay) = some in
          let p = and_parts _ _ stay in
          let low : base < e.slot = ltb-true base e.slot p.0 in
          let t = takes_from base own other last e (omega arith) (of last e there) (ap (λ s. is_passed_over own other s e.term) (sym at) ∙ not-true _ p.1) in
          taken_below_first base own other last t.entry t.is_taken
    ]

some_of : (o : Option Entry) → is_some o ≡ true → (e : Entry) × (o ≡ Some e)
some_of None is = absurd (grind arith)
some_of (Some e) is = (e, refl)

stays_at : (base : ℕ) (own other : VoteLog) (slot : ℕ) (e : Entry) → e.slot ≡ slot → base < slot → is_passed_over own other slot e.term ≡ false → entry_stays base own other e ≡ true
stays_at base own other slot e at low stay = and_from _ _ (lt-ltb base e.slot (omega arith)) (not_from_false _ (ap (λ s. is_passed_over own other s e.term) at ∙ stay))

taken_upto : (base : ℕ) (own other : VoteLog) (a b slot : ℕ) (e : Entry) → IsLastSlot base own other own.log a → IsLastSlot base own other other.log b → taken base own other slot ≡ Some e → slot ≤ max a b
taken_upto base own other a b slot e la lb is =
    let w = was_taken base own other slot e is in
    elim w.stood [
      | inl mine ↦ let (at, upto) = la.upto slot e mine in let h : slot ≤ a = upto (stays_at base own other slot e at w.is_above w.stays) in omega arith
      | inr theirs ↦ let (at, upto) = lb.upto slot e theirs in let h : slot ≤ b = upto (stays_at base own other slot e at w.is_above w.stays) in omega arith
    ]

greatest_upto : (base : ℕ) (own other : VoteLog) (a b : ℕ) (ns : List ℕ) → IsLastSlot base own other own.log a → IsLastSlot base own other other.log b → greatest base (filter (λ slot. is_some (taken base own other slot)) ns) ≤ max a b
greatest_upto base own other a b ns la lb =
    elim (greatest_passes (λ slot. is_some (taken base own other slot)) base ns) [
      | inl none ↦ let h : base ≤ a = la.above in omega arith
      | inr some ↦ let (e, is) = some_of _ some in taken_upto base own other a b _ e la lb is
    ]

first_upto : (base : ℕ) (own other : VoteLog) (a b : ℕ) → IsLastSlot base own other own.log a → IsLastSlot base own other other.log b → merged_first base own other ≤ max a b + 1
unfolding merged_first
first_upto base own other a b la lb = let h = greatest_upto base own other a b (FinMap.keys own.log ++ FinMap.keys other.log) la lb in omega arith

pub first_is : (base : ℕ) (own other : VoteLog) (a b : ℕ) → IsLastSlot base own other own.log a → IsLastSlot base own other other.log b → max a b + 1 ≡ merged_first base own other
first_is base own other a b la lb =
    let upto = first_upto base own other a b la lb in
    let mine = last_below base own other own.log a la (λ slot e there. inl there) in
    let theirs = last_below base own other other.log b lb (λ slot e there. inr there) in
    omega arith

-- the slot after the last one has a number
pub last_is_numbered : (base : ℕ) (own other : VoteLog) (log : Map Entry) (last : ℕ) → IsLastSlot base own other log last → base < 2 ^ 64 - 1 → AreNumbered log → last < 2 ^ 64 - 1
last_is_numbered base own other log last l low numbered =
    elim l.met [
      | inl none ↦ subst (λ n. n < 2 ^ 64 - 1) (sym none) low
      | inr some ↦ let (e, there, at, stay) = some in numbered last (ap is_some there)
    ]

-- how far the walk has come
pub record IsMade (base : ℕ) (own other : VoteLog) (slot : ℕ) (mine theirs : List Entry) (made : List Op) : Type 0 where
  pub own_rest : IsFrom own.log (slot + 1) mine
  pub other_rest : IsFrom other.log (slot + 1) theirs
  pub ops : made ≡ map (merged_op base own other) (range_with_len (base + 1) (slot - base))

pub none_made : (base : ℕ) (own other : VoteLog) (mine theirs : List Entry) (ops : List Op) → IsFrom own.log (base + 1) mine → IsFrom other.log (base + 1) theirs → ops ≡ [] → IsMade base own other base mine theirs ops
none_made base own other mine theirs ops m t none = record {
  own_rest = m;
  other_rest = t;
  ops = none ∙ ap (λ n. map (merged_op base own other) (range_with_len (base + 1) n)) (let z : 0 ≡ base - base = omega arith in z);
}

pub one_made : (base : ℕ) (own other : VoteLog) (slot : ℕ) (mine theirs more less : List Entry) (ops made : List Op) (op : Op) → IsMade base own other slot mine theirs ops → base ≤ slot → IsFrom own.log (slot + 1 + 1) more → IsFrom other.log (slot + 1 + 1) less → op ≡ merged_op base own other (slot + 1) → made ≡ ops ++ op ∷ [] → IsMade base own other (slot + 1) more less made
one_made base own other slot mine theirs more less ops made op m le is_mine is_theirs is pushed = record {
  own_rest = is_mine;
  other_rest = is_theirs;
  ops =
      pushed
      ∙ ap (λ xs. xs ++ op ∷ []) m.ops
      ∙ ap (λ x. map (merged_op base own other) (range_with_len (base + 1) (slot - base)) ++ x ∷ []) is
      ∙ sym (map-range_with_len_more (merged_op base own other) (base + 1) (slot - base) (slot + 1) (omega arith))
      ∙ ap (λ n. map (merged_op base own other) (range_with_len (base + 1) n)) (let z : slot - base + 1 ≡ slot + 1 - base = omega arith in z);
}
