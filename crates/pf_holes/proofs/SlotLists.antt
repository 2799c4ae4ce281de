-- A set of slots and its list.
use Rattle.std.proofs.Common.{◌≡◌, ℕ, zero, suc, ◌+◌, ◌-◌, ◌^◌, min, ◌<◌, ◌≤◌, ◌≢◌, inl, inr, Bool, true, false, cond, ◌&&◌, ◌||◌, List, [], ◌∷◌, ◌++◌, length, get_or, nat_eq, nat_lt, nat_le, Result, Ok, Err, is_ok, Option, Some, None, IsSome, OnSome, OnErr, OnOk, ◌↔◌, arith, refl, sym, ap, ◌∙◌}
use Rattle.std.specs.Ordering.{nat_cmp, eq_by_cmp}
use Rattle.std.specs.List.{list_any, range_with_len, insert, remove, All}
use Rattle.std.specs.List.Sorted.{IsBinarySearchResult}
use Rattle.std.proofs.lemmas.Bool.{cases_eq, cases_lt, cases_order, false≢true, eq-eqb, ne_eqb, eqb-true}
use Rattle.std.proofs.lemmas.Bool.Decides.{nat_tests}
use Rattle.std.proofs.lemmas.List.Folds.{list_any-append, list_any_at, list_any_none}
use Rattle.std.proofs.lemmas.List.Elements.{All-from_get_or, All-cons, All-tail}
use Rattle.std.proofs.lemmas.List.Sorted.{searched, IsPermutation-insert, IsPermutation-remove, list_any-IsPermutation, All-permutation}
use Rattle.std.proofs.lemmas.List.Edits.{length-insert, get_or-insert_below, get_or-insert_at, get_or-insert_above, length-remove, get_or-remove_below, get_or-remove_above}
use Rattle.pf_entry.specs.Sets
use Rattle.pf_entry.specs.Maps.{Numbers}
use Rattle.pf_entry.proofs.Sets.{contains-insert, contains-empty, same_set}
use Rattle.pf_holes.specs.SlotSets.{slots_upto, IsPlaceIn, SlotsAreRising, AreAbove, AreSingle, IsUpto}
use Rattle.pf_holes.proofs.Found.{same_number}

abbrev pub among : List ℕ → ℕ → Bool
among slots q = list_any (λ s. nat_eq s q) slots

turned : (q k : ℕ) → eq_by_cmp nat_cmp q k ≡ nat_eq k q
turned q k = grind (arith, nat_tests)

pub contains-from_items : (ns : List ℕ) (q : ℕ) → Sets.contains (Sets.from_items ns) q ≡ among ns q
unfolding Sets.from_items
contains-from_items [] q = contains-empty q
contains-from_items (n ∷ ns) q =
    contains-insert _ n q ∙ ap (λ b. eq_by_cmp nat_cmp q n || b) (contains-from_items ns q) ∙ ap (λ b. b || among ns q) (turned q n)

in_one : (q a n : ℕ) → (nat_eq a q || (nat_le (a + 1) q && nat_lt q (a + 1 + n))) ≡ (nat_le a q && nat_lt q (a + suc n))
in_one q a n = grind (arith, nat_tests)

in_none : (q a : ℕ) → false ≡ (nat_le a q && nat_lt q (a + 0))
in_none q a = grind (arith, nat_tests)

pub among-range : (n a q : ℕ) → among (range_with_len a n) q ≡ (nat_le a q && nat_lt q (a + n))
among-range zero a q = in_none q a
among-range (suc n) a q = ap (λ b. nat_eq a q || b) (among-range n (a + 1) q) ∙ in_one q a n

prefix_test : (upto q : ℕ) → (nat_le 1 q && nat_lt q (1 + upto)) ≡ (nat_lt 0 q && nat_le q upto)
prefix_test upto q = grind (arith, nat_tests)

pub contains-slots_of : (upto : ℕ) (singles : List ℕ) (q : ℕ) → Sets.contains (slots_upto upto singles) q ≡ ((nat_lt 0 q && nat_le q upto) || among singles q)
contains-slots_of upto singles q =
    contains-from_items (range_with_len 1 upto ++ singles) q
    ∙ list_any-append (λ s. nat_eq s q) (range_with_len 1 upto) singles
    ∙ ap (λ b. b || among singles q) (among-range upto 1 q ∙ prefix_test upto q)

pub absent : (slots : List ℕ) (q : ℕ) → ((i : ℕ) → i < length slots → get_or slots i 0 ≢ q) → among slots q ≡ false
absent slots q none =
    list_any_none (λ s. nat_eq s q) slots (All-from_get_or (λ s. nat_eq s q ≡ false) slots 0 (λ i lt. ne_eqb _ q (none i lt)))

pub present : (slots : List ℕ) (i q : ℕ) → i < length slots → get_or slots i 0 ≡ q → among slots q ≡ true
present slots i q lt is = list_any_at (λ s. nat_eq s q) slots i 0 lt (eq-eqb _ q is)

-- no single slot lies at or below one that all are above
pub below_all : (slot : ℕ) (slots : List ℕ) (q : ℕ) → AreAbove slot slots → 0 < q → q ≤ slot → among slots q ≡ false
below_all slot slots q above some low =
    absent slots q (λ i lt is. let high : slot < get_or slots i 0 = above i 0 lt (omega arith) in omega arith)

rises : (slots : List ℕ) → SlotsAreRising slots → (i j : ℕ) → i ≤ j → j < length slots → get_or slots i 0 ≤ get_or slots j 0
rises slots rising i j le lt =
    elim (cases_eq i j) [
      | inl same ↦ let e : get_or slots i 0 ≡ get_or slots j 0 = ap (λ k. get_or slots k 0) same in omega arith
      | inr apart ↦ let h : get_or slots i 0 < get_or slots j 0 = rising i j (omega arith) lt in omega arith
    ]

-- what a search tells
pub found : (slots : List ℕ) (q : ℕ) (r : Result ℕ ℕ) → IsBinarySearchResult (λ y. nat_cmp y q) slots r → SlotsAreRising slots → IsPlaceIn slots q r
found slots q r is rising = searched slots q r is (rises slots rising)

pub parted : (slots : List ℕ) (i q : ℕ) → ((k : ℕ) → k < i → get_or slots k 0 < q) → ((k : ℕ) → i ≤ k → k < length slots → q < get_or slots k 0) → among slots q ≡ false
parted slots i q low high =
    absent slots q (λ k lt is. elim (cases_lt k i) [
      | inl under ↦ let h : get_or slots k 0 < q = low k under in omega arith
      | inr over ↦ let h : q < get_or slots k 0 = high k over lt in omega arith
    ])

pub told : (slots : List ℕ) (q : ℕ) (r : Result ℕ ℕ) → IsPlaceIn slots q r → is_ok r ≡ among slots q
told slots q (Ok i) h = sym (present slots i q h.0 h.1)
told slots q (Err i) h = sym (parted slots i q h.1 h.2)

pub slots_of_none : (singles : List ℕ) → singles ≡ [] → slots_upto 0 singles ≡ Sets.empty
slots_of_none singles none = same_set _ _ (λ q.
    contains-slots_of 0 singles q ∙ ap (λ xs. (nat_lt 0 q && nat_le q 0) || among xs q) none ∙ nothing q ∙ sym (contains-empty q))
  where
    nothing : (q : ℕ) → ((nat_lt 0 q && nat_le q 0) || false) ≡ false
    nothing q = grind (arith, nat_tests)

pub prefix_slots : (upto : ℕ) (singles : List ℕ) (q : ℕ) → 0 < q → q ≤ upto → Sets.contains (slots_upto upto singles) q ≡ true
prefix_slots upto singles q some low = contains-slots_of upto singles q ∙ within (among singles q)
  where
    within : (b : Bool) → ((nat_lt 0 q && nat_le q upto) || b) ≡ true
    within b = grind (arith, nat_tests)

pub upto_of : (upto : ℕ) (singles : List ℕ) → AreSingle upto singles → IsUpto (slots_upto upto singles) upto
upto_of upto singles single = record {
  reached = prefix_slots upto singles;
  ended = contains-slots_of upto singles (upto + 1) ∙ past (among singles (upto + 1)) (below_all (upto + 1) singles (upto + 1) single.apart (omega arith) (omega arith));
}
  where
    past : (b : Bool) → b ≡ false → ((nat_lt 0 (upto + 1) && nat_le (upto + 1) upto) || b) ≡ false
    past b none = grind (arith, nat_tests)

pub has_prefix : (upto : ℕ) (singles : List ℕ) (q : ℕ) → true ≡ (nat_lt 0 q && nat_le q upto) → true ≡ Sets.contains (slots_upto upto singles) q
has_prefix upto singles q in_prefix = ap (λ b. b || among singles q) in_prefix ∙ sym (contains-slots_of upto singles q)

-- past the prefix the single slots tell
pub past_prefix : (upto : ℕ) (singles : List ℕ) (q : ℕ) (b : Bool) → false ≡ (nat_lt 0 q && nat_le q upto) → b ≡ among singles q → b ≡ Sets.contains (slots_upto upto singles) q
past_prefix upto singles q b past is = is ∙ ap (λ t. t || among singles q) past ∙ sym (contains-slots_of upto singles q)

either_way : (b : Bool) → (b || true) ≡ true
either_way true = refl
either_way false = refl

-- a single slot at its place
pub has_single : (upto : ℕ) (singles : List ℕ) (q i : ℕ) → IsPlaceIn singles q (Ok i) → true ≡ Sets.contains (slots_upto upto singles) q
has_single upto singles q i at =
    sym (contains-slots_of upto singles q ∙ ap (λ t. (nat_lt 0 q && nat_le q upto) || t) (present singles i q at.0 at.1) ∙ either_way _)

-- above the prefix and the single slots there is none
pub past_last : (upto : ℕ) (singles : List ℕ) (q : ℕ) → upto < q → ((k : ℕ) → k < length singles → get_or singles k 0 < q) → Sets.contains (slots_upto upto singles) q ≡ false
past_last upto singles q above each =
    contains-slots_of upto singles q ∙ ap (λ t. t || among singles q) (outside upto q above)
    ∙ parted singles (length singles) q each (λ k a b. absurd (omega (arith, a, b)))
  where
    outside : (upto q : ℕ) → upto < q → (nat_lt 0 q && nat_le q upto) ≡ false
    outside upto q above = grind (arith, nat_tests)

-- what is in the set already
pub insert_there : (slots : Numbers) (slot : ℕ) → Sets.contains slots slot ≡ true → slots ≡ Sets.insert slots slot
insert_there slots slot has = same_set _ _ (λ q. either_way q (eq_by_cmp nat_cmp q slot) refl ∙ sym (contains-insert slots slot q))
  where
    either_way : (q : ℕ) (b : Bool) → eq_by_cmp nat_cmp q slot ≡ b → Sets.contains slots q ≡ (b || Sets.contains slots q)
    either_way q true e = ap (Sets.contains slots) (eqb-true q slot (sym (same_number q slot) ∙ e)) ∙ has
    either_way q false e = refl

or_swap : (a b c : Bool) → (a || (b || c)) ≡ (b || (a || c))
or_swap true true c = refl
or_swap true false c = refl
or_swap false b c = refl

pub slots_of-insert : (upto : ℕ) (singles : List ℕ) (i slot : ℕ) → slots_upto upto (insert singles i slot) ≡ Sets.insert (slots_upto upto singles) slot
slots_of-insert upto singles i slot = same_set _ _ (λ q.
    contains-slots_of upto (insert singles i slot) q
    ∙ ap (λ b. (nat_lt 0 q && nat_le q upto) || b) (sym (list_any-IsPermutation (λ s. nat_eq s q) _ _ (IsPermutation-insert singles i slot)))
    ∙ or_swap (nat_lt 0 q && nat_le q upto) (nat_eq slot q) (among singles q)
    ∙ ap (λ b. b || ((nat_lt 0 q && nat_le q upto) || among singles q)) (sym (turned q slot))
    ∙ ap (λ b. eq_by_cmp nat_cmp q slot || b) (sym (contains-slots_of upto singles q))
    ∙ sym (contains-insert _ slot q))

get_or_there : (xs : List ℕ) (i d e : ℕ) → i < length xs → get_or xs i d ≡ get_or xs i e
get_or_there [] i d e lt = absurd (omega arith)
get_or_there (x ∷ xs) zero d e lt = refl
get_or_there (x ∷ xs) (suc i) d e lt = get_or_there xs i d e (omega arith)

-- the slot next to the prefix joins it
pub slots_of-remove : (upto : ℕ) (singles : List ℕ) (i : ℕ) → i < length singles → get_or singles i 0 ≡ upto + 1 → slots_upto (upto + 1) (remove singles i) ≡ slots_upto upto singles
slots_of-remove upto singles i lt is = same_set _ _ (λ q.
    contains-slots_of (upto + 1) (remove singles i) q
    ∙ joins q (among (remove singles i) q)
    ∙ ap (λ b. (nat_lt 0 q && nat_le q upto) || b) (sym (list_any-IsPermutation (λ s. nat_eq s q) _ _ (IsPermutation-remove singles i (upto + 1) lt (sym (get_or_there singles i (upto + 1) 0 lt ∙ is)))))
    ∙ sym (contains-slots_of upto singles q))
  where
    joins : (q : ℕ) (b : Bool) → ((nat_lt 0 q && nat_le q (upto + 1)) || b) ≡ ((nat_lt 0 q && nat_le q upto) || (nat_eq (upto + 1) q || b))
    joins q b = grind (arith, nat_tests)

pub rising-insert : (slots : List ℕ) (i slot : ℕ) → i ≤ length slots → ((k : ℕ) → k < i → get_or slots k 0 < slot) → ((k : ℕ) → i ≤ k → k < length slots → slot < get_or slots k 0) → SlotsAreRising slots → SlotsAreRising (insert slots i slot)
rising-insert slots i slot le low high rising a b lt in_list =
    let len = length-insert slots i slot le in
    elim (cases_order b i) [
      | inl at ↦ omega (arith, low a (omega arith), before a (omega arith), here b at)
      | inr (inl under) ↦
          let h : get_or slots a 0 < get_or slots b 0 = rising a b lt (omega arith) in
          omega (arith, h, before a (omega arith), before b under)
      | inr (inr over) ↦ elim (cases_order a i) [
        | inl at ↦ omega (arith, high (b - 1) (omega arith) (omega arith), here a at, after b over)
        | inr (inl under) ↦
            let h : get_or slots a 0 < get_or slots (b - 1) 0 = rising a (b - 1) (omega arith) (omega arith) in
            omega (arith, h, before a under, after b over)
        | inr (inr past) ↦
            let h : get_or slots (a - 1) 0 < get_or slots (b - 1) 0 = rising (a - 1) (b - 1) (omega arith) (omega arith) in
            omega (arith, h, after a past, after b over)
      ]
    ]
  where
    before : (k : ℕ) → k < i → get_or (insert slots i slot) k 0 ≡ get_or slots k 0
    before k under = get_or-insert_below slots i slot 0 k under le

    here : (k : ℕ) → k ≡ i → get_or (insert slots i slot) k 0 ≡ slot
    here k at = ap (λ n. get_or (insert slots i slot) n 0) at ∙ get_or-insert_at slots i slot 0 le

    after : (k : ℕ) → i < k → get_or (insert slots i slot) k 0 ≡ get_or slots (k - 1) 0
    after k over =
        let e : k ≡ k - 1 + 1 = omega arith in
        ap (λ n. get_or (insert slots i slot) n 0) e ∙ get_or-insert_above slots i slot 0 (k - 1) (omega arith) le

-- what holds of the slot and of the others holds of all
pub all-insert : (P : ℕ → Type 0) (slots : List ℕ) (i slot : ℕ) → P slot → All P slots → All P (insert slots i slot)
all-insert P slots i slot new all = All-permutation P _ _ (IsPermutation-insert slots i slot) (All-cons P slot slots new all)

pub all-remove : (P : ℕ → Type 0) (slots : List ℕ) (i slot : ℕ) → i < length slots → get_or slots i 0 ≡ slot → All P slots → All P (remove slots i)
all-remove P slots i slot at is all =
    All-tail P slot (remove slots i)
    (All-permutation P _ _ (IsPermutation-remove slots i slot at (sym (get_or_there slots i slot 0 at ∙ is))) all)

-- where an element of the list without one stood
abbrev moved : (i k : ℕ) → ℕ
moved i k = k + cond (nat_lt k i) 0 1

get_or-remove : (slots : List ℕ) (i k : ℕ) → i < length slots → get_or (remove slots i) k 0 ≡ get_or slots (moved i k) 0
get_or-remove slots i k lt =
    elim (cases_lt k i) [
      | inl under ↦
          let e : k ≡ moved i k = grind (arith, nat_tests) in
          get_or-remove_below slots i 0 k under lt ∙ ap (λ n. get_or slots n 0) e
      | inr over ↦
          let e : k + 1 ≡ moved i k = grind (arith, nat_tests) in
          get_or-remove_above slots i 0 k over lt ∙ ap (λ n. get_or slots n 0) e
    ]

pub rising-remove : (slots : List ℕ) (i : ℕ) → i < length slots → SlotsAreRising slots → SlotsAreRising (remove slots i)
rising-remove slots i at rising a b lt in_list =
    let len = length-remove slots i at in
    let order : moved i a < moved i b = grind (arith, nat_tests) in
    let inside : moved i b < length slots = grind (arith, nat_tests) in
    let h : get_or slots (moved i a) 0 < get_or slots (moved i b) 0 = rising (moved i a) (moved i b) order inside in
    omega (arith, h, get_or-remove slots i a at, get_or-remove slots i b at)

-- without the slot next to the prefix, the others are above it
pub above-remove : (upto : ℕ) (slots : List ℕ) (i : ℕ) → i < length slots → get_or slots i 0 ≡ upto + 1 → SlotsAreRising slots → AreAbove upto slots → AreAbove (upto + 1) (remove slots i)
above-remove upto slots i at is rising above =
    All-from_get_or (λ s. 0 < s → upto + 1 < s) (remove slots i) 0 (λ k in_list some.
    let len = length-remove slots i at in
    let inside : moved i k < length slots = grind (arith, nat_tests) in
    let e : get_or (remove slots i) k 0 ≡ get_or slots (moved i k) 0 = get_or-remove slots i k at in
    let h : upto < get_or slots (moved i k) 0 = above (moved i k) 0 inside (omega arith) in
    let apart : get_or slots (moved i k) 0 ≢ get_or slots i 0 = unlike k inside in
    omega arith)
  where
    unlike : (k : ℕ) → moved i k < length slots → get_or slots (moved i k) 0 ≢ get_or slots i 0
    unlike k inside =
        elim (cases_lt k i) as (λ _. get_or slots (moved i k) 0 ≢ get_or slots i 0) [
          | inl under ↦ λ same. let f : get_or slots (moved i k) 0 < get_or slots i 0 = rising (moved i k) i (grind (arith, nat_tests)) at in omega arith
          | inr over ↦ λ same. let f : get_or slots i 0 < get_or slots (moved i k) 0 = rising i (moved i k) (grind (arith, nat_tests)) inside in omega arith
        ]

-- where the slot next to the prefix is none of them, they are apart from it
pub above_more : (upto : ℕ) (slots : List ℕ) → among slots (upto + 1) ≡ false → AreAbove upto slots → AreAbove (upto + 1) slots
above_more upto slots absent above =
    All-from_get_or (λ s. 0 < s → upto + 1 < s) slots 0 (λ i lt some.
    let h : upto < get_or slots i 0 = above i 0 lt some in
    elim (cases_eq (get_or slots i 0) (upto + 1)) [
      | inl same ↦ absurd (false≢true (sym absent ∙ present slots i (upto + 1) lt same))
      | inr apart ↦ omega arith
    ])

-- a search for the slot next to the prefix that finds none
pub none_next : (upto : ℕ) (slots : List ℕ) (next at : ℕ) → next ≡ min (upto + 1) 18446744073709551615 → IsPlaceIn slots next (Err at) → All (λ s. s < 2 ^ 64) slots → among slots (upto + 1) ≡ false
none_next upto slots next at is h fits =
    absent slots (upto + 1) (λ k lt same.
    let low : get_or slots k 0 < 2 ^ 64 = fits k 0 lt in
    elim (cases_lt k at) [
      | inl under ↦ let g : get_or slots k 0 < next = h.1 k under in omega arith
      | inr over ↦ let g : next < get_or slots k 0 = h.2 k over lt in omega arith
    ])

-- one that finds it
pub some_next : (upto : ℕ) (slots : List ℕ) (next at : ℕ) → next ≡ min (upto + 1) 18446744073709551615 → IsPlaceIn slots next (Ok at) → AreAbove upto slots → (at < length slots) × (get_or slots at 0 ≡ upto + 1)
some_next upto slots next at is h above =
    let some : 0 < get_or slots at 0 = omega (arith, h.1) in
    let low : upto < get_or slots at 0 = above at 0 h.0 some in
    (h.0, omega (arith, h.1))

pub where_some : {T : Type 0} → (o : Option T) (P Q : Type 0) → IsSome o ↔ Q → OnSome o P → Q → P
where_some None P Q is on q = absurd (false≢true (is.1 q))
where_some (Some x) P Q is on q = on

pub where_ok : {T E : Type 0} → (r : Result T E) (P Q : Type 0) → OnErr r Q → (Q → ⊥) → OnOk r P → P
where_ok (Ok x) P Q failed never on = on
where_ok (Err e) P Q failed never on = absurd (never failed)

-- a slot outside the prefix that a search does not find is not in the set
pub not_there : (upto : ℕ) (singles : List ℕ) (q at : ℕ) → false ≡ (nat_lt 0 q && nat_le q upto) → IsPlaceIn singles q (Err at) → Sets.contains (slots_upto upto singles) q ≡ false
not_there upto singles q at past is = sym (past_prefix upto singles q false past (told singles q (Err at) is))

-- one that it finds is
pub there : (upto : ℕ) (singles : List ℕ) (q at : ℕ) → false ≡ (nat_lt 0 q && nat_le q upto) → IsPlaceIn singles q (Ok at) → Sets.contains (slots_upto upto singles) q ≡ true
there upto singles q at past is = sym (past_prefix upto singles q true past (told singles q (Ok at) is))

above_slot : (upto q : ℕ) → false ≡ (nat_lt 0 q && nat_le q upto) → 0 < q → upto < q
above_slot upto q past some = grind (arith, nat_tests)

-- what stands after a slot outside the prefix is put among the single ones
pub record IsPut (upto : ℕ) (singles : List ℕ) : Type 0 where
  pub rising : SlotsAreRising singles
  pub above : AreAbove upto singles
  pub fits : All (λ s. s < 2 ^ 64) singles

pub is_put : (upto : ℕ) (singles : List ℕ) (q at : ℕ) → false ≡ (nat_lt 0 q && nat_le q upto) → q < 2 ^ 64 → IsPlaceIn singles q (Err at) → AreSingle upto singles → IsPut upto (insert singles at q)
is_put upto singles q at past fits h single =
    record {
      rising = rising-insert singles at q h.0 h.1 h.2 single.rising;
      above = all-insert (λ s. 0 < s → upto < s) singles at q (above_slot upto q past) (λ k d lt some. let low : upto + 1 < get_or singles k d = single.apart k d lt some in omega arith);
      fits = all-insert (λ s. s < 2 ^ 64) singles at q fits single.fits;
    }
