-- Slots in order.
use Rattle.std.proofs.Common.{◌≡◌, ℕ, zero, suc, ◌+◌, ◌-◌, ◌<◌, ◌≢◌, ◌⊎◌, inl, inr, Bool, true, false, cond, ◌&&◌, ◌||◌, List, [], ◌∷◌, ◌++◌, get_or, nat_eq, nat_lt, nat_le, Equal, arith, refl, sym, ap, subst, ◌∙◌}
use Rattle.std.specs.Ordering.{nat_cmp, eq_by_cmp}
use Rattle.std.specs.FinMap.{nat_cmp-IsAntisymmetric}
use Rattle.std.specs.List.{range_with_len, filter, list_any, All}
use Rattle.std.proofs.lemmas.Bool.{cases_eq, cases_Bool, and_parts, and_from, ltb-true, lt-ltb, cond-true, cond-false, ne_eqb, eq-eqb}
use Rattle.std.proofs.lemmas.Bool.Decides.{nat_tests}
use Rattle.std.proofs.lemmas.List.Folds.{list_any-append, list_any_at}
use Rattle.std.proofs.lemmas.List.Elements.{All-nil, All-cons, All-head, All-tail, All-weaker}
use Rattle.pf_entry.specs.Maps.{Numbers}
use Rattle.pf_entry.specs.Sets
use Rattle.pf_entry.proofs.Sets.{contains-retain, contains-items, same_set}
use Rattle.pf_entry.specs.Tables.{ascends, ascends_from}
use Rattle.pf_holes.specs.SlotSets.{slots_upto, SlotsAreRising, AreAbove}
use Rattle.pf_holes.proofs.Found.{same_number}
use Rattle.pf_holes.proofs.SlotLists.{among, among-range, contains-slots_of, contains-from_items}

lower : (n : ℕ) (xs : List ℕ) → ascends_from n xs ≡ true → ascends xs ≡ true
lower n [] is = refl
lower n (x ∷ xs) is = (and_parts _ _ is).1

pub all_above : (n : ℕ) (xs : List ℕ) → ascends_from n xs ≡ true → All (λ x. n < x) xs
all_above n [] is = All-nil (λ x. n < x)
all_above n (x ∷ xs) is =
    let both = and_parts _ _ is in
    let low : n < x = ltb-true n x both.0 in
    All-cons (λ x. n < x) x xs low (All-weaker (λ y. x < y) (λ y. n < y) (λ y h. omega arith) xs (all_above x xs both.1))

pub rising-ascends : (xs : List ℕ) → ascends xs ≡ true → SlotsAreRising xs
rising-ascends [] is i j lt in_list = absurd (omega arith)
rising-ascends (x ∷ xs) is zero zero lt in_list = absurd (omega arith)
rising-ascends (x ∷ xs) is (suc i) zero lt in_list = absurd (omega arith)
rising-ascends (x ∷ xs) is zero (suc j) lt in_list = all_above x xs is j 0 (omega arith)
rising-ascends (x ∷ xs) is (suc i) (suc j) lt in_list = rising-ascends xs (lower x xs is) i j (omega arith) (omega arith)

ascends_from-rising : (x : ℕ) (xs : List ℕ) → SlotsAreRising (x ∷ xs) → ascends_from x xs ≡ true
ascends_from-rising x [] rising = refl
ascends_from-rising x (y ∷ ys) rising =
    and_from _ _ (lt-ltb x y (rising 0 1 (omega arith) (omega arith))) (ascends_from-rising y ys (λ i j lt in_list. rising (suc i) (suc j) (omega arith) (omega arith)))

pub ascends-rising : (xs : List ℕ) → SlotsAreRising xs → ascends xs ≡ true
ascends-rising [] rising = refl
ascends-rising (x ∷ xs) rising = ascends_from-rising x xs rising

-- the slots of an ascending list that are above the base
ascends-above : (base n : ℕ) (xs : List ℕ) → ascends xs ≡ true → All (λ x. base < x → n < x) xs → ascends_from n (filter (nat_lt base) xs) ≡ true
ascends-above base n [] is above = refl
ascends-above base n (x ∷ xs) is above =
    elim (cases_Bool (nat_lt base x)) [
      | inl high ↦
          ap (ascends_from n) (cond-true _ _ _ high)
          ∙ and_from _ _ (lt-ltb n x (All-head (λ y. base < y → n < y) x xs above (ltb-true base x high)))
          (ascends-above base x xs (lower x xs is) (All-weaker (λ y. x < y) (λ y. base < y → x < y) (λ y h _. h) xs (all_above x xs is)))
      | inr low ↦
          ap (ascends_from n) (cond-false _ _ _ low)
          ∙ ascends-above base n xs (lower x xs is) (All-tail (λ y. base < y → n < y) x xs above)
    ]

ascends_from-range : (n a : ℕ) (xs : List ℕ) → ascends_from (a + n) xs ≡ true → ascends_from a (range_with_len (a + 1) n ++ xs) ≡ true
ascends_from-range zero a xs is = let e : a + 0 ≡ a = omega arith in subst (λ b. ascends_from b xs ≡ true) e is
ascends_from-range (suc n) a xs is =
    let e : a + suc n ≡ (a + 1) + n = omega arith in
    and_from _ _ (lt-ltb a (a + 1) (omega arith)) (ascends_from-range n (a + 1) xs (subst (λ b. ascends_from b xs ≡ true) e is))

-- the slots above the base, of a prefix and single ones
abbrev pub listed : (upto base : ℕ) → List ℕ → List ℕ
listed upto base singles = range_with_len (base + 1) (upto - base) ++ filter (nat_lt base) singles

pub ascends-listed : (upto base : ℕ) (singles : List ℕ) → SlotsAreRising singles → All (λ s. 0 < s → upto + 1 < s) singles → ascends (listed upto base singles) ≡ true
ascends-listed upto base singles rising apart =
    lower base (listed upto base singles)
    (ascends_from-range (upto - base) base (filter (nat_lt base) singles)
    (ascends-above base (base + (upto - base)) singles (ascends-rising singles rising)
    (All-weaker (λ s. 0 < s → upto + 1 < s) (λ s. base < s → base + (upto - base) < s) (λ s h high. let g : upto + 1 < s = h (omega arith) in omega arith) singles apart)))

among-filter : (p : ℕ → Bool) (xs : List ℕ) (q : ℕ) → among (filter p xs) q ≡ (among xs q && p q)
among-filter p [] q = refl
among-filter p (x ∷ xs) q = kept (p x) refl ∙ ap (λ b. (nat_eq x q && p x) || b) (among-filter p xs q) ∙ both (cases_eq x q)
  where
    joined : (a c d : Bool) → ((a && c) || (d && c)) ≡ ((a || d) && c)
    joined true true d = refl
    joined true false true = refl
    joined true false false = refl
    joined false c d = refl

    alone : (a : Bool) → a ≡ (a && true)
    alone true = refl
    alone false = refl

    none : (a : Bool) → false ≡ (a && false)
    none true = refl
    none false = refl

    kept : (b : Bool) → p x ≡ b → among (cond (p x) (x ∷ filter p xs) (filter p xs)) q ≡ ((nat_eq x q && p x) || among (filter p xs) q)
    kept true is = ap (λ ys. among ys q) (cond-true _ _ _ is) ∙ ap (λ c. c || among (filter p xs) q) (alone (nat_eq x q) ∙ ap (λ c. nat_eq x q && c) (sym is))
    kept false is = ap (λ ys. among ys q) (cond-false _ _ _ is) ∙ ap (λ c. c || among (filter p xs) q) (none (nat_eq x q) ∙ ap (λ c. nat_eq x q && c) (sym is))

    both : (x ≡ q) ⊎ (x ≢ q) → ((nat_eq x q && p x) || (among xs q && p q)) ≡ ((nat_eq x q || among xs q) && p q)
    both (inl same) = ap (λ b. (nat_eq x q && b) || (among xs q && p q)) (ap p same) ∙ joined (nat_eq x q) (p q) (among xs q)
    both (inr apart) = ap (λ b. (b && p x) || (among xs q && p q)) (ne_eqb x q apart) ∙ sym (ap (λ b. (b || among xs q) && p q) (ne_eqb x q apart))

tied : (x q : ℕ) → nat_cmp q x ≡ Equal → Equal ≡ nat_cmp x q
tied x q t = grind (arith, nat_tests)

-- the list has the slots of the set that are above the base
pub from_listed : (upto base : ℕ) (singles : List ℕ) → Sets.from_items (listed upto base singles) ≡ Sets.retain (slots_upto upto singles) (nat_lt base)
from_listed upto base singles = same_set _ _ (λ q.
    contains-from_items (listed upto base singles) q
    ∙ list_any-append (λ s. nat_eq s q) (range_with_len (base + 1) (upto - base)) (filter (nat_lt base) singles)
    ∙ ap (λ b. b || among (filter (nat_lt base) singles) q) (among-range (upto - base) (base + 1) q)
    ∙ ap (λ b. (nat_le (base + 1) q && nat_lt q (base + 1 + (upto - base))) || b) (among-filter (nat_lt base) singles q)
    ∙ above_base q (among singles q)
    ∙ ap (λ b. b && nat_lt base q) (sym (contains-slots_of upto singles q))
    ∙ sym (contains-retain (slots_upto upto singles) (nat_lt base) q (λ x t. ap (nat_lt base) (nat_cmp-IsAntisymmetric x q (sym (tied x q t))))))
  where
    above_base : (q : ℕ) (b : Bool) → ((nat_le (base + 1) q && nat_lt q (base + 1 + (upto - base))) || (b && nat_lt base q)) ≡ (((nat_lt 0 q && nat_le q upto) || b) && nat_lt base q)
    above_base q b = grind (arith, nat_tests)

range_end : (a n : ℕ) → range_with_len a n ++ (a + n) ∷ [] ≡ range_with_len a (n + 1)
range_end a zero = let e : a + 0 ≡ a = omega arith in ap (λ b. b ∷ []) e
range_end a (suc n) =
    let e : a + suc n ≡ a + 1 + n = omega arith in
    let f : suc (n + 1) ≡ suc n + 1 = omega arith in
    ap (λ xs. a ∷ xs) (ap (λ b. range_with_len (a + 1) n ++ b ∷ []) e ∙ range_end (a + 1) n) ∙ ap (range_with_len a) f

pub range_more : (base passed : ℕ) → range_with_len (base + 1) passed ++ (base + passed + 1) ∷ [] ≡ range_with_len (base + 1) (passed + 1)
range_more base passed =
    let e : base + passed + 1 ≡ base + 1 + passed = omega arith in
    ap (λ b. range_with_len (base + 1) passed ++ b ∷ []) e ∙ range_end (base + 1) passed

-- what holds of the members of a set holds of its list
pub all_members : (slots : Numbers) (base : ℕ) (ns : List ℕ) → Sets.items slots ≡ ns → ((q : ℕ) → Sets.contains slots q ≡ true → base < q) → AreAbove base ns
all_members slots base ns is high k d lt some =
    let x = get_or ns k d in
    high x (contains-items slots x ∙ ap (list_any (eq_by_cmp nat_cmp x)) is ∙ list_any_at (eq_by_cmp nat_cmp x) ns k d lt (same_number x x ∙ eq-eqb x x refl))
