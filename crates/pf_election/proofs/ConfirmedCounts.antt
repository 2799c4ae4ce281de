-- How many reads are confirmed.
use Rattle.std.proofs.Common.{◌≡◌, ℕ, zero, suc, ◌+◌, ◌-◌, inl, inr, IsTrue, subst, ◌<◌, ◌≤◌, Bool, true, false, cond, List, [], ◌∷◌, ◌++◌, length, get_or, slice_set, arith, refl, sym, ap, ◌∙◌}
use Rattle.std.specs.List.{remove}
use Rattle.std.proofs.lemmas.Bool.{cases_lt, cond-true, cond-false}
use Rattle.std.proofs.lemmas.List.Sums.{count_by-le-length, sum_by-append, sum_by-cons, sum_by-remove, sum_by-set}
use Rattle.std.proofs.Math.Seq.{get_or-append_seam}
use Rattle.std.proofs.lemmas.List.{get_or-map, get_or_append_left, length-append, length-map, length-set}
use Rattle.pf_holes.specs.SlotSets.{SlotsAreRising}
use Rattle.pf_holes.proofs.SlotLists.{rising-remove}
use Rattle.pf_election.specs.declared.probes.ProbedRead.{ProbedRead}
use Rattle.pf_election.specs.Reads.{AreKept, IsReadAt, confirmed_in, read_numbers}
use Rattle.pf_election.proofs.Least.{element, same_at}

abbrev pub one_of : ProbedRead → ℕ
one_of r = cond r.confirmed 1 0

one_where : (r : ProbedRead) → r.confirmed ≡ true → one_of r ≡ 1
one_where r is = cond-true _ _ _ is

none_where : (r : ProbedRead) → r.confirmed ≡ false → one_of r ≡ 0
none_where r is = cond-false _ _ _ is

abbrev bit : Bool → ℕ
bit b = cond b 1 0

one_most : (b : Bool) → bit b ≤ 1
one_most true = omega arith
one_most false = omega arith

pub one_at_most : (r : ProbedRead) → one_of r ≤ 1
one_at_most r = one_most r.confirmed

not_one : (b : Bool) → bit b ≡ 0 → b ≡ false
not_one true is = absurd (omega (arith, is))
not_one false is = refl

-- one that waits for its probe is not counted
pub counted_more : (reads : List ProbedRead) (r : ProbedRead) → r.confirmed ≡ false → confirmed_in (reads ++ r ∷ []) ≡ confirmed_in reads
counted_more reads r is =
    let here = sum_by-append one_of reads (r ∷ []) in
    let one = sum_by-cons one_of r [] in
    omega (arith, here, one, none_where r is)

-- one more is confirmed
pub counted_set : (reads : List ProbedRead) (k : ℕ) (d r : ProbedRead) → k < length reads → (get_or reads k d).confirmed ≡ false → r.confirmed ≡ true → confirmed_in (slice_set reads k r) ≡ confirmed_in reads + 1
counted_set reads k d r lt is to =
    let moved = sum_by-set one_of reads k r d lt in
    omega (arith, moved, none_where (get_or reads k d) is, one_where r to)

-- one that was confirmed goes
pub counted_less : (reads : List ProbedRead) (k : ℕ) (d : ProbedRead) → k < length reads → (get_or reads k d).confirmed ≡ true → confirmed_in reads ≡ confirmed_in (remove reads k) + 1
counted_less reads k d lt is =
    let moved = sum_by-remove one_of reads k d lt in
    omega (arith, moved, one_where (get_or reads k d) is)

-- where none is counted, none is confirmed
pub none_confirmed : (reads : List ProbedRead) → confirmed_in reads ≡ 0 → (r : ProbedRead) (k : ℕ) → k < length reads → IsReadAt reads k r → r.confirmed ≡ false
none_confirmed reads none r k lt at =
    let moved = sum_by-remove one_of reads k r lt in
    let here : one_of (get_or reads k r) ≡ 0 = omega (arith, moved, none) in
    sym (ap (λ (x : ProbedRead). x.confirmed) at) ∙ not_one _ here

pub few_confirmed : (reads : List ProbedRead) → confirmed_in reads ≤ length reads
few_confirmed reads = count_by-le-length (λ (x : ProbedRead). x.confirmed) reads

numbers-set : (reads : List ProbedRead) (k : ℕ) (y : ProbedRead) → (get_or reads k y).number ≡ y.number → read_numbers (slice_set reads k y) ≡ read_numbers reads
numbers-set [] k y same = refl
numbers-set (r ∷ rs) zero y same = ap (λ n. n ∷ read_numbers rs) (sym same)
numbers-set (r ∷ rs) (suc k) y same = ap (λ ns. r.number ∷ ns) (numbers-set rs k y same)

numbers-remove : (reads : List ProbedRead) (k : ℕ) → read_numbers (remove reads k) ≡ remove (read_numbers reads) k
numbers-remove [] zero = refl
numbers-remove [] (suc k) = refl
numbers-remove (r ∷ rs) zero = refl
numbers-remove (r ∷ rs) (suc k) = ap (λ ns. r.number ∷ ns) (numbers-remove rs k)

numbers-push : (reads : List ProbedRead) (r : ProbedRead) → read_numbers (reads ++ r ∷ []) ≡ read_numbers reads ++ r.number ∷ []
numbers-push [] r = refl
numbers-push (x ∷ xs) r = ap (λ ns. x.number ∷ ns) (numbers-push xs r)

same_number : (reads : List ProbedRead) (k : ℕ) (x y : ProbedRead) → k < length reads → x ≡ get_or reads k x → x.number ≡ y.number → (get_or reads k y).number ≡ y.number
same_number reads k x y lt at same = ap (λ (r : ProbedRead). r.number) (same_at reads k x (get_or reads k y) x lt (sym at) (element reads k y lt)) ∙ same

-- one read is confirmed
pub kept_set : (reads : List ProbedRead) (k : ℕ) (x y : ProbedRead) (confirmed : ℕ) (in_order : Bool) → AreKept reads confirmed in_order → k < length reads → x ≡ get_or reads k x → x.number ≡ y.number → x.confirmed ≡ false → y.confirmed ≡ true → AreKept (slice_set reads k y) (confirmed + 1) in_order
kept_set reads k x y confirmed in_order kept lt at same was is = record {
  counted =
      let more = counted_set reads k x y lt (ap (λ (r : ProbedRead). r.confirmed) (sym at) ∙ was) is in
      omega (arith, more, kept.counted);
  order = λ noted. subst SlotsAreRising (sym (numbers-set reads k y (same_number reads k x y lt at same))) (kept.order noted);
}

-- so there is room to count it
pub one_counted : (reads : List ProbedRead) (k : ℕ) (x : ProbedRead) (confirmed : ℕ) (in_order : Bool) → AreKept reads confirmed in_order → k < length reads → x ≡ get_or reads k x → x.confirmed ≡ false → confirmed + 1 ≤ length reads
one_counted reads k x confirmed in_order kept lt at was =
    let y = record x { confirmed = true } in
    let more = counted_set reads k x y lt (ap (λ (r : ProbedRead). r.confirmed) (sym at) ∙ was) refl in
    let few = few_confirmed (slice_set reads k y) in
    let same = length-set reads k y in
    omega (arith, more, few, same, kept.counted)

-- one that was confirmed goes
pub kept_less : (reads : List ProbedRead) (k : ℕ) (d : ProbedRead) (confirmed : ℕ) (in_order : Bool) → AreKept reads confirmed in_order → k < length reads → (get_or reads k d).confirmed ≡ true → AreKept (remove reads k) (confirmed - 1) in_order
kept_less reads k d confirmed in_order kept lt is = record {
  counted = let less = counted_less reads k d lt is in omega (arith, less, kept.counted);
  order = λ noted. let len = length-map reads (λ (r : ProbedRead). r.number) in subst SlotsAreRising (sym (numbers-remove reads k)) (rising-remove (read_numbers reads) k (omega (arith, len, lt)) (kept.order noted));
}

-- one more is asked
pub kept_more : (reads : List ProbedRead) (r : ProbedRead) (confirmed : ℕ) (in_order last : Bool) → AreKept reads confirmed in_order → r.confirmed ≡ false → (IsTrue last → IsTrue in_order) → (IsTrue last → SlotsAreRising (read_numbers reads) → SlotsAreRising (read_numbers reads ++ r.number ∷ [])) → AreKept (reads ++ r ∷ []) confirmed last
kept_more reads r confirmed in_order last kept was noted then = record {
  counted = kept.counted ∙ sym (counted_more reads r was);
  order = λ is. subst SlotsAreRising (sym (numbers-push reads r)) (then is (kept.order (noted is)));
}

-- a greater number behind numbers that rise
pub rising_push : (ns : List ℕ) (m : ℕ) → SlotsAreRising ns → ((k : ℕ) → k < length ns → get_or ns k 0 < m) → SlotsAreRising (ns ++ m ∷ [])
rising_push ns m rising low i j lt in_list =
    let len = length-append ns (m ∷ []) in
    let first = get_or_append_left ns (m ∷ []) 0 i (omega (arith, len, lt, in_list)) in
    elim (cases_lt j (length ns)) [
      | inl inside ↦ (let h : get_or ns i 0 < get_or ns j 0 = rising i j lt inside in let second = get_or_append_left ns (m ∷ []) 0 j inside in omega (arith, h, first, second))
      | inr over ↦
          (let h = low i (omega (arith, len, lt, in_list)) in
          let same : length ns ≡ j = omega (arith, len, over, in_list) in
          let second : get_or (ns ++ m ∷ []) j 0 ≡ m = subst (λ k. get_or (ns ++ m ∷ []) k 0 ≡ m) same (get_or-append_seam ns m [] 0) in
          omega (arith, h, first, second))
    ]

-- a number above the last of the reads
pub rising_last : (reads : List ProbedRead) (m k : ℕ) (last : ProbedRead) → length reads ≡ k + 1 → last ≡ get_or reads k last → last.number < m → SlotsAreRising (read_numbers reads) → SlotsAreRising (read_numbers reads ++ m ∷ [])
rising_last reads m k last many at lt rising =
    let len = length-map reads (λ (r : ProbedRead). r.number) in
    let there = get_or-map (λ (r : ProbedRead). r.number) reads k last 0 (omega (arith, many)) in
    let own = ap (λ (r : ProbedRead). r.number) at in
    rising_push (read_numbers reads) m rising (λ i inside.
    elim (cases_lt i k) [
      | inl below ↦ (let h : get_or (read_numbers reads) i 0 < get_or (read_numbers reads) k 0 = rising i k below (omega (arith, len, many)) in omega (arith, h, there, own, lt))
      | inr over ↦ (let same : get_or (read_numbers reads) i 0 ≡ get_or (read_numbers reads) k 0 = ap (λ j. get_or (read_numbers reads) j 0) (omega (arith, over, inside, len, many)) in omega (arith, same, there, own, lt))
    ])

pub rising_first : (reads : List ProbedRead) (m : ℕ) → length reads ≡ 0 → SlotsAreRising (read_numbers reads ++ m ∷ [])
rising_first [] m none = λ i j lt in_list. absurd (omega (arith, lt, in_list))
rising_first (r ∷ rs) m none = absurd (omega (arith, none))
