-- Reads that are confirmed one after another.
use Rattle.std.proofs.Common.{◌≡◌, ◌≢◌, ℕ, suc, ◌+◌, ◌<◌, ◌≤◌, inl, inr, Bool, true, false, List, [], ◌∷◌, map, length, get_or, slice_set, Ok, Err, arith, refl, sym, ap, subst, ◌∙◌}
use Rattle.std.specs.List.Sorted.{IsBinarySearchResult, IsNonDecreasingBy}
use Rattle.std.specs.Ordering.{nat_cmp, ordering_index}
use Rattle.std.proofs.lemmas.Cmp.{ranked}
use Rattle.std.proofs.lemmas.Bool.Decides.{nat_tests}
use Rattle.std.proofs.lemmas.List.Sorted.{IsNonDecreasingBy-from_default}
use Rattle.pf_holes.specs.SlotSets.{SlotsAreRising}
use Rattle.std.proofs.lemmas.Bool.{cases_eq, cases_lt, cond-true, cond-false, eq-eqb, ne_eqb}
use Rattle.std.proofs.lemmas.Grind.{get_or-set_at}
use Rattle.std.proofs.lemmas.List.{get_or-map, get_or-set_other, length-map, length-set}
use Rattle.std.proofs.lemmas.List.Sums.{sum_by-cons}
use Rattle.pf_election.specs.declared.probes.ProbedRead.{ProbedRead}
use Rattle.pf_election.specs.Reads.{AreKept, confirm_by_number, confirmed_in, read_numbers}
use Rattle.pf_election.proofs.ConfirmedCounts.{few_confirmed, kept_set, one_at_most, one_of}
use Rattle.pf_election.proofs.Least.{element, same_at}

-- the first n are changed, the others are as they were, and so many are confirmed
pub record IsChanged (f : ProbedRead → ProbedRead) (old new : List ProbedRead) (n confirmed : ℕ) (in_order : Bool) : Type 0 where
  pub len : length new ≡ length old
  pub done : (k : ℕ) (d : ProbedRead) → k < n → k < length old → get_or new k d ≡ f (get_or old k d)
  pub left : (k : ℕ) (d : ProbedRead) → n ≤ k → get_or new k d ≡ get_or old k d
  pub kept : AreKept new confirmed in_order

pub all_changed : (f : ProbedRead → ProbedRead) (old new : List ProbedRead) → length new ≡ length old → ((k : ℕ) (d : ProbedRead) → k < length old → get_or new k d ≡ f (get_or old k d)) → new ≡ map f old
all_changed f [] [] len done = refl
all_changed f [] (y ∷ ys) len done = absurd (omega arith)
all_changed f (x ∷ xs) [] len done = absurd (omega arith)
all_changed f (x ∷ xs) (y ∷ ys) len done =
    ap (λ z. z ∷ ys) (done 0 x (omega arith)) ∙ ap (λ zs. f x ∷ zs) (all_changed f xs ys (omega arith) (λ k d lt. done (suc k) d (omega arith)))

-- the read of the number is confirmed, and one of another number stays
confirm_own : (number : ℕ) (r : ProbedRead) → r.number ≡ number → confirm_by_number number r ≡ record r { confirmed = true }
confirm_own number r is = cond-true _ _ _ (eq-eqb r.number number is)

confirm_other : (number : ℕ) (r : ProbedRead) → r.number ≢ number → confirm_by_number number r ≡ r
confirm_other number r apart = cond-false _ _ _ (ne_eqb r.number number apart)

confirm_again : (number : ℕ) (r : ProbedRead) → r.number ≡ number → r.confirmed ≡ true → confirm_by_number number r ≡ r
confirm_again number r is was = confirm_own number r is ∙ (λ i. record r { confirmed = sym was i })

module _ (f : ProbedRead → ProbedRead) (old new : List ProbedRead) (n confirmed : ℕ) (in_order : Bool) (x : ProbedRead) (l : IsChanged f old new n confirmed in_order) (lt : n < length old) (at : x ≡ get_or new n x) where
  -- the next read, as it was
  there : (d : ProbedRead) → get_or old n d ≡ x
  there d = sym (l.left n d (omega arith)) ∙ same_at new n x (get_or new n d) x (omega (arith, l.len)) (sym at) (element new n d (omega (arith, l.len)))

  -- the next one stays as it is
  pub one_kept : f x ≡ x → IsChanged f old new (n + 1) confirmed in_order
  one_kept stays = record {
    len = l.len;
    done = λ k d low within.
        elim (cases_eq k n) [
          | inl same ↦ subst (λ j. get_or new j d ≡ f (get_or old j d)) (sym same) (l.left n d (omega arith) ∙ there d ∙ sym stays ∙ ap f (sym (there d)))
          | inr apart ↦ l.done k d (omega arith) within
        ];
    left = λ k d low. l.left k d (omega arith);
    kept = l.kept;
  }

  -- the next one is changed
  pub one_changed : (y : ProbedRead) → f x ≡ y → x.number ≡ y.number → x.confirmed ≡ false → y.confirmed ≡ true → IsChanged f old (slice_set new n y) (n + 1) (confirmed + 1) in_order
  one_changed y to number was is = record {
    len = let same = length-set new n y in omega (arith, same, l.len);
    done = λ k d low within.
        elim (cases_eq k n) [
          | inl same ↦
              get_or-set_at new n k y d same (omega (arith, l.len))
              ∙ sym to ∙ ap f (sym (there d)) ∙ ap (λ j. f (get_or old j d)) (sym same)
          | inr apart ↦ get_or-set_other new n k y d apart ∙ l.done k d (omega arith) within
        ];
    left = λ k d low. get_or-set_other new n k y d (λ same. absurd (omega (arith, same, low))) ∙ l.left k d (omega arith);
    kept = kept_set new n x y confirmed in_order l.kept (omega (arith, l.len)) at number was is;
  }

module _ (number : ℕ) (old new : List ProbedRead) (n confirmed : ℕ) (in_order : Bool) (x : ProbedRead) (l : IsChanged (confirm_by_number number) old new n confirmed in_order) (lt : n < length old) (at : x ≡ get_or new n x) where
  pub confirmed_now : x.number ≡ number → x.confirmed ≡ false → IsChanged (confirm_by_number number) old (slice_set new n (record x { confirmed = true })) (n + 1) (confirmed + 1) in_order
  confirmed_now is was = one_changed (confirm_by_number number) old new n confirmed in_order x l lt at (record x { confirmed = true }) (confirm_own number x is) refl was refl

  pub confirmed_before : x.number ≡ number → x.confirmed ≡ true → IsChanged (confirm_by_number number) old new (n + 1) confirmed in_order
  confirmed_before is was = one_kept (confirm_by_number number) old new n confirmed in_order x l lt at (confirm_again number x is was)

  pub not_asked : x.number ≢ number → IsChanged (confirm_by_number number) old new (n + 1) confirmed in_order
  not_asked apart = one_kept (confirm_by_number number) old new n confirmed in_order x l lt at (confirm_other number x apart)

-- a search among reads that are in the order of their numbers
module _ (number : ℕ) (reads : List ProbedRead) (rising : SlotsAreRising (read_numbers reads)) where
  apart_from : (k place : ℕ) (d e : ProbedRead) → k < length reads → place < length reads → k ≢ place → (get_or reads place e).number ≡ number → (get_or reads k d).number ≢ number
  apart_from k place d e lt within apart own same =
      let len = length-map reads (λ (r : ProbedRead). r.number) in
      let one = get_or-map (λ (r : ProbedRead). r.number) reads k d 0 lt in
      let other = get_or-map (λ (r : ProbedRead). r.number) reads place e 0 within in
      elim (cases_lt k place) [
        | inl below ↦ (let h : get_or (read_numbers reads) k 0 < get_or (read_numbers reads) place 0 = rising k place below (omega (arith, len, within)) in omega (arith, h, one, other, own, same))
        | inr above ↦ (let h : get_or (read_numbers reads) place 0 < get_or (read_numbers reads) k 0 = rising place k (omega (arith, above, apart)) (omega (arith, len, lt)) in omega (arith, h, one, other, own, same))
      ]

  -- the one that is found is the only one
  pub confirmed_at : (place : ℕ) (x : ProbedRead) → place < length reads → x ≡ get_or reads place x → x.number ≡ number → slice_set reads place (record x { confirmed = true }) ≡ map (confirm_by_number number) reads
  confirmed_at place x within at own =
      all_changed (confirm_by_number number) reads (slice_set reads place (record x { confirmed = true })) (length-set reads place (record x { confirmed = true })) (λ k d lt.
      elim (cases_eq k place) [
        | inl same ↦
            get_or-set_at reads place k (record x { confirmed = true }) d same within
            ∙ sym (confirm_own number x own)
            ∙ ap (confirm_by_number number) (sym (subst (λ j. get_or reads j d ≡ x) (sym same) (same_at reads place x (get_or reads place d) x within (sym at) (element reads place d within))))
        | inr apart ↦
            get_or-set_other reads place k (record x { confirmed = true }) d apart
            ∙ sym (confirm_other number (get_or reads k d) (apart_from k place d x lt within apart (ap (λ (r : ProbedRead). r.number) (sym at) ∙ own)))
      ])

  pub confirmed_already : (place : ℕ) (x : ProbedRead) → place < length reads → x ≡ get_or reads place x → x.number ≡ number → x.confirmed ≡ true → reads ≡ map (confirm_by_number number) reads
  confirmed_already place x within at own was =
      all_changed (confirm_by_number number) reads reads refl (λ k d lt.
      elim (cases_eq k place) [
        | inl same ↦
            let there : get_or reads k d ≡ x = subst (λ j. get_or reads j d ≡ x) (sym same) (same_at reads place x (get_or reads place d) x within (sym at) (element reads place d within)) in
            there ∙ sym (confirm_again number x own was) ∙ ap (confirm_by_number number) (sym there)
        | inr apart ↦ sym (confirm_other number (get_or reads k d) (apart_from k place d x lt within apart (ap (λ (r : ProbedRead). r.number) (sym at) ∙ own)))
      ])

  comparisons_rise : (d : ProbedRead) → IsNonDecreasingBy (λ (r : ProbedRead). ordering_index (nat_cmp r.number number)) reads
  comparisons_rise d =
      IsNonDecreasingBy-from_default (λ (r : ProbedRead). ordering_index (nat_cmp r.number number)) reads d (λ i j le lt.
      let len = length-map reads (λ (r : ProbedRead). r.number) in
      let one = get_or-map (λ (r : ProbedRead). r.number) reads i d 0 (omega (arith, le, lt)) in
      let other = get_or-map (λ (r : ProbedRead). r.number) reads j d 0 lt in
      let low : (get_or reads i d).number ≤ (get_or reads j d).number = elim (cases_eq i j) [
        | inl same ↦ (let e : (get_or reads i d).number ≡ (get_or reads j d).number = ap (λ k. (get_or reads k d).number) same in omega (arith, e))
        | inr apart ↦ (let h : get_or (read_numbers reads) i 0 < get_or (read_numbers reads) j 0 = rising i j (omega (arith, le, apart)) (omega (arith, len, lt)) in omega (arith, h, one, other))
      ] in
      grind (arith, nat_tests))

  pub found_at : (place : ℕ) (x : ProbedRead) → x ≡ get_or reads place x → IsBinarySearchResult (λ (r : ProbedRead). nat_cmp r.number number) reads (Ok place) → x.number ≡ number
  found_at place x at is = ap (λ (r : ProbedRead). r.number) at ∙ ranked _ number _ (sym (is x))

  -- where none is found, none is confirmed
  pub none_found : (place : ℕ) → IsBinarySearchResult (λ (r : ProbedRead). nat_cmp r.number number) reads (Err place) → reads ≡ map (confirm_by_number number) reads
  none_found place is =
      all_changed (confirm_by_number number) reads reads refl (λ k d lt.
      let parts = is (comparisons_rise d) in
      sym (confirm_other number (get_or reads k d) (λ same.
      elim (cases_lt k place) [
        | inl under ↦ (let h : (get_or reads k d).number < number = ranked _ number _ (sym (parts.0 k d (omega arith) under)) in omega (arith, h, same))
        | inr over ↦ (let h : number < (get_or reads k d).number = ranked _ number _ (sym (parts.1 k d over lt)) in omega (arith, h, same))
      ])))

-- of reads in the order of their numbers, a number confirms one more at most
pub one_more : (number : ℕ) (reads : List ProbedRead) → SlotsAreRising (read_numbers reads) → confirmed_in (map (confirm_by_number number) reads) ≤ confirmed_in reads + 1
one_more number [] rising = let few = few_confirmed (map (confirm_by_number number) []) in omega (arith, few)
one_more number (x ∷ xs) rising =
    let new = sum_by-cons one_of (confirm_by_number number x) (map (confirm_by_number number) xs) in
    let old = sum_by-cons one_of x xs in
    elim (cases_eq x.number number) [
      | inl own ↦
          let others : xs ≡ map (confirm_by_number number) xs = all_changed (confirm_by_number number) xs xs refl (λ k d lt. sym (confirm_other number (get_or xs k d) (λ same.
          let len = length-map xs (λ (r : ProbedRead). r.number) in
          let there = get_or-map (λ (r : ProbedRead). r.number) xs k d 0 lt in
          let h : x.number < get_or (read_numbers xs) k 0 = rising 0 (suc k) (omega arith) (omega (arith, len, lt)) in
          absurd (omega (arith, h, there, same, own))))) in
          let rest = ap confirmed_in others in
          omega (arith, new, old, rest, one_at_most (confirm_by_number number x))
      | inr apart ↦
          let rest = one_more number xs (λ i j lt in_list. rising (suc i) (suc j) (omega (arith, lt)) (omega (arith, in_list))) in
          let same = ap one_of (confirm_other number x apart) in
          omega (arith, new, old, rest, same)
    ]

pub all_at_most : (number : ℕ) (reads : List ProbedRead) → confirmed_in (map (confirm_by_number number) reads) ≤ length reads
all_at_most number reads = let few = few_confirmed (map (confirm_by_number number) reads) in let len = length-map reads (confirm_by_number number) in omega (arith, few, len)
