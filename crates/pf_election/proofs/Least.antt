-- The least read that passes a test, along a list.
use Rattle.std.proofs.Common.{◌≡◌, ℕ, zero, suc, ◌+◌, ◌<◌, ◌≤◌, inl, inr, Bool, true, false, List, [], ◌∷◌, length, get_or, Option, Some, None, arith, refl, sym, ap, subst, ◌∙◌}
use Rattle.std.proofs.lemmas.List.{get_or-map, length-map}
use Rattle.std.proofs.lemmas.Bool.{cases_eq, cases_lt, ltb-true, ltb-false}
use Rattle.std.specs.Option.{IfSome}
use Rattle.pf_election.specs.declared.probes.ProbedRead.{ProbedRead}
use Rattle.pf_election.specs.Reads.{IsReadAt, IsLeastPlace, IsLeastAt, IsLower, read_numbers}
use Rattle.pf_holes.specs.SlotSets.{SlotsAreRising}

-- a read at any default is the element
pub same_at : (rows : List ProbedRead) (k : ℕ) (d e x : ProbedRead) → k < length rows → get_or rows k d ≡ x → get_or rows k e ≡ e → e ≡ x
same_at [] k d e x lt a b = absurd (omega arith)
same_at (y ∷ ys) zero d e x lt a b = sym b ∙ a
same_at (y ∷ ys) (suc k) d e x lt a b = same_at ys k d e x (omega arith) a b

pub element : (rows : List ProbedRead) (k : ℕ) (d : ProbedRead) → k < length rows → IsReadAt rows k (get_or rows k d)
element [] k d lt = absurd (omega arith)
element (y ∷ ys) zero d lt = refl
element (y ∷ ys) (suc k) d lt = element ys k d (omega arith)

no_test : (a : Bool) → a ≡ true → a ≡ false → ⊥
no_test a t f = cc

pub none_seen : (passes : ProbedRead → Bool) (reads : List ProbedRead) → IsLeastPlace passes reads 0 None
none_seen passes reads = λ r k lt at. absurd (omega arith)

pub inside : (passes : ProbedRead → Bool) (reads : List ProbedRead) (n m : ℕ) (o : Option ℕ) → IsLeastPlace passes reads n o → n ≤ m → IfSome o (λ k. k < m)
inside passes reads n m None least le = tt
inside passes reads n m (Some k) least le = let h : k < n = least.inside in omega arith

-- one more that does not pass
fails : (passes : ProbedRead → Bool) (reads : List ProbedRead) (n : ℕ) (x : ProbedRead) → n < length reads → x ≡ get_or reads n x → passes x ≡ false → (r : ProbedRead) (k : ℕ) → k ≡ n → IsReadAt reads k r → passes r ≡ false
fails passes reads n x lt is goes r k same at =
    ap passes (same_at reads n x r x lt (sym is) (subst (λ j. IsReadAt reads j r) same at)) ∙ goes

pub one_passed : (passes : ProbedRead → Bool) (reads : List ProbedRead) (n : ℕ) (o : Option ℕ) (x : ProbedRead) → IsLeastPlace passes reads n o → n < length reads → x ≡ get_or reads n x → passes x ≡ false → IsLeastPlace passes reads (n + 1) o
one_passed passes reads n None x none lt is goes = λ r k low at.
    elim (cases_eq k n) [
      | inl same ↦ fails passes reads n x lt is goes r k same at
      | inr apart ↦ none r k (omega arith) at
    ]
one_passed passes reads n (Some place) x l lt is goes = record {
  inside = let h : place < n = l.inside in omega arith;
  here = l.here;
  least = λ r other k at low there pass.
      elim (cases_eq k n) [
        | inl same ↦ absurd (no_test (passes other) pass (fails passes reads n x lt is goes other k same there))
        | inr apart ↦ l.least r other k at (omega arith) there pass
      ];
}

-- one more that is not lower
pub one_higher : (passes : ProbedRead → Bool) (reads : List ProbedRead) (n : ℕ) (o : Option ℕ) (x : ProbedRead) → IsLeastPlace passes reads n o → n < length reads → x ≡ get_or reads n x → IsLower reads n o false → IsLeastPlace passes reads (n + 1) o
one_higher passes reads n None x none lt is lower = absurd (no_test true refl (sym lower))
one_higher passes reads n (Some place) x l lt is lower = record {
  inside = let h : place < n = l.inside in omega arith;
  here = l.here;
  least = λ r other k at low there pass.
      elim (cases_eq k n) [
        | inl same ↦ ltb-false other.number r.number (sym (lower other r (subst (λ j. IsReadAt reads j other) same there) at))
        | inr apart ↦ l.least r other k at (omega arith) there pass
      ];
}

-- one more that passes and is lower
pub one_lower : (passes : ProbedRead → Bool) (reads : List ProbedRead) (n : ℕ) (o : Option ℕ) (x : ProbedRead) → IsLeastPlace passes reads n o → n < length reads → x ≡ get_or reads n x → passes x ≡ true → IsLower reads n o true → IsLeastPlace passes reads (n + 1) (Some n)
one_lower passes reads n o x l lt is pass lower = record {
  inside = omega arith;
  here = λ r at. ap passes (same_at reads n x r x lt (sym is) at) ∙ pass;
  least = λ r other k at low there passes_too.
      elim (cases_eq k n) [
        | inl same ↦
            let e : other.number ≡ r.number = ap (λ y. y.number) (same_at reads n r other r lt at (subst (λ j. IsReadAt reads j other) same there)) in
            omega arith
        | inr apart ↦ below passes reads n o x lt l lower r other k at (omega arith) there passes_too
      ];
}
  where
    below : (passes : ProbedRead → Bool) (reads : List ProbedRead) (n : ℕ) (o : Option ℕ) (x : ProbedRead) → n < length reads → IsLeastPlace passes reads n o → IsLower reads n o true → (r other : ProbedRead) (k : ℕ) → IsReadAt reads n r → k < n → IsReadAt reads k other → passes other ≡ true → r.number ≤ other.number
    below passes reads n None x lt none lower r other k at low there pass = absurd (no_test (passes other) pass (none other k low there))
    below passes reads n (Some place) x lt l lower r other k at low there pass =
        let inside : place < n = l.inside in
        let p = get_or reads place x in
        let there_it_is : IsReadAt reads place p = element reads place x (omega arith) in
        let less : r.number < p.number = ltb-true r.number p.number (sym (lower r p at there_it_is)) in
        let upto : p.number ≤ other.number = l.least p other k there_it_is low there pass in
        omega arith

-- of reads that are in the order of their numbers, the first that passes is the least
pub first_is_least : (passes : ProbedRead → Bool) (reads : List ProbedRead) (place : ℕ) → SlotsAreRising (read_numbers reads) → IsLeastAt passes reads (place + 1) place → place < length reads → IsLeastAt passes reads (length reads) place
first_is_least passes reads place rising l lt = record {
  inside = lt;
  here = l.here;
  least = λ r other k at low there pass.
      elim (cases_lt place k) [
        | inl above ↦
            (let len = length-map reads (λ (x : ProbedRead). x.number) in
            let one = get_or-map (λ (x : ProbedRead). x.number) reads place r 0 lt in
            let two = get_or-map (λ (x : ProbedRead). x.number) reads k other 0 low in
            let h : get_or (read_numbers reads) place 0 < get_or (read_numbers reads) k 0 = rising place k above (omega (arith, len, low)) in
            let own = ap (λ (x : ProbedRead). x.number) at in
            let its = ap (λ (x : ProbedRead). x.number) there in
            omega (arith, h, one, two, own, its))
        | inr upto ↦ l.least r other k at (omega (arith, upto)) there pass
      ];
}
