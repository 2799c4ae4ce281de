-- Numbers in lists, and lists without one twice.
use Rattle.std.proofs.Common.{◌≡◌, ℕ, zero, suc, ◌+◌, ◌<◌, ◌≤◌, inl, inr, Bool, true, false, cond, ◌==◌, List, [], ◌∷◌, length, map, take, get_or, refl, sym, ap, ◌∙◌, subst, arith}
use Rattle.std.specs.List.{list_any, filter, range_with_len}
use Rattle.std.proofs.lemmas.Bool.{cases_Bool, cond-true, cond-false, false≢true, or_cases, or_left, or_right, eqb-true, eq-eqb, false_from_ne_true}
use Rattle.std.proofs.lemmas.List.{same_lists}
use Rattle.std.proofs.lemmas.List.FromFn.{length-map-range_with_len, get_or-map-range_with_len}

abbrev pub has : List ℕ → ℕ → Bool
has xs b = list_any (λ c. b == c) xs

pub record Member (xs : List ℕ) (b : ℕ) : Type 0 where
  pub index : ℕ
  pub within : index < length xs
  pub is : get_or xs index 0 ≡ b

pub member : (xs : List ℕ) (b : ℕ) → has xs b ≡ true → Member xs b
member [] b e = absurd (false≢true e)
member (x ∷ xs) b e =
    elim (or_cases _ _ e) [
      | inl here ↦ record { index = 0; within = omega arith; is = sym (eqb-true b x here) }
      | inr there ↦ let m = member xs b there in record { index = suc m.index; within = let h = m.within in omega arith; is = m.is }
    ]

pub has_at : (xs : List ℕ) (k : ℕ) → k < length xs → has xs (get_or xs k 0) ≡ true
has_at [] k low = absurd (omega arith)
has_at (x ∷ xs) zero low = or_left _ _ (eq-eqb x x refl)
has_at (x ∷ xs) (suc k) low = or_right _ _ (has_at xs k (omega arith))

abbrev pub Distinct : List ℕ → Type 0
Distinct [] = Unit {0}
Distinct (b ∷ bs) = (has bs b ≡ false) × Distinct bs

pub record Unused (first count b : ℕ) (p : ℕ → Bool) : Type 0 where
  pub low : first ≤ b
  pub high : b < first + count
  pub passes : p b ≡ true

later : (first count b : ℕ) (p : ℕ → Bool) → Unused (first + 1) count b p → Unused first (suc count) b p
later first count b p u = let l = u.low in let h = u.high in record { low = omega arith; high = omega arith; passes = u.passes }

-- what a filter keeps of numbers in a row
pub kept_of_range : (p : ℕ → Bool) (first count b : ℕ) → has (filter p (range_with_len first count)) b ≡ true → Unused first count b p
kept_of_range p first zero b e = absurd (false≢true e)
kept_of_range p first (suc count) b e =
    elim (cases_Bool (p first)) [
      | inl is ↦
          elim (or_cases (b == first) _ (ap (λ xs. has xs b) (sym (cond-true (p first) (first ∷ filter p (range_with_len (first + 1) count)) (filter p (range_with_len (first + 1) count)) is)) ∙ e)) [
            | inl here ↦ let same = eqb-true b first here in record { low = omega arith; high = omega arith; passes = ap p same ∙ is }
            | inr there ↦ later first count b p (kept_of_range p (first + 1) count b there)
          ]
      | inr isnt ↦
          later first count b p (kept_of_range p (first + 1) count b (ap (λ xs. has xs b) (sym (cond-false (p first) (first ∷ filter p (range_with_len (first + 1) count)) (filter p (range_with_len (first + 1) count)) isnt)) ∙ e))
    ]

pub distinct_range : (p : ℕ → Bool) (first count : ℕ) → Distinct (filter p (range_with_len first count))
distinct_range p first zero = tt
distinct_range p first (suc count) =
    let rest = distinct_range p (first + 1) count in
    elim (cases_Bool (p first)) [
      | inl is ↦
          subst Distinct (sym (cond-true (p first) (first ∷ filter p (range_with_len (first + 1) count)) (filter p (range_with_len (first + 1) count)) is))
          (false_from_ne_true _ (λ e. let u = kept_of_range p (first + 1) count first e in let l = u.low in absurd (omega arith)), rest)
      | inr isnt ↦ subst Distinct (sym (cond-false (p first) (first ∷ filter p (range_with_len (first + 1) count)) (filter p (range_with_len (first + 1) count)) isnt)) rest
    ]

pub has_take : (n : ℕ) (xs : List ℕ) (b : ℕ) → has (take n xs) b ≡ true → has xs b ≡ true
has_take zero xs b e = absurd (false≢true e)
has_take (suc n) [] b e = e
has_take (suc n) (x ∷ xs) b e = elim (or_cases (b == x) (has (take n xs) b) e) [ inl here ↦ or_left (b == x) (has xs b) here | inr there ↦ or_right (b == x) (has xs b) (has_take n xs b there) ]

pub distinct_take : (n : ℕ) (xs : List ℕ) → Distinct xs → Distinct (take n xs)
distinct_take zero xs d = tt
distinct_take (suc n) [] d = tt
distinct_take (suc n) (x ∷ xs) d = (false_from_ne_true _ (λ e. false≢true (sym d.0 ∙ has_take n xs x e)), distinct_take n xs d.1)

pub same_filter : (p q : ℕ → Bool) (first count : ℕ) → ((b : ℕ) → b < first + count → p b ≡ q b) → filter p (range_with_len first count) ≡ filter q (range_with_len first count)
same_filter p q first zero same = refl
same_filter p q first (suc count) same =
    let rest = same_filter p q (first + 1) count (λ b low. same b (omega arith)) in
    ap (λ t. cond t (first ∷ filter p (range_with_len (first + 1) count)) (filter p (range_with_len (first + 1) count))) (same first (omega arith))
    ∙ ap (λ xs. cond (q first) (first ∷ xs) xs) rest

pub same_map : (f g : ℕ → ℕ) (n : ℕ) → ((k : ℕ) → k < n → f k ≡ g k) → map f (range_with_len 0 n) ≡ map g (range_with_len 0 n)
same_map f g n same =
    same_lists _ _ (length-map-range_with_len f 0 n ∙ sym (length-map-range_with_len g 0 n))
    (λ k d low. let h : k < n = subst (λ m. k < m) (length-map-range_with_len f 0 n) low in
    get_or-map-range_with_len f 0 n k k d h (omega arith) ∙ same k h ∙ sym (get_or-map-range_with_len g 0 n k k d h (omega arith)))
