-- Any two quorums share an anchor: two lists of different numbers below n, which together are longer than n, have one in common.
use Rattle.std.proofs.Common.{◌≡◌, ℕ, zero, suc, ◌+◌, ◌*◌, ◌<◌, ◌≤◌, ◌≢◌, inl, inr, Bool, true, false, cond, ◌==◌, List, [], ◌∷◌, length, Some, slice_get, arith, refl, sym, ap, subst, ◌∙◌}
use Rattle.std.proofs.lemmas.Bool.{cases_eq, cond-true, cond-false, eq-eqb, ne_eqb, true≢false}
use Rattle.pf_paxos.specs.Quorums.{AreOtherAnchors, HasQuorum}

-- the anchor stands in the list
pub record Has (list : List ℕ) (a : ℕ) : Type 0 where
  pub place : ℕ
  pub at : slice_get list place ≡ Some a

abbrev one : Bool → ℕ
one true = 1
one false = 0

-- how many numbers below n are of a set
abbrev size : (n : ℕ) (f : ℕ → Bool) → ℕ
size zero f = 0
size (suc n) f = one (f n) + size n f

-- a set and a number
abbrev with_one : (x : ℕ) (f : ℕ → Bool) → ℕ → Bool
with_one x f k = cond (k == x) true (f k)

with_same : (x : ℕ) (f : ℕ → Bool) → with_one x f x ≡ true
with_same x f = cond-true (x == x) true (f x) (eq-eqb x x refl)

with_other : (x : ℕ) (f : ℕ → Bool) (k : ℕ) → k ≢ x → with_one x f k ≡ f k
with_other x f k apart = cond-false (k == x) true (f k) (ne_eqb k x apart)

size_below : (n x : ℕ) (f : ℕ → Bool) → n ≤ x → size n (with_one x f) ≡ size n f
size_below zero x f le = refl
size_below (suc n) x f le =
    let rest = size_below n x f (omega (arith, le)) in
    let here = ap one (with_other x f n (λ e. absurd (omega (arith, e, le)))) in
    omega (arith, rest, here)

size_more : (n x : ℕ) (f : ℕ → Bool) → x < n → f x ≡ false → size n (with_one x f) ≡ suc (size n f)
size_more zero x f less none = absurd (omega (arith, less))
size_more (suc n) x f less none =
    elim (cases_eq n x) [
      | inl same ↦
          let rest = size_below n x f (omega (arith, same)) in
          let here : one (with_one x f n) ≡ 1 = ap one (subst (λ k. with_one x f k ≡ true) (sym same) (with_same x f)) in
          let was : one (f n) ≡ 0 = ap one (subst (λ k. f k ≡ false) (sym same) none) in
          omega (arith, rest, here, was)
      | inr apart ↦
          let rest = size_more n x f (omega (arith, less, apart)) none in
          let here = ap one (with_other x f n apart) in
          omega (arith, rest, here)
    ]

-- the numbers of a list
abbrev has : List ℕ → ℕ → Bool
has [] k = false
has (x ∷ xs) k = with_one x (has xs) k

stands : (xs : List ℕ) (k : ℕ) → has xs k ≡ true → Has xs k
stands [] k is = absurd (true≢false (sym is))
stands (x ∷ xs) k is =
    elim (cases_eq k x) [
      | inl same ↦ record { place = 0; at = ap (λ y. Some y) (sym same) }
      | inr apart ↦ let rest = stands xs k (sym (with_other x (has xs) k apart) ∙ is) in record { place = suc rest.place; at = rest.at }
    ]

tail_apart : (x : ℕ) (xs : List ℕ) → AreOtherAnchors (x ∷ xs) → AreOtherAnchors xs
tail_apart x xs apart i j a at other = let e = apart (suc i) (suc j) a at other in omega (arith, e)

head_new : (x : ℕ) (xs : List ℕ) → AreOtherAnchors (x ∷ xs) → (b : Bool) → has xs x ≡ b → has xs x ≡ false
head_new x xs apart true is = let there = stands xs x is in absurd (omega (arith, apart 0 (suc there.place) x refl there.at))
head_new x xs apart false is = is

size_of : (n : ℕ) (xs : List ℕ) → AreOtherAnchors xs → ((place a : ℕ) → slice_get xs place ≡ Some a → a < n) → size n (has xs) ≡ length xs
size_of n [] apart low = none n
  where
    none : (n : ℕ) → size n (has []) ≡ 0
    none zero = refl
    none (suc n) = let rest = none n in omega (arith, rest)
size_of n (x ∷ xs) apart low = size_more n x (has xs) (low 0 x refl) (head_new x xs apart (has xs x) refl) ∙ ap suc (size_of n xs (tail_apart x xs apart) (λ place a at. low (suc place) a at))

record Both (f g : ℕ → Bool) : Type 0 where
  at : ℕ
  left : f at ≡ true
  right : g at ≡ true

shared : (n : ℕ) (f g : ℕ → Bool) → n < size n f + size n g → Both f g
shared zero f g more = absurd (omega (arith, more))
shared (suc n) f g more = by (λ rest. shared n f g rest) (f n) refl (g n) refl
  where
    by : (n < size n f + size n g → Both f g) → (x : Bool) → f n ≡ x → (y : Bool) → g n ≡ y → Both f g
    by below true is_x true is_y = record { at = n; left = is_x; right = is_y }
    by below true is_x false is_y = below (let a = ap one is_x in let b = ap one is_y in omega (arith, more, a, b))
    by below false is_x true is_y = below (let a = ap one is_x in let b = ap one is_y in omega (arith, more, a, b))
    by below false is_x false is_y = below (let a = ap one is_x in let b = ap one is_y in omega (arith, more, a, b))

-- a list that has a quorum
pub record Quorum (anchors quorum : ℕ) : Type 0 where
  pub used : List ℕ
  pub is : HasQuorum anchors quorum used

pub share : (anchors quorum : ℕ) → anchors < 2 * quorum → (q r : Quorum anchors quorum) → (a : ℕ) × (Has q.used a × Has r.used a)
share anchors quorum meets q r =
    let x = size_of anchors q.used q.is.apart q.is.low in
    let y = size_of anchors r.used r.is.apart r.is.low in
    let both = shared anchors (has q.used) (has r.used) (omega (arith, meets, x, y, q.is.many, r.is.many)) in
    (both.at, (stands q.used both.at both.left, stands r.used both.at both.right))
