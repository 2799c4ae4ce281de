-- Lists of reads and of answers, by their numbers.
use Rattle.std.proofs.Common.{◌≡◌, ◌≢◌, ℕ, zero, suc, ◌<◌, ◌≤◌, ◌⊎◌, inl, inr, Bool, true, ◌==◌, if◌then◌else◌, List, [], ◌∷◌, ◌++◌, map, nat_lt, Some, slice_get, arith, refl, sym, ap, subst, ◌∙◌}
use Rattle.std.specs.List.{filter}
use Rattle.std.proofs.lemmas.Bool.{and_parts, and_from, ltb-true, lt-ltb}
use Rattle.std.proofs.lemmas.Option.{same_Some}
use Rattle.pf_entry.specs.Lists.{Every}
use Rattle.pf_entry.specs.Tables.{ascends, ascends_from}
use Rattle.pf_entry.proofs.Lists.{every_append, every_get, every_map, every_filter, every_more}
use Rattle.pf_protocol.specs.Servers.{Read}
use Rattle.pf_protocol.specs.Leading.{confirm}
use Rattle.pf_entry.proofs.Cases.{by_test}
use Rattle.pf_chunk_waiting.proofs.Filters.{every_place}
use Rattle.pf_chunk.specs.Waiting.{HasReadNumber}

abbrev pub numbers : List Read → List ℕ
numbers reads = map (λ r. r.number) reads

-- a fact of each number that the reads have
pub of_each : (P : ℕ → Type 0) (reads : List Read) → Every (λ r. P r.number) reads → (n : ℕ) → HasReadNumber reads n → P n
of_each P reads each n h = subst P h.numbered (every_get (λ r. P r.number) reads h.place h.read each h.there)

pub each_of : (P : ℕ → Type 0) (reads : List Read) → ((n : ℕ) → HasReadNumber reads n → P n) → Every (λ r. P r.number) reads
each_of P reads f = every_place (λ r. P r.number) reads (λ k r at. f r.number (record { place = k; read = r; there = at; numbered = refl }))

themselves : (reads : List Read) → Every (λ r. HasReadNumber reads r.number) reads
themselves reads = each_of (HasReadNumber reads) reads (λ n h. h)

pub none_has : (n : ℕ) → HasReadNumber [] n → ⊥
none_has n h = of_each (λ _. ⊥) [] tt n h

-- no other than those before it and itself
pub one_more_has : (reads : List Read) (r : Read) (n : ℕ) → HasReadNumber (reads ++ r ∷ []) n → HasReadNumber reads n ⊎ (n ≡ r.number)
one_more_has reads r n h =
    let P : ℕ → Type 0 = λ k. HasReadNumber reads k ⊎ (k ≡ r.number) in
    of_each P (reads ++ r ∷ [])
    (every_append (λ x. P x.number) reads (r ∷ []) (every_more (λ x. HasReadNumber reads x.number) (λ x. P x.number) (λ x is. inl is) reads (themselves reads)) (inr refl, tt)) n h

pub fewer_have : (test : Read → Bool) (reads : List Read) (n : ℕ) → HasReadNumber (filter test reads) n → HasReadNumber reads n
fewer_have test reads n h =
    of_each (HasReadNumber reads) (filter test reads)
    (every_filter (λ r. HasReadNumber reads r.number) test reads (every_more (λ r. HasReadNumber reads r.number) _ (λ r is _. is) reads (themselves reads))) n h

-- a read that is confirmed keeps its number
same_number : (number : ℕ) (r : Read) → (confirm number r).number ≡ r.number
same_number number r = by_test (r.number == number) (λ c. (if c then record r { confirmed = true } else r).number ≡ r.number) (λ _. refl) (λ _. refl)

pub same_numbers : (number : ℕ) (reads : List Read) → numbers (map (confirm number) reads) ≡ numbers reads
same_numbers number [] = refl
same_numbers number (r ∷ rs) = ap (λ n. n ∷ numbers (map (confirm number) rs)) (same_number number r) ∙ ap (λ ns. r.number ∷ ns) (same_numbers number rs)

pub confirmed_have : (number : ℕ) (reads : List Read) (n : ℕ) → HasReadNumber (map (confirm number) reads) n → HasReadNumber reads n
confirmed_have number reads n h =
    of_each (HasReadNumber reads) (map (confirm number) reads)
    (every_map (λ r. HasReadNumber reads r.number) (confirm number) reads (every_more (λ r. HasReadNumber reads r.number) _ (λ r is. subst (HasReadNumber reads) (sym (same_number number r)) is) reads (themselves reads))) n h

-- a list that ascends
last_from : (n : ℕ) (reads : List Read) (r : Read) → ascends_from n (numbers reads) ≡ true → n < r.number → Every (λ x. x.number < r.number) reads → ascends_from n (numbers (reads ++ r ∷ [])) ≡ true
last_from n [] r is lt below = and_from _ _ (lt-ltb n r.number lt) refl
last_from n (x ∷ xs) r is lt below =
    let parts = and_parts (nat_lt n x.number) (ascends_from x.number (numbers xs)) is in
    and_from _ _ parts.0 (last_from x.number xs r parts.1 below.0 below.1)

pub last_ascends : (reads : List Read) (r : Read) → ascends (numbers reads) ≡ true → Every (λ x. x.number < r.number) reads → ascends (numbers (reads ++ r ∷ [])) ≡ true
last_ascends [] r is below = refl
last_ascends (x ∷ xs) r is below = last_from x.number xs r is below.0 below.1

-- no number stands twice
abbrev pub AreApart : List ℕ → Type 0
AreApart [] = Unit {0}
AreApart (n ∷ ns) = Every (λ m. m ≢ n) ns × AreApart ns

all_above : (n m : ℕ) (ms : List ℕ) → n ≤ m → ascends_from m ms ≡ true → Every (λ k. k ≢ n) ms × AreApart ms
all_above n m [] le is = (tt, tt)
all_above n m (k ∷ ks) le is =
    let parts = and_parts (nat_lt m k) (ascends_from k ks) is in
    let low : m < k = ltb-true m k parts.0 in
    ((λ same. omega (arith, le, low, same), (all_above n k ks (omega (arith, le, low)) parts.1).0), all_above k k ks (omega arith) parts.1)

pub apart_of : (ns : List ℕ) → ascends ns ≡ true → AreApart ns
apart_of [] is = tt
apart_of (n ∷ ns) is = all_above n n ns (omega arith) is

pub apart_append : (xs ys : List ℕ) → AreApart xs → AreApart ys → Every (λ x. Every (λ y. y ≢ x) ys) xs → AreApart (xs ++ ys)
apart_append [] ys a b across = b
apart_append (x ∷ xs) ys a b across = (every_append (λ m. m ≢ x) xs ys a.0 across.0, apart_append xs ys a.1 b across.1)

pub same_place : (ns : List ℕ) → AreApart ns → (j k n : ℕ) → slice_get ns j ≡ Some n → slice_get ns k ≡ Some n → j ≡ k
same_place [] a j k n at_j at_k = absurd (grind (arith, at_j))
same_place (m ∷ ms) a zero zero n at_j at_k = refl
same_place (m ∷ ms) a zero (suc k) n at_j at_k = absurd (every_get (λ x. x ≢ m) ms k n a.0 at_k (sym (same_Some m n at_j)))
same_place (m ∷ ms) a (suc j) zero n at_j at_k = absurd (every_get (λ x. x ≢ m) ms j n a.0 at_j (sym (same_Some m n at_k)))
same_place (m ∷ ms) a (suc j) (suc k) n at_j at_k = ap suc (same_place ms a.1 j k n at_j at_k)

pub apart_by_place : (ns : List ℕ) → ((j k n : ℕ) → slice_get ns j ≡ Some n → slice_get ns k ≡ Some n → j ≡ k) → AreApart ns
apart_by_place [] once = tt
apart_by_place (n ∷ ns) once = (
  every_place (λ m. m ≢ n) ns (λ k m at same. absurd (omega (arith, once 0 (suc k) n refl (at ∙ ap Some same)))),
  apart_by_place ns (λ j k m at_j at_k. let e = once (suc j) (suc k) m at_j at_k in omega (arith, e)),
)

pub mapped_get : {X Y : Type 0} → (f : X → Y) (xs : List X) (k : ℕ) (x : X) → slice_get xs k ≡ Some x → slice_get (map f xs) k ≡ Some (f x)
mapped_get f [] k x at = absurd (grind (arith, at))
mapped_get f (y ∷ ys) zero x at = ap (λ z. Some (f z)) (same_Some y x at)
mapped_get f (y ∷ ys) (suc k) x at = mapped_get f ys k x at

pub got_mapped : {X Y : Type 0} → (f : X → Y) (xs : List X) (k : ℕ) (y : Y) → slice_get (map f xs) k ≡ Some y → (x : X) × (slice_get xs k ≡ Some x) × (f x ≡ y)
got_mapped f [] k y at = absurd (grind (arith, at))
got_mapped f (x ∷ xs) zero y at = (x, refl, same_Some (f x) y at)
got_mapped f (x ∷ xs) (suc k) y at = got_mapped f xs k y at

-- two reads of the list that have a number are one
pub same_read : (reads : List Read) → ascends (numbers reads) ≡ true → (j k : ℕ) (a b : Read) → slice_get reads j ≡ Some a → slice_get reads k ≡ Some b → a.number ≡ b.number → a ≡ b
same_read reads is j k a b at_j at_k same =
    let place = same_place (numbers reads) (apart_of (numbers reads) is) j k b.number (mapped_get (λ r. r.number) reads j a at_j ∙ ap Some same) (mapped_get (λ r. r.number) reads k b at_k) in
    same_Some a b (sym at_j ∙ ap (slice_get reads) place ∙ at_k)

-- a read of those that pass a test
pub record Passes (test : Read → Bool) (reads : List Read) (n : ℕ) : Type 0 where
  pub place : ℕ
  pub read : Read
  pub there : slice_get reads place ≡ Some read
  pub numbered : read.number ≡ n
  pub passes : test read ≡ true

pub passed : (test : Read → Bool) (reads : List Read) (n : ℕ) → HasReadNumber (filter test reads) n → Passes test reads n
passed test reads n h =
    of_each (Passes test reads) (filter test reads)
    (every_filter (λ r. Passes test reads r.number) test reads
    (every_place (λ r. test r ≡ true → Passes test reads r.number) reads (λ k r at is. record { place = k; read = r; there = at; numbered = refl; passes = is }))) n h
