-- What lists of writes leave, and places in parts of a list.
use Rattle.std.proofs.Common.{◌≡◌, ℕ, zero, suc, ◌+◌, ◌-◌, ◌<◌, ◌≤◌, List, [], ◌∷◌, length, map, take, drop, Some, slice_get, arith, refl, sym, ap, ◌∙◌, length-drop}
use Rattle.std.proofs.lemmas.List.{length-take-le}
use Rattle.pf_entry.specs.Ops.{Sector}
use Rattle.pf_law_registers.specs.Registers.{left_by_writes}
use Rattle.pf_law_registers.proofs.Lists.{left_in_taken, left_after, taken_get, dropped_there}

-- the writes of a part, over what those before it leave
pub left_in_part : (old : Sector) (xs : List Sector) (made kept n : ℕ) → made ≤ n → n ≤ kept → kept ≤ length xs → left_by_writes (left_by_writes old xs made) (drop made (take kept xs)) (n - made) ≡ left_by_writes old xs n
left_in_part old xs made kept n low high within =
    let e : made + (n - made) ≡ n = omega (arith, low) in
    ap (λ s. left_by_writes s (drop made (take kept xs)) (n - made)) (sym (left_in_taken old xs kept made (omega (arith, low, high))))
    ∙ left_after old (take kept xs) made (n - made) (omega (arith, low, high, length-take-le kept xs within))
    ∙ ap (left_by_writes old (take kept xs)) e
    ∙ left_in_taken old xs kept n high

pub part_length : {X : Type 0} → (xs : List X) (made kept : ℕ) → kept ≤ length xs → length (drop made (take kept xs)) ≡ kept - made
part_length xs made kept within = length-drop made (take kept xs) ∙ ap (λ n. n - made) (length-take-le kept xs within)

pub taken_there : {X : Type 0} → (xs : List X) (n k : ℕ) → k < n → slice_get (take n xs) k ≡ slice_get xs k
taken_there xs zero k lt = absurd (omega (arith, lt))
taken_there [] (suc n) k lt = refl
taken_there (x ∷ xs) (suc n) zero lt = refl
taken_there (x ∷ xs) (suc n) (suc k) lt = taken_there xs n k (omega (arith, lt))

-- an element of a part stands in the list
pub record IsInside {X : Type 0} (xs : List X) (made kept k : ℕ) (x : X) : Type 0 where
  pub below : made + k < kept
  pub at : slice_get xs (made + k) ≡ Some x

pub inside_list : {X : Type 0} → (xs : List X) (made kept k : ℕ) (x : X) → slice_get (drop made (take kept xs)) k ≡ Some x → IsInside xs made kept k x
inside_list xs made kept k x at =
    let p = taken_get kept xs (made + k) x (sym (dropped_there made (take kept xs) k) ∙ at) in
    record { below = p.0; at = p.1 }

pub inside_part : {X : Type 0} → (xs : List X) (made kept place : ℕ) (x : X) → made ≤ place → place < kept → slice_get xs place ≡ Some x → slice_get (drop made (take kept xs)) (place - made) ≡ Some x
inside_part xs made kept place x low lt at =
    let e : made + (place - made) ≡ place = omega (arith, low) in
    dropped_there made (take kept xs) (place - made) ∙ ap (slice_get (take kept xs)) e ∙ taken_there xs kept place lt ∙ at

pub map_taken : {X Y : Type 0} → (f : X → Y) (n : ℕ) (xs : List X) → map f (take n xs) ≡ take n (map f xs)
map_taken f zero xs = refl
map_taken f (suc n) [] = refl
map_taken f (suc n) (x ∷ xs) = ap (λ ys. f x ∷ ys) (map_taken f n xs)

pub map_dropped : {X Y : Type 0} → (f : X → Y) (n : ℕ) (xs : List X) → map f (drop n xs) ≡ drop n (map f xs)
map_dropped f zero xs = refl
map_dropped f (suc n) [] = refl
map_dropped f (suc n) (x ∷ xs) = map_dropped f n xs
