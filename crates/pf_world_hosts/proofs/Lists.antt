-- Lists of numbers in a row.
use Rattle.std.proofs.Common.{◌≡◌, ℕ, zero, suc, ◌+◌, ◌∷◌, ◌++◌, ap, ◌∙◌, arith}
use Rattle.std.specs.List.{range_with_len}

-- so many numbers, and then so many more
pub range_parts : (a n m : ℕ) → range_with_len a (n + m) ≡ range_with_len a n ++ range_with_len (a + n) m
range_parts a zero m =
    let none : 0 + m ≡ m = omega arith in
    let here : a ≡ a + 0 = omega arith in
    ap (range_with_len a) none ∙ ap (λ b. range_with_len b m) here
range_parts a (suc n) m =
    let more : suc n + m ≡ suc (n + m) = omega arith in
    let after : a + 1 + n ≡ a + suc n = omega arith in
    ap (range_with_len a) more
    ∙ ap (λ rest. a ∷ rest) (range_parts (a + 1) n m ∙ ap (λ b. range_with_len (a + 1) n ++ range_with_len b m) after)
