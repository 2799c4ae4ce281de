-- Chunks at the front of a list.
use Rattle.std.proofs.Common.{◌≡◌, ℕ, zero, suc, ◌+◌, ◌*◌, ◌-◌, ◌/◌, ◌≤◌, List, ◌∷◌, ◌++◌, length, take, drop, refl, ap, ◌∙◌, arith}
use Rattle.std.specs.Simd.{first_chunks}
use Rattle.std.proofs.lemmas.List.{length-drop, take_all, take-append-le, drop-append-le}

pub take_chunks : {X : Type 0} (n k m : ℕ) (xs : List X) → k ≤ m → take k (first_chunks n m xs) ≡ first_chunks n k xs
take_chunks n zero m xs h = refl
take_chunks n (suc k) zero xs h = absurd (omega (arith, h))
take_chunks n (suc k) (suc m) xs h = ap (λ rest. take n xs ∷ rest) (take_chunks n k m (drop n xs) (omega (arith, h)))

pub length-chunks : {X : Type 0} (n k : ℕ) (xs : List X) → length (first_chunks n k xs) ≡ k
length-chunks n zero xs = refl
length-chunks n (suc k) xs = ap suc (length-chunks n k (drop n xs))

-- what stands behind them does not count
pub chunks_front : {X : Type 0} (k : ℕ) (xs ys : List X) → 512 * k ≤ length xs → first_chunks 512 k (xs ++ ys) ≡ first_chunks 512 k xs
chunks_front zero xs ys h = refl
chunks_front (suc k) xs ys h =
    let first = take-append-le 512 xs ys (omega (arith, h)) in
    let rest = drop-append-le 512 xs ys (omega (arith, h)) in
    let more = chunks_front k (drop 512 xs) ys (omega (arith, h, length-drop 512 xs)) in
    rw (first, rest, more) refl

-- what is left behind the first k
all_left : (k : ℕ) (xs : List ℕ) → take (length xs - k) (drop k xs) ≡ drop k xs
all_left k xs = take_all _ (drop k xs) (omega (arith, length-drop k xs))

pub chunks_behind : (n from : ℕ) (bytes left : List ℕ) (whole : List (List ℕ)) → from + 512 * n ≤ length bytes → left ≡ take (length bytes - from) (drop from bytes) → whole ≡ first_chunks 512 (length left / 512) left → take n whole ≡ first_chunks 512 n (drop from bytes)
chunks_behind n from bytes left whole h is front =
    let same = is ∙ all_left from bytes in
    ap (take n) front ∙ take_chunks 512 n (length left / 512) left (omega (arith, h, length-drop from bytes, ap length same)) ∙ ap (first_chunks 512 n) same
