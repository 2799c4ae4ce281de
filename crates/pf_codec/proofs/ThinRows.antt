-- Sectors of zeros, one after the other.
use Rattle.std.proofs.Common.{◌≡◌, ℕ, zero, suc, ◌*◌, ◌+◌, List, ◌++◌, replicate, refl, sym, ap, ◌∙◌, arith}
use Rattle.std.proofs.lemmas.List.{replicate-append-replicate}
use Rattle.std.proofs.lemmas.Grind.{flat_map-append}
use Rattle.pf_codec.specs.Spelling.{sectors_in_row}

zeros_in_row : (n : ℕ) → sectors_in_row (replicate n (replicate 512 0)) ≡ replicate (512 * n) 0
zeros_in_row zero = refl
zeros_in_row (suc n) =
    let count : 512 + 512 * n ≡ 512 * suc n = omega arith in
    ap (λ (bytes : List ℕ). replicate 512 0 ++ bytes) (zeros_in_row n) ∙ replicate-append-replicate 512 (512 * n) 0 ∙ ap (λ k. replicate k 0) count

pub thin_in_row : (written : List (List ℕ)) (n : ℕ) → sectors_in_row written ++ replicate (512 * n) 0 ≡ sectors_in_row (written ++ replicate n (replicate 512 0))
thin_in_row written n =
    ap (λ (bytes : List ℕ). sectors_in_row written ++ bytes) (sym (zeros_in_row n)) ∙ sym (flat_map-append (λ sector. sector) written (replicate n (replicate 512 0)))
