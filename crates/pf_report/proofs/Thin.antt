-- The bytes of sectors of which some were never written.
use Rattle.std.proofs.Common.{◌≡◌, ℕ, zero, suc, ◌+◌, ◌-◌, ◌*◌, List, ◌++◌, length, replicate, refl, ap, ◌∙◌, arith}
use Rattle.std.proofs.lemmas.List.{replicate-append-replicate}
use Rattle.std.proofs.lemmas.Grind.{flat_map-append}
use Rattle.pf_entry.specs.Ops.{Sector}
use Rattle.pf_server_tables.specs.Thin.{thin}
use Rattle.pf_report.specs.Texts.{joined_bytes}

zero_bytes : (n : ℕ) → joined_bytes (replicate n (replicate 512 0)) ≡ replicate (512 * n) 0
zero_bytes zero = refl
zero_bytes (suc n) =
    let all : 512 + 512 * n ≡ 512 * suc n = omega arith in
    ap (λ (bytes : List ℕ). replicate 512 0 ++ bytes) (zero_bytes n) ∙ replicate-append-replicate 512 (512 * n) 0 ∙ ap (λ k. replicate k 0) all

pub thin_bytes : (written : List Sector) (count : ℕ) → joined_bytes (thin written count) ≡ joined_bytes written ++ replicate (512 * (count - length written)) 0
thin_bytes written count =
    flat_map-append (λ bytes. bytes) written (replicate (count - length written) (replicate 512 0))
    ∙ ap (λ (bytes : List ℕ). joined_bytes written ++ bytes) (zero_bytes (count - length written))
