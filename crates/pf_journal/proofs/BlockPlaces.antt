-- Where blocks lie.
use Rattle.std.proofs.Common.{◌≡◌, ℕ, ◌+◌, ◌*◌, ◌/◌, ◌%◌, ◌<◌, ap, sym, ◌∙◌, arith}
use Rattle.std.proofs.lemmas.Nat.{div-mul-add, mod-mul-add}
use Rattle.pf_law_positions.specs.Homes.{chunk_of_block, sector_of}
use Rattle.pf_law_positions.specs.Volumes.{home_of_position}
use Rattle.pf_journal.specs.Places.{place_of_block}

pub apart : (position mount other its : ℕ) → mount < 16 → its < 16 → place_of_block position mount ≡ place_of_block other its → (position ≡ other) × (mount ≡ its)
apart position mount other its low its_low same = (omega arith, omega arith)

module _ (n k r : ℕ) (some : 0 < k) (low : r < 8) where
  pub less : n % k < k
  less = omega (arith, some)

  -- eights and a rest, as eights of the k and a rest below them
  parts : 8 * n + r ≡ (n / k) * (8 * k) + (8 * (n % k) + r)
  parts =
      let is : n ≡ k * (n / k) + n % k = omega (arith, some) in
      grind (arith, is)

  below : 8 * (n % k) + r < 8 * k
  below = let l = less in omega (arith, l, low)

  pub quotient : (8 * n + r) / (8 * k) ≡ n / k
  quotient = ap (λ m. m / (8 * k)) parts ∙ div-mul-add (n / k) (8 * k) (8 * (n % k) + r) below

  pub rest : (8 * n + r) % (8 * k) ≡ 8 * (n % k) + r
  rest = ap (λ m. m % (8 * k)) parts ∙ mod-mul-add (n / k) (8 * k) (8 * (n % k) + r) below

-- a place is that of its half and a rest
in_half : (position mount : ℕ) → place_of_block position mount ≡ 8 * (1 + 2 * position + mount / 8) + mount % 8
in_half position mount = omega arith

no_rest : (n : ℕ) → 8 * n ≡ 8 * n + 0
no_rest n = omega arith

pub chunk : (sectors blocks position mount : ℕ) → sectors ≡ 8 * blocks → 0 < blocks → chunk_of_block (home_of_position sectors position) mount ≡ place_of_block position mount / sectors
chunk sectors blocks position mount is some =
    let n = 1 + 2 * position + mount / 8 in
    ap (λ s. (8 * n) / s) is ∙ ap (λ m. m / (8 * blocks)) (no_rest n) ∙ quotient n blocks 0 some (omega arith)
    ∙ sym (ap (λ s. place_of_block position mount / s) is ∙ ap (λ m. m / (8 * blocks)) (in_half position mount) ∙ quotient n blocks (mount % 8) some (omega arith))

pub sector : (sectors blocks position mount : ℕ) → sectors ≡ 8 * blocks → 0 < blocks → sector_of (home_of_position sectors position) mount ≡ place_of_block position mount % sectors
sector sectors blocks position mount is some =
    let n = 1 + 2 * position + mount / 8 in
    let whole = ap (λ s. (8 * n) % s) is ∙ ap (λ m. m % (8 * blocks)) (no_rest n) ∙ rest n blocks 0 some (omega arith) in
    let its = ap (λ s. place_of_block position mount % s) is ∙ ap (λ m. m % (8 * blocks)) (in_half position mount) ∙ rest n blocks (mount % 8) some (omega arith) in
    omega (arith, whole, its)
