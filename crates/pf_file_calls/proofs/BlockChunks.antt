-- A block lies in one chunk.
use Rattle.std.proofs.Common.{◌≡◌, ℕ, ◌+◌, ◌*◌, ◌/◌, ◌%◌, ◌<◌, ◌≤◌, true, ap, ◌∙◌, arith}
use Rattle.std.proofs.lemmas.Nat.{mod-mul-add}
use Rattle.std.proofs.Math.Nat.{le-mul_of_pos_right}
use Rattle.std.proofs.lemmas.Bool.{le-leb, or_right}
use Rattle.pf_base.specs.Span.{IsWritable, fits_in}
use Rattle.pf_volume.specs.Volumes.{Extent, IsVolume, size_of}
use Rattle.pf_file_calls.specs.Blocks.{FitsIn, run_at}

module _ (n k : ℕ) (some : 0 < k) where
  -- eights, as eights of the k and a rest below them
  parts : 8 * n ≡ (n / k) * (8 * k) + 8 * (n % k)
  parts =
      let is : n ≡ k * (n / k) + n % k = omega (arith, some) in
      grind (arith, is)

  below : 8 * (n % k) + 8 ≤ 8 * k
  below = let less : n % k < k = omega (arith, some) in omega (arith, less)

  rest : (8 * n) % (8 * k) ≡ 8 * (n % k)
  rest = ap (λ m. m % (8 * k)) parts ∙ mod-mul-add (n / k) (8 * k) (8 * (n % k)) (let b = below in omega (arith, b))

pub block_fits : (v : Extent) (block : ℕ) → IsVolume v → block < size_of v / 8 → FitsIn v (8 * block) 8
block_fits v block is low =
    let k = is.blocks.0 in
    let s : v.sectors ≡ 8 * k = is.blocks.1 in
    let most = is.some_sectors in
    let some : 0 < k = omega (arith, s, most) in
    let r : (8 * block) % v.sectors ≡ 8 * (block % k) = ap (λ m. (8 * block) % m) s ∙ rest block k some in
    let b = below block k some in
    record { some = omega arith; few = omega arith; low = omega (arith, low); room = omega (arith, r, b, s) }

-- a run that fits one chunk is inside of the volume, where its first sector is
pub run_inside : (v : Extent) (first count : ℕ) → IsVolume v → FitsIn v first count → IsWritable (run_at v first count).first count × (fits_in (run_at v first count) v.sectors ≡ true)
run_inside v first count is fits = (
  record { some = fits.some; few = fits.few; low = (let a = fits.room in let b = is.few_sectors in omega (arith, a, b)) },
  or_right _ _ (le-leb _ _ fits.room),
)

-- a volume has a block
pub some_blocks : (v : Extent) → IsVolume v → 0 < size_of v / 8
some_blocks v is =
    let most = is.some_sectors in
    let more : v.sectors ≤ v.sectors * v.chunks = le-mul_of_pos_right v.sectors is.some_chunks in
    let turned : v.sectors * v.chunks ≡ v.chunks * v.sectors = grind arith in
    omega (arith, most, more, turned)
