-- What is asked of a journal or the superblock lies in one chunk.
use Rattle.std.proofs.Common.{ℕ, zero, suc, ◌*◌, ◌%◌, ◌<◌, ◌≤◌, length, suc-mul, arith}
use Rattle.std.proofs.lemmas.Nat.{mod_below}
use Rattle.pf_volume.specs.Volumes.{Extent, IsVolume, size_of}
use Rattle.pf_file_calls.specs.Blocks.{FitsIn}
use Rattle.pf_journal.specs.Layouts.{HasPlace, IsLayout, LayoutIs, place_on}

-- one sector
one_fits : (v : Extent) (first : ℕ) → IsVolume v → first < size_of v → FitsIn v first 1
one_fits v first is low =
    let most = is.some_sectors in
    let below : first % v.sectors < v.sectors = mod_below first v.sectors (omega (arith, most)) in
    record { some = omega arith; few = omega arith; low = low; room = omega (arith, below) }

some_sectors : (chunks sectors : ℕ) → 1 ≤ chunks → 0 < sectors → 0 < chunks * sectors
some_sectors zero sectors some low = absurd (omega (arith, some))
some_sectors (suc n) sectors some low = omega (arith, suc-mul n sectors, low)

pub super_low : (v : Extent) → IsVolume v → 0 < size_of v
super_low v is = let most = is.some_sectors in some_sectors v.chunks v.sectors is.some_chunks (omega (arith, most))

pub fits_super : (v : Extent) → IsVolume v → FitsIn v 0 1
fits_super v is = one_fits v 0 is (super_low v is)

module _ (l : LayoutIs) (v : Extent) (is : IsVolume v) (has : IsLayout l v) (anchor position : ℕ) (low : anchor < length l.anchors) (there : position < l.positions) where
  pub has_place : (mount : ℕ) → mount < 16 → HasPlace l anchor position mount
  has_place mount small = record { is_anchor = low; is_position = there; is_mount = small }

  pub low_place : (mount : ℕ) → mount < 16 → place_on l anchor position mount < size_of v
  low_place mount small =
      let before = has.before_data anchor position mount (has_place mount small) in
      let left = has.left in
      omega (arith, before, left)

  pub fits_half : (half : ℕ) → half < 2 → FitsIn v (place_on l anchor position (8 * half)) 8
  fits_half half small = record { some = omega arith; few = omega arith; low = low_place (8 * half) (omega (arith, small)); room = has.inside anchor position half low there small }

  pub fits_one : (mount : ℕ) → mount < 16 → FitsIn v (place_on l anchor position mount) 1
  fits_one mount small = one_fits v (place_on l anchor position mount) is (low_place mount small)
