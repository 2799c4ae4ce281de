-- Where the blocks of a layout lie in a volume.
use Rattle.std.proofs.Common.{◌≡◌, ℕ, zero, suc, ◌+◌, ◌*◌, ◌/◌, ◌%◌, ◌<◌, ◌≤◌, length, ap, refl, sym, ◌∙◌, arith, subst}
use Rattle.pf_volume.specs.Volumes.{Extent, IsVolume, size_of}
use Rattle.pf_law_positions.specs.Homes.{chunk_of_block, sector_of}
use Rattle.pf_law_positions.specs.Volumes.{home_of_position}
use Rattle.pf_journal.specs.declared.layouts.Layout.{Layout}
use Rattle.pf_journal.specs.declared.layouts.Layout.TheVariants.{Plain, Three}
use Rattle.pf_journal.specs.Layouts.{LayoutIs, plain_layout, three, layout_of, HasAnchors, VolumeHasRoom, base_of, place_on, home_on, IsLayout}
use Rattle.pf_journal.specs.Places.{place_of_block}
use Rattle.pf_journal.proofs.BlockPlaces.{less, quotient, rest}

-- places in the halves and the chunks of a volume, by an anchor that begins at a whole block
module _ (l : LayoutIs) (v : Extent) (is : IsVolume v) (anchor position b : ℕ) (base : base_of l anchor ≡ 8 * b) where
  abbrev k : ℕ
  k = is.blocks.0

  some : 0 < k
  some = let large = is.some_sectors in let sectors = is.blocks.1 in omega (arith, large, sectors)

  abbrev number : ℕ → ℕ
  number half = b + 1 + 2 * position + half

  half_is : (half : ℕ) → place_on l anchor position (8 * half) ≡ 8 * number half + 0
  half_is half = omega (arith, base)

  place_is : (mount : ℕ) → place_on l anchor position mount ≡ 8 * number (mount / 8) + mount % 8
  place_is mount = omega (arith, base)

  pub half_in : (half : ℕ) → (home_on l v.sectors anchor position).first half + 8 ≤ v.sectors
  half_in half =
      let n = number half in
      let first : (home_on l v.sectors anchor position).first half ≡ 8 * (n % k) + 0 = ap (λ x. x % v.sectors) (half_is half) ∙ ap (λ s. (8 * n + 0) % s) is.blocks.1 ∙ rest n k 0 some (omega arith) in
      let below = less n k 0 some (omega arith) in
      let sectors = is.blocks.1 in
      omega (arith, first, below, sectors)

  pub chunk_is : (mount : ℕ) → chunk_of_block (home_on l v.sectors anchor position) mount ≡ place_on l anchor position mount / v.sectors
  chunk_is mount =
      let n = number (mount / 8) in
      ap (λ x. x / v.sectors) (half_is (mount / 8)) ∙ ap (λ s. (8 * n + 0) / s) is.blocks.1 ∙ quotient n k 0 some (omega arith)
      ∙ sym (ap (λ x. x / v.sectors) (place_is mount) ∙ ap (λ s. (8 * n + mount % 8) / s) is.blocks.1 ∙ quotient n k (mount % 8) some (omega arith))

  pub sector_is : (mount : ℕ) → sector_of (home_on l v.sectors anchor position) mount ≡ place_on l anchor position mount % v.sectors
  sector_is mount =
      let n = number (mount / 8) in
      let whole = ap (λ x. x % v.sectors) (half_is (mount / 8)) ∙ ap (λ s. (8 * n + 0) % s) is.blocks.1 ∙ rest n k 0 some (omega arith) in
      let its = ap (λ x. x % v.sectors) (place_is mount) ∙ ap (λ s. (8 * n + mount % 8) % s) is.blocks.1 ∙ rest n k (mount % 8) some (omega arith) in
      omega (arith, whole, its)

pub chunk : (l : LayoutIs) (v : Extent) (anchor position mount : ℕ) → IsVolume v → IsLayout l v → anchor < length l.anchors → chunk_of_block (home_on l v.sectors anchor position) mount ≡ place_on l anchor position mount / v.sectors
chunk l v anchor position mount is layout la = let base = layout.whole anchor la in chunk_is l v is anchor position base.0 base.1 mount

pub sector : (l : LayoutIs) (v : Extent) (anchor position mount : ℕ) → IsVolume v → IsLayout l v → anchor < length l.anchors → sector_of (home_on l v.sectors anchor position) mount ≡ place_on l anchor position mount % v.sectors
sector l v anchor position mount is layout la = let base = layout.whole anchor la in sector_is l v is anchor position base.0 base.1 mount

-- the anchors of the two layouts
one_base : (anchor : ℕ) → anchor < 1 → base_of plain_layout anchor ≡ 0
one_base zero low = refl
one_base (suc n) low = absurd (omega (arith, low))

three_base : (anchor : ℕ) → anchor < 3 → base_of three anchor ≡ 4096 * anchor
three_base zero low = refl
three_base (suc zero) low = refl
three_base (suc (suc zero)) low = refl
three_base (suc (suc (suc n))) low = absurd (omega (arith, low))

same_half : (position half : ℕ) → 0 + (8 + 16 * position + 8 * half) ≡ 8 * (1 + 2 * position + half)
same_half position half = omega arith

pub plain_home : (sectors position : ℕ) → home_on plain_layout sectors 0 position ≡ home_of_position sectors position
plain_home sectors position i = record { chunk = λ half. ap (λ n. n / sectors) (same_half position half) i; first = λ half. ap (λ n. n % sectors) (same_half position half) i }

four_chunks : (anchor position half : ℕ) → anchor < 3 → position < 255 → half < 2 → place_on three anchor position (8 * half) ≡ anchor * 4096 + place_of_block position (8 * half)
four_chunks anchor position half la lp lh = let base = three_base anchor la in omega (arith, base)

pub anchor_chunk : (anchor position half : ℕ) → anchor < 3 → position < 255 → half < 2 → (home_on three 4096 anchor position).chunk half ≡ anchor
anchor_chunk anchor position half la lp lh = let is = four_chunks anchor position half la lp lh in omega (arith, is, la, lp, lh)

pub anchor_place : (anchor position half : ℕ) → anchor < 3 → position < 255 → half < 2 → (home_on three 4096 anchor position).first half ≡ place_of_block position (8 * half)
anchor_place anchor position half la lp lh = let is = four_chunks anchor position half la lp lh in omega (arith, is, la, lp, lh)

-- before the file data, so in a chunk of the volume
chunk_low : (l : LayoutIs) (v : Extent) → IsVolume v → (anchor position half : ℕ) → place_on l anchor position (8 * half) < size_of v → (home_on l v.sectors anchor position).chunk half < v.chunks
chunk_low l v is anchor position half low = let some = is.some_sectors in grind (arith, low, some)

plain_fits : (v : Extent) → IsVolume v → 4112 ≤ size_of v → IsLayout plain_layout v
plain_fits v is room = record {
  few = omega arith;
  quorum = record { enough = omega arith; meets = omega arith };
  whole = λ anchor la. (0, one_base anchor la);
  apart = λ anchor position mount other its whose here there same.
      let x = one_base anchor here.is_anchor in
      let y = one_base other there.is_anchor in
      (omega (arith, here.is_anchor, there.is_anchor), (omega (arith, same, x, y, here.is_mount, there.is_mount), omega (arith, same, x, y, here.is_mount, there.is_mount)));
  past_super = λ anchor position mount. omega arith;
  before_data = λ anchor position mount here. let x = one_base anchor here.is_anchor in omega (arith, x, here.is_position, here.is_mount);
  left = omega (arith, room);
  chunk = λ anchor position half la lp lh. let x = one_base anchor la in chunk_low plain_layout v is anchor position half (omega (arith, x, lp, lh, room));
  inside = λ anchor position half la lp lh. half_in plain_layout v is anchor position 0 (one_base anchor la) half;
}

three_fits : (v : Extent) → IsVolume v → HasAnchors v → IsLayout three v
three_fits v is has =
    let size : 16384 ≤ size_of v = let chunks = has.chunks in subst (λ s. 16384 ≤ v.chunks * s) (sym has.sectors) (omega (arith, chunks)) in
    record {
      few = omega arith;
      quorum = record { enough = omega arith; meets = omega arith };
      whole = λ anchor la. let base = three_base anchor la in (512 * anchor, omega (arith, base));
      apart = λ anchor position mount other its whose here there same.
          let x = three_base anchor here.is_anchor in
          let y = three_base other there.is_anchor in
          let one : anchor ≡ other = omega (arith, same, x, y, here.is_position, here.is_mount, there.is_position, there.is_mount) in
          (one, (omega (arith, one, same, x, y, here.is_mount, there.is_mount), omega (arith, one, same, x, y, here.is_mount, there.is_mount)));
      past_super = λ anchor position mount. omega arith;
      before_data = λ anchor position mount here. let x = three_base anchor here.is_anchor in omega (arith, x, here.is_anchor, here.is_position, here.is_mount);
      left = omega (arith, size);
      chunk = λ anchor position half la lp lh. let x = three_base anchor la in chunk_low three v is anchor position half (omega (arith, x, la, lp, lh, size));
      inside = λ anchor position half la lp lh. let base = three_base anchor la in half_in three v is anchor position (512 * anchor) (omega (arith, base)) half;
    }

pub fits : (layout : Layout) (v : Extent) → IsVolume v → VolumeHasRoom layout v → IsLayout (layout_of layout) v
fits Plain v is room = plain_fits v is room
fits Three v is room = three_fits v is room
