-- The places of a layout are apart, and file data lie behind them.
use Rattle.std.proofs.Common.{◌≡◌, ℕ, ◌+◌, ◌*◌, ◌/◌, ◌%◌, ◌<◌, length, arith, sym, ap, ap₂, ◌∙◌}
use Rattle.std.proofs.lemmas.Nat.{div-add-mod', div-mul-add, mod-mul-add}
use Rattle.pf_volume.specs.Volumes.{Extent}
use Rattle.pf_journal.specs.Layouts.{HasPlace, IsLayout, LayoutIs, place_on}
use Rattle.pf_law_homes.specs.Halves.{half_on}

-- a sector of a volume is one of one chunk
pub one_sector : (s x z : ℕ) → x / s ≡ z / s → x % s ≡ z % s → x ≡ z
one_sector s x z chunk place = sym (div-add-mod' x s) ∙ ap₂ (λ c p. c * s + p) chunk place ∙ div-add-mod' z s

-- a whole block of eight lies in one chunk, where chunks are of whole blocks
module _ (n i k : ℕ) (some : 0 < k) (low : i < 8) where
  split : 8 * n + i ≡ (n / k) * (8 * k) + (8 * (n % k) + i)
  split =
      let parts : n ≡ k * (n / k) + n % k = omega (arith, some) in
      grind (arith, parts)

  less : 8 * (n % k) + i < 8 * k
  less = let below : n % k < k = omega (arith, some) in omega (arith, below, low)

  block_chunk : (8 * n + i) / (8 * k) ≡ n / k
  block_chunk = ap (λ x. x / (8 * k)) split ∙ div-mul-add (n / k) (8 * k) (8 * (n % k) + i) less

  block_place : (8 * n + i) % (8 * k) ≡ 8 * (n % k) + i
  block_place = ap (λ x. x % (8 * k)) split ∙ mod-mul-add (n / k) (8 * k) (8 * (n % k) + i) less

module _ (s k : ℕ) (is : s ≡ 8 * k) (some : 0 < k) (x : ℕ) (eight : x % 8 ≡ 0) (i : ℕ) (low : i < 8) where
  n : ℕ
  n = x / 8

  parts : x + i ≡ 8 * n + i
  unfolding n
  parts = omega (arith, eight)

  first : x ≡ 8 * n + 0
  unfolding n
  first = omega (arith, eight)

  -- the block's sectors lie where it begins, one behind the other
  pub same_chunk : (x + i) / s ≡ x / s
  same_chunk =
      ap₂ (λ a b. a / b) parts is ∙ block_chunk n i k some low
      ∙ sym (ap₂ (λ a b. a / b) first is ∙ block_chunk n 0 k some (omega arith))

  pub next_place : (x + i) % s ≡ x % s + i
  next_place =
      let here = ap₂ (λ a b. a % b) parts is ∙ block_place n i k some low in
      let begins = ap₂ (λ a b. a % b) first is ∙ block_place n 0 k some (omega arith) in
      omega (arith, here, begins)

  -- a block begins at a block of its chunk, and lies in it
  pub whole_piece : x % s ≡ 8 * ((x / 8) % k)
  unfolding n
  whole_piece = let begins = ap₂ (λ a b. a % b) first is ∙ block_place n 0 k some (omega arith) in omega (arith, begins)

module _ (l : LayoutIs) (v : Extent) (is : IsLayout l v) where
  -- each half is a block
  pub half_eight : (a q h : ℕ) → a < length l.anchors → half_on l a q h % 8 ≡ 0
  half_eight a q h low = let base = is.whole a low in let eight = base.1 in omega (arith, eight)

  -- no two blocks have one place
  pub record IsSame (p a u q m k : ℕ) : Type 0 where
    pub anchor : p ≡ a
    pub position : u ≡ q
    pub mount : m ≡ k

  has_place : (a q m : ℕ) → a < length l.anchors → q < l.positions → m < 16 → HasPlace l a q m
  has_place a q m low_a low_q low_m = record { is_anchor = low_a; is_position = low_q; is_mount = low_m }

  pub one_place : (p a u q m k : ℕ) → p < length l.anchors → a < length l.anchors → u < l.positions → q < l.positions → m < 16 → k < 16 → place_on l p u m ≡ place_on l a q k → IsSame p a u q m k
  one_place p a u q m k low_p low_a low_u low_q low_m low_k same =
      let its = is.apart p u m a q k (has_place p u m low_p low_u low_m) (has_place a q k low_a low_q low_k) same in
      record { anchor = its.0; position = its.1.0; mount = its.1.1 }

  -- file data lie behind
  pub place_before : (a q m : ℕ) → a < length l.anchors → q < l.positions → m < 16 → place_on l a q m < 8 * l.first
  place_before a q m low_a low_q low_m = is.before_data a q m (has_place a q m low_a low_q low_m)
