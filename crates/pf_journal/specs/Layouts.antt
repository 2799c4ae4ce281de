-- Where the journal of a volume lies: at some anchors, of which ballots and syncs need a quorum.
use Rattle.std.specs.Prelude.{◌≡◌, ℕ, ◌+◌, ◌*◌, ◌/◌, ◌%◌, ◌<◌, ◌≤◌, Bool, true, false, List, [], ◌∷◌, length, slice_index_or}
use Rattle.pf_base.specs.Sizes.{first_data_block}
use Rattle.pf_volume.specs.Volumes.{Extent, size_of}
use Rattle.pf_paxos.specs.BallotStanding.{IsQuorum}
use Rattle.pf_law_positions.specs.Homes.{PositionHome}
use Rattle.pf_journal.specs.declared.layouts.Layout.{Layout}
use Rattle.pf_journal.specs.declared.layouts.Layout.TheVariants.{Plain, Three}
use Rattle.pf_journal.specs.Places.{place_of_block}

pub record LayoutIs : Type 0 where
  pub anchors : List ℕ  -- of each anchor the sector from which its places are counted
  pub quorum : ℕ  -- so many of the anchors a ballot and a sync need
  pub positions : ℕ
  pub first : ℕ  -- the first block of file data, of eight sectors
  pub has_super : Bool  -- whether the first sector is a superblock, which is read before the first sync

-- one anchor, which is the volume itself
abbrev pub plain_layout : LayoutIs
plain_layout = record { anchors = 0 ∷ []; quorum = 1; positions = 256; first = first_data_block; has_super = true }

-- three anchors, which are the first three chunks of 4,096 sectors
abbrev pub three : LayoutIs
three = record { anchors = 0 ∷ 4096 ∷ 8192 ∷ []; quorum = 2; positions = 255; first = 1536; has_super = false }

abbrev pub layout_of : Layout → LayoutIs
layout_of Plain = plain_layout
layout_of Three = three

-- some chunk behind the three anchors has file data
pub record HasAnchors (v : Extent) : Type 0 where
  pub chunks : 4 ≤ v.chunks
  pub sectors : v.sectors ≡ 4096

-- how many sectors a volume has at least that has the journal at one place: its superblock, its 256 positions, and a block of file data
abbrev pub least_sectors : ℕ
least_sectors = 4112

-- a volume has room for it
abbrev pub VolumeHasRoom : Layout → Extent → Type 0
VolumeHasRoom Plain v = least_sectors ≤ size_of v
VolumeHasRoom Three v = HasAnchors v

-- at each anchor a block has the place that it has in a journal at one place
abbrev pub base_of : LayoutIs → (anchor : ℕ) → ℕ
base_of l anchor = slice_index_or l.anchors anchor 0

abbrev pub place_on : LayoutIs → (anchor position mount : ℕ) → ℕ
place_on l anchor position mount = base_of l anchor + place_of_block position mount

-- there is such a block
pub record HasPlace (l : LayoutIs) (anchor position mount : ℕ) : Type 0 where
  pub is_anchor : anchor < length l.anchors
  pub is_position : position < l.positions
  pub is_mount : mount < 16

-- where the halves of a position lie at an anchor, in a volume of chunks of so many sectors
abbrev pub home_on : LayoutIs → (sectors anchor position : ℕ) → PositionHome
home_on l sectors anchor position = record {
  chunk = λ half. place_on l anchor position (8 * half) / sectors;
  first = λ half. place_on l anchor position (8 * half) % sectors;
}

-- It is a layout of the volume. Any two quorums share an anchor, the places of different blocks are apart, past the superblock and before the
-- file data, of which the volume has some, and each half lies in one chunk of the volume.
pub record IsLayout (l : LayoutIs) (v : Extent) : Type 0 where
  pub few : length l.anchors ≤ 3
  pub quorum : IsQuorum (length l.anchors) l.quorum
  pub whole : (anchor : ℕ) → anchor < length l.anchors → (blocks : ℕ) × (base_of l anchor ≡ 8 * blocks)
  pub apart : (anchor position mount other its whose : ℕ) → HasPlace l anchor position mount → HasPlace l other its whose
      → place_on l anchor position mount ≡ place_on l other its whose → (anchor ≡ other) × ((position ≡ its) × (mount ≡ whose))
  pub past_super : (anchor position mount : ℕ) → 8 ≤ place_on l anchor position mount
  pub before_data : (anchor position mount : ℕ) → HasPlace l anchor position mount → place_on l anchor position mount < 8 * l.first
  pub left : 8 * l.first < size_of v
  pub chunk : (anchor position half : ℕ) → anchor < length l.anchors → position < l.positions → half < 2
      → (home_on l v.sectors anchor position).chunk half < v.chunks
  pub inside : (anchor position half : ℕ) → anchor < length l.anchors → position < l.positions → half < 2
      → (home_on l v.sectors anchor position).first half + 8 ≤ v.sectors
