-- Pieces of chunks in which file data lie.
use Rattle.std.specs.Prelude.{Bool, ℕ, ◌+◌, ◌*◌, ◌&&◌, nat_le, nat_lt}
use Rattle.pf_volume.specs.Volumes.{Extent}
use Rattle.pf_journal.specs.declared.layouts.Layout.{Layout}
use Rattle.pf_journal.specs.Layouts.{layout_of}

-- a piece of eight sectors of a chunk lies at or behind the first block of file data
abbrev pub is_data_piece : Layout → Extent → (chunk piece : ℕ) → Bool
is_data_piece layout v chunk piece =
    nat_lt chunk v.chunks && nat_lt (8 * piece) v.sectors && nat_le (8 * (layout_of layout).first) (v.sectors * chunk + 8 * piece)
