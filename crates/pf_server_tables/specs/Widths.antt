-- Ranges within a chunk.
use Rattle.std.specs.Prelude.{ℕ, if◌then◌else◌}
use Rattle.pf_base.specs.Span.{Span, is_whole}

-- the count of sectors that a range names in a chunk of so many
abbrev pub width_in : Span → ℕ → ℕ
width_in span sectors = if is_whole span then sectors else span.count
