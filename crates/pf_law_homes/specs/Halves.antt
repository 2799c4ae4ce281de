-- Where the halves of positions lie.
use Rattle.std.specs.Prelude.{ℕ, ◌*◌}
use Rattle.pf_journal.specs.Layouts.{LayoutIs, place_on}

-- the first sector of a half
abbrev pub half_on : LayoutIs → (anchor position half : ℕ) → ℕ
half_on l anchor position half = place_on l anchor position (8 * half)
