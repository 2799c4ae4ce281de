-- Where the blocks of a journal lie.
use Rattle.std.specs.Prelude.{ℕ, ◌+◌, ◌*◌}

-- Past the superblock's block of eight sectors, each position has sixteen blocks of one sector each, one for each mount. The sectors of the
-- volume are numbered through its chunks
abbrev pub place_of_block : (position mount : ℕ) → ℕ
place_of_block position mount = 8 + 16 * position + mount
