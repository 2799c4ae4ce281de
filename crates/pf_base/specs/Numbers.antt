-- Numbers as bytes, the highest byte first.
use Rattle.std.specs.Prelude.{ℕ, ◌+◌, nat_le, if◌then◌else◌, List, length, Option, Some, None}
use Rattle.std.specs.Int.{Width, byte_len, from_be_bytes}
use Rattle.std.specs.List.{slice_range}

-- the number of this width that stands in bytes from one of them on, unless they end before
abbrev pub number_at : Width → List ℕ → ℕ → Option ℕ
number_at w bytes at =
    if nat_le (at + byte_len w) (length bytes) then Some (from_be_bytes w (slice_range bytes at (at + byte_len w))) else None
