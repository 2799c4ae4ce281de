-- The sectors of a write behind other bytes.
use Rattle.std.specs.Prelude.{◌≡◌, ℕ, ◌≤◌, List, [], ◌++◌, length, take, Option, Some, None}
use Rattle.pf_codec.specs.Spelling.{sectors_in_row}

-- where there are some
abbrev pub tail_bytes : Option (List (List ℕ)) → List ℕ
tail_bytes None = []
tail_bytes (Some payload) = sectors_in_row payload

-- where they are a part of other bytes, they end at this byte of those
abbrev pub IsAmong : List ℕ → Option (List ℕ) → ℕ → Type 0
IsAmong rest None end = Unit {0}
IsAmong rest (Some whole) end = (end ≤ length whole) × ((front : List ℕ) × (take end whole ≡ front ++ rest))
