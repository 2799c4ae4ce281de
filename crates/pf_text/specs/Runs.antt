-- Maximal runs of equal bytes, and their text.
use Rattle.std.specs.Prelude.{ℕ, ◌+◌, ◌/◌, ◌%◌, ◌==◌, if◌then◌else◌, List, [], ◌∷◌, map, codes}
use Rattle.std.specs.Char.{digit_char}
use Rattle.std.specs.Fmt.{decimal}
use Rattle.std.specs.List.{join_with_byte}

-- a maximal run of equal bytes, and its length
pub record Stretch : Type 0 where
  pub byte : ℕ
  pub count : ℕ

-- one byte in front of runs
abbrev pub joined : ℕ → List Stretch → List Stretch
joined byte [] = record { byte = byte; count = 1 } ∷ []
joined byte (s ∷ rest) =
    if byte == s.byte then record { byte = byte; count = s.count + 1 } ∷ rest
    else record { byte = byte; count = 1 } ∷ s ∷ rest

abbrev pub runs_of : List ℕ → List Stretch
runs_of [] = []
runs_of (byte ∷ bytes) = joined byte (runs_of bytes)

-- a byte in two hexadecimal digits of lower case, a star, and the length
abbrev pub stretch_text : Stretch → List ℕ
stretch_text s = digit_char (s.byte / 16) ∷ digit_char (s.byte % 16) ∷ 42 ∷ decimal s.count

-- with a space between each two
abbrev pub joined_text : List Stretch → List ℕ
joined_text runs = join_with_byte 32 (map stretch_text runs)

-- the text of bytes, which is `none` where there are none
abbrev pub runs_text : List ℕ → List ℕ
runs_text [] = codes "none"
runs_text (byte ∷ bytes) = joined_text (runs_of (byte ∷ bytes))
