-- Bytes as texts of an XML document.
use Rattle.std.specs.Prelude.{ℕ, ◌/◌, ◌%◌, ◌==◌, nat_le, nat_lt, ◌&&◌, if◌then◌else◌, List, [], ◌∷◌, ◌++◌, codes, length, take}
use Rattle.std.specs.Char.{digit_char}
use Rattle.std.specs.List.{flat_map}

-- printable ASCII as it is, any other byte as `\x` and two hexadecimal digits of lower case
abbrev pub shown_byte : ℕ → List ℕ
shown_byte byte = if nat_le 32 byte && nat_le byte 126 then byte ∷ [] else 92 ∷ 120 ∷ digit_char (byte / 16) ∷ digit_char (byte % 16) ∷ []

abbrev pub shown_text : List ℕ → List ℕ
shown_text bytes = flat_map shown_byte bytes

-- so that at most so many characters are left, of which two dots tell that more stood there
abbrev pub cut_text : (most : ℕ) → List ℕ → List ℕ
cut_text most bytes = if nat_lt most (length (shown_text bytes)) then take most (shown_text bytes) ++ codes ".." else shown_text bytes

-- the characters that XML reads as markup are spelled by their names
abbrev pub xml_byte : ℕ → List ℕ
xml_byte byte =
    if byte == 38 then codes "&amp;"
    else if byte == 60 then codes "&lt;"
    else if byte == 62 then codes "&gt;"
    else if byte == 34 then codes "&quot;"
    else shown_byte byte

abbrev pub xml_text : List ℕ → List ℕ
xml_text bytes = flat_map xml_byte bytes
