-- The numbers that words spell.
use Rattle.std.specs.Prelude.{ℕ, ◌+◌, ◌*◌, ◌^◌, nat_lt, ◌&&◌, if◌then◌else◌, List, [], ◌∷◌, length, Option, Some, None}
use Rattle.std.specs.Char.{digit_value, is_digit, is_ascii_digit}
use Rattle.std.specs.List.{list_all}
use Rattle.std.specs.Str.Parse.{digits_value}

-- one or more decimal digits, with a value below 2 ^ 64
unfoldable pub decimal_number : List ℕ → Option ℕ
decimal_number word =
    if nat_lt 0 (length word) && list_all is_ascii_digit word && nat_lt (digits_value 10 word) (2 ^ 64)
    then Some (digits_value 10 word)
    else None

-- two hexadecimal digits, of either case
unfoldable pub hex_number : List ℕ → Option ℕ
hex_number (high ∷ low ∷ []) = if is_digit high 16 && is_digit low 16 then Some (16 * digit_value high + digit_value low) else None
hex_number word = None
