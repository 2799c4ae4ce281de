-- The line that a number draws.
use Rattle.std.specs.Prelude.{ℕ, nat_lt, ◌==◌, if◌then◌else◌, List, [], ◌∷◌, ◌++◌, codes}
use Rattle.std.specs.Fmt.{decimal}
use Rattle.hex.specs.Hex.{encode_lower}
use Rattle.pf_gen.specs.Draws.{kind, group, server, sector, count, byte_drawn}

-- a space and a number
abbrev pub spaced : ℕ → List ℕ
spaced n = 32 ∷ decimal n

-- a verb, a group and a server
abbrev pub server_words : List ℕ → ℕ → List ℕ
server_words verb x = verb ++ spaced (group x) ++ spaced (server x)

-- a write: where it goes, its first sector, its byte in two hexadecimal digits, and its count of sectors
abbrev pub submit_text : ℕ → List ℕ
submit_text x = server_words (codes "submit") x ++ spaced (sector x) ++ (32 ∷ encode_lower (byte_drawn x ∷ [])) ++ spaced (count x)

-- nine kinds of sixteen are writes, and three are settlings
abbrev pub drawn_text : ℕ → List ℕ
drawn_text x =
    if nat_lt (kind x) 9 then submit_text x
    else if nat_lt (kind x) 12 then codes "settle 20"
    else if kind x == 12 then server_words (codes "resend") x
    else if kind x == 13 then server_words (codes "stop") x
    else if kind x == 14 then server_words (codes "restart") x
    else server_words (codes "elect") x

-- a text with a line feed after it
abbrev pub with_line_feed : List ℕ → List ℕ
with_line_feed text = text ++ 10 ∷ []

abbrev pub drawn_line : ℕ → List ℕ
drawn_line x = with_line_feed (drawn_text x)
