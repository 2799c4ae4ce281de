-- The sequence of numbers, and what each of them draws.
use Rattle.std.specs.Prelude.{ℕ, zero, suc, ◌+◌, ◌*◌, ◌/◌, ◌%◌, ◌^◌}

-- the number that follows another
abbrev pub next_draw : ℕ → ℕ
next_draw x = (x * 6364136223846793005 + 1442695040888963407) % 2 ^ 64

-- number k of the sequence that begins with this one
unfoldable pub number : (first k : ℕ) → ℕ
number first zero = first
number first (suc k) = next_draw (number first k)

-- which kind of line, of 16
abbrev pub kind : ℕ → ℕ
kind x = (x / 2 ^ 32) % 16

abbrev pub group : ℕ → ℕ
group x = (x / 2 ^ 36) % 2

abbrev pub server : ℕ → ℕ
server x = (x / 2 ^ 40) % 3

-- the first sector of a write, the count of its sectors, and its byte
abbrev pub sector : ℕ → ℕ
sector x = (x / 2 ^ 44) % 57

abbrev pub count : ℕ → ℕ
count x = (x / 2 ^ 52) % 8 + 1

abbrev pub byte_drawn : ℕ → ℕ
byte_drawn x = (x / 2 ^ 56) % 256
