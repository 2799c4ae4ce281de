-- Ranges of sectors in a chunk.
use Rattle.std.specs.Prelude.{◌≡◌, ℕ, ◌+◌, ◌≤◌, Bool, true, ◌&&◌, ◌||◌, ◌==◌, nat_lt, nat_le}

-- consecutive sectors from the first on, or the whole chunk
pub record Span : Type 0 where
  pub first : ℕ
  pub count : ℕ

-- no range of single sectors has as many as 255: this count stands for the whole chunk, however many sectors it has
abbrev pub is_whole : Span → Bool
is_whole span = span.count == 255

abbrev pub whole_span : Span
whole_span = record { first = 0; count = 255 }

abbrev pub empty_span : Span
empty_span = record { first = 0; count = 0 }

-- whether the sector lies in the range
abbrev pub is_in : Span → ℕ → Bool
is_in span sector = is_whole span || (nat_le span.first sector && nat_lt sector (span.first + span.count))

-- some sector lies in both
abbrev pub Overlap : Span → Span → Type 0
Overlap a b = (sector : ℕ) × (is_in a sector ≡ true) × (is_in b sector ≡ true)

-- whether some sector lies in both, as a test
abbrev pub overlaps : Span → Span → Bool
overlaps a b =
    nat_lt 0 a.count && nat_lt 0 b.count
    && (is_whole a || is_whole b || (nat_lt a.first (b.first + b.count) && nat_lt b.first (a.first + a.count)))

-- whether the range lies in a chunk of so many sectors
abbrev pub fits_in : Span → ℕ → Bool
fits_in span sectors = is_whole span || nat_le (span.first + span.count) sectors

-- what a write or a read may name in some chunk: 1 to 8 sectors below 4,096
pub record IsWritable (first count : ℕ) : Type 0 where
  pub some : 1 ≤ count
  pub few : count ≤ 8
  pub low : first + count ≤ 4096

-- what a range is: of 1 to 8 sectors below 4,096, empty at 0, or the whole chunk
abbrev pub is_span : Span → Bool
is_span span =
    (nat_lt 0 span.count && nat_le span.count 8 && nat_le (span.first + span.count) 4096)
    || ((span.first == 0) && ((span.count == 0) || is_whole span))
