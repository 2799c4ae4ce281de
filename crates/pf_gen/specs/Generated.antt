-- The script that a number generates.
use Rattle.std.specs.Prelude.{ℕ, List, ◌++◌, codes}
use Rattle.std.specs.List.{flat_map, range_with_len}
use Rattle.pf_gen.specs.Draws.{number}
use Rattle.pf_gen.specs.Lines.{drawn_line, with_line_feed}

-- the lines that the numbers 1 to n of the sequence draw
unfoldable pub drawn_lines : (first n : ℕ) → List ℕ
drawn_lines first n = flat_map (λ k. drawn_line (number first k)) (range_with_len 1 n)

-- the first line makes a volume of two groups of 64 sectors
abbrev pub first_line : List ℕ
first_line = with_line_feed (codes "volume 2 64")

-- the last three settle all, and show what each group acknowledged
abbrev pub closing : List ℕ
closing = with_line_feed (codes "settle 100000") ++ with_line_feed (codes "show acked 0") ++ with_line_feed (codes "show acked 1")

-- 2,004 lines: between those, 2,000 are drawn
abbrev pub generated : ℕ → List ℕ
generated first = first_line ++ (drawn_lines first 2000 ++ closing)
