-- The text of a generated script.
use Rattle.std.specs.Prelude.{ℕ, List, ◌++◌, codes}
use Rattle.std.specs.List.{flat_map}
use Rattle.std.specs.Fmt.{decimal}
use Rattle.pf_report.specs.Texts.{with_line_feed, spaced}

-- the number of the script, how many lines it has, and how many slots each group acknowledged
abbrev pub gen_text : (number lines : ℕ) (acked : List ℕ) → List ℕ
gen_text number lines acked = codes "gen " ++ decimal number ++ codes " lines " ++ decimal lines ++ codes " acked" ++ flat_map spaced acked

-- its line
abbrev pub gen_line : (number lines : ℕ) (acked : List ℕ) → List ℕ
gen_line number lines acked = with_line_feed (gen_text number lines acked)
