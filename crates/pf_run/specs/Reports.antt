-- What is run, and what is written.
use Rattle.std.specs.Prelude.{ℕ, List, [], ◌∷◌, ◌++◌, length, Option, Some, None, Ok, Err, slice_get, codes}
use Rattle.std.specs.Option.{option_map_or}
use Rattle.pf_gen.specs.Generated.{generated}
use Rattle.pf_world.specs.declared.line.Line.{Line}
use Rattle.pf_world.specs.Worlds.{World}
use Rattle.pf_run_words.specs.declared.words.Task.{Task}
use Rattle.pf_run_words.specs.declared.words.Task.TheVariants as tasks
use Rattle.pf_report.specs.Generated.{gen_line}
use Rattle.pf_run.specs.Scripts.{JudgedScript, script_of}

abbrev pub usage_text : List ℕ
usage_text = codes "usage" ++ 10 ∷ []

-- how many slots of group k a run has acknowledged
abbrev pub acked_in_world : World → (k : ℕ) → ℕ
acked_in_world w k = option_map_or (λ c. length c.group.state.acked) (slice_get w.volume.chunks k) 0

abbrev pub sum_text : (number : ℕ) → (acked : ℕ × ℕ) → List ℕ
sum_text number acked = gen_line number 2004 (acked.0 ∷ acked.1 ∷ [])

-- the line that tells of a generated script, where its run led to this world
abbrev pub summary_text : (number : ℕ) → World → List ℕ
summary_text number w = sum_text number (acked_in_world w 0, acked_in_world w 1)

abbrev pub judged_lines : JudgedScript → List Line
judged_lines (Ok lines) = lines
judged_lines (Err refused) = []

-- the lines that are to be run: of the script that the source gives, or that a number generates
abbrev pub lines_for : Option Task → (given : List ℕ) → List Line
lines_for None given = []
lines_for (Some (tasks.Run workers)) given = judged_lines (script_of given)
lines_for (Some (tasks.Gen number workers)) given = judged_lines (script_of (generated number))
lines_for (Some tasks.Check) given = []
lines_for (Some (tasks.Log group server)) given = []
