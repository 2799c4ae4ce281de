-- The run of a script, and its report.
use Rattle.std.specs.Prelude.{ℕ, List, [], ◌∷◌, ◌++◌}
use Rattle.pf_live_session.specs.pf_group_rounds.specs.Halts.{Halt}
use Rattle.pf_world_hosts.specs.pf_world_moments.specs.Moments.{moments_text}
use Rattle.pf_live_session.specs.Sessions.{Session}
use Rattle.pf_world.specs.declared.line.Line.{Line}
use Rattle.pf_world.specs.Worlds.{WorldTold, World, no_world}
use Rattle.pf_world.specs.Lines.{line_told}

-- what is told first, and then what comes of the world that it leaves
abbrev pub world_followed : WorldTold → (World → WorldTold) → WorldTold
world_followed first more =
    let rest = more first.world in
    record { world = rest.world; told = first.told ++ rest.told }

-- lines, one after another
abbrev pub run_from : List Halt → World → List Line → WorldTold
run_from halts w [] = record { world = w; told = [] }
run_from halts w (line ∷ lines) = world_followed (line_told halts w line.number line.command) (λ next. run_from halts next lines)

-- the run of an accepted script, whose first command is its volume, where disks failed so, and these are the sessions of its live lines
abbrev pub world_run : List Halt → List Session → List Line → WorldTold
world_run halts sessions lines = run_from halts (no_world sessions) lines

-- its report: the lines among what it tells
abbrev pub report_of : List Halt → List Session → List Line → List ℕ
report_of halts sessions lines = moments_text (world_run halts sessions lines).told
