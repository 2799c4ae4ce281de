-- The run of an accepted script.
use Rattle.std.specs.Prelude.{◌≡◌, ℕ, true, List, ◌∷◌}
use Rattle.pf_script.specs.Lines.{first_named, is_volume}
use Rattle.pf_script.specs.declared.command.Command.TheVariants.{Volume}
use Rattle.pf_world.specs.pf_group_rounds.specs.Halts.{Halt}
use Rattle.pf_world.specs.pf_live_session.specs.Sessions.{Session}
use Rattle.pf_world.specs.Reports.{world_run}
use Rattle.pf_world.specs.Steps.{MayRunAll}
use Rattle.pf_world.specs.Worlds.{WorldTold}
use Rattle.pf_world.specs.declared.line.Line.{Line}

-- what holds of the run of every accepted script: its first line makes the volume, and these are the lines behind that; wherever its groups halt,
-- and whatever its live lines do
abbrev pub OfAcceptedRuns : (List Line → WorldTold → Type 0) → Type 0
OfAcceptedRuns Holds =
    (halts : List Halt) (sessions : List Session) (number chunks sectors names format : ℕ) (lines : List Line)
    → is_volume chunks sectors names format ≡ true → MayRunAll (first_named chunks) lines
    → Holds lines (world_run halts sessions (record { number = number; command = Volume chunks sectors names format } ∷ lines))
