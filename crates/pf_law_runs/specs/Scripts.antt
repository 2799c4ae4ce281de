-- Scripts, line by line.
use Rattle.std.specs.Prelude.{◌≡◌, Bool, true, false, List, [], ◌∷◌}
use Rattle.pf_entry.specs.Lists.{Every}
use Rattle.pf_script.specs.declared.command.Command.{Command}
use Rattle.pf_script.specs.declared.command.Command.TheVariants as commands
use Rattle.pf_world.specs.pf_group_rounds.specs.Halts.{Halt}
use Rattle.pf_world.specs.pf_live_session.specs.Sessions.{Session}
use Rattle.pf_world.specs.declared.line.Line.{Line}
use Rattle.pf_world.specs.Reports.{world_run}
use Rattle.pf_world.specs.Worlds.{WorldTold}

abbrev pub makes_volume : Command → Bool
makes_volume (commands.Volume chunks sectors names format) = true
makes_volume command = false

-- the first line makes the volume, and no other makes one
abbrev pub IsScript : List Line → Type 0
IsScript [] = ⊥
IsScript (first ∷ rest) = (makes_volume first.command ≡ true) × Every (λ line. makes_volume line.command ≡ false) rest

-- what holds of the run of every script, wherever its groups halt, and whatever its live lines do
abbrev pub OfRuns : (List Line → WorldTold → Type 0) → Type 0
OfRuns Holds = (halts : List Halt) (sessions : List Session) (lines : List Line) → IsScript lines → Holds lines (world_run halts sessions lines)
