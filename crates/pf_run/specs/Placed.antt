-- What stands where in an accepted script.
use Rattle.std.specs.Prelude.{◌≡◌, ℕ, ◌≤◌, true, List, [], ◌∷◌, length, Option, Some, None}
use Rattle.pf_script.specs.declared.command.Command.{Command}
use Rattle.pf_script.specs.declared.command.Command.TheVariants.{Volume}
use Rattle.pf_script.specs.Lines.{first_named, is_volume}
use Rattle.pf_world.specs.declared.line.Line.{Line}
use Rattle.pf_world.specs.Steps.{MayRunAll}

-- the command makes a volume of so many chunks
abbrev pub MakesVolume : (chunks : ℕ) → Command → Type 0
MakesVolume chunks (Volume c s n f) = (c ≡ chunks) × (is_volume c s n f ≡ true)
MakesVolume chunks command = ⊥

-- first the volume, if it has come, and then lines that may be run in it
abbrev pub ArePlaced : (volume : Option ℕ) → List Line → Type 0
ArePlaced None lines = lines ≡ []
ArePlaced (Some chunks) [] = ⊥
ArePlaced (Some chunks) (line ∷ lines) = MakesVolume chunks line.command × MayRunAll (first_named chunks) lines

-- the lines of a whole script
pub record ScriptIsWhole (lines : List Line) : Type 0 where
  pub chunks : ℕ
  pub placed : ArePlaced (Some chunks) lines
  pub few : length lines ≤ 100000
