-- The run of the first lines of a script has one list.
use Rattle.std.proofs.Common.{ℕ, ◌^◌, ◌<◌, List, [], ◌∷◌, ◌++◌, length, arith, sym, subst}
use Rattle.pf_group_rounds.specs.Halts.{Halt}
use Rattle.pf_script.specs.Lines.{first_named, named_after}
use Rattle.pf_script.specs.declared.command.Command.{Command}
use Rattle.pf_script.specs.declared.command.Command.TheVariants as commands
use Rattle.pf_script.specs.declared.named.NamedVolume.{NamedVolume}
use Rattle.pf_live_session.specs.Sessions.{Session}
use Rattle.pf_world.specs.declared.line.Line.{Line}
use Rattle.pf_world.specs.Steps.{MayRunAll}
use Rattle.pf_law_legal.proofs.LawfulRuns.{mounts_have_one_list}
use Rattle.pf_run.specs.Headline.{HasOneListOf}
use Rattle.pf_run.specs.Placed.{MakesVolume}

-- a beginning of lines that may be run may be run
front_may : (named : NamedVolume) (done rest : List Line) → MayRunAll named (done ++ rest) → MayRunAll named done
front_may named [] rest may = tt
front_may named (line ∷ done) rest may = (may.0, front_may (named_after named line.command) done rest may.1)

module _ (halts : List Halt) (sessions : List Session) (n : ℕ) where
  -- the volume and such a beginning
  pub lists_of : (first : Line) (done rest : List Line) → MakesVolume n first.command → MayRunAll (first_named n) (done ++ rest) → length (first ∷ done) < 2 ^ 32 → HasOneListOf halts sessions (first ∷ done)
  lists_of first done rest volume may few = by first.number first.command volume
    where
      by : (number : ℕ) (command : Command) → MakesVolume n command → HasOneListOf halts sessions (record { number = number; command = command } ∷ done)
      by number (commands.Volume c s names format) is some = mounts_have_one_list halts sessions number c s names format done is.1 (subst (λ k. MayRunAll (first_named k) done) (sym is.0) (front_may (first_named n) done rest may)) few some
      by number command is some = absurd is

  -- the volume alone has no mounts
  pub volume_list : (first : Line) → MakesVolume n first.command → HasOneListOf halts sessions (first ∷ [])
  volume_list first volume = by first.number first.command volume
    where
      by : (number : ℕ) (command : Command) → MakesVolume n command → HasOneListOf halts sessions (record { number = number; command = command } ∷ [])
      by number (commands.Volume c s names format) is some = absurd (omega (arith, some))
      by number command is some = absurd is
