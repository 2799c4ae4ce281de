-- The run of an accepted script is lawful where it is of mounts or has no live lines; and with a mount it has one list.
use Rattle.std.proofs.Common.{◌≡◌, ℕ, ◌^◌, ◌<◌, true, false, List, [], ◌∷◌, length, refl, sym, subst}
use Rattle.pf_entry.specs.Lists.{Every}
use Rattle.pf_script.specs.Lines.{first_named, is_volume, named_after}
use Rattle.pf_script.specs.declared.command.Command.{Command}
use Rattle.pf_script.specs.declared.command.Command.TheVariants as commands
use Rattle.pf_script.specs.declared.named.NamedVolume.{NamedVolume}
use Rattle.pf_world.specs.pf_group_rounds.specs.Halts.{Halt}
use Rattle.pf_world.specs.pf_live_session.specs.Sessions.{Session}
use Rattle.pf_world.specs.Headline.{IsLawfulRun, is_live}
use Rattle.pf_world.specs.Lines.{is_raw}
use Rattle.pf_world.specs.Reports.{world_run}
use Rattle.pf_world.specs.Steps.{MayRun, MayRunAll}
use Rattle.pf_world.specs.Worlds.{WorldTold}
use Rattle.pf_world.specs.declared.line.Line.{Line}
use Rattle.pf_law_runs.specs.Scripts.{IsScript, makes_volume}
use Rattle.pf_law_mounts.specs.Lists.{HasOneList}
use Rattle.pf_law_mounts.proofs.CitedLaws.{answers, spelled}
use Rattle.pf_law_mounts.proofs.RunKnowledge.{run_known}
use Rattle.pf_law_mounts.proofs.ScriptList.{one_list}
use Rattle.pf_law_legal.proofs.RunGroups.{dead_threadless, legal_volume, mounts_threadless, runs_are_legal}

-- Lines that may be run make no volume

makes_none : (named : NamedVolume) (command : Command) → MayRun named command → makes_volume command ≡ false
makes_none named (commands.Volume c s names f) may = absurd may
makes_none named command may = refl

none_makes : (named : NamedVolume) (lines : List Line) → MayRunAll named lines → Every (λ line. makes_volume line.command ≡ false) lines
none_makes named [] may = tt
none_makes named (line ∷ lines) may = (makes_none named line.command may.0, none_makes (named_after named line.command) lines may.1)

any_lines : (lines : List Line) → Every (λ (line : Line). Unit {0}) lines
any_lines [] = tt
any_lines (line ∷ lines) = (tt, any_lines lines)

module _ (halts : List Halt) (sessions : List Session) (number chunks sectors names format : ℕ) (lines : List Line) (fits : is_volume chunks sectors names format ≡ true) (may : MayRunAll (first_named chunks) lines) where
  abbrev script : List Line
  script = record { number = number; command = commands.Volume chunks sectors names format } ∷ lines

  abbrev run : WorldTold
  run = world_run halts sessions script

  is_script : IsScript script
  is_script = (refl, none_makes (first_named chunks) lines may)

  -- whether or not a program ever ran it
  pub mounts_are_lawful : is_raw run.world.kind ≡ false → IsLawfulRun run.world
  mounts_are_lawful of = runs_are_legal halts (λ command. Unit {0}) (λ kind. is_raw kind ≡ false) mounts_threadless sessions number chunks sectors names format lines fits may (any_lines lines) of

  -- nor need it have mounts, where no line is live: the sessions do not matter then
  pub dead_are_lawful : Every (λ line. is_live line.command ≡ false) lines → IsLawfulRun run.world
  dead_are_lawful dead = runs_are_legal halts (λ command. is_live command ≡ false) (λ kind. Unit {0}) dead_threadless sessions number chunks sectors names format lines fits may dead tt

  pub mounts_have_one_list : length script < 2 ^ 32 → 0 < length run.world.volume.hosts → HasOneList run.world.volume run.told
  mounts_have_one_list few some =
      let of = subst (λ kind. is_raw kind ≡ false) (sym ((run_known answers spelled halts sessions script is_script).mounted some)) refl in
      let legal = legal_volume halts (λ command. Unit {0}) (λ kind. is_raw kind ≡ false) mounts_threadless sessions number chunks sectors names format lines fits may (any_lines lines) of in
      one_list halts sessions script is_script (mounts_are_lawful of) legal.volume some few
