-- Lines that name a group that is not made.
use Rattle.std.proofs.Common.{◌≡◌, ℕ, Bool, true, false, if◌then◌else◌, nat_lt, List, [], ◌∷◌, ◌++◌, length, Option, Some, None, refl, sym, ap, subst, ◌∙◌, arith}
use Rattle.std.specs.Option.{option_map_or}
use Rattle.std.proofs.lemmas.Bool.{false≢true}
use Rattle.std.proofs.lemmas.Bool.Decides.{nat_tests}
use Rattle.std.proofs.lemmas.List.{length-map}
use Rattle.pf_script.specs.declared.command.Command.{Command}
use Rattle.pf_script.specs.declared.command.Command.TheVariants as commands
use Rattle.pf_script.specs.Lines.{group_named}
use Rattle.pf_report.specs.Refusals.{line_refusal_text}
use Rattle.pf_report.specs.declared.refusals.LineRefusal.TheVariants as refusals
use Rattle.pf_report.specs.Texts.{report_line}
use Rattle.pf_live_session.specs.pf_group_rounds.specs.Halts.{Halt}
use Rattle.pf_live_session.specs.pf_chunk.specs.Views.{run_of}
use Rattle.pf_world_hosts.specs.pf_world_moments.specs.Steps.{HaveBegun}
use Rattle.pf_world_hosts.specs.Volumes.{volume_quietly}
use Rattle.pf_world_hosts.proofs.ChunkGrowth.{grown_refl_all}
use Rattle.pf_live_session.specs.Sessions.{Session, no_session}
use Rattle.pf_world.specs.declared.kind.Kind.{Kind}
use Rattle.pf_world.specs.Worlds.{WorldTold, said_only}
use Rattle.pf_world.specs.Lines.{is_made, kind_after, line_told, run_told}
use Rattle.pf_world.specs.Views.{IsWorld, WorldIs, world_stands_at}
use Rattle.pf_world.specs.Steps.{LineHasFailed, HasRun, LineIsWithin, KeepsPasses, KeepsWhere, StopsIn, moves_after}
use Rattle.pf_world.proofs.LineFailures.{have_all_begun}
use Rattle.pf_world.proofs.VolumeEvents.{all_grew, becomes, le_suc, same_groups, went_runs}
use Rattle.pf_world.proofs.Mounts.{quiet_gone}
use Rattle.pf_world.proofs.Others.{takes_nothing}

-- whether a world's group is made, if it is one
abbrev pub has_group : WorldIs → Option ℕ → Bool
has_group w group = option_map_or (λ g. nat_lt g (length w.chunks)) group true

made_there : (halts : List Halt) (sessions : List Session) (w : WorldIs) (o : Option ℕ) → is_made (world_stands_at halts sessions w) o ≡ has_group w o
made_there halts sessions w None = refl
made_there halts sessions w (Some g) = ap (nat_lt g) (length-map w.chunks (run_of halts))

-- the world after the refusal
abbrev pub refuses : WorldIs → Command → WorldIs
refuses old command = becomes old old.chunks old.fleet (kind_after old.kind command)

module _ (old : WorldIs) (number : ℕ) (command : Command) (not : has_group old (group_named command) ≡ false) where
  abbrev kind : Option Kind
  kind = kind_after old.kind command

  refused : (halts : List Halt) (sessions : List Session) → line_told halts (world_stands_at halts sessions old) number command ≡ said_only (record (world_stands_at halts sessions old) { kind = kind }) number (line_refusal_text refusals.NoGroup)
  refused halts sessions =
      ap (λ b. if b then run_told halts (world_stands_at halts sessions old) number command else said_only (record (world_stands_at halts sessions old) { kind = kind }) number (line_refusal_text refusals.NoGroup)) (made_there halts sessions old (group_named command) ∙ not)

  within : (sessions : List Session) → LineIsWithin old sessions number command (refuses old command)
  within sessions halts tells =
      subst (λ (t : WorldTold). HaveBegun halts old.chunks t.world.volume.chunks old.chunks) (sym (refused halts sessions)) (have_all_begun halts old.chunks old.chunks (grown_refl_all old.chunks) tells)

unmade_stays : (old : WorldIs) (command : Command) → has_group old (group_named command) ≡ false → moves_after old.moves command ≡ old.moves
unmade_stays old (commands.Move chunk) not = absurd (false≢true (sym not))
unmade_stays old command not = refl

unmade_keeps : (old new : WorldIs) (command : Command) → has_group old (group_named command) ≡ false → new.passes ≡ old.passes → KeepsPasses old [] command new
unmade_keeps old new (commands.Live chunk hosts writes workers turns) not same = subst (λ b. KeepsWhere b old [] chunk hosts writes workers turns new) (sym not) same
unmade_keeps old new command not same = same

unmade_stops : (old : WorldIs) (number : ℕ) (command : Command) (new : WorldIs) → has_group old (group_named command) ≡ false → ((sessions : List Session) → LineIsWithin old sessions number command new) → StopsIn old number command new
unmade_stops old number (commands.Settle limit) new not within = absurd (false≢true (sym not))
unmade_stops old number (commands.Move chunk) new not within = absurd (false≢true (sym not))
unmade_stops old number (commands.Live chunk hosts writes workers turns) new not within = record {
  session = no_session;
  within = within (no_session ∷ []);
  is_part = λ low. let there : nat_lt chunk (length old.chunks) ≡ true = grind (arith, nat_tests) in absurd (false≢true (sym not ∙ there));
}
unmade_stops old number command new not within = within []

-- it is refused
pub unmade_runs : (old : WorldIs) (number : ℕ) (command : Command) → has_group old (group_named command) ≡ false → IsWorld old → (before after : List ℕ) → after ≡ before ++ report_line number (line_refusal_text refusals.NoGroup) → HasRun old number command before after (refuses old command)
unmade_runs old number command not world before after put =
    went_runs old number command world (unmade_stays old command not) [] (λ halts v. volume_quietly v) (kind_after old.kind command) old.passes old.chunks old.fleet before before after (line_refusal_text refusals.NoGroup) (takes_nothing command) (quiet_gone old world before) put refl (le_suc old.fleet.calls)
    (λ halts rest tells. refused old number command not halts rest)
    (λ halts rest tells made. absurd (false≢true (sym not ∙ sym (made_there halts rest old (group_named command)) ∙ made)))
    (unmade_keeps old (refuses old command) command not refl)

-- or there was no memory for the refusal
pub unmade_fails : (old : WorldIs) (number : ℕ) (command : Command) → has_group old (group_named command) ≡ false → LineHasFailed old number command (refuses old command)
unmade_fails old number command not = record {
  goes_on = all_grew old old.chunks old.fleet (kind_after old.kind command) (grown_refl_all old.chunks);
  groups = same_groups old.moves command (unmade_stays old command not) (length old.chunks) (length old.chunks) refl;
  passes = refl;
  stopped = unmade_stops old number command (refuses old command) not (within old number command not);
}
