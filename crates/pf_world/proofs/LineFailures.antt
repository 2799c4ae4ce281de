-- Where memory runs out in the middle of a line.
use Rattle.std.proofs.Common.{[], length, ◌≡◌, inl, inr, ℕ, Bool, List, Option, Some, Result, Ok, Err, OnErr, slice_get, refl, sym, ap, subst, ◌∙◌}
use Rattle.std.proofs.lemmas.List.{length-map}
use Rattle.std.proofs.lemmas.Option.{same_Some}
use Rattle.pf_world_hosts.proofs.ChunkGrowth.{grown_trans_all}
use Rattle.pf_script.specs.declared.command.Command.{Command}
use Rattle.pf_script.specs.declared.command.Command.TheVariants as commands
use Rattle.pf_live_session.specs.pf_group_rounds.specs.Begun.{GroupHasBegun}
use Rattle.pf_live_session.specs.pf_group_rounds.specs.Halts.{Halt}
use Rattle.pf_live_session.specs.pf_group_rounds.proofs.RunHistories.{extends_refl}
use Rattle.pf_live_session.specs.pf_chunk.specs.Runs.{ChunkRun}
use Rattle.pf_live_session.specs.pf_chunk.specs.Steps.{ChunkEvent}
use Rattle.pf_live_session.specs.pf_chunk.specs.Views.{ChunkIs, run_of}
use Rattle.pf_world_hosts.specs.pf_world_moments.specs.Steps.{HaveBegun, HaveGrown, TellsAll, chunk_runs}
use Rattle.pf_world_hosts.specs.pf_world_moments.proofs.Groups.{all_begun, run_there}
use Rattle.pf_world_hosts.specs.Settled.{HasNotSettled, HasSettled}
use Rattle.pf_world_hosts.specs.Steps.{FleetIs, FleetHasAnswered, FleetHasGone, HasNotAnswered, FleetHasStopped, FleetPart}
use Rattle.pf_world_hosts.specs.Steps as fleets
use Rattle.pf_world_hosts.specs.Volumes.{volume_happens}
use Rattle.pf_world.specs.declared.kind.Kind.{Kind}
use Rattle.pf_world.specs.Worlds.{WorldTold, at_chunk, event_told}
use Rattle.pf_world.specs.Lines.{line_told}
use Rattle.pf_world.specs.Views.{WorldIs, world_stands_at}
use Rattle.pf_world.specs.Steps.{LineHasFailed, LineIsWithin, StopsIn, moves_after}
use Rattle.pf_world.proofs.VolumeEvents.{all_grew, becomes, same_groups, same_world}

pub on_err : {X E : Type 0} (r : Result X E) (P : Type 0) → P → OnErr r P
on_err (Ok x) P p = tt
on_err (Err e) P p = p

-- all that was to happen did
pub have_all_begun : (halts : List Halt) (old new : List ChunkIs) → HaveGrown old new → TellsAll halts new → HaveBegun halts old (chunk_runs halts new) new
have_all_begun halts old new grown tells = record {
  count = length-map new (run_of halts);
  each = λ k was is run at to there.
      let same : run_of halts is ≡ run = same_Some (run_of halts is) run (sym (run_there halts new k is to) ∙ there) in
      subst (λ (c : ChunkRun). GroupHasBegun halts was.group c.group is.group) same
      (all_begun halts was.group is.group (run_of halts is).group (tells k is to) (grown.each k was is at to) (extends_refl (run_of halts is).group));
}

module _ (old : WorldIs) (number : ℕ) (command : Command) (within : (new : WorldIs) → LineIsWithin old [] number command new → StopsIn old number command new) (stays : moves_after old.moves command ≡ old.moves) where
  -- a part was begun
  pub stopped_fails : (part : FleetPart) (kind : Option Kind) (chunks : List ChunkIs) (fleet : FleetIs) → FleetHasStopped part old.chunks old.fleet chunks
      → ((halts : List Halt) → TellsAll halts chunks → (line_told halts (world_stands_at halts [] old) number command).world.volume.chunks ≡ (part halts (fleets.volume_stands_at halts old.chunks old.fleet)).volume.chunks) → LineHasFailed old number command (becomes old chunks fleet kind)
  stopped_fails part kind chunks fleet s line = record {
    goes_on = all_grew old chunks fleet kind s.grown;
    groups = same_groups old.moves command stays (length old.chunks) (length chunks) s.grown.count;
    passes = refl;
    stopped = within (becomes old chunks fleet kind) (λ halts tells. subst (λ cs. HaveBegun halts old.chunks cs chunks) (sym (line halts tells)) (s.begun halts tells));
  }

  -- it was gone through, and there was no memory for the text of the line
  pub gone_fails : (part : FleetPart) (kind : Option Kind) (chunks : List ChunkIs) (fleet : FleetIs) (before after : List ℕ) → FleetHasGone part old.chunks old.fleet before chunks fleet after
      → ((halts : List Halt) → TellsAll halts chunks → (line_told halts (world_stands_at halts [] old) number command).world.volume.chunks ≡ (part halts (fleets.volume_stands_at halts old.chunks old.fleet)).volume.chunks) → LineHasFailed old number command (becomes old chunks fleet kind)
  gone_fails part kind chunks fleet before after went line =
      stopped_fails part kind chunks fleet (record {
        grown = went.grown;
        begun = λ halts tells. subst (λ (t : _). HaveBegun halts old.chunks t chunks) (sym (ap (λ t. t.volume.chunks) (went.run halts tells))) (have_all_begun halts old.chunks chunks went.grown tells);
      }) line

  -- nothing happened
  pub said_fails : (kind : Option Kind) (fleet : FleetIs) → ((halts : List Halt) → (line_told halts (world_stands_at halts [] old) number command).world.volume.chunks ≡ chunk_runs halts old.chunks) → LineHasFailed old number command (becomes old old.chunks fleet kind)
  said_fails kind fleet line = record {
    goes_on = all_grew old old.chunks fleet kind (record { count = refl; each = (same_world old).grown });
    groups = same_groups old.moves command stays (length old.chunks) (length old.chunks) refl;
    passes = refl;
    stopped = within (becomes old old.chunks fleet kind) (λ halts tells. subst (λ cs. HaveBegun halts old.chunks cs old.chunks) (sym (line halts))
        (have_all_begun halts old.chunks old.chunks (record { count = refl; each = (same_world old).grown }) tells));
  }

  module _ (event : ChunkEvent) (k : ℕ) (kind decided : Option Kind) (line : (halts : List Halt) → line_told halts (world_stands_at halts [] old) number command ≡ at_chunk halts (record (world_stands_at halts [] old) { kind = decided }) number k (event halts)) where
    chunks_are : (halts : List Halt) (was : ChunkIs) → slice_get old.chunks k ≡ Some was → (line_told halts (world_stands_at halts [] old) number command).world.volume.chunks ≡ (volume_happens halts (fleets.volume_stands_at halts old.chunks old.fleet) (event halts (run_of halts was))).volume.chunks
    chunks_are halts was there =
        ap (λ (t : WorldTold). t.world.volume.chunks) (line halts ∙ ap (λ c. event_told halts (record (world_stands_at halts [] old) { kind = decided }) number c (event halts)) (run_there halts old.chunks k was there))

    pub event_fails : (chunks : List ChunkIs) (fleet : FleetIs) → HasNotAnswered event k old.chunks old.fleet chunks → LineHasFailed old number command (becomes old chunks fleet kind)
    event_fails chunks fleet n = stopped_fails (λ halts v. volume_happens halts v (event halts (run_of halts n.was))) kind chunks fleet n.stopped (λ halts tells. chunks_are halts n.was n.there)

    pub answered_fails : (chunks : List ChunkIs) (fleet : FleetIs) (before after : List ℕ) (answer : _) → FleetHasAnswered event k old.chunks old.fleet before answer chunks fleet after → LineHasFailed old number command (becomes old chunks fleet kind)
    answered_fails chunks fleet before after answer a = gone_fails (λ halts v. volume_happens halts v (event halts (run_of halts a.was))) kind chunks fleet before after a.went (λ halts tells. chunks_are halts a.was a.there)

-- Settlings

pub settling_grown : (limit : ℕ) (old : List ChunkIs) (fleet : FleetIs) (new : List ChunkIs) → HasNotSettled limit old fleet new → HaveGrown old new
settling_grown limit old fleet new n = grown_trans_all old n.mid new n.grown n.stopped.grown

pub settling_fails : (old : WorldIs) (number limit : ℕ) (kind : Option Kind) (chunks : List ChunkIs) (fleet : FleetIs) → HasNotSettled limit old.chunks old.fleet chunks → LineHasFailed old number (commands.Settle limit) (becomes old chunks fleet kind)
settling_fails old number limit kind chunks fleet n = record {
  goes_on = all_grew old chunks fleet kind (settling_grown limit old.chunks old.fleet chunks n);
  groups = (settling_grown limit old.chunks old.fleet chunks n).count;
  passes = refl;
  stopped = inl n;
}

pub settled_fails : (old : WorldIs) (number limit : ℕ) (kind : Option Kind) (chunks : List ChunkIs) (fleet : FleetIs) (before after : List ℕ) (stopped : Bool) → HasSettled limit old.chunks old.fleet before stopped chunks fleet after
    → LineHasFailed old number (commands.Settle limit) (becomes old chunks fleet kind)
settled_fails old number limit kind chunks fleet before after stopped s = record {
  goes_on = all_grew old chunks fleet kind s.went.grown;
  groups = s.went.grown.count;
  passes = refl;
  stopped = inr (record { next = fleet; before = before; after = after; stopped = stopped; settled = s });
}
