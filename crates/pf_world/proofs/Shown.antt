-- Lines that show a group or a mount.
use Rattle.std.proofs.Common.{◌≡◌, ◌≢◌, ◌↔◌, ℕ, Bool, true, false, not, IsTrue, List, [], ◌∷◌, ◌++◌, Option, Some, None, slice_get, refl, sym, ap, ◌∙◌, append-nil}
use Rattle.std.proofs.lemmas.Bool.{false≢true}
use Rattle.pf_script.specs.declared.command.Command.{Command}
use Rattle.pf_script.specs.declared.command.Command.TheVariants as commands
use Rattle.pf_protocol.specs.Groups.{Group}
use Rattle.pf_live_session.specs.pf_group.specs.GroupIs.{state_of}
use Rattle.pf_tree.specs.Listings.{listing}
use Rattle.pf_report.specs.Refusals.{line_refusal_text}
use Rattle.pf_report.specs.declared.refusals.LineRefusal.TheVariants as refusals
use Rattle.pf_report.specs.Texts.{report_line}
use Rattle.pf_report.specs.Mounts.{state_text, tree_lines}
use Rattle.pf_live_session.specs.pf_group_rounds.specs.Chunks.{Chunk}
use Rattle.pf_live_session.specs.pf_group_rounds.specs.Halts.{Halt}
use Rattle.pf_live_session.specs.pf_chunk.specs.Runs.{ChunkRun}
use Rattle.pf_live_session.specs.pf_chunk.specs.Showing.{LineIsShown}
use Rattle.pf_live_session.specs.pf_chunk.specs.Views.{ChunkIs}
use Rattle.pf_world_hosts.specs.pf_world_moments.specs.Moments.{Moment, Writes, moments_text}
use Rattle.pf_world_hosts.specs.pf_world_moments.proofs.Groups.{run_there}
use Rattle.pf_world_hosts.specs.Steps.{FleetIs, FleetHasGone, IsFleetOf, FleetPart}
use Rattle.pf_world_hosts.specs.Steps as fleets
use Rattle.pf_mount.specs.declared.work.MountWork.{MountWork}
use Rattle.pf_mount.specs.declared.work.MountWork.TheVariants.{Rests}
use Rattle.pf_world_hosts.specs.pf_mount_host.specs.Hosts.{HostIs}
use Rattle.pf_world_hosts.specs.Volumes.{host_at, volume_quietly, saying}
use Rattle.pf_world.specs.Asked.{IsShow}
use Rattle.pf_world.specs.Worlds.{WorldTold, World, said_only}
use Rattle.pf_world.specs.Lines.{rests, run_told, show_at_host, shown_of, chunk_shown}
use Rattle.pf_world.specs.Views.{IsWorld, WorldIs, world_stands_at}
use Rattle.pf_world.specs.Headline.{is_live}
use Rattle.pf_world.specs.Steps.{LineEnds, LineHasFailed, HasRun, IsOfMade, LineIsWithin, StopsIn, moves_after}
use Rattle.pf_world.proofs.AskedLines.{made_of}
use Rattle.pf_world.proofs.ChunkAsks.{made_told}
use Rattle.pf_world.proofs.LineFailures.{said_fails}
use Rattle.pf_world.proofs.VolumeEvents.{chunks_ready, gone_runs, le_suc, said_runs, same_world}

-- nothing happened to the chunks
pub still_gone : (old : WorldIs) → IsWorld old → (part : FleetPart) (next : FleetIs) → IsFleetOf old.chunks next → (told : List Moment) (before after : List ℕ) → after ≡ before ++ moments_text told
    → ((halts : List Halt) → part halts (fleets.volume_stands_at halts old.chunks old.fleet) ≡ record { volume = fleets.volume_stands_at halts old.chunks next; told = told }) → FleetHasGone part old.chunks old.fleet before old.chunks next after
still_gone old world part next is_fleet told before after put run = record {
  ready = chunks_ready old world;
  is_fleet = is_fleet;
  grown = record { count = refl; each = (same_world old).grown };
  told = told;
  put = put;
  run = λ halts tells. run halts;
}

-- Groups

pub shown_runs : (w : WorldIs) (number : ℕ) (command : Command) (k : ℕ) (c : ChunkIs) (text : Group → List ℕ) (before after : List ℕ) → IsWorld w → is_live command ≡ false → moves_after w.moves command ≡ w.moves → IsOfMade w command → slice_get w.chunks k ≡ Some c → LineIsShown c.group.told number (text (state_of c.group)) before after
    → ((halts : List Halt) → run_told halts (world_stands_at halts [] w) number command ≡ chunk_shown (world_stands_at halts [] w) number k (λ d. text d.state))
    → ((halts : List Halt) → LineEnds halts (world_stands_at halts [] w) command) → HasRun w number command before after w
shown_runs w number command k c text before after world plain stays made there shown line ends =
    said_runs w number command world plain stays w.kind before after shown.text (λ halts v. volume_quietly v) (λ halts. refl) shown.put
    (λ halts tells.
    made_told halts (world_stands_at halts [] w) number command (made_of halts [] w command made) ∙ line halts ∙ ap (λ d. shown_of (world_stands_at halts [] w) number d (λ x. text x.state)) (run_there halts w.chunks k c there)
    ∙ ap (said_only (world_stands_at halts [] w) number) (sym (shown.same (tells k c there).told))) ends

shown_within : (command : Command) → IsShow command → (old : WorldIs) (number : ℕ) (new : WorldIs) → LineIsWithin old [] number command new → StopsIn old number command new
shown_within (commands.Settle limit) shows old number new within = absurd shows
shown_within (commands.Live g hosts writes workers turns) shows old number new within = absurd shows
shown_within (commands.Move chunk) shows old number new within = absurd shows
shown_within command shows old number new within = within

shown_stays : (command : Command) → IsShow command → (n : ℕ) → moves_after n command ≡ n
shown_stays (commands.Move chunk) shows n = absurd shows
shown_stays command shows n = refl

none_shown : (w : World) (number : ℕ) (c : Option ChunkRun) (text : Chunk → List ℕ) → (shown_of w number c text).world ≡ w
none_shown w number None text = refl
none_shown w number (Some c) text = refl

same_shown : (halts : List Halt) (w : World) (number : ℕ) (command : Command) → IsShow command → (run_told halts w number command).world ≡ w
same_shown halts w number (commands.ShowLog g i) shows = none_shown w number (slice_get w.volume.chunks g) _
same_shown halts w number (commands.ShowApplied g i) shows = none_shown w number (slice_get w.volume.chunks g) _
same_shown halts w number (commands.ShowSectors g i) shows = none_shown w number (slice_get w.volume.chunks g) _
same_shown halts w number (commands.ShowAcked g) shows = none_shown w number (slice_get w.volume.chunks g) _
same_shown halts w number (commands.ShowMark g i s) shows = none_shown w number (slice_get w.volume.chunks g) _
same_shown halts w number command shows = absurd shows

pub shown_fails : (w : WorldIs) (number : ℕ) (command : Command) → IsShow command → IsOfMade w command → LineHasFailed w number command w
shown_fails w number command shows made =
    said_fails w number command (shown_within command shows w number) (shown_stays command shows w.moves) w.kind w.fleet (λ halts.
    ap (λ (t : WorldTold). t.world.volume.chunks) (made_told halts (world_stands_at halts [] w) number command (made_of halts [] w command made)) ∙ ap (λ (x : World). x.volume.chunks) (same_shown halts (world_stands_at halts [] w) number command shows))

-- Mounts

rests_so : (work : MountWork) → rests work ≡ true → work ≡ Rests
rests_so Rests is = refl
rests_so work is = absurd (false≢true is)

pending_by : (pending resting : Bool) (work : MountWork) → rests work ≡ resting → (IsTrue pending ↔ (work ≢ Rests)) → pending ≡ not resting
pending_by true true work is both = absurd (both.0 refl (rests_so work is))
pending_by true false work is both = refl
pending_by false true work is both = refl
pending_by false false work is both = both.1 (λ same. false≢true (sym is ∙ ap rests same))

-- a mount is pending where it does not rest
pub pending_is : (pending : Bool) (work : MountWork) → (IsTrue pending ↔ (work ≢ Rests)) → pending ≡ not (rests work)
pending_is pending work both = pending_by pending (rests work) work refl both

module _ (w : WorldIs) (number mount : ℕ) (world : IsWorld w) (before after : List ℕ) where
  pub no_mount_runs : host_at w.fleet.hosts mount ≡ None → after ≡ before ++ report_line number (line_refusal_text refusals.NoMount) → HasRun w number (commands.ShowMount mount) before after w
  no_mount_runs none put =
      said_runs w number (commands.ShowMount mount) world refl refl w.kind before after (line_refusal_text refusals.NoMount) (λ halts v. volume_quietly v) (λ halts. refl) put (λ halts tells. ap (show_at_host (world_stands_at halts [] w) number mount) none) (λ halts made. tt)

  pub tree_shown : (host : HostIs) (middle : List ℕ) → host_at w.fleet.hosts mount ≡ Some host → middle ≡ before ++ tree_lines (listing host.mount.files.tables)
      → after ≡ middle ++ report_line number (state_text mount host.mount.upto (not (rests host.mount.task.work))) → HasRun w number (commands.ShowMount mount) before after w
  tree_shown host middle there tree put =
      let lines = tree_lines (listing host.mount.files.tables) in
      let part : FleetPart = λ halts v. saying lines v in
      gone_runs w number (commands.ShowMount mount) world refl refl part w.kind w.chunks w.fleet before middle after (state_text mount host.mount.upto (not (rests host.mount.task.work)))
      (still_gone w world part w.fleet world.is_fleet (Writes lines ∷ []) before middle (tree ∙ ap (λ xs. before ++ xs) (sym (append-nil lines))) (λ halts. refl))
      put refl (le_suc w.fleet.calls) (λ halts tells. ap (show_at_host (world_stands_at halts [] w) number mount) there) (λ halts tells made. tt)

same_of : (w : World) (number mount : ℕ) (host : Option HostIs) → (show_at_host w number mount host).world ≡ w
same_of w number mount None = refl
same_of w number mount (Some host) = refl

pub mount_shown_fails : (w : WorldIs) (number mount : ℕ) → LineHasFailed w number (commands.ShowMount mount) w
mount_shown_fails w number mount =
    said_fails w number (commands.ShowMount mount) (λ new within. within) refl w.kind w.fleet (λ halts. ap (λ (x : World). x.volume.chunks) (same_of (world_stands_at halts [] w) number mount (host_at w.fleet.hosts mount)))
