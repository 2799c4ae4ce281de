-- Lines that are not of threads take no session, and leave those that are still to come.
use Rattle.std.proofs.Common.{◌≡◌, ℕ, lit≤, false, if◌then◌else◌, List, [], length, Option, Some, None, slice_get, refl, sym, ap, ◌∙◌}
use Rattle.std.specs.Prelude.{nat_le, nat_lt}
use Rattle.std.proofs.lemmas.Bool.{false≢true}
use Rattle.pf_base.specs.declared.calls.Call.{Call}
use Rattle.pf_entry.proofs.Cases.{by_test}
use Rattle.pf_tree.specs.Calls.{FileCall}
use Rattle.pf_script.specs.declared.command.Command.{Command}
use Rattle.pf_script.specs.declared.command.Command.TheVariants as commands
use Rattle.pf_volume.specs.Volumes.{size_of}
use Rattle.std.specs.Option.{is_some}
use Rattle.pf_script.specs.Lines.{group_named}
use Rattle.pf_report.specs.Refusals.{line_refusal_text}
use Rattle.pf_report.specs.declared.refusals.LineRefusal.{LineRefusal}
use Rattle.pf_report.specs.declared.refusals.LineRefusal.TheVariants as refusals
use Rattle.pf_world_hosts.specs.Calls.{call_number}
use Rattle.pf_world_hosts.specs.declared.faults.HostCallFault.TheVariants as faults
use Rattle.pf_report.specs.Moves.{moving_text}
use Rattle.pf_report.specs.Mounts.{mount_text}
use Rattle.pf_live_session.specs.pf_group_rounds.specs.Chunks.{Chunk}
use Rattle.pf_live_session.specs.pf_group_rounds.specs.Halts.{Halt}
use Rattle.pf_live_session.specs.pf_chunk.specs.Asking.{fetches, is_range, chunk_submits}
use Rattle.pf_live_session.specs.pf_chunk.specs.Happenings.{Happened}
use Rattle.pf_live_session.specs.pf_chunk.specs.Runs.{ChunkRun}
use Rattle.pf_world_hosts.specs.pf_world_moments.specs.Words.{read_call}
use Rattle.pf_world_hosts.specs.pf_mount_host.specs.Hosts.{HostIs}
use Rattle.pf_world_hosts.specs.Volumes.{host_at, mount_count, mounts, chunk_moves, volume_quietly}
use Rattle.pf_live_session.specs.Sessions.{Session}
use Rattle.pf_world.specs.declared.kind.Kind.{Kind}
use Rattle.pf_world.specs.declared.kind.Kind.TheVariants.{Mounted, Raw}
use Rattle.pf_world.specs.Worlds.{WorldTold, World, at_chunk, refused_text, said_only, line_stepped, event_told}
use Rattle.pf_world.specs.Lines.{anchors_unless, range_asked, begins_if, begins_move, is_made, is_of_mounts, keeps_from_anchors, kind_after, made_group, move_told, rests, run_told, call_at_host, kind_decided, joins, kill_at_host, line_told, mounts_as, no_event_of, show_at_host, shown_of, submits_as, with_kind}
use Rattle.pf_world.specs.Headline.{is_live}
use Rattle.pf_world.specs.Steps.{LineEnds, EndsIn, KeepsPasses, TakesSessions}
use Rattle.pf_world.specs.Views.{WorldIs}

module _ (halts : List Halt) (sessions : List Session) where
  -- with other sessions that are still to come
  abbrev pub with_others : World → World
  with_others w = record w { sessions = sessions }

  abbrev pub told_with : WorldTold → WorldTold
  told_with t = record t { world = with_others t.world }

  chunk_other : (w : World) (number : ℕ) (event : ChunkRun → Happened) (o : Option ChunkRun) → event_told halts (with_others w) number o event ≡ told_with (event_told halts w number o event)
  chunk_other w number event None = refl
  chunk_other w number event (Some c) = refl

  no_event_other : (w : World) (number server : ℕ) (o : Option ChunkRun) → no_event_of (with_others w) number server o ≡ told_with (no_event_of w number server o)
  no_event_other w number server None = refl
  no_event_other w number server (Some c) = refl

  asked_other : (w : World) (number chunk server first count : ℕ) (event : ChunkRun → Happened) → range_asked halts (with_others w) number chunk server first count event ≡ told_with (range_asked halts w number chunk server first count event)
  asked_other w number chunk server first count event =
      let c = slice_get w.volume.chunks chunk in
      by_test (is_range first count) (λ b. (if b then at_chunk halts (with_others w) number chunk event else no_event_of (with_others w) number server c) ≡ told_with (if b then at_chunk halts w number chunk event else no_event_of w number server c))
      (λ _. chunk_other w number event c) (λ _. no_event_other w number server c)

  submits_other : (w : World) (number : ℕ) (kind : Kind) (chunk server first byte count : ℕ) → submits_as kind halts (with_others w) number chunk server first byte count ≡ told_with (submits_as kind halts w number chunk server first byte count)
  submits_other w number Mounted chunk server first byte count = refl
  submits_other w number Raw chunk server first byte count = asked_other w number chunk server first count (chunk_submits halts server first byte count)

  shown_other : (w : World) (number : ℕ) (o : Option ChunkRun) (text : Chunk → List ℕ) → shown_of (with_others w) number o text ≡ told_with (shown_of w number o text)
  shown_other w number None text = refl
  shown_other w number (Some c) text = refl

  joins_other : (w : World) (number : ℕ) → joins halts (with_others w) number ≡ told_with (joins halts w number)
  joins_other w number =
      let v = w.volume in
      let refused : World → LineRefusal → WorldTold = λ x refusal. line_stepped halts x number (volume_quietly v) (line_refusal_text refusal) in
      let new : World → WorldTold = λ x. line_stepped halts x number (mounts v) (mount_text (mount_count v)) in
      let few : World → WorldTold = λ x. if nat_le 16 (mount_count v) then refused x refusals.MountsFull else new x in
      by_test (nat_lt (size_of v.extent) 4112) (λ b. (if b then refused (with_others w) refusals.SmallVolume else few (with_others w)) ≡ told_with (if b then refused w refusals.SmallVolume else few w)) (λ _. refl)
      (λ _. by_test (nat_le 16 (mount_count v)) (λ b. (if b then refused (with_others w) refusals.MountsFull else new (with_others w)) ≡ told_with (if b then refused w refusals.MountsFull else new w)) (λ _. refl) (λ _. refl))

  mounts_other : (w : World) (number : ℕ) (kind : Kind) → mounts_as kind halts (with_others w) number ≡ told_with (mounts_as kind halts w number)
  mounts_other w number Raw = refl
  mounts_other w number Mounted = joins_other w number

  kill_other : (w : World) (number mount : ℕ) (o : Option HostIs) → kill_at_host (with_others w) number mount o ≡ told_with (kill_at_host w number mount o)
  kill_other w number mount None = refl
  kill_other w number mount (Some host) = refl

  begins_other : (w : World) (number mount : ℕ) (host : HostIs) (o : Option FileCall) → begins_if halts (with_others w) number mount host o ≡ told_with (begins_if halts w number mount host o)
  begins_other w number mount host None = refl
  begins_other w number mount host (Some call) = refl

  call_other : (w : World) (number mount : ℕ) (call : Call (List ℕ)) (o : Option HostIs) → call_at_host halts (with_others w) number mount call o ≡ told_with (call_at_host halts w number mount call o)
  call_other w number mount call None = refl
  call_other w number mount call (Some host) =
      let pending : World → WorldTold = λ x. line_stepped halts x number (volume_quietly w.volume) (refused_text (call_number faults.CallPending)) in
      by_test (rests host.mount.task.work) (λ b. (if b then begins_if halts (with_others w) number mount host (read_call call) else pending (with_others w)) ≡ told_with (if b then begins_if halts w number mount host (read_call call) else pending w))
      (λ _. begins_other w number mount host (read_call call)) (λ _. refl)

  show_other : (w : World) (number mount : ℕ) (o : Option HostIs) → show_at_host (with_others w) number mount o ≡ told_with (show_at_host w number mount o)
  show_other w number mount None = refl
  show_other w number mount (Some host) = refl

  anchors_other : (w : World) (number : ℕ) (o : Option LineRefusal) → anchors_unless (with_others w) number o ≡ told_with (anchors_unless w number o)
  anchors_other w number None = refl
  anchors_other w number (Some refusal) = refl

  begins_move_other : (w : World) (number chunk : ℕ) → begins_move halts (with_others w) number chunk ≡ told_with (begins_move halts w number chunk)
  begins_move_other w number chunk =
      let v = w.volume in
      let refused : World → LineRefusal → WorldTold = λ x refusal. line_stepped halts x number (volume_quietly v) (line_refusal_text refusal) in
      let new : World → WorldTold = λ x. line_stepped halts x number (chunk_moves chunk (made_group halts w) v) (moving_text (length v.chunks)) in
      let few : World → WorldTold = λ x. if nat_le 8 (length v.chunks) then refused x refusals.NoSpare else new x in
      by_test (is_some v.routes.moving) (λ b. (if b then refused (with_others w) refusals.Moving else few (with_others w)) ≡ told_with (if b then refused w refusals.Moving else few w)) (λ _. refl)
      (λ _. by_test (nat_le 8 (length v.chunks)) (λ b. (if b then refused (with_others w) refusals.NoSpare else new (with_others w)) ≡ told_with (if b then refused w refusals.NoSpare else new w)) (λ _. refl) (λ _. refl))

  move_other : (w : World) (number chunk : ℕ) → move_told halts (with_others w) number chunk ≡ told_with (move_told halts w number chunk)
  move_other w number chunk =
      by_test (is_of_mounts w.kind) (λ b. (if b then begins_move halts (with_others w) number chunk else said_only (with_others w) number (line_refusal_text refusals.Raw)) ≡ told_with (if b then begins_move halts w number chunk else said_only w number (line_refusal_text refusals.Raw)))
      (λ _. begins_move_other w number chunk) (λ _. refl)

  run_other : (w : World) (number : ℕ) (command : Command) → is_live command ≡ false → run_told halts (with_others w) number command ≡ told_with (run_told halts w number command)
  run_other w number (commands.Volume chunks sectors names format) plain = refl
  run_other w number (commands.Elect g i) plain = chunk_other w number _ (slice_get w.volume.chunks g)
  run_other w number (commands.Resend g i) plain = chunk_other w number _ (slice_get w.volume.chunks g)
  run_other w number (commands.Stop g i) plain = chunk_other w number _ (slice_get w.volume.chunks g)
  run_other w number (commands.Restart g i) plain = chunk_other w number _ (slice_get w.volume.chunks g)
  run_other w number (commands.Checkpoint g i) plain = chunk_other w number _ (slice_get w.volume.chunks g)
  run_other w number (commands.Deliver g k) plain = chunk_other w number _ (slice_get w.volume.chunks g)
  run_other w number (commands.Lose g k) plain = chunk_other w number _ (slice_get w.volume.chunks g)
  run_other w number (commands.Submit g i s b n) plain = let kind : Kind = kind_decided w.kind Raw in submits_other (with_kind w kind) number kind g i s b n
  run_other w number (commands.Fetch g i s n) plain = asked_other w number g i s n (fetches halts i s n)
  run_other w number (commands.Mark g i) plain = chunk_other w number _ (slice_get w.volume.chunks g)
  run_other w number (commands.Settle limit) plain = refl
  run_other w number (commands.Live g hosts writes workers turns) plain = absurd (false≢true (sym plain))
  run_other w number commands.Anchors plain = anchors_other w number (keeps_from_anchors w.kind w.volume.layout w.volume.hosts w.volume.extent)
  run_other w number commands.Mount plain = let kind : Kind = kind_decided w.kind Mounted in mounts_other (with_kind w kind) number kind
  run_other w number (commands.Kill m) plain = kill_other w number m (host_at w.volume.hosts m)
  run_other w number (commands.Call m call) plain = call_other w number m call (host_at w.volume.hosts m)
  run_other w number (commands.ShowLog g i) plain = shown_other w number (slice_get w.volume.chunks g) _
  run_other w number (commands.ShowApplied g i) plain = shown_other w number (slice_get w.volume.chunks g) _
  run_other w number (commands.ShowSectors g i) plain = shown_other w number (slice_get w.volume.chunks g) _
  run_other w number (commands.ShowAcked g) plain = shown_other w number (slice_get w.volume.chunks g) _
  run_other w number (commands.ShowMark g i s) plain = shown_other w number (slice_get w.volume.chunks g) _
  run_other w number (commands.ShowMount m) plain = show_other w number m (host_at w.volume.hosts m)
  run_other w number (commands.Move chunk) plain = move_other w number chunk

  made_other : (w : World) (o : Option ℕ) → is_made (with_others w) o ≡ is_made w o
  made_other w None = refl
  made_other w (Some g) = refl

  pub line_other : (w : World) (number : ℕ) (command : Command) → is_live command ≡ false → line_told halts (with_others w) number command ≡ told_with (line_told halts w number command)
  line_other w number command plain =
      let refused : World → WorldTold = λ x. said_only (record x { kind = kind_after w.kind command }) number (line_refusal_text refusals.NoGroup) in
      ap (λ b. if b then run_told halts (with_others w) number command else refused (with_others w)) (made_other w (group_named command))
      ∙ by_test (is_made w (group_named command)) (λ b. (if b then run_told halts (with_others w) number command else refused (with_others w)) ≡ told_with (if b then run_told halts w number command else refused w))
      (λ _. run_other w number command plain) (λ _. refl)

  ends_in_other : (w : World) (command : Command) → is_live command ≡ false → EndsIn halts w command → EndsIn halts (with_others w) command
  ends_in_other w (commands.Settle limit) plain ends = ends
  ends_in_other w (commands.Live g hosts writes workers turns) plain ends = absurd (false≢true (sym plain))
  ends_in_other w command plain ends = tt

  pub ends_other : (w : World) (command : Command) → is_live command ≡ false → LineEnds halts w command → LineEnds halts (with_others w) command
  ends_other w command plain ends = λ made. ends_in_other w command plain (ends (sym (made_other w (group_named command)) ∙ made))

pub takes_none : (command : Command) → is_live command ≡ false → TakesSessions command []
takes_none (commands.Live g hosts writes workers turns) plain = absurd (false≢true (sym plain))
takes_none command plain = refl

-- nor do they make passes
pub keeps_none : (old new : WorldIs) (command : Command) → is_live command ≡ false → new.passes ≡ old.passes → KeepsPasses old [] command new
keeps_none old new (commands.Live g hosts writes workers turns) plain same = absurd (false≢true (sym plain))
keeps_none old new command plain same = same

-- any line may take no session
pub takes_nothing : (command : Command) → TakesSessions command []
takes_nothing (commands.Live g hosts writes workers turns) = lit≤ tt
takes_nothing command = refl
