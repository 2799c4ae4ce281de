-- Lines that make a mount, end one, or begin a call of one.
use Rattle.std.proofs.Common.{◌≡◌, ◌≢◌, ◌↔◌, ℕ, suc, ◌<◌, ◌≤◌, nat_lt, nat_le, Bool, true, false, if◌then◌else◌, List, [], ◌++◌, drop, length, take, Option, Some, None, Ok, Err, IsErrOf, IsSome, slice_set, refl, sym, ap, subst, ◌∙◌, arith, append-nil}
use Rattle.std.proofs.lemmas.Bool.Decides.{nat_tests}
use Rattle.pf_base.specs.declared.calls.Call.{Call}
use Rattle.pf_tree.specs.Calls.{FileCall}
use Rattle.pf_script.specs.declared.command.Command.{Command}
use Rattle.pf_script.specs.declared.command.Command.TheVariants as commands
use Rattle.pf_protocol.specs.declared.answers.Answer.TheVariants.{Done}
use Rattle.pf_volume.specs.Volumes.{size_of}
use Rattle.pf_report.specs.declared.refusals.LineRefusal.TheVariants as refusals
use Rattle.pf_report.specs.Refusals.{line_refusal_text, refusal_text}
use Rattle.pf_report.specs.Texts.{report_line}
use Rattle.pf_report.specs.Mounts.{mount_text, started_text}
use Rattle.pf_live_session.specs.pf_group_rounds.specs.Halts.{Halt}
use Rattle.pf_live_session.specs.pf_chunk.specs.Saying.{said}
use Rattle.pf_live_session.specs.pf_chunk.specs.Views.{ChunkIs}
use Rattle.pf_world_hosts.specs.pf_world_moments.specs.Steps.{chunk_runs}
use Rattle.pf_world_hosts.specs.pf_world_moments.specs.Words.{read_call}
use Rattle.pf_world_hosts.specs.pf_world_moments.proofs.HistoryGrowth.{Lengthens, lengthens_refl, lengthens_trans}
use Rattle.pf_world_hosts.specs.declared.faults.HostCallFault.{HostCallFault}
use Rattle.pf_world_hosts.specs.declared.faults.HostCallFault.TheVariants as faults
use Rattle.pf_world_hosts.specs.declared.faults.JoinFault.{JoinFault}
use Rattle.pf_world_hosts.specs.declared.faults.JoinFault.TheVariants as joins_not
use Rattle.pf_mount.specs.declared.work.MountWork.{MountWork}
use Rattle.pf_mount.specs.declared.work.MountWork.TheVariants.{Rests}
use Rattle.pf_world_hosts.specs.pf_mount_host.specs.Hosts.{HostIs}
use Rattle.pf_world_hosts.specs.Calls.{HasCalled, HasJoined, IsCause, call_number, join_number}
use Rattle.pf_world_hosts.specs.Steps.{AreSameHosts, FleetIs, FleetHasGone, FleetHasStopped, IsFleetOf, FleetPart}
use Rattle.pf_world_hosts.specs.Steps as fleets
use Rattle.pf_world_hosts.specs.Volumes.{VolumeTold, all_step, begins, volume_followed, host_at, killed, mount_count, mounts, volume_quietly}
use Rattle.pf_world.specs.declared.kind.Kind.{Kind}
use Rattle.pf_world.specs.declared.kind.Kind.TheVariants.{Mounted, Raw}
use Rattle.pf_world.specs.Worlds as worlds
use Rattle.pf_world.specs.Worlds.{World, refused_text, line_stepped}
use Rattle.pf_world.specs.Lines.{begins_if, call_at_host, kind_decided, kill_at_host, line_told, mounts_as, rests, with_kind}
use Rattle.pf_world.specs.Views.{IsWorld, WorldIs, world_stands_at}
use Rattle.pf_world.specs.Headline.{is_live}
use Rattle.pf_world.specs.Steps.{LineEnds, LineHasFailed, HasRun, LineIsWithin, StopsIn, moves_after}
use Rattle.pf_world.proofs.LineFailures.{gone_fails, have_all_begun, said_fails, stopped_fails}
use Rattle.pf_world.proofs.VolumeEvents.{all_grew, becomes, gone_runs, le_suc, said_runs, same_groups}
use Rattle.pf_world.proofs.ChunkSlices.{handed_back}
use Rattle.pf_world.proofs.Shown.{still_gone}
use Rattle.pf_world_hosts.proofs.ChunkGrowth.{begun_through, grown_refl_all, all_lengthen}
use Rattle.pf_world_hosts.proofs.Parts.{then_stopped, went_on}

-- A mount ends

host_there : (host : Option HostIs) → (host ≡ None → ⊥) → (h : HostIs) × (host ≡ Some h)
host_there None is = absurd (is refl)
host_there (Some h) is = (h, refl)

module _ (old : WorldIs) (number mount : ℕ) (world : IsWorld old) (before after : List ℕ) where
  pub killed_runs : (next : FleetIs) → next ≡ record old.fleet { hosts = slice_set old.fleet.hosts mount None } → IsFleetOf old.chunks next → (host_at old.fleet.hosts mount ≡ None → ⊥)
      → after ≡ before ++ report_line number (said Done) → HasRun old number (commands.Kill mount) before after (becomes old old.chunks next old.kind)
  killed_runs next is is_fleet there put =
      let part : FleetPart = λ halts v. volume_quietly (killed mount v) in
      let calls : next.calls ≡ old.fleet.calls = ap (λ (f : FleetIs). f.calls) is in
      gone_runs old number (commands.Kill mount) world refl refl part old.kind old.chunks next before before after (said Done)
      (still_gone old world part next is_fleet [] before before (sym (append-nil before)) (λ halts. ap (λ f. volume_quietly (fleets.volume_stands_at halts old.chunks f)) (sym is)))
      put (ap (λ (f : FleetIs). f.volume) is) (omega (arith, calls)) (λ halts tells. ap (kill_at_host (world_stands_at halts [] old) number mount) (host_there (host_at old.fleet.hosts mount) there).1) (λ halts tells made. tt)

  pub none_killed_runs : (next : FleetIs) → next ≡ old.fleet → host_at old.fleet.hosts mount ≡ None → after ≡ before ++ report_line number (line_refusal_text refusals.NoMount) → HasRun old number (commands.Kill mount) before after (becomes old old.chunks next old.kind)
  none_killed_runs next same none put =
      subst (λ f. HasRun old number (commands.Kill mount) before after (becomes old old.chunks f old.kind)) (sym same)
      (said_runs old number (commands.Kill mount) world refl refl old.kind before after (line_refusal_text refusals.NoMount) (λ halts v. volume_quietly v) (λ halts. refl) put (λ halts tells. ap (kill_at_host (world_stands_at halts [] old) number mount) none) (λ halts made. tt))

chunks_killed : (w : World) (number mount : ℕ) (host : Option HostIs) → (kill_at_host w number mount host).world.volume.chunks ≡ w.volume.chunks
chunks_killed w number mount None = refl
chunks_killed w number mount (Some host) = refl

pub killed_fails : (old : WorldIs) (number mount : ℕ) (next : FleetIs) → LineHasFailed old number (commands.Kill mount) (becomes old old.chunks next old.kind)
killed_fails old number mount next =
    said_fails old number (commands.Kill mount) (λ new within. within) refl old.kind next (λ halts. chunks_killed (world_stands_at halts [] old) number mount (host_at old.fleet.hosts mount))

-- A part of a line, and then a step of each host

module _ (old : WorldIs) (number : ℕ) (command : Command) (part : FleetPart) (kind : Option Kind) (mid : List ChunkIs) (fleet : FleetIs) (before middle : List ℕ) (first : FleetHasGone part old.chunks old.fleet before mid fleet middle) where
  -- the world between the two, and the world afterwards
  module _ (between next : WorldIs) (is : becomes old mid fleet kind ≡ between) (others : next ≡ record between { chunks = next.chunks; fleet = next.fleet }) where
    abbrev whole : FleetPart
    whole halts v = volume_followed (part halts v) (all_step halts)

    becomes_next : becomes old next.chunks next.fleet kind ≡ next
    becomes_next = sym (others ∙ ap (λ w. becomes w next.chunks next.fleet w.kind) (sym is))

    all_gone : (later : List ℕ) → FleetHasGone all_step between.chunks between.fleet middle next.chunks next.fleet later → FleetHasGone whole old.chunks old.fleet before next.chunks next.fleet later
    all_gone later second =
        went_on part all_step old.chunks mid next.chunks old.fleet fleet next.fleet before middle later first (subst (λ (w : WorldIs). FleetHasGone all_step w.chunks w.fleet middle next.chunks next.fleet later) (sym is) second)

    pub steps_run : (later after text : List ℕ) → FleetHasGone all_step between.chunks between.fleet middle next.chunks next.fleet later → AreSameHosts between.fleet next.fleet → IsWorld old → is_live command ≡ false → moves_after old.moves command ≡ old.moves
        → fleet.volume ≡ old.fleet.volume → fleet.calls ≤ suc old.fleet.calls → after ≡ later ++ report_line number text
        → ((halts : List Halt) → line_told halts (world_stands_at halts [] old) number command ≡ line_stepped halts (record (world_stands_at halts [] old) { kind = kind }) number (part halts (fleets.volume_stands_at halts old.chunks old.fleet)) text)
        → ((halts : List Halt) → LineEnds halts (world_stands_at halts [] old) command) → HasRun old number command before after next
    steps_run later after text second hosts world plain stays volume calls put line ends =
        let same = subst (λ (w : WorldIs). AreSameHosts w.fleet next.fleet) (sym is) hosts in
        subst (HasRun old number command before after) becomes_next
        (gone_runs old number command world plain stays whole kind next.chunks next.fleet before later after text (all_gone later second) put (same.volume ∙ volume) (subst (λ n. n ≤ suc old.fleet.calls) (sym same.calls) calls)
        (λ halts tells. line halts) (λ halts tells. ends halts))

    module _ (within : (new : WorldIs) → LineIsWithin old [] number command new → StopsIn old number command new) (stays : moves_after old.moves command ≡ old.moves) (text : List ℕ)
        (line : (halts : List Halt) → line_told halts (world_stands_at halts [] old) number command ≡ line_stepped halts (record (world_stands_at halts [] old) { kind = kind }) number (part halts (fleets.volume_stands_at halts old.chunks old.fleet)) text) where
      -- there was no memory for the line's text
      pub steps_fail : (later : List ℕ) → FleetHasGone all_step between.chunks between.fleet middle next.chunks next.fleet later → LineHasFailed old number command next
      steps_fail later second =
          subst (LineHasFailed old number command) becomes_next
          (gone_fails old number command within stays whole kind next.chunks next.fleet before later (all_gone later second) (λ halts tells. ap (λ (t : worlds.WorldTold). t.world.volume.chunks) (line halts)))

      -- for the steps of the hosts
      pub steps_stop : FleetHasStopped all_step between.chunks between.fleet next.chunks → LineHasFailed old number command next
      steps_stop second =
          subst (LineHasFailed old number command) becomes_next
          (stopped_fails old number command within stays whole kind next.chunks next.fleet
          (then_stopped part all_step old.chunks mid next.chunks old.fleet fleet before middle first (subst (λ (w : WorldIs). FleetHasStopped all_step w.chunks w.fleet next.chunks) (sym is) second))
          (λ halts tells. ap (λ (t : worlds.WorldTold). t.world.volume.chunks) (line halts)))

-- the line was not begun: all that it does only adds to histories
pub not_begun : (old : WorldIs) (number : ℕ) (command : Command) → ((new : WorldIs) → LineIsWithin old [] number command new → StopsIn old number command new) → moves_after old.moves command ≡ old.moves → (kind : Option Kind) (fleet : FleetIs)
    → ((halts : List Halt) → Lengthens (chunk_runs halts old.chunks) (line_told halts (world_stands_at halts [] old) number command).world.volume.chunks) → LineHasFailed old number command (becomes old old.chunks fleet kind)
not_begun old number command within stays kind fleet longer = record {
  goes_on = all_grew old old.chunks fleet kind (grown_refl_all old.chunks);
  groups = same_groups old.moves command stays (length old.chunks) (length old.chunks) refl;
  passes = refl;
  stopped = within (becomes old old.chunks fleet kind) (λ halts tells.
      let would = (line_told halts (world_stands_at halts [] old) number command).world.volume.chunks in
      begun_through halts old.chunks old.chunks old.chunks (chunk_runs halts old.chunks) would (grown_refl_all old.chunks) (have_all_begun halts old.chunks old.chunks (grown_refl_all old.chunks) tells) (longer halts));
}

-- the world whose chunks were handed on as a slice, and came back
abbrev pub handed : WorldIs → (len : ℕ) → List ChunkIs → FleetIs → Option Kind → WorldIs
handed old len chunks fleet kind = becomes old (take len (chunks ++ drop (length chunks) old.chunks)) fleet kind

pub handed_is : (old : WorldIs) (len : ℕ) (chunks : List ChunkIs) (fleet : FleetIs) (kind : Option Kind) → len ≡ length old.chunks → length chunks ≡ length old.chunks → becomes old chunks fleet kind ≡ handed old len chunks fleet kind
handed_is old len chunks fleet kind all count = ap (λ cs. becomes old cs fleet kind) (sym (handed_back chunks old.chunks len count all))

-- as they were
pub still_handed : (old : WorldIs) (len : ℕ) (chunks : List ChunkIs) (fleet : FleetIs) (kind : Option Kind) → len ≡ length old.chunks → chunks ≡ old.chunks → becomes old old.chunks fleet kind ≡ handed old len chunks fleet kind
still_handed old len chunks fleet kind all same = ap (λ cs. becomes old cs fleet kind) (sym same) ∙ handed_is old len chunks fleet kind all (ap length same)

-- nothing happened yet
pub quiet_gone : (old : WorldIs) → IsWorld old → (before : List ℕ) → FleetHasGone (λ halts v. volume_quietly v) old.chunks old.fleet before old.chunks old.fleet before
quiet_gone old world before = still_gone old world (λ halts v. volume_quietly v) old.fleet world.is_fleet [] before before (sym (append-nil before)) (λ halts. refl)

-- what tells nothing leaves any text as it was
pub silent_gone : (part : FleetPart) (old new : List ChunkIs) (fleet next : FleetIs) (before : List ℕ) → FleetHasGone part old fleet [] new next [] → FleetHasGone part old fleet before new next before
silent_gone part old new fleet next before gone = record {
  ready = gone.ready;
  is_fleet = gone.is_fleet;
  grown = gone.grown;
  told = gone.told;
  put = sym (append-nil before) ∙ ap (λ xs. before ++ xs) gone.put;
  run = gone.run;
}

stepped_lengthens : (halts : List Halt) (w : World) (number : ℕ) (t : VolumeTold) (text : List ℕ) → Lengthens w.volume.chunks t.volume.chunks → Lengthens w.volume.chunks (line_stepped halts w number t text).world.volume.chunks
stepped_lengthens halts w number t text longer = lengthens_trans w.volume.chunks t.volume.chunks (all_step halts t.volume).volume.chunks longer (all_lengthen halts t.volume)

-- A mount is made

module _ (halts : List Halt) (w : World) (number : ℕ) where
  abbrev Small : worlds.WorldTold
  Small = line_stepped halts w number (volume_quietly w.volume) (line_refusal_text refusals.SmallVolume)

  abbrev Full : worlds.WorldTold
  Full = line_stepped halts w number (volume_quietly w.volume) (line_refusal_text refusals.MountsFull)

  abbrev Joined : worlds.WorldTold
  Joined = line_stepped halts w number (mounts w.volume) (mount_text (mount_count w.volume))

  by_room : (small full : Bool) → Lengthens w.volume.chunks (if small then Small else if full then Full else Joined).world.volume.chunks
  by_room true full = stepped_lengthens halts w number (volume_quietly w.volume) (line_refusal_text refusals.SmallVolume) (lengthens_refl w.volume.chunks)
  by_room false true = stepped_lengthens halts w number (volume_quietly w.volume) (line_refusal_text refusals.MountsFull) (lengthens_refl w.volume.chunks)
  by_room false false = stepped_lengthens halts w number (mounts w.volume) (mount_text (mount_count w.volume)) (lengthens_refl w.volume.chunks)

  by_kind : (kind : Kind) → Lengthens w.volume.chunks (mounts_as kind halts w number).world.volume.chunks
  by_kind Raw = lengthens_refl w.volume.chunks
  by_kind Mounted = by_room (nat_lt (size_of w.volume.extent) 4112) (nat_le 16 (mount_count w.volume))

  module _ (kind : Kind) (is : kind ≡ Mounted) where
    pub small_line : size_of w.volume.extent < 4112 → mounts_as kind halts w number ≡ Small
    small_line low =
        let small : nat_lt (size_of w.volume.extent) 4112 ≡ true = grind (arith, nat_tests) in
        ap (λ k. mounts_as k halts w number) is ∙ ap (λ b. if b then Small else if nat_le 16 (mount_count w.volume) then Full else Joined) small

    large : (size_of w.volume.extent < 4112 → ⊥) → mounts_as kind halts w number ≡ (if nat_le 16 (mount_count w.volume) then Full else Joined)
    large not_low =
        let no : nat_lt (size_of w.volume.extent) 4112 ≡ false = grind (arith, nat_tests) in
        ap (λ k. mounts_as k halts w number) is ∙ ap (λ b. if b then Small else if nat_le 16 (mount_count w.volume) then Full else Joined) no

    pub full_line : (size_of w.volume.extent < 4112 → ⊥) → 16 ≤ mount_count w.volume → mounts_as kind halts w number ≡ Full
    full_line not_low many =
        let full : nat_le 16 (mount_count w.volume) ≡ true = grind (arith, nat_tests) in
        large not_low ∙ ap (λ b. if b then Full else Joined) full

    pub joined_line : (size_of w.volume.extent < 4112 → ⊥) → (16 ≤ mount_count w.volume → ⊥) → mounts_as kind halts w number ≡ Joined
    joined_line not_low few =
        let no : nat_le 16 (mount_count w.volume) ≡ false = grind (arith, nat_tests) in
        large not_low ∙ ap (λ b. if b then Full else Joined) no

module _ (old : WorldIs) (number : ℕ) (mounted : kind_decided old.kind Mounted ≡ Mounted) (halts : List Halt) where
  abbrev decided_world : World
  decided_world = with_kind (world_stands_at halts [] old) (kind_decided old.kind Mounted)

  -- what makes each refusal
  pub no_mount_line : (fault : JoinFault) → fault ≢ joins_not.NoMemory → (IsErrOf {T = ℕ} (Err fault) joins_not.SmallVolume ↔ (size_of old.fleet.volume < 4112)) → (IsErrOf {T = ℕ} (Err fault) joins_not.MountsFull ↔ (16 ≤ length old.fleet.hosts))
      → line_told halts (world_stands_at halts [] old) number commands.Mount ≡ line_stepped halts decided_world number (volume_quietly (fleets.volume_stands_at halts old.chunks old.fleet)) (refused_text (join_number fault))
  no_mount_line joins_not.NoMemory other small full = absurd (other refl)
  no_mount_line joins_not.MountsFull other small full = full_line halts decided_world number (kind_decided old.kind Mounted) mounted (λ low. apart (small.1 low)) (full.0 refl) where
    apart : IsErrOf {T = ℕ} (Err joins_not.MountsFull) joins_not.SmallVolume → ⊥
    apart same = cc
  no_mount_line joins_not.SmallVolume other small full = small_line halts decided_world number (kind_decided old.kind Mounted) mounted (small.0 refl)

  ok_no_err : (m : ℕ) (fault : JoinFault) → IsErrOf (Ok m) fault → ⊥
  ok_no_err m fault same = cc

  pub mount_line_told : (m : ℕ) → (IsErrOf (Ok m) joins_not.SmallVolume ↔ (size_of old.fleet.volume < 4112)) → (IsErrOf (Ok m) joins_not.MountsFull ↔ (16 ≤ length old.fleet.hosts))
      → line_told halts (world_stands_at halts [] old) number commands.Mount ≡ line_stepped halts decided_world number (mounts (fleets.volume_stands_at halts old.chunks old.fleet)) (mount_text (length old.fleet.hosts))
  mount_line_told m small full =
      joined_line halts decided_world number (kind_decided old.kind Mounted) mounted (λ low. ok_no_err m joins_not.SmallVolume (small.1 low)) (λ many. ok_no_err m joins_not.MountsFull (full.1 many))

pub no_mount_said : (fault : JoinFault) → fault ≢ joins_not.NoMemory → IsSome (refusal_text (join_number fault))
no_mount_said joins_not.NoMemory other = absurd (other refl)
no_mount_said joins_not.MountsFull other = refl
no_mount_said joins_not.SmallVolume other = refl

pub mount_not_begun : (old : WorldIs) (number : ℕ) (fleet : FleetIs) (kind : Option Kind) → LineHasFailed old number commands.Mount (becomes old old.chunks fleet kind)
mount_not_begun old number fleet kind =
    not_begun old number commands.Mount (λ new within. within) refl kind fleet (λ halts. let decided_kind = kind_decided old.kind Mounted in by_kind halts (with_kind (world_stands_at halts [] old) decided_kind) number decided_kind)

-- in a raw run nothing is mounted
pub raw_runs : (old : WorldIs) (number : ℕ) (before after : List ℕ) → IsWorld old → kind_decided old.kind Mounted ≡ Raw → after ≡ before ++ report_line number (line_refusal_text refusals.Raw)
    → HasRun old number commands.Mount before after (becomes old old.chunks old.fleet (Some (kind_decided old.kind Mounted)))
raw_runs old number before after world raw put =
    said_runs old number commands.Mount world refl refl (Some (kind_decided old.kind Mounted)) before after (line_refusal_text refusals.Raw) (λ halts v. volume_quietly v) (λ halts. refl) put
    (λ halts tells. ap (λ kind. mounts_as kind halts (with_kind (world_stands_at halts [] old) (kind_decided old.kind Mounted)) number) raw) (λ halts made. tt)

-- A call begins

begins_lengthens : (halts : List Halt) (w : World) (number mount : ℕ) (host : HostIs) (call : Option FileCall) → Lengthens w.volume.chunks (begins_if halts w number mount host call).world.volume.chunks
begins_lengthens halts w number mount host None = stepped_lengthens halts w number (volume_quietly w.volume) (refused_text (call_number faults.BadName)) (lengthens_refl w.volume.chunks)
begins_lengthens halts w number mount host (Some call) = stepped_lengthens halts w number (begins mount host call w.volume) started_text (lengthens_refl w.volume.chunks)

module _ (halts : List Halt) (w : World) (number mount : ℕ) (call : Call (List ℕ)) where
  abbrev at_rest : (resting : Bool) → HostIs → worlds.WorldTold
  at_rest resting host = if resting then begins_if halts w number mount host (read_call call) else line_stepped halts w number (volume_quietly w.volume) (refused_text (call_number faults.CallPending))

  by_rest : (resting : Bool) (host : HostIs) → Lengthens w.volume.chunks (at_rest resting host).world.volume.chunks
  by_rest true host = begins_lengthens halts w number mount host (read_call call)
  by_rest false host = stepped_lengthens halts w number (volume_quietly w.volume) (refused_text (call_number faults.CallPending)) (lengthens_refl w.volume.chunks)

  call_lengthens : (host : Option HostIs) → Lengthens w.volume.chunks (call_at_host halts w number mount call host).world.volume.chunks
  call_lengthens None = stepped_lengthens halts w number (volume_quietly w.volume) (line_refusal_text refusals.NoMount) (lengthens_refl w.volume.chunks)
  call_lengthens (Some host) = by_rest (rests host.mount.task.work) host

  called_line : (host : HostIs) (file : FileCall) → host_at w.volume.hosts mount ≡ Some host → host.mount.task.work ≡ Rests → read_call call ≡ Some file
      → call_at_host halts w number mount call (host_at w.volume.hosts mount) ≡ line_stepped halts w number (begins mount host file w.volume) started_text
  called_line host file there resting read =
      ap (call_at_host halts w number mount call) there ∙ ap (λ work. at_rest (rests work) host) resting ∙ ap (begins_if halts w number mount host) read

  works : (work : MountWork) → work ≢ Rests → rests work ≡ false
  works Rests busy = absurd (busy refl)
  works work busy = refl

module _ (halts : List Halt) (old : WorldIs) (number mount : ℕ) (call : Call (List ℕ)) where
  refused_line : (fault : HostCallFault) → fault ≢ faults.NoMemory → IsCause fault mount call old.fleet → let w = world_stands_at halts [] old in line_told halts w number (commands.Call mount call) ≡ line_stepped halts w number (volume_quietly w.volume) (refused_text (call_number fault))
  refused_line faults.NoMemory other cause = absurd (other refl)
  refused_line faults.BadName other cause =
      let w = world_stands_at halts [] old in
      ap (call_at_host halts w number mount call) cause.1 ∙ ap (λ work. at_rest halts w number mount call (rests work) cause.0) cause.2 ∙ ap (begins_if halts w number mount cause.0) cause.3
  refused_line faults.CallPending other cause =
      let w = world_stands_at halts [] old in
      ap (call_at_host halts w number mount call) cause.1 ∙ ap (λ b. at_rest halts w number mount call b cause.0) (works halts w number mount call cause.0.mount.task.work cause.2)
  refused_line faults.NoMount other cause = ap (call_at_host halts (world_stands_at halts [] old) number mount call) cause

pub no_call_said : (fault : HostCallFault) → fault ≢ faults.NoMemory → IsSome (refusal_text (call_number fault))
no_call_said faults.NoMemory other = absurd (other refl)
no_call_said faults.BadName other = refl
no_call_said faults.CallPending other = refl
no_call_said faults.NoMount other = refl

pub call_not_begun : (old : WorldIs) (number mount : ℕ) (call : Call (List ℕ)) (fleet : FleetIs) → LineHasFailed old number (commands.Call mount call) (becomes old old.chunks fleet old.kind)
call_not_begun old number mount call fleet =
    not_begun old number (commands.Call mount call) (λ new within. within) refl old.kind fleet (λ halts. call_lengthens halts (world_stands_at halts [] old) number mount call (host_at old.fleet.hosts mount))

-- Whole lines

module _ (old : WorldIs) (number : ℕ) (before : List ℕ) (world : IsWorld old) (len : ℕ) (all : len ≡ length old.chunks) where
  -- the line of a mount, in a run that is no raw one
  module _ (kind : Kind) (decides : kind ≡ kind_decided old.kind Mounted) (mounted : kind ≡ Mounted) where
    is_mounted : kind_decided old.kind Mounted ≡ Mounted
    is_mounted = sym decides ∙ mounted

    abbrev settled_kind : Option Kind
    settled_kind = Some (kind_decided old.kind Mounted)

    -- a host came
    module _ (m : ℕ) (mid : List ChunkIs) (fleet : FleetIs) (joined : HasJoined old.chunks old.fleet m mid fleet) (next : WorldIs) (others : next ≡ record (handed old len mid fleet (Some kind)) { chunks = next.chunks; fleet = next.fleet }) where
      abbrev come : WorldIs
      come = handed old len mid fleet (Some kind)

      come_is : becomes old mid fleet settled_kind ≡ come
      come_is = ap (λ k. becomes old mid fleet (Some k)) (sym decides) ∙ handed_is old len mid fleet (Some kind) all joined.went.grown.count

      came : FleetHasGone (λ halts v. mounts v) old.chunks old.fleet before mid fleet before
      came = silent_gone (λ halts v. mounts v) old.chunks mid old.fleet fleet before joined.went

      module _ (small : IsErrOf (Ok m) joins_not.SmallVolume ↔ (size_of old.fleet.volume < 4112)) (full : IsErrOf (Ok m) joins_not.MountsFull ↔ (16 ≤ length old.fleet.hosts)) where
        pub joined_runs : (later after : List ℕ) → FleetHasGone all_step come.chunks come.fleet before next.chunks next.fleet later → AreSameHosts fleet next.fleet → after ≡ later ++ report_line number (mount_text m) → HasRun old number commands.Mount before after next
        joined_runs later after steps same put =
            steps_run old number commands.Mount (λ halts v. mounts v) settled_kind mid fleet before before came come next come_is others later after (mount_text (length old.fleet.hosts)) steps same world refl refl joined.volume
            (subst (λ n. n ≤ suc old.fleet.calls) (sym joined.calls) (le_suc old.fleet.calls)) (put ∙ ap (λ n. later ++ report_line number (mount_text n)) joined.number_is) (λ halts. mount_line_told old number is_mounted halts m small full) (λ halts made. tt)

        pub joined_fails : (later : List ℕ) → FleetHasGone all_step come.chunks come.fleet before next.chunks next.fleet later → LineHasFailed old number commands.Mount next
        joined_fails later steps =
            steps_fail old number commands.Mount (λ halts v. mounts v) settled_kind mid fleet before before came come next come_is others (λ new within. within) refl (mount_text (length old.fleet.hosts))
            (λ halts. mount_line_told old number is_mounted halts m small full) later steps

        pub joined_stops : FleetHasStopped all_step come.chunks come.fleet next.chunks → LineHasFailed old number commands.Mount next
        joined_stops stopped =
            steps_stop old number commands.Mount (λ halts v. mounts v) settled_kind mid fleet before before came come next come_is others (λ new within. within) refl (mount_text (length old.fleet.hosts))
            (λ halts. mount_line_told old number is_mounted halts m small full) stopped

    -- none came
    module _ (mid : List ChunkIs) (fleet : FleetIs) (chunks_are : mid ≡ old.chunks) (fleet_is : fleet ≡ old.fleet) (next : WorldIs) (others : next ≡ record (handed old len mid fleet (Some kind)) { chunks = next.chunks; fleet = next.fleet }) where
      abbrev stays : WorldIs
      stays = handed old len mid fleet (Some kind)

      stays_is : becomes old old.chunks old.fleet settled_kind ≡ stays
      stays_is = ap (λ k. becomes old old.chunks old.fleet (Some k)) (sym decides) ∙ ap (λ f. becomes old old.chunks f (Some kind)) (sym fleet_is) ∙ still_handed old len mid fleet (Some kind) all chunks_are

      module _ (fault : JoinFault) (other : fault ≢ joins_not.NoMemory) (small : IsErrOf {T = ℕ} (Err fault) joins_not.SmallVolume ↔ (size_of old.fleet.volume < 4112)) (full : IsErrOf {T = ℕ} (Err fault) joins_not.MountsFull ↔ (16 ≤ length old.fleet.hosts)) where
        pub none_joined_runs : (later after : List ℕ) → FleetHasGone all_step stays.chunks stays.fleet before next.chunks next.fleet later → AreSameHosts fleet next.fleet → after ≡ later ++ report_line number (refused_text (join_number fault)) → HasRun old number commands.Mount before after next
        none_joined_runs later after steps same put =
            steps_run old number commands.Mount (λ halts v. volume_quietly v) settled_kind old.chunks old.fleet before before (quiet_gone old world before) stays next stays_is others later after (refused_text (join_number fault)) steps same world refl refl refl
            (le_suc old.fleet.calls) put (λ halts. no_mount_line old number is_mounted halts fault other small full) (λ halts made. tt)

        pub none_joined_fails : (later : List ℕ) → FleetHasGone all_step stays.chunks stays.fleet before next.chunks next.fleet later → LineHasFailed old number commands.Mount next
        none_joined_fails later steps =
            steps_fail old number commands.Mount (λ halts v. volume_quietly v) settled_kind old.chunks old.fleet before before (quiet_gone old world before) stays next stays_is others (λ new within. within) refl (refused_text (join_number fault))
            (λ halts. no_mount_line old number is_mounted halts fault other small full) later steps

        pub none_joined_stops : FleetHasStopped all_step stays.chunks stays.fleet next.chunks → LineHasFailed old number commands.Mount next
        none_joined_stops stopped =
            steps_stop old number commands.Mount (λ halts v. volume_quietly v) settled_kind old.chunks old.fleet before before (quiet_gone old world before) stays next stays_is others (λ new within. within) refl (refused_text (join_number fault))
            (λ halts. no_mount_line old number is_mounted halts fault other small full) stopped

  -- the line of a call
  module _ (m : ℕ) (call : Call (List ℕ)) (mid : List ChunkIs) (fleet : FleetIs) (next : WorldIs) (others : next ≡ record (handed old len mid fleet old.kind) { chunks = next.chunks; fleet = next.fleet }) where
    abbrev begun : WorldIs
    begun = handed old len mid fleet old.kind

    -- it began
    module _ (middle : List ℕ) (called : HasCalled m call old.chunks old.fleet before mid fleet middle) where
      begun_is : becomes old mid fleet old.kind ≡ begun
      begun_is = handed_is old len mid fleet old.kind all called.went.grown.count

      abbrev it_begins : FleetPart
      it_begins halts v = begins m called.host called.file v

      line_begins : (halts : List Halt) → let w = world_stands_at halts [] old in line_told halts w number (commands.Call m call) ≡ line_stepped halts w number (begins m called.host called.file w.volume) started_text
      line_begins halts = called_line halts (world_stands_at halts [] old) number m call called.host called.file called.there called.rests called.read

      pub called_runs : (later after : List ℕ) → FleetHasGone all_step begun.chunks begun.fleet middle next.chunks next.fleet later → AreSameHosts fleet next.fleet → after ≡ later ++ report_line number started_text → HasRun old number (commands.Call m call) before after next
      called_runs later after steps same put =
          steps_run old number (commands.Call m call) it_begins old.kind mid fleet before middle called.went begun next begun_is others later after started_text steps same world refl refl called.volume
          (subst (λ n. n ≤ suc old.fleet.calls) (sym called.calls) (omega arith)) put line_begins (λ halts made. tt)

      pub called_fails : (later : List ℕ) → FleetHasGone all_step begun.chunks begun.fleet middle next.chunks next.fleet later → LineHasFailed old number (commands.Call m call) next
      called_fails later steps =
          steps_fail old number (commands.Call m call) it_begins old.kind mid fleet before middle called.went begun next begun_is others (λ new within. within) refl started_text line_begins later steps

      pub called_stops : FleetHasStopped all_step begun.chunks begun.fleet next.chunks → LineHasFailed old number (commands.Call m call) next
      called_stops stopped =
          steps_stop old number (commands.Call m call) it_begins old.kind mid fleet before middle called.went begun next begun_is others (λ new within. within) refl started_text line_begins stopped

    -- it was refused
    module _ (chunks_are : mid ≡ old.chunks) (fleet_is : fleet ≡ old.fleet) (fault : HostCallFault) (other : fault ≢ faults.NoMemory) (cause : IsCause fault m call old.fleet) where
      unbegun_is : becomes old old.chunks old.fleet old.kind ≡ begun
      unbegun_is = ap (λ f. becomes old old.chunks f old.kind) (sym fleet_is) ∙ still_handed old len mid fleet old.kind all chunks_are

      pub refused_runs : (later after : List ℕ) → FleetHasGone all_step begun.chunks begun.fleet before next.chunks next.fleet later → AreSameHosts fleet next.fleet → after ≡ later ++ report_line number (refused_text (call_number fault)) → HasRun old number (commands.Call m call) before after next
      refused_runs later after steps same put =
          steps_run old number (commands.Call m call) (λ halts v. volume_quietly v) old.kind old.chunks old.fleet before before (quiet_gone old world before) begun next unbegun_is others later after (refused_text (call_number fault)) steps same world refl refl refl
          (le_suc old.fleet.calls) put (λ halts. refused_line halts old number m call fault other cause) (λ halts made. tt)

      -- there was no memory for the line's text: whatever stood in the buffer before
      pub refused_fails : (later : List ℕ) → FleetHasGone all_step begun.chunks begun.fleet before next.chunks next.fleet later → LineHasFailed old number (commands.Call m call) next
      refused_fails later steps =
          steps_fail old number (commands.Call m call) (λ halts v. volume_quietly v) old.kind old.chunks old.fleet before before (quiet_gone old world before) begun next unbegun_is others (λ new within. within) refl (refused_text (call_number fault)) (λ halts. refused_line halts old number m call fault other cause) later steps

      pub refused_stops : FleetHasStopped all_step begun.chunks begun.fleet next.chunks → LineHasFailed old number (commands.Call m call) next
      refused_stops stopped =
          steps_stop old number (commands.Call m call) (λ halts v. volume_quietly v) old.kind old.chunks old.fleet before before (quiet_gone old world before) begun next unbegun_is others (λ new within. within) refl (refused_text (call_number fault)) (λ halts. refused_line halts old number m call fault other cause) stopped
