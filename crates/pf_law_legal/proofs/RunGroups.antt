-- Every group of the run of a script that may be run is lawful.
use Rattle.std.proofs.Common.{◌≡◌, ℕ, suc, ◌/◌, true, false, cond, ◌==◌, List, [], ◌∷◌, length, Option, Some, None, slice_get, arith, refl, sym, subst, ◌∙◌}
use Rattle.std.proofs.lemmas.Bool.{true≢false}
use Rattle.pf_base.specs.declared.asks.Ask.TheVariants as asks
use Rattle.pf_entry.specs.Lists.{Every}
use Rattle.pf_entry.proofs.Cases.{by_test}
use Rattle.pf_script.specs.Lines.{first_named, is_volume}
use Rattle.pf_script.specs.declared.command.Command.{Command}
use Rattle.pf_script.specs.declared.command.Command.TheVariants as commands
use Rattle.pf_protocol.specs.declared.events.Event.TheVariants.{Submit}
use Rattle.pf_protocol.specs.Answers.{IsSetup}
use Rattle.pf_volume.specs.Volumes.{Extent, IsVolume}
use Rattle.pf_move.specs.Movers.{MoverStep, new_mover, piece, step}
use Rattle.pf_move.specs.declared.mover.MoverAsk.TheVariants.{Reading}
use Rattle.pf_move.specs.declared.mover.MoveNext.TheVariants.{Read, Switch}
use Rattle.pf_move.specs.Routes.{home_of_chunk}
use Rattle.pf_world.specs.pf_group_rounds.specs.Halts.{Halt}
use Rattle.pf_world.specs.pf_group_rounds.specs.Chunks.{made_chunk}
use Rattle.pf_world.specs.pf_group.specs.Making.{setup_with}
use Rattle.pf_world.specs.pf_chunk.specs.Asking.{fetched}
use Rattle.pf_world.specs.pf_chunk.specs.Happenings.{happened}
use Rattle.pf_world.specs.pf_chunk.specs.Runs.{ChunkRun, mover_port}
use Rattle.pf_world.specs.pf_world_moments.specs.Moments.{Moment}
use Rattle.pf_world.specs.pf_mount_host.specs.Hosts.{HostIs, Stepped}
use Rattle.pf_world.specs.pf_mount_host.specs.Hosts as hosts
use Rattle.pf_world.specs.pf_world_hosts.specs.Volumes.{VolumeRun, anchors, begins, carries, host_at, killed, mounts, mover_steps, moved_from, chunk_moves, moves_from, with_chunk, with_host}
use Rattle.pf_world.specs.declared.kind.Kind.{Kind}
use Rattle.pf_world.specs.declared.kind.Kind.TheVariants.{Raw}
use Rattle.pf_world.specs.declared.line.Line.{Line}
use Rattle.pf_world.specs.pf_live_session.specs.Sessions.{Session}
use Rattle.pf_world.specs.Headline.{IsLawfulRun, is_live}
use Rattle.pf_world.specs.Lines.{is_raw}
use Rattle.pf_world.specs.Reports.{world_run}
use Rattle.pf_world.specs.Steps.{MayRunAll}
use Rattle.pf_world.specs.Worlds.{volume_made}
use Rattle.pf_law_runs.proofs.LineCounts.{new_group}
use Rattle.pf_law_runs.proofs.MoverStepParts.{HasSameHosts, hauled, mover_same, moves_same}
use Rattle.pf_law_runs.proofs.GroupPlaces.{made_there}
use Rattle.pf_law_runs.proofs.ScriptRuns.{IsKeptThrough}
use Rattle.pf_law_runs.proofs.KeptThroughout.{AreEachHost, IsLow, IsThrough, gone_host, more_host, no_hosts, set_host}
use Rattle.pf_law_runs.proofs.KeptThroughout as throughout
use Rattle.pf_law_movers.proofs.HistoryGrowth.{fetched_grows}
use Rattle.pf_law_movers.proofs.Ports.{fetched_ports}
use Rattle.pf_law_calls.specs.Lives.{Begins}
use Rattle.pf_world.proofs.Begun.{volume_extent}
use Rattle.pf_law_mounts.proofs.CitedLaws.{answers, spelled}
use Rattle.pf_law_mounts.proofs.RunKnowledge.{IsSoFar, first_known, kept}
use Rattle.pf_law_mounts.proofs.Steps.{stepping_beside}
use Rattle.pf_law_mounts.proofs.WaitingAsks.{waits_after}
use Rattle.pf_law_legal.proofs.MountAsks.{IsFitData, IsFitMount, IsWholeBlock, blocks_fit}
use Rattle.pf_law_legal.proofs.MoverAsks.{Carried, carried_parts, extent_stays, mover_fit, new_carried}
use Rattle.pf_law_legal.proofs.GroupEvents.{fetched_idle}
use Rattle.pf_law_legal.proofs.HostSteps.{AreFitWith, fit_beside}
use Rattle.pf_law_legal.proofs.Lines.{HasSetup, IsKeptByLines, running_by_lines}
use Rattle.pf_law_legal.proofs.MadeGroups.{idle_lawful, made_idle, setup_is}
use Rattle.pf_law_legal.proofs.Ports.{AreFit, AreSent, IsFitRun, happened_fit, still_sent}
use Rattle.pf_law_legal.proofs.Volumes.{AreFitRuns, new_run_fit, put_fit, runs_with, with_new_fit}

-- The same numbers

mover_extent : (halts : List Halt) (v : VolumeRun) → (mover_steps halts v).volume.extent ≡ v.extent
mover_extent halts v =
    hauled halts (λ w told. w.extent ≡ v.extent) (λ w told k at same. same)
    (λ w told old heard there same. let s : MoverStep = step old (Some heard.reply) in extent_stays w s.mover (Some heard) s.next ∙ same) v [] refl

moves_extent : (chunk : ℕ) (home : Option ℕ) (new : ChunkRun) (v : VolumeRun) → (moves_from chunk home new v).volume.extent ≡ v.extent
moves_extent chunk None new v = refl
moves_extent chunk (Some h) new v = let s : MoverStep = step (new_mover chunk (v.extent.sectors / 8)) None in extent_stays (moved_from v chunk h new) s.mover None s.next

-- A chunk begins to move

first_fit : (v : VolumeRun) (chunk pieces : ℕ) → AreFitRuns v.chunks → let s : MoverStep = step (new_mover chunk pieces) None in AreFitRuns (carries v s.mover None s.next).volume.chunks
first_fit v chunk pieces are =
    by_test (0 == pieces) (λ b. let s : MoverStep = cond b (record { next = Switch; mover = record (new_mover chunk pieces) { asked = None } }) (record { next = Read (piece 0); mover = record (new_mover chunk pieces) { asked = Some Reading } }) in AreFitRuns (carries v s.mover None s.next).volume.chunks)
    (λ _. are)
    (λ _. put_fit v.chunks _ mover_port (asks.Read chunk (piece 0)) (record { some = omega arith; few = omega arith; low = omega arith }) are)

module _ (halts : List Halt) (names format : ℕ) where
  move_fit : (v : VolumeRun) (chunk : ℕ) (home : Option ℕ) → HasSetup v names format → AreFitRuns v.chunks → AreFitRuns (moves_from chunk home (new_group halts v names format) v).volume.chunks
  move_fit v chunk None setup are = are
  move_fit v chunk (Some h) setup are =
      let new : ChunkRun = new_group halts v names format in
      first_fit (moved_from v chunk h new) chunk (v.extent.sectors / 8) (with_new_fit v.chunks h (slice_get v.chunks h) new refl (made_idle halts v.extent.sectors names format (length v.chunks) setup) are)

abbrev pub IsFitHost : HostIs → Type 0
IsFitHost host = IsFitMount host.mount

-- The groups are legal, and so are those that are made. In the mount of each host waits no ask that may not come
pub record IsLegalVolume (names format : ℕ) (v : VolumeRun) : Type 0 where
  pub volume : IsVolume v.extent
  pub setup : HasSetup v names format
  pub runs : AreFitRuns v.chunks
  pub hosts : AreEachHost IsFitHost v.hosts

-- what pf_law_mounts knows of every run, at the count of some lines
abbrev pub IsKnownOf : Option Kind → VolumeRun → List Moment → Type 0
IsKnownOf kind v told = (lines : ℕ) × IsSoFar lines kind v told

known_kept : (halts : List Halt) → IsKeptThrough halts IsKnownOf
known_kept halts =
    let each = kept answers spelled halts in record {
      deciding = λ kind v told is. (is.0, each.deciding is.0 kind v told is.1);
      writing = λ kind v told text is. (is.0, each.writing is.0 kind v told text is.1);
      happening = λ kind v told k c event at never is. (is.0, each.happening is.0 kind v told k c event at never is.1);
      submitting = λ v told k c server op at is. (is.0, each.submitting is.0 v told k c server op at is.1);
      threading = λ v told k c its at is. (is.0, each.threading is.0 v told k c its at is.1);
      reading = λ kind v told k c server range at is. (is.0, each.reading is.0 kind v told k c server range at is.1);
      stepping = λ kind v told m host at is. (is.0, each.stepping is.0 kind v told m host at is.1);
      carrying = λ kind v told is. (is.0, each.carrying is.0 kind v told is.1);
      moving = λ v told names format chunk free few is. (is.0, each.moving is.0 v told names format chunk free few is.1);
      mounting = λ v told large few is. (is.0, each.mounting is.0 v told large few is.1);
      beginning = λ kind v told m host words call at rest said is. (suc is.0, each.beginning is.0 kind v told m host words call at rest said is.1);
      killing = λ kind v told m host at is. (is.0, each.killing is.0 kind v told m host at is.1);
      anchoring = λ kind v told plain none room is. (is.0, each.anchoring is.0 kind v told plain none room is.1);
    }

-- in the runs of these kinds, in whose scripts this is allowed, no threads do anything
pub record AreThreadless (Allowed : Command → Type 0) (Of : Option Kind → Type 0) : Type 0 where
  pub before : (kind : Kind) → Of (Some kind) → Of None
  pub none : (chunk hosts writes workers turns : ℕ) → Allowed (commands.Live chunk hosts writes workers turns) → Of (Some Raw) → ⊥

pub record IsLegalSoFar (halts : List Halt) (Of : Option Kind → Type 0) (names format : ℕ) (kind : Option Kind) (v : VolumeRun) (told : List Moment) : Type 0 where
  pub known : IsKnownOf kind v told
  pub carried : IsThrough (Carried halts) kind v told
  pub legal : Of kind → IsLegalVolume names format v

module _ (halts : List Halt) (Allowed : Command → Type 0) (Of : Option Kind → Type 0) (threadless : AreThreadless Allowed Of) where
  abbrev carried_kept : IsKeptThrough halts (throughout.Through halts (Carried halts) (carried_parts halts))
  carried_kept = throughout.kept halts (Carried halts) (carried_parts halts)

  abbrev keeps : IsKeptThrough halts IsKnownOf
  keeps = known_kept halts

  -- another group stands in its place
  with_run : (names format : ℕ) (v : VolumeRun) (c : ChunkRun) → IsFitRun c → IsLegalVolume names format v → IsLegalVolume names format (with_chunk v c)
  with_run names format v c fit was = record { volume = was.volume; setup = was.setup; runs = runs_with v.chunks c.group.number c fit was.runs; hosts = was.hosts }

  -- the same extent and the same hosts
  same_volume : (names format : ℕ) (v w : VolumeRun) → w.extent ≡ v.extent → HasSameHosts v w → AreFitRuns w.chunks → IsLegalVolume names format v → IsLegalVolume names format w
  same_volume names format v w extent hosts runs was = record {
    volume = subst IsVolume (sym extent) was.volume;
    setup = λ failed. subst (λ (e : Extent). IsSetup (setup_with e.sectors names format failed)) (sym extent) (was.setup failed);
    runs = runs;
    hosts = subst (AreEachHost IsFitHost) (sym hosts.1) was.hosts;
  }

  -- other hosts
  with_hosts : (names format : ℕ) (v w : VolumeRun) → w.extent ≡ v.extent → AreFitRuns w.chunks → AreEachHost IsFitHost w.hosts → IsLegalVolume names format v → IsLegalVolume names format w
  with_hosts names format v w extent runs hosts was = record {
    volume = subst IsVolume (sym extent) was.volume;
    setup = λ failed. subst (λ (e : Extent). IsSetup (setup_with e.sectors names format failed)) (sym extent) (was.setup failed);
    runs = runs;
    hosts = hosts;
  }

  step_legal : (names format : ℕ) (kind : Option Kind) (v : VolumeRun) (told : List Moment) (m : ℕ) (host : HostIs) → host_at v.hosts m ≡ Some host → IsKnownOf kind v told → IsLegalVolume names format v
      → IsLegalVolume names format (with_host v m (hosts.stepped halts v.routes v.chunks host)).volume
  step_legal names format kind v told m host at known was =
      let s : Stepped = hosts.stepped halts v.routes v.chunks host in
      let so = (stepping_beside answers spelled halts v told m host was.volume at known.1.routed.holds.is.routes (known.1.known was.volume) AreFitWith (fit_beside halts known.0 v was.volume m) (was.runs, was.hosts m host at)).1 in
      with_hosts names format v (with_host v m s).volume refl so.0 (set_host IsFitHost v.hosts m s.host was.hosts so.1) was

  legal_kept : IsKeptByLines halts Allowed (IsLegalSoFar halts Of)
  legal_kept = record {
    deciding = λ names format kind v told is. record { known = keeps.deciding kind v told is.known; carried = carried_kept.deciding kind v told is.carried; legal = λ of. is.legal (threadless.before kind of) };
    writing = λ names format kind v told text is. record { known = keeps.writing kind v told text is.known; carried = carried_kept.writing kind v told text is.carried; legal = is.legal };
    happening = λ names format kind v told k c event at never may is. record {
      known = keeps.happening kind v told k c event at never is.known;
      carried = carried_kept.happening kind v told k c event at never is.carried;
      legal = λ of. let was = is.legal of in with_run names format v (happened halts c event).chunk (happened_fit halts c event may (was.runs k c at)) was;
    };
    submitting = λ names format v told k c server op at may is. record {
      known = keeps.submitting v told k c server op at is.known;
      carried = carried_kept.submitting v told k c server op at is.carried;
      legal = λ of. let was = is.legal of in with_run names format v (happened halts c (Submit server op)).chunk (happened_fit halts c (Submit server op) may (was.runs k c at)) was;
    };
    threading = λ names format v told k c session hosts writes workers turns at lets is. record {
      known = keeps.threading v told k c session.events at is.known;
      carried = carried_kept.threading v told k c session.events at is.carried;
      legal = λ of. absurd (threadless.none k hosts writes workers turns lets of);
    };
    reading = λ names format kind v told k c server range at may is. record {
      known = keeps.reading kind v told k c server range at is.known;
      carried = carried_kept.reading kind v told k c server range at is.carried;
      legal = λ of.
          let was = is.legal of in
          let its = was.runs k c at in
          let next : ChunkRun = (fetched halts server range c).chunk in
          with_run names format v next (record {
            group = fetched_idle halts c server range may its.group;
            ports = subst AreFit (sym (fetched_ports halts server range c)) its.ports;
            sent = subst (AreSent next.group.history) (sym (fetched_ports halts server range c)) (still_sent c.group.history next.group.history c.ports (fetched_grows halts c server range).later its.sent);
          }) was;
    };
    stepping = λ names format kind v told m host at is. record {
      known = keeps.stepping kind v told m host at is.known;
      carried = carried_kept.stepping kind v told m host at is.carried;
      legal = λ of. step_legal names format kind v told m host at is.known (is.legal of);
    };
    carrying = λ names format kind v told is. record {
      known = keeps.carrying kind v told is.known;
      carried = carried_kept.carrying kind v told is.carried;
      legal = λ of. let was = is.legal of in same_volume names format v (mover_steps halts v).volume (mover_extent halts v) (mover_same halts v) (mover_fit halts v (was.setup []).few_sectors is.carried.holds was.runs) was;
    };
    moving = λ names format v told chunk free few is. record {
      known = keeps.moving v told names format chunk free few is.known;
      carried = carried_kept.moving v told names format chunk free few is.carried;
      legal = λ of.
          let was = is.legal of in
          let home : Option ℕ = home_of_chunk v.routes chunk in
          let new : ChunkRun = new_group halts v names format in
          same_volume names format v (chunk_moves chunk new v).volume (moves_extent chunk home new v) (moves_same chunk new v) (move_fit halts names format v chunk home was.setup was.runs) was;
    };
    mounting = λ names format v told large few is. record {
      known = keeps.mounting v told large few is.known;
      carried = carried_kept.mounting v told large few is.carried;
      legal = λ of. let was = is.legal of in with_hosts names format v (mounts v).volume refl was.runs (more_host IsFitHost v.hosts (hosts.made_host v.layout (length v.hosts) v.extent) was.hosts tt) was;
    };
    beginning = λ names format kind v told m host words call at rest said is. record {
      known = keeps.beginning kind v told m host words call at rest said is.known;
      carried = carried_kept.beginning kind v told m host words call at rest said is.carried;
      legal = λ of.
          let was = is.legal of in
          with_hosts names format v (begins m host call v).volume refl was.runs
          (set_host IsFitHost v.hosts m (hosts.call_begun v.chunks host call).host was.hosts (waits_after IsFitData IsWholeBlock blocks_fit host.mount (Begins call) tt (was.hosts m host at))) was;
    };
    killing = λ names format kind v told m host at is. record {
      known = keeps.killing kind v told m host at is.known;
      carried = carried_kept.killing kind v told m host at is.carried;
      legal = λ of. let was = is.legal of in with_hosts names format v (killed m v) refl was.runs (gone_host IsFitHost v.hosts m was.hosts) was;
    };
    anchoring = λ names format kind v told plain none room is. record {
      known = keeps.anchoring kind v told plain none room is.known;
      carried = carried_kept.anchoring kind v told plain none room is.carried;
      legal = λ of. let was = is.legal of in with_hosts names format v (anchors v) refl was.runs was.hosts was;
    };
  }

  -- a new volume
  new_legal : (sessions : List Session) (chunks sectors names format : ℕ) → is_volume chunks sectors names format ≡ true → IsLegalVolume names format (volume_made halts sessions chunks sectors names format).volume
  new_legal sessions chunks sectors names format fits = record {
    volume = volume_extent chunks sectors names format fits;
    setup = λ failed. setup_is chunks sectors names format failed fits;
    runs = λ k c at.
        let group = made_chunk halts sectors names format k in
        subst IsFitRun (made_there halts sessions chunks sectors names format k c at) (new_run_fit group (made_idle halts sectors names format k (λ failed. setup_is chunks sectors names format failed fits)));
    hosts = no_hosts IsFitHost;
  }

  pub legal_volume : (sessions : List Session) (number chunks sectors names format : ℕ) (lines : List Line) → is_volume chunks sectors names format ≡ true → MayRunAll (first_named chunks) lines → Every (λ x. Allowed x.command) lines
      → let run = world_run halts sessions (record { number = number; command = commands.Volume chunks sectors names format } ∷ lines) in
      Of run.world.kind → IsLegalVolume run.world.names run.world.format run.world.volume
  legal_volume sessions number chunks sectors names format lines fits may lets of =
      (running_by_lines halts Allowed (IsLegalSoFar halts Of) legal_kept sessions number chunks sectors names format lines may lets (record {
        known = (0, first_known answers spelled halts sessions chunks sectors names format);
        carried = record { holds = new_carried halts sessions chunks sectors names format; low = no_hosts IsLow };
        legal = λ of. new_legal sessions chunks sectors names format fits;
      })).legal of

  pub runs_are_legal : (sessions : List Session) (number chunks sectors names format : ℕ) (lines : List Line) → is_volume chunks sectors names format ≡ true → MayRunAll (first_named chunks) lines → Every (λ x. Allowed x.command) lines
      → let run = world_run halts sessions (record { number = number; command = commands.Volume chunks sectors names format } ∷ lines) in
      Of run.world.kind → IsLawfulRun run.world
  runs_are_legal sessions number chunks sectors names format lines fits may lets of k c at = idle_lawful c.group ((legal_volume sessions number chunks sectors names format lines fits may lets of).runs k c at).group

-- a run of mounts, whatever its lines are
pub mounts_threadless : AreThreadless (λ command. Unit {0}) (λ kind. is_raw kind ≡ false)
mounts_threadless = record { before = λ kind of. refl; none = λ chunk hosts writes workers turns lets of. absurd (true≢false of) }

-- a script without live lines, whatever its run is
pub dead_threadless : AreThreadless (λ command. is_live command ≡ false) (λ kind. Unit {0})
dead_threadless = record { before = λ kind of. tt; none = λ chunk hosts writes workers turns lets of. absurd (true≢false lets) }
