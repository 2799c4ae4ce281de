-- Steps of a host: the groups stay legal, and so does what waits in its mount.
use Rattle.std.proofs.Common.{◌≡◌, ℕ, ◌<◌, List, length, Option, Some, None, slice_get, slice_set, refl, sym, ap, subst, ◌∙◌}
use Rattle.std.specs.Option.{option_and_then}
use Rattle.std.proofs.lemmas.Option.{same_Some}
use Rattle.pf_base.specs.Asks.{Answers as AnswersAsk, chunk_of}
use Rattle.pf_base.specs.declared.asks.Ask.{Ask}
use Rattle.pf_base.specs.declared.asks.Reply.{Reply}
use Rattle.pf_asks.specs.Ports.{PortIs}
use Rattle.pf_volume.specs.Volumes.{IsVolume}
use Rattle.pf_journal.specs.Sectors.{HasSpelling}
use Rattle.pf_mount_errands.specs.Positions.{anchors_of}
use Rattle.pf_mount.specs.declared.work.MountWork.{MountWork}
use Rattle.pf_mount.specs.declared.work.MountWork.TheVariants.{Moves}
use Rattle.pf_mount.specs.Mounts.{MountIs}
use Rattle.pf_mount.specs.Nexts.{next_ask}
use Rattle.pf_mount.specs.Standing.{AnswersPort, AnswersData}
use Rattle.pf_file_calls.specs.declared.moving.DataMoving.{DataMoving}
use Rattle.pf_move.specs.Routes.{home_of_chunk, group_serving}
use Rattle.pf_law_events.specs.Events.{mounts_told}
use Rattle.pf_law_calls.specs.Lives.{Asks, Hears, lives}
use Rattle.pf_law_calls.proofs.CallWords.{are_short}
use Rattle.pf_world.specs.pf_group_rounds.specs.Halts.{Halt}
use Rattle.pf_world.specs.pf_chunk.specs.Driving.{Driven, port_heard, led}
use Rattle.pf_world.specs.pf_chunk.specs.Runs.{ChunkRun}
use Rattle.pf_world.specs.pf_world_moments.specs.Moments.{Moment}
use Rattle.pf_world.specs.pf_mount_host.specs.Hosts.{HostIs, Stepped, asks, hands_ask, hands_at, hands_of, hears, hears_as, hears_at, hears_of, mount_number, pending_at, puts_if, takes_if}
use Rattle.pf_world.specs.pf_world_hosts.specs.Volumes.{VolumeRun}
use Rattle.pf_law_mounts.proofs.CitedLaws.{spelled}
use Rattle.pf_law_mounts.proofs.Known.{IsHostOf, owed_of, ports_in}
use Rattle.pf_law_mounts.proofs.Middle.{IsInto, Middle, into}
use Rattle.pf_law_mounts.proofs.Nexts.{its_host}
use Rattle.pf_law_mounts.proofs.Steps.{IsKeptBeside}
use Rattle.pf_law_mounts.proofs.WaitingAsks.{GivesWhole, waits_after}
use Rattle.pf_law_legal.proofs.MountAsks.{IsFitData, IsFitMount, IsWholeBlock, blocks_fit, gives_whole, next_fit}
use Rattle.pf_law_legal.proofs.Ports.{IsAnswered, heard_answers, heard_fit, led_fit}
use Rattle.pf_law_legal.proofs.Volumes.{AreFitRuns, put_fit, runs_with}

-- the groups, and what waits in the mount
abbrev pub AreFitWith : List ChunkRun → HostIs → Type 0
AreFitWith chunks host = AreFitRuns chunks × IsFitMount host.mount

data_answers : (work : MountWork) (waiting : Option Ask) (moving : DataMoving) (reply : Reply) → work ≡ Moves moving → AnswersData work waiting reply → AnswersData (Moves moving) waiting reply
data_answers work waiting moving reply same is = subst (λ w. AnswersData w waiting reply) same is

module _ (halts : List Halt) (calls : ℕ) (v : VolumeRun) (volume : IsVolume v.extent) (m : ℕ) (inside : m < length v.hosts) where
  abbrev Holds : Stepped → Type 0
  Holds s = AreFitWith s.chunks s.host

  module _ (chunks : List ChunkRun) (host : HostIs) (told : List Moment) (port low high : ℕ) (mid : Middle calls v m inside chunks host told low high) (fit : AreFitWith chunks host) where
    abbrev its : IsHostOf v.layout v.extent mid.known.service (owed_of v.layout v.extent mid.known.happenings m) (lives v.layout v.extent (mounts_told mid.known.happenings) m) m host
    its = its_host calls v m inside chunks host told mid.known

    -- it hears: what answers a read for file data has the sectors that were asked for, each whole
    module _ (chunk : ℕ) (pend : pending_at host port ≡ Some chunk) (k : ℕ) (serves : group_serving v.routes chunk ≡ Some k) (c : ChunkRun) (there : slice_get chunks k ≡ Some c) where
      i : IsInto calls v m inside chunks host told mid.known mid.routes port chunk k c
      i = into calls v m inside chunks host told mid.known mid.routes port chunk k c pend serves there

      hears_well : (reply : Reply) → (port_heard c (mount_number host.mount)).reply ≡ Some reply → (moving : DataMoving) → host.mount.task.work ≡ Moves moving → port ≡ anchors_of host.mount.position → GivesWhole IsFitData IsWholeBlock moving reply
      hears_well reply replied moving work last =
          let a : IsAnswered c (mount_number host.mount) reply = heard_answers c (mount_number host.mount) reply (fit.0 k c there) replied in
          let one : a.port ≡ (mid.known.service chunk).port m = same_Some a.port ((mid.known.service chunk).port m) (sym a.there ∙ ap (slice_get c.ports) its.number ∙ i.its) in
          let ask : a.ask ≡ i.asked.owes.ask = same_Some a.ask i.asked.owes.ask (sym a.pending ∙ ap (λ (p : PortIs). p.ask) one ∙ i.asked.pending) in
          let answers : AnswersPort host.mount port reply = its.awaits port _ i.asked.same reply (subst (λ x. AnswersAsk x reply) ask a.answers) in
          gives_whole moving host.mount.task.ask reply (data_answers host.mount.task.work host.mount.task.ask moving reply work (answers.data_port last)) a.full

      hears_it : Holds (hears_as chunks host port k (port_heard c (mount_number host.mount)))
      hears_it = by (port_heard c (mount_number host.mount)).reply refl
        where
          new : AreFitRuns (slice_set chunks k (port_heard c (mount_number host.mount)).chunk)
          new = runs_with chunks k (port_heard c (mount_number host.mount)).chunk (heard_fit halts c (mount_number host.mount) (fit.0 k c there)) fit.0

          by : (o : Option Reply) → (port_heard c (mount_number host.mount)).reply ≡ o → let d : Driven = port_heard c (mount_number host.mount) in Holds (takes_if (slice_set chunks k d.chunk) host port (length d.chunk.group.history) o)
          by None none = (new, fit.1)
          by (Some reply) replied = (new, waits_after IsFitData IsWholeBlock blocks_fit host.mount (Hears port reply) (hears_well reply replied) fit.1)

    hears_fit : Holds (hears v.routes port chunks host)
    hears_fit = by (pending_at host port) refl
      where
        at_run : (chunk : ℕ) → pending_at host port ≡ Some chunk → (k : ℕ) → group_serving v.routes chunk ≡ Some k → (o : Option ChunkRun) → slice_get chunks k ≡ o → Holds (hears_of chunks host port k o)
        at_run chunk pend k serves None there = fit
        at_run chunk pend k serves (Some c) there = hears_it chunk pend k serves c there

        at_group : (chunk : ℕ) → pending_at host port ≡ Some chunk → (group : Option ℕ) → group_serving v.routes chunk ≡ group → Holds (hears_at chunks host port group)
        at_group chunk pend None serves = fit
        at_group chunk pend (Some k) serves = at_run chunk pend k serves (slice_get chunks k) refl

        by : (at : Option ℕ) → pending_at host port ≡ at → Holds (hears_at chunks host port (option_and_then (group_serving v.routes) at))
        by None none = fit
        by (Some chunk) pend = at_group chunk pend (group_serving v.routes chunk) refl

    -- it asks
    own_spelled : HasSpelling host.mount.position.ballot.own
    own_spelled =
        subst (λ (x : MountIs). HasSpelling x.position.ballot.own) (sym its.mount)
        (spelled v.layout v.extent (mounts_told mid.known.happenings) m volume (are_short (mounts_told mid.known.happenings) mid.known.spelled))

    asks_fit : Holds (asks v.routes port chunks host)
    asks_fit = by (next_ask host.mount host.at port) refl
      where
        by : (o : Option Ask) → next_ask host.mount host.at port ≡ o → Holds (puts_if v.routes port chunks host o)
        by None none = fit
        by (Some ask) asked = (
          put_fit chunks (home_of_chunk v.routes (chunk_of ask)) (mount_number host.mount) ask (next_fit host.mount host.at port ask (subst IsVolume (sym its.volume) volume) own_spelled fit.1 asked) fit.0,
          waits_after IsFitData IsWholeBlock blocks_fit host.mount (Asks port) tt fit.1,
        )

    -- it hands on
    hands_fit : Holds (hands_ask halts v.routes port chunks host)
    hands_fit = by (option_and_then (group_serving v.routes) (pending_at host port))
      where
        at_run : (k : ℕ) (o : Option ChunkRun) → slice_get chunks k ≡ o → Holds (hands_of halts chunks host k o)
        at_run k None there = fit
        at_run k (Some c) there = (runs_with chunks k (led halts c (mount_number host.mount)).chunk (led_fit halts c (mount_number host.mount) (fit.0 k c there)) fit.0, fit.1)

        by : (group : Option ℕ) → Holds (hands_at halts chunks host group)
        by None = fit
        by (Some k) = at_run k (slice_get chunks k) refl

  pub fit_beside : IsKeptBeside halts calls v m inside AreFitWith
  fit_beside = record {
    hearing = λ chunks host told port small mid fit. hears_fit chunks host told port 0 port mid fit;
    asking = λ chunks host told port small mid fit. asks_fit chunks host told port port (ports_in v.layout) mid fit;
    handing = λ chunks host told port small mid fit. hands_fit chunks host told port port (ports_in v.layout) mid fit;
  }
