-- What holds of a new volume, and is kept by all that lines that may be run and hosts do to one, holds of the run of every such script.
use Rattle.std.proofs.Common.{◌≡◌, ℕ, ◌<◌, zero, suc, Bool, true, false, not, if◌then◌else◌, List, [], ◌∷◌, ◌++◌, drop, length, Option, Some, None, slice_get, arith, refl, sym, ap, subst, append-nil}
use Rattle.std.specs.Prelude.{nat_le, nat_lt}
use Rattle.std.specs.List.{range_with_len}
use Rattle.std.specs.Option.{is_some}
use Rattle.std.proofs.lemmas.Bool.{and_parts, false≢true, ltb-false, ltb-true}
use Rattle.std.proofs.lemmas.List.{append_assoc}
use Rattle.std.proofs.lemmas.Option.{none-some, same_Some}
use Rattle.pf_base.specs.Span.{Span}
use Rattle.pf_base.specs.declared.calls.Call.{Call}
use Rattle.pf_entry.specs.Lists.{Every}
use Rattle.pf_entry.specs.declared.ops.Op.{Op}
use Rattle.pf_entry.specs.declared.ops.Op.TheVariants.{Mark}
use Rattle.pf_entry.proofs.Cases.{by_test}
use Rattle.pf_script.specs.Lines.{first_named, group_named, is_server, named_after}
use Rattle.pf_script.specs.declared.named.NamedVolume.{NamedVolume}
use Rattle.pf_script.specs.declared.command.Command.{Command}
use Rattle.pf_script.specs.declared.command.Command.TheVariants as commands
use Rattle.pf_protocol.specs.declared.answers.Answer.TheVariants.{Done}
use Rattle.pf_protocol.specs.declared.events.Event.{Event}
use Rattle.pf_protocol.specs.declared.events.Event.TheVariants as events
use Rattle.pf_protocol.specs.Answers.{IsSetup}
use Rattle.pf_world.specs.pf_group.specs.Making.{setup_with}
use Rattle.pf_world.specs.pf_group.specs.Packets.{is_refused_for_room}
use Rattle.pf_volume.specs.Volumes.{Extent, size_of}
use Rattle.pf_journal.specs.declared.layouts.Layout.{Layout}
use Rattle.pf_journal.specs.declared.layouts.Layout.TheVariants.{Plain, Three}
use Rattle.pf_tree.specs.Calls.{FileCall}
use Rattle.pf_tree.specs.Listings.{listing}
use Rattle.pf_report.specs.Refusals.{line_refusal_text}
use Rattle.pf_report.specs.declared.refusals.LineRefusal.{LineRefusal}
use Rattle.pf_report.specs.declared.refusals.LineRefusal.TheVariants as refusals
use Rattle.pf_world.specs.pf_world_hosts.specs.Calls.{call_number}
use Rattle.pf_world.specs.pf_world_hosts.specs.declared.faults.HostCallFault.TheVariants as faults
use Rattle.pf_report.specs.Moves.{moving_text}
use Rattle.pf_report.specs.Texts.{report_line, settle_text}
use Rattle.pf_report.specs.Mounts.{mount_text, started_text, state_text, tree_lines}
use Rattle.pf_world.specs.pf_group_rounds.specs.Halts.{Halt}
use Rattle.pf_world.specs.pf_group_rounds.specs.Chunks.{Chunk}
use Rattle.pf_world.specs.pf_chunk.specs.Asking.{fetched, fetches, filled_write, is_range, no_range_answer, chunk_submits}
use Rattle.pf_world.specs.pf_chunk.specs.Asking.{no_range as no_event}
use Rattle.pf_world.specs.pf_chunk.specs.Happenings.{Happened, happened}
use Rattle.pf_world.specs.pf_chunk.specs.Lending.{all_happened}
use Rattle.pf_world.specs.pf_chunk.specs.Runs.{ChunkRun}
use Rattle.pf_world.specs.pf_chunk.specs.Saying.{answer_line, said}
use Rattle.pf_world.specs.pf_world_moments.specs.Moments.{Moment, Writes}
use Rattle.pf_world.specs.pf_mount_host.specs.Hosts.{HostIs}
use Rattle.pf_world.specs.pf_mount_host.specs.Hosts as hosts
use Rattle.pf_world.specs.pf_world_moments.specs.Words.{read_call}
use Rattle.pf_world.specs.pf_world_hosts.specs.Settling.{SettlesOn, PacketName, NextPacket, Settled, next_delivered, ends, enough_tries, settling_goes_on, least_left_of_chunk, packet_name_of, next_in_chunk, next_packet, settle_next, settle_to, settled, tried}
use Rattle.pf_world.specs.pf_world_hosts.specs.Settled.{settling}
use Rattle.pf_world.specs.pf_world_hosts.specs.Volumes.{Hosts, VolumeRun, all_step, anchors, begins, volume_happens, host_at, host_steps, hosts_step, killed, mount_count, mounts, mover_steps, chunk_moves, volume_quietly, saying, host_step_of, these_step, with_chunk, with_host}
use Rattle.pf_world.specs.pf_world_hosts.specs.Volumes as volumes
use Rattle.pf_world.specs.declared.kind.Kind.{Kind}
use Rattle.pf_world.specs.declared.kind.Kind.TheVariants.{Mounted, Raw}
use Rattle.pf_world.specs.pf_live_session.specs.Sessions.{Session, next_session, session_text}
use Rattle.pf_world.specs.declared.line.Line.{Line}
use Rattle.pf_world.specs.Worlds.{WorldTold, World, at_chunk, line_ended, volume_made, made_answer, refused_text, said_only, line_stepped, event_told}
use Rattle.pf_world.specs.Lines.{anchors_unless, are_late, range_asked, begins_if, begins_move, call_at_host, kind_decided, held_told, is_made, is_of_mounts, is_raw, joins, keeps_from_anchors, kill_at_host, kind_after, lacks_anchors, line_told, live_as, made_group, mounts_as, move_told, no_event_of, rests, run_told, show_at_host, shown_of, submits_as, volume_told}
use Rattle.pf_world.specs.Steps.{MayRun, MayRunAll}
use Rattle.pf_world.specs.Reports.{run_from, world_run}
use Rattle.pf_law_runs.proofs.LineCounts.{new_group}
use Rattle.pf_law_legal.proofs.GroupEvents.{MayCome, filled_is, range_is}
use Rattle.pf_law_movers.proofs.WriteEvents.{IsNoWrite}

-- a group of the volume's numbers is one, whatever servers could not be formatted
abbrev pub HasSetup : VolumeRun → (names format : ℕ) → Type 0
HasSetup v names format = (failed : List ℕ) → IsSetup (setup_with v.extent.sectors names format failed)

-- A property of what new groups are made with, of a run's kind, its volume and all that was told so far is kept where the kind is decided, by lines of text, by an event that may
-- come to a chunk, by a write that a line submits or a session of a live line that is allowed in a raw run, by a read that a line takes up, by the step of a host or of the mover,
-- where a host comes in a run with mounts, begins the call of words or goes, where a chunk begins to move to a new group, and where the journal comes to lie on three anchors
pub record IsKeptByLines (halts : List Halt) (Allowed : Command → Type 0) (P : (names format : ℕ) → Option Kind → VolumeRun → List Moment → Type 0) : Type 0 where
  pub deciding : (names format : ℕ) (kind : Kind) (v : VolumeRun) (told : List Moment) → P names format None v told → P names format (Some kind) v told
  pub writing : (names format : ℕ) (kind : Option Kind) (v : VolumeRun) (told : List Moment) (text : List ℕ) → P names format kind v told → P names format kind v (told ++ Writes text ∷ [])
  pub happening : (names format : ℕ) (kind : Option Kind) (v : VolumeRun) (told : List Moment) (k : ℕ) (c : ChunkRun) (event : Event) → slice_get v.chunks k ≡ Some c → IsNoWrite event → MayCome event → P names format kind v told
      → P names format kind (with_chunk v (happened halts c event).chunk) told
  pub submitting : (names format : ℕ) (v : VolumeRun) (told : List Moment) (k : ℕ) (c : ChunkRun) (server : ℕ) (op : Op) → slice_get v.chunks k ≡ Some c → MayCome (events.Submit server op) → P names format (Some Raw) v told
      → P names format (Some Raw) (with_chunk v (happened halts c (events.Submit server op)).chunk) told
  pub threading : (names format : ℕ) (v : VolumeRun) (told : List Moment) (k : ℕ) (c : ChunkRun) (session : Session) (hosts writes workers turns : ℕ) → slice_get v.chunks k ≡ Some c → Allowed (commands.Live k hosts writes workers turns) → P names format (Some Raw) v told
      → P names format (Some Raw) (with_chunk v (all_happened halts session.events c).chunk) told
  pub reading : (names format : ℕ) (kind : Option Kind) (v : VolumeRun) (told : List Moment) (k : ℕ) (c : ChunkRun) (server : ℕ) (range : Span) → slice_get v.chunks k ≡ Some c → MayCome (events.Fetch server range) → P names format kind v told
      → P names format kind (with_chunk v (fetched halts server range c).chunk) told
  pub stepping : (names format : ℕ) (kind : Option Kind) (v : VolumeRun) (told : List Moment) (m : ℕ) (host : HostIs) → host_at v.hosts m ≡ Some host → P names format kind v told
      → P names format kind (with_host v m (hosts.stepped halts v.routes v.chunks host)).volume (told ++ (hosts.stepped halts v.routes v.chunks host).told)
  pub carrying : (names format : ℕ) (kind : Option Kind) (v : VolumeRun) (told : List Moment) → P names format kind v told → P names format kind (mover_steps halts v).volume (told ++ (mover_steps halts v).told)
  pub moving : (names format : ℕ) (v : VolumeRun) (told : List Moment) (chunk : ℕ) → is_some v.routes.moving ≡ false → nat_le 8 (length v.chunks) ≡ false → P names format (Some Mounted) v told
      → P names format (Some Mounted) (chunk_moves chunk (new_group halts v names format) v).volume (told ++ (chunk_moves chunk (new_group halts v names format) v).told)
  pub mounting : (names format : ℕ) (v : VolumeRun) (told : List Moment) → nat_lt (size_of v.extent) 4112 ≡ false → nat_le 16 (length v.hosts) ≡ false → P names format (Some Mounted) v told → P names format (Some Mounted) (mounts v).volume (told ++ (mounts v).told)
  pub beginning : (names format : ℕ) (kind : Option Kind) (v : VolumeRun) (told : List Moment) (m : ℕ) (host : HostIs) (words : Call (List ℕ)) (call : FileCall) → host_at v.hosts m ≡ Some host → rests host.mount.task.work ≡ true → read_call words ≡ Some call → P names format kind v told
      → P names format kind (begins m host call v).volume (told ++ (begins m host call v).told)
  pub killing : (names format : ℕ) (kind : Option Kind) (v : VolumeRun) (told : List Moment) (m : ℕ) (host : HostIs) → host_at v.hosts m ≡ Some host → P names format kind v told → P names format kind (killed m v) told
  pub anchoring : (names format : ℕ) (kind : Option Kind) (v : VolumeRun) (told : List Moment) → v.layout ≡ Plain → length v.hosts ≡ 0 → lacks_anchors v.extent ≡ false → P names format kind v told → P names format kind (anchors v) told

-- what let the journal come to lie on anchors
module _ (kind : Option Kind) (hosts : Hosts) (extent : Extent) where
  not_late : (layout : Layout) → are_late layout hosts ≡ false → (layout ≡ Plain) × (length hosts ≡ 0)
  not_late Plain free = let none = ltb-false 0 (length hosts) free in (refl, omega (arith, none))
  not_late Three late = absurd (false≢true (sym late))

  abbrev if_late : Layout → Option LineRefusal
  if_late layout = if are_late layout hosts then Some refusals.TooLate else if lacks_anchors extent then Some refusals.NoAnchors else None

  abbrev if_lacking : Option LineRefusal
  if_lacking = if lacks_anchors extent then Some refusals.NoAnchors else None

  abbrev LetsAnchor : Layout → Type 0
  LetsAnchor layout = (layout ≡ Plain) × (length hosts ≡ 0) × (lacks_anchors extent ≡ false)

  let_anchor : (layout : Layout) → keeps_from_anchors kind layout hosts extent ≡ None → LetsAnchor layout
  let_anchor layout =
      by_test (is_raw kind) (λ b. if◌then◌else◌ {A = Option LineRefusal} b (Some refusals.Raw) (if_late layout) ≡ None → LetsAnchor layout) (λ _ none. absurd (none-some refusals.Raw (sym none)))
      (λ _. by_test (are_late layout hosts) (λ b. if◌then◌else◌ {A = Option LineRefusal} b (Some refusals.TooLate) if_lacking ≡ None → LetsAnchor layout) (λ _ none. absurd (none-some refusals.TooLate (sym none)))
      (λ free. by_test (lacks_anchors extent) (λ b. if◌then◌else◌ {A = Option LineRefusal} b (Some refusals.NoAnchors) None ≡ None → LetsAnchor layout) (λ _ none. absurd (none-some refusals.NoAnchors (sym none)))
      (λ room _. let its = not_late layout free in (its.0, its.1, room))))

-- One line
module _ (halts : List Halt) (Allowed : Command → Type 0) (P : (names format : ℕ) → Option Kind → VolumeRun → List Moment → Type 0) (kept : IsKeptByLines halts Allowed P) where
  abbrev Holds : (names format : ℕ) → Option Kind → VolumeRun → List Moment → Type 0
  Holds = P

  module _ (names format : ℕ) (kind : Option Kind) where
    -- it holds after this, which was told behind what was told before
    abbrev Comes : (told : List Moment) → volumes.VolumeTold → Type 0
    Comes told t = Holds names format kind t.volume (told ++ t.told)

    abbrev Settles : (told : List Moment) → Settled → Type 0
    Settles told s = Holds names format kind s.volume (told ++ s.told)

    nothing_told : (v : VolumeRun) (told : List Moment) → Holds names format kind v told → Holds names format kind v (told ++ [])
    nothing_told v told is = subst (Holds names format kind v) (sym (append-nil told)) is

    behind : (v : VolumeRun) (told more last : List Moment) → Holds names format kind v ((told ++ more) ++ last) → Holds names format kind v (told ++ (more ++ last))
    behind v told more last is = subst (Holds names format kind v) (append_assoc told more last) is

    follow : (told : List Moment) (t : volumes.VolumeTold) (next : VolumeRun → volumes.VolumeTold) → Comes told t → ((v : VolumeRun) (so_far : List Moment) → Holds names format kind v so_far → Comes so_far (next v)) → Comes told (volumes.volume_followed t next)
    follow told t next is onward = behind (next t.volume).volume told t.told (next t.volume).told (onward t.volume (told ++ t.told) is)

    -- Steps of hosts

    host_step : (m : ℕ) (v : VolumeRun) (told : List Moment) → Holds names format kind v told → Comes told (host_steps halts m v)
    host_step m v told is = by (host_at v.hosts m) refl
      where
        by : (o : Option HostIs) → host_at v.hosts m ≡ o → Comes told (host_step_of halts m v o)
        by None at = nothing_told v told is
        by (Some host) at = kept.stepping names format kind v told m host at is

    these : (ms : List ℕ) (v : VolumeRun) (told : List Moment) → Holds names format kind v told → Comes told (these_step halts ms v)
    these [] v told is = nothing_told v told is
    these (m ∷ ms) v told is = follow told (host_steps halts m v) (these_step halts ms) (host_step m v told is) (these ms)

    hosts_all : (v : VolumeRun) (told : List Moment) → Holds names format kind v told → Comes told (hosts_step halts v)
    unfolding hosts_step
    hosts_all v told is = these (range_with_len 0 (length v.hosts)) v told is

    -- each host, and then the mover
    all_on : (v : VolumeRun) (told : List Moment) → Holds names format kind v told → Comes told (all_step halts v)
    all_on v told is = follow told (hosts_step halts v) (mover_steps halts) (hosts_all v told is) (kept.carrying names format kind)

    -- something happened to a chunk
    after_event : (v : VolumeRun) (told : List Moment) (h : Happened) → Holds names format kind (with_chunk v h.chunk) told → Comes told (volume_happens halts v h)
    after_event v told h is = follow told (saying h.text (with_chunk v h.chunk)) (all_step halts) (kept.writing names format kind (with_chunk v h.chunk) told h.text is) all_on

    -- Settlings

    next_here : (c : ChunkRun) (cs : List ChunkRun) (rest : Option NextPacket) (next : NextPacket) (o : Option ℕ) → (rest ≡ Some next → (k : ℕ) × (slice_get cs k ≡ Some next.chunk)) → next_in_chunk c o rest ≡ Some next → (k : ℕ) × (slice_get (c ∷ cs) k ≡ Some next.chunk)
    next_here c cs rest next None later is = let there = later is in (suc there.0, there.1)
    next_here c cs rest next (Some packet) later is = (zero, ap (λ (n : NextPacket). Some n.chunk) (same_Some (record { chunk = c; packet = packet }) next is))

    next_there : (passed : List PacketName) (cs : List ChunkRun) (next : NextPacket) → next_packet passed cs ≡ Some next → (k : ℕ) × (slice_get cs k ≡ Some next.chunk)
    next_there passed [] next is = absurd (none-some next is)
    next_there passed (c ∷ cs) next is = next_here c cs (next_packet passed cs) next (least_left_of_chunk passed c) (next_there passed cs next) is

    quiet : (stopped : Bool) (limit : ℕ) (passed : List PacketName) (v : VolumeRun) (told : List Moment) → Holds names format kind v told → Settles told (ends stopped limit passed v)
    quiet stopped limit passed v told is = nothing_told v told is

    module _ (more : SettlesOn) (well : (limit : ℕ) (passed : List PacketName) (v : VolumeRun) (told : List Moment) → Holds names format kind v told → Settles told (more limit passed v)) where
      go_on : (is_passed : Bool) (name : PacketName) (limit : ℕ) (passed : List PacketName) (v : VolumeRun) (told : List Moment) → Holds names format kind v told → Settles told (settling_goes_on is_passed name limit passed v more)
      go_on true name limit passed v told is = well (suc limit) (name ∷ passed) v told is
      go_on false name limit passed v told is = well limit passed v told is

      after_try : (t : volumes.VolumeTold) (is_passed : Bool) (name : PacketName) (limit : ℕ) (passed : List PacketName) (told : List Moment) → Comes told t → Settles told (tried t is_passed name limit passed more)
      after_try t is_passed name limit passed told is =
          let s : Settled = settling_goes_on is_passed name limit passed t.volume more in
          behind s.volume told t.told s.told (go_on is_passed name limit passed t.volume (told ++ t.told) is)

      one_try : (o : Option NextPacket) (limit : ℕ) (passed : List PacketName) (v : VolumeRun) (told : List Moment) → next_packet passed v.chunks ≡ o → Holds names format kind v told → Settles told (settle_next halts o more limit passed v)
      one_try None limit passed v told next is = quiet false limit passed v told is
      one_try (Some packet) zero passed v told next is = quiet true zero passed v told is
      one_try (Some packet) (suc limit) passed v told next is =
          let there = next_there passed v.chunks packet next in
          let h : Happened = next_delivered halts packet in
          after_try (volume_happens halts v h) (is_refused_for_room h.answer) (packet_name_of packet) limit passed told
          (after_event v told h (kept.happening names format kind v told there.0 packet.chunk (events.Deliver packet.packet) there.1 tt tt is))

    settle : (tries limit : ℕ) (passed : List PacketName) (v : VolumeRun) (told : List Moment) → Holds names format kind v told → Settles told (settle_to tries halts limit passed v)
    unfolding settle_to
    settle zero limit passed v told is = quiet true limit passed v told is
    settle (suc tries) limit passed v told is = one_try (settle_to tries halts) (settle tries) (next_packet passed v.chunks) limit passed v told refl is

    settles : (limit : ℕ) (v : VolumeRun) (told : List Moment) → Holds names format kind v told → Settles told (settled halts limit v)
    unfolding settled
    settles limit v told is = settle (enough_tries limit) limit [] v told is

  -- Lines

  abbrev Tells : (told : List Moment) → WorldTold → Type 0
  Tells told t = Holds t.world.names t.world.format t.world.kind t.world.volume (told ++ t.told)

  end : (w : World) (number : ℕ) (t : volumes.VolumeTold) (text : List ℕ) (told : List Moment) → Comes w.names w.format w.kind told t → Tells told (line_ended w number t text)
  end w number t text told is = behind w.names w.format w.kind t.volume told t.told (Writes (report_line number text) ∷ []) (kept.writing w.names w.format w.kind t.volume (told ++ t.told) (report_line number text) is)

  say : (w : World) (number : ℕ) (text : List ℕ) (told : List Moment) → Holds w.names w.format w.kind w.volume told → Tells told (said_only w number text)
  say w number text told is = end w number (volume_quietly w.volume) text told (nothing_told w.names w.format w.kind w.volume told is)

  step : (w : World) (number : ℕ) (t : volumes.VolumeTold) (text : List ℕ) (told : List Moment) → Comes w.names w.format w.kind told t → Tells told (line_stepped halts w number t text)
  step w number t text told is = end w number (volumes.volume_followed t (all_step halts)) text told (follow w.names w.format w.kind told t (all_step halts) is (all_on w.names w.format w.kind))

  refuse : (w : World) (number : ℕ) (text : List ℕ) (told : List Moment) → Holds w.names w.format w.kind w.volume told → Tells told (line_stepped halts w number (volume_quietly w.volume) text)
  refuse w number text told is = step w number (volume_quietly w.volume) text told (nothing_told w.names w.format w.kind w.volume told is)

  module _ (w : World) (number : ℕ) (told : List Moment) (is : Holds w.names w.format w.kind w.volume told) where
    -- a line of one chunk
    at : (chunk : ℕ) (event : ChunkRun → Happened) → ((c : ChunkRun) → slice_get w.volume.chunks chunk ≡ Some c → Holds w.names w.format w.kind (with_chunk w.volume (event c).chunk) told) → Tells told (at_chunk halts w number chunk event)
    at chunk event onward = by (slice_get w.volume.chunks chunk) refl
      where
        by : (o : Option ChunkRun) → slice_get w.volume.chunks chunk ≡ o → Tells told (event_told halts w number o event)
        by None there = nothing_told w.names w.format w.kind w.volume told is
        by (Some c) there = end w number (volume_happens halts w.volume (event c)) (said (event c).answer) told (after_event w.names w.format w.kind w.volume told (event c) (onward c there))

    plain : (chunk : ℕ) (event : Event) → IsNoWrite event → MayCome event → Tells told (at_chunk halts w number chunk (λ c. happened halts c event))
    plain chunk event never may = at chunk (λ c. happened halts c event) (λ c there. kept.happening w.names w.format w.kind w.volume told chunk c event there never may is)

    no_range : (server : ℕ) (o : Option ChunkRun) → Tells told (no_event_of w number server o)
    no_range server None = nothing_told w.names w.format w.kind w.volume told is
    no_range server (Some c) = say w number (said (no_range_answer (slice_get c.group.state.servers server))) told is

    -- a line that asks for a range
    ask : (chunk server first count : ℕ) (event : ChunkRun → Happened) → (is_range first count ≡ true → (c : ChunkRun) → slice_get w.volume.chunks chunk ≡ Some c → Holds w.names w.format w.kind (with_chunk w.volume (event c).chunk) told)
        → Tells told (range_asked halts w number chunk server first count event)
    ask chunk server first count event onward =
        by_test (is_range first count) (λ b. Tells told (if b then at_chunk halts w number chunk event else no_event_of w number server (slice_get w.volume.chunks chunk)))
        (λ ranges. at chunk event (onward ranges))
        (λ _. no_range server (slice_get w.volume.chunks chunk))

    fetch : (chunk server first count : ℕ) → server < 3 → Tells told (range_asked halts w number chunk server first count (fetches halts server first count))
    fetch chunk server first count low = ask chunk server first count (fetches halts server first count) (λ ranges c there.
        subst (λ b. Holds w.names w.format w.kind (with_chunk w.volume (if b then fetched halts server (record { first = first; count = count }) c else no_event server c).chunk) told) (sym ranges)
        (kept.reading w.names w.format w.kind w.volume told chunk c server (record { first = first; count = count }) there (low, range_is first count ranges) is))

    show : (o : Option ChunkRun) (text : Chunk → List ℕ) → Tells told (shown_of w number o text)
    show None text = nothing_told w.names w.format w.kind w.volume told is
    show (Some c) text = say w number (text c.group) told is

    -- a line of a mount
    kill : (m : ℕ) (o : Option HostIs) → host_at w.volume.hosts m ≡ o → Tells told (kill_at_host w number m o)
    kill m None there = say w number (line_refusal_text refusals.NoMount) told is
    kill m (Some host) there = end w number (volume_quietly (killed m w.volume)) (said Done) told (nothing_told w.names w.format w.kind (killed m w.volume) told (kept.killing w.names w.format w.kind w.volume told m host there is))

    show_mount : (m : ℕ) (o : Option HostIs) → Tells told (show_at_host w number m o)
    show_mount m None = say w number (line_refusal_text refusals.NoMount) told is
    show_mount m (Some host) =
        let lines = tree_lines (listing host.mount.files.tables) in
        end w number (saying lines w.volume) (state_text m host.mount.upto (not (rests host.mount.task.work))) told (kept.writing w.names w.format w.kind w.volume told lines is)

    -- the journal comes to lie on anchors
    anchor : (o : Option LineRefusal) → keeps_from_anchors w.kind w.volume.layout w.volume.hosts w.volume.extent ≡ o → Tells told (anchors_unless w number o)
    anchor (Some refusal) keeps = say w number (line_refusal_text refusal) told is
    anchor None lets =
        let free = let_anchor w.kind w.volume.hosts w.volume.extent w.volume.layout lets in
        end w number (volume_quietly (anchors w.volume)) (said Done) told (nothing_told w.names w.format w.kind (anchors w.volume) told (kept.anchoring w.names w.format w.kind w.volume told free.0 free.1 free.2 is))

  -- A line of a call

  module _ (w : World) (number : ℕ) (told : List Moment) (before : P w.names w.format w.kind w.volume told) where
    -- no call begins
    no_call : (why : ℕ) → Tells told (line_stepped halts w number (volume_quietly w.volume) (refused_text why))
    no_call why = refuse w number (refused_text why) told before

    begin : (m : ℕ) (host : HostIs) (words : Call (List ℕ)) → host_at w.volume.hosts m ≡ Some host → rests host.mount.task.work ≡ true → (o : Option FileCall) → read_call words ≡ o → Tells told (begins_if halts w number m host o)
    begin m host words there free None said_so = no_call (call_number faults.BadName)
    begin m host words there free (Some call) said_so = step w number (begins m host call w.volume) started_text told (kept.beginning w.names w.format w.kind w.volume told m host words call there free said_so before)

    call : (m : ℕ) (words : Call (List ℕ)) (o : Option HostIs) → host_at w.volume.hosts m ≡ o → Tells told (call_at_host halts w number m words o)
    call m words None there = no_call (call_number faults.NoMount)
    call m words (Some host) there =
        by_test (rests host.mount.task.work) (λ b. Tells told (if b then begins_if halts w number m host (read_call words) else line_stepped halts w number (volume_quietly w.volume) (refused_text (call_number faults.CallPending))))
        (λ free. begin m host words there free (read_call words) refl)
        (λ _. no_call (call_number faults.CallPending))

  -- Lines that ask for a kind of run

  decide : (names format : ℕ) (was : Option Kind) (kind : Kind) (v : VolumeRun) (told : List Moment) → Holds names format was v told → Holds names format (Some (kind_decided was kind)) v told
  decide names format None kind v told is = kept.deciding names format kind v told is
  decide names format (Some was) kind v told is = is

  module _ (v : VolumeRun) (names format : ℕ) (sessions : List Session) (number : ℕ) (told : List Moment) where
    abbrev of_kind : Kind → World
    of_kind kind = record { volume = v; names = names; format = format; kind = Some kind; sessions = sessions }

    submit : Holds names format (Some Raw) v told → (chunk server first byte count : ℕ) → server < 3 → Tells told (range_asked halts (of_kind Raw) number chunk server first count (chunk_submits halts server first byte count))
    submit is chunk server first byte count low = ask (of_kind Raw) number told is chunk server first count (chunk_submits halts server first byte count) (λ ranges c there.
        subst (λ b. Holds names format (Some Raw) (with_chunk v (if b then happened halts c (events.Submit server (filled_write first byte count)) else no_event server c).chunk) told) (sym ranges)
        (kept.submitting names format v told chunk c server (filled_write first byte count) there (low, filled_is first byte count ranges) is))

    submit_as : (kind : Kind) → Holds names format (Some kind) v told → (chunk server first byte count : ℕ) → server < 3 → Tells told (submits_as kind halts (of_kind kind) number chunk server first byte count)
    submit_as Mounted is chunk server first byte count low = say (of_kind Mounted) number (line_refusal_text refusals.Mounted) told is
    submit_as Raw is chunk server first byte count low = submit is chunk server first byte count low

    hold : Holds names format (Some Raw) v told → (session : Session) (k hosts writes workers turns : ℕ) → Allowed (commands.Live k hosts writes workers turns) → (o : Option ChunkRun) → slice_get v.chunks k ≡ o → Tells told (held_told halts (of_kind Raw) number session o)
    hold is session k hosts writes workers turns lets None there = nothing_told names format (Some Raw) v told is
    hold is session k hosts writes workers turns lets (Some c) there =
        let now = all_happened halts session.events c in
        end (of_kind Raw) number (volume_happens halts v now) (session_text c.group now.chunk.group session.ended) told (after_event names format (Some Raw) v told now (kept.threading names format v told k c session hosts writes workers turns there lets is))

    abbrev new_mount : WorldTold
    new_mount = line_stepped halts (of_kind Mounted) number (mounts v) (mount_text (mount_count v))

    abbrev if_few : WorldTold
    if_few = if nat_le 16 (mount_count v) then line_stepped halts (of_kind Mounted) number (volume_quietly v) (line_refusal_text refusals.MountsFull) else new_mount

    join : Holds names format (Some Mounted) v told → Tells told (joins halts (of_kind Mounted) number)
    join is =
        let w : World = of_kind Mounted in
        by_test (nat_lt (size_of v.extent) 4112) (λ b. Tells told (if b then line_stepped halts w number (volume_quietly v) (line_refusal_text refusals.SmallVolume) else if_few)) (λ _. refuse w number (line_refusal_text refusals.SmallVolume) told is)
        (λ large. by_test (nat_le 16 (mount_count v)) (λ b. Tells told (if b then line_stepped halts w number (volume_quietly v) (line_refusal_text refusals.MountsFull) else new_mount)) (λ _. refuse w number (line_refusal_text refusals.MountsFull) told is)
        (λ few. step w number (mounts v) (mount_text (mount_count v)) told (kept.mounting names format v told large few is)))

    mount_as : (kind : Kind) → Holds names format (Some kind) v told → Tells told (mounts_as kind halts (of_kind kind) number)
    mount_as Raw is = say (of_kind Raw) number (line_refusal_text refusals.Raw) told is
    mount_as Mounted is = join is

  -- a session of threads, of which the next one stands first
  hold_as : (v : VolumeRun) (names format : ℕ) (sessions : List Session) (number : ℕ) (told : List Moment) (kind : Kind) → Holds names format (Some kind) v told → (k hosts writes workers turns : ℕ) → Allowed (commands.Live k hosts writes workers turns)
      → Tells told (live_as kind halts (record { volume = v; names = names; format = format; kind = Some kind; sessions = sessions }) number k)
  hold_as v names format sessions number told Mounted is k hosts writes workers turns lets = say (record { volume = v; names = names; format = format; kind = Some Mounted; sessions = sessions }) number (line_refusal_text refusals.Mounted) told is
  hold_as v names format sessions number told Raw is k hosts writes workers turns lets = hold v names format (drop 1 sessions) number told is (next_session sessions) k hosts writes workers turns lets (slice_get v.chunks k) refl

  -- Moves

  module _ (w : World) (number : ℕ) (told : List Moment) (is : Holds w.names w.format w.kind w.volume told) where
    abbrev begun_move : (chunk : ℕ) → WorldTold
    begun_move chunk = line_stepped halts w number (chunk_moves chunk (made_group halts w) w.volume) (moving_text (length w.volume.chunks))

    abbrev if_fewer : (chunk : ℕ) → WorldTold
    if_fewer chunk = if nat_le 8 (length w.volume.chunks) then line_stepped halts w number (volume_quietly w.volume) (line_refusal_text refusals.NoSpare) else begun_move chunk

    begin_move : (chunk : ℕ) → Some Mounted ≡ w.kind → Tells told (begins_move halts w number chunk)
    begin_move chunk mounted =
        by_test (is_some w.volume.routes.moving) (λ b. Tells told (if b then line_stepped halts w number (volume_quietly w.volume) (line_refusal_text refusals.Moving) else if_fewer chunk)) (λ _. refuse w number (line_refusal_text refusals.Moving) told is)
        (λ free. by_test (nat_le 8 (length w.volume.chunks)) (λ b. Tells told (if b then line_stepped halts w number (volume_quietly w.volume) (line_refusal_text refusals.NoSpare) else begun_move chunk)) (λ _. refuse w number (line_refusal_text refusals.NoSpare) told is)
        (λ few. step w number (chunk_moves chunk (made_group halts w) w.volume) (moving_text (length w.volume.chunks)) told (
        let t : volumes.VolumeTold = chunk_moves chunk (made_group halts w) w.volume in
        subst (λ kind. Holds w.names w.format kind t.volume (told ++ t.told)) mounted
        (kept.moving w.names w.format w.volume told chunk free few (subst (λ kind. Holds w.names w.format kind w.volume told) (sym mounted) is)))))

    move_as : (chunk : ℕ) (kind : Option Kind) → w.kind ≡ kind → Tells told (if is_of_mounts kind then begins_move halts w number chunk else said_only w number (line_refusal_text refusals.Raw))
    move_as chunk None same = say w number (line_refusal_text refusals.Raw) told is
    move_as chunk (Some Raw) same = say w number (line_refusal_text refusals.Raw) told is
    move_as chunk (Some Mounted) same = begin_move chunk (sym same)

    move : (chunk : ℕ) → Tells told (move_told halts w number chunk)
    move chunk = move_as chunk w.kind refl

  -- a line that is refused decides the kind all the same
  refused_kind : (names format : ℕ) (kind : Option Kind) (command : Command) (v : VolumeRun) (told : List Moment) → Holds names format kind v told → Holds names format (kind_after kind command) v told
  refused_kind names format kind (commands.Submit g i s b n) v told is = decide names format kind Raw v told is
  refused_kind names format kind (commands.Live g hosts writes workers turns) v told is = decide names format kind Raw v told is
  refused_kind names format kind commands.Mount v told is = decide names format kind Mounted v told is
  refused_kind names format kind command v told is = is

  -- the server that a line names is one of three
  low : (groups g i : ℕ) → is_server groups g i ≡ true → i < 3
  low groups g i is = ltb-true i 3 (and_parts (nat_lt g groups) (nat_lt i 3) is).1

  module _ (w : World) (number : ℕ) (told : List Moment) (before : P w.names w.format w.kind w.volume told) where
    -- any line but a volume, of groups that are made
    run_line : (named : NamedVolume) (command : Command) → MayRun named command → Allowed command → Tells told (run_told halts w number command)
    run_line named (commands.Volume chunks sectors names format) may lets = absurd may
    run_line named (commands.Elect g i) may lets = plain w number told before g (events.Elect i) tt (low named.groups g i may)
    run_line named (commands.Resend g i) may lets = plain w number told before g (events.Resend i) tt (low named.groups g i may)
    run_line named (commands.Stop g i) may lets = plain w number told before g (events.Stop i) tt (low named.groups g i may)
    run_line named (commands.Restart g i) may lets = plain w number told before g (events.Restart i false) tt (low named.groups g i may)
    run_line named (commands.Checkpoint g i) may lets = plain w number told before g (events.Checkpoint i) tt (low named.groups g i may)
    run_line named (commands.Deliver g k) may lets = plain w number told before g (events.Deliver k) tt tt
    run_line named (commands.Lose g k) may lets = plain w number told before g (events.Lose k) tt tt
    run_line named (commands.Submit g i s b n) may lets = let kind : Kind = kind_decided w.kind Raw in submit_as w.volume w.names w.format w.sessions number told kind (decide w.names w.format w.kind Raw w.volume told before) g i s b n (low named.groups g i (and_parts _ _ (and_parts _ _ may).0).0)
    run_line named (commands.Fetch g i s n) may lets = fetch w number told before g i s n (low named.groups g i (and_parts _ _ (and_parts _ _ may).0).0)
    run_line named (commands.Mark g i) may lets = plain w number told before g (events.Submit i Mark) tt (low named.groups g i may, tt)
    run_line named (commands.Settle limit) may lets =
        let s : Settled = settled halts limit w.volume in
        end w number (settling limit halts w.volume) (settle_text s.stopped) told (settles w.names w.format w.kind limit w.volume told before)
    run_line named (commands.Live g hosts writes workers turns) may lets = let kind : Kind = kind_decided w.kind Raw in hold_as w.volume w.names w.format w.sessions number told kind (decide w.names w.format w.kind Raw w.volume told before) g hosts writes workers turns lets
    run_line named commands.Anchors may lets = anchor w number told before (keeps_from_anchors w.kind w.volume.layout w.volume.hosts w.volume.extent) refl
    run_line named commands.Mount may lets = let kind : Kind = kind_decided w.kind Mounted in mount_as w.volume w.names w.format w.sessions number told kind (decide w.names w.format w.kind Mounted w.volume told before)
    run_line named (commands.Kill m) may lets = kill w number told before m (host_at w.volume.hosts m) refl
    run_line named (commands.Call m words) may lets = call w number told before m words (host_at w.volume.hosts m) refl
    run_line named (commands.ShowLog g i) may lets = show w number told before (slice_get w.volume.chunks g) _
    run_line named (commands.ShowApplied g i) may lets = show w number told before (slice_get w.volume.chunks g) _
    run_line named (commands.ShowSectors g i) may lets = show w number told before (slice_get w.volume.chunks g) _
    run_line named (commands.ShowAcked g) may lets = show w number told before (slice_get w.volume.chunks g) _
    run_line named (commands.ShowMark g i s) may lets = show w number told before (slice_get w.volume.chunks g) _
    run_line named (commands.ShowMount m) may lets = show_mount w number told before m (host_at w.volume.hosts m)
    run_line named (commands.Move chunk) may lets = move w number told before chunk

    line : (named : NamedVolume) (command : Command) → MayRun named command → Allowed command → Tells told (line_told halts w number command)
    line named command may lets =
        let refused : World = record w { kind = kind_after w.kind command } in
        by_test (is_made w (group_named command)) (λ b. Tells told (if b then run_told halts w number command else said_only refused number (line_refusal_text refusals.NoGroup)))
        (λ _. run_line named command may lets)
        (λ _. say refused number (line_refusal_text refusals.NoGroup) told (refused_kind w.names w.format w.kind command w.volume told before))

module _ (halts : List Halt) (Allowed : Command → Type 0) (P : (names format : ℕ) → Option Kind → VolumeRun → List Moment → Type 0) (kept : IsKeptByLines halts Allowed P) where
  abbrev HoldsOf : WorldTold → Type 0
  HoldsOf t = P t.world.names t.world.format t.world.kind t.world.volume t.told

  -- more lines, told behind what was told before
  run : (named : NamedVolume) (lines : List Line) (w : World) (told : List Moment) → MayRunAll named lines → Every (λ x. Allowed x.command) lines → P w.names w.format w.kind w.volume told
      → P (run_from halts w lines).world.names (run_from halts w lines).world.format (run_from halts w lines).world.kind (run_from halts w lines).world.volume (told ++ (run_from halts w lines).told)
  run named [] w told may lets is = subst (P w.names w.format w.kind w.volume) (sym (append-nil told)) is
  run named (first ∷ lines) w told may lets is =
      let t : WorldTold = line_told halts w first.number first.command in
      let rest : WorldTold = run_from halts t.world lines in
      subst (P rest.world.names rest.world.format rest.world.kind rest.world.volume) (append_assoc told t.told rest.told)
      (run (named_after named first.command) lines t.world (told ++ t.told) may.1 lets.1 (line halts Allowed P kept w first.number told is named first.command may.0 lets.0))

  -- it holds after each script whose first line makes this volume
  pub running_by_lines : (sessions : List Session) (number chunks sectors names format : ℕ) (lines : List Line) → MayRunAll (first_named chunks) lines → Every (λ x. Allowed x.command) lines
      → P names format None (volume_made halts sessions chunks sectors names format).volume []
      → HoldsOf (world_run halts sessions (record { number = number; command = commands.Volume chunks sectors names format } ∷ lines))
  running_by_lines sessions number chunks sectors names format lines may lets new =
      let w : World = volume_made halts sessions chunks sectors names format in
      let t : WorldTold = volume_told number w in
      run (first_named chunks) lines w t.told may lets (kept.writing names format None w.volume [] (answer_line number (made_answer w)) new)
