-- What holds of a new volume where no line was run, and is kept by all that lines and hosts do to one at any count of lines, holds of the run of every script at
-- the count of its lines. A line begins one call at most, so such a property can say that no more calls began than lines were run.
use Rattle.std.proofs.Common.{◌≡◌, ℕ, zero, suc, Bool, true, false, not, if◌then◌else◌, List, [], ◌∷◌, ◌+◌, ◌++◌, drop, length, Option, Some, None, slice_get, arith, refl, sym, ap, subst, append-nil}
use Rattle.std.specs.Prelude.{nat_le, nat_lt}
use Rattle.std.specs.List.{range_with_len}
use Rattle.std.specs.Option.{is_some}
use Rattle.std.proofs.lemmas.Bool.{false≢true, ltb-false}
use Rattle.std.proofs.lemmas.List.{append_assoc}
use Rattle.std.proofs.lemmas.Option.{none-some, same_Some}
use Rattle.pf_base.specs.Span.{Span}
use Rattle.pf_base.specs.declared.calls.Call.{Call}
use Rattle.pf_entry.specs.Lists.{Every}
use Rattle.pf_entry.specs.declared.ops.Op.{Op}
use Rattle.pf_entry.specs.declared.ops.Op.TheVariants.{Mark}
use Rattle.pf_entry.proofs.Cases.{by_test}
use Rattle.pf_script.specs.Lines.{group_named}
use Rattle.pf_script.specs.declared.command.Command.{Command}
use Rattle.pf_script.specs.declared.command.Command.TheVariants as commands
use Rattle.pf_protocol.specs.declared.answers.Answer.TheVariants.{Done}
use Rattle.pf_protocol.specs.declared.events.Event.{Event}
use Rattle.pf_protocol.specs.declared.events.Event.TheVariants as events
use Rattle.pf_world.specs.pf_group.specs.Packets.{is_refused_for_room}
use Rattle.pf_volume.specs.Volumes.{Extent, size_of}
use Rattle.pf_journal.specs.declared.layouts.Layout.{Layout}
use Rattle.pf_journal.specs.declared.layouts.Layout.TheVariants.{Plain, Three}
use Rattle.pf_tree.specs.Calls.{FileCall}
use Rattle.pf_tree.specs.Listings.{listing}
use Rattle.pf_report.specs.Refusals.{line_refusal_text}
use Rattle.pf_report.specs.declared.refusals.LineRefusal.{LineRefusal}
use Rattle.pf_report.specs.declared.refusals.LineRefusal.TheVariants as refusals
use Rattle.pf_world.specs.pf_world_hosts.specs.Calls.{call_number}
use Rattle.pf_world.specs.pf_world_hosts.specs.declared.faults.HostCallFault.TheVariants as faults
use Rattle.pf_report.specs.Moves.{moving_text}
use Rattle.pf_report.specs.Texts.{report_line, settle_text}
use Rattle.pf_report.specs.Mounts.{mount_text, started_text, state_text, tree_lines}
use Rattle.pf_world.specs.pf_group_rounds.specs.Halts.{Halt}
use Rattle.pf_world.specs.pf_group_rounds.specs.Chunks.{Chunk, made_chunk}
use Rattle.pf_world.specs.pf_chunk.specs.Asking.{fetched, fetches, filled_write, is_range, no_range_answer, chunk_submits}
use Rattle.pf_world.specs.pf_chunk.specs.Asking.{no_range as no_event}
use Rattle.pf_world.specs.pf_chunk.specs.Happenings.{Happened, happened}
use Rattle.pf_world.specs.pf_chunk.specs.Lending.{all_happened}
use Rattle.pf_world.specs.pf_chunk.specs.Runs.{ChunkRun, new_run}
use Rattle.pf_world.specs.pf_chunk.specs.Saying.{answer_line, said}
use Rattle.pf_world.specs.pf_world_moments.specs.Moments.{Moment, Writes}
use Rattle.pf_world.specs.pf_mount_host.specs.Hosts.{HostIs}
use Rattle.pf_world.specs.pf_mount_host.specs.Hosts as hosts
use Rattle.pf_world.specs.pf_world_moments.specs.Words.{read_call}
use Rattle.pf_world.specs.pf_world_hosts.specs.Settling.{SettlesOn, PacketName, NextPacket, Settled, next_delivered, ends, enough_tries, settling_goes_on, least_left_of_chunk, packet_name_of, next_in_chunk, next_packet, settle_next, settle_to, settled, tried}
use Rattle.pf_world.specs.pf_world_hosts.specs.Settled.{settling}
use Rattle.pf_world.specs.pf_world_hosts.specs.Volumes.{Hosts, VolumeRun, all_step, anchors, begins, volume_happens, host_at, host_steps, hosts_step, killed, mount_count, mounts, mover_steps, chunk_moves, volume_quietly, saying, host_step_of, these_step, with_chunk, with_host}
use Rattle.pf_world.specs.pf_world_hosts.specs.Volumes as volumes
use Rattle.pf_world.specs.declared.kind.Kind.{Kind}
use Rattle.pf_world.specs.declared.kind.Kind.TheVariants.{Mounted, Raw}
use Rattle.pf_world.specs.pf_live_session.specs.Sessions.{Session, next_session, session_text}
use Rattle.pf_world.specs.declared.line.Line.{Line}
use Rattle.pf_world.specs.Worlds.{WorldTold, World, at_chunk, line_ended, volume_made, made_answer, no_world, refused_text, said_only, line_stepped, event_told}
use Rattle.pf_world.specs.Lines.{anchors_unless, are_late, range_asked, begins_if, begins_move, call_at_host, kind_decided, held_told, is_made, is_of_mounts, is_raw, joins, keeps_from_anchors, kill_at_host, kind_after, lacks_anchors, line_told, live_as, made_group, mounts_as, move_told, no_event_of, rests, run_told, show_at_host, shown_of, submits_as}
use Rattle.pf_world.specs.Reports.{run_from, world_run}
use Rattle.pf_law_runs.specs.Scripts.{IsScript, makes_volume}
use Rattle.pf_law_movers.proofs.WriteEvents.{IsNoWrite}

-- a group that is made for a move
abbrev pub new_group : List Halt → VolumeRun → (names format : ℕ) → ChunkRun
new_group halts v names format = new_run (made_chunk halts v.extent.sectors names format (length v.chunks))

-- A property of the count of a script's lines, of its run's kind, its volume and all that was told so far is kept at any count, where the kind is decided, by lines of text,
-- by an event of a chunk, by a write that a line submits or a session of threads in a raw run, by a read that a line takes up, by the step of a host or of the mover, where a
-- host comes in a run with mounts or goes, where a chunk begins to move to a new group, and where the journal comes to lie on three anchors, as no mount was made and they
-- have room. By one line more it holds at the count of one more, and so it does where a host begins the call of words, as a line does once at most
pub record IsKeptCounted (halts : List Halt) (P : (lines : ℕ) → Option Kind → VolumeRun → List Moment → Type 0) : Type 0 where
  pub more : (n : ℕ) (kind : Option Kind) (v : VolumeRun) (told : List Moment) → P n kind v told → P (suc n) kind v told
  pub deciding : (n : ℕ) (kind : Kind) (v : VolumeRun) (told : List Moment) → P n None v told → P n (Some kind) v told
  pub writing : (n : ℕ) (kind : Option Kind) (v : VolumeRun) (told : List Moment) (text : List ℕ) → P n kind v told → P n kind v (told ++ Writes text ∷ [])
  pub happening : (n : ℕ) (kind : Option Kind) (v : VolumeRun) (told : List Moment) (k : ℕ) (c : ChunkRun) (event : Event) → slice_get v.chunks k ≡ Some c → IsNoWrite event → P n kind v told → P n kind (with_chunk v (happened halts c event).chunk) told
  pub submitting : (n : ℕ) (v : VolumeRun) (told : List Moment) (k : ℕ) (c : ChunkRun) (server : ℕ) (op : Op) → slice_get v.chunks k ≡ Some c → P n (Some Raw) v told
      → P n (Some Raw) (with_chunk v (happened halts c (events.Submit server op)).chunk) told
  pub threading : (n : ℕ) (v : VolumeRun) (told : List Moment) (k : ℕ) (c : ChunkRun) (its : List Event) → slice_get v.chunks k ≡ Some c → P n (Some Raw) v told → P n (Some Raw) (with_chunk v (all_happened halts its c).chunk) told
  pub reading : (n : ℕ) (kind : Option Kind) (v : VolumeRun) (told : List Moment) (k : ℕ) (c : ChunkRun) (server : ℕ) (range : Span) → slice_get v.chunks k ≡ Some c → P n kind v told → P n kind (with_chunk v (fetched halts server range c).chunk) told
  pub stepping : (n : ℕ) (kind : Option Kind) (v : VolumeRun) (told : List Moment) (m : ℕ) (host : HostIs) → host_at v.hosts m ≡ Some host → P n kind v told
      → P n kind (with_host v m (hosts.stepped halts v.routes v.chunks host)).volume (told ++ (hosts.stepped halts v.routes v.chunks host).told)
  pub carrying : (n : ℕ) (kind : Option Kind) (v : VolumeRun) (told : List Moment) → P n kind v told → P n kind (mover_steps halts v).volume (told ++ (mover_steps halts v).told)
  pub moving : (n : ℕ) (v : VolumeRun) (told : List Moment) (names format chunk : ℕ) → is_some v.routes.moving ≡ false → nat_le 8 (length v.chunks) ≡ false → P n (Some Mounted) v told
      → P n (Some Mounted) (chunk_moves chunk (new_group halts v names format) v).volume (told ++ (chunk_moves chunk (new_group halts v names format) v).told)
  pub mounting : (n : ℕ) (v : VolumeRun) (told : List Moment) → nat_lt (size_of v.extent) 4112 ≡ false → nat_le 16 (length v.hosts) ≡ false → P n (Some Mounted) v told → P n (Some Mounted) (mounts v).volume (told ++ (mounts v).told)
  pub beginning : (n : ℕ) (kind : Option Kind) (v : VolumeRun) (told : List Moment) (m : ℕ) (host : HostIs) (words : Call (List ℕ)) (call : FileCall) → host_at v.hosts m ≡ Some host → rests host.mount.task.work ≡ true → read_call words ≡ Some call → P n kind v told
      → P (suc n) kind (begins m host call v).volume (told ++ (begins m host call v).told)
  pub killing : (n : ℕ) (kind : Option Kind) (v : VolumeRun) (told : List Moment) (m : ℕ) (host : HostIs) → host_at v.hosts m ≡ Some host → P n kind v told → P n kind (killed m v) told
  pub anchoring : (n : ℕ) (kind : Option Kind) (v : VolumeRun) (told : List Moment) → v.layout ≡ Plain → length v.hosts ≡ 0 → lacks_anchors v.extent ≡ false → P n kind v told → P n kind (anchors v) told

-- what let the journal come to lie on anchors
module _ (kind : Option Kind) (hosts : Hosts) (extent : Extent) where
  not_late : (layout : Layout) → are_late layout hosts ≡ false → (layout ≡ Plain) × (length hosts ≡ 0)
  not_late Plain free = let none = ltb-false 0 (length hosts) free in (refl, omega (arith, none))
  not_late Three late = absurd (false≢true (sym late))

  abbrev if_late : Layout → Option LineRefusal
  if_late layout = if are_late layout hosts then Some refusals.TooLate else if lacks_anchors extent then Some refusals.NoAnchors else None

  abbrev if_lacking : Option LineRefusal
  if_lacking = if lacks_anchors extent then Some refusals.NoAnchors else None

  abbrev LetsAnchor : Layout → Type 0
  LetsAnchor layout = (layout ≡ Plain) × (length hosts ≡ 0) × (lacks_anchors extent ≡ false)

  let_anchor : (layout : Layout) → keeps_from_anchors kind layout hosts extent ≡ None → LetsAnchor layout
  let_anchor layout =
      by_test (is_raw kind) (λ b. if◌then◌else◌ {A = Option LineRefusal} b (Some refusals.Raw) (if_late layout) ≡ None → LetsAnchor layout) (λ _ none. absurd (none-some refusals.Raw (sym none)))
      (λ _. by_test (are_late layout hosts) (λ b. if◌then◌else◌ {A = Option LineRefusal} b (Some refusals.TooLate) if_lacking ≡ None → LetsAnchor layout) (λ _ none. absurd (none-some refusals.TooLate (sym none)))
      (λ free. by_test (lacks_anchors extent) (λ b. if◌then◌else◌ {A = Option LineRefusal} b (Some refusals.NoAnchors) None ≡ None → LetsAnchor layout) (λ _ none. absurd (none-some refusals.NoAnchors (sym none)))
      (λ room _. let its = not_late layout free in (its.0, its.1, room))))

-- One line, before which the property holds at the count n. What the line does is done at the count of one more, but where it begins a call: that leads there
module _ (halts : List Halt) (P : (lines : ℕ) → Option Kind → VolumeRun → List Moment → Type 0) (kept : IsKeptCounted halts P) (n : ℕ) where
  abbrev Holds : Option Kind → VolumeRun → List Moment → Type 0
  Holds = P (suc n)

  module _ (kind : Option Kind) where
    -- it holds after this, which was told behind what was told before
    abbrev Comes : (told : List Moment) → volumes.VolumeTold → Type 0
    Comes told t = Holds kind t.volume (told ++ t.told)

    abbrev Settles : (told : List Moment) → Settled → Type 0
    Settles told s = Holds kind s.volume (told ++ s.told)

    nothing_told : (v : VolumeRun) (told : List Moment) → Holds kind v told → Holds kind v (told ++ [])
    nothing_told v told is = subst (Holds kind v) (sym (append-nil told)) is

    behind : (v : VolumeRun) (told more last : List Moment) → Holds kind v ((told ++ more) ++ last) → Holds kind v (told ++ (more ++ last))
    behind v told more last is = subst (Holds kind v) (append_assoc told more last) is

    follow : (told : List Moment) (t : volumes.VolumeTold) (next : VolumeRun → volumes.VolumeTold) → Comes told t → ((v : VolumeRun) (so_far : List Moment) → Holds kind v so_far → Comes so_far (next v)) → Comes told (volumes.volume_followed t next)
    follow told t next is onward = behind (next t.volume).volume told t.told (next t.volume).told (onward t.volume (told ++ t.told) is)

    -- Steps of hosts

    host_step : (m : ℕ) (v : VolumeRun) (told : List Moment) → Holds kind v told → Comes told (host_steps halts m v)
    host_step m v told is = by (host_at v.hosts m) refl
      where
        by : (o : Option HostIs) → host_at v.hosts m ≡ o → Comes told (host_step_of halts m v o)
        by None at = nothing_told v told is
        by (Some host) at = kept.stepping (suc n) kind v told m host at is

    these : (ms : List ℕ) (v : VolumeRun) (told : List Moment) → Holds kind v told → Comes told (these_step halts ms v)
    these [] v told is = nothing_told v told is
    these (m ∷ ms) v told is = follow told (host_steps halts m v) (these_step halts ms) (host_step m v told is) (these ms)

    hosts_all : (v : VolumeRun) (told : List Moment) → Holds kind v told → Comes told (hosts_step halts v)
    unfolding hosts_step
    hosts_all v told is = these (range_with_len 0 (length v.hosts)) v told is

    -- each host, and then the mover
    all_on : (v : VolumeRun) (told : List Moment) → Holds kind v told → Comes told (all_step halts v)
    all_on v told is = follow told (hosts_step halts v) (mover_steps halts) (hosts_all v told is) (kept.carrying (suc n) kind)

    -- something happened to a chunk
    after_event : (v : VolumeRun) (told : List Moment) (h : Happened) → Holds kind (with_chunk v h.chunk) told → Comes told (volume_happens halts v h)
    after_event v told h is = follow told (saying h.text (with_chunk v h.chunk)) (all_step halts) (kept.writing (suc n) kind (with_chunk v h.chunk) told h.text is) all_on

    -- Settlings

    next_here : (c : ChunkRun) (cs : List ChunkRun) (rest : Option NextPacket) (next : NextPacket) (o : Option ℕ) → (rest ≡ Some next → (k : ℕ) × (slice_get cs k ≡ Some next.chunk)) → next_in_chunk c o rest ≡ Some next → (k : ℕ) × (slice_get (c ∷ cs) k ≡ Some next.chunk)
    next_here c cs rest next None later is = let there = later is in (suc there.0, there.1)
    next_here c cs rest next (Some packet) later is = (zero, ap (λ (n : NextPacket). Some n.chunk) (same_Some (record { chunk = c; packet = packet }) next is))

    next_there : (passed : List PacketName) (cs : List ChunkRun) (next : NextPacket) → next_packet passed cs ≡ Some next → (k : ℕ) × (slice_get cs k ≡ Some next.chunk)
    next_there passed [] next is = absurd (none-some next is)
    next_there passed (c ∷ cs) next is = next_here c cs (next_packet passed cs) next (least_left_of_chunk passed c) (next_there passed cs next) is

    quiet : (stopped : Bool) (limit : ℕ) (passed : List PacketName) (v : VolumeRun) (told : List Moment) → Holds kind v told → Settles told (ends stopped limit passed v)
    quiet stopped limit passed v told is = nothing_told v told is

    module _ (more : SettlesOn) (well : (limit : ℕ) (passed : List PacketName) (v : VolumeRun) (told : List Moment) → Holds kind v told → Settles told (more limit passed v)) where
      go_on : (is_passed : Bool) (name : PacketName) (limit : ℕ) (passed : List PacketName) (v : VolumeRun) (told : List Moment) → Holds kind v told → Settles told (settling_goes_on is_passed name limit passed v more)
      go_on true name limit passed v told is = well (suc limit) (name ∷ passed) v told is
      go_on false name limit passed v told is = well limit passed v told is

      after_try : (t : volumes.VolumeTold) (is_passed : Bool) (name : PacketName) (limit : ℕ) (passed : List PacketName) (told : List Moment) → Comes told t → Settles told (tried t is_passed name limit passed more)
      after_try t is_passed name limit passed told is =
          let s : Settled = settling_goes_on is_passed name limit passed t.volume more in
          behind s.volume told t.told s.told (go_on is_passed name limit passed t.volume (told ++ t.told) is)

      one_try : (o : Option NextPacket) (limit : ℕ) (passed : List PacketName) (v : VolumeRun) (told : List Moment) → next_packet passed v.chunks ≡ o → Holds kind v told → Settles told (settle_next halts o more limit passed v)
      one_try None limit passed v told next is = quiet false limit passed v told is
      one_try (Some packet) zero passed v told next is = quiet true zero passed v told is
      one_try (Some packet) (suc limit) passed v told next is =
          let there = next_there passed v.chunks packet next in
          let h : Happened = next_delivered halts packet in
          after_try (volume_happens halts v h) (is_refused_for_room h.answer) (packet_name_of packet) limit passed told
          (after_event v told h (kept.happening (suc n) kind v told there.0 packet.chunk (events.Deliver packet.packet) there.1 tt is))

    settle : (tries limit : ℕ) (passed : List PacketName) (v : VolumeRun) (told : List Moment) → Holds kind v told → Settles told (settle_to tries halts limit passed v)
    unfolding settle_to
    settle zero limit passed v told is = quiet true limit passed v told is
    settle (suc tries) limit passed v told is = one_try (settle_to tries halts) (settle tries) (next_packet passed v.chunks) limit passed v told refl is

    settles : (limit : ℕ) (v : VolumeRun) (told : List Moment) → Holds kind v told → Settles told (settled halts limit v)
    unfolding settled
    settles limit v told is = settle (enough_tries limit) limit [] v told is

  -- Lines

  abbrev Tells : (told : List Moment) → WorldTold → Type 0
  Tells told t = Holds t.world.kind t.world.volume (told ++ t.told)

  end : (w : World) (number : ℕ) (t : volumes.VolumeTold) (text : List ℕ) (told : List Moment) → Comes w.kind told t → Tells told (line_ended w number t text)
  end w number t text told is = behind w.kind t.volume told t.told (Writes (report_line number text) ∷ []) (kept.writing (suc n) w.kind t.volume (told ++ t.told) (report_line number text) is)

  say : (w : World) (number : ℕ) (text : List ℕ) (told : List Moment) → Holds w.kind w.volume told → Tells told (said_only w number text)
  say w number text told is = end w number (volume_quietly w.volume) text told (nothing_told w.kind w.volume told is)

  step : (w : World) (number : ℕ) (t : volumes.VolumeTold) (text : List ℕ) (told : List Moment) → Comes w.kind told t → Tells told (line_stepped halts w number t text)
  step w number t text told is = end w number (volumes.volume_followed t (all_step halts)) text told (follow w.kind told t (all_step halts) is (all_on w.kind))

  refuse : (w : World) (number : ℕ) (text : List ℕ) (told : List Moment) → Holds w.kind w.volume told → Tells told (line_stepped halts w number (volume_quietly w.volume) text)
  refuse w number text told is = step w number (volume_quietly w.volume) text told (nothing_told w.kind w.volume told is)

  module _ (w : World) (number : ℕ) (told : List Moment) (is : Holds w.kind w.volume told) where
    -- a line of one chunk
    at : (chunk : ℕ) (event : ChunkRun → Happened) → ((c : ChunkRun) → slice_get w.volume.chunks chunk ≡ Some c → Holds w.kind (with_chunk w.volume (event c).chunk) told) → Tells told (at_chunk halts w number chunk event)
    at chunk event onward = by (slice_get w.volume.chunks chunk) refl
      where
        by : (o : Option ChunkRun) → slice_get w.volume.chunks chunk ≡ o → Tells told (event_told halts w number o event)
        by None there = nothing_told w.kind w.volume told is
        by (Some c) there = end w number (volume_happens halts w.volume (event c)) (said (event c).answer) told (after_event w.kind w.volume told (event c) (onward c there))

    plain : (chunk : ℕ) (event : Event) → IsNoWrite event → Tells told (at_chunk halts w number chunk (λ c. happened halts c event))
    plain chunk event never = at chunk (λ c. happened halts c event) (λ c there. kept.happening (suc n) w.kind w.volume told chunk c event there never is)

    no_range : (server : ℕ) (o : Option ChunkRun) → Tells told (no_event_of w number server o)
    no_range server None = nothing_told w.kind w.volume told is
    no_range server (Some c) = say w number (said (no_range_answer (slice_get c.group.state.servers server))) told is

    -- a line that asks for a range
    ask : (chunk server first count : ℕ) (event : ChunkRun → Happened) → (is_range first count ≡ true → (c : ChunkRun) → slice_get w.volume.chunks chunk ≡ Some c → Holds w.kind (with_chunk w.volume (event c).chunk) told)
        → Tells told (range_asked halts w number chunk server first count event)
    ask chunk server first count event onward =
        by_test (is_range first count) (λ b. Tells told (if b then at_chunk halts w number chunk event else no_event_of w number server (slice_get w.volume.chunks chunk)))
        (λ ranges. at chunk event (onward ranges))
        (λ _. no_range server (slice_get w.volume.chunks chunk))

    fetch : (chunk server first count : ℕ) → Tells told (range_asked halts w number chunk server first count (fetches halts server first count))
    fetch chunk server first count = ask chunk server first count (fetches halts server first count) (λ ranges c there.
        subst (λ b. Holds w.kind (with_chunk w.volume (if b then fetched halts server (record { first = first; count = count }) c else no_event server c).chunk) told) (sym ranges)
        (kept.reading (suc n) w.kind w.volume told chunk c server (record { first = first; count = count }) there is))

    show : (o : Option ChunkRun) (text : Chunk → List ℕ) → Tells told (shown_of w number o text)
    show None text = nothing_told w.kind w.volume told is
    show (Some c) text = say w number (text c.group) told is

    -- a line of a mount
    kill : (m : ℕ) (o : Option HostIs) → host_at w.volume.hosts m ≡ o → Tells told (kill_at_host w number m o)
    kill m None there = say w number (line_refusal_text refusals.NoMount) told is
    kill m (Some host) there = end w number (volume_quietly (killed m w.volume)) (said Done) told (nothing_told w.kind (killed m w.volume) told (kept.killing (suc n) w.kind w.volume told m host there is))

    show_mount : (m : ℕ) (o : Option HostIs) → Tells told (show_at_host w number m o)
    show_mount m None = say w number (line_refusal_text refusals.NoMount) told is
    show_mount m (Some host) =
        let lines = tree_lines (listing host.mount.files.tables) in
        end w number (saying lines w.volume) (state_text m host.mount.upto (not (rests host.mount.task.work))) told (kept.writing (suc n) w.kind w.volume told lines is)

    -- the journal comes to lie on anchors
    anchor : (o : Option LineRefusal) → keeps_from_anchors w.kind w.volume.layout w.volume.hosts w.volume.extent ≡ o → Tells told (anchors_unless w number o)
    anchor (Some refusal) keeps = say w number (line_refusal_text refusal) told is
    anchor None lets =
        let free = let_anchor w.kind w.volume.hosts w.volume.extent w.volume.layout lets in
        end w number (volume_quietly (anchors w.volume)) (said Done) told (nothing_told w.kind (anchors w.volume) told (kept.anchoring (suc n) w.kind w.volume told free.0 free.1 free.2 is))

  -- A line of a call

  module _ (w : World) (number : ℕ) (told : List Moment) (before : P n w.kind w.volume told) where
    -- no call begins
    no_call : (why : ℕ) → Tells told (line_stepped halts w number (volume_quietly w.volume) (refused_text why))
    no_call why = refuse w number (refused_text why) told (kept.more n w.kind w.volume told before)

    begin : (m : ℕ) (host : HostIs) (words : Call (List ℕ)) → host_at w.volume.hosts m ≡ Some host → rests host.mount.task.work ≡ true → (o : Option FileCall) → read_call words ≡ o → Tells told (begins_if halts w number m host o)
    begin m host words there free None said_so = no_call (call_number faults.BadName)
    begin m host words there free (Some call) said_so = step w number (begins m host call w.volume) started_text told (kept.beginning n w.kind w.volume told m host words call there free said_so before)

    call : (m : ℕ) (words : Call (List ℕ)) (o : Option HostIs) → host_at w.volume.hosts m ≡ o → Tells told (call_at_host halts w number m words o)
    call m words None there = no_call (call_number faults.NoMount)
    call m words (Some host) there =
        by_test (rests host.mount.task.work) (λ b. Tells told (if b then begins_if halts w number m host (read_call words) else line_stepped halts w number (volume_quietly w.volume) (refused_text (call_number faults.CallPending))))
        (λ free. begin m host words there free (read_call words) refl)
        (λ _. no_call (call_number faults.CallPending))

  -- Lines that ask for a kind of run

  decide : (was : Option Kind) (kind : Kind) (v : VolumeRun) (told : List Moment) → Holds was v told → Holds (Some (kind_decided was kind)) v told
  decide None kind v told is = kept.deciding (suc n) kind v told is
  decide (Some was) kind v told is = is

  module _ (v : VolumeRun) (names format : ℕ) (sessions : List Session) (number : ℕ) (told : List Moment) where
    abbrev of_kind : Kind → World
    of_kind kind = record { volume = v; names = names; format = format; kind = Some kind; sessions = sessions }

    submit : Holds (Some Raw) v told → (chunk server first byte count : ℕ) → Tells told (range_asked halts (of_kind Raw) number chunk server first count (chunk_submits halts server first byte count))
    submit is chunk server first byte count = ask (of_kind Raw) number told is chunk server first count (chunk_submits halts server first byte count) (λ ranges c there.
        subst (λ b. Holds (Some Raw) (with_chunk v (if b then happened halts c (events.Submit server (filled_write first byte count)) else no_event server c).chunk) told) (sym ranges)
        (kept.submitting (suc n) v told chunk c server (filled_write first byte count) there is))

    submit_as : (kind : Kind) → Holds (Some kind) v told → (chunk server first byte count : ℕ) → Tells told (submits_as kind halts (of_kind kind) number chunk server first byte count)
    submit_as Mounted is chunk server first byte count = say (of_kind Mounted) number (line_refusal_text refusals.Mounted) told is
    submit_as Raw is chunk server first byte count = submit is chunk server first byte count

    hold : Holds (Some Raw) v told → (session : Session) (k : ℕ) (o : Option ChunkRun) → slice_get v.chunks k ≡ o → Tells told (held_told halts (of_kind Raw) number session o)
    hold is session k None there = nothing_told (Some Raw) v told is
    hold is session k (Some c) there =
        let now = all_happened halts session.events c in
        end (of_kind Raw) number (volume_happens halts v now) (session_text c.group now.chunk.group session.ended) told (after_event (Some Raw) v told now (kept.threading (suc n) v told k c session.events there is))

    abbrev new_mount : WorldTold
    new_mount = line_stepped halts (of_kind Mounted) number (mounts v) (mount_text (mount_count v))

    abbrev if_few : WorldTold
    if_few = if nat_le 16 (mount_count v) then line_stepped halts (of_kind Mounted) number (volume_quietly v) (line_refusal_text refusals.MountsFull) else new_mount

    join : Holds (Some Mounted) v told → Tells told (joins halts (of_kind Mounted) number)
    join is =
        let w : World = of_kind Mounted in
        by_test (nat_lt (size_of v.extent) 4112) (λ b. Tells told (if b then line_stepped halts w number (volume_quietly v) (line_refusal_text refusals.SmallVolume) else if_few)) (λ _. refuse w number (line_refusal_text refusals.SmallVolume) told is)
        (λ large. by_test (nat_le 16 (mount_count v)) (λ b. Tells told (if b then line_stepped halts w number (volume_quietly v) (line_refusal_text refusals.MountsFull) else new_mount)) (λ _. refuse w number (line_refusal_text refusals.MountsFull) told is)
        (λ few. step w number (mounts v) (mount_text (mount_count v)) told (kept.mounting (suc n) v told large few is)))

    mount_as : (kind : Kind) → Holds (Some kind) v told → Tells told (mounts_as kind halts (of_kind kind) number)
    mount_as Raw is = say (of_kind Raw) number (line_refusal_text refusals.Raw) told is
    mount_as Mounted is = join is

  -- a session of threads, of which the next one stands first
  hold_as : (v : VolumeRun) (names format : ℕ) (sessions : List Session) (number : ℕ) (told : List Moment) (kind : Kind) → Holds (Some kind) v told → (k : ℕ)
      → Tells told (live_as kind halts (record { volume = v; names = names; format = format; kind = Some kind; sessions = sessions }) number k)
  hold_as v names format sessions number told Mounted is k = say (record { volume = v; names = names; format = format; kind = Some Mounted; sessions = sessions }) number (line_refusal_text refusals.Mounted) told is
  hold_as v names format sessions number told Raw is k = hold v names format (drop 1 sessions) number told is (next_session sessions) k (slice_get v.chunks k) refl

  -- Moves

  module _ (w : World) (number : ℕ) (told : List Moment) (is : Holds w.kind w.volume told) where
    abbrev begun_move : (chunk : ℕ) → WorldTold
    begun_move chunk = line_stepped halts w number (chunk_moves chunk (made_group halts w) w.volume) (moving_text (length w.volume.chunks))

    abbrev if_fewer : (chunk : ℕ) → WorldTold
    if_fewer chunk = if nat_le 8 (length w.volume.chunks) then line_stepped halts w number (volume_quietly w.volume) (line_refusal_text refusals.NoSpare) else begun_move chunk

    begin_move : (chunk : ℕ) → Some Mounted ≡ w.kind → Tells told (begins_move halts w number chunk)
    begin_move chunk mounted =
        by_test (is_some w.volume.routes.moving) (λ b. Tells told (if b then line_stepped halts w number (volume_quietly w.volume) (line_refusal_text refusals.Moving) else if_fewer chunk)) (λ _. refuse w number (line_refusal_text refusals.Moving) told is)
        (λ free. by_test (nat_le 8 (length w.volume.chunks)) (λ b. Tells told (if b then line_stepped halts w number (volume_quietly w.volume) (line_refusal_text refusals.NoSpare) else begun_move chunk)) (λ _. refuse w number (line_refusal_text refusals.NoSpare) told is)
        (λ few. step w number (chunk_moves chunk (made_group halts w) w.volume) (moving_text (length w.volume.chunks)) told (
        let t : volumes.VolumeTold = chunk_moves chunk (made_group halts w) w.volume in
        subst (λ kind. Holds kind t.volume (told ++ t.told)) mounted
        (kept.moving (suc n) w.volume told w.names w.format chunk free few (subst (λ kind. Holds kind w.volume told) (sym mounted) is)))))

    move_as : (chunk : ℕ) (kind : Option Kind) → w.kind ≡ kind → Tells told (if is_of_mounts kind then begins_move halts w number chunk else said_only w number (line_refusal_text refusals.Raw))
    move_as chunk None same = say w number (line_refusal_text refusals.Raw) told is
    move_as chunk (Some Raw) same = say w number (line_refusal_text refusals.Raw) told is
    move_as chunk (Some Mounted) same = begin_move chunk (sym same)

    move : (chunk : ℕ) → Tells told (move_told halts w number chunk)
    move chunk = move_as chunk w.kind refl

  -- a line that is refused decides the kind all the same
  refused_kind : (kind : Option Kind) (command : Command) (v : VolumeRun) (told : List Moment) → Holds kind v told → Holds (kind_after kind command) v told
  refused_kind kind (commands.Submit g i s b n) v told is = decide kind Raw v told is
  refused_kind kind (commands.Live g hosts writes workers turns) v told is = decide kind Raw v told is
  refused_kind kind commands.Mount v told is = decide kind Mounted v told is
  refused_kind kind command v told is = is

  module _ (w : World) (number : ℕ) (told : List Moment) (before : P n w.kind w.volume told) where
    now : Holds w.kind w.volume told
    now = kept.more n w.kind w.volume told before

    -- any line but a volume, of groups that are made
    run_line : (command : Command) → makes_volume command ≡ false → Tells told (run_told halts w number command)
    run_line (commands.Volume chunks sectors names format) none = absurd (false≢true (sym none))
    run_line (commands.Elect g i) none = plain w number told now g (events.Elect i) tt
    run_line (commands.Resend g i) none = plain w number told now g (events.Resend i) tt
    run_line (commands.Stop g i) none = plain w number told now g (events.Stop i) tt
    run_line (commands.Restart g i) none = plain w number told now g (events.Restart i false) tt
    run_line (commands.Checkpoint g i) none = plain w number told now g (events.Checkpoint i) tt
    run_line (commands.Deliver g k) none = plain w number told now g (events.Deliver k) tt
    run_line (commands.Lose g k) none = plain w number told now g (events.Lose k) tt
    run_line (commands.Submit g i s b n) none = let kind : Kind = kind_decided w.kind Raw in submit_as w.volume w.names w.format w.sessions number told kind (decide w.kind Raw w.volume told now) g i s b n
    run_line (commands.Fetch g i s n) none = fetch w number told now g i s n
    run_line (commands.Mark g i) none = plain w number told now g (events.Submit i Mark) tt
    run_line (commands.Settle limit) none =
        let s : Settled = settled halts limit w.volume in
        end w number (settling limit halts w.volume) (settle_text s.stopped) told (settles w.kind limit w.volume told now)
    run_line (commands.Live g hosts writes workers turns) none = let kind : Kind = kind_decided w.kind Raw in hold_as w.volume w.names w.format w.sessions number told kind (decide w.kind Raw w.volume told now) g
    run_line commands.Anchors none = anchor w number told now (keeps_from_anchors w.kind w.volume.layout w.volume.hosts w.volume.extent) refl
    run_line commands.Mount none = let kind : Kind = kind_decided w.kind Mounted in mount_as w.volume w.names w.format w.sessions number told kind (decide w.kind Mounted w.volume told now)
    run_line (commands.Kill m) none = kill w number told now m (host_at w.volume.hosts m) refl
    run_line (commands.Call m words) none = call w number told before m words (host_at w.volume.hosts m) refl
    run_line (commands.ShowLog g i) none = show w number told now (slice_get w.volume.chunks g) _
    run_line (commands.ShowApplied g i) none = show w number told now (slice_get w.volume.chunks g) _
    run_line (commands.ShowSectors g i) none = show w number told now (slice_get w.volume.chunks g) _
    run_line (commands.ShowAcked g) none = show w number told now (slice_get w.volume.chunks g) _
    run_line (commands.ShowMark g i s) none = show w number told now (slice_get w.volume.chunks g) _
    run_line (commands.ShowMount m) none = show_mount w number told now m (host_at w.volume.hosts m)
    run_line (commands.Move chunk) none = move w number told now chunk

    line : (command : Command) → makes_volume command ≡ false → Tells told (line_told halts w number command)
    line command none =
        let refused : World = record w { kind = kind_after w.kind command } in
        by_test (is_made w (group_named command)) (λ b. Tells told (if b then run_told halts w number command else said_only refused number (line_refusal_text refusals.NoGroup)))
        (λ _. run_line command none)
        (λ _. say refused number (line_refusal_text refusals.NoGroup) told (refused_kind w.kind command w.volume told now))

module _ (halts : List Halt) (P : (lines : ℕ) → Option Kind → VolumeRun → List Moment → Type 0) (kept : IsKeptCounted halts P) where
  -- more lines, told behind what was told before
  run : (lines : List Line) (n last : ℕ) → length lines + n ≡ last → (w : World) (told : List Moment) → Every (λ x. makes_volume x.command ≡ false) lines → P n w.kind w.volume told
      → P last (run_from halts w lines).world.kind (run_from halts w lines).world.volume (told ++ (run_from halts w lines).told)
  run [] n last count w told none is =
      let same : n ≡ last = omega (arith, count) in
      subst (λ k. P k w.kind w.volume (told ++ [])) same (subst (P n w.kind w.volume) (sym (append-nil told)) is)
  run (first ∷ lines) n last count w told none is =
      let t : WorldTold = line_told halts w first.number first.command in
      let rest : WorldTold = run_from halts t.world lines in
      let onward : length lines + suc n ≡ last = omega (arith, count) in
      subst (P last rest.world.kind rest.world.volume) (append_assoc told t.told rest.told)
      (run lines (suc n) last onward t.world (told ++ t.told) none.1 (line halts P kept n w first.number told is first.command none.0))

  module _ (new : (sessions : List Session) (chunks sectors names format : ℕ) → P 0 None (volume_made halts sessions chunks sectors names format).volume []) where
    first_line : (sessions : List Session) (number : ℕ) (command : Command) → makes_volume command ≡ true
        → P 1 (line_told halts (no_world sessions) number command).world.kind (line_told halts (no_world sessions) number command).world.volume (line_told halts (no_world sessions) number command).told
    first_line sessions number (commands.Volume chunks sectors names format) is =
        let w : World = volume_made halts sessions chunks sectors names format in
        kept.writing 1 None w.volume [] (answer_line number (made_answer w)) (kept.more 0 None w.volume [] (new sessions chunks sectors names format))
    first_line sessions number command is = absurd (false≢true is)

    -- it holds after each script, at the count of its lines
    pub running_counted : (sessions : List Session) (lines : List Line) → IsScript lines
        → P (length lines) (world_run halts sessions lines).world.kind (world_run halts sessions lines).world.volume (world_run halts sessions lines).told
    running_counted sessions [] is = absurd is
    running_counted sessions (first ∷ lines) is =
        let t : WorldTold = line_told halts (no_world sessions) first.number first.command in
        let all : length lines + 1 ≡ suc (length lines) = omega arith in
        run lines 1 (suc (length lines)) all t.world t.told is.1 (first_line sessions first.number first.command is.0)
