-- What each line of a script does to a world, and what it tells.
use Rattle.std.specs.Prelude.{ℕ, Bool, true, false, not, ◌||◌, nat_le, nat_lt, if◌then◌else◌, List, [], ◌∷◌, drop, length, Option, Some, None, slice_get}
use Rattle.std.specs.Option.{is_some}
use Rattle.pf_base.specs.declared.calls.Call.{Call}
use Rattle.pf_tree.specs.Calls.{FileCall}
use Rattle.pf_tree.specs.Listings.{listing}
use Rattle.pf_script.specs.Lines.{group_named}
use Rattle.pf_script.specs.declared.command.Command.{Command}
use Rattle.pf_script.specs.declared.command.Command.TheVariants as commands
use Rattle.pf_entry.specs.declared.ops.Op.TheVariants.{Mark}
use Rattle.pf_protocol.specs.declared.answers.Answer.TheVariants.{Done}
use Rattle.pf_protocol.specs.declared.events.Event.TheVariants as events
use Rattle.pf_volume.specs.Volumes.{Extent, size_of}
use Rattle.pf_move.specs.Routes.{RoutesIs}
use Rattle.pf_journal.specs.Layouts.{least_sectors}
use Rattle.pf_journal.specs.declared.layouts.Layout.{Layout}
use Rattle.pf_journal.specs.declared.layouts.Layout.TheVariants.{Plain, Three}
use Rattle.pf_mount.specs.declared.work.MountWork.{MountWork}
use Rattle.pf_mount.specs.declared.work.MountWork.TheVariants.{Rests}
use Rattle.pf_world_hosts.specs.pf_mount_host.specs.Hosts.{HostIs}
use Rattle.pf_report.specs.Refusals.{line_refusal_text}
use Rattle.pf_report.specs.declared.refusals.LineRefusal.{LineRefusal}
use Rattle.pf_report.specs.declared.refusals.LineRefusal.TheVariants as refusals
use Rattle.pf_world_hosts.specs.Calls.{call_number}
use Rattle.pf_world_hosts.specs.declared.faults.HostCallFault.TheVariants as faults
use Rattle.pf_report.specs.Moves.{moving_text}
use Rattle.pf_report.specs.Texts.{settle_text}
use Rattle.pf_report.specs.Mounts.{mount_text, started_text, state_text, tree_lines}
use Rattle.pf_live_session.specs.pf_group_rounds.specs.Halts.{Halt}
use Rattle.pf_live_session.specs.pf_group_rounds.specs.Chunks.{Chunk, made_chunk}
use Rattle.pf_live_session.specs.pf_chunk.specs.Asking.{fetches, is_range, no_range_answer, chunk_submits}
use Rattle.pf_live_session.specs.pf_chunk.specs.Happenings.{Happened, happened}
use Rattle.pf_live_session.specs.pf_chunk.specs.Lending.{all_happened}
use Rattle.pf_live_session.specs.pf_chunk.specs.Runs.{ChunkRun, new_run}
use Rattle.pf_live_session.specs.pf_chunk.specs.Saying.{answer_line, said}
use Rattle.pf_live_session.specs.pf_chunk.specs.Showing.{acked_shown, applied_shown, log_shown, mark_shown, text_of_server, sectors_shown}
use Rattle.pf_world_hosts.specs.pf_world_moments.specs.Moments.{Writes}
use Rattle.pf_world_hosts.specs.pf_world_moments.specs.Words.{read_call}
use Rattle.pf_world_hosts.specs.Settling.{settled}
use Rattle.pf_world_hosts.specs.Settled.{settling}
use Rattle.pf_world_hosts.specs.Volumes.{Hosts, anchors, begins, volume_happens, host_at, killed, mount_count, mounts, chunk_moves, volume_quietly, saying}
use Rattle.pf_live_session.specs.Sessions.{Session, next_session, session_text}
use Rattle.pf_world.specs.declared.kind.Kind.{Kind}
use Rattle.pf_world.specs.declared.kind.Kind.TheVariants.{Mounted, Raw}
use Rattle.pf_world.specs.Worlds.{WorldTold, World, at_chunk, line_ended, volume_made, made_answer, refused_text, said_only, line_stepped}

-- a new volume takes the place of what was there
abbrev pub volume_told : (number : ℕ) → World → WorldTold
volume_told number w = record { world = w; told = Writes (answer_line number (made_answer w)) ∷ [] }

abbrev pub shown_of : World → (number : ℕ) → Option ChunkRun → (Chunk → List ℕ) → WorldTold
shown_of w number None text = record { world = w; told = [] }
shown_of w number (Some c) text = said_only w number (text c.group)

-- a line that shows a chunk changes nothing
abbrev pub chunk_shown : World → (number chunk : ℕ) → (Chunk → List ℕ) → WorldTold
chunk_shown w number chunk text = shown_of w number (slice_get w.volume.chunks chunk) text

abbrev pub settle_told : List Halt → World → (number limit : ℕ) → WorldTold
settle_told halts w number limit = line_ended w number (settling limit halts w.volume) (settle_text (settled halts limit w.volume).stopped)

-- Asks of lines

abbrev pub no_event_of : World → (number server : ℕ) → Option ChunkRun → WorldTold
no_event_of w number server None = record { world = w; told = [] }
no_event_of w number server (Some c) = said_only w number (said (no_range_answer (slice_get c.group.state.servers server)))

-- numbers that are no range are no event
abbrev pub range_asked : List Halt → World → (number chunk server first count : ℕ) → (ChunkRun → Happened) → WorldTold
range_asked halts w number chunk server first count event =
    if is_range first count then at_chunk halts w number chunk event else no_event_of w number server (slice_get w.volume.chunks chunk)

-- the kind of a run is that of the first line that has one
abbrev pub kind_decided : Option Kind → Kind → Kind
kind_decided None kind = kind
kind_decided (Some was) kind = was

abbrev pub is_mounted : Kind → Bool
is_mounted Mounted = true
is_mounted Raw = false

abbrev pub with_kind : World → Kind → World
with_kind w kind = record w { kind = Some kind }

-- in a run with mounts no line submits
abbrev pub submits_as : Kind → List Halt → World → (number chunk server first byte count : ℕ) → WorldTold
submits_as Mounted halts w number chunk server first byte count = said_only w number (line_refusal_text refusals.Mounted)
submits_as Raw halts w number chunk server first byte count = range_asked halts w number chunk server first count (chunk_submits halts server first byte count)

abbrev pub submit_told : List Halt → World → (number chunk server first byte count : ℕ) → WorldTold
submit_told halts w number chunk server first byte count =
    let kind = kind_decided w.kind Raw in
    submits_as kind halts (with_kind w kind) number chunk server first byte count

-- Live lines

abbrev pub held_told : List Halt → World → (number : ℕ) → Session → Option ChunkRun → WorldTold
held_told halts w number session None = record { world = w; told = [] }
held_told halts w number session (Some c) =
    let now = all_happened halts session.events c in
    line_ended w number (volume_happens halts w.volume now) (session_text c.group now.chunk.group session.ended)

-- in a run with mounts no threads begin; in any other they do to the chunk what the next session tells
abbrev pub live_as : Kind → List Halt → World → (number chunk : ℕ) → WorldTold
live_as Mounted halts w number chunk = said_only w number (line_refusal_text refusals.Mounted)
live_as Raw halts w number chunk = held_told halts (record w { sessions = drop 1 w.sessions }) number (next_session w.sessions)
    (slice_get w.volume.chunks chunk)

abbrev pub live_told : List Halt → World → (number chunk : ℕ) → WorldTold
live_told halts w number chunk =
    let kind = kind_decided w.kind Raw in
    live_as kind halts (with_kind w kind) number chunk

-- Mounts

-- the next mount, where the volume has room for files and for one more
abbrev pub joins : List Halt → World → (number : ℕ) → WorldTold
joins halts w number =
    if nat_lt (size_of w.volume.extent) least_sectors then line_stepped halts w number (volume_quietly w.volume) (line_refusal_text refusals.SmallVolume)
    else if nat_le 16 (mount_count w.volume) then line_stepped halts w number (volume_quietly w.volume) (line_refusal_text refusals.MountsFull)
    else line_stepped halts w number (mounts w.volume) (mount_text (mount_count w.volume))

-- in a raw run no mount is made
abbrev pub mounts_as : Kind → List Halt → World → (number : ℕ) → WorldTold
mounts_as Raw halts w number = said_only w number (line_refusal_text refusals.Raw)
mounts_as Mounted halts w number = joins halts w number

abbrev pub mount_told : List Halt → World → (number : ℕ) → WorldTold
mount_told halts w number =
    let kind = kind_decided w.kind Mounted in
    mounts_as kind halts (with_kind w kind) number

abbrev pub kill_at_host : World → (number mount : ℕ) → Option HostIs → WorldTold
kill_at_host w number mount None = said_only w number (line_refusal_text refusals.NoMount)
kill_at_host w number mount (Some host) = line_ended w number (volume_quietly (killed mount w.volume)) (said Done)

abbrev pub kill_told : World → (number mount : ℕ) → WorldTold
kill_told w number mount = kill_at_host w number mount (host_at w.volume.hosts mount)

-- a call with its paths read, if they are paths
abbrev pub begins_if : List Halt → World → (number mount : ℕ) → HostIs → Option FileCall → WorldTold
begins_if halts w number mount host None = line_stepped halts w number (volume_quietly w.volume) (refused_text (call_number faults.BadName))
begins_if halts w number mount host (Some call) = line_stepped halts w number (begins mount host call w.volume) started_text

abbrev pub rests : MountWork → Bool
rests Rests = true
rests work = false

-- of a host that is there, and rests
abbrev pub call_at_host : List Halt → World → (number mount : ℕ) → Call (List ℕ) → Option HostIs → WorldTold
call_at_host halts w number mount call None = line_stepped halts w number (volume_quietly w.volume) (line_refusal_text refusals.NoMount)
call_at_host halts w number mount call (Some host) =
    if rests host.mount.task.work then begins_if halts w number mount host (read_call call)
    else line_stepped halts w number (volume_quietly w.volume) (refused_text (call_number faults.CallPending))

abbrev pub call_told : List Halt → World → (number mount : ℕ) → Call (List ℕ) → WorldTold
call_told halts w number mount call = call_at_host halts w number mount call (host_at w.volume.hosts mount)

abbrev pub show_at_host : World → (number mount : ℕ) → Option HostIs → WorldTold
show_at_host w number mount None = said_only w number (line_refusal_text refusals.NoMount)
show_at_host w number mount (Some host) =
    line_ended w number (saying (tree_lines (listing host.mount.files.tables)) w.volume) (state_text mount host.mount.upto (not (rests host.mount.task.work)))

abbrev pub show_told : World → (number mount : ℕ) → WorldTold
show_told w number mount = show_at_host w number mount (host_at w.volume.hosts mount)

-- Anchors

-- lines of the script began the run
abbrev pub is_raw : Option Kind → Bool
is_raw None = false
is_raw (Some kind) = not (is_mounted kind)

abbrev pub is_anchored : Layout → Bool
is_anchored Plain = false
is_anchored Three = true

-- the journal lies on three anchors, or a mount was made
abbrev pub are_late : Layout → Hosts → Bool
are_late layout hosts = is_anchored layout || nat_lt 0 (length hosts)

-- too few chunks, or too few sectors in each
abbrev pub lacks_anchors : Extent → Bool
lacks_anchors extent = nat_lt extent.chunks 4 || nat_lt extent.sectors 4096

-- what keeps the journal from three anchors, if anything does
abbrev pub keeps_from_anchors : Option Kind → Layout → Hosts → Extent → Option LineRefusal
keeps_from_anchors kind layout hosts extent =
    if is_raw kind then Some refusals.Raw
    else if are_late layout hosts then Some refusals.TooLate
    else if lacks_anchors extent then Some refusals.NoAnchors else None

abbrev pub anchors_unless : World → (number : ℕ) → Option LineRefusal → WorldTold
anchors_unless w number (Some refusal) = said_only w number (line_refusal_text refusal)
anchors_unless w number None = line_ended w number (volume_quietly (anchors w.volume)) (said Done)

-- the journal lies on three anchors from here on
abbrev pub anchors_told : World → (number : ℕ) → WorldTold
anchors_told w number = anchors_unless w number (keeps_from_anchors w.kind w.volume.layout w.volume.hosts w.volume.extent)

-- Moves

-- in a run that a mount began
abbrev pub is_of_mounts : Option Kind → Bool
is_of_mounts None = false
is_of_mounts (Some kind) = is_mounted kind

-- a new group, with the next number
abbrev pub made_group : List Halt → World → ChunkRun
made_group halts w = new_run (made_chunk halts w.volume.extent.sectors w.names w.format (length w.volume.chunks))

-- what keeps a chunk from moving, if anything does
abbrev pub keeps_from_moving : RoutesIs → (groups : ℕ) → Option LineRefusal
keeps_from_moving routes groups = if is_some routes.moving then Some refusals.Moving else if nat_le 8 groups then Some refusals.NoSpare else None

-- the chunk begins to move, where no chunk is moving, and there are fewer than eight groups
abbrev pub begins_move : List Halt → World → (number chunk : ℕ) → WorldTold
begins_move halts w number chunk =
    if is_some w.volume.routes.moving then line_stepped halts w number (volume_quietly w.volume) (line_refusal_text refusals.Moving)
    else if nat_le 8 (length w.volume.chunks) then line_stepped halts w number (volume_quietly w.volume) (line_refusal_text refusals.NoSpare)
    else line_stepped halts w number (chunk_moves chunk (made_group halts w) w.volume) (moving_text (length w.volume.chunks))

abbrev pub move_told : List Halt → World → (number chunk : ℕ) → WorldTold
move_told halts w number chunk =
    if is_of_mounts w.kind then begins_move halts w number chunk else said_only w number (line_refusal_text refusals.Raw)

-- Lines

-- a line of groups that are made, by its number and its command
abbrev pub run_told : List Halt → World → (number : ℕ) → Command → WorldTold
run_told halts w number (commands.Volume chunks sectors names format) = volume_told number (volume_made halts w.sessions chunks sectors names format)
run_told halts w number (commands.Elect g i) = at_chunk halts w number g (λ c. happened halts c (events.Elect i))
run_told halts w number (commands.Resend g i) = at_chunk halts w number g (λ c. happened halts c (events.Resend i))
run_told halts w number (commands.Stop g i) = at_chunk halts w number g (λ c. happened halts c (events.Stop i))
run_told halts w number (commands.Restart g i) = at_chunk halts w number g (λ c. happened halts c (events.Restart i false))
run_told halts w number (commands.Checkpoint g i) = at_chunk halts w number g (λ c. happened halts c (events.Checkpoint i))
run_told halts w number (commands.Deliver g k) = at_chunk halts w number g (λ c. happened halts c (events.Deliver k))
run_told halts w number (commands.Lose g k) = at_chunk halts w number g (λ c. happened halts c (events.Lose k))
run_told halts w number (commands.Submit g i s b n) = submit_told halts w number g i s b n
run_told halts w number (commands.Fetch g i s n) = range_asked halts w number g i s n (fetches halts i s n)
run_told halts w number (commands.Mark g i) = at_chunk halts w number g (λ c. happened halts c (events.Submit i Mark))
run_told halts w number (commands.Settle limit) = settle_told halts w number limit
run_told halts w number (commands.Live g hosts writes workers turns) = live_told halts w number g
run_told halts w number commands.Anchors = anchors_told w number
run_told halts w number commands.Mount = mount_told halts w number
run_told halts w number (commands.Kill m) = kill_told w number m
run_told halts w number (commands.Call m call) = call_told halts w number m call
run_told halts w number (commands.ShowLog g i) = chunk_shown w number g (λ c. text_of_server c.state i log_shown)
run_told halts w number (commands.ShowApplied g i) = chunk_shown w number g (λ c. text_of_server c.state i applied_shown)
run_told halts w number (commands.ShowSectors g i) = chunk_shown w number g (λ c. text_of_server c.state i sectors_shown)
run_told halts w number (commands.ShowAcked g) = chunk_shown w number g (λ c. acked_shown c.state)
run_told halts w number (commands.ShowMark g i s) = chunk_shown w number g (λ c. text_of_server c.state i (mark_shown s))
run_told halts w number (commands.ShowMount m) = show_told w number m
run_told halts w number (commands.Move chunk) = move_told halts w number chunk

-- the kind of the run after a line, also after one that is refused
abbrev pub kind_after : Option Kind → Command → Option Kind
kind_after kind (commands.Submit g i s b n) = Some (kind_decided kind Raw)
kind_after kind (commands.Live g hosts writes workers turns) = Some (kind_decided kind Raw)
kind_after kind commands.Mount = Some (kind_decided kind Mounted)
kind_after kind command = kind

abbrev pub is_made : World → (group : Option ℕ) → Bool
is_made w None = true
is_made w (Some g) = nat_lt g (length w.volume.chunks)

-- a line, by its number and its command: one that names a group that is not made is refused before all else
abbrev pub line_told : List Halt → World → (number : ℕ) → Command → WorldTold
line_told halts w number command =
    if is_made w (group_named command) then run_told halts w number command
    else said_only (record w { kind = kind_after w.kind command }) number (line_refusal_text refusals.NoGroup)
