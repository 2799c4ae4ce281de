-- What holds of a new volume, and is kept by all that lines and hosts do to one, holds of the run of every script.
use Rattle.std.proofs.Common.{◌≡◌, ℕ, true, false, List, [], ◌∷◌, ◌++◌, length, Option, Some, None, slice_get}
use Rattle.std.specs.Prelude.{nat_le, nat_lt}
use Rattle.std.specs.Option.{is_some}
use Rattle.pf_base.specs.Span.{Span}
use Rattle.pf_base.specs.declared.calls.Call.{Call}
use Rattle.pf_entry.specs.declared.ops.Op.{Op}
use Rattle.pf_protocol.specs.declared.events.Event.{Event}
use Rattle.pf_protocol.specs.declared.events.Event.TheVariants as events
use Rattle.pf_volume.specs.Volumes.{size_of}
use Rattle.pf_journal.specs.declared.layouts.Layout.TheVariants.{Plain}
use Rattle.pf_tree.specs.Calls.{FileCall}
use Rattle.pf_world.specs.pf_group_rounds.specs.Halts.{Halt}
use Rattle.pf_world.specs.pf_chunk.specs.Asking.{fetched}
use Rattle.pf_world.specs.pf_chunk.specs.Happenings.{happened}
use Rattle.pf_world.specs.pf_chunk.specs.Lending.{all_happened}
use Rattle.pf_world.specs.pf_chunk.specs.Runs.{ChunkRun}
use Rattle.pf_world.specs.pf_world_moments.specs.Moments.{Moment, Writes}
use Rattle.pf_world.specs.pf_mount_host.specs.Hosts.{HostIs}
use Rattle.pf_world.specs.pf_mount_host.specs.Hosts as hosts
use Rattle.pf_world.specs.pf_world_moments.specs.Words.{read_call}
use Rattle.pf_world.specs.pf_world_hosts.specs.Volumes.{VolumeRun, anchors, begins, host_at, killed, mounts, mover_steps, chunk_moves, with_chunk, with_host}
use Rattle.pf_world.specs.declared.kind.Kind.{Kind}
use Rattle.pf_world.specs.declared.kind.Kind.TheVariants.{Mounted, Raw}
use Rattle.pf_world.specs.pf_live_session.specs.Sessions.{Session}
use Rattle.pf_world.specs.declared.line.Line.{Line}
use Rattle.pf_world.specs.Worlds.{volume_made}
use Rattle.pf_world.specs.Lines.{lacks_anchors, rests}
use Rattle.pf_world.specs.Reports.{world_run}
use Rattle.pf_law_runs.specs.Scripts.{IsScript}
pub use Rattle.pf_law_runs.proofs.LineCounts.{IsKeptCounted, new_group, running_counted}
use Rattle.pf_law_movers.proofs.WriteEvents.{IsNoWrite}

-- A property of a run's kind, its volume and all that was told so far is kept where the kind is decided, by lines of text, by an event of a chunk, by a
-- write that a line submits or a session of threads in a raw run, by a read that a line takes up, by the step of a host or of the mover, where a host
-- comes in a run with mounts, begins the call of words or goes, where a chunk begins to move to a new group, and where the journal comes to lie on
-- three anchors, as no mount was made and they have room
pub record IsKeptThrough (halts : List Halt) (P : Option Kind → VolumeRun → List Moment → Type 0) : Type 0 where
  pub deciding : (kind : Kind) (v : VolumeRun) (told : List Moment) → P None v told → P (Some kind) v told
  pub writing : (kind : Option Kind) (v : VolumeRun) (told : List Moment) (text : List ℕ) → P kind v told → P kind v (told ++ Writes text ∷ [])
  pub happening : (kind : Option Kind) (v : VolumeRun) (told : List Moment) (k : ℕ) (c : ChunkRun) (event : Event) → slice_get v.chunks k ≡ Some c → IsNoWrite event → P kind v told → P kind (with_chunk v (happened halts c event).chunk) told
  pub submitting : (v : VolumeRun) (told : List Moment) (k : ℕ) (c : ChunkRun) (server : ℕ) (op : Op) → slice_get v.chunks k ≡ Some c → P (Some Raw) v told
      → P (Some Raw) (with_chunk v (happened halts c (events.Submit server op)).chunk) told
  pub threading : (v : VolumeRun) (told : List Moment) (k : ℕ) (c : ChunkRun) (its : List Event) → slice_get v.chunks k ≡ Some c → P (Some Raw) v told → P (Some Raw) (with_chunk v (all_happened halts its c).chunk) told
  pub reading : (kind : Option Kind) (v : VolumeRun) (told : List Moment) (k : ℕ) (c : ChunkRun) (server : ℕ) (range : Span) → slice_get v.chunks k ≡ Some c → P kind v told → P kind (with_chunk v (fetched halts server range c).chunk) told
  pub stepping : (kind : Option Kind) (v : VolumeRun) (told : List Moment) (m : ℕ) (host : HostIs) → host_at v.hosts m ≡ Some host → P kind v told
      → P kind (with_host v m (hosts.stepped halts v.routes v.chunks host)).volume (told ++ (hosts.stepped halts v.routes v.chunks host).told)
  pub carrying : (kind : Option Kind) (v : VolumeRun) (told : List Moment) → P kind v told → P kind (mover_steps halts v).volume (told ++ (mover_steps halts v).told)
  pub moving : (v : VolumeRun) (told : List Moment) (names format chunk : ℕ) → is_some v.routes.moving ≡ false → nat_le 8 (length v.chunks) ≡ false → P (Some Mounted) v told
      → P (Some Mounted) (chunk_moves chunk (new_group halts v names format) v).volume (told ++ (chunk_moves chunk (new_group halts v names format) v).told)
  pub mounting : (v : VolumeRun) (told : List Moment) → nat_lt (size_of v.extent) 4112 ≡ false → nat_le 16 (length v.hosts) ≡ false → P (Some Mounted) v told → P (Some Mounted) (mounts v).volume (told ++ (mounts v).told)
  pub beginning : (kind : Option Kind) (v : VolumeRun) (told : List Moment) (m : ℕ) (host : HostIs) (words : Call (List ℕ)) (call : FileCall) → host_at v.hosts m ≡ Some host → rests host.mount.task.work ≡ true → read_call words ≡ Some call → P kind v told
      → P kind (begins m host call v).volume (told ++ (begins m host call v).told)
  pub killing : (kind : Option Kind) (v : VolumeRun) (told : List Moment) (m : ℕ) (host : HostIs) → host_at v.hosts m ≡ Some host → P kind v told → P kind (killed m v) told
  pub anchoring : (kind : Option Kind) (v : VolumeRun) (told : List Moment) → v.layout ≡ Plain → length v.hosts ≡ 0 → lacks_anchors v.extent ≡ false → P kind v told → P kind (anchors v) told

-- what does not count is kept at any count
at_any_count : (halts : List Halt) (P : Option Kind → VolumeRun → List Moment → Type 0) → IsKeptThrough halts P → IsKeptCounted halts (λ n. P)
at_any_count halts P kept = record {
  more = λ n kind v told is. is;
  deciding = λ n. kept.deciding;
  writing = λ n. kept.writing;
  happening = λ n. kept.happening;
  submitting = λ n. kept.submitting;
  threading = λ n. kept.threading;
  reading = λ n. kept.reading;
  stepping = λ n. kept.stepping;
  carrying = λ n. kept.carrying;
  moving = λ n. kept.moving;
  mounting = λ n. kept.mounting;
  beginning = λ n. kept.beginning;
  killing = λ n. kept.killing;
  anchoring = λ n. kept.anchoring;
}

pub running_through : (halts : List Halt) (P : Option Kind → VolumeRun → List Moment → Type 0) → IsKeptThrough halts P → ((sessions : List Session) (chunks sectors names format : ℕ) → P None (volume_made halts sessions chunks sectors names format).volume [])
    → (sessions : List Session) (lines : List Line) → IsScript lines → P (world_run halts sessions lines).world.kind (world_run halts sessions lines).world.volume (world_run halts sessions lines).told
running_through halts P kept = running_counted halts (λ n. P) (at_any_count halts P kept)
