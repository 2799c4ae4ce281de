-- What a step of a host over a layout comes to, over the groups of its volume.
use Rattle.std.specs.Prelude.{◌≡◌, ◌≢◌, ℕ, ◌++◌, List, length, Some, None, slice_get}
use Rattle.pf_base.specs.declared.asks.Ask.{Ask}
use Rattle.pf_base.specs.Asks.{chunk_of}
use Rattle.pf_asks.specs.Ports.{PortIs}
use Rattle.pf_mount.specs.Mounts.{MountIs}
use Rattle.pf_mount.specs.Standing.{Awaits}
use Rattle.pf_world_moments.specs.pf_group_rounds.specs.Halts.{Halt}
use Rattle.pf_world_moments.specs.pf_chunk.specs.Runs.{ChunkRun}
use Rattle.pf_world_moments.specs.pf_chunk.specs.Views.{ChunkIs}
use Rattle.pf_move.specs.Routes.{AreRouted, RoutesIs, home_of_chunk}
use Rattle.pf_world_moments.specs.Moments.{Moment, moments_text}
use Rattle.pf_world_moments.specs.Steps.{AreReady, HaveBegun, HaveGone, HaveGrown, TellsAll, chunk_runs}
use Rattle.pf_mount_host.specs.Hosts.{HostIs, Stepped, mount_number, pending_at, stepped}

-- the group that has the asks for the chunk has this one of the mount, which waits for it at this port
pub record IsAskingAt (routes : RoutesIs) (chunks : List ChunkIs) (mount : MountIs) (port chunk : ℕ) : Type 0 where
  pub k : ℕ
  pub home : home_of_chunk routes chunk ≡ Some k
  pub c : ChunkIs
  pub there : slice_get chunks k ≡ Some c
  pub its : PortIs
  pub its_there : slice_get c.ports (mount_number mount) ≡ Some its
  pub ask : Ask
  pub pending : its.ask ≡ Some ask
  pub of_chunk : chunk_of ask ≡ chunk
  pub awaits : Awaits mount port (Some ask)

-- the mount's port into this group has nothing to ask
abbrev pub IsQuiet : MountIs → ChunkIs → Type 0
IsQuiet mount c = (port : PortIs) → slice_get c.ports (mount_number mount) ≡ Some port → port.ask ≡ None

-- Each port of the host has one ask at most, which pends in the group that has the asks for its chunk; no two of them ask for one chunk, and no
-- other group has an ask of it
pub record IsAnchoredHostOf (routes : RoutesIs) (chunks : List ChunkIs) (host : HostIs) : Type 0 where
  pub volume : host.mount.files.volume.chunks ≡ length routes.routes
  pub ports : length host.at ≡ 4
  pub asking : (port chunk : ℕ) → pending_at host port ≡ Some chunk → IsAskingAt routes chunks host.mount port chunk
  pub apart : (port other chunk : ℕ) → pending_at host port ≡ Some chunk → pending_at host other ≡ Some chunk → port ≡ other
  pub quiet : (k : ℕ) (c : ChunkIs) → ((port chunk : ℕ) → pending_at host port ≡ Some chunk → home_of_chunk routes chunk ≢ Some k) → slice_get chunks k ≡ Some c
      → IsQuiet host.mount c

-- the groups stand between two events, and the host is one of their volume
pub record AreReadyFor (routes : RoutesIs) (chunks : List ChunkIs) (host : HostIs) : Type 0 where
  pub ready : AreReady chunks
  pub routed : AreRouted (length chunks) routes
  pub is_host : IsAnchoredHostOf routes chunks host

-- what a list of halts makes of a host and the groups
abbrev pub HostPart : Type 0
HostPart = List Halt → RoutesIs → List ChunkRun → HostIs → Stepped

-- under every list of halts that tells of the groups afterwards, the part comes to these, and what it tells; its lines were put at the end of a buffer
pub record HasDone (part : HostPart) (routes : RoutesIs) (old : List ChunkIs) (before : List ℕ) (host : HostIs) (new : List ChunkIs) (after : List ℕ)
    (next : HostIs) : Type 0 where
  pub ready : AreReady new
  pub gone : HaveGone (mount_number host.mount) old new
  pub is_host : IsAnchoredHostOf routes new next
  pub number : mount_number next.mount ≡ mount_number host.mount
  pub layout : next.mount.position.layout ≡ host.mount.position.layout
  pub volume : next.mount.files.volume ≡ host.mount.files.volume
  pub calls : next.mount.files.calls ≡ host.mount.files.calls
  pub told : List Moment
  pub put : after ≡ before ++ moments_text told
  pub run : (halts : List Halt) → TellsAll halts new → part halts routes (chunk_runs halts old) host
      ≡ record { chunks = chunk_runs halts new; host = next; told = told }

-- there was no memory for the whole of it: each group stands at a beginning of what would have happened to it
pub record HasNotDone (part : HostPart) (routes : RoutesIs) (old : List ChunkIs) (host : HostIs) (new : List ChunkIs) : Type 0 where
  pub grown : HaveGrown old new
  pub begun : (halts : List Halt) → TellsAll halts new → HaveBegun halts old (part halts routes (chunk_runs halts old) host).chunks new

-- a step
abbrev pub HostHasStepped : (routes : RoutesIs) (old : List ChunkIs) (before : List ℕ) (host : HostIs) (new : List ChunkIs) (after : List ℕ) (next : HostIs)
    → Type 0
HostHasStepped routes old before host new after next = HasDone (λ halts r chunks h. stepped halts r chunks h) routes old before host new after next

abbrev pub HasNotStepped : (routes : RoutesIs) (old : List ChunkIs) (host : HostIs) (new : List ChunkIs) → Type 0
HasNotStepped routes old host new = HasNotDone (λ halts r chunks h. stepped halts r chunks h) routes old host new
