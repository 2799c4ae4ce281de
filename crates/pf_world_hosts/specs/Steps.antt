-- What happens to a volume on its disks.
use Rattle.std.specs.Prelude.{◌≡◌, ◌≢◌, ℕ, ◌*◌, ◌++◌, ◌<◌, ◌≤◌, IsSome, List, length, Option, Some, None, slice_get}
use Rattle.pf_base.specs.declared.asks.Ask.{Ask}
use Rattle.pf_base.specs.declared.asks.Ask.TheVariants as asks
use Rattle.pf_asks.specs.Ports.{PortIs}
use Rattle.pf_move.specs.declared.mover.MoverAsk.{MoverAsk}
use Rattle.pf_move.specs.declared.mover.MoverAsk.TheVariants.{Reading, Writing}
use Rattle.pf_move.specs.declared.routes.Moving.{Moving}
use Rattle.pf_move.specs.Movers.{MoverIs, piece}
use Rattle.pf_move.specs.Routes.{AreRouted, Between, RoutesIs, between}
use Rattle.pf_mount_host.specs.pf_chunk.specs.Runs.{mover_port}
use Rattle.pf_protocol.specs.declared.answers.Answer.{Answer}
use Rattle.pf_mount_host.specs.pf_group.specs.GroupIs.{state_of}
use Rattle.pf_mount_host.specs.pf_group.specs.Packets.{NoneComesBack}
use Rattle.pf_report.specs.Texts.{answer_text}
use Rattle.pf_volume.specs.Volumes.{Extent, IsVolume}
use Rattle.pf_mount_host.specs.pf_group_rounds.specs.Halts.{Halt}
use Rattle.pf_mount_host.specs.pf_chunk.specs.Steps.{ChunkEvent}
use Rattle.pf_mount_host.specs.pf_chunk.specs.Views.{ChunkIs, run_of}
use Rattle.pf_mount_host.specs.pf_world_moments.specs.Moments.{Moment, moments_text}
use Rattle.pf_mount_host.specs.pf_world_moments.specs.Parts.{AreQuiet, PortIsPending}
use Rattle.pf_mount_host.specs.pf_world_moments.specs.Steps.{AreReady, HaveBegun, HaveGrown, TellsAll, chunk_runs}
use Rattle.pf_journal.specs.declared.layouts.Layout.{Layout}
use Rattle.pf_journal.specs.declared.layouts.Layout.TheVariants.{Three}
use Rattle.pf_journal.specs.Layouts.{HasAnchors, VolumeHasRoom}
use Rattle.pf_mount_host.specs.Hosts.{HostIs, mount_number}
use Rattle.pf_mount_host.specs.Steps.{IsAnchoredHostOf}
use Rattle.pf_world_hosts.specs.Volumes.{Hosts, VolumeTold, VolumeRun, asked_group, volume_happens, host_at}

-- where the journal of a volume lies, its hosts, and how many calls of them were begun; which group serves each chunk, and the mover of the one
-- that is moving
pub record FleetIs : Type 0 where
  pub volume : Extent
  pub layout : Layout
  pub hosts : Hosts
  pub calls : ℕ
  pub routes : RoutesIs
  pub mover : Option MoverIs

-- where a run stands that came to these groups and hosts
abbrev pub volume_stands_at : List Halt → List ChunkIs → FleetIs → VolumeRun
volume_stands_at halts chunks f = record {
  extent = f.volume;
  chunks = chunk_runs halts chunks;
  layout = f.layout;
  hosts = f.hosts;
  routes = f.routes;
  mover = f.mover;
}

-- host m is of this volume
pub record IsHostAt (chunks : List ChunkIs) (f : FleetIs) (m : ℕ) (host : HostIs) : Type 0 where
  pub number : mount_number host.mount ≡ m
  pub volume : host.mount.files.volume ≡ f.volume
  pub is_host : IsAnchoredHostOf f.routes chunks host
  pub calls : host.mount.files.calls ≤ f.calls

-- what the mover asks of its next piece
abbrev pub IsMoverAsk : MoverIs → MoverAsk → Ask → Type 0
IsMoverAsk mover Reading (asks.Read chunk span) = (chunk ≡ mover.chunk) × (span ≡ piece mover.done)
IsMoverAsk mover Writing (asks.Write chunk span sectors) = (chunk ≡ mover.chunk) × (span ≡ piece mover.done)
IsMoverAsk mover asked ask = ⊥

-- the mover waits for the answer of this, which it asked of the group at this place
pub record AwaitsAt (chunks : List ChunkIs) (mover : MoverIs) (asked : MoverAsk) (k : ℕ) : Type 0 where
  pub pends : PortIsPending mover_port k chunks
  pub of_kind : IsMoverAsk mover asked pends.ask

-- it carries the chunk that is moving, and its one ask pends in one of its ports
pub record IsMoverOf (chunks : List ChunkIs) (sectors : ℕ) (moving : Moving) (b : Between) (mover : MoverIs) : Type 0 where
  pub chunk : mover.chunk ≡ moving.chunk
  pub pieces : 8 * mover.pieces ≡ sectors
  pub going : mover.done < mover.pieces
  pub asked : MoverAsk
  pub asks : mover.asked ≡ Some asked
  pub awaits : AwaitsAt chunks mover asked (asked_group b asked)
  pub quiet : (k : ℕ) (c : ChunkIs) → k ≢ asked_group b asked → slice_get chunks k ≡ Some c → (port : PortIs) → slice_get c.ports mover_port ≡ Some port
      → port.ask ≡ None

-- there is a mover exactly while a chunk is moving
abbrev pub HasMover : (chunks : List ChunkIs) → (sectors : ℕ) → Option Moving → Option Between → Option MoverIs → Type 0
HasMover chunks sectors (Some moving) (Some b) (Some mover) = IsMoverOf chunks sectors moving b mover
HasMover chunks sectors None b None = AreQuiet mover_port chunks
HasMover chunks sectors moving b mover = ⊥

-- The hosts are those of a volume of these groups, at most eight: the ports of a mount that was never made have nothing to ask. The ports of a
-- group have nothing to ask whose chunk has moved on
pub record AreHostsOf (chunks : List ChunkIs) (f : FleetIs) : Type 0 where
  pub volume : IsVolume f.volume
  pub groups : length chunks ≤ 8
  pub count : f.volume.chunks ≡ length f.routes.routes
  pub routed : AreRouted (length chunks) f.routes
  pub few : length f.hosts ≤ 16
  pub anchors : f.layout ≡ Three → HasAnchors f.volume
  pub room : length f.hosts ≢ 0 → VolumeHasRoom f.layout f.volume
  pub each : (m : ℕ) (host : HostIs) → host_at f.hosts m ≡ Some host → IsHostAt chunks f m host
  pub free : (m : ℕ) → length f.hosts ≤ m → m < mover_port → AreQuiet m chunks

-- and the mover is that of the chunk that is moving
pub record IsFleetOf (chunks : List ChunkIs) (f : FleetIs) : Type 0 where
  pub are_hosts : AreHostsOf chunks f
  pub mover : HasMover chunks f.volume.sectors f.routes.moving (between f.routes) f.mover

-- what a list of halts makes of a volume
abbrev pub FleetPart : Type 0
FleetPart = List Halt → VolumeRun → VolumeTold

-- under every list of halts that tells of the groups afterwards, the run comes to these chunks and hosts; its lines were put at the end of a buffer
pub record FleetHasGone (part : FleetPart) (old : List ChunkIs) (fleet : FleetIs) (before : List ℕ) (new : List ChunkIs) (next : FleetIs)
    (after : List ℕ) : Type 0 where
  pub ready : AreReady new
  pub is_fleet : IsFleetOf new next
  pub grown : HaveGrown old new
  pub told : List Moment
  pub put : after ≡ before ++ moments_text told
  pub run : (halts : List Halt) → TellsAll halts new → part halts (volume_stands_at halts old fleet)
      ≡ record { volume = volume_stands_at halts new next; told = told }

-- there was no memory for the whole of it: each group stands at a beginning of what would have happened to it
pub record FleetHasStopped (part : FleetPart) (old : List ChunkIs) (fleet : FleetIs) (new : List ChunkIs) : Type 0 where
  pub grown : HaveGrown old new
  pub begun : (halts : List Halt) → TellsAll halts new → HaveBegun halts old (part halts (volume_stands_at halts old fleet)).volume.chunks new

-- no packet of the chunk that is not left comes back, and a settling goes on where it stood
pub record ChunkStays (was is : ChunkIs) : Type 0 where
  pub left : NoneComesBack (state_of was.group) (state_of is.group)
  pub first : is.first_left ≡ was.first_left
  pub next : is.next ≡ was.next

abbrev pub AllStay : (old new : List ChunkIs) → Type 0
AllStay old new = (k : ℕ) (was is : ChunkIs) → slice_get old k ≡ Some was → slice_get new k ≡ Some is → ChunkStays was is

-- The hosts of one fleet are those of the other, but for what they did: none comes and none goes, and no call begins. (A move may end)
pub record AreSameHosts (f g : FleetIs) : Type 0 where
  pub volume : g.volume ≡ f.volume
  pub layout : g.layout ≡ f.layout
  pub count : length g.hosts ≡ length f.hosts
  pub calls : g.calls ≡ f.calls

-- an event of group k, and then a step of each host and of the mover
pub record FleetHasAnswered (event : ChunkEvent) (k : ℕ) (old : List ChunkIs) (fleet : FleetIs) (before : List ℕ) (answer : Answer) (new : List ChunkIs)
    (next : FleetIs) (after : List ℕ) : Type 0 where
  pub was : ChunkIs
  pub there : slice_get old k ≡ Some was
  pub answered : (halts : List Halt) → TellsAll halts new → (event halts (run_of halts was)).answer ≡ answer
  pub said : IsSome (answer_text answer)
  pub went : FleetHasGone (λ halts v. volume_happens halts v (event halts (run_of halts was))) old fleet before new next after

-- there was no memory for the whole of it
pub record HasNotAnswered (event : ChunkEvent) (k : ℕ) (old : List ChunkIs) (fleet : FleetIs) (new : List ChunkIs) : Type 0 where
  pub was : ChunkIs
  pub there : slice_get old k ≡ Some was
  pub stopped : FleetHasStopped (λ halts v. volume_happens halts v (event halts (run_of halts was))) old fleet new
