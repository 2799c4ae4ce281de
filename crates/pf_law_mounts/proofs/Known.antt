-- What is known of a run: what came to its mounts, and how its chunks were served.
use Rattle.std.proofs.Common.{◌≡◌, ◌≢◌, ℕ, suc, ◌<◌, ◌≤◌, List, [], ◌∷◌, length, take, Option, Some, None, slice_get}
use Rattle.pf_journal.specs.declared.layouts.Layout.{Layout}
use Rattle.pf_journal.specs.declared.layouts.Layout.TheVariants.{Three}
use Rattle.pf_base.specs.Asks.{chunk_of}
use Rattle.pf_volume.specs.Volumes.{Extent}
use Rattle.pf_protocol.specs.Histories.{replay}
use Rattle.pf_law_positions.specs.Deeds.{Deed, Submits}
use Rattle.pf_law_runs.specs.pf_law_service.specs.Services as services
use Rattle.pf_law_runs.specs.pf_law_service.specs.Services.{Service, epoch_of_now}
use Rattle.pf_law_runs.specs.pf_law_service.specs.Served.{AreLegal, ChunkIsServed}
use Rattle.pf_journal.specs.Layouts.{VolumeHasRoom, layout_of}
use Rattle.pf_mount.specs.Standing.{Awaits}
use Rattle.pf_law_calls.specs.Lives.{Life, lives, opened}
use Rattle.pf_law_events.specs.Events.{MountsAreServed, Happening, port_events, events_with, mounts_told}
use Rattle.pf_law_homes.specs.Ports.{Matter, PortOwed, Pending, PortEvent, deeds_from, deeds_on, nothing_pending, pending_after}
use Rattle.pf_law_calls.proofs.Layouts.{Lies}
use Rattle.pf_law_calls.specs.Spelled.{CanAllBeSpelled}
use Rattle.pf_law_calls.specs.Trees.{calls_of}
use Rattle.pf_law_mounts.specs.Told.{inputs_in}
use Rattle.pf_law_mounts.proofs.Causes.{HaveCauses}
use Rattle.pf_law_mounts.proofs.WaitingAsks.{IsAwaited}
use Rattle.pf_law_runs.specs.pf_world.specs.pf_chunk.specs.Runs.{ChunkRun, mover_port}
use Rattle.pf_law_runs.specs.pf_world.specs.pf_world_moments.specs.Moments.{Hands, Moment}
use Rattle.pf_law_runs.specs.pf_world.specs.pf_mount_host.specs.Hosts.{HostIs, mount_number, pending_at}
use Rattle.pf_law_runs.specs.pf_world.specs.pf_world_hosts.specs.Volumes.{VolumeRun, host_at}
use Rattle.pf_law_runs.specs.pf_law_movers.specs.Epochs.{epoch_of, group_of_epoch, groups_in_turn}
use Rattle.pf_law_runs.specs.pf_law_movers.specs.Handing.{reached}

-- what each port of each mount has pending
abbrev pub pending_from : Pending → List PortEvent → Pending
pending_from pending [] = pending
pending_from pending (event ∷ events) = pending_from (pending_after pending event) events

abbrev pub owed_of : Layout → Extent → List Happening → Pending
owed_of layout v hs = pending_from nothing_pending (port_events layout v hs)

-- what a happening is at a chunk
abbrev pub deeds_by : Layout → Extent → List Happening → Happening → (chunk : ℕ) → List Deed
deeds_by layout v hs x chunk = deeds_from chunk (owed_of layout v hs) (events_with (lives layout v (mounts_told hs)) (x ∷ []))

-- the group of an epoch of the chunk
pub record IsGroupOf (chunks : List ChunkRun) (told : List Moment) (chunk : ℕ) (s : Service) (epoch : ℕ) : Type 0 where
  pub k : ℕ
  pub at : group_of_epoch told chunk epoch ≡ Some k
  pub c : ChunkRun
  pub there : slice_get chunks k ≡ Some c
  pub setup : c.group.setup ≡ s.setup epoch
  pub history : c.group.history ≡ s.history epoch
  pub stands : c.group.state ≡ replay c.group.setup c.group.history

-- a mount's port handed something on to the group of this epoch, by the event at this place
pub record IsHandedBy (chunk epoch place : ℕ) (ds : List Deed) : Type 0 where
  pub moment : ℕ
  pub client : ℕ
  pub at : slice_get ds moment ≡ Some (Submits client chunk epoch place)

-- by this moment of the run the group of this epoch served the chunk, and what was told of it before lies before it began to serve
pub record HasBegun (told : List Moment) (chunk k epoch since : ℕ) : Type 0 where
  pub q : ℕ
  pub low : q ≤ length told
  pub serves : epoch ≤ epoch_of (take q told) chunk
  pub reached : reached k (take q told) ≤ since

-- A chunk of the run, as its service has it: its groups in their epochs, and the ports of mounts into the last one. Whatever a mount's port was told
-- to have handed on is a deed. What the mover read was taken up after the asks had left; and once a group serves, all that was told of it
-- before has happened
pub record IsServing (chunks : List ChunkRun) (told : List Moment) (chunk : ℕ) (s : Service) (ds : List Deed) : Type 0 where
  pub turns : length (groups_in_turn told chunk) ≡ suc s.epoch
  pub epochs : epoch_of told chunk ≡ epoch_of_now s
  pub groups : (epoch : ℕ) → epoch ≤ s.epoch → IsGroupOf chunks told chunk s epoch
  pub ports : (m k : ℕ) (c : ChunkRun) → m < mover_port → group_of_epoch told chunk s.epoch ≡ Some k → slice_get chunks k ≡ Some c → slice_get c.ports m ≡ Some (s.port m)
  pub handed : (q m k place epoch : ℕ) → slice_get told q ≡ Some (Hands m k place) → m < mover_port → epoch ≤ s.epoch → group_of_epoch told chunk epoch ≡ Some k → IsHandedBy chunk epoch place ds
  pub left : (q k place epoch : ℕ) → slice_get told q ≡ Some (Hands mover_port k place) → epoch < s.epoch → group_of_epoch told chunk epoch ≡ Some k → suc epoch < length (groups_in_turn (take q told) chunk) → s.left epoch ≤ place
  pub since : (k epoch : ℕ) → suc epoch ≤ epoch_of_now s → group_of_epoch told chunk (suc epoch) ≡ Some k → HasBegun told chunk k (suc epoch) (s.since (suc epoch))

-- what is pending at a port of a host is pending in the port of its mount at this chunk
pub record IsAskedAt (service : ℕ → Service) (owed : (port : ℕ) → Option PortOwed) (m port chunk : ℕ) : Type 0 where
  pub owes : services.Owed
  pub matter : Matter
  pub is : (service chunk).owed m ≡ Some owes
  pub pending : ((service chunk).port m).ask ≡ Some owes.ask
  pub same : owed port ≡ Some (record { client = owes.client; ask = owes.ask; matter = matter })
  pub of : chunk_of owes.ask ≡ chunk

-- a port to each anchor, and one for file data
abbrev pub ports_in : Layout → ℕ
ports_in layout = suc (length (layout_of layout).anchors)

-- A host of number m is the mount of this life. Asks are pending at ports of its layout alone. No two of these ask for one chunk, and where none of
-- them asks for a chunk, nothing is pending in the mount's port there. The mount awaits each answer to what a port has pending. (What lies outside
-- the volume waits for ever, and no group has it)
pub record IsHostOf (layout : Layout) (e : Extent) (service : ℕ → Service) (owed : (port : ℕ) → Option PortOwed) (life : Life) (m : ℕ) (host : HostIs) : Type 0 where
  pub number : mount_number host.mount ≡ m
  pub volume : host.mount.files.volume ≡ e
  pub laid : Lies layout host.mount
  pub first : host.mount.files.first ≡ (layout_of layout).first
  pub waits : IsAwaited host.mount.files.volume host.mount.task.work host.mount.task.ask
  pub mount : host.mount ≡ life.mount
  pub four : length host.at ≡ 4
  pub low : (port chunk : ℕ) → pending_at host port ≡ Some chunk → port < ports_in layout
  pub one : (port other chunk : ℕ) → pending_at host port ≡ Some chunk → pending_at host other ≡ Some chunk → port ≡ other
  pub awaits : (port : ℕ) (its : PortOwed) → owed port ≡ Some its → Awaits host.mount port (Some its.ask)
  pub asks : (port chunk : ℕ) → chunk < e.chunks → pending_at host port ≡ Some chunk → IsAskedAt service owed m port chunk
  pub quiet : (chunk : ℕ) → chunk < e.chunks → ((port : ℕ) → pending_at host port ≢ Some chunk) → ((service chunk).port m).ask ≡ None

-- no group has two chunks or two epochs
abbrev pub AreApart : (count : ℕ) → List Moment → Type 0
AreApart count told =
    (chunk other epoch by k : ℕ) → chunk < count → other < count → group_of_epoch told chunk epoch ≡ Some k → group_of_epoch told other by ≡ Some k → (chunk ≡ other) × (epoch ≡ by)

-- What came to the mounts, how each chunk was served, and the deeds there, which are those of what came. So it is by all that was told: that tells
-- what came, and each answer in it has its cause there. Each mount has begun at most so many calls, as words have them. Where the groups are
-- legal, each reply was one. The volume has room for its journal once that lies on anchors, or a mount was made; before nothing came
pub record IsKnown (calls : ℕ) (v : VolumeRun) (told : List Moment) : Type 0 where
  pub happenings : List Happening
  pub service : (chunk : ℕ) → Service
  pub deeds : (chunk : ℕ) → List Deed
  pub few : length v.hosts ≤ 16
  pub room : 0 < length v.hosts → VolumeHasRoom v.layout v.extent
  pub anchors : v.layout ≡ Three → VolumeHasRoom Three v.extent
  pub none_yet : length v.hosts ≡ 0 → happenings ≡ []
  pub told_are : mounts_told happenings ≡ inputs_in told
  pub causes : HaveCauses v.layout v.extent [] told
  pub spelled : CanAllBeSpelled (mounts_told happenings)
  pub few_calls : (m : ℕ) → length (calls_of (mounts_told happenings) m) ≤ calls
  pub apart : AreApart v.extent.chunks told
  pub served : (chunk : ℕ) → chunk < v.extent.chunks → ChunkIsServed chunk (service chunk) (deeds chunk)
  pub same : (chunk : ℕ) → chunk < v.extent.chunks → deeds chunk ≡ deeds_on (port_events v.layout v.extent happenings) chunk
  pub serving_so : (chunk : ℕ) → chunk < v.extent.chunks → IsServing v.chunks told chunk (service chunk) (deeds chunk)
  pub host_so : (m : ℕ) (host : HostIs) → host_at v.hosts m ≡ Some host → IsHostOf v.layout v.extent service (owed_of v.layout v.extent happenings m) (lives v.layout v.extent (mounts_told happenings) m) m host
  pub fresh : (m : ℕ) → length v.hosts ≤ m → lives v.layout v.extent (mounts_told happenings) m ≡ opened v.layout m v.extent
  pub unasked : (m chunk : ℕ) → length v.hosts ≤ m → chunk < v.extent.chunks → ((service chunk).port m).ask ≡ None
  pub unowed : (m port : ℕ) → length v.hosts ≤ m → owed_of v.layout v.extent happenings m port ≡ None
  pub answered : ((chunk : ℕ) → chunk < v.extent.chunks → AreLegal (service chunk)) → MountsAreServed v.layout v.extent happenings
