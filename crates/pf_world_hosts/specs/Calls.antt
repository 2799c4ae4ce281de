-- How hosts come, begin calls and go.
use Rattle.std.specs.Prelude.{◌≡◌, ◌≢◌, ℕ, suc, [], List, length, None, Some}
use Rattle.pf_base.specs.declared.calls.Call.{Call}
use Rattle.pf_tree.specs.Calls.{FileCall}
use Rattle.pf_mount.specs.declared.faults.StartFault.{StartFault}
use Rattle.pf_mount.specs.declared.faults.StartFault.TheVariants as starts
use Rattle.pf_mount.specs.declared.work.MountWork.TheVariants.{Rests}
use Rattle.pf_mount.specs.Starts.{start_number}
use Rattle.pf_report.specs.Refusals.{line_refusal_number}
use Rattle.pf_report.specs.declared.refusals.LineRefusal.TheVariants as refusals
use Rattle.pf_mount_host.specs.pf_world_moments.specs.Words.{read_call}
use Rattle.pf_mount_host.specs.pf_chunk.specs.Views.{ChunkIs}
use Rattle.pf_world_hosts.specs.declared.faults.HostCallFault.{HostCallFault}
use Rattle.pf_world_hosts.specs.declared.faults.HostCallFault.TheVariants.{NoMemory, BadName, CallPending, NoMount}
use Rattle.pf_world_hosts.specs.declared.faults.JoinFault.{JoinFault}
use Rattle.pf_world_hosts.specs.declared.faults.JoinFault.TheVariants.{NoMemory as NoMemoryToJoin, MountsFull, SmallVolume}
use Rattle.pf_journal.specs.declared.layouts.Layout.TheVariants.{Plain, Three}
use Rattle.pf_journal.specs.Layouts.{HasAnchors}
use Rattle.pf_mount_host.specs.Hosts.{HostIs}
use Rattle.pf_world_hosts.specs.Steps.{FleetIs, FleetHasGone, IsFleetOf}
use Rattle.pf_world_hosts.specs.Volumes.{begins, host_at, mounts as comes}

abbrev pub call_number : HostCallFault → ℕ
call_number NoMemory = 1
call_number BadName = start_number starts.BadName
call_number CallPending = start_number starts.CallPending
call_number NoMount = line_refusal_number refusals.NoMount

abbrev pub join_number : JoinFault → ℕ
join_number NoMemoryToJoin = 1
join_number MountsFull = line_refusal_number refusals.MountsFull
join_number SmallVolume = line_refusal_number refusals.SmallVolume

-- a call that is not started is none of the host
abbrev pub call_fault : StartFault → HostCallFault
call_fault starts.NoMemory = NoMemory
call_fault starts.BadName = BadName
call_fault starts.CallPending = CallPending

-- a host came, with the next number; nothing was written
pub record HasJoined (old : List ChunkIs) (fleet : FleetIs) (number : ℕ) (new : List ChunkIs) (next : FleetIs) : Type 0 where
  pub number_is : number ≡ length fleet.hosts
  pub went : FleetHasGone (λ halts v. comes v) old fleet [] new next []
  pub layout : next.layout ≡ fleet.layout
  pub count : length next.hosts ≡ suc (length fleet.hosts)
  pub volume : next.volume ≡ fleet.volume
  pub routes : (next.routes ≡ fleet.routes) × (next.mover ≡ fleet.mover)
  pub calls : next.calls ≡ fleet.calls

-- the journal lies on three anchors from here on; no host was made
pub record HasAnchored (fleet next : FleetIs) : Type 0 where
  pub none : fleet.hosts ≡ []
  pub before : fleet.layout ≡ Plain
  pub room : HasAnchors fleet.volume
  pub is : next ≡ record fleet { layout = Three }
  pub still : (chunks : List ChunkIs) → IsFleetOf chunks fleet → IsFleetOf chunks next

-- a call of host m began, with its paths read
pub record HasCalled (m : ℕ) (call : Call (List ℕ)) (old : List ChunkIs) (fleet : FleetIs) (before : List ℕ) (new : List ChunkIs) (next : FleetIs)
    (after : List ℕ) : Type 0 where
  pub host : HostIs
  pub there : host_at fleet.hosts m ≡ Some host
  pub rests : host.mount.task.work ≡ Rests
  pub file : FileCall
  pub read : read_call call ≡ Some file
  pub went : FleetHasGone (λ halts v. begins m host file v) old fleet before new next after
  pub layout : next.layout ≡ fleet.layout
  pub count : length next.hosts ≡ length fleet.hosts
  pub volume : next.volume ≡ fleet.volume
  pub routes : (next.routes ≡ fleet.routes) × (next.mover ≡ fleet.mover)
  pub calls : next.calls ≡ suc fleet.calls

-- the cause of each refusal
abbrev pub IsCause : HostCallFault → (m : ℕ) → Call (List ℕ) → FleetIs → Type 0
IsCause NoMemory m call f = (host : HostIs) × (host_at f.hosts m ≡ Some host)
IsCause BadName m call f = (host : HostIs) × (host_at f.hosts m ≡ Some host) × (host.mount.task.work ≡ Rests) × (read_call call ≡ None)
IsCause CallPending m call f = (host : HostIs) × (host_at f.hosts m ≡ Some host) × (host.mount.task.work ≢ Rests)
IsCause NoMount m call f = host_at f.hosts m ≡ None
