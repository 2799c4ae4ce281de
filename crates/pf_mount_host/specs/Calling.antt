-- How mounts over a layout come, and how their calls begin.
use Rattle.std.specs.Prelude.{◌≡◌, ℕ, suc, ◌++◌, List, Some}
use Rattle.pf_base.specs.declared.calls.Call.{Call}
use Rattle.pf_tree.specs.Calls.{FileCall}
use Rattle.pf_mount.specs.declared.faults.StartFault.{StartFault}
use Rattle.pf_mount.specs.declared.faults.StartFault.TheVariants.{NoMemory, BadName, CallPending}
use Rattle.pf_world_moments.specs.pf_chunk.specs.Runs.{ChunkRun}
use Rattle.pf_world_moments.specs.pf_chunk.specs.Views.{ChunkIs}
use Rattle.pf_move.specs.Routes.{RoutesIs}
use Rattle.pf_world_moments.specs.Moments.{Moment, moments_text}
use Rattle.pf_world_moments.specs.Words.{read_call}
use Rattle.pf_mount_host.specs.Hosts.{HostIs, call_begun, mount_number}
use Rattle.pf_mount_host.specs.Steps.{IsAnchoredHostOf}

-- a call began, with its paths read; no group is touched
pub record HasBegunCall (call : Call (List ℕ)) (before : List ℕ) (host : HostIs) (after : List ℕ) (next : HostIs) : Type 0 where
  pub file : FileCall
  pub read : read_call call ≡ Some file
  pub is_host : (routes : RoutesIs) (chunks : List ChunkIs) → IsAnchoredHostOf routes chunks host → IsAnchoredHostOf routes chunks next
  pub number : mount_number next.mount ≡ mount_number host.mount
  pub layout : next.mount.position.layout ≡ host.mount.position.layout
  pub volume : next.mount.files.volume ≡ host.mount.files.volume
  pub calls : next.mount.files.calls ≡ suc host.mount.files.calls
  pub told : List Moment
  pub put : after ≡ before ++ moments_text told
  pub run : (chunks : List ChunkRun) → call_begun chunks host file ≡ record { chunks = chunks; host = next; told = told }

-- a refusal leaves the host as it was
abbrev pub StartRefuses : StartFault → (old new : HostIs) → Type 0
StartRefuses NoMemory old new = Unit {0}
StartRefuses BadName old new = new ≡ old
StartRefuses CallPending old new = new ≡ old
