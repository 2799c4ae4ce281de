-- Calls that are started as words, and why one is not.
use Rattle.std.specs.Prelude.{ℕ, List}
use Rattle.pf_base.specs.declared.calls.Call.{Call}
use Rattle.pf_tree.specs.Calls.{FileCall}
use Rattle.pf_layout.specs.Calls.{IsReadAs}
use Rattle.pf_layout.specs.declared.faults.PathFault.{PathFault}
use Rattle.pf_layout.specs.declared.faults.PathFault.TheVariants as paths
use Rattle.pf_mount.specs.declared.faults.StartFault.{StartFault}
use Rattle.pf_mount.specs.declared.faults.StartFault.TheVariants as starts

-- a word of the call spells no path, or `/` where that cannot be meant
abbrev pub IsMisspelled : Call (List ℕ) → Type 0
IsMisspelled call = (file : FileCall) → IsReadAs call file → ⊥

abbrev pub start_number : StartFault → ℕ
start_number starts.NoMemory = 1
start_number starts.BadName = 80
start_number starts.CallPending = 91

-- why a call is not started whose paths are not read
abbrev pub unread : PathFault → StartFault
unread paths.NoMemory = starts.NoMemory
unread paths.BadName = starts.BadName
