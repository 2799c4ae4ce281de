-- Why a server does not begin again.
use Rattle.pf_server_store.specs.declared.faults.ReloadFault.{ReloadFault}
use Rattle.pf_server_store.specs.declared.faults.ReloadFault.TheVariants.{NoMemory, DiskFault, NotOurs}
use Rattle.pf_server_restart.specs.declared.faults.RestartFault.{RestartFault}
use Rattle.pf_server_restart.specs.declared.faults.RestartFault.TheVariants.{NoMemory as WantsMemory, ReadHalted, SaveHalted, NotOurs as IsNotOurs}

-- what records that could not be read come to
abbrev pub restart_fault_of : ReloadFault → RestartFault
restart_fault_of NoMemory = WantsMemory
restart_fault_of DiskFault = ReadHalted
restart_fault_of NotOurs = IsNotOurs

-- a disk failed
abbrev pub IsHalt : RestartFault → Type 0
IsHalt ReadHalted = Unit {0}
IsHalt (SaveHalted reading) = Unit {0}
IsHalt _ = ⊥

-- it came before the store went on from what was found
abbrev pub IsEarly : RestartFault → Type 0
IsEarly (SaveHalted reading) = ⊥
IsEarly _ = Unit {0}
