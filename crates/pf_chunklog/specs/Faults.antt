-- The numbers of faults in reports.
use Rattle.std.specs.Prelude.{ℕ}
use Rattle.pf_chunklog.specs.declared.errors.AppendFault.{AppendFault}
use Rattle.pf_chunklog.specs.declared.errors.AppendFault.TheVariants.{DiskFault, LogFull}
use Rattle.pf_chunklog.specs.declared.errors.OpenFault.{OpenFault}
use Rattle.pf_chunklog.specs.declared.errors.OpenFault.TheVariants as open_fault

abbrev pub append_fault_number : AppendFault → ℕ
append_fault_number DiskFault = 40
append_fault_number LogFull = 41

abbrev pub open_number_of : OpenFault → ℕ
open_number_of open_fault.NoMemory = 1
open_number_of open_fault.DiskFault = 40
open_number_of open_fault.NotOurs = 42
