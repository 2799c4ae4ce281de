-- The numbers of what a look is refused with.
use Rattle.std.specs.Prelude.{ℕ}
use Rattle.pf_live_looks.specs.declared.errors.LookFault.{LookFault}
use Rattle.pf_live_looks.specs.declared.errors.LookFault.TheVariants.{Down, NoMemory}

abbrev pub look_fault_number : LookFault → ℕ
look_fault_number Down = 51
look_fault_number NoMemory = 1
