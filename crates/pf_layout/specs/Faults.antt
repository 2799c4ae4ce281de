-- The numbers of refusals.
use Rattle.std.specs.Prelude.{ℕ}
use Rattle.pf_layout.specs.declared.faults.PathFault.{PathFault}
use Rattle.pf_layout.specs.declared.faults.PathFault.TheVariants.{NoMemory, BadName}

abbrev pub path_number : PathFault → ℕ
path_number NoMemory = 1
path_number BadName = 80
