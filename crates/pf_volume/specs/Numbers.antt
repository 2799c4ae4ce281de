-- The numbers of refusals.
use Rattle.std.specs.Prelude.{ℕ}
use Rattle.pf_volume.specs.declared.faults.SplitFault.{SplitFault}
use Rattle.pf_volume.specs.declared.faults.SplitFault.TheVariants.{NoMemory, OutsideVolume}

abbrev pub split_number : SplitFault → ℕ
split_number NoMemory = 1
split_number OutsideVolume = 70
