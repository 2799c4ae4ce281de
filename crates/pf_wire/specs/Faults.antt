-- The numbers of refusals.
use Rattle.std.specs.Prelude.{ℕ}
use Rattle.pf_wire.specs.declared.faults.WireFault.{WireFault}
use Rattle.pf_wire.specs.declared.faults.WireFault.TheVariants.{NoMemory, BadPacket}

abbrev pub wire_fault_number : WireFault → ℕ
wire_fault_number NoMemory = 1
wire_fault_number BadPacket = 31
