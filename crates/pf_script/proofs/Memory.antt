-- An answer that takes no memory.
use Rattle.std.proofs.Common.{◌≡◌, Result, Ok, Err, sym}
use Rattle.pf_script.specs.declared.command.LineFault.{LineFault}
use Rattle.pf_script.specs.declared.command.LineFault.TheVariants.{NoMemory}
use Rattle.pf_script.specs.Lines.{LineGives}

-- what is exactly what is read, gives what is read
pub exact_gives : {T : Type 0} (read result : Result T LineFault) → result ≡ read → LineGives read result
exact_gives read (Ok value) same = sym same
exact_gives read (Err NoMemory) same = tt
exact_gives read (Err fault) same = sym same
