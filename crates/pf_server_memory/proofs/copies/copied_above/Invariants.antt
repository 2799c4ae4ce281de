use Rattle.pf_entry.specs.Records.{above}
use Rattle.pf_holes.proofs.LogCopies.{IsCopied}
use Rattle.pf_server_memory.proofs.copies.copied_above.Given as goal

abbrev pub invariant-loop-slot : goal.invariant-loop-slot
invariant-loop-slot l = IsCopied (above l.base l.log.entries) l.slot l.rows.items
