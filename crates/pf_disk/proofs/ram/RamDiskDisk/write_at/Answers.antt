use Rattle.pf_disk.proofs.Writes.{write_at_once}
use Rattle.pf_disk.proofs.ram.RamDiskDisk.write_at.Goals as goal

pub returns-clause-crash : goal.returns-clause-crash
returns-clause-crash c = rw c.overwrite.ensures.written (write_at_once c.args.self.now.bytes.items c.args.at c.args.bytes.now)
