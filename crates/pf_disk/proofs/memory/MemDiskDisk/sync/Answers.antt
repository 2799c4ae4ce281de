use Rattle.std.proofs.Common.{[], refl}
use Rattle.pf_disk.specs.declared.tape.TapeRecord.TheVariants.{Sync}
use Rattle.pf_disk.proofs.Disks as disks
use Rattle.pf_disk.proofs.memory.MemDiskDisk.sync.Goals as goal

pub returns-clause-time : goal.returns-clause-time
returns-clause-time c = disks.time c.args.self.now.tape c.begin.new.self.tape c.sync.new.self c.sync.new.self c.begin.ensures.tape refl Sync [] c.sync.ensures.adds

pub returns-clause-durable : goal.returns-clause-durable
returns-clause-durable c = disks.durable c.args.self.now.tape c.begin.new.self.tape c.sync.new.self c.sync.new.self c.begin.ensures.tape refl c.sync.ensures.state

pub returns-clause-crash : goal.returns-clause-crash
returns-clause-crash c = disks.kept c.args.self.now.tape c.begin.new.self.tape c.sync.new.self c.sync.new.self c.begin.ensures.tape refl c.sync.ensures.state
