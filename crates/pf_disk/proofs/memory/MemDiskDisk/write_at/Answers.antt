use Rattle.std.proofs.Common.{[], length, refl}
use Rattle.pf_disk.specs.declared.tape.TapeRecord.TheVariants.{Write, FailedWrite}
use Rattle.pf_disk.proofs.Disks as disks
use Rattle.pf_disk.proofs.memory.MemDiskDisk.write_at.Goals as goal

pub returns-then-fails-clause-crash : goal.returns-then-fails-clause-crash
returns-then-fails-clause-crash c =
    disks.failed_write c.args.self.now.tape c.begin-fails.new.self.tape c.fail_write.new.self c.fail-then-fails.new.self.tape c.begin-fails.ensures.tape c.fail-then-fails.ensures.tape
    c.args.at (length c.args.bytes.now) c.fail_write.ensures.state

pub returns-then-fails-clause-time : goal.returns-then-fails-clause-time
returns-then-fails-clause-time c =
    disks.time c.args.self.now.tape c.begin-fails.new.self.tape c.fail_write.new.self c.fail-then-fails.new.self.tape c.begin-fails.ensures.tape c.fail-then-fails.ensures.tape
    (FailedWrite c.args.at (length c.args.bytes.now)) [] c.fail_write.ensures.adds

pub returns-clause-crash : goal.returns-clause-crash
returns-clause-crash c = disks.write c.args.self.now.tape c.begin-fails.new.self.tape c.write.new.self c.write.new.self c.begin-fails.ensures.tape refl c.args.at c.args.bytes.now c.write.ensures.state

pub returns-clause-time : goal.returns-clause-time
returns-clause-time c =
    disks.time c.args.self.now.tape c.begin-fails.new.self.tape c.write.new.self c.write.new.self c.begin-fails.ensures.tape refl (Write c.args.at (length c.args.bytes.now)) c.args.bytes.now c.write.ensures.adds
