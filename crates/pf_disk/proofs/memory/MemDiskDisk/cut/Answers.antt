use Rattle.std.proofs.Common.{[], refl}
use Rattle.pf_disk.specs.declared.tape.TapeRecord.TheVariants.{Cut, FailedCut}
use Rattle.pf_disk.proofs.Disks as disks
use Rattle.pf_disk.proofs.memory.MemDiskDisk.cut.Goals as goal

pub returns-then-fails-clause-crash : goal.returns-then-fails-clause-crash
returns-then-fails-clause-crash c =
    disks.failed_cut c.args.self.now.tape c.begin-fails.new.self.tape c.fail_cut.new.self c.fail-then-fails.new.self.tape c.begin-fails.ensures.tape c.fail-then-fails.ensures.tape
    c.args.len c.fail_cut.ensures.state

pub returns-then-fails-clause-time : goal.returns-then-fails-clause-time
returns-then-fails-clause-time c =
    disks.time c.args.self.now.tape c.begin-fails.new.self.tape c.fail_cut.new.self c.fail-then-fails.new.self.tape c.begin-fails.ensures.tape c.fail-then-fails.ensures.tape
    (FailedCut c.args.len) [] c.fail_cut.ensures.adds

pub returns-clause-crash : goal.returns-clause-crash
returns-clause-crash c = disks.cut c.args.self.now.tape c.begin-fails.new.self.tape c.cut.new.self c.cut.new.self c.begin-fails.ensures.tape refl c.args.len c.cut.ensures.state

pub returns-clause-time : goal.returns-clause-time
returns-clause-time c = disks.time c.args.self.now.tape c.begin-fails.new.self.tape c.cut.new.self c.cut.new.self c.begin-fails.ensures.tape refl (Cut c.args.len) [] c.cut.ensures.adds
