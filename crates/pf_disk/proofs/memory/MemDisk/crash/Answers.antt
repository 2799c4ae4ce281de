use Rattle.std.proofs.Common.{subst}
use Rattle.pf_disk.specs.Recorded.{State, IsCrashImage}
use Rattle.pf_disk.proofs.Images.{only_file}
use Rattle.pf_disk.proofs.memory.MemDisk.crash.Goals as goal

pub returns-clause-only : goal.returns-clause-only
returns-clause-only c = λ f left. only_file _ f (subst (λ (s : State). IsCrashImage s f) c.crash.ensures.state left)
