use Rattle.pf_mount_host.specs.Steps.{HasDone}
use Rattle.pf_mount_host.proofs.Steps.{hearing, turns}
use Rattle.pf_mount_host.proofs.host.Host.hear_all.Given as goal

abbrev pub invariant-loop-port : goal.invariant-loop-port
invariant-loop-port g l = HasDone (turns l.port hearing) l.fn.routes l.fn.chunks l.fn.out.items l.fn.self l.chunks l.out.items l.self
