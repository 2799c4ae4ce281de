use Rattle.pf_world_hosts.proofs.Rows.{HaveSoFar}
use Rattle.pf_world_hosts.proofs.fleet.Fleet.step_hosts.Given as goal

abbrev pub invariant-loop-mount : goal.invariant-loop-mount
invariant-loop-mount g l = HaveSoFar l.fn.chunks l.fn.self l.fn.out.items l.mount l.chunks l.self l.out.items
