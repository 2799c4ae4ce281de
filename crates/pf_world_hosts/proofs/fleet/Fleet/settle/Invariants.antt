use Rattle.std.proofs.Common.{◌+◌}
use Rattle.pf_world_hosts.specs.Tries.{SettlingStands, room}
use Rattle.pf_world_hosts.proofs.fleet.Fleet.settle.Given as goal

abbrev pub invariant-loop-tried : goal.invariant-loop-tried
invariant-loop-tried g l = SettlingStands l.fn.limit l.fn.chunks l.fn.self l.fn.out.items l.left l.out.items l.chunks l.self

-- each try is a delivery, or passes over a packet, and they are few
abbrev pub decreases-loop-tried : goal.decreases-loop-tried
decreases-loop-tried g l = l.left + room l.chunks
