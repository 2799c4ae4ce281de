use Rattle.pf_world_hosts.proofs.Places.{BeginBelow}
use Rattle.pf_world_hosts.proofs.settling.begin_all.Given as goal

abbrev pub invariant-loop-chunk : goal.invariant-loop-chunk
invariant-loop-chunk g l = BeginBelow l.chunk-index l.fn.chunks l.chunk-items
