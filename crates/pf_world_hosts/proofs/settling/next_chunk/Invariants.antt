use Rattle.pf_world_hosts.proofs.Places.{LooksBelow}
use Rattle.pf_world_hosts.proofs.settling.next_chunk.Given as goal

abbrev pub invariant-loop-place : goal.invariant-loop-place
invariant-loop-place g l = LooksBelow l.place l.fn.chunks l.chunks
