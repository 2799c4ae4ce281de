use Rattle.std.proofs.Common.{◌≡◌, ℕ, ◌<◌, ◌≤◌, true}
use Rattle.pf_protocol.specs.Leading.{other_acked}
use Rattle.pf_server_memory.specs.Standing.{leader_in_memory}
use Rattle.pf_server_leader.proofs.counts.settled_upto.Given as goal

abbrev pub invariant-loop-slot : goal.invariant-loop-slot
invariant-loop-slot l = record {
  heard : (q : ℕ) → l.leader.settled < q → q ≤ l.slot → other_acked (leader_in_memory l.leader) l.me q ≡ true;
}
