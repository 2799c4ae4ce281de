use Rattle.std.proofs.Common.{vec_capacity}
use Rattle.std.specs.VecDeque.{deque_len}
use Rattle.pf_live_line.proofs.SeatKnowledge.{TakesBack}
use Rattle.pf_live_line.proofs.taking.take_back.Given as goal

abbrev pub invariant-loop-worker : goal.invariant-loop-worker
invariant-loop-worker g l = TakesBack l.line.group l.line.cell l.line.plan l.line.rings.items l.begun.value l.submitted.value l.initial.first l.first l.rest.items l.hosts.items (vec_capacity l.hosts) l.wants

abbrev pub decreases-loop-worker : goal.decreases-loop-worker
decreases-loop-worker g l = deque_len l.rest
