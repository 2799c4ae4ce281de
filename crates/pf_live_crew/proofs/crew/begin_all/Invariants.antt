use Rattle.std.proofs.Common.{◌≡◌, ◌≤◌, ◌+◌, List, ◌++◌, vec_len, vec_capacity}
use Rattle.std.specs.VecDeque.{deque_len}
use Rattle.pf_live_crew.specs.Places.{Each, IsPlace, Pairs}
use Rattle.pf_live_crew.proofs.crew.begin_all.Given as goal

abbrev pub invariant-loop-worker : goal.invariant-loop-worker
invariant-loop-worker g l = Each (g.T.Works.fits l.context) l.workers.items
    × (vec_len l.places + deque_len l.workers ≡ deque_len l.initial.workers)
    × (vec_len l.places + deque_len l.workers ≤ vec_capacity l.places)
    × ((begun : List g.row.T.Denot) × (begun ++ l.workers.items ≡ l.initial.workers.items) × Pairs (IsPlace g.T.Works l.context) begun l.places.items)

abbrev pub decreases-loop-worker : goal.decreases-loop-worker
decreases-loop-worker g l = deque_len l.workers
