use Rattle.std.proofs.Common.{◌≤◌, ◌+◌, List, vec_len, vec_capacity}
use Rattle.std.specs.VecDeque.{deque_len}
use Rattle.pf_live_crew.specs.Places.{ArePlaces, Became, IsPlace}
use Rattle.pf_live_crew.proofs.ListPairs.{Divides}
use Rattle.pf_live_crew.proofs.crew.end_all.Given as goal

abbrev pub invariant-loop-place : goal.invariant-loop-place
invariant-loop-place g l = (vec_len l.done + deque_len l.rest ≤ vec_capacity l.done)
    × ((c : g.row.C.Denot) (xs : List g.row.T.Denot) → ArePlaces g.T.Works c xs l.initial.rest.items → Divides (IsPlace g.T.Works c) (Became g.T.Works c) xs l.done.items l.rest.items)

abbrev pub decreases-loop-place : goal.decreases-loop-place
decreases-loop-place g l = deque_len l.rest
