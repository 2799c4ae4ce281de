use Rattle.std.proofs.Common.{◌≡◌, ℕ, ◌+◌, vec_len, vec_capacity}
use Rattle.std.specs.VecDeque.{deque_len}
use Rattle.pf_live_seats.specs.pf_shared.specs.Seats.{splits_of}
use Rattle.pf_live_line.specs.Mustered.{AreHosts, AreMustered}
use Rattle.pf_live_line.proofs.mustering.muster_hosts.Given as goal

abbrev pub invariant-loop-host : goal.invariant-loop-host
invariant-loop-host g l = (h : ℕ) × AreHosts l.line.plan l.line.rings.items l.line.plan.hosts h l.rest.items
    × AreMustered l.line.group l.line.cell l.line.plan l.line.rings.items l._begun.value h (splits_of l._begun.value + 3) l.workers.items
    × (vec_len l.workers ≡ vec_len l.initial.workers + h) × (vec_capacity l.workers ≡ vec_capacity l.initial.workers)

abbrev pub decreases-loop-host : goal.decreases-loop-host
decreases-loop-host g l = deque_len l.rest
