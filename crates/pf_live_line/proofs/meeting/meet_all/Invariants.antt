use Rattle.std.proofs.Common.{◌≡◌, ℕ, ◌≤◌, List, ◌++◌, vec_len, vec_capacity}
use Rattle.std.specs.VecDeque.{deque_len}
use Rattle.pf_live_crew.specs.Places.{Pairs}
use Rattle.pf_live_seats.specs.declared.serving.Served.{Served}
use Rattle.pf_live_line.specs.Meeting.{AreMet, IsSameServed}
use Rattle.pf_live_line.specs.Mustered.{AreHosts, HostsAreServed}
use Rattle.pf_live_line.proofs.meeting.meet_all.Given as goal

abbrev pub invariant-loop-host : goal.invariant-loop-host
invariant-loop-host g l = (h : ℕ) × AreHosts l.line.plan l.line.rings.items l.line.plan.hosts h l.hosts.items
    × HostsAreServed l.line.plan l.line.rings.items l.line.plan.hosts h l.served.items
    × AreMet l.line.plan l.line.rings.items h 0 l.host_room.items l.served_room.items
    × ((gone : List Served) × (gone ++ l.served.items ≡ l.initial.served.items) × Pairs IsSameServed gone l.served_room.items)
    × (vec_len l.host_room ≡ h) × (vec_len l.served_room ≡ h) × (l.line.plan.hosts ≤ vec_capacity l.host_room) × (l.line.plan.hosts ≤ vec_capacity l.served_room)

abbrev pub decreases-loop-host : goal.decreases-loop-host
decreases-loop-host g l = deque_len l.hosts
