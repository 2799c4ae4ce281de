-- The first seat, once it took in the seat that submitted and that of the switch.
use Rattle.std.specs.Prelude.{◌≡◌, ◌+◌, IsTrue, List}
use Rattle.pf_turn.specs.Lists.{Begins, entries_of}
use Rattle.pf_turn.specs.Own.{EachOf}
use Rattle.pf_disk.specs.declared.disk.Disk.{Ghosts}
use Rattle.pf_leadercell.specs.Passes as cells
use Rattle.pf_leadercell.specs.declared.cell.LeaderCell.{LeaderCell}
use Rattle.pf_live_seats.specs.pf_shared.specs.declared.parts.GroupSeat.{GroupSeat}
use Rattle.pf_live_seats.specs.pf_shared.specs.declared.parts.SharedGroup.{SharedGroup}
use Rattle.pf_live_seats.specs.pf_shared.specs.Seats.{root_in, seen_by, splits_of}
use Rattle.pf_live_seats.specs.declared.line.HostRings.{HostRings}
use Rattle.pf_live_seats.specs.declared.plan.LinePlan.{LinePlan}
use Rattle.pf_live_seats.specs.Submitters.{AllFed, AllStand, Submits, SubmitsAlone}
use Rattle.pf_live_seats.specs.Switches.{HasDelivered}
use Rattle.pf_live_line.specs.declared.taking.Taken.{Taken}
use Rattle.pf_live_line.specs.Joining.{IsJoining}
use Rattle.pf_live_line.specs.Mustered.{HostsAreServed}

module _ {D : Type 0} {disk : Ghosts D} where
  pub record IsTaken (group : SharedGroup D disk) (cell : LeaderCell) (plan : LinePlan) (rings : List HostRings) (begun : GroupSeat D disk) (a : Taken D disk)
      (first : GroupSeat D disk) : Type 0 where
    pub joining : IsJoining group plan begun a.submitted.value (splits_of begun + 2) first
    pub since : Begins (seen_by begun) (seen_by a.submitted.value)
    pub begins : Begins (seen_by a.submitted.value) (seen_by first)
    pub own : entries_of (splits_of begun + 1) (seen_by first) ≡ entries_of (splits_of begun + 1) (seen_by a.submitted.value)
    pub served : HostsAreServed plan rings plan.hosts 0 a.served.items
    pub steps : SubmitsAlone (splits_of begun + 1) (seen_by begun) (seen_by a.submitted.value) → AllFed plan a.served.items
        → EachOf (splits_of begun + 1) (Submits plan (root_in group)) (seen_by a.submitted.value)
    pub stand : IsTrue (root_in group).told → SubmitsAlone (splits_of begun + 1) (seen_by begun) (seen_by a.submitted.value) → AllFed plan a.served.items
        → AllStand (root_in group) (seen_by a.submitted.value) a.served.items
    pub delivered : HasDelivered plan.turns (root_in group) (seen_by begun) (splits_of begun + 2) (seen_by first) a.next a.made
    pub publishes : cells.IsPassOf cell a.first × cells.IsFirstPass a.first
    pub asks : cells.IsPassOf cell a.leaders
