-- A live line between two runs of its threads.
use Rattle.std.specs.Prelude.{◌≡◌, ℕ, ◌+◌, ◌*◌, ◌<◌, ◌≤◌, IsTrue, List, [], None, length}
use Rattle.pf_turn.specs.Lists.{entries_of}
use Rattle.pf_turn.specs.Own.{down_from}
use Rattle.pf_disk.specs.declared.disk.Disk.{Ghosts}
use Rattle.pf_live_seats.specs.pf_group.specs.GroupIs.{GroupIs}
use Rattle.pf_live_seats.specs.pf_group.specs.Packets.{IsPassedUpTo}
use Rattle.pf_leadercell.specs.Passes as cells
use Rattle.pf_leadercell.specs.declared.cell.LeaderCell.{LeaderCell}
use Rattle.pf_live_seats.specs.pf_shared.specs.declared.parts.SharedGroup.{SharedGroup}
use Rattle.pf_live_seats.specs.pf_shared.specs.declared.parts.GroupSeat.{GroupSeat}
use Rattle.pf_live_seats.specs.pf_shared.specs.Hands.{Key, hand_of}
use Rattle.pf_live_seats.specs.pf_shared.specs.Seats.{IsAlone, IsSeatOf, gone_of, root_in, seen_by, splits_of}
use Rattle.pf_live_seats.specs.pf_shared.specs.Since.{state_by_now}
use Rattle.pf_live_seats.specs.declared.line.HostRings.{HostRings}
use Rattle.pf_live_seats.specs.declared.plan.LinePlan.{LinePlan}
use Rattle.pf_live_seats.specs.Deliveries.{LiveTrace, deliveries, is_passed}
use Rattle.pf_live_seats.specs.Lines.{Applying, IsLive, role_of_seat}
use Rattle.pf_live_seats.specs.Roles.{HasRunOut}
use Rattle.pf_live_seats.specs.Submitters.{AllStand}
use Rattle.pf_live_line.specs.declared.crew.Crew.{Crew}
use Rattle.pf_live_line.specs.Meeting.{AreMet}

-- The list has so many deliveries. Where the disks tell their content, of the packets below `next` those that are left were passed over in it
pub record HasMade (turns : ℕ) (root : GroupIs) (list : LiveTrace) (next made : ℕ) : Type 0 where
  pub sent : IsTrue root.told → next ≤ length (state_by_now root list).packets
  pub passed : IsTrue root.told → IsPassedUpTo (state_by_now root list) (λ k. is_passed k list) next
  pub count : made ≡ deliveries list
  pub within : made ≤ turns

module _ {D : Type 0} {disk : Ghosts D} where
  -- the last entry of each seat that applied is a claim that found nothing, and none gave a job back
  abbrev pub AllEnded : LinePlan → GroupSeat D disk → Type 0
  AllEnded plan seat = (n : ℕ) → n ≤ splits_of seat → role_of_seat plan.workers n ≡ Applying → HasRunOut n (entries_of n (seen_by seat))

  -- no seat that applied has a job in hand
  abbrev pub AllFree : LinePlan → GroupSeat D disk → Type 0
  AllFree plan seat = (n : ℕ) → n ≤ splits_of seat → role_of_seat plan.workers n ≡ Applying → (k : Key) → hand_of k None (entries_of n (seen_by seat)) ≡ None

  -- The first seat, while no other is out: it split seats for some runs, and took all of them in
  pub record IsLineSeat (group : SharedGroup D disk) (plan : LinePlan) (seat : GroupSeat D disk) : Type 0 where
    pub at : IsSeatOf group seat × IsAlone seat
    pub runs : (r : ℕ) × (splits_of seat ≡ r * (plan.workers + 2))
    pub gone : gone_of seat ≡ down_from (splits_of seat)
    pub strangers : (n : ℕ) → splits_of seat < n → entries_of n (seen_by seat) ≡ []
    pub live : IsLive plan (root_in group) (seen_by seat)
    pub free : AllFree plan seat

  pub record IsCrew (group : SharedGroup D disk) (cell : LeaderCell) (plan : LinePlan) (rings : List HostRings) (a : Crew D disk) : Type 0 where
    pub seat : IsLineSeat group plan a.seat
    pub splits : a.splits ≡ splits_of a.seat
    pub met : AreMet plan rings plan.hosts 0 a.hosts.items a.served.items
    pub stand : IsTrue (root_in group).told → AllStand (root_in group) (seen_by a.seat) a.served.items
    pub first : cells.IsPassOf cell a.first × cells.IsFirstPass a.first
    pub leaders : cells.IsPassOf cell a.leaders
    pub made : HasMade plan.turns (root_in group) (seen_by a.seat) a.next a.made
