-- The worker that delivers packets, and what it keeps.
use Rattle.std.specs.Prelude.{◌≡◌, ◌⊎◌, ℕ, ◌<◌, ◌≤◌, IfSome, IsTrue, ◌++◌, Option, None, length}
use Rattle.pf_turn.specs.Lists.{entries_of}
use Rattle.pf_turn.specs.Own.{EachOf}
use Rattle.pf_disk.specs.declared.disk.Disk.{Ghosts}
use Rattle.pf_shared.specs.pf_group.specs.GroupIs.{GroupIs}
use Rattle.pf_shared.specs.pf_group.specs.Packets.{IsPassedUpTo}
use Rattle.pf_shared.specs.pf_group_network.specs.Shown.{IsLeader}
use Rattle.pf_leadercell.specs.Passes as cells
use Rattle.pf_leadercell.specs.Passes.{IsFirstPass, IsPassOf}
use Rattle.pf_leadercell.specs.Published.{last_of}
use Rattle.pf_leadercell.specs.declared.cell.LeaderPass.{LeaderPass}
use Rattle.pf_leadercell.specs.declared.cell.LeaderCell.{LeaderCell}
use Rattle.pf_shared.specs.declared.moment.SeatMoment.{SeatMoment}
use Rattle.pf_shared.specs.declared.moment.SeatMoment.TheVariants.{Happened, Look}
use Rattle.pf_shared.specs.declared.parts.SharedGroup.{SharedGroup}
use Rattle.pf_shared.specs.Seats.{IsSameSeat, IsSeatOf, number_of, root_in, seen_by}
use Rattle.pf_shared.specs.Since.{state_by_now}
use Rattle.pf_live_seats.specs.declared.switching.Switch.{Switch}
use Rattle.pf_live_seats.specs.Deliveries.{IsNextDelivery, LiveTrace, deliveries, is_passed}

-- seat n, which began after this list, delivers packets, the least one left each time where the disks tell their content: of the deliveries it
-- counts those that stood there and its own. Its looks take no answer
abbrev pub Delivers : (turns : ℕ) (root : GroupIs) (begun : LiveTrace) (n : ℕ) → LiveTrace → SeatMoment → Type 0
Delivers turns root begun n before (Happened h) = IsNextDelivery root.told turns (state_by_now root before) (begun ++ entries_of n before) h.event
Delivers turns root begun n before (Look read) = read ≡ None

-- What it has done: it counts so many deliveries, and where the disks tell their content, of the packets below `next` those that are left were
-- passed over
pub record HasDelivered (turns : ℕ) (root : GroupIs) (begun : LiveTrace) (n : ℕ) (seen : LiveTrace) (next made : ℕ) : Type 0 where
  pub steps : EachOf n (Delivers turns root begun n) seen
  pub sent : IsTrue root.told → next ≤ length (state_by_now root seen).packets
  pub passed : IsTrue root.told → IsPassedUpTo (state_by_now root seen) (λ k. is_passed k (begun ++ entries_of n seen)) next
  pub count : made ≡ deliveries (begun ++ entries_of n seen)
  pub within : made ≤ turns

-- the leader after the list, if one serves, is the pair that was published last, unless one of a greater term was
pub record HasPublished (root : GroupIs) (list : LiveTrace) (pass : LeaderPass) : Type 0 where
  pub leader : Option (ℕ × ℕ)
  pub leads : IsTrue root.told → IsLeader (state_by_now root list) leader
  pub last : IfSome leader (λ one. (last_of (cells.seen_by pass) ≡ one) ⊎ (one.0 < (last_of (cells.seen_by pass)).0))

module _ {D : Type 0} {disk : Ghosts D} where
  pub record IsSwitch (group : SharedGroup D disk) (cell : LeaderCell) (turns : ℕ) (a : Switch D disk) : Type 0 where
    pub seat : IsSeatOf group a.seat
    pub did : HasDelivered turns (root_in group) (seen_by a.begun.value) (number_of a.seat) (seen_by a.seat) a.next a.made
    pub pass : IsPassOf cell a.pass × IsFirstPass a.pass

  -- nothing changes but what it has seen and done
  abbrev pub IsSameSwitch : Switch D disk → Switch D disk → Type 0
  IsSameSwitch x y = IsSameSeat x.seat y.seat × (y.begun ≡ x.begun)
