-- What the looks of the first seat tell of a line's end.
use Rattle.std.specs.Prelude.{◌≡◌, ◌≢◌, ◌⊎◌, ℕ, ◌-◌, ◌<◌, ◌≤◌, Bool, true, false, IsTrue, List, Contains, length, Option, Some, None, slice_get}
use Rattle.pf_turn.specs.Lists.{Begins}
use Rattle.pf_disk.specs.declared.disk.Disk.{Ghosts}
use Rattle.pf_live_seats.specs.pf_group_network.specs.Shown.{IsLeader}
use Rattle.pf_live_seats.specs.pf_group.specs.GroupIs.{GroupIs}
use Rattle.pf_leadercell.specs.Passes as cells
use Rattle.pf_leadercell.specs.Published.{last_of}
use Rattle.pf_leadercell.specs.declared.cell.LeaderCell.{LeaderCell}
use Rattle.pf_leadercell.specs.declared.cell.LeaderPass.{LeaderPass}
use Rattle.pf_rings.specs.declared.view.Request.{Request}
use Rattle.pf_live_seats.specs.pf_shared.specs.declared.parts.SharedGroup.{SharedGroup}
use Rattle.pf_live_seats.specs.pf_shared.specs.Seats.{root_in, seen_by, splits_of}
use Rattle.pf_live_seats.specs.pf_shared.specs.Since.{state_by_now}
use Rattle.pf_base.specs.declared.live_end.LiveEnd.{LiveEnd}
use Rattle.pf_live_seats.specs.declared.line.HostRings.{HostRings}
use Rattle.pf_live_seats.specs.declared.plan.LinePlan.{LinePlan}
use Rattle.pf_live_seats.specs.declared.serving.Served.{Served}
use Rattle.pf_live_seats.specs.declared.serving.Standing.TheVariants.{Asked}
use Rattle.pf_live_seats.specs.Deliveries.{LiveTrace, deliveries, is_passed, least_left_in_line}
use Rattle.pf_live_seats.specs.Ends.{HasEnd, HostIsOpen, IsRefused, NoneIsLeft, WaitsInVain, WasRefused}
use Rattle.pf_live_seats.specs.Submissions.{acked_of_host, write_numbers, slots_of_host}
use Rattle.pf_live_seats.specs.Submitters.{SubmitsNone}
use Rattle.pf_live_line.specs.declared.crew.Crew.{Crew}
use Rattle.pf_live_line.specs.Crews.{AllEnded, IsCrew}

-- the list went on without a submission, a delivery, or a change of the group
pub record IsUnchanged (root : GroupIs) (old new : LiveTrace) : Type 0 where
  pub begins : Begins old new
  pub state : state_by_now root new ≡ state_by_now root old
  pub passed : (k : ℕ) → is_passed k new ≡ is_passed k old
  pub count : deliveries new ≡ deliveries old
  pub none : (h : ℕ) → SubmitsNone root h old new

module _ {D : Type 0} {disk : Ghosts D} where
  -- nothing changes but what the first seat has seen, which went on so
  pub record HasLooked (group : SharedGroup D disk) (cell : LeaderCell) (plan : LinePlan) (rings : List HostRings) (a b : Crew D disk) : Type 0 where
    pub is : IsCrew group cell plan rings b
    pub unchanged : IsUnchanged (root_in group) (seen_by a.seat) (seen_by b.seat)
    pub served : b.served ≡ a.served
    pub seats : splits_of b.seat ≡ splits_of a.seat
    pub ended : AllEnded plan a.seat → AllEnded plan b.seat

  -- nothing was delivered, and no run was made
  pub record HasJudged (group : SharedGroup D disk) (cell : LeaderCell) (plan : LinePlan) (rings : List HostRings) (a b : Crew D disk) : Type 0 where
    pub is : IsCrew group cell plan rings b
    pub begins : Begins (seen_by a.seat) (seen_by b.seat)
    pub count : deliveries (seen_by b.seat) ≡ deliveries (seen_by a.seat)
    pub seats : splits_of b.seat ≡ splits_of a.seat
    pub ended : AllEnded plan a.seat → AllEnded plan b.seat

-- the last request of the host, if it has no slot, was refused by the server, and nothing was delivered since
abbrev pub RequestIsRefusedBy : LinePlan → GroupIs → LiveTrace → (server : ℕ) → List Served → (h : ℕ) → Type 0
RequestIsRefusedBy plan root list server served h = (s : Served) (request : Request) → slice_get served h ≡ Some s → s.standing ≡ Asked request
    → IsRefused plan root list h (s.taken - 1) server

-- the last request of each host, if it has no slot, was refused by the leader, where the disks tell their content
abbrev pub AreRefused : LinePlan → GroupIs → LiveTrace → List Served → Type 0
AreRefused plan root list served = IsTrue root.told → (h : ℕ) (s : Served) (request : Request) → h < plan.hosts → slice_get served h ≡ Some s
    → s.standing ≡ Asked request → WasRefused plan root list h (s.taken - 1)

-- each write of the host that was taken is submitted, where the disks tell their content
abbrev pub AreSubmitted : GroupIs → LiveTrace → List Served → (h : ℕ) → Type 0
AreSubmitted root list served h = IsTrue root.told → (s : Served) → slice_get served h ≡ Some s → (j : ℕ) → j < s.taken → Contains (write_numbers root h list) j

-- each of each host is
abbrev pub AllSubmitted : LinePlan → GroupIs → LiveTrace → List Served → Type 0
AllSubmitted plan root list served = (h : ℕ) → h < plan.hosts → AreSubmitted root list served h

-- the pass has seen a term that is not below that of the leader, where the disks tell their content
abbrev pub IsPublished : GroupIs → LiveTrace → LeaderPass → Type 0
IsPublished root list first = IsTrue root.told → (term server : ℕ) → IsLeader (state_by_now root list) (Some (term, server))
    → term ≤ (last_of (cells.seen_by first)).0

-- So many writes of the host are acknowledged, and whether it waits in vain for one more: where it does not, the leader did not refuse that, if
-- it refused all requests that have no slot
pub record HasCount (plan : LinePlan) (root : GroupIs) (list : LiveTrace) (h : ℕ) (refused : Bool) (told : ℕ × Bool) : Type 0 where
  pub acked : acked_of_host root h list ≡ told.0
  pub within : told.0 ≤ plan.writes
  pub vain : told.1 ≡ true → WaitsInVain plan root list h
  pub settled : told.1 ≡ false → told.0 ≡ length (slots_of_host root h list)
  pub fresh : told.1 ≡ false → refused ≡ true → WasRefused plan root list h told.0 → ⊥

-- another server leads than did after the list `before`, or in another term
pub record HasNewLeader (root : GroupIs) (before list : LiveTrace) : Type 0 where
  pub was : Option (ℕ × ℕ)
  pub is : Option (ℕ × ℕ)
  pub led : IsLeader (state_by_now root before) was
  pub leads : IsLeader (state_by_now root list) is
  pub other : is ≢ was

-- a server leads to which the next write of the host can be handed: it has no slot, and was not refused, unless the leader is new
pub record CanBeHanded (plan : LinePlan) (root : GroupIs) (before list : LiveTrace) (h : ℕ) : Type 0 where
  pub open_still : HostIsOpen plan root list h
  pub no_slot : acked_of_host root h list ≡ length (slots_of_host root h list)
  pub leader : ℕ × ℕ
  pub leads : IsLeader (state_by_now root list) (Some leader)
  pub fresh : HasNewLeader root before list ⊎ (WasRefused plan root list h (acked_of_host root h list) → ⊥)

-- a turn can still be taken: a packet is left that may be delivered, or none is left, and a write can be handed over
abbrev pub MayGoOn : LinePlan → GroupIs → (before list : LiveTrace) → Type 0
MayGoOn plan root before list = ((k : ℕ) × (least_left_in_line (state_by_now root list) list ≡ Some k) × (deliveries list < plan.turns))
    ⊎ (NoneIsLeft root list × (h : ℕ) × CanBeHanded plan root before list h)

-- a line that was judged from the list `before` on has this end, or may go on
abbrev pub IsJudged : LinePlan → GroupIs → (before list : LiveTrace) → Option LiveEnd → Type 0
IsJudged plan root before list (Some end) = HasEnd plan root list end
IsJudged plan root before list None = MayGoOn plan root before list
