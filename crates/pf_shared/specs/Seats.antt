-- A group behind a turn, and its seats.
use Rattle.std.specs.Prelude.{◌≡◌, ℕ, List}
use Rattle.pf_turn.specs.declared.log.Stamped.{Stamped}
use Rattle.pf_disk.specs.declared.disk.Disk.{Ghosts}
use Rattle.pf_turn.specs.Seats as turns
use Rattle.pf_group_rounds.specs.pf_group.specs.GroupIs.{GroupIs}
use Rattle.pf_shared.specs.declared.moment.SeatMoment.{SeatMoment}
use Rattle.pf_shared.specs.declared.parts.SharedGroup.{SharedGroup}
use Rattle.pf_shared.specs.declared.parts.GroupSeat.{GroupSeat}

module _ {D : Type 0} {disk : Ghosts D} where
  -- the group as it was before its first turn
  abbrev pub root_in : SharedGroup D disk → GroupIs
  root_in shared = turns.root_in shared.lock

  -- the first seat has number 0
  abbrev pub number_of : GroupSeat D disk → ℕ
  number_of seat = turns.number_of seat.seat

  -- the list as the seat last saw it
  abbrev pub seen_by : GroupSeat D disk → List (Stamped SeatMoment)
  seen_by seat = turns.seen_by seat.seat

  -- a seat of this group, outside of any call
  abbrev pub IsSeatOf : SharedGroup D disk → GroupSeat D disk → Type 0
  IsSeatOf shared seat = turns.IsSeatOf shared.lock seat.seat × turns.HasNoTurn seat.seat

  -- a seat of this group, which has its turn
  abbrev pub IsInTurn : SharedGroup D disk → GroupSeat D disk → Type 0
  IsInTurn shared seat = turns.IsSeatOf shared.lock seat.seat × turns.HasTurn seat.seat

  -- the numbers of the seats that the first one took in, the last one first
  abbrev pub gone_of : GroupSeat D disk → List ℕ
  gone_of seat = turns.gone_of seat.seat

  abbrev pub IsFirst : GroupSeat D disk → Type 0
  IsFirst seat = turns.IsFirst seat.seat

  -- how many seats were split from the first one, and how many of them were not yet joined
  abbrev pub splits_of : GroupSeat D disk → ℕ
  splits_of seat = turns.splits_of seat.seat

  abbrev pub out_of : GroupSeat D disk → ℕ
  out_of seat = turns.out_of seat.seat

  -- the first seat, while no other is out
  abbrev pub IsAlone : GroupSeat D disk → Type 0
  IsAlone seat = IsFirst seat × (out_of seat ≡ 0)

  -- nothing changes but what the seat has seen
  abbrev pub IsSameSeat : GroupSeat D disk → GroupSeat D disk → Type 0
  IsSameSeat old new = turns.IsSameSeat old.seat new.seat
