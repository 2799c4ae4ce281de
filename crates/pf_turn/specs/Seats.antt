-- A seat of a turn lock, as its caller sees it.
use Rattle.std.specs.Prelude.{◌≡◌, ℕ, true, List, [], ◌∷◌, Some, None}
use Rattle.pf_turn.specs.declared.log.Stamped.{Stamped}
use Rattle.pf_turn.specs.declared.parts.TurnLock.{TurnLock}
use Rattle.pf_turn.specs.declared.parts.TurnSeat.{TurnSeat}
use Rattle.pf_turn.specs.declared.sight.SightStage.TheVariants.{Idle, Called}

module _ {E K V : Type 0} where
  -- the first seat has number 0, and those split from it have 1, 2 and so on
  abbrev pub number_of : TurnSeat E K V → ℕ
  number_of s = s.number

  -- what never changes of the lock's value
  abbrev pub root_in : TurnLock E K V → K
  root_in lock = lock.table.shared.key

  -- the list as the seat last saw it
  abbrev pub seen_by : TurnSeat E K V → List (Stamped E)
  seen_by s = s.seat.me.0.seen

  -- how many seats were split from the first seat, and how many of them were not yet joined
  abbrev pub splits_of : TurnSeat E K V → ℕ
  splits_of s = s.seat.me.0.splits

  abbrev pub out_of : TurnSeat E K V → ℕ
  out_of s = s.seat.me.0.out

  -- the numbers of the seats that the first seat took in, the last one first
  abbrev pub gone_of : TurnSeat E K V → List ℕ
  gone_of s = s.seat.me.0.gone

  abbrev pub IsFirst : TurnSeat E K V → Type 0
  IsFirst s = number_of s ≡ 0

  -- a seat of this lock
  abbrev pub IsSeatOf : TurnLock E K V → TurnSeat E K V → Type 0
  IsSeatOf lock s = (s.seat.table_id ≡ lock.table.shared.table_id) × (s.seat.me.0.number ≡ number_of s) × (s.seat.me.0.live ≡ true)
      × (s.seat.me.0.drawn ≡ s.seat.me.0.splits) × (s.seat.me.0.root ≡ Some (root_in lock))

  -- the seat holds no turn
  abbrev pub HasNoTurn : TurnSeat E K V → Type 0
  HasNoTurn s = (s.seat.me.0.stage ≡ Idle) × (s.seat.me.1 ≡ [])

  abbrev pub HasTurn : TurnSeat E K V → Type 0
  HasTurn s = ((t : ℕ) × (s.seat.me.0.stage ≡ Called t)) × (s.seat.me.1 ≡ (0, None) ∷ [])

  -- nothing changes but what the seat has seen, and whether it holds a turn
  abbrev pub IsSameSeat : TurnSeat E K V → TurnSeat E K V → Type 0
  IsSameSeat s s' = (number_of s' ≡ number_of s) × (splits_of s' ≡ splits_of s) × (out_of s' ≡ out_of s) × (gone_of s' ≡ gone_of s)
