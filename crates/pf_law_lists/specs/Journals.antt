-- A journal over some anchors, of which ballots need a quorum: positions one after another, and mounts that each stand at one of them.
use Rattle.std.specs.Prelude.{◌≡◌, ℕ, ◌<◌, ◌≤◌, ◌==◌, ◌≢◌, if◌then◌else◌, List, [], ◌∷◌, ◌++◌, length, take, Option, Some, None, slice_get}
use Rattle.pf_paxos.specs.declared.ballot.BallotStep.{BallotStep}
use Rattle.pf_paxos.specs.declared.ballot.BallotStep.TheVariants.{Decided}
use Rattle.pf_paxos.specs.declared.ballot.Phase.TheVariants.{Resting}
use Rattle.pf_paxos.specs.Quorums.{AnchorTurn, AreAllRegisters, DecidesOver, IsDecidedOver}
use Rattle.pf_paxos.specs.BallotRuns.{Act, Starts, At, BallotEvent, Calls, Otherwise, Move, Mounts, ballots_opening, ballot_move, ballots_after, no_turn, anchor_history}

-- A mount begins a ballot at the position at which it stands. A call that concerns an anchor may be one of any position: an ask that
-- outlives its position is answered in the position in which it was asked. Or something else happens at an anchor, as a sync's read.
pub data Doing : Type 0 where
  Ballots : (mount above : ℕ) (input : Option (List ℕ)) → Doing
  Acts : (mount position anchor : ℕ) (act : Act) → Doing
  Looks : (position : ℕ) (turn : AnchorTurn) → Doing

pub record BallotJournal : Type 0 where
  pub mounts : ℕ → Mounts  -- of each position
  pub list : ℕ → List (List ℕ)  -- of each mount: the values that it list_told as decided, one for each position below its own

abbrev pub new_journal : (anchors quorum : ℕ) → BallotJournal
new_journal anchors quorum = record { mounts = λ position. ballots_opening anchors quorum; list = λ mount. [] }

-- the position of a mount
abbrev pub position_of : BallotJournal → (mount : ℕ) → ℕ
position_of j mount = length (j.list mount)

-- what happens at a position. Whatever happens elsewhere is nothing here, so a moment is the same in each position
abbrev pub event_at : (position : ℕ) → BallotJournal → Doing → BallotEvent
event_at position j (Ballots mount above input) = if position == position_of j mount then Calls mount (Starts above input) else Otherwise no_turn
event_at position j (Acts mount other anchor act) = if position == other then Calls mount (At anchor act) else Otherwise no_turn
event_at position j (Looks other turn) = if position == other then Otherwise turn else Otherwise no_turn

-- the list goes on where a value is told as decided, and then the mount stands at the next position
abbrev pub list_told : List (List ℕ) → BallotStep → List (List ℕ)
list_told list (Decided value) = list ++ value ∷ []
list_told list _ = list

abbrev pub told_by : List (List ℕ) → Option Move → List (List ℕ)
told_by list None = list
told_by list (Some move) = list_told list move.step

-- a list changes only by a call of its mount in the position at which the mount stands
abbrev pub list_after : BallotJournal → Doing → (mount : ℕ) → List (List ℕ)
list_after j (Acts mount position anchor act) k =
    if k == mount
    then if position == position_of j mount then told_by (j.list mount) (ballot_move (j.mounts position) (Calls mount (At anchor act))) else j.list mount
    else j.list k
list_after j _ k = j.list k

abbrev pub journal_goes_on : BallotJournal → Doing → BallotJournal
journal_goes_on j doing = record { mounts = λ position. ballots_after (j.mounts position) (event_at position j doing); list = list_after j doing }

abbrev pub journal_from : BallotJournal → List Doing → BallotJournal
journal_from j [] = j
journal_from j (d ∷ ds) = journal_from (journal_goes_on j d) ds

-- the journal before a moment
abbrev pub journal_before : (anchors quorum : ℕ) → List Doing → (moment : ℕ) → BallotJournal
journal_before anchors quorum doings moment = journal_from (new_journal anchors quorum) (take moment doings)

abbrev pub events_from : (position : ℕ) → BallotJournal → List Doing → List BallotEvent
events_from position j [] = []
events_from position j (d ∷ ds) = event_at position j d ∷ events_from position (journal_goes_on j d) ds

abbrev pub events_at : (anchors quorum position : ℕ) → List Doing → List BallotEvent
events_at anchors quorum position doings = events_from position (new_journal anchors quorum) doings

-- what was answered and asked at the anchors in a position
abbrev pub history_at : (anchors quorum position : ℕ) → List Doing → List AnchorTurn
history_at anchors quorum position doings = anchor_history anchors quorum (events_at anchors quorum position doings)

-- the blocks of each anchor are registers, in each position
abbrev pub AreAllRegistersAt : (anchors quorum : ℕ) → List Doing → Type 0
AreAllRegistersAt anchors quorum doings = (position : ℕ) → AreAllRegisters anchors (history_at anchors quorum position doings)

-- the position is decided with the value
pub record IsDecidedAt (anchors quorum : ℕ) (doings : List Doing) (position : ℕ) (value : List ℕ) : Type 0 where
  pub ballot : ℕ
  pub decides : DecidesOver anchors quorum (history_at anchors quorum position doings) ballot value

-- some ballot that decides the position with this value had its reads answered before the moment
pub record IsDecidedBefore (anchors quorum : ℕ) (doings : List Doing) (position moment : ℕ) (value : List ℕ) : Type 0 where
  pub last : ℕ
  pub earlier : last < moment
  pub decided : IsDecidedOver anchors quorum (history_at anchors quorum position doings) last value

-- a mount puts in only what is not in its list
abbrev pub PutsInNew : (anchors quorum : ℕ) → List Doing → Type 0
PutsInNew anchors quorum doings = (moment mount above position : ℕ) (value : List ℕ) → slice_get doings moment ≡ Some (Ballots mount above (Some value))
    → slice_get ((journal_before anchors quorum doings moment).list mount) position ≢ Some value

-- A transaction list: the decided values of all positions that some mount has learnt. A ballot may decide by an answer that comes after
-- its mount was outrun. So the position right behind these can be decided while no mount has learnt it, and a transaction list has its
-- value or not. No later position is decided.
pub record IsTransactionList (anchors quorum : ℕ) (doings : List Doing) (list : List (List ℕ)) : Type 0 where
  pub decided : (position : ℕ) (value : List ℕ) → slice_get list position ≡ Some value → IsDecidedAt anchors quorum doings position value
  pub longest : (mount : ℕ) → length ((journal_from (new_journal anchors quorum) doings).list mount) ≤ length list
  pub ends : (position : ℕ) (value : List ℕ) → length list < position → IsDecidedAt anchors quorum doings position value → ⊥

-- a mount begins a ballot only where none of its own runs at its position
abbrev pub BeginsAtRest : (anchors quorum : ℕ) → List Doing → Type 0
BeginsAtRest anchors quorum doings =
    (moment mount above : ℕ) (input : Option (List ℕ))
    → slice_get doings moment ≡ Some (Ballots mount above input)
    → let j = journal_before anchors quorum doings moment in (j.mounts (position_of j mount) mount).phase ≡ Resting
