-- Decisions over anchors, by what was answered and asked at the anchors alone.
use Rattle.std.specs.Prelude.{◌≡◌, ℕ, ◌<◌, ◌≤◌, ◌==◌, if◌then◌else◌, List, length, map, Some, slice_get}
use Rattle.pf_paxos.specs.Registers.{Turn, AreRegisters}
use Rattle.pf_paxos.specs.Runs.{idle_turn}
use Rattle.pf_paxos.specs.Deciding.{Decides}
use Rattle.pf_paxos.specs.Syncs.{FindsNothing}

-- a turn of a client at an anchor
pub record AnchorTurn : Type 0 where
  pub anchor : ℕ
  pub turn : Turn

-- A history is the list of all turns at the anchors in their order. What happens at another anchor is nothing at this one, so a moment is
-- the same at each.
abbrev pub turn_on : (anchor : ℕ) → AnchorTurn → Turn
turn_on anchor t = if t.anchor == anchor then t.turn else idle_turn

abbrev pub turns_on : (anchor : ℕ) → List AnchorTurn → List Turn
turns_on anchor history = map (turn_on anchor) history

-- the blocks of each of so many anchors are registers
abbrev pub AreAllRegisters : (anchors : ℕ) → List AnchorTurn → Type 0
AreAllRegisters anchors history = (anchor : ℕ) → anchor < anchors → AreRegisters (turns_on anchor history)

-- no anchor stands twice in the list
abbrev pub AreOtherAnchors : List ℕ → Type 0
AreOtherAnchors list = (place other anchor : ℕ) → slice_get list place ≡ Some anchor → slice_get list other ≡ Some anchor → place ≡ other

-- the list has a quorum: so many different ones of so many anchors
pub record HasQuorum (anchors quorum : ℕ) (list : List ℕ) : Type 0 where
  pub apart : AreOtherAnchors list
  pub many : quorum ≤ length list
  pub low : (place anchor : ℕ) → slice_get list place ≡ Some anchor → anchor < anchors

-- A ballot decides a value if at each anchor of a quorum its mount wrote (ballot, ballot, value), was answered, and then read all 16
-- blocks there and found no mbal above the ballot.
pub record DecidesOver (anchors quorum : ℕ) (history : List AnchorTurn) (ballot : ℕ) (value : List ℕ) : Type 0 where
  pub used : List ℕ
  pub is_quorum : HasQuorum anchors quorum used
  pub each : (place anchor : ℕ) → slice_get used place ≡ Some anchor → Decides (turns_on anchor history) ballot value

-- by this moment the position was decided with this value: some ballot decides it, and its reads were answered then or before
pub record IsDecidedOver (anchors quorum : ℕ) (history : List AnchorTurn) (moment : ℕ) (value : List ℕ) : Type 0 where
  pub ballot : ℕ
  pub decides : DecidesOver anchors quorum history ballot value
  pub low_by : (place anchor : ℕ) (at : slice_get decides.used place ≡ Some anchor) → (decides.each place anchor at).low.answered ≤ moment
  pub high_by : (place anchor : ℕ) (at : slice_get decides.used place ≡ Some anchor) → (decides.each place anchor at).high.answered ≤ moment

-- a sync that ends: at each anchor of a quorum it read both halves, and found no nonzero bal
pub record FindsNothingOver (anchors quorum : ℕ) (history : List AnchorTurn) (from : ℕ) : Type 0 where
  pub used : List ℕ
  pub is_quorum : HasQuorum anchors quorum used
  pub each : (place anchor : ℕ) → slice_get used place ≡ Some anchor → FindsNothing (turns_on anchor history) from

-- at some anchor of its quorum the deciding ballot's write of phase 2 was answered after this moment
pub record IsOpenAt {anchors quorum : ℕ} {history : List AnchorTurn} {ballot : ℕ} {value : List ℕ} (d : DecidesOver anchors quorum history ballot value)
    (moment : ℕ) : Type 0 where
  pub place : ℕ
  pub anchor : ℕ
  pub at : slice_get d.used place ≡ Some anchor
  pub later : moment < (d.each place anchor at).answered
