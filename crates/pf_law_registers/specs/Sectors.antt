-- A sector of a group as a register.
use Rattle.std.specs.Prelude.{◌≡◌, ℕ, ◌+◌, ◌<◌, ◌≤◌, ◌↔◌, true, List, [], ◌∷◌, ◌++◌, Some, slice_get}
use Rattle.pf_entry.specs.Ops.{Sector}
use Rattle.pf_protocol.specs.Servers.{Setup}
use Rattle.pf_protocol.specs.Groups.{Acked, Answered}
use Rattle.pf_protocol.specs.Histories.{History, IsPrefix, replay}
use Rattle.pf_protocol.specs.Fresh.{IsFetch, shows_slot}
use Rattle.pf_protocol.specs.Ports.{Submission, submitting, WriteHasEnded, ComesFrom}
use Rattle.pf_law_registers.specs.Registers.{IsRegister}
use Rattle.pf_law_registers.specs.Orders.{Member, IsOrder, values_of}

-- an answered read gives the sector these bytes
pub record ReadGives (setup : Setup) (history : History) (x : ℕ) (a : Answered) (bytes : Sector) : Type 0 where
  pub k : ℕ
  pub answered : slice_get (replay setup history).answered k ≡ Some a
  pub nth : ℕ  -- of the sectors of its range
  pub is_sector : x ≡ a.range.first + nth
  pub has : slice_get a.bytes nth ≡ Some bytes

-- the read, which covers the sector, was taken up after these events
pub record IsTakenUp (setup : Setup) (history : History) (x : ℕ) (read : Answered) : Type 0 where
  pub bytes : Sector
  pub gives : ReadGives setup history x read bytes
  pub before : History
  pub fetched : IsFetch setup history read.number read.server read.range before

-- a read was answered before this one was taken up
pub record IsAnsweredBefore (setup : Setup) (history : History) (x : ℕ) (read later : Answered) : Type 0 where
  pub taken : IsTakenUp setup history x later
  pub k : ℕ
  pub answered : slice_get (replay setup taken.before).answered k ≡ Some read

-- the write of this place was acknowledged before this read was taken up
pub record IsAckedBefore (setup : Setup) (history : History) (x : ℕ) (order : List Member) (place : ℕ) (read : Answered) : Type 0 where
  pub taken : IsTakenUp setup history x read
  pub k : ℕ
  pub acked : Acked
  pub was_acked : slice_get (replay setup taken.before).acked k ≡ Some acked
  pub member : Member
  pub there : slice_get order place ≡ Some member
  pub in_slot : acked.slot ≡ member.slot

-- the write of this place comes from a submission that was made by now
pub record IsWriteAsked (setup : Setup) (now : History) (order : List Member) (place : ℕ) : Type 0 where
  pub member : Member
  pub there : slice_get order place ≡ Some member
  pub submission : Submission
  pub made : IsPrefix (submission.before ++ submitting submission ∷ []) now
  pub comes : ComesFrom setup now member.slot submission

-- at each moment at which the read is answered
abbrev pub IsAskedBefore : Setup → History → List Member → (place : ℕ) → Answered → Type 0
IsAskedBefore setup history order place read = (now : History) (k : ℕ) → IsPrefix now history → slice_get (replay setup now).answered k ≡ Some read
    → IsWriteAsked setup now order place

-- the writes of a sector, and how many of them each read shows: those that the answering server had applied
pub record SectorRegister (setup : Setup) (history : History) (x : ℕ) : Type 0 where
  pub order : List Member
  pub is_order : IsOrder setup history x order
  pub shown : Answered → ℕ
  pub is_register : IsRegister (values_of order) shown (ReadGives setup history x) (IsAnsweredBefore setup history x) (IsAckedBefore setup history x order)
      (IsAskedBefore setup history order)
  pub had_applied : (k : ℕ) (a : Answered) (place : ℕ) (m : Member) → slice_get (replay setup history).answered k ≡ Some a → slice_get order place ≡ Some m
      → (place < shown a) ↔ (shows_slot a m.slot ≡ true)

-- the write of this place is a copy of this submission
pub record IsCopyAt (setup : Setup) (history : History) (order : List Member) (place : ℕ) (a : Submission) : Type 0 where
  pub member : Member
  pub there : slice_get order place ≡ Some member
  pub comes : ComesFrom setup history member.slot a

-- a port's writes stand in the order in which it asked them, and no place is of two of them
abbrev pub IsInPortsOrder : Setup → History → List Submission → List Member → Type 0
IsInPortsOrder setup history port order = (i j : ℕ) (a b : Submission) (first second : ℕ) → slice_get port i ≡ Some a → slice_get port j ≡ Some b
    → first ≤ second → IsCopyAt setup history order first a → IsCopyAt setup history order second b → a.write ≤ b.write

-- where a write of the port was acknowledged before another port handed on a write of its own, each copy of the first stands before
-- each of the second
abbrev pub IsInOrderBetween : Setup → History → List Submission → List Member → Type 0
IsInOrderBetween setup history port order = (i : ℕ) (a b : Submission) (first second : ℕ) → slice_get port i ≡ Some a
    → IsPrefix (b.before ++ submitting b ∷ []) history → WriteHasEnded setup port b.before a.write → IsCopyAt setup history order first a
    → IsCopyAt setup history order second b → first < second

-- the slot of the submission was acknowledged by now, and its op comes from the submission
pub record SubmissionIsPlaced (setup : Setup) (history now : History) (slot : ℕ) (a : Submission) : Type 0 where
  pub k : ℕ
  pub acked : Acked
  pub was_acked : slice_get (replay setup now).acked k ≡ Some acked
  pub in_slot : acked.slot ≡ slot
  pub comes : ComesFrom setup history acked.slot a

-- the read shows as many writes at an earlier moment of the history as later, and the same ones
pub record ShowsTheSame (setup : Setup) (earlier history : History) (x : ℕ) (old : SectorRegister setup earlier x) (new : SectorRegister setup history x)
    (a : Answered) : Type 0 where
  pub as_many : old.shown a ≡ new.shown a
  pub same : (place : ℕ) → place < old.shown a → slice_get old.order place ≡ slice_get new.order place
