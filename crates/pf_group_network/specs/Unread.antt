-- Reads whose answers can be taken out, found without going through the others.
use Rattle.std.specs.Prelude.{◌≡◌, ℕ, ◌+◌, ◌-◌, ◌<◌, ◌≤◌, List, Option, Some, None, slice_get, slice_set, sum_by}
use Rattle.pf_entry.specs.Ops.{Sector}
use Rattle.pf_group_network.specs.declared.kept.Reading.{Reading}
use Rattle.pf_group_network.specs.declared.kept.Reading.TheVariants.{Waiting, Answered, Taken}
use Rattle.pf_group_network.specs.Readings.{answer_in, without_answer}

-- the reads by their numbers, and the room that there is
pub record ReadingsAre : Type 0 where
  pub items : List Reading
  pub places : ℕ  -- for more reads
  pub free : ℕ  -- for the answers of more reads than those that wait

-- there is room for one read more
pub record ReadingsHaveRoom (readings : ReadingsAre) : Type 0 where
  pub place : 0 < readings.places
  pub answer : 0 < readings.free

abbrev pub IsNumberAmong : List ℕ → ℕ → Type 0
IsNumberAmong numbers number = (place : ℕ) × (slice_get numbers place ≡ Some number)

abbrev pub StaysAmong : (old new : List ℕ) → ℕ → Type 0
StaysAmong old new number = IsNumberAmong old number → IsNumberAmong new number

abbrev pub waits : Reading → ℕ
waits Waiting = 1
waits (Answered bytes) = 0
waits Taken = 0

-- the room that is left when each read that waits was answered
abbrev pub free_in : List Reading → (unread capacity : ℕ) → ℕ
free_in readings unread capacity = capacity - (unread + sum_by waits readings)

-- each read whose answer can be taken out is listed, and there is room for those that wait
pub record AreListed (readings : List Reading) (unread : List ℕ) (len capacity : ℕ) : Type 0 where
  pub listed : (number : ℕ) (bytes : List Sector) → slice_get readings number ≡ Some (Answered bytes) → IsNumberAmong unread number
  pub room : len + sum_by waits readings ≤ capacity

abbrev pub reading_answer : Option Reading → Option (List Sector)
reading_answer None = None
reading_answer (Some reading) = answer_in reading

-- the answer of the read in this place is taken out
abbrev pub without_answer_in : List Reading → (place : ℕ) → Option Reading → List Reading
without_answer_in readings place (Some reading) = slice_set readings place (without_answer reading)
without_answer_in readings place None = readings
