-- What is kept of a step.
use Rattle.std.specs.Prelude.{ℕ, ◌<◌, false, List, [], ◌∷◌, length, Option, Some, None, slice_get, slice_set}
use Rattle.pf_entry.specs.Lists.{Every}
use Rattle.pf_entry.specs.Ops.{Sector}
use Rattle.pf_group_network.specs.declared.kept.Parcel.{Parcel}
use Rattle.pf_group_network.specs.declared.kept.Reading.{Reading}
use Rattle.pf_group_network.specs.Readings.{with_answer}

-- a packet that is neither delivered nor lost
abbrev pub fresh_parcel : List ℕ → Parcel
fresh_parcel bytes = record { bytes = bytes; delivered = false; lost = false }

-- the read in this place is answered
abbrev pub with_answer_in : List Reading → (place : ℕ) → List Sector → Option Reading → List Reading
with_answer_in readings place bytes (Some reading) = slice_set readings place (with_answer reading bytes)
with_answer_in readings place bytes None = readings

-- each of these reads is answered
abbrev pub with_answers : List Reading → List (ℕ × List Sector) → List Reading
with_answers readings [] = readings
with_answers readings (a ∷ rest) = with_answers (with_answer_in readings a.0 a.1 (slice_get readings a.0)) rest

-- there is a place for each
abbrev pub HavePlaces : List Reading → List (ℕ × List Sector) → Type 0
HavePlaces readings answers = Every (λ a. a.0 < length readings) answers
