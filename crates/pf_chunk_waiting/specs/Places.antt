-- Reads in their places, some of which wait no more.
use Rattle.std.specs.Prelude.{◌≡◌, ℕ, Bool, true, IsTrue, List, map, filter, Option, Some, slice_get}
use Rattle.pf_entry.specs.Tables.{ascends}
use Rattle.pf_chunk_waiting.specs.declared.waiting.Waiting.{Waiting}
use Rattle.pf_chunk_waiting.specs.declared.places.ReadPlace.{ReadPlace}
use Rattle.pf_chunk_waiting.specs.Waiters.{are_in_terms, waiting_numbers}

abbrev pub place_numbers : List ReadPlace → List ℕ
place_numbers places = map (λ p. p.read.number) places

abbrev pub those_waiting : List ReadPlace → List Waiting
those_waiting places = map (λ p. p.read) (filter (λ p. p.waits) places)

-- the read of this number stands there, and waits
pub record IsPlaceOfRead (places : List ReadPlace) (number k : ℕ) : Type 0 where
  pub place : ReadPlace
  pub there : slice_get places k ≡ Some place
  pub waits : place.waits ≡ true
  pub is : place.read.number ≡ number

-- all are in the order of their numbers where those that wait are
abbrev pub AreOrdered : List ReadPlace → Type 0
AreOrdered places = ascends (waiting_numbers (those_waiting places)) ≡ true → ascends (place_numbers places) ≡ true

pub record AreKept (places : List ReadPlace) (terms : List (Option ℕ)) (in_terms : Bool) : Type 0 where
  pub ordered : AreOrdered places
  pub each_in_term : IsTrue in_terms → are_in_terms terms (those_waiting places) ≡ true
