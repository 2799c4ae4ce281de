-- Reads that wait for an answer.
use Rattle.std.specs.Prelude.{◌≡◌, ℕ, ◌<◌, ◌≤◌, Bool, true, false, not, ◌&&◌, ◌==◌, if◌then◌else◌, nat_lt, IsTrue, List, length, map, slice_index_or, Option, Some, None, refl}
use Rattle.std.specs.List.{count_by, list_all, remove}
use Rattle.std.specs.Coded.{Coded, code_by, coded×, coded_ℕ, coded_bool}
use Rattle.pf_base.specs.Span.{Span}
use Rattle.pf_entry.specs.Maps.{Numbers}
use Rattle.pf_entry.specs.Sets
use Rattle.pf_entry.specs.EntryMaps.{span_code}
use Rattle.pf_holes.specs.SlotSets.{SlotsAreRising}
use Rattle.pf_election.specs.declared.probes.ProbedRead.{ProbedRead}

-- how these values are told apart
abbrev pub read_code : Coded ProbedRead
read_code =
    code_by (ℕ × (Span × (Numbers × Bool))) (coded× coded_ℕ (coded× span_code (coded× Sets.code coded_bool)))
    (λ r. (r.number, (r.range, (r.named, r.confirmed))))
    (λ p. record { number = p.0; range = p.1.0; named = p.1.1.0; confirmed = p.1.1.1 })
    (λ _. refl)

-- its leader was confirmed after it was asked, and every slot that it named is applied
abbrev pub is_read_ready : (ℕ → Bool) → ProbedRead → Bool
is_read_ready applied r = r.confirmed && list_all applied (Sets.items r.named)

-- how many are confirmed
abbrev pub confirmed_in : List ProbedRead → ℕ
confirmed_in reads = count_by (λ r. r.confirmed) reads

abbrev pub read_numbers : List ProbedRead → List ℕ
read_numbers reads = map (λ r. r.number) reads

-- so many are confirmed, and they are in the order of their numbers where that is noted
pub record AreKept (reads : List ProbedRead) (confirmed : ℕ) (in_order : Bool) : Type 0 where
  pub counted : confirmed ≡ confirmed_in reads
  pub order : IsTrue in_order → SlotsAreRising (read_numbers reads)

abbrev pub is_above : ℕ → Option ℕ → Bool
is_above number None = true
is_above number (Some after) = nat_lt after number

-- not confirmed, and above the number where one is given
abbrev pub is_unconfirmed : Option ℕ → ProbedRead → Bool
is_unconfirmed after r = not r.confirmed && is_above r.number after

-- the read of this number is confirmed
abbrev pub confirm_by_number : ℕ → ProbedRead → ProbedRead
confirm_by_number number r = if r.number == number then record r { confirmed = true } else r

-- the read stands at this place
abbrev pub IsReadAt : List ProbedRead → ℕ → ProbedRead → Type 0
IsReadAt reads place r = slice_index_or reads place r ≡ r

-- of the first n reads, the one at this place passes the test, and no other that does has a lower number
pub record IsLeastAt (passes : ProbedRead → Bool) (reads : List ProbedRead) (n place : ℕ) : Type 0 where
  pub inside : place < n
  pub here : (r : ProbedRead) → IsReadAt reads place r → passes r ≡ true
  pub least : (r other : ProbedRead) (k : ℕ) → IsReadAt reads place r → k < n → IsReadAt reads k other → passes other ≡ true → r.number ≤ other.number

-- a lower number than the read at the other place has, if one is given
abbrev pub IsLower : List ProbedRead → (place : ℕ) → Option ℕ → Bool → Type 0
IsLower reads place None lower = lower ≡ true
IsLower reads place (Some k) lower = (r other : ProbedRead) → IsReadAt reads place r → IsReadAt reads k other → lower ≡ nat_lt r.number other.number

-- the place of the least that passes, or none where none does
abbrev pub IsLeastPlace : (passes : ProbedRead → Bool) → List ProbedRead → (n : ℕ) → Option ℕ → Type 0
IsLeastPlace passes reads n None = (r : ProbedRead) (k : ℕ) → k < n → IsReadAt reads k r → passes r ≡ false
IsLeastPlace passes reads n (Some place) = IsLeastAt passes reads n place

-- no read passes
abbrev pub NonePasses : (ProbedRead → Bool) → List ProbedRead → Type 0
NonePasses passes reads = IsLeastPlace passes reads (length reads) None

-- the least read that passes has this number, and this range
pub record ReadIsTaken (passes : ProbedRead → Bool) (reads : List ProbedRead) (number : ℕ) (range : Span) (rest : List ProbedRead) : Type 0 where
  pub place : ℕ
  pub read : ProbedRead
  pub least : IsLeastAt passes reads (length reads) place
  pub at : IsReadAt reads place read
  pub number_is : number ≡ read.number
  pub range_is : range ≡ read.range
  pub others : rest ≡ remove reads place

-- the least number of those that pass
pub record IsLeastNumber (passes : ProbedRead → Bool) (reads : List ProbedRead) (number : ℕ) : Type 0 where
  pub place : ℕ
  pub least : IsLeastAt passes reads (length reads) place
  pub is : (r : ProbedRead) → IsReadAt reads place r → number ≡ r.number
