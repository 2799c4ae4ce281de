-- How records stand in a half of a chunk log.
use Rattle.std.specs.Prelude.{ℕ, ◌<◌, ◌^◌, ◌≡◌, ◌≢◌, List, [], ◌∷◌, ◌++◌, length, unwrap_or}
use Rattle.std.specs.List.{All}
use Rattle.std.specs.Int.{w32, w64, to_be_bytes}
use Rattle.pf_base.specs.Numbers.{number_at}

-- a kind and a payload
abbrev pub Raw : Type 0
Raw = ℕ × List ℕ

-- the kind, the length as four bytes, the highest first, and the payload
abbrev pub record_spelled : Raw → List ℕ
record_spelled raw = raw.0 ∷ to_be_bytes w32 (length raw.1) ++ raw.1

-- what a caller appends: a record, and the closed gate of the next
abbrev pub body_of : Raw → List ℕ
body_of raw = record_spelled raw ++ 0 ∷ []

-- records with their open gates
abbrev pub blocks : List Raw → List ℕ
blocks [] = []
blocks (raw ∷ records) = 1 ∷ record_spelled raw ++ blocks records

-- four bytes hold the length of the payload
abbrev pub RecordIsSized : Raw → Type 0
RecordIsSized raw = length raw.1 < 2 ^ 32

-- The records of a half: from its head on up to the first closed gate, whatever stands behind it.
pub record HalfHolds (head : List ℕ) (records : List Raw) (file : List ℕ) : Type 0 where
  pub gate : ℕ
  pub rest : List ℕ
  pub closed : gate ≢ 1
  pub sized : All RecordIsSized records
  pub split : file ≡ head ++ blocks records ++ gate ∷ rest

-- the file begins with this head, and a closed gate ends its records
abbrev pub IsOurs : List ℕ → List ℕ → Type 0
IsOurs head file = (records : List Raw) × HalfHolds head records file

-- the number in the first eight bytes of the first record's payload: before it stand the head, a gate, the kind and the length
abbrev pub first_number : List ℕ → ℕ
first_number file = unwrap_or (number_at w64 file 14) 0
