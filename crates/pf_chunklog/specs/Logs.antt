-- What a log promises of its disk.
use Rattle.std.specs.Prelude.{ℕ, ◌+◌, ◌≤◌, ◌≡◌, ◌⊎◌, Option, List, [], ◌∷◌, ◌++◌, length}
use Rattle.pf_disk.specs.Crashes.{Images, KeepsImages, Only}
use Rattle.pf_chunklog.specs.Records.{Raw, HalfHolds, blocks}

-- The records end at the closed gate that is the last of so many bytes, and a crash leaves the file as it is read.
pub record LogIsAtRest (head : List ℕ) (used : ℕ) (images : Images) (records : List Raw) (file : List ℕ) : Type 0 where
  pub held : HalfHolds head records file
  pub size : used ≡ length head + length (blocks records) + 1
  pub durable : Only file images

-- a file that holds these records, with one more or without
abbrev pub BeforeOrAfter : List ℕ → List Raw → Raw → List ℕ → Type 0
BeforeOrAfter head records raw file = HalfHolds head records file ⊎ HalfHolds head (records ++ raw ∷ []) file

-- A crash at any moment since old leaves a file that has P.
pub record LeavesOnly {D : Type 0} (moment : D → ℕ) (left_since : D → ℕ → Images) (old new : D) (P : Images) : Type 0 where
  pub later : moment old ≤ moment new
  pub each : (c : List ℕ) → left_since new (moment old) c → P c
  -- for a run that began earlier
  pub before : (t : ℕ) (c : List ℕ) → t ≤ moment old → left_since new t c → left_since old t c ⊎ P c

-- Calls that wrote nothing: a read gives the same, and a crash leaves what one before them might have left.
pub record IsOnlyRead {D : Type 0} (seen : D → Option (List ℕ)) (may_leave : D → Images) (old new : D) : Type 0 where
  pub same : seen new ≡ seen old
  pub keeps : KeepsImages (may_leave old) (may_leave new)

-- What a crash inside `format` leaves: a front of a file that one before might have left, or at most the head and a gate.
abbrev pub IsCleared : Images → Images
IsCleared old file = ((whole : List ℕ) × (rest : List ℕ) × old whole × (whole ≡ file ++ rest)) ⊎ (length file ≤ 9)
