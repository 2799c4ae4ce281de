-- A sector as a register: its writes stand in one list, and each read shows a first part of that list.
use Rattle.std.specs.Prelude.{◌≡◌, ℕ, zero, suc, ◌<◌, ◌≤◌, List, [], ◌∷◌, length, Option, Some, None}
use Rattle.pf_entry.specs.Ops.{Sector, zero_sector}

-- what the first so many writes leave, one over the other
abbrev pub left_by_writes : (old : Sector) → List Sector → ℕ → Sector
left_by_writes old values zero = old
left_by_writes old [] (suc n) = old
left_by_writes old (value ∷ values) (suc n) = left_by_writes value values n

-- What is written stands in one list, by places from 0 on, and a read shows the writes of so many first places: what it gives is what
-- they leave. A write that was acknowledged before a read was taken up is shown by it; what a read shows is shown by each read that is
-- taken up after its answer; and no read shows a write that was not asked before its answer. Whatever serves the sector says what these
-- four mean: a read gives these bytes, a read was answered before another was taken up, the write of a place was acknowledged before a
-- read was taken up, and it was asked before a read was answered
pub record IsRegister {R : Type 0} (values : List Sector) (shown : R → ℕ) (Gives : R → Sector → Type 0) (IsAnsweredBefore : R → R → Type 0)
    (IsAckedBefore : ℕ → R → Type 0) (IsAskedBefore : ℕ → R → Type 0) : Type 0 where
  pub within : (read : R) → shown read ≤ length values
  pub gives : (read : R) (bytes : Sector) → Gives read bytes → bytes ≡ left_by_writes zero_sector values (shown read)
  pub acked : (read : R) (place : ℕ) → IsAckedBefore place read → place < shown read
  pub grows : (read later : R) → IsAnsweredBefore read later → shown read ≤ shown later
  pub asked : (read : R) (place : ℕ) → place < shown read → IsAskedBefore place read

abbrev pub IsAtLeast : Option ℕ → ℕ → Type 0
IsAtLeast None write = ⊥
IsAtLeast (Some shown) write = write ≤ shown

abbrev pub IsNotBelow : (later earlier : Option ℕ) → Type 0
IsNotBelow later None = Unit {0}
IsNotBelow later (Some write) = IsAtLeast later write

-- the bytes are those of this write, or zeros where there is none
abbrev pub AreOf : (ℕ → Sector → Type 0) → Option ℕ → Sector → Type 0
AreOf HasBytes None bytes = bytes ≡ zero_sector
AreOf HasBytes (Some write) bytes = HasBytes write bytes

-- A register where one alone writes, whose writes have numbers that ascend in the order in which they are asked: each read shows one of its
-- writes, or none, and gives its bytes, or zeros. That write is not below one that was acknowledged before the read was taken up, nor
-- below the one of a read that was answered before, and it was asked before the answer
pub record IsOwnRegister {R : Type 0} (HasBytes : ℕ → Sector → Type 0) (shown : R → Option ℕ) (Gives : R → Sector → Type 0) (IsAnsweredBefore : R → R → Type 0)
    (IsAckedBefore : ℕ → R → Type 0) (IsAskedBefore : ℕ → R → Type 0) : Type 0 where
  pub gives : (read : R) (bytes : Sector) → Gives read bytes → AreOf HasBytes (shown read) bytes
  pub acked : (read : R) (write : ℕ) → IsAckedBefore write read → IsAtLeast (shown read) write
  pub grows : (read later : R) → IsAnsweredBefore read later → IsNotBelow (shown later) (shown read)
  pub asked : (read : R) (write : ℕ) → shown read ≡ Some write → IsAskedBefore write read
