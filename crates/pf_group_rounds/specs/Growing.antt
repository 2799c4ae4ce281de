-- More happens to a group, and each step that is cut off has its cause.
use Rattle.std.specs.Prelude.{◌≡◌, ◌⊎◌, ℕ, ◌+◌, ◌-◌, ◌^◌, ◌≤◌, IsTrue, List, length, Some, slice_get}
use Rattle.pf_protocol.specs.Histories.{IsPrefix}
use Rattle.pf_group.specs.Going.{WentBy}
use Rattle.pf_group.specs.GroupIs.{GroupIs}
use Rattle.pf_group_rounds.specs.Telling.{halt_count, halts_of_group}

-- a count that stands at its last value tells no more
abbrev pub IsLastCount : ℕ → Type 0
IsLastCount n = 2 ^ 64 - 1 ≤ n

-- Two disks of a server failed as often as its steps were cut off: of those n before and m now. No count fell.
pub record IsPaid (n m : ℕ) (was is : ℕ × ℕ) : Type 0 where
  pub zero : was.0 ≤ is.0
  pub one : was.1 ≤ is.1
  pub enough : (was.0 + was.1 + m ≤ is.0 + is.1 + n) ⊎ (IsLastCount is.0 ⊎ IsLastCount is.1)

-- so did those of each server
pub record ArePaid (n m : ℕ → ℕ) (was is : List (ℕ × ℕ)) : Type 0 where
  pub servers : length is ≡ length was
  pub each : (i : ℕ) (x y : ℕ × ℕ) → slice_get was i ≡ Some x → slice_get is i ≡ Some y → IsPaid (n i) (m i) x y

-- how often server i was halted, in the making of its group and in its steps
abbrev pub halts_in : GroupIs → (i : ℕ) → ℕ
halts_in g i = halt_count (halts_of_group g) g.number i

-- since an earlier moment
abbrev pub Pays : (old new : GroupIs) → Type 0
Pays old new = ArePaid (halts_in old) (halts_in new) old.faults new.faults

-- since the group was made on disks with these counts
abbrev pub IsPaidSince : List (ℕ × ℕ) → GroupIs → Type 0
IsPaidSince before g = ArePaid (λ i. 0) (halts_in g) before g.faults

-- More happened to the group, event by event. Where its disks tell their content, those of a server failed as often as its steps were cut off
pub record HasGrown (old new : GroupIs) : Type 0 where
  pub number : new.number ≡ old.number
  pub told : new.told ≡ old.told
  pub setup : new.setup ≡ old.setup
  pub later : IsPrefix old.history new.history
  pub paid : IsTrue old.told → Pays old new
  pub by : ∥ WentBy old new ∥₁
