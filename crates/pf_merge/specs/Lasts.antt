-- The last slot of a log in which an entry is left.
use Rattle.std.specs.Prelude.{◌≡◌, ℕ, ◌≤◌, ◌⊎◌, true, Some}
use Rattle.std.specs.FinMap
use Rattle.pf_entry.specs.Maps.{Map}
use Rattle.pf_entry.specs.declared.entries.Entry.{Entry}
use Rattle.pf_entry.specs.declared.entries.VoteLog.{VoteLog}
use Rattle.pf_merge.specs.Staying.{entry_stays}

-- an entry of the log that is left, at this slot
abbrev pub IsLeftAt : ℕ → VoteLog → VoteLog → Map Entry → ℕ → Type 0
IsLeftAt base own other log slot = (e : Entry) × (FinMap.get log slot ≡ Some e) × (e.slot ≡ slot) × (entry_stays base own other e ≡ true)

-- the greatest slot at which an entry is left, or the checkpoint where none is
pub record IsLastSlot (base : ℕ) (own other : VoteLog) (log : Map Entry) (last : ℕ) : Type 0 where
  pub above : base ≤ last
  pub upto : (slot : ℕ) (e : Entry) → FinMap.get log slot ≡ Some e → (e.slot ≡ slot) × (entry_stays base own other e ≡ true → slot ≤ last)
  pub met : (last ≡ base) ⊎ IsLeftAt base own other log last
