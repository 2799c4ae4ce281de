-- Sets of slots.
use Rattle.std.specs.Prelude.{◌≡◌, ℕ, ◌+◌, ◌<◌, ◌≤◌, true, false, List, ◌++◌, length, slice_index, Result, All, ◌^◌, refl}
use Rattle.std.specs.Result.{MatchResult}
use Rattle.std.specs.List.{range_with_len}
use Rattle.std.specs.Coded.{Coded, code_by, coded×, coded_ℕ}
use Rattle.pf_entry.specs.Maps.{Numbers}
use Rattle.pf_entry.specs.Sets

-- a set, and how many slots it takes before it wants memory
pub record SlotTable : Type 0 where
  pub slots : Numbers
  pub spare : ℕ

-- how these values are told apart
abbrev pub slot_table_code : Coded SlotTable
slot_table_code = code_by (Numbers × ℕ) (coded× Sets.code coded_ℕ) (λ t. (t.slots, t.spare)) (λ p. record { slots = p.0; spare = p.1 }) (λ _. refl)

-- the slots from 1 to `upto`, and single ones
abbrev pub slots_upto : ℕ → List ℕ → Numbers
slots_upto upto singles = Sets.from_items (range_with_len 1 upto ++ singles)

-- each is greater than the one before
abbrev pub SlotsAreRising : List ℕ → Type 0
SlotsAreRising slots = (i j : ℕ) → i < j → j < length slots → slice_index slots i < slice_index slots j

-- where the slot stands in a rising list, or would stand
abbrev pub IsPlaceIn : List ℕ → ℕ → Result ℕ ℕ → Type 0
IsPlaceIn slots slot place = MatchResult place
    (λ i. (i < length slots) × (slice_index slots i ≡ slot))
    (λ i. (i ≤ length slots) × ((k : ℕ) → k < i → slice_index slots k < slot) × ((k : ℕ) → i ≤ k → k < length slots → slot < slice_index slots k))

-- each but 0, which is no slot of a log, is above the given one
abbrev pub AreAbove : ℕ → List ℕ → Type 0
AreAbove slot slots = All (λ s. 0 < s → slot < s) slots

-- single slots in order, of which none joins the prefix
pub record AreSingle (upto : ℕ) (singles : List ℕ) : Type 0 where
  pub rising : SlotsAreRising singles
  pub apart : AreAbove (upto + 1) singles
  pub fits : All (λ s. s < 2 ^ 64) singles

-- the greatest slot up to which all slots are in the set
pub record IsUpto (slots : Numbers) (upto : ℕ) : Type 0 where
  pub reached : (q : ℕ) → 0 < q → q ≤ upto → Sets.contains slots q ≡ true
  pub ended : Sets.contains slots (upto + 1) ≡ false
