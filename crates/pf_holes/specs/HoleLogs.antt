-- Logs with holes.
use Rattle.std.specs.Prelude.{◌≡◌, ℕ, ◌<◌, ◌≤◌, true, false, Some, refl}
use Rattle.std.specs.Coded.{Coded, code_by, coded×, coded_ℕ}
use Rattle.std.specs.FinMap
use Rattle.pf_entry.specs.declared.entries.Entry.{Entry}
use Rattle.pf_entry.specs.Maps.{Map, Numbers}
use Rattle.pf_entry.specs.Sets
use Rattle.pf_entry.specs.EntryMaps.{entry_code}
use Rattle.pf_holes.specs.Windows.{SlotsAreWithin}

-- the entries above a base, and the slots of those that are committed
pub record Holes : Type 0 where
  pub base : ℕ
  pub entries : Map Entry
  pub committed : Numbers

-- how these values are told apart
abbrev pub holes_code : Coded Holes
holes_code =
    code_by (ℕ × (Map Entry × Numbers)) (coded× coded_ℕ (coded× (FinMap.code coded_ℕ entry_code) Sets.code))
    (λ h. (h.base, (h.entries, h.committed)))
    (λ p. record { base = p.0; entries = p.1.0; committed = p.1.1 })
    (λ _. refl)

-- what is held stands under its own slot, in the window and not past the last slot, and what is committed is held
pub record LogIsHeld (base last : ℕ) (entries : Map Entry) (committed : Numbers) : Type 0 where
  pub within : SlotsAreWithin base entries
  pub upto : (q : ℕ) → FinMap.contains_key entries q ≡ true → q ≤ last
  pub keyed : (q : ℕ) (e : Entry) → FinMap.get entries q ≡ Some e → e.slot ≡ q
  pub held : (q : ℕ) → Sets.contains committed q ≡ true → FinMap.contains_key entries q ≡ true

-- the least slot above the given one that is held
pub record IsNextSlot (entries : Map Entry) (after slot : ℕ) : Type 0 where
  pub above : after < slot
  pub held : FinMap.contains_key entries slot ≡ true
  pub first : (q : ℕ) → after < q → q < slot → FinMap.contains_key entries q ≡ false
