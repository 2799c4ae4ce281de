-- Acknowledged slots that are found without going through all of them.
use Rattle.std.specs.Prelude.{◌≡◌, ℕ, ◌<◌, ◌≤◌, Bool, ◌==◌, ◌&&◌, List, Vec, vec_capacity, vec_len}
use Rattle.std.specs.List.{list_any}
use Rattle.std.specs.HashSet.{HashSet, keys, spare}
use Rattle.pf_group_network.specs.declared.kept.Acked.{Acked}

-- a term, and a slot
abbrev pub TermSlot : Type 0
TermSlot = ℕ × ℕ

abbrev pub is_place : (term slot : ℕ) → TermSlot → Bool
is_place term slot p = term == p.0 && slot == p.1

-- this slot, in this term
abbrev pub is_acked_at : (term slot : ℕ) → Acked → Bool
is_acked_at term slot a = a.term == term && a.slot == slot

-- the set has those of the list, and no others
abbrev pub IsFoundIn : {H : Type 0} → HashSet TermSlot H → List Acked → Type 0
IsFoundIn known list = (term slot : ℕ) → list_any (is_place term slot) (keys known) ≡ list_any (is_acked_at term slot) list

-- there is room for one more
abbrev pub AckedHasRoom : {V H : Type 0} → Vec Acked V → HashSet TermSlot H → Type 0
AckedHasRoom list known = (vec_len list < vec_capacity list) × (1 ≤ spare known)
