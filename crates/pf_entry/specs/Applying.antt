-- Applying out of order: what is free, what is reached, and what the sectors then hold.
use Rattle.std.specs.Prelude.{◌≡◌, ℕ, zero, suc, ◌-◌, ◌<◌, Bool, true, false, cond, not, ◌&&◌, ◌||◌, List, Option, Some, None, ◌==◌, nat_le}
use Rattle.std.specs.List.{list_any, list_all, range_with_len, Contains}
use Rattle.pf_entry.specs.Maps.{Numbers}
use Rattle.pf_entry.specs.Sets
use Rattle.pf_base.specs.Span.{Span, overlaps}
use Rattle.pf_entry.specs.declared.ops.Op.{Op}
use Rattle.pf_entry.specs.Ops.{Sector, range_of, writes, written}
use Rattle.pf_entry.specs.declared.entries.Entry.{Entry}
use Rattle.pf_entry.specs.declared.entries.Named.{Named}

-- slots up to the checkpoint count as applied
abbrev pub is_applied : ℕ → Numbers → ℕ → Bool
is_applied base applied slot = nat_le slot base || Sets.contains applied slot

-- the list names the slot with a range that shares no sector with this one
abbrev pub Passes : List Named → ℕ → Span → Type 0
Passes look slot range = (n : Named) × (Contains look n) × (n.slot ≡ slot) × (overlaps n.range range ≡ false)

abbrev pub passes : List Named → ℕ → Span → Bool
passes look slot range = list_any (λ n. n.slot == slot && not (overlaps n.range range)) look

-- each earlier slot is applied, or the entry's list lets it be passed
abbrev pub IsFree : (ℕ → Bool) → Entry → Type 0
IsFree done e = (p : ℕ) → 0 < p → p < e.slot → done p ≡ false → passes e.look p (range_of e.op) ≡ true

-- whether each earlier slot is applied or may be passed, as a test
unfoldable pub is_free : (ℕ → Bool) → Entry → Bool
is_free done e = list_all (λ p. done p || passes e.look p (range_of e.op)) (range_with_len 1 (e.slot - 1))

-- reached by applying, one after another, committed slots that are free
pub data Reached (log : ℕ → Option Entry) (committed : ℕ → Bool) (start : ℕ → Bool) : (ℕ → Bool) → Type 0 where
  Begin : Reached log committed start start
  Next : {done : ℕ → Bool} → Reached log committed start done → (e : Entry) → log e.slot ≡ Some e → committed e.slot ≡ true → IsFree done e
      → Reached log committed start (λ p. (p == e.slot) || done p)

-- the closure: every set that is closed and begins with the applied slots has the slot
abbrev pub InClosure : (ℕ → Option Entry) → (ℕ → Bool) → (ℕ → Bool) → ℕ → Type 0
InClosure log committed start slot =
    (done : ℕ → Bool) → ((p : ℕ) → start p ≡ true → done p ≡ true) → ((e : Entry) → log e.slot ≡ Some e → committed e.slot ≡ true → IsFree done e
    → done e.slot ≡ true) → done slot ≡ true

-- one sector after the slot's op
abbrev pub after_op : Option Op → ℕ → Sector → Sector
after_op None x old = old
after_op (Some op) x old = cond (writes op x) (written op x old) old

-- one sector after the slots 1 to n, of those applied
abbrev pub fold_to : (ℕ → Option Op) → (ℕ → Bool) → ℕ → Sector → ℕ → Sector
fold_to chosen done x zeros zero = zeros
fold_to chosen done x zeros (suc n) =
    let before = fold_to chosen done x zeros n in
    cond (done (suc n)) (after_op (chosen (suc n)) x before) before
