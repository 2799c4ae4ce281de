-- The part of a log above a slot.
use Rattle.std.proofs.Common.{◌≡◌, ℕ, ◌+◌, ◌≤◌, true, nat_lt, arith, ◌∙◌}
use Rattle.std.specs.FinMap
use Rattle.std.proofs.lemmas.Bool.{cond-true}
use Rattle.std.proofs.lemmas.Bool.Decides.{nat_tests}
use Rattle.pf_entry.specs.Maps.{Map}
use Rattle.pf_entry.specs.Records.{above}
use Rattle.pf_entry.proofs.Maps.{get_above}
use Rattle.pf_entry.specs.declared.entries.Entry.{Entry}
use Rattle.pf_holes.specs.Windows.{SlotsAreWithin}
use Rattle.pf_holes.proofs.HoleLogs.{key_above}

before_next : (base slot : ℕ) → base ≤ slot → nat_lt base (slot + 1) ≡ true
before_next base slot le = grind (arith, nat_tests)

pub above_next : (log : Map Entry) (base slot : ℕ) → base ≤ slot → FinMap.get (above base log) (slot + 1) ≡ FinMap.get log (slot + 1)
unfolding above
above_next log base slot le = get_above log base (slot + 1) ∙ cond-true _ _ _ (before_next base slot le)

pub above_within : (log : Map Entry) (low base : ℕ) → low ≤ base → SlotsAreWithin low log → SlotsAreWithin base (above base log)
unfolding above
above_within log low base le within q has =
    let h = key_above log base q has in
    (h.0, omega (arith, (within q h.1).1, le))

pub above_held : (log : Map Entry) (base q : ℕ) → FinMap.contains_key (above base log) q ≡ true → FinMap.contains_key log q ≡ true
unfolding above
above_held log base q has = (key_above log base q has).1

pub above_upto : (log : Map Entry) (low base q : ℕ) → SlotsAreWithin low log → FinMap.contains_key (above base log) q ≡ true → q ≤ low + 4096
above_upto log low base q within has = (within q (above_held log base q has)).1
