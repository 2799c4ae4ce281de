use Rattle.std.proofs.Common.{◌≡◌, ℕ, ◌<◌, ◌≤◌, true}
use Rattle.pf_entry.specs.Sets as set
use Rattle.pf_holes.proofs.FreeTests.{lets}
use Rattle.pf_holes.proofs.freedom.is_free.Given as goal

abbrev pub invariant-loop-slot : goal.invariant-loop-slot
invariant-loop-slot l = (p : ℕ) → 0 < p → p ≤ l.slot → lets (set.contains l.applied.slots) l.entry p ≡ true
