use Rattle.std.proofs.Common.{◌≡◌, ℕ, ◌<◌, ◌≤◌, false}
use Rattle.std.specs.FinMap as map
use Rattle.pf_holes.proofs.log.HoleLog.next_after.Given as goal

abbrev pub invariant-loop-slot : goal.invariant-loop-slot
invariant-loop-slot l = (q : ℕ) → l.after < q → q ≤ l.slot → map.contains_key l.self.entries q ≡ false
