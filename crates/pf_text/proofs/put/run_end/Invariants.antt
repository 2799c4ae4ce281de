use Rattle.std.proofs.Common.{◌≡◌, ℕ, ◌-◌, ◌<◌, ◌≤◌, List, length, slice_index}
use Rattle.pf_text.proofs.put.run_end.Given as goal

-- from one place to the other each byte is the first
pub record IsAlike (xs : List ℕ) (at end : ℕ) : Type 0 where
  pub above : at ≤ end
  pub within : end ≤ length xs
  pub each : (k : ℕ) → at ≤ k → k < end → slice_index xs k ≡ slice_index xs at

abbrev pub invariant-loop-end : goal.invariant-loop-end
invariant-loop-end l = IsAlike l.bytes l.at l.end

abbrev pub decreases-loop-end : goal.decreases-loop-end
decreases-loop-end l = length l.bytes - l.end

abbrev pub invariant-loop-end-2 : goal.invariant-loop-end-2
invariant-loop-end-2 l = IsAlike l.bytes l.at l.end

abbrev pub decreases-loop-end-2 : goal.decreases-loop-end-2
decreases-loop-end-2 l = length l.bytes - l.end
