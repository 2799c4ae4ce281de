use Rattle.std.proofs.Common.{◌≢◌, ◌≤◌, ℕ, length, slice_index}
use Rattle.pf_layout.proofs.path.last_slash.Given as goal

abbrev pub invariant-loop-end : goal.invariant-loop-end
invariant-loop-end l = record { within : l.end ≤ length l.word; none : (i : ℕ) → l.end ≤ i → slice_index l.word i ≢ 47 }

abbrev pub decreases-loop-end : goal.decreases-loop-end
decreases-loop-end l = l.end
