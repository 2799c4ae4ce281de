use Rattle.std.proofs.Common.{◌≡◌, ◌-◌, ◌≤◌, ◌++◌, drop, length}
use Rattle.pf_text.specs.Kept.{KeepsText}
use Rattle.pf_text.specs.Runs.{joined_text, runs_of}
use Rattle.pf_text.proofs.put.put_each_run.Given as goal

abbrev pub invariant-loop-at : goal.invariant-loop-at
invariant-loop-at l = record {
  within : l.at ≤ length l.bytes;
  text : l.out.items ++ joined_text (runs_of (drop l.at l.bytes)) ≡ l.fn.out.items ++ joined_text (runs_of l.bytes);
  kept : KeepsText l.fn.out.items l.out.items;
}

abbrev pub decreases-loop-at : goal.decreases-loop-at
decreases-loop-at l = length l.bytes - l.at
