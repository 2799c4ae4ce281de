use Rattle.std.proofs.Common.{◌<◌, ℕ}
use Rattle.pf_check.specs.Kinds.{TagIsUsed}
use Rattle.pf_check.specs.Walks.{tag_of}
use Rattle.pf_check.proofs.rules.has_gap.Given as goal

abbrev pub invariant-loop-index : goal.invariant-loop-index
invariant-loop-index l = (k : ℕ) → k < l.index → TagIsUsed l.tables (tag_of l.inode k)
