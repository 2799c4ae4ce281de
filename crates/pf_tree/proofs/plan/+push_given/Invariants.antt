use Rattle.std.proofs.Common.{length}
use Rattle.pf_tree.proofs.plan.+push_given.Given as goal

abbrev pub decreases-push_given : goal.decreases-push_given
decreases-push_given l = length l.blocks.now
