use Rattle.std.proofs.Common.{length}
use Rattle.pf_tree.proofs.plan.+reaches.Given as goal

abbrev pub decreases-reaches : goal.decreases-reaches
decreases-reaches l = length l.path.now
