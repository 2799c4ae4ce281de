use Rattle.std.proofs.Common.{length}
use Rattle.pf_tree.proofs.plan.+same_paths.Given as goal

abbrev pub decreases-same_paths : goal.decreases-same_paths
decreases-same_paths l = length l.path.now
