use Rattle.std.proofs.Common.{length}
use Rattle.pf_tree.proofs.look.+walk_to.Given as goal

abbrev pub decreases-walk_to : goal.decreases-walk_to
decreases-walk_to l = length l.path.now
