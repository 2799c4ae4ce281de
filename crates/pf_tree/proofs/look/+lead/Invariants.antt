use Rattle.std.proofs.Common.{length}
use Rattle.pf_tree.proofs.look.+lead.Given as goal

abbrev pub decreases-lead : goal.decreases-lead
decreases-lead l = length l.path.now
