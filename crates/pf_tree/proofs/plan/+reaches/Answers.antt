use Rattle.std.proofs.Common.{sym, ◌∙◌}
use Rattle.pf_tree.proofs.Plans.{reached}
use Rattle.pf_tree.proofs.plan.+reaches.Goals as goal

pub returns-then-same_paths : goal.returns-then-same_paths
returns-then-same_paths t c = reached c.args.top.now c.args.path.now (sym c.same_paths.ensures ∙ c.if-same_paths.true)
