use Rattle.pf_tree.proofs.Looks.{not_at_root}
use Rattle.pf_tree.proofs.plan.plan_unlink.Goals as goal

pub returns-in_default : goal.returns-in_default
returns-in_default c =
    absurd (not_at_root c.args.tables.now c.args.path.now c.in_ok-inode.inode c.in_ok-inode.size c.in_default.ensures.cases c.in_ok-inode.ensures.1)
