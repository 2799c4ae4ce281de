use Rattle.std.proofs.Common.{sym, ◌∙◌}
use Rattle.pf_tree.proofs.Looks.{led_in_use}
use Rattle.pf_tree.proofs.look.file_at.Goals as goal

pub returns-in-None : goal.returns-in-None
returns-in-None c =
    absurd (led_in_use c.args.tables.now c.args.path.now c.in_ok-inode.inode c.inode.ensures.whole.root c.in_ok-inode.ensures.0 c.in_ok-inode.ensures.1 (sym c.inode.ensures.inode ∙ c.in-None.is))
