use Rattle.pf_file_calls.proofs.Kept.{tree_after}
use Rattle.pf_file_calls.proofs.files.FileWork.applied.Goals as goal

pub returns-clause-form : goal.returns-clause-form
returns-clause-form c =
    tree_after c.args.self.now.volume c.in_ok-tree.tree c.in_ok-tree-2.tree c.in_ok-txn.txn c.in_ok-tree.ensures.form c.in_ok-tree-2.ensures
