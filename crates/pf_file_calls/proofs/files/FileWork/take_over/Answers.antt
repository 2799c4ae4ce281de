use Rattle.std.proofs.Common.{sym, ap, ◌∙◌}
use Rattle.pf_file_calls.specs.Calls.{FilesIs, value_applied}
use Rattle.pf_file_calls.proofs.Kept.{taken_over}
use Rattle.pf_file_calls.proofs.files.FileWork.take_over.Goals as goal

pub invariant_of-self : goal.invariant_of-self
invariant_of-self c =
    taken_over c.self.inside.volume c.replace-before.result c.self.inside.tree c.args.after.tree c.replace-before.new.dest c.args.after.txn
    c.replace-before.ensures.value c.replace-before.ensures.after c.self.invariant.0
    (c.requires.tables ∙ ap (λ (w : FilesIs). value_applied w.tables c.args.after.txn) (sym c.self.view_is))
    (c.requires.first ∙ ap (λ (w : FilesIs). w.first) (sym c.self.view_is))
