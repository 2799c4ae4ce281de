use Rattle.std.proofs.Common.{◌∙◌, ap}
use Rattle.pf_disk.specs.Files.{file_grown}
use Rattle.pf_disk.proofs.Writes.{resized_is}
use Rattle.pf_disk.proofs.files.resize.Goals as goal

pub returns-clause-resized : goal.returns-clause-resized
returns-clause-resized c = c.grow.ensures.grown ∙ ap (λ l. file_grown l c.args.len) c.truncate.ensures.items ∙ resized_is c.args.file.now.items c.args.len
