use Rattle.pf_file_calls.specs.Moving.{fills, fills_file}
use Rattle.pf_file_calls.proofs.Steps.{ok_along, fills_first}
use Rattle.pf_file_calls.proofs.moving.fills_file.Goals as goal

pub returns : goal.returns
returns c =
    ok_along c.fills.result
    (fills c.args.volume.now c.args.tree.now.tables c.args.fill c.first_of-first.result)
    (fills_file c.args.volume.now c.args.tree.now.tables c.args.fill)
    (fills_first c.args.volume.now c.args.tree.now.tables c.args.fill c.first_of-first.result c.first_of-first.ensures)
    c.fills.ensures
