use Rattle.std.proofs.Common.{◌<◌, length, arith}
use Rattle.pf_tree_tables.proofs.Shelves.{unwritten}
use Rattle.pf_tree_tables.proofs.edits.reserve_in.Goals as goal

pub returns-then-place-len-clause-lists : goal.returns-then-place-len-clause-lists
returns-then-place-len-clause-lists c =
    let low : c.args.directory < length c.args.directories.now.items = grind arith in
    unwritten c.args.directories.now.items c.args.directory c.index_mut.result.now c.reserve.new.self low c.index_mut.ensures.value c.reserve.ensures.list
