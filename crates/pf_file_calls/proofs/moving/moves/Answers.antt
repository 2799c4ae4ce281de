use Rattle.std.proofs.Common.{sym, ap, ◌∙◌}
use Rattle.pf_tree.specs.Calls.{FileCall}
use Rattle.pf_file_calls.specs.Moving.{fills_file, data_moves}
use Rattle.pf_file_calls.proofs.Steps.{ok_along, write_moves, truncate_moves}
use Rattle.pf_file_calls.proofs.moving.moves.Goals as goal

pub returns-in-Write : goal.returns-in-Write
returns-in-Write c =
    let t = c.args.tree.now.tables in
    ok_along c.fills_file.result
    (fills_file c.args.volume.now t (record { inode = c.inode_at.result; size = c.args.size; start = c.in-Write.offset; byte = c.in-Write.byte; count = c.in-Write.count }))
    (data_moves c.args.volume.now t c.args.size c.args.call.now)
    (write_moves c.args.volume.now t c.args.size c.in-Write.path c.in-Write.offset c.in-Write.byte c.in-Write.count c.inode_at.result c.if-count-gt0.true c.inode_at.ensures
    ∙ ap (λ (call : FileCall). data_moves c.args.volume.now t c.args.size call) (sym c.in-Write.is))
    c.fills_file.ensures

pub returns-in-Truncate : goal.returns-in-Truncate
returns-in-Truncate c =
    let t = c.args.tree.now.tables in
    ok_along c.fills_file-in-Truncate.result
    (fills_file c.args.volume.now t (record { inode = c.inode_at-in-Truncate.result; size = c.args.size; start = c.in-Truncate.to; byte = 0; count = 0 }))
    (data_moves c.args.volume.now t c.args.size c.args.call.now)
    (truncate_moves c.args.volume.now t c.args.size c.in-Truncate.path c.in-Truncate.to c.inode_at-in-Truncate.result c.if-size-to.true c.inode_at-in-Truncate.ensures
    ∙ ap (λ (call : FileCall). data_moves c.args.volume.now t c.args.size call) (sym c.in-Truncate.is))
    c.fills_file-in-Truncate.ensures
