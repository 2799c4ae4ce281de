use Rattle.std.proofs.lemmas.Result.{err_from_is_err_and}
use Rattle.pf_codec.specs.Parsers.{row_at}
use Rattle.pf_txn.specs.Reading.{change_at}
use Rattle.pf_codec.proofs.Rows.{goes_on, ends, is_done}
use Rattle.pf_txn.proofs.reading.read_changes.Goals as goal

pub returns-in_err-change : goal.returns-in_err-change
returns-in_err-change c =
    let p = err_from_is_err_and c.from_residual.result c.from_residual.ensures.1 in
    rw (p.1, p.2) (ends change_at c.in_err-change.field-0.0 c.loop.changes.items c.args.count c.loop.counter c.loop.reader (row_at change_at c.args.count c.args.reader.now) c.loop-test.true c.in_err-change.ensures c.loop.invariant)

pub loop-preserved : goal.loop-preserved
loop-preserved c =
    rw c.in_ok-push.ensures.items (goes_on change_at c.loop.changes.items c.args.count c.loop.counter c.loop.reader c.in_ok-change.change c.read_change.new.reader (row_at change_at c.args.count c.args.reader.now) c.loop-test.true c.in_ok-change.ensures c.loop.invariant)

pub returns : goal.returns
returns c = is_done change_at c.loop.changes.items c.args.count c.loop.counter c.loop.reader (row_at change_at c.args.count c.args.reader.now) c.loop-test.false c.loop.invariant
