use Rattle.std.proofs.lemmas.Result.{err_from_is_err_and}
use Rattle.pf_codec.specs.Parsers.{row_at}
use Rattle.pf_codec.specs.Reading.{start_at}
use Rattle.pf_codec.proofs.Rows.{goes_on, ends, is_done}
use Rattle.pf_codec.proofs.tables.read_start_row.Goals as goal

pub returns-in_err-row : goal.returns-in_err-row
returns-in_err-row c =
    let p = err_from_is_err_and c.from_residual.result c.from_residual.ensures.1 in
    rw (p.1, p.2) (ends start_at c.in_err-row.field-0.0 c.loop.rows.items c.args.count c.loop.counter c.loop.reader (row_at start_at c.args.count c.args.reader.now) c.loop-test.true c.in_err-row.ensures c.loop.invariant)

pub loop-preserved : goal.loop-preserved
loop-preserved c =
    rw c.in_ok-push.ensures.items (goes_on start_at c.loop.rows.items c.args.count c.loop.counter c.loop.reader c.in_ok-row.row c.read_start.new.reader (row_at start_at c.args.count c.args.reader.now) c.loop-test.true c.in_ok-row.ensures c.loop.invariant)

pub returns : goal.returns
returns c = is_done start_at c.loop.rows.items c.args.count c.loop.counter c.loop.reader (row_at start_at c.args.count c.args.reader.now) c.loop-test.false c.loop.invariant
