use Rattle.std.proofs.lemmas.Result.{err_from_is_err_and}
use Rattle.pf_codec.specs.Parsers.{row_at}
use Rattle.pf_codec.specs.Reading.{entry_at}
use Rattle.pf_codec.proofs.Rows.{goes_on, ends, is_done}
use Rattle.pf_codec.proofs.entries.read_row.Goals as goal

pub returns-in_err-entry : goal.returns-in_err-entry
returns-in_err-entry c =
    let p = err_from_is_err_and c.from_residual.result c.from_residual.ensures.1 in
    rw (p.1, p.2) (ends (entry_at c.args.bounds) c.in_err-entry.field-0.0 c.loop.entries.items c.args.count c.loop.counter c.loop.reader (row_at (entry_at c.args.bounds) c.args.count c.args.reader.now) c.loop-test.true c.in_err-entry.ensures c.loop.invariant)

pub loop-preserved : goal.loop-preserved
loop-preserved c =
    rw c.in_ok-push.ensures.items (goes_on (entry_at c.args.bounds) c.loop.entries.items c.args.count c.loop.counter c.loop.reader c.in_ok-entry.entry c.read_entry.new.reader (row_at (entry_at c.args.bounds) c.args.count c.args.reader.now) c.loop-test.true c.in_ok-entry.ensures c.loop.invariant)

pub returns : goal.returns
returns c = is_done (entry_at c.args.bounds) c.loop.entries.items c.args.count c.loop.counter c.loop.reader (row_at (entry_at c.args.bounds) c.args.count c.args.reader.now) c.loop-test.false c.loop.invariant
