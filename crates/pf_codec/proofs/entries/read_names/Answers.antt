use Rattle.std.proofs.lemmas.Result.{err_from_is_err_and}
use Rattle.pf_codec.specs.Parsers.{row_at}
use Rattle.pf_codec.specs.Reading.{name_at}
use Rattle.pf_codec.proofs.Rows.{goes_on, ends, is_done}
use Rattle.pf_codec.proofs.entries.read_names.Goals as goal

pub returns-in_err-name : goal.returns-in_err-name
returns-in_err-name c =
    let p = err_from_is_err_and c.from_residual-in_err-name.result c.from_residual-in_err-name.ensures.1 in
    rw (p.1, p.2) (ends name_at c.in_err-name.field-0.0 c.loop.names c.args.count c.loop.counter c.loop.reader (row_at name_at c.args.count c.args.reader.now) c.loop-test.true c.in_err-name.ensures c.loop.invariant)

pub loop-preserved : goal.loop-preserved
loop-preserved c =
    rw c.in_ok-push.ensures (goes_on name_at c.loop.names c.args.count c.loop.counter c.loop.reader c.in_ok-name.name c.read_name.new.reader (row_at name_at c.args.count c.args.reader.now) c.loop-test.true c.in_ok-name.ensures c.loop.invariant)

pub returns : goal.returns
returns c = is_done name_at c.loop.names c.args.count c.loop.counter c.loop.reader (row_at name_at c.args.count c.args.reader.now) c.loop-test.false c.loop.invariant
