use Rattle.std.proofs.lemmas.Result.{err_from_is_err_and}
use Rattle.pf_codec.specs.Parsers.{byte_at, row_at}
use Rattle.pf_codec.proofs.Rows.{goes_on, ends, is_done}
use Rattle.pf_txn.proofs.reading.read_bytes.Goals as goal

pub returns-in_err-byte : goal.returns-in_err-byte
returns-in_err-byte c =
    let p = err_from_is_err_and c.from_residual.result c.from_residual.ensures.1 in
    rw (p.1, p.2) (ends byte_at c.in_err-byte.field-0.0 c.loop.bytes.items c.args.count c.loop.counter c.loop.reader (row_at byte_at c.args.count c.args.reader.now) c.loop-test.true c.in_err-byte.ensures c.loop.invariant)

pub loop-preserved : goal.loop-preserved
loop-preserved c =
    rw c.in_ok-push.ensures.items (goes_on byte_at c.loop.bytes.items c.args.count c.loop.counter c.loop.reader c.in_ok-byte.byte c.u8.new.self (row_at byte_at c.args.count c.args.reader.now) c.loop-test.true c.in_ok-byte.ensures c.loop.invariant)

pub returns : goal.returns
returns c = is_done byte_at c.loop.bytes.items c.args.count c.loop.counter c.loop.reader (row_at byte_at c.args.count c.args.reader.now) c.loop-test.false c.loop.invariant
