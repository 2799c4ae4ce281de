use Rattle.std.proofs.lemmas.Result.{err_from_is_err_and}
use Rattle.std.specs.Int.{w64}
use Rattle.pf_codec.specs.Parsers.{number_at, row_at}
use Rattle.pf_codec.proofs.Rows.{goes_on, ends, is_done}
use Rattle.pf_codec.proofs.tables.read_slot_row.Goals as goal

pub returns-in_err-slot : goal.returns-in_err-slot
returns-in_err-slot c =
    let p = err_from_is_err_and c.from_residual.result c.from_residual.ensures.1 in
    rw (p.1, p.2) (ends (number_at w64) c.in_err-slot.field-0.0 c.loop.slots.items c.args.count c.loop.counter c.loop.reader (row_at (number_at w64) c.args.count c.args.reader.now) c.loop-test.true c.in_err-slot.ensures c.loop.invariant)

pub loop-preserved : goal.loop-preserved
loop-preserved c =
    rw c.in_ok-push.ensures.items (goes_on (number_at w64) c.loop.slots.items c.args.count c.loop.counter c.loop.reader c.in_ok-slot.slot c.u64.new.self (row_at (number_at w64) c.args.count c.args.reader.now) c.loop-test.true c.in_ok-slot.ensures c.loop.invariant)

pub returns : goal.returns
returns c = is_done (number_at w64) c.loop.slots.items c.args.count c.loop.counter c.loop.reader (row_at (number_at w64) c.args.count c.args.reader.now) c.loop-test.false c.loop.invariant
