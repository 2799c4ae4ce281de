use Rattle.std.proofs.lemmas.Result.{err_from_is_err_and}
use Rattle.pf_codec.specs.Parsers.{row_at}
use Rattle.pf_codec.specs.Reading.{sector_at}
use Rattle.pf_codec.proofs.Rows.{goes_on, ends, is_done}
use Rattle.pf_codec.proofs.reader.ByteReader.sectors_by_one.Goals as goal

pub returns-in_err-sector : goal.returns-in_err-sector
returns-in_err-sector c =
    let p = err_from_is_err_and c.from_residual.result c.from_residual.ensures.1 in
    rw (p.1, p.2) (ends sector_at c.in_err-sector.field-0.0 c.loop.sectors.items c.args.count c.loop.counter c.loop.self (row_at sector_at c.args.count c.args.self.now) c.loop-test.true c.in_err-sector.ensures c.loop.invariant)

pub loop-preserved : goal.loop-preserved
loop-preserved c =
    rw c.in_ok-push.ensures.items (goes_on sector_at c.loop.sectors.items c.args.count c.loop.counter c.loop.self c.in_ok-sector.sector c.sector.new.self (row_at sector_at c.args.count c.args.self.now) c.loop-test.true c.in_ok-sector.ensures c.loop.invariant)

pub returns : goal.returns
returns c = is_done sector_at c.loop.sectors.items c.args.count c.loop.counter c.loop.self (row_at sector_at c.args.count c.args.self.now) c.loop-test.false c.loop.invariant
