use Rattle.std.proofs.Common.{◌<◌, arith}
use Rattle.pf_file_calls.proofs.Cut.{put_none, put_ok}
use Rattle.pf_file_calls.proofs.bytes.+push_sectors.Goals as goal

pub returns-in_default : goal.returns-in_default
returns-in_default t c = put_none c.args.sectors.now.items c.args.count c.args.bytes.now (let short = c.in_default.ensures.cases in omega (arith, short))

pub returns : goal.returns
returns t c =
    let part = c.in-Some.ensures.cases in
    let some : 0 < c.args.count = omega (arith, part.2) in
    put_ok c.push_sectors.result c.args.sectors.now.items c.push.new.self.items c.push_sectors.new.sectors.items c.args.count c.args.bytes.now c.in-Some.sector.now c.in-Some.rest.now some part.0 part.1 c.in_ok-push.ensures.items c.push_sectors.ensures
