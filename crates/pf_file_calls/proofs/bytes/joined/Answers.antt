use Rattle.std.proofs.Common.{◌<◌, [], length, get_or, arith}
use Rattle.pf_file_calls.proofs.Cut.{join_more, join_count}
use Rattle.pf_file_calls.proofs.bytes.joined.Goals as goal

pub loop-sector-preserved : goal.loop-sector-preserved
loop-sector-preserved c =
    let i = c.loop-sector.sector-index in
    let low : i < length c.args.sectors.now = omega arith in
    let items = c.in_ok-extend_from_slice.ensures.items in
    record {
      bytes = join_more c.args.bytes.now c.loop-sector.all.items c.extend_from_slice.new.self.items c.args.sectors.now i c.loop-sector.invariant.bytes low items;
      count = join_count c.loop-sector.all.items c.extend_from_slice.new.self.items (get_or c.args.sectors.now i []) (length c.args.bytes.now) i c.loop-sector.invariant.count items (c.told-sectors i low);
    }
