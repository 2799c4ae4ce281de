use Rattle.std.proofs.Common.{sum_by, arith, ap}
use Rattle.pf_group_network.specs.Unread.{waits}
use Rattle.pf_group_network.proofs.Unread.{few_wait}
use Rattle.pf_group_network.proofs.reads.ReadTable.reserve.Goals as goal

pub returns-clause-room : goal.returns-clause-room
returns-clause-room c =
    let few = few_wait c.self.inside.list.items in
    record {
      place = omega (arith, c.in_ok-reserve.ensures.ok);
      answer = omega (arith, c.in_ok-reserve-2.ensures.ok, c.len-count.ensures, c.self.inside.list.ok.0, few, ap (sum_by waits) c.reserve.ensures.items);
    }
