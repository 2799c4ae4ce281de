use Rattle.std.proofs.Common.{arith, ◌∙◌}
use Rattle.pf_live_seats.specs.pf_shared.specs.Seats.{root_in, seen_by}
use Rattle.pf_live_seats.specs.Submitters.{AllFed}
use Rattle.pf_live_line.proofs.PassesMet.{all_stand_same, fed_again}
use Rattle.pf_live_line.proofs.SeatsTakenIn.{ended_again, line_again, made_again, neither, stand_again}
use Rattle.pf_live_line.proofs.running.regroup.Goals as goal

pub returns-clause-crew : goal.returns-clause-crew
returns-clause-crew g c = let line = c.args.line.now in let begun = c.args.begun.now.value in let taken = c.take_two-taken.result in let mid = c.take_two-taken.new.first in let first = c.take_back-back.new.first in let t = c.take_two-taken.ensures.taken in let b = c.take_back-back.ensures in let m = c.meet_all-hosts.ensures in
    let fed : AllFed line.plan taken.served.items = fed_again line.plan line.rings.items line.plan.hosts c.meet_all-hosts.result.0.items taken.served.items c.meet_all-hosts.result.1.items m.met m.same in
    let again = line_again line.group line.cell line.plan line.rings.items begun c.requires.begun taken mid first t b.joining b.begins b.others fed c.take_two-taken.ensures.others b.free in record {
      seat = again;
      splits = c.requires.splits ∙ (let x = c.requires.counts.0 in let y = b.joining.splits in omega arith);
      met = m.met;
      stand = λ told. all_stand_same (root_in line.group) (seen_by first) taken.served.items c.meet_all-hosts.result.1.items m.same (stand_again line.group line.cell line.plan line.rings.items begun c.requires.begun taken mid first t b.joining b.begins b.others fed told);
      first = t.publishes;
      leaders = t.asks;
      made = made_again line.group line.cell line.plan line.rings.items begun c.requires.begun taken mid first t b.joining b.begins b.others fed;
    }

pub returns-clause-ended : goal.returns-clause-ended
returns-clause-ended g c none old = let line = c.args.line.now in let begun = c.args.begun.now.value in let taken = c.take_two-taken.result in let mid = c.take_two-taken.new.first in let first = c.take_back-back.new.first in let t = c.take_two-taken.ensures.taken in let b = c.take_back-back.ensures in let m = c.meet_all-hosts.ensures in
    let fed : AllFed line.plan taken.served.items = fed_again line.plan line.rings.items line.plan.hosts c.meet_all-hosts.result.0.items taken.served.items c.meet_all-hosts.result.1.items m.met m.same in
    ended_again line.group line.cell line.plan line.rings.items begun c.requires.begun taken mid first t b.joining b.begins b.others fed c.take_two-taken.ensures.others (b.lasts (neither c.take_back-back.result.1 taken.wants none)) old

pub returns-clause-seats : goal.returns-clause-seats
returns-clause-seats g c = c.take_back-back.ensures.joining.splits
