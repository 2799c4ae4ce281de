use Rattle.std.proofs.Common.{sym}
use Rattle.pf_live_seats.specs.pf_shared.specs.Seats.{root_in, seen_by}
use Rattle.pf_live_line.proofs.OpenedLines.{new_made, new_seat, new_stand}
use Rattle.pf_live_line.proofs.opening.open.Goals as goal

pub returns-clause-crew : goal.returns-clause-crew
returns-clause-crew g c = let e = c.in_ok-group.ensures in let group = c.in_ok-group.group in let seat = c.in_ok-group.seat in let plan = c.args.plan in let made = c.in-Ok-new in let k = c.split-leaders.ensures in record {
  seat = new_seat group plan seat e.seat e.first e.list;
  splits = sym e.first.1;
  met = made.ensures.met;
  stand = λ told. new_stand (root_in group) (seen_by seat) made.made.served.items e.list made.ensures.new;
  first = (k.kept.0, k.kept.2 c.in-Ok.ensures.pass.1);
  leaders = k.given.0;
  made = new_made plan.turns (root_in group) (seen_by seat) e.list;
}
