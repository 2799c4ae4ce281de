use Rattle.std.proofs.Common.{slice_get, ap, ◌∙◌}
use Rattle.pf_live_seats.proofs.Pairs.{pair_at}
use Rattle.pf_live_seats.proofs.hosting.HostSeat.work.Goals as goal

pub returns-then-not-is_answered-clause-is : goal.returns-then-not-is_answered-clause-is
returns-then-not-is_answered-clause-is g c = let rings = c.args.line.now.rings.items in let e = c.is_answered.ensures in record {
  pair = c.in-Some.rings.now;
  there = ap (slice_get rings) e.same.0 ∙ pair_at rings c.deref.result.now c.args.self.now.host c.in-Some.rings.now c.deref.ensures.value c.in-Some.ensures.lookup.0 c.in-Some.ensures.lookup.1;
  is = e.is;
}

pub returns-clause-is : goal.returns-clause-is
returns-clause-is g c = let rings = c.args.line.now.rings.items in let e = c.put_next.ensures in record {
  pair = c.in-Some.rings.now;
  there = ap (slice_get rings) (e.same.0 ∙ c.is_answered.ensures.same.0) ∙ pair_at rings c.deref.result.now c.args.self.now.host c.in-Some.rings.now c.deref.ensures.value c.in-Some.ensures.lookup.0 c.in-Some.ensures.lookup.1;
  is = e.is;
}
