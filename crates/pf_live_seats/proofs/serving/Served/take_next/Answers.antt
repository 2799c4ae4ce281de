use Rattle.pf_live_seats.proofs.Pairs.{pair_at}
use Rattle.pf_live_seats.proofs.serving.Served.take_next.Goals as goal

pub returns-clause-is : goal.returns-clause-is
returns-clause-is g c = record {
  pair = c.in-Some.rings.now;
  there = pair_at c.args.line.now.rings.items c.deref.result.now c.args.host c.in-Some.rings.now c.deref.ensures.value c.in-Some.ensures.lookup.0 c.in-Some.ensures.lookup.1;
  is = c.take.ensures.is;
}

pub returns-clause-serves : goal.returns-clause-serves
returns-clause-serves g c root n seen = c.take.ensures.serves root n c.args.host seen
