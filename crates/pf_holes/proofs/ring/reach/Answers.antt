use Rattle.std.proofs.Common.{◌<◌, arith, subst, sym, ap, ◌∙◌}
use Rattle.pf_holes.specs.Places.{IsRing, ring_of}
use Rattle.pf_holes.proofs.Found.{ring_more, ring_of-more}
use Rattle.pf_holes.proofs.ring.reach.Goals as goal

pub loop-places-preserved : goal.loop-places-preserved
loop-places-preserved g c = record {
  ring =
      subst IsRing (sym c.push_reserved.ensures.items)
      (ring_more c.loop-places.places.items c.loop-places.invariant.ring
      (subst (λ n. n < 4096) c.loop-places.places.ok.0 (omega (arith, c.requires.place, c.loop-places-test.true, c.len.ensures))));
  room = omega (arith, c.push_reserved.ensures.capacity, c.loop-places.invariant.room);
  same = ap ring_of c.push_reserved.ensures.items ∙ ring_of-more c.loop-places.places.items ∙ c.loop-places.invariant.same;
}
