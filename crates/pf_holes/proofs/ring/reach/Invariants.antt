use Rattle.std.proofs.Common.{◌≡◌, ◌+◌, ◌-◌, ◌≤◌, vec_capacity, vec_len}
use Rattle.pf_holes.specs.Places.{IsRing, ring_of}
use Rattle.pf_holes.proofs.ring.reach.Given as goal

abbrev pub invariant-loop-places : goal.invariant-loop-places
invariant-loop-places g l = record {
  ring : IsRing l.places.items;
  room : 4096 ≤ vec_capacity l.places;
  same : ring_of l.places.items ≡ ring_of l.initial.places.items;
}

abbrev pub decreases-loop-places : goal.decreases-loop-places
decreases-loop-places g l = l.place + 1 - vec_len l.places
