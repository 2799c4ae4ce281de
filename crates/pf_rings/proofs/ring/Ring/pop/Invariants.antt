use Rattle.std.proofs.Common.{◌≡◌}
use Rattle.crossbeam_queue.specs.Passes.{IsSamePass, view}
use Rattle.pf_rings.proofs.ring.Ring.pop.Given as goal

abbrev pub invariant-loop : goal.invariant-loop
invariant-loop g l = record {
  same : IsSamePass l.fn.pass l.pass;
  view : view l.pass ≡ view l.fn.pass;
}
