use Rattle.pf_rings.specs.Passes.{IsHostOf, IsServerOf}
use Rattle.pf_test_trials.proofs.rings.requests_come_out_in_order.Given as goal

abbrev pub invariant-loop-number : goal.invariant-loop-number
invariant-loop-number g l = IsHostOf l.ring l.host × IsServerOf l.ring l.server

abbrev pub invariant-loop-number-2 : goal.invariant-loop-number-2
invariant-loop-number-2 g l = IsHostOf l.ring l.host × IsServerOf l.ring l.server

abbrev pub invariant-loop-number-3 : goal.invariant-loop-number-3
invariant-loop-number-3 g l = IsHostOf l.ring l.host × IsServerOf l.ring l.server
