use Rattle.std.proofs.Common.{◌≡◌}
use Rattle.pf_test_trials.proofs.Bodies.{body}
use Rattle.pf_test_trials.proofs.images.image.Given as goal

abbrev pub invariant-loop-k : goal.invariant-loop-k
invariant-loop-k l = l.body.items ≡ body l.fn.generation l.fn.term l._k
