use Rattle.std.proofs.Common.{◌≡◌, []}
use Rattle.pf_protocol.specs.Answers.{claims_of}
use Rattle.pf_test_trials.proofs.applying.deliver_all.Given as goal

abbrev pub invariant-loop-k : goal.invariant-loop-k
invariant-loop-k l = claims_of [] l.group.history ≡ []
