use Rattle.std.proofs.Common.{◌≡◌, []}
use Rattle.pf_protocol.specs.Answers.{claims_of}
use Rattle.pf_test_trials.proofs.applying.write_round_a_hole.Given as goal

abbrev pub invariant-loop-sector : goal.invariant-loop-sector
invariant-loop-sector l = claims_of [] l.group.history ≡ []
