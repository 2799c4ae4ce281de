use Rattle.std.proofs.Common.{refl}
use Rattle.pf_test_trials.proofs.Quiet.{none_open}
use Rattle.pf_test_trials.proofs.applying.elect.Goals as goal

pub returns : goal.returns
returns c = none_open _ _ _ _ c.in_ok-step.ensures.went.steps c.requires refl
