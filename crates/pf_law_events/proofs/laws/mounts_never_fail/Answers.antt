use Rattle.pf_law_events.proofs.NoFailures.{never_fail}
use Rattle.pf_law_events.proofs.laws.mounts_never_fail.Goals as goal

pub returns : goal.returns
returns c = never_fail
