use Rattle.pf_law_contents.proofs.PlannedRuns.{planned_run}
use Rattle.pf_law_contents.proofs.laws.planned_calls_have_a_virtual_run.Goals as goal

pub returns : goal.returns
returns c = planned_run
