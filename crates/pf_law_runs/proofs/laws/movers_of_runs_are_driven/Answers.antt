use Rattle.pf_law_runs.proofs.MoverInRuns.{movers_driven}
use Rattle.pf_law_runs.proofs.laws.movers_of_runs_are_driven.Goals as goal

pub returns : goal.returns
returns c = movers_driven
