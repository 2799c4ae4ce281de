use Rattle.pf_law_runs.proofs.RoutesTold.{groups_apart, routes_told}
use Rattle.pf_law_runs.proofs.laws.routes_are_told.Goals as goal

pub returns-clause-served : goal.returns-clause-served
returns-clause-served c = routes_told

pub returns-clause-apart : goal.returns-clause-apart
returns-clause-apart c = groups_apart
