use Rattle.pf_law_runs.proofs.MoverInRuns.{behind_told}
use Rattle.pf_law_runs.proofs.OwnWrites.{mounts_alone}
use Rattle.pf_law_runs.proofs.Within.{reached_all}
use Rattle.pf_law_runs.proofs.laws.what_is_handed_on_is_told.Goals as goal

pub returns-clause-behind : goal.returns-clause-behind
returns-clause-behind c = behind_told

pub returns-clause-alone : goal.returns-clause-alone
returns-clause-alone c = mounts_alone

pub returns-clause-reached : goal.returns-clause-reached
returns-clause-reached c = reached_all
