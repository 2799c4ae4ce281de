use Rattle.pf_law_runs.proofs.GroupPlaces.{ports_full}
use Rattle.pf_law_runs.proofs.laws.each_group_has_its_ports.Goals as goal

pub returns : goal.returns
returns c = ports_full
