use Rattle.pf_law_mounts.proofs.ScriptList.{one_list}
use Rattle.pf_law_mounts.proofs.laws.runs_have_one_list.Goals as goal

pub returns : goal.returns
returns c = λ halts sessions lines script lawful volume few some. one_list halts sessions lines script lawful volume some few
