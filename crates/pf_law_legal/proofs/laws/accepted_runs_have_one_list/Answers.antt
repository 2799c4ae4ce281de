use Rattle.pf_law_legal.proofs.LawfulRuns.{mounts_have_one_list}
use Rattle.pf_law_legal.proofs.laws.accepted_runs_have_one_list.Goals as goal

pub returns : goal.returns
returns c = λ halts sessions number chunks sectors names format lines fits may few some. mounts_have_one_list halts sessions number chunks sectors names format lines fits may few some
