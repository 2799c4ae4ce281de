use Rattle.pf_law_contents.proofs.Steps.{goes_one_more, goes_to_end}
use Rattle.pf_law_contents.proofs.laws.file_data_go_step_by_step.Goals as goal

pub returns-clause-goes : goal.returns-clause-goes
returns-clause-goes c = goes_one_more

pub returns-clause-ends : goal.returns-clause-ends
returns-clause-ends c = goes_to_end
