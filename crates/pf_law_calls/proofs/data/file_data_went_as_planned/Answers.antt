use Rattle.pf_law_calls.proofs.DataByMoment.{data_ended, far_before}
use Rattle.pf_law_calls.proofs.data.file_data_went_as_planned.Goals as goal

pub returns-clause-far : goal.returns-clause-far
returns-clause-far c = λ layout v told list can registers is before after m same low. far_before layout v told can registers list is m before after same

pub returns-clause-ended : goal.returns-clause-ended
returns-clause-ended c = λ layout v told list can registers is before after m input answer same ends. data_ended layout v told can registers list is m before after input answer same ends
