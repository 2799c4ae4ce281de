use Rattle.pf_law_calls.proofs.DataByMoment.{input_goes}
use Rattle.pf_law_calls.proofs.data.file_data_go_as_planned.Goals as goal

pub returns : goal.returns
returns c = input_goes
