use Rattle.pf_law_files.proofs.OneByOne.{went_one_by_one}
use Rattle.pf_law_files.proofs.laws.calls_one_at_a_time_go_one_by_one.Goals as goal

pub returns : goal.returns
returns c = λ layout v told list volume can registers is spelled few. went_one_by_one layout v told can registers list is volume spelled few
