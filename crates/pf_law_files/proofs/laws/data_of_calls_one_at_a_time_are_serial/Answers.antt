use Rattle.pf_law_files.proofs.SerialAsks.{data_serial}
use Rattle.pf_law_files.proofs.laws.data_of_calls_one_at_a_time_are_serial.Goals as goal

pub returns : goal.returns
returns c = λ layout v happenings list groups volume room are registers is routed. data_serial layout v volume room list groups happenings are registers is routed
