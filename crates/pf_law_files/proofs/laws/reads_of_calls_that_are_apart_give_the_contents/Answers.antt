use Rattle.pf_law_files.proofs.Apart.{reads_in_order}
use Rattle.pf_law_files.proofs.laws.reads_of_calls_that_are_apart_give_the_contents.Goals as goal

pub returns : goal.returns
returns c = λ layout v happenings list groups volume room are registers is spelled few routed. reads_in_order layout v volume room list groups happenings are registers is routed spelled few
