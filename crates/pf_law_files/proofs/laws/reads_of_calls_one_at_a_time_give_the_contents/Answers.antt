use Rattle.pf_law_events.specs.Events.{mounts_told}
use Rattle.pf_law_files.proofs.OneByOne.{went_one_by_one}
use Rattle.pf_law_files.proofs.SerialReads.{reads_contents}
use Rattle.pf_law_files.proofs.laws.reads_of_calls_one_at_a_time_give_the_contents.Goals as goal

pub returns : goal.returns
returns c = λ layout v happenings list groups volume room are registers is spelled few routed. reads_contents layout v happenings list groups volume room are registers is routed
    (went_one_by_one layout v (mounts_told happenings) are.can_be registers list is volume spelled few)
