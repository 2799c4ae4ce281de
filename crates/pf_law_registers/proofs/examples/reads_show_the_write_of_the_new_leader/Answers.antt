use Rattle.pf_law_registers.proofs.WorkedReads.{shows_the_write}
use Rattle.pf_law_registers.proofs.examples.reads_show_the_write_of_the_new_leader.Goals as goal

pub returns : goal.returns
returns c = λ first is. shows_the_write first (c.deposed_leaders_answer_no_read.ensures.shows first)
