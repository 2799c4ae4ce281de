use Rattle.pf_law_epochs.proofs.WorkedChunks.{orders_two_writers}
use Rattle.pf_law_epochs.proofs.examples.a_sector_is_moved_between_two_writers.Goals as goal

pub returns : goal.returns
returns c = λ first second is it.
    orders_two_writers first second (c.reads_show_the_write_of_the_new_leader.ensures first is) (c.reads_show_the_write_of_the_new_leader.ensures second it)
