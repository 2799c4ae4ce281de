use Rattle.pf_law_positions.proofs.WorkedDeeds.{is_hosted, the_turns}
use Rattle.pf_law_positions.proofs.examples.a_mount_writes_its_block.Goals as goal

pub returns : goal.returns
returns c = record {
  hosted = λ first read is zeros. is_hosted first (c.deposed_leaders_answer_no_read.ensures.shows first) (c.deposed_leaders_answer_no_read.ensures.legal first is) read zeros;
  turns = the_turns;
}
