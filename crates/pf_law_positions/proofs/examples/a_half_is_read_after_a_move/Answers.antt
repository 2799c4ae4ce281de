use Rattle.pf_law_positions.proofs.WorkedMoves.{is_hosted, the_turns}
use Rattle.pf_law_positions.proofs.examples.a_half_is_read_after_a_move.Goals as goal

pub returns : goal.returns
returns c = record { hosted = is_hosted; turns = the_turns }
