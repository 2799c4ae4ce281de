use Rattle.pf_move.proofs.MoverCalls.{is_copied}
use Rattle.pf_move.proofs.laws.pieces_are_written_once.Goals as goal

pub returns : goal.returns
returns c = is_copied
