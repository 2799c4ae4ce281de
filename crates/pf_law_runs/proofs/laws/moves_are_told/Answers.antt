use Rattle.pf_law_runs.proofs.RunMoves.{run_moves}
use Rattle.pf_law_runs.proofs.laws.moves_are_told.Goals as goal

pub returns : goal.returns
returns c = run_moves
