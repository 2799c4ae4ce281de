use Rattle.pf_layout.proofs.PathLaws.{goes_on_below}
use Rattle.pf_layout.proofs.laws.paths_below_begin_alike.Goals as goal

pub returns : goal.returns
returns c = λ from to is_from is_to some. goes_on_below from to is_from is_to some
