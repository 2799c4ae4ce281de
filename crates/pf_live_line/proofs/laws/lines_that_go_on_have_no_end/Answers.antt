use Rattle.pf_live_line.proofs.Ends.{no_end}
use Rattle.pf_live_line.proofs.laws.lines_that_go_on_have_no_end.Goals as goal

pub returns : goal.returns
returns c = no_end
