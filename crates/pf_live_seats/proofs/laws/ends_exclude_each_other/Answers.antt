use Rattle.pf_live_seats.proofs.Ends.{one_end}
use Rattle.pf_live_seats.proofs.laws.ends_exclude_each_other.Goals as goal

pub returns : goal.returns
returns c = one_end
