use Rattle.pf_protocol.proofs.NamedSlots.{nothing_old}
use Rattle.pf_protocol.proofs.laws.nothing_old_is_taken.Goals as goal

pub returns : goal.returns
returns c = nothing_old
