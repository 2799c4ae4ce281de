use Rattle.pf_protocol.proofs.NamedSlots.{named_slots}
use Rattle.pf_protocol.proofs.laws.named_slots_keep_their_op.Goals as goal

pub returns : goal.returns
returns c = named_slots
