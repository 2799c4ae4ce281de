use Rattle.pf_protocol.proofs.Facts.{committed_stand}
use Rattle.pf_protocol.proofs.kept.committed_slots_stand_on_chosen_ops.Goals as goal

pub returns : goal.returns
returns c = committed_stand
