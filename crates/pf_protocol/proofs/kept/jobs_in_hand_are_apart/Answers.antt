use Rattle.pf_protocol.proofs.Facts.{jobs_are_apart}
use Rattle.pf_protocol.proofs.kept.jobs_in_hand_are_apart.Goals as goal

pub returns : goal.returns
returns c = jobs_are_apart
