use Rattle.pf_protocol.proofs.SubmissionPlaces.{acknowledged_copy}
use Rattle.pf_protocol.proofs.laws.acknowledged_writes_are_copies.Goals as goal

pub returns : goal.returns
returns c = acknowledged_copy
