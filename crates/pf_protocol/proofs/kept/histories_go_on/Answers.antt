use Rattle.pf_protocol.proofs.Moments.{legal_goes_on, legal_before, replay_goes_on}
use Rattle.pf_protocol.proofs.kept.histories_go_on.Goals as goal

pub returns : goal.returns
returns c = record { replay = replay_goes_on; legal = legal_goes_on; before = legal_before }
