use Rattle.pf_protocol.proofs.OpenClaims.{legal_open}
use Rattle.pf_protocol.proofs.kept.open_claims_are_in_hand.Goals as goal

pub returns : goal.returns
returns c = legal_open
