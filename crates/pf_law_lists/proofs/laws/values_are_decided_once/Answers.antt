use Rattle.pf_law_lists.proofs.OneList.{decided_once}
use Rattle.pf_law_lists.proofs.laws.values_are_decided_once.Goals as goal

pub returns : goal.returns
returns c = λ anchors quorum doings. decided_once (record { anchors = anchors; quorum = quorum; doings = doings })
