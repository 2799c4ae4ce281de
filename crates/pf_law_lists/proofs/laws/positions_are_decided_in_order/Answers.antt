use Rattle.pf_law_lists.proofs.OneList.{below_each}
use Rattle.pf_law_lists.proofs.laws.positions_are_decided_in_order.Goals as goal

pub returns : goal.returns
returns c = λ anchors quorum doings. below_each (record { anchors = anchors; quorum = quorum; doings = doings })
