use Rattle.pf_law_lists.proofs.OneList.{list_decided}
use Rattle.pf_law_lists.proofs.laws.lists_are_decided.Goals as goal

pub returns : goal.returns
returns c = λ anchors quorum doings. list_decided (record { anchors = anchors; quorum = quorum; doings = doings })
