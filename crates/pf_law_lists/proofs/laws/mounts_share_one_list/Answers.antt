use Rattle.pf_law_lists.proofs.OneList.{begins_list, begins_other}
use Rattle.pf_law_lists.proofs.laws.mounts_share_one_list.Goals as goal

pub returns : goal.returns
returns c = record { list = λ anchors quorum doings. begins_list (record { anchors = anchors; quorum = quorum; doings = doings }); mounts = λ anchors quorum doings. begins_other (record { anchors = anchors; quorum = quorum; doings = doings }) }
