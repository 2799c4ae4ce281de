use Rattle.pf_law_lists.proofs.Exact.{exact_end}
use Rattle.pf_law_lists.proofs.laws.lists_over_all_anchors_are_whole.Goals as goal

pub returns : goal.returns
returns c = λ anchors quorum doings. exact_end (record { anchors = anchors; quorum = quorum; doings = doings })
