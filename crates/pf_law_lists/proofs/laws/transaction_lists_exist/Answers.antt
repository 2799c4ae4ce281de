use Rattle.pf_law_lists.proofs.Longest.{transaction_list}
use Rattle.pf_law_lists.proofs.laws.transaction_lists_exist.Goals as goal

pub returns : goal.returns
returns c = λ anchors quorum doings. transaction_list (record { anchors = anchors; quorum = quorum; doings = doings })
