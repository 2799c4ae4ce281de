use Rattle.pf_law_lists.proofs.Quiet.{quiet_stands, quiet_undecided}
use Rattle.pf_law_lists.proofs.laws.quiet_syncs_miss_nothing.Goals as goal

pub returns : goal.returns
returns c = record { undecided = λ anchors quorum doings. quiet_undecided (record { anchors = anchors; quorum = quorum; doings = doings }); stands = λ anchors quorum doings. quiet_stands (record { anchors = anchors; quorum = quorum; doings = doings }) }
