use Rattle.pf_law_calls.proofs.Journals.{begins_transactions, shorter_begins}
use Rattle.pf_law_calls.proofs.lives.mounts_over_anchors_share_one_list.Goals as goal

pub returns-clause-mounts : goal.returns-clause-mounts
returns-clause-mounts c = λ layout v told m other can registers low low_other. shorter_begins layout v told can registers m low other low_other

pub returns-clause-list : goal.returns-clause-list
returns-clause-list c = λ layout v told m list can registers low. begins_transactions layout v told can registers m low list
