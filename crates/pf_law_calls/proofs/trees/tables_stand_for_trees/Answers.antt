use Rattle.pf_law_calls.proofs.TablesByList.{mounts_stand, stands_at}
use Rattle.pf_law_calls.proofs.trees.tables_stand_for_trees.Goals as goal

pub returns-clause-list : goal.returns-clause-list
returns-clause-list c = λ layout v told list volume can registers is spelled few n most. stands_at layout v told can registers list is volume spelled few n most

pub returns-clause-mounts : goal.returns-clause-mounts
returns-clause-mounts c = λ layout v told list volume can registers is spelled few before after m same low. mounts_stand layout v told can registers list is volume spelled few before after same m low
