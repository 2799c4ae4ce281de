use Rattle.pf_law_calls.proofs.Journals.{is_lived}
use Rattle.pf_law_calls.proofs.lives.mounts_are_of_a_journal.Goals as goal

pub returns-clause-list : goal.returns-clause-list
returns-clause-list c = λ layout v told m can low. (is_lived layout v told m can low).mount.follows.list_is

pub returns-clause-ballots : goal.returns-clause-ballots
returns-clause-ballots c = λ layout v told m can low. (is_lived layout v told m can low).mount.follows.here

pub returns-clause-upto : goal.returns-clause-upto
returns-clause-upto c = λ layout v told m can low. (is_lived layout v told m can low).mount.follows.upto_is
