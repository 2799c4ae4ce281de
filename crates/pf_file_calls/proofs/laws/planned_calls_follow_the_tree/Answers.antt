use Rattle.std.proofs.Common.{[]}
use Rattle.pf_tree.proofs.Whole.{stands_whole}
use Rattle.pf_file_calls.proofs.PlannedProposals.{refused_as, follows_as, spelled_as}
use Rattle.pf_file_calls.proofs.laws.planned_calls_follow_the_tree.Goals as goal

pub returns-clause-whole : goal.returns-clause-whole
returns-clause-whole c = λ d tables tree s. stands_whole d tables tree s

pub returns-clause-proposed : goal.returns-clause-proposed
returns-clause-proposed c = λ mount v d tables tree p txn s is e. follows_as mount v d tables p txn tree s is e

pub returns-clause-spelled : goal.returns-clause-spelled
returns-clause-spelled c = λ mount v d tables p txn whole places short e. spelled_as mount v d tables p txn whole places short e

pub returns-clause-refused : goal.returns-clause-refused
returns-clause-refused c = λ mount v d tables tree p number s e. refused_as mount v d tables p (record { mount = 0; number = 0; changes = [] }) tree s number e
