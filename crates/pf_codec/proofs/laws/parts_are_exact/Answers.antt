use Rattle.pf_codec.proofs.EntryLaws.{entry_exact}
use Rattle.pf_codec.proofs.MapLaws.{slots_exact, sectors_exact}
use Rattle.pf_codec.proofs.VoteLaws.{vote_exact}
use Rattle.pf_codec.proofs.laws.parts_are_exact.Goals as goal

pub returns-clause-entry : goal.returns-clause-entry
returns-clause-entry c = λ bounds. entry_exact bounds

pub returns-clause-vote : goal.returns-clause-vote
returns-clause-vote c = λ bounds window. vote_exact bounds window

pub returns-clause-slots : goal.returns-clause-slots
returns-clause-slots c = λ base. slots_exact base

pub returns-clause-sectors : goal.returns-clause-sectors
returns-clause-sectors c = sectors_exact
