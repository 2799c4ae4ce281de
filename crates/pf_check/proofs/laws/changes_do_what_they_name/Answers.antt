use Rattle.pf_check.proofs.Exactly.{all_made_raw, does_exactly, empty_is}
use Rattle.pf_check.proofs.laws.changes_do_what_they_name.Goals as goal

pub returns-clause-empty : goal.returns-clause-empty
returns-clause-empty c = empty_is

pub returns-clause-does : goal.returns-clause-does
returns-clause-does c = does_exactly

pub returns-clause-made : goal.returns-clause-made
returns-clause-made c = all_made_raw
