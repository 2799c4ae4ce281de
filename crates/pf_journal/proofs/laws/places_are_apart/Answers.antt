use Rattle.pf_journal.proofs.BlockPlaces.{apart}
use Rattle.pf_journal.proofs.laws.places_are_apart.Goals as goal

pub returns-clause-apart : goal.returns-clause-apart
returns-clause-apart c = apart
