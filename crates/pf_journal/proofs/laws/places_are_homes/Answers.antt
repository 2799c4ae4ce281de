use Rattle.pf_journal.proofs.BlockPlaces.{chunk, sector}
use Rattle.pf_journal.proofs.laws.places_are_homes.Goals as goal

pub returns : goal.returns
returns c = record { chunk = chunk; sector = sector }
