use Rattle.pf_journal.proofs.LaidOut.{chunk, sector, plain_home, anchor_chunk, anchor_place}
use Rattle.pf_journal.proofs.laws.layouts_have_homes.Goals as goal

pub returns : goal.returns
returns c = record { chunk = chunk; sector = sector; plain = plain_home; anchors = anchor_chunk; places = anchor_place }
