use Rattle.pf_journal.proofs.LaidOut.{fits}
use Rattle.pf_journal.proofs.laws.rooms_have_layouts.Goals as goal

pub returns : goal.returns
returns c = fits
