use Rattle.pf_protocol.proofs.Facts.{merged_were_chosen}
use Rattle.pf_protocol.proofs.laws.merged_slots_were_chosen.Goals as goal

pub returns : goal.returns
returns c = merged_were_chosen
