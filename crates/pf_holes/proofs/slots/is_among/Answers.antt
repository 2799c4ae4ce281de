use Rattle.std.proofs.Common.{◌∙◌}
use Rattle.pf_holes.proofs.SlotLists.{told}
use Rattle.pf_holes.proofs.slots.is_among.Goals as goal

pub returns : goal.returns
returns c = c.is_ok.ensures.value ∙ told _ _ _ c.place_of.ensures
