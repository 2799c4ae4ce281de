use Rattle.pf_holes.proofs.SlotLists.{found}
use Rattle.pf_holes.proofs.slots.place_of.Goals as goal

pub returns-2 : goal.returns-2
returns-2 c = found _ _ _ c.binary_search.ensures.position c.requires
