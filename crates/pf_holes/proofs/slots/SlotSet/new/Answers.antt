use Rattle.pf_holes.proofs.SlotLists.{slots_of_none}
use Rattle.pf_holes.proofs.slots.SlotSet.new.Goals as goal

pub returns : goal.returns
returns c = slots_of_none _ c.new.ensures.items
