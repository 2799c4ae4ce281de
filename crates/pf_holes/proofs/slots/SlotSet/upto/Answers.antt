use Rattle.std.proofs.Common.{subst, ap}
use Rattle.pf_holes.specs.SlotSets.{IsUpto}
use Rattle.pf_holes.proofs.SlotLists.{upto_of}
use Rattle.pf_holes.proofs.slots.SlotSet.upto.Goals as goal

pub returns : goal.returns
returns c = subst (λ s. IsUpto s c.self.inside.upto) (ap (λ t. t.slots) c.self.view_is) (upto_of _ _ c.self.invariant)
