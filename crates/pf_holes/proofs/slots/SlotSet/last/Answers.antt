use Rattle.std.proofs.Common.{◌∙◌, arith, ap, sym}
use Rattle.pf_entry.specs.Sets as set
use Rattle.pf_holes.proofs.SlotLists.{past_last}
use Rattle.pf_holes.proofs.slots.SlotSet.last.Goals as goal

pub returns : goal.returns
returns c = λ q past.
    ap (λ t. set.contains t.slots q) (sym c.self.view_is)
    ∙ past_last c.self.inside.upto c.self.inside.singles.items q (omega (arith, c.greatest.ensures.upto, past)) (λ k low. omega (arith, c.greatest.ensures.each k low, past))
