use Rattle.std.proofs.Common.{ap, refl, ◌∙◌}
use Rattle.pf_entry.specs.Sets as set
use Rattle.pf_holes.proofs.SlotLists.{has_single}
use Rattle.pf_holes.proofs.slots.SlotSet.has_behind.Goals as goal

pub returns-then-is_at : goal.returns-then-is_at
returns-then-is_at c =
    c.if-is_at.true ∙ has_single c.self.inside.upto c.self.inside.singles.items c.args.slot c.args.below (c.if-is_at.ensures refl)
    ∙ ap (λ t. set.contains t.slots c.args.slot) c.self.view_is
