use Rattle.std.proofs.Common.{ap, ◌∙◌}
use Rattle.pf_entry.specs.Sets as set
use Rattle.pf_holes.proofs.SlotLists.{has_prefix, past_prefix}
use Rattle.pf_holes.proofs.slots.SlotSet.has.Goals as goal

pub returns-then-is_in_prefix : goal.returns-then-is_in_prefix
returns-then-is_in_prefix c =
    c.if-is_in_prefix.true ∙ has_prefix c.self.inside.upto c.self.inside.singles.items c.args.slot c.if-is_in_prefix.ensures
    ∙ ap (λ t. set.contains t.slots c.args.slot) c.self.view_is

pub returns-else-is_in_prefix : goal.returns-else-is_in_prefix
returns-else-is_in_prefix c =
    past_prefix c.self.inside.upto c.self.inside.singles.items c.args.slot c.is_among.result c.if-is_in_prefix.ensures c.is_among.ensures
    ∙ ap (λ t. set.contains t.slots c.args.slot) c.self.view_is
