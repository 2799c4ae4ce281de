use Rattle.std.proofs.Common.{sym, subst, ◌∙◌}
use Rattle.pf_holes.specs.SlotSets.{SlotsAreRising}
use Rattle.pf_holes.proofs.SlotOrder.{rising-ascends, all_members}
use Rattle.pf_holes.proofs.slots.SlotSet.with_prefix.Goals as goal

pub joined-upto-requires-clause-rising : goal.joined-upto-requires-clause-rising
joined-upto-requires-clause-rising c =
    subst SlotsAreRising (sym c.from_vec-singles.ensures.items) (rising-ascends c.into_vec-slots.result.items c.into_vec-slots.ensures.ascending)

pub joined-upto-requires-clause-above : goal.joined-upto-requires-clause-above
joined-upto-requires-clause-above c =
    all_members c.args.slots c.args.base c.from_vec-singles.result.items (c.into_vec-slots.ensures.items ∙ sym c.from_vec-singles.ensures.items) c.requires
