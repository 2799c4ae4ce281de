use Rattle.std.proofs.Common.{◌≡◌, ◌<◌, ◌^◌, false, arith, sym, ap, subst, ◌∙◌}
use Rattle.std.specs.List.{All}
use Rattle.pf_entry.specs.Sets as set
use Rattle.pf_holes.specs.SlotSets.{SlotsAreRising, AreAbove, slots_upto}
use Rattle.pf_holes.proofs.SlotLists.{insert_there, has_prefix, not_there, there, is_put, slots_of-insert}
use Rattle.pf_holes.proofs.slots.SlotSet.add.Goals as goal

pub returns-then-is_in_prefix-clause-slots : goal.returns-then-is_in_prefix-clause-slots
returns-then-is_in_prefix-clause-slots c =
    insert_there c.args.self.now.slots c.args.slot
    (ap (λ t. set.contains t.slots c.args.slot) (sym c.self.view_is) ∙ sym (has_prefix c.self.inside.upto c.self.inside.singles.items c.args.slot c.if-is_in_prefix.ensures))

pub put_at-requires-clause-room : goal.put_at-requires-clause-room
put_at-requires-clause-room c =
    let absent : set.contains c.args.self.now.slots c.args.slot ≡ false =
    ap (λ t. set.contains t.slots c.args.slot) (sym c.self.view_is)
    ∙ not_there c.self.inside.upto c.self.inside.singles.items c.args.slot c.in-Err.place c.if-is_in_prefix.ensures c.in-Err.ensures in
    omega (arith, c.requires absent, ap (λ t. t.spare) c.self.view_is)

pub joined-self-inside-requires-clause-rising : goal.joined-self-inside-requires-clause-rising
joined-self-inside-requires-clause-rising c =
    let put = is_put c.self.inside.upto c.self.inside.singles.items c.args.slot c.in-Err.place c.if-is_in_prefix.ensures c.ranges.slot.fits c.in-Err.ensures c.self.invariant in
    subst SlotsAreRising (sym c.put_at.ensures.items) put.rising

pub joined-self-inside-requires-clause-above : goal.joined-self-inside-requires-clause-above
joined-self-inside-requires-clause-above c =
    let put = is_put c.self.inside.upto c.self.inside.singles.items c.args.slot c.in-Err.place c.if-is_in_prefix.ensures c.ranges.slot.fits c.in-Err.ensures c.self.invariant in
    subst (AreAbove c.self.inside.upto) (sym c.put_at.ensures.items) put.above

pub joined-self-inside-requires-clause-fits : goal.joined-self-inside-requires-clause-fits
joined-self-inside-requires-clause-fits c =
    let put = is_put c.self.inside.upto c.self.inside.singles.items c.args.slot c.in-Err.place c.if-is_in_prefix.ensures c.ranges.slot.fits c.in-Err.ensures c.self.invariant in
    subst (All (λ s. s < 2 ^ 64)) (sym c.put_at.ensures.items) put.fits

pub returns-in-Err-clause-slots : goal.returns-in-Err-clause-slots
returns-in-Err-clause-slots c =
    c.joined-self-inside.ensures.slots ∙ ap (slots_upto c.self.inside.upto) c.put_at.ensures.items
    ∙ slots_of-insert c.self.inside.upto c.self.inside.singles.items c.in-Err.place c.args.slot
    ∙ ap (λ t. set.insert t.slots c.args.slot) c.self.view_is

pub returns-in_default-clause-slots : goal.returns-in_default-clause-slots
returns-in_default-clause-slots c =
    insert_there c.args.self.now.slots c.args.slot
    (ap (λ t. set.contains t.slots c.args.slot) (sym c.self.view_is)
    ∙ there c.self.inside.upto c.self.inside.singles.items c.args.slot c.in_default.field-0 c.if-is_in_prefix.ensures c.in_default.ensures)
