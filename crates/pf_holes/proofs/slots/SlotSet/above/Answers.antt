use Rattle.std.proofs.Common.{◌≡◌, nat_lt, ap, ◌∙◌}
use Rattle.pf_entry.specs.Sets as set
use Rattle.pf_entry.specs.Tables.{ascends}
use Rattle.pf_holes.proofs.SlotOrder.{listed, ascends-listed, from_listed}
use Rattle.pf_holes.proofs.slots.SlotSet.above.Goals as goal

pub new-requires : goal.new-requires
new-requires c =
    let e : c.extend_from_slice.new.self.items ≡ listed c.self.inside.upto c.args.base c.self.inside.singles.items = cc (c.in_ok-extend_from_slice.ensures.items, c.in_ok-slots.ensures, c.deref.ensures.value, c.in_ok-singles.ensures) in
    ap ascends e ∙ ascends-listed c.self.inside.upto c.args.base c.self.inside.singles.items c.self.invariant.rising c.self.invariant.apart

pub returns : goal.returns
returns c =
    let e : c.extend_from_slice.new.self.items ≡ listed c.self.inside.upto c.args.base c.self.inside.singles.items = cc (c.in_ok-extend_from_slice.ensures.items, c.in_ok-slots.ensures, c.deref.ensures.value, c.in_ok-singles.ensures) in
    c.new.ensures ∙ ap set.from_items e ∙ from_listed c.self.inside.upto c.args.base c.self.inside.singles.items ∙ ap (λ t. set.retain t.slots (nat_lt c.args.base)) c.self.view_is
