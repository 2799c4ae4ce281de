use Rattle.std.proofs.Common.{◌≡◌, ◌+◌, ◌<◌, ◌^◌, subst, sym, ap, ◌∙◌, arith}
use Rattle.std.specs.List.{remove, All}
use Rattle.std.specs.VecDeque.{deque_len}
use Rattle.pf_holes.specs.SlotSets.{SlotsAreRising, AreAbove, slots_upto}
use Rattle.pf_holes.proofs.SlotLists.{where_some, some_next, none_next, above_more, rising-remove, above-remove, all-remove, slots_of-remove}
use Rattle.pf_holes.proofs.slots.joined.Goals as goal

pub loop-place-preserved : goal.loop-place-preserved
loop-place-preserved c =
    let slots = c.loop-place.singles.items in
    let i = c.in-Ok.place in
    let upto = c.loop-place.upto in
    let next = some_next upto slots c.saturating_add.result i c.saturating_add.ensures c.in-Ok.ensures c.loop-place.invariant.above in
    let in_deque : i < deque_len c.loop-place.singles = omega (arith, next.0, c.loop-place.singles.ok.0) in
    let e : c.remove.new.self.items ≡ remove slots i = where_some c.remove.result _ _ c.remove.ensures.variant c.remove.ensures.items in_deque in
    record {
      rising = subst SlotsAreRising (sym e) (rising-remove slots i next.0 c.loop-place.invariant.rising);
      above = subst (AreAbove (upto + 1)) (sym e) (above-remove upto slots i next.0 next.1 c.loop-place.invariant.rising c.loop-place.invariant.above);
      fits = subst (All (λ s. s < 2 ^ 64)) (sym e) (all-remove (λ s. s < 2 ^ 64) slots i (upto + 1) next.0 next.1 c.loop-place.invariant.fits);
      slots = ap (slots_upto (upto + 1)) e ∙ slots_of-remove upto slots i next.0 next.1 ∙ c.loop-place.invariant.slots;
      len = let one_less = where_some c.remove.result _ _ c.remove.ensures.variant c.remove.ensures.len in_deque in omega (arith, one_less, c.loop-place.invariant.len);
      capacity = c.remove.ensures.capacity ∙ c.loop-place.invariant.capacity;
    }

pub returns-clause-single : goal.returns-clause-single
returns-clause-single c =
    let slots = c.loop-place.singles.items in
    let none = none_next c.loop-place.upto slots c.saturating_add.result c.in_default.field-0 c.saturating_add.ensures c.in_default.ensures c.loop-place.invariant.fits in
    record {
      rising = c.loop-place.invariant.rising;
      apart = above_more c.loop-place.upto slots none c.loop-place.invariant.above;
      fits = c.loop-place.invariant.fits;
    }
