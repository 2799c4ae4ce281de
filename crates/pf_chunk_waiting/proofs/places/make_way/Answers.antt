use Rattle.std.proofs.Common.{◌≡◌, List, [], ◌∷◌, ◌++◌, Some, slice_get, length, ◌-◌, arith, ap, sym, subst, ◌∙◌}
use Rattle.pf_chunk_waiting.specs.declared.places.ReadPlace.{ReadPlace}
use Rattle.pf_chunk_waiting.specs.Places.{AreOrdered, those_waiting}
use Rattle.pf_chunk_waiting.proofs.ReadPlaces.{more_ordered, swept, swept_then}
use Rattle.pf_chunk_waiting.proofs.places.make_way.Goals as goal

pub returns-then-number-last-clause-waiting : goal.returns-then-number-last-clause-waiting
returns-then-number-last-clause-waiting c = ap those_waiting c.sweep.ensures.waiting ∙ swept c.args.places.now.items

pub returns-then-number-last-clause-ordered : goal.returns-then-number-last-clause-ordered
returns-then-number-last-clause-ordered c p is numbered =
    subst (λ (items : List ReadPlace). AreOrdered (items ++ p ∷ [])) (sym c.sweep.ensures.waiting) (swept_then c.args.places.now.items p is)

pub returns-else-number-last-clause-ordered : goal.returns-else-number-last-clause-ordered
returns-else-number-last-clause-ordered c p is numbered =
    let items = c.args.places.now.items in
    let last = c.in-Some.last.now in
    let at : slice_get items (length items - 1) ≡ Some last = sym (c.in-Some.ensures.value ∙ ap (λ (ps : List ReadPlace). slice_get ps (length ps - 1)) c.deref.ensures.value) in
    more_ordered items p is c.requires last at (omega (arith, c.if-number-last.false, numbered))
