use Rattle.std.proofs.Common.{◌<◌, ℕ, length, refl, subst, sym, ◌∙◌, arith}
use Rattle.std.proofs.lemmas.Grind.{common_steps}
use Rattle.std.proofs.lemmas.List.{get_or_default, length-set}
use Rattle.pf_tree_tables.specs.Index.{IndexHasRoom}
use Rattle.pf_tree_tables.proofs.IndexPlaces.{fewer, nowhere, put_back}
use Rattle.pf_tree_tables.proofs.places.ValuePlaces.set.Goals as goal

pub put-requires-clause-nowhere : goal.put-requires-clause-nowhere
put-requires-clause-nowhere g c =
    let values = c.self.inside.values.items in
    let low : c.args.number < length c.self.inside.values.items = grind (arith, common_steps) in
    let row_is = c.index.ensures ∙ get_or_default values c.args.number c.index.result.now c.self.inside.index.blank low in
    nowhere g.met.T.Ord.total values c.self.inside.index c.self.invariant.0 (record { value = c.index.result.now; number = c.args.number }) low row_is c.take.new.self c.take.ensures.taken

pub put-requires-clause-room : goal.put-requires-clause-room
put-requires-clause-room g c =
    let values = c.self.inside.values.items in
    let low : c.args.number < length c.self.inside.values.items = grind (arith, common_steps) in
    let row_is = c.index.ensures ∙ get_or_default values c.args.number c.index.result.now c.self.inside.index.blank low in
    subst (λ (n : ℕ). IndexHasRoom n c.take.new.self)
    (sym (fewer g.met.T.Ord.total values c.self.inside.index c.self.invariant.0 (record { value = c.index.result.now; number = c.args.number }) low row_is c.take.new.self c.take.ensures.taken))
    (c.take.ensures.kept.room (length values) c.self.invariant.1)

pub invariant_of-self : goal.invariant_of-self
invariant_of-self g c =
    let values = c.self.inside.values.items in
    let low : c.args.number < length c.self.inside.values.items = grind (arith, common_steps) in
    let row_is = c.index.ensures ∙ get_or_default values c.args.number c.index.result.now c.self.inside.index.blank low in (
      put_back g.met.T.Ord.total values c.self.inside.index c.self.invariant.0 (record { value = c.index.result.now; number = c.args.number }) low row_is c.take.new.self c.take.ensures.taken
          c.put.new.self (record { value = c.args.value; number = c.args.number }) refl c.take.ensures.kept.blank c.put.ensures.kept.blank c.put.ensures.put,
      subst (λ (n : ℕ). IndexHasRoom n c.put.new.self) (sym (length-set values c.args.number c.args.value))
          (c.put.ensures.kept.room (length values) (c.take.ensures.kept.room (length values) c.self.invariant.1)),
    )
