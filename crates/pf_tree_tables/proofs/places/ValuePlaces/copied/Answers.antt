use Rattle.std.proofs.Common.{◌≡◌, List, subst, sym, arith, ◌∙◌}
use Rattle.pf_tree_tables.specs.Index.{IsIndexOf}
use Rattle.pf_tree_tables.proofs.IndexPlaces.{same_index}
use Rattle.pf_tree_tables.proofs.places.ValuePlaces.copied.Goals as goal

pub invariant_of-result : goal.invariant_of-result
invariant_of-result g c =
    let values = c.self.inside.values.items in
    let same : c.in_ok-values.values.items ≡ c.self.inside.values.items = c.in_ok-values.ensures.items ∙ c.deref.ensures.value in
    let room = c.in_ok-index.ensures.room in
    let rows = room.rows in
    let free = room.free in (
      subst (λ (vs : List g.row.T.Denot). IsIndexOf g.T.Ord.cmp vs c.in_ok-index.index) (sym same)
          (same_index g.met.T.Ord.total values c.self.inside.index c.in_ok-index.index c.self.invariant.0 c.in_ok-index.ensures.blank c.in_ok-index.ensures.rows c.in_ok-index.ensures.free),
      record { rows = omega (arith, rows); free = omega (arith, free) },
    )
