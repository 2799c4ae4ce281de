use Rattle.std.proofs.Common.{List, subst, sym}
use Rattle.pf_tree_tables.specs.Ordered.{IsFirstNotBefore, TakesItem}
use Rattle.pf_tree_tables.proofs.OrderedLists.{taken}
use Rattle.pf_tree_tables.proofs.sorted.take.Goals as goal

pub returns-clause-taken : goal.returns-clause-taken
returns-clause-taken g c =
    let items = c.args.items.now.items in
    let first = subst (λ (xs : List g.row.K.Denot). IsFirstNotBefore g.K.Ord.cmp xs c.args.item.now c.place_of-place.result) c.deref.ensures.value c.place_of-place.ensures in
    subst (λ (xs : List g.row.K.Denot). TakesItem g.K.Ord.cmp items c.args.item.now xs) (sym c.remove.ensures.items)
    (taken g.met.K.Ord.total items c.args.item.now c.requires.ascend c.requires.there c.place_of-place.result first)
