use Rattle.std.proofs.Common.{sym}
use Rattle.std.proofs.lemmas.Bool.{ltb-true}
use Rattle.pf_tree_tables.proofs.OrderedLists.{least_there}
use Rattle.pf_tree_tables.proofs.sorted.least_from.Goals as goal

pub returns : goal.returns
returns g c =
    let look = c.in_ok-item.ensures.lookup in
    least_there g.met.K.Ord.total c.args.items.now c.args.from.now c.requires c.place_of.result c.in_ok-item.item.now c.place_of.ensures (ltb-true _ _ (sym look.0)) look.1
