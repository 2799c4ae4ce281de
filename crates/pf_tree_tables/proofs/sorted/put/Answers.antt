use Rattle.std.proofs.Common.{◌≡◌, rules, List, subst, sym}
use Rattle.std.specs.List.{insert}
use Rattle.pf_tree_tables.specs.Ordered.{IsFirstNotBefore, Puts}
use Rattle.pf_tree_tables.proofs.OrderedLists.{put_there}
use Rattle.pf_tree_tables.proofs.sorted.put.Goals as goal

pub returns-clause-put : goal.returns-clause-put
returns-clause-put g c =
    let items = c.args.items.now.items in
    let place = c.place_of-place.result in
    let first = subst (λ (xs : List g.row.K.Denot). IsFirstNotBefore g.K.Ord.cmp xs c.args.item place) c.deref.ensures.value c.place_of-place.ensures in
    let inserted : c.insert.new.self.items ≡ insert items place c.args.item = search rules in
    subst (λ (xs : List g.row.K.Denot). Puts g.K.Ord.cmp items c.args.item xs) (sym inserted)
    (put_there g.met.K.Ord.total items c.args.item c.requires.ascend c.requires.apart place first)
