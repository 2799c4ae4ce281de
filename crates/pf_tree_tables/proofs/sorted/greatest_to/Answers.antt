use Rattle.std.proofs.Common.{◌<◌, arith}
use Rattle.pf_tree_tables.proofs.OrderedLists.{greatest_before}
use Rattle.pf_tree_tables.proofs.sorted.greatest_to.Goals as goal

pub returns-in-Err : goal.returns-in-Err
returns-in-Err g c =
    let apart = c.in-Err.place-test.1 in
    let some : 0 < c.in-Err.place = omega (arith, apart) in
    greatest_before g.met.K.Ord.total c.args.items.now c.args.to.now c.requires c.in-Err.place c.index-items-place-in-Err.result some c.in-Err.ensures.bound c.index-items-place-in-Err.is c.in-Err.ensures.position
