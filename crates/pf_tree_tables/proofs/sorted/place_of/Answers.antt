use Rattle.pf_tree_tables.proofs.OrderedLists.{first_found, first_gap}
use Rattle.pf_tree_tables.proofs.sorted.place_of.Goals as goal

pub returns-in-Ok : goal.returns-in-Ok
returns-in-Ok g c = first_found g.met.K.Ord.total c.args.items.now c.args.wanted.now c.requires c.in-Ok.place c.in-Ok.ensures.bound c.in-Ok.ensures.ok

pub returns-in-Err : goal.returns-in-Err
returns-in-Err g c = first_gap g.met.K.Ord.total c.args.items.now c.args.wanted.now c.requires c.in-Err.place c.in-Err.ensures.bound c.in-Err.ensures.position
