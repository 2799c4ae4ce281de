use Rattle.pf_tree_tables.proofs.IndexPlaces.{apart_free, apart_rows}
use Rattle.pf_tree_tables.proofs.index.Index.put.Goals as goal

pub put-requires-clause-apart : goal.put-requires-clause-apart
put-requires-clause-apart g c = apart_free c.args.self.now c.args.row.number c.requires.nowhere

pub put-requires-else-eq-clause-apart : goal.put-requires-else-eq-clause-apart
put-requires-else-eq-clause-apart g c = apart_rows g.T.Ord.cmp c.args.self.now c.args.row c.requires.nowhere
