use Rattle.std.proofs.Common.{List, subst}
use Rattle.std.specs.Option.{MatchOption}
use Rattle.std.specs.Ordering.{is_eq}
use Rattle.pf_tree_tables.specs.Places.{IsLeastFrom, IsNoneFrom}
use Rattle.pf_tree_tables.proofs.IndexPlaces.{found}
use Rattle.pf_tree_tables.proofs.places.ValuePlaces.least.Goals as goal

pub returns : goal.returns
returns g c =
    let equal = λ (x : g.row.T.Denot). is_eq (g.T.Ord.cmp x c.args.value) in
    subst (λ (vs : List g.row.T.Denot). MatchOption c.least.result (IsNoneFrom equal vs c.args.first) (IsLeastFrom equal vs c.args.first)) c.self.view_is
    (found g.met.T.Ord.total c.self.inside.values.items c.self.inside.index c.self.invariant.0 c.args.value c.args.first c.least.result c.least.ensures)
