use Rattle.std.proofs.Common.{◌≡◌, length, refl, arith}
use Rattle.pf_tree_tables.proofs.IndexPlaces.{all_free}
use Rattle.pf_tree_tables.proofs.index.Index.all_free.Goals as goal

pub returns-clause-index : goal.returns-clause-index
returns-clause-index g c =
    let long : length c.loop-number.free.items ≡ c.args.count = omega arith in
    all_free g.met.T.Ord.total c.args.count c.args.blank (record { blank = c.args.blank; rows = c.in_ok-rows.rows; free = c.loop-number.free }) refl c.in_ok-rows.ensures.items long
    (λ k d low. c.loop-number.invariant.free k d (omega (arith, low, long)))
