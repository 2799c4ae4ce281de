use Rattle.std.proofs.Common.{rules}
use Rattle.pf_live_crew.specs.Places.{IsPlace}
use Rattle.pf_live_crew.proofs.ListPairs.{pair_at, pair_set}
use Rattle.pf_live_crew.proofs.crew.turn_all.Goals as goal

pub turn_here-go_on-requires : goal.turn_here-go_on-requires
turn_here-go_on-requires g c = let was = c.requires in
    pair_at (IsPlace g.T.Works c.args.context.now) was.0 c.loop-place.place-items (c.loop-place.invariant was.0 was.1) c.loop-place.place-index c.place-item.result (search rules)

pub loop-place-preserved : goal.loop-place-preserved
loop-place-preserved g c xs was = pair_set (IsPlace g.T.Works c.args.context.now) xs c.loop-place.place-items c.loop-place.place-index c.place-item.result c.turn_here-go_on.new.place (c.loop-place.invariant xs was) (search rules)
    (λ x h. c.turn_here-go_on.ensures x h)
