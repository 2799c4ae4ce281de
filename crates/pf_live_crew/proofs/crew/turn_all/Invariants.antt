use Rattle.std.proofs.Common.{List}
use Rattle.pf_live_crew.specs.Places.{ArePlaces}
use Rattle.pf_live_crew.proofs.crew.turn_all.Given as goal

abbrev pub invariant-loop-place : goal.invariant-loop-place
invariant-loop-place g l = (xs : List g.row.T.Denot) → ArePlaces g.T.Works l.context xs l.initial.place-items → ArePlaces g.T.Works l.context xs l.place-items
