use Rattle.std.proofs.Common.{◌≡◌, List, vec_len}
use Rattle.pf_live_crew.specs.Places.{ArePlaces}
use Rattle.pf_live_crew.proofs.crew.run_here.Given as goal

abbrev pub invariant-loop : goal.invariant-loop
invariant-loop g l = ((xs : List g.row.T.Denot) → ArePlaces g.T.Works l.context xs l.initial.places.items → ArePlaces g.T.Works l.context xs l.places.items) × (vec_len l.places ≡ vec_len l.initial.places)
