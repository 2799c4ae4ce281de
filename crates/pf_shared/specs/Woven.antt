-- The list behind the turn, from what each turn did and what happened to the group.
use Rattle.std.specs.Prelude.{ℕ, ◌+◌, List, [], ◌∷◌, ◌++◌}
use Rattle.pf_turn.specs.declared.log.Stamped.{Stamped}
use Rattle.pf_protocol.specs.Histories.{History}
use Rattle.pf_shared.specs.declared.moment.SeatMoment.{SeatMoment}
use Rattle.pf_shared.specs.declared.moment.SeatMoment.TheVariants.{Happened, Look}
use Rattle.pf_shared.specs.declared.moment.Did.{Did}
use Rattle.pf_shared.specs.declared.moment.Did.TheVariants.{Acted, Looked}
use Rattle.pf_shared.specs.Moments.{entry}

abbrev pub next_entry : ℕ → Did → History → List (Stamped SeatMoment)
next_entry seat (Looked read) hs = entry seat (Look read) ∷ []
next_entry seat Acted [] = []
next_entry seat Acted (h ∷ hs) = entry seat (Happened h) ∷ []

abbrev pub rest_of_history : Did → History → History
rest_of_history (Looked read) hs = hs
rest_of_history Acted [] = []
rest_of_history Acted (h ∷ hs) = hs

-- each event stands where its turn was
abbrev pub woven : List (Stamped Did) → History → List (Stamped SeatMoment)
woven [] hs = []
woven (d ∷ ds) hs = next_entry d.seat d.what hs ++ woven ds (rest_of_history d.what hs)

abbrev pub step_count : Did → ℕ
step_count (Looked read) = 0
step_count Acted = 1

-- how many turns were events
abbrev pub steps_in : List (Stamped Did) → ℕ
steps_in [] = 0
steps_in (d ∷ ds) = step_count d.what + steps_in ds
