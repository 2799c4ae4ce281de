-- The list behind the turn of a group.
use Rattle.std.specs.Prelude.{ℕ, Bool, true, List, [], ◌∷◌, Some, None, slice_set}
use Rattle.pf_turn.specs.declared.log.Stamped.{Stamped}
use Rattle.pf_protocol.specs.Histories.{History}
use Rattle.pf_group_rounds.specs.pf_group_network.specs.Readings.{taken_after}
use Rattle.pf_shared.specs.declared.moment.SeatMoment.{SeatMoment}
use Rattle.pf_shared.specs.declared.moment.SeatMoment.TheVariants.{Happened, Look}

abbrev pub entry : ℕ → SeatMoment → Stamped SeatMoment
entry seat what = record { seat = seat; what = what }

abbrev pub with_moment : SeatMoment → History → History
with_moment (Happened h) hs = h ∷ hs
with_moment (Look read) hs = hs

-- what happened to the group: the list without its looks and its seats
abbrev pub happenings : List (Stamped SeatMoment) → History
happenings [] = []
happenings (e ∷ es) = with_moment e.what (happenings es)

-- a look that took the answer of a read hands it out
abbrev pub moment_taken_with : List Bool → SeatMoment → List Bool
moment_taken_with taken (Happened h) = taken_after taken h.answer
moment_taken_with taken (Look None) = taken
moment_taken_with taken (Look (Some number)) = slice_set taken number true

-- for each read by its number, whether a look took its answer
abbrev pub handed_out : List Bool → List (Stamped SeatMoment) → List Bool
handed_out taken [] = taken
handed_out taken (e ∷ es) = handed_out (moment_taken_with taken e.what) es
