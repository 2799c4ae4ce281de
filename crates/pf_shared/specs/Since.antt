-- What happened to a group since its first turn.
use Rattle.std.specs.Prelude.{List, [], ◌∷◌, ◌++◌}
use Rattle.pf_turn.specs.declared.log.Stamped.{Stamped}
use Rattle.pf_protocol.specs.Groups.{Group}
use Rattle.pf_protocol.specs.Histories.{History, replay}
use Rattle.pf_group_rounds.specs.pf_group.specs.GroupIs.{GroupIs}
use Rattle.pf_shared.specs.declared.moment.SeatMoment.{SeatMoment}
use Rattle.pf_shared.specs.Moments.{happenings}

-- what is left of a list after one that begins it
abbrev pub rest_after : {A : Type 0} → List A → List A → List A
rest_after [] ys = ys
rest_after (x ∷ xs) [] = []
rest_after (x ∷ xs) (y ∷ ys) = rest_after xs ys

abbrev pub happened_since : GroupIs → GroupIs → History
happened_since start now = rest_after start.history now.history

-- the whole history, where the list is that behind the turn
abbrev pub whole_history : GroupIs → List (Stamped SeatMoment) → History
whole_history start list = start.history ++ happenings list

-- the group's state there
abbrev pub state_by_now : GroupIs → List (Stamped SeatMoment) → Group
state_by_now start list = replay start.setup (whole_history start list)
