-- A group, as contracts see it.
use Rattle.std.specs.Prelude.{◌≡◌, ◌⊎◌, ℕ, Bool, true, false, List, [], ◌∷◌, ◌++◌}
use Rattle.pf_entry.specs.Lists.{Every}
use Rattle.pf_protocol.specs.declared.events.Happening.{Happening}
use Rattle.pf_protocol.specs.Servers.{Setup}
use Rattle.pf_protocol.specs.Groups.{Group}
use Rattle.pf_protocol.specs.Histories.{History, replay}
use Rattle.pf_group_network.specs.Going.{is_quiet_event}

-- How far its disks are in time: for each server, the moments of the disks of its halves 0 and 1
pub record Times : Type 0 where
  pub now : List (ℕ × ℕ)
  pub began : List (ℕ × ℕ)  -- when the last step began that may have touched disks
  pub earlier : History  -- what had happened by then

pub record GroupIs : Type 0 where
  pub number : ℕ  -- of the group in its volume
  pub told : Bool  -- whether disks of its type tell their content
  pub setup : Setup
  pub history : History
  pub taken : List Bool  -- for each read by its number, whether its answer was handed out
  pub faults : List (ℕ × ℕ)  -- for each server, how often the disks of its halves 0 and 1 have failed
  pub time : Times

-- the state after the history, for which the group stands where its disks tell their content
abbrev pub state_of : GroupIs → Group
state_of g = replay g.setup g.history

-- The last step that may have touched disks led from the earlier history to the one after it by one happening; or by none, where there was no
-- memory for a restart, or where no such step was taken yet. Since then quiet events alone happened.
pub record IsLastStep (earlier after history : History) : Type 0 where
  pub step : (after ≡ earlier) ⊎ ((h : Happening) × (is_quiet_event h.event ≡ false) × (after ≡ earlier ++ h ∷ []))
  pub since : History
  pub quiet : Every (λ h. is_quiet_event h.event ≡ true) since
  pub whole : history ≡ after ++ since

-- the state when it began
abbrev pub state_before : GroupIs → Group
state_before g = replay g.setup g.time.earlier
