-- Where the disks of a run failed.
use Rattle.std.specs.Prelude.{ℕ, Bool, true, false, ◌&&◌, ◌==◌, nat_lt, List, filter, map, Option, Some, None}
use Rattle.std.specs.List.{last_or, list_any}

-- what was cut off: the making of the group, or the event that stands at this place of its history, from 0 on
pub data HaltPlace : Type 0 where
  Making : HaltPlace
  At : (place : ℕ) → HaltPlace

-- a disk of the server failed there. Of an event, the next restart finds its record or not
pub record Halt : Type 0 where
  pub group : ℕ
  pub place : HaltPlace
  pub server : ℕ
  pub found : Bool

abbrev pub is_making : HaltPlace → Bool
is_making Making = true
is_making (At place) = false

abbrev pub is_place_of_event : ℕ → HaltPlace → Bool
is_place_of_event n Making = false
is_place_of_event n (At place) = place == n

abbrev pub is_before_place : ℕ → HaltPlace → Bool
is_before_place n Making = false
is_before_place n (At place) = nat_lt place n

-- the servers of the group that could not be formatted
abbrev pub failed_by : List Halt → (group : ℕ) → List ℕ
failed_by halts group = map (λ h. h.server) (filter (λ h. h.group == group && is_making h.place) halts)

-- whether event n of the group was cut off
abbrev pub is_cut : List Halt → (group n : ℕ) → Bool
is_cut halts group n = list_any (λ h. h.group == group && is_place_of_event n h.place) halts

-- the last halt of the server before event n of the group
abbrev pub last_halt : List Halt → (group n server : ℕ) → Option Halt
last_halt halts group n server = last_or None (filter (λ h. h.group == group && h.server == server && is_before_place n h.place) halts)

abbrev pub tells_found : Option Halt → Bool
tells_found None = false
tells_found (Some h) = h.found

-- whether event n, a restart of the server, finds the record of the step that was cut off last
abbrev pub restart_finds : List Halt → (group n server : ℕ) → Bool
restart_finds halts group n server = tells_found (last_halt halts group n server)
