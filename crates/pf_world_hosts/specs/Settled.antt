-- What a settling comes to.
use Rattle.std.specs.Prelude.{◌≡◌, ℕ, ◌<◌, ◌+◌, Bool, List, []}
use Rattle.pf_mount_host.specs.pf_group_rounds.specs.Halts.{Halt}
use Rattle.pf_mount_host.specs.pf_chunk.specs.Views.{ChunkIs}
use Rattle.pf_mount_host.specs.pf_world_moments.specs.Moments.{Moment}
use Rattle.pf_mount_host.specs.pf_world_moments.specs.Steps.{HaveGrown, TellsAll}
use Rattle.pf_world_hosts.specs.Settling.{SettlingHasEnded, PacketName, enough_tries, having_told, settle_to, settled}
use Rattle.pf_world_hosts.specs.Steps.{AreSameHosts, FleetIs, FleetHasGone, FleetHasStopped, FleetPart, volume_stands_at}

-- a settling as a part of a run
abbrev pub settling : (limit : ℕ) → FleetPart
settling limit halts v = let s = settled halts limit v in record { volume = s.volume; told = s.told }

-- it was settled, and ended by itself
pub record HasSettled (limit : ℕ) (old : List ChunkIs) (fleet : FleetIs) (before : List ℕ) (stopped : Bool) (new : List ChunkIs) (next : FleetIs)
    (after : List ℕ) : Type 0 where
  pub went : FleetHasGone (settling limit) old fleet before new next after
  pub same : AreSameHosts fleet next
  pub answered : (halts : List Halt) → TellsAll halts new → (settled halts limit (volume_stands_at halts old fleet)).stopped ≡ stopped
  pub ends : (halts : List Halt) → TellsAll halts new → SettlingHasEnded (settled halts limit (volume_stands_at halts old fleet))

-- one try of a settling with so many deliveries left
abbrev pub trying : (left : ℕ) → (passed : List PacketName) → FleetPart
trying left passed halts v = let s = settle_to 1 halts left passed v in record { volume = s.volume; told = s.told }

-- there was no memory for the whole of it: after so many whole tries one more was begun
pub record HasNotSettled (limit : ℕ) (old : List ChunkIs) (fleet : FleetIs) (new : List ChunkIs) : Type 0 where
  pub tries : ℕ
  pub few : tries < enough_tries limit
  pub left : ℕ
  pub passed : List PacketName
  pub told : List Moment
  pub mid : List ChunkIs
  pub mid_fleet : FleetIs
  pub grown : HaveGrown old mid
  pub run : (halts : List Halt) → TellsAll halts mid → (more : ℕ) → settle_to (tries + more) halts limit [] (volume_stands_at halts old fleet)
      ≡ having_told told (settle_to more halts left passed (volume_stands_at halts mid mid_fleet))
  pub stopped : FleetHasStopped (trying left passed) mid mid_fleet new
