-- Positions at which calls are planned, and calls that have ended.
use Rattle.std.specs.Prelude.{◌≡◌, ◌⊎◌, ℕ, ◌<◌, List, Option, Some, None}
use Rattle.pf_mount.specs.declared.work.MountWork.{MountWork}
use Rattle.pf_mount.specs.declared.work.MountWork.TheVariants.{Rests, Ballots, Pauses, Moves}
use Rattle.pf_mount.specs.Mounts.{MountIs}

abbrev pub IsSomeInput : Option (List ℕ) → Type 0
IsSomeInput None = ⊥
IsSomeInput (Some value) = Unit {0}

-- no sync: the mount puts in a transaction, moves the data of its call, or rests
abbrev pub IsPlanned : MountWork → Type 0
IsPlanned (Ballots input) = IsSomeInput input
IsPlanned (Pauses input left) = IsSomeInput input
IsPlanned (Moves moving) = Unit {0}
IsPlanned Rests = Unit {0}
IsPlanned work = ⊥

-- the mount's call with this number has ended: the mount rests behind it, or a later one has begun
abbrev pub CallHasEnded : MountIs → (number : ℕ) → Type 0
CallHasEnded x number = (number < x.files.calls) ⊎ ((number ≡ x.files.calls) × (x.task.work ≡ Rests))
