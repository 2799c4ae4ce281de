-- The life of a mount over a layout. Until it is ready no call is pending; then it rests, or it has failed for good. From rest a call is
-- started, one at a time, and the mount rests again as it ends.
use Rattle.std.specs.Prelude.{◌≡◌, Option, Some, None}
use Rattle.pf_file_calls.specs.declared.calls.Pending.{Pending}
use Rattle.pf_mount.specs.declared.work.MountNext.{MountNext}
use Rattle.pf_mount.specs.declared.work.MountNext.TheVariants.{Ready, Done, Failed}
use Rattle.pf_mount.specs.declared.work.MountWork.{MountWork}
use Rattle.pf_mount.specs.declared.work.MountWork.TheVariants.{Rests, Fails, ReadsSuper, WritesSuper, Moves}
use Rattle.pf_mount.specs.Mounts.{MountIs}

-- what it is at work on before it is ready, and for a call
abbrev pub IsMountingWork : MountWork → Type 0
IsMountingWork Rests = ⊥
IsMountingWork Fails = ⊥
IsMountingWork (Moves moving) = ⊥
IsMountingWork work = Unit {0}

abbrev pub IsCallWork : MountWork → Type 0
IsCallWork Rests = ⊥
IsCallWork Fails = ⊥
IsCallWork ReadsSuper = ⊥
IsCallWork WritesSuper = ⊥
IsCallWork work = Unit {0}

pub record IsMounting (m : MountIs) : Type 0 where
  pub call : m.files.pending ≡ None
  pub work : IsMountingWork m.task.work

pub record MountIsAtRest (m : MountIs) : Type 0 where
  pub call : m.files.pending ≡ None
  pub work : m.task.work ≡ Rests

pub record MountHasFailed (m : MountIs) : Type 0 where
  pub call : m.files.pending ≡ None
  pub work : m.task.work ≡ Fails

pub record IsAtCall (p : Pending) (m : MountIs) : Type 0 where
  pub call : m.files.pending ≡ Some p
  pub work : IsCallWork m.task.work

-- what a step makes of a mount that is not ready: it ends only with ready, or as the superblock is another's
abbrev pub MountsOn : MountIs → Option MountNext → Type 0
MountsOn m None = IsMounting m
MountsOn m (Some Ready) = MountIsAtRest m
MountsOn m (Some (Done answer)) = ⊥
MountsOn m (Some Failed) = MountHasFailed m

-- what a step makes of a mount at a call: the same call goes on, or it ends with one answer
abbrev pub CallsOn : Pending → MountIs → Option MountNext → Type 0
CallsOn p m None = IsAtCall p m
CallsOn p m (Some Ready) = ⊥
CallsOn p m (Some Failed) = ⊥
CallsOn p m (Some (Done answer)) = MountIsAtRest m

-- what a late answer makes of a mount at rest: nothing ends
abbrev pub RestsOn : MountIs → Option MountNext → Type 0
RestsOn m None = MountIsAtRest m
RestsOn m (Some next) = ⊥

-- what a late answer makes of a mount that has failed: nothing ends
abbrev pub FailsOn : MountIs → Option MountNext → Type 0
FailsOn m None = MountHasFailed m
FailsOn m (Some next) = ⊥
