-- The lives of mounts over a layout: what comes to each of them, input by input, what its pending asks were asked for, and what its own
-- ballots told as decided.
use Rattle.std.specs.Prelude.{◌≡◌, ℕ, ◌/◌, ◌<◌, ◌≤◌, not, ◌&&◌, ◌==◌, if◌then◌else◌, List, [], ◌∷◌, ◌++◌, Option, Some, None}
use Rattle.pf_base.specs.declared.asks.Reply.{Reply}
use Rattle.pf_base.specs.declared.asks.Reply.TheVariants.{Bytes}
use Rattle.pf_volume.specs.Volumes.{Extent, size_of}
use Rattle.pf_tree_tables.specs.Tables.{Tables, new_tables}
use Rattle.pf_tree.specs.Calls.{FileCall}
use Rattle.pf_txn.specs.Reading.{txn_in}
use Rattle.pf_txn.specs.Spelling.{IsShortCall}
use Rattle.pf_paxos.specs.declared.parts.AnchorNext.{AnchorNext}
use Rattle.pf_paxos.specs.declared.parts.AnchorNext.TheVariants.{Idle}
use Rattle.pf_paxos.specs.declared.ballot.BallotStep.{BallotStep}
use Rattle.pf_paxos.specs.declared.ballot.BallotStep.TheVariants.{Decided}
use Rattle.pf_paxos.specs.declared.parts.Stage.{Stage}
use Rattle.pf_paxos.specs.declared.parts.Stage.TheVariants.{ReadsLow, ReadsHigh}
use Rattle.pf_paxos.specs.Ballots.{BallotIs, next_at_anchor, read_at}
use Rattle.pf_journal.specs.declared.layouts.Layout.{Layout}
use Rattle.pf_file_calls.specs.Calls.{value_applied}
use Rattle.pf_mount_errands.specs.Blocks.{blocks_in}
use Rattle.pf_mount_errands.specs.declared.errands.Errand.{Errand}
use Rattle.pf_mount_errands.specs.declared.errands.Errand.TheVariants.{Free}
use Rattle.pf_mount_errands.specs.Errands.{errand_at, is_anchor_free, is_pausing, least_free_anchor}
use Rattle.pf_mount_errands.specs.Looks.{look_at}
use Rattle.pf_mount_errands.specs.Positions.{anchors_of}
use Rattle.pf_mount.specs.declared.work.MountWork.{MountWork}
use Rattle.pf_mount.specs.declared.work.MountWork.TheVariants.{Rests, ReadsSuper, WritesSuper, Syncs, Ballots, Pauses}
use Rattle.pf_mount.specs.Mounts.{MountIs, mount_answered, mount_asked, mount_opening, starting}
use Rattle.pf_mount.specs.Standing.{AnswersPort}

-- a call begins, what the port asks next goes out, or the pending ask of the port is answered
pub data Input : Type 0 where
  Begins : (call : FileCall) → Input
  Asks : (port : ℕ) → Input
  Hears : (port : ℕ) (reply : Reply) → Input

-- what a pending ask of an anchor was asked for, and where
pub data Waiting : Type 0 where
  OfBallot : (position : ℕ) → Waiting
  OfSync : (position half : ℕ) → Waiting
  OfPause : Waiting
  OfSuper : Waiting

pub record Life : Type 0 where
  pub mount : MountIs
  pub waits : ℕ → Option Waiting  -- at each anchor
  pub decided : List (List ℕ)  -- the values that its own ballots told as decided, in order

abbrev pub opened : Layout → (number : ℕ) → Extent → Life
opened layout number v = record { mount = mount_opening layout number v; waits = λ anchor. None; decided = [] }

-- What waits

abbrev pub look_waits : (position : ℕ) → Stage → Option Waiting
look_waits position ReadsLow = Some (OfSync position 0)
look_waits position ReadsHigh = Some (OfSync position 1)
look_waits position stage = None

abbrev pub ballot_waits : (position : ℕ) → AnchorNext → Option Waiting
ballot_waits position Idle = None
ballot_waits position next = Some (OfBallot position)

abbrev pub pause_waits : MountIs → (anchor : ℕ) → Option Waiting
pause_waits m anchor = if not (is_pausing m.errands) && (anchor == least_free_anchor m.errands m.position.ballot.parts) then Some OfPause else None

-- the superblock lies at anchor 0
abbrev pub super_waits : (anchor : ℕ) → Option Waiting
super_waits anchor = if anchor == 0 then Some OfSuper else None

-- what is asked at an anchor that has no pending ask, by the mount's work
abbrev pub work_waits : MountIs → MountWork → (anchor : ℕ) → Option Waiting
work_waits m ReadsSuper anchor = super_waits anchor
work_waits m WritesSuper anchor = super_waits anchor
work_waits m (Syncs looks) anchor = look_waits m.upto (look_at looks anchor).stage
work_waits m (Ballots input) anchor = ballot_waits m.upto (next_at_anchor m.position.ballot anchor)
work_waits m (Pauses input left) anchor = pause_waits m anchor
work_waits m work anchor = None

-- where an ask is pending, nothing goes out
abbrev pub waits_now : Life → (anchor : ℕ) → Option Waiting
waits_now l anchor =
    if is_anchor_free l.mount.errands l.mount.position.ballot.parts anchor then work_waits l.mount l.mount.task.work anchor else l.waits anchor

abbrev pub waits_with : (ℕ → Option Waiting) → (anchor : ℕ) → Option Waiting → ℕ → Option Waiting
waits_with waits anchor waiting other = if other == anchor then waiting else waits other

abbrev pub waits_after : Life → Input → ℕ → Option Waiting
waits_after l (Begins call) = l.waits
waits_after l (Asks port) = waits_with l.waits port (waits_now l port)
waits_after l (Hears port reply) = waits_with l.waits port None

-- What is decided

abbrev pub value_in : BallotStep → Option (List ℕ)
value_in (Decided value) = Some value
value_in step = None

-- by the answer to an ask of a ballot that runs
abbrev pub decided_in : Errand → Reply → MountWork → BallotIs → (anchor : ℕ) → Option (List ℕ)
decided_in Free (Bytes sectors) (Ballots input) p anchor = value_in (read_at p anchor (blocks_in sectors)).step
decided_in errand reply work p anchor = None

-- the value that a ballot of the mount tells as decided with this input, if it tells one
abbrev pub decided_by : MountIs → Input → Option (List ℕ)
decided_by m (Hears port reply) =
    if port == anchors_of m.position
    then None
    else decided_in (errand_at m.errands port) reply m.task.work m.position.ballot port
decided_by m input = None

abbrev pub with_value : List (List ℕ) → Option (List ℕ) → List (List ℕ)
with_value list None = list
with_value list (Some value) = list ++ value ∷ []

-- the tables after these values, each with the transaction that it spells, if it spells one
abbrev pub after_values : Tables → List (List ℕ) → Tables
after_values tables [] = tables
after_values tables (value ∷ values) = after_values (value_applied tables (txn_in value)) values

-- those of a new volume
abbrev pub tables_from : Extent → List (List ℕ) → Tables
tables_from v values = after_values (new_tables (size_of v / 8)) values

-- A life goes on

abbrev pub mount_after : MountIs → Input → MountIs
mount_after m (Begins call) = (starting m call).mount
mount_after m (Asks port) = mount_asked m port
mount_after m (Hears port reply) = (mount_answered m port reply).mount

abbrev pub lives_on : Life → Input → Life
lives_on l input = record { mount = mount_after l.mount input; waits = waits_after l input; decided = with_value l.decided (decided_by l.mount input) }

-- What comes to many mounts, in its order. The mounts have the numbers 0 to 15

pub record MountTold : Type 0 where
  pub mount : ℕ
  pub input : Input

abbrev pub lived : (ℕ → Life) → MountTold → ℕ → Life
lived lives told mount = if mount == told.mount then lives_on (lives mount) told.input else lives mount

abbrev pub lives_from : (ℕ → Life) → List MountTold → ℕ → Life
lives_from lives [] = lives
lives_from lives (t ∷ told) = lives_from (lived lives t) told

abbrev pub all_opened : Layout → Extent → ℕ → Life
all_opened layout v mount = opened layout mount v

-- the life of each mount of a volume with this layout, after all that was told
abbrev pub lives : Layout → Extent → List MountTold → ℕ → Life
lives layout v told = lives_from (all_opened layout v) told

-- a mount can take an input: a call begins at rest, and what answers a port is one of its answers
abbrev pub CanTake : MountIs → Input → Type 0
CanTake m (Begins call) = m.task.work ≡ Rests
CanTake m (Asks port) = port ≤ anchors_of m.position
CanTake m (Hears port reply) = AnswersPort m port reply

pub record CanCome (lives : ℕ → Life) (told : MountTold) : Type 0 where
  pub number : told.mount < 16
  pub takes : CanTake (lives told.mount).mount told.input

abbrev pub CanComeFrom : (ℕ → Life) → List MountTold → Type 0
CanComeFrom lives [] = Unit {0}
CanComeFrom lives (t ∷ told) = CanCome lives t × CanComeFrom (lived lives t) told

-- each input is one that its mount can take then
abbrev pub CanBe : Layout → Extent → List MountTold → Type 0
CanBe layout v told = CanComeFrom (all_opened layout v) told

-- each call that begins has short names, as each call of words has
abbrev pub IsShortInput : Input → Type 0
IsShortInput (Begins call) = IsShortCall call
IsShortInput input = Unit {0}

abbrev pub AreShort : List MountTold → Type 0
AreShort [] = Unit {0}
AreShort (t ∷ told) = IsShortInput t.input × AreShort told
