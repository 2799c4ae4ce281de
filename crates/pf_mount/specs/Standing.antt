-- What is true of every mount over a layout, and what an answer at a port may be.
use Rattle.std.specs.Prelude.{◌≡◌, ℕ, ◌<◌, ◌≤◌, List, length, Option, Some, None}
use Rattle.pf_base.specs.Asks.{Answers as AnswersAsk}
use Rattle.pf_base.specs.declared.asks.Ask.{Ask}
use Rattle.pf_base.specs.declared.asks.Reply.{Reply}
use Rattle.pf_base.specs.declared.asks.Reply.TheVariants.{Written, Bytes}
use Rattle.pf_base.specs.declared.calls.Call.{Call}
use Rattle.pf_volume.specs.Volumes.{Extent}
use Rattle.pf_layout.specs.Calls.{IsReadAs}
use Rattle.pf_tree.specs.Calls.{FileCall}
use Rattle.pf_tree.specs.Held.{Held}
use Rattle.pf_paxos.specs.Standing.{IsInput}
use Rattle.pf_paxos.specs.declared.parts.AnchorAsk.{AnchorAsk}
use Rattle.pf_paxos.specs.declared.parts.AnchorAsk.TheVariants.{Nothing, OwnBlock, Half}
use Rattle.pf_paxos.specs.Parts.{part_at}
use Rattle.pf_file_calls.specs.Blocks.{AskIsInside}
use Rattle.pf_file_calls.specs.declared.moving.DataMoving.{DataMoving}
use Rattle.pf_file_calls.specs.declared.moving.Moved.{Moved}
use Rattle.pf_file_calls.specs.declared.moving.Moved.TheVariants.{Asks, Ends}
use Rattle.pf_file_calls.specs.Calls.{FilesIs}
use Rattle.pf_file_calls.specs.Moving.{IsTreeOf}
use Rattle.pf_mount.specs.Filing.{AnswersMoving}
use Rattle.pf_mount.specs.Filing.{IsShortFor}
use Rattle.pf_mount_errands.specs.declared.errands.Errand.{Errand}
use Rattle.pf_mount_errands.specs.declared.errands.Errand.TheVariants.{Free, OfSync, OfPause, OfSuper, FillsSuper, LateWrite, LateRead}
use Rattle.pf_mount.specs.declared.stand.Stand.{Stand}
use Rattle.pf_mount.specs.declared.work.MountTask.{MountTask}
use Rattle.pf_mount.specs.declared.work.MountWork.{MountWork}
use Rattle.pf_mount.specs.declared.work.MountWork.TheVariants.{Syncs, Ballots, Pauses, Moves}
use Rattle.pf_journal.specs.Layouts.{VolumeHasRoom}
use Rattle.pf_mount_errands.specs.Positions.{IsOverAnchors, anchors_of, journal_of}
use Rattle.pf_mount_errands.specs.Errands.{errand_at}
use Rattle.pf_mount.specs.Mounts.{MountIs, MountOutcome, starting}

-- Answers

abbrev pub ReplyIsWritten : Reply → Type 0
ReplyIsWritten Written = Unit {0}
ReplyIsWritten (Bytes sectors) = ⊥

abbrev pub HasSectors : (count : ℕ) → Reply → Type 0
HasSectors count Written = ⊥
HasSectors count (Bytes sectors) = length sectors ≡ count

abbrev pub AnswersBallot : AnchorAsk → Reply → Type 0
AnswersBallot OwnBlock reply = ReplyIsWritten reply
AnswersBallot (Half half) reply = HasSectors 8 reply
AnswersBallot Nothing reply = ⊥

-- by what is pending at an anchor
abbrev pub AnswersErrand : Errand → (asked : AnchorAsk) → Reply → Type 0
AnswersErrand Free asked reply = AnswersBallot asked reply
AnswersErrand OfSync asked reply = HasSectors 8 reply
AnswersErrand OfPause asked reply = HasSectors 1 reply
AnswersErrand OfSuper asked reply = HasSectors 1 reply
AnswersErrand FillsSuper asked reply = ReplyIsWritten reply
AnswersErrand LateWrite asked reply = ReplyIsWritten reply
AnswersErrand (LateRead count) asked reply = HasSectors count reply

-- an ask for file data is pending once it was handed out
abbrev pub AnswersData : MountWork → (waiting : Option Ask) → Reply → Type 0
AnswersData (Moves moving) None reply = AnswersMoving moving reply
AnswersData work waiting reply = ⊥

-- The port has a pending ask, and the reply is of its kind, and has as many sectors
pub record AnswersPort (m : MountIs) (port : ℕ) (reply : Reply) : Type 0 where
  pub port_low : port ≤ anchors_of m.position
  pub anchor : port < anchors_of m.position → AnswersErrand (errand_at m.errands port) (part_at m.position.ballot.parts port).asked reply
  pub data_port : port ≡ anchors_of m.position → AnswersData m.task.work m.task.ask reply

-- each answer to what is asked is one that the port takes then
abbrev pub Awaits : MountIs → (port : ℕ) → Option Ask → Type 0
Awaits m port None = Unit {0}
Awaits m port (Some ask) = (reply : Reply) → AnswersAsk ask reply → AnswersPort m port reply

-- what a port awaited it awaits still
abbrev pub AwaitsStill : (old new : MountIs) → (port : ℕ) → Type 0
AwaitsStill old new port = (ask : Option Ask) → Awaits old port ask → Awaits new port ask

-- what is asked is valid, and lies in a chunk of the volume
abbrev pub AsksWithin : Extent → Option Ask → Type 0
AsksWithin v None = Unit {0}
AsksWithin v (Some ask) = AskIsInside v ask

-- Where a mount stands

-- one of sixteen mounts, of a volume with room for its layout, at one of the positions or past them
pub record IsStand (s : Stand) : Type 0 where
  pub mount : s.mount < 16
  pub room : VolumeHasRoom s.position.layout s.volume
  pub over : IsOverAnchors s.position
  pub upto : s.upto ≤ (journal_of s.position).positions

-- tables of the volume, with their 1,024 inodes
pub record IsHeldFor (v : Extent) (h : Held) : Type 0 where
  pub blocks : IsTreeOf v h.tables
  pub inodes : length h.tables.inodes ≡ 1024

-- the tables and the call of a mount that stands here
pub record AreFilesFor (s : Stand) (files : FilesIs) : Type 0 where
  pub volume : files.volume ≡ s.volume
  pub inodes : length files.tables.inodes ≡ 1024
  pub call : IsShortFor files.pending

-- a position is read or decided only where there is one, and an input has a byte at least
abbrev pub IsWorkAt : (positions upto : ℕ) → MountWork → Type 0
IsWorkAt positions upto (Syncs looks) = upto < positions
IsWorkAt positions upto (Ballots input) = (upto < positions) × IsInput input
IsWorkAt positions upto (Pauses input left) = (upto < positions) × IsInput input
IsWorkAt positions upto work = Unit {0}

-- an ask for file data is valid, lies in a chunk of the volume, and each answer to it is one that this takes
pub record IsDataAsk (v : Extent) (moving : DataMoving) (ask : Ask) : Type 0 where
  pub inside : AskIsInside v ask
  pub awaits : (reply : Reply) → AnswersAsk ask reply → AnswersMoving moving reply

abbrev pub IsFileMove : Extent → Moved → Type 0
IsFileMove v (Asks ask moving) = IsDataAsk v moving ask
IsFileMove v (Ends answer) = Unit {0}

-- an ask waits only at file data
abbrev pub IsAskOfWork : Extent → MountWork → Option Ask → Type 0
IsAskOfWork v work None = Unit {0}
IsAskOfWork v (Moves moving) (Some ask) = IsDataAsk v moving ask
IsAskOfWork v work (Some ask) = ⊥

pub record IsTask (v : Extent) (positions upto : ℕ) (task : MountTask) : Type 0 where
  pub work : IsWorkAt positions upto task.work
  pub ask : IsAskOfWork v task.work task.ask

-- what is true of every mount, beside what its tables and its ballots are
pub record IsMount (m : MountIs) : Type 0 where
  pub number : m.files.mount < 16
  pub room : VolumeHasRoom m.position.layout m.files.volume
  pub over : IsOverAnchors m.position
  pub first : m.files.first ≡ (journal_of m.position).first
  pub upto : m.upto ≤ (journal_of m.position).positions
  pub inodes : length m.files.tables.inodes ≡ 1024
  pub call : IsShortFor m.files.pending
  pub task : IsTask m.files.volume (journal_of m.position).positions m.upto m.task

-- the mount starts the call with its paths read
abbrev pub Starts : MountIs → Call (List ℕ) → MountOutcome → Type 0
Starts m call outcome = (file : FileCall) × IsReadAs call file × (outcome ≡ starting m file)
