-- A mount over a layout, as a pure machine: what a call that is started makes of it, what an answer at one of its ports does, and what it
-- asks at a port. The first ports are those to the anchors, and the one behind them is that for file data.
use Rattle.std.specs.Prelude.{ℕ, zero, suc, ◌/◌, true, false, not, ◌&&◌, ◌==◌, if◌then◌else◌, List, replicate, Option, Some, None, unwrap_or}
use Rattle.std.specs.Str.{bytes_eq}
use Rattle.pf_base.specs.declared.asks.Ask.{Ask}
use Rattle.pf_base.specs.declared.asks.Reply.{Reply}
use Rattle.pf_base.specs.declared.asks.Reply.TheVariants.{Written, Bytes}
use Rattle.pf_volume.specs.Volumes.{Extent, size_of}
use Rattle.pf_layout.specs.Supers.{super_block}
use Rattle.pf_tree.specs.Calls.{FileCall}
use Rattle.pf_tree.specs.Held.{Held, data_of}
use Rattle.pf_tree_tables.specs.declared.changes.Txn.{Txn}
use Rattle.pf_tree_tables.specs.Tables.{Tables, new_tables}
use Rattle.pf_txn.specs.Spelling.{spell_txn}
use Rattle.pf_txn.specs.Reading.{txn_in}
use Rattle.pf_paxos.specs.declared.block.Block.{Block}
use Rattle.pf_paxos.specs.declared.parts.AnchorNext.{AnchorNext}
use Rattle.pf_paxos.specs.declared.parts.AnchorNext.TheVariants.{Write, Read, Idle}
use Rattle.pf_paxos.specs.declared.ballot.BallotStep.{BallotStep}
use Rattle.pf_paxos.specs.declared.ballot.BallotStep.TheVariants.{Go, Abort, NoValue, Decided}
use Rattle.pf_paxos.specs.declared.parts.Stage.{Stage}
use Rattle.pf_paxos.specs.declared.parts.Stage.TheVariants.{ReadsLow, ReadsHigh}
use Rattle.pf_paxos.specs.Ballots.{next_at_anchor, read_at}
use Rattle.pf_file_calls.specs.declared.answers.CallAnswer.{CallAnswer}
use Rattle.pf_file_calls.specs.declared.answers.CallAnswer.TheVariants.{Refused}
use Rattle.pf_file_calls.specs.declared.answers.CallFault.TheVariants.{JournalFull}
use Rattle.pf_file_calls.specs.declared.calls.Pending.{Pending}
use Rattle.pf_file_calls.specs.declared.calls.Planned.{Planned}
use Rattle.pf_file_calls.specs.declared.calls.Planned.TheVariants.{Refuses, Proposes, Goes}
use Rattle.pf_file_calls.specs.declared.moving.Moved.{Moved}
use Rattle.pf_file_calls.specs.declared.moving.Moved.TheVariants.{Asks, Ends}
use Rattle.pf_file_calls.specs.Blocks.{bytes_of}
use Rattle.pf_file_calls.specs.Calls.{planned, value_applied, is_txn_of, size_in}
use Rattle.pf_file_calls.specs.Moving.{data_moves, moves_on}
use Rattle.pf_mount_errands.specs.Blocks.{blocks_in}
use Rattle.pf_mount_errands.specs.declared.errands.Errand.{Errand}
use Rattle.pf_mount_errands.specs.declared.errands.Errand.TheVariants.{Free, OfSync, OfPause, OfSuper, FillsSuper}
use Rattle.pf_mount_errands.specs.declared.errands.Errands.{Errands}
use Rattle.pf_mount_errands.specs.declared.looks.Looks.{Looks}
use Rattle.pf_mount.specs.declared.stand.Handed.{Handed}
use Rattle.pf_mount.specs.declared.stand.Stand.{Stand}
use Rattle.pf_mount.specs.declared.stand.MountStep.{MountStep}
use Rattle.pf_mount.specs.declared.work.MountNext.{MountNext}
use Rattle.pf_mount.specs.declared.work.MountNext.TheVariants.{Ready, Done, Failed}
use Rattle.pf_mount.specs.declared.work.MountTask.{MountTask}
use Rattle.pf_mount.specs.declared.work.MountWork.{MountWork}
use Rattle.pf_mount.specs.declared.work.MountWork.TheVariants.{Rests, Fails, ReadsSuper, WritesSuper, Syncs, Ballots, Pauses, Moves}
use Rattle.pf_file_calls.specs.Calls.{FilesIs}
use Rattle.pf_journal.specs.declared.layouts.Layout.{Layout}
use Rattle.pf_journal.specs.Layouts.{LayoutIs, layout_of}
use Rattle.pf_mount_errands.specs.Places.{reads_first, reads_half, reads_super, writes_own, writes_super}
use Rattle.pf_mount_errands.specs.Positions.{PositionIs, anchors_of, journal_of, new_position, can_start, having_aborted, having_asked, having_read, having_seen, having_written, rest_of_pause, starting_ballot}
use Rattle.pf_mount_errands.specs.Errands.{all_late, all_left, errand_at, is_anchor_free, is_pausing, least_free_anchor, no_errands, with_errand}
use Rattle.pf_mount_errands.specs.Looks.{are_looked, have_found, having_looked, look_at, new_looks}

-- its tables, and the first block of file data
abbrev pub tables_held : FilesIs → Held
tables_held files = record { first = files.first; tables = files.tables }

pub record MountIs : Type 0 where
  pub files : FilesIs  -- the tables, and the call that has not ended
  pub upto : ℕ  -- the position at which it stands: so many transactions are applied
  pub position : PositionIs
  pub errands : Errands
  pub task : MountTask

-- the mount after a step, and what ends by it
pub record MountOutcome : Type 0 where
  pub mount : MountIs
  pub next : Option MountNext

-- A step is worked out on where the mount stands, its tables and the call that has not ended. It leaves other tables where a value was
-- decided.
pub record Worked : Type 0 where
  pub step : MountStep
  pub tables : Tables

-- what the mount is at work on stays
abbrev pub work_stays : Stand → MountStep
work_stays s = record { stand = s; task = None; ends = false; next = None }

-- it is at work on this from now on, and nothing ends
abbrev pub turns_to : Stand → MountWork → MountStep
turns_to s work = record { stand = s; task = Some (record { work = work; ask = None }); ends = false; next = None }

abbrev pub done : Stand → CallAnswer → MountStep
done s answer = record { stand = s; task = Some (record { work = Rests; ask = None }); ends = true; next = Some (Done answer) }

-- a step of file data
abbrev pub data_moved : Stand → Moved → MountStep
data_moved s (Asks ask moving) = record { stand = s; task = Some (record { work = Moves moving; ask = Some ask }); ends = false; next = None }
data_moved s (Ends answer) = done s answer

-- Ballots

-- a pause of so many reads and one
abbrev pub pauses : Stand → (input : Option (List ℕ)) → (left : ℕ) → MountStep
pauses s input left = turns_to s (Pauses input left)

abbrev pub ballot_aborted : Stand → (input : Option (List ℕ)) → MountStep
ballot_aborted s input = pauses (record s { position = having_aborted s.position }) input (rest_of_pause s.mount (having_aborted s.position))

-- the least ballot above all that was seen here begins. Where none is left, one read, and then it is tried again
abbrev pub ballots : Stand → (input : Option (List ℕ)) → MountStep
ballots s input =
    if can_start s.position
    then turns_to (record s { position = starting_ballot s.position input }) (Ballots input)
    else pauses s input 0

-- a sector of a pause was read; nobody looks at it
abbrev pub paused : Stand → (input : Option (List ℕ)) → (left : ℕ) → MountStep
paused s input zero = ballots s input
paused s input (suc left) = pauses s input left

-- Calls

-- a change is proposed at the position, unless there is none any more
abbrev pub proposes : Stand → Txn → MountStep
proposes s txn = if s.upto == (journal_of s.position).positions then done s (Refused JournalFull) else ballots s (Some (spell_txn txn))

abbrev pub plans_as : Stand → Planned → MountStep
plans_as s (Refuses fault) = done s (Refused fault)
plans_as s (Proposes txn) = proposes s txn
plans_as s (Goes step) = data_moved s step

abbrev pub plans : Stand → Held → Pending → MountStep
plans s h p = plans_as s (planned s.mount s.volume (data_of h.first h.tables) h.tables p)

-- Syncs

-- a sync that ends: the mount is ready, or its call is planned
abbrev pub synced : Stand → Held → Option Pending → MountStep
synced s h None = record { stand = s; task = Some (record { work = Rests; ask = None }); ends = false; next = Some Ready }
synced s h (Some p) = plans s h p

-- both halves of the position are read on the anchors; past the last position there is nothing to read
abbrev pub syncs : Stand → Held → Option Pending → MountStep
syncs s h p =
    if s.upto == (journal_of s.position).positions then synced s h p
    else turns_to (record s { errands = all_late s.errands }) (Syncs new_looks)

-- once as many anchors are read as it needs: where none of their blocks has a nonzero bal the sync ends; else ballots without an own input decide the
-- position
abbrev pub syncs_on : Stand → Held → Option Pending → Looks → MountStep
syncs_on s h p looks =
    if not (are_looked (journal_of s.position).quorum looks) then turns_to s (Syncs looks)
    else if have_found looks then ballots s None
    else synced s h p

-- The superblock

-- sector 0 is of another volume: the mount never is ready
abbrev pub fails : Stand → MountStep
fails s = record { stand = s; task = Some (record { work = Fails; ask = None }); ends = false; next = Some Failed }

-- sector 0 is the superblock of the volume, or zeros, which it then is written over
abbrev pub super_read : Stand → Held → Option Pending → (sector : List ℕ) → MountStep
super_read s h p sector =
    if bytes_eq sector (super_block s.volume.chunks s.volume.sectors) then syncs s h p
    else if bytes_eq sector (replicate 512 0) then turns_to s WritesSuper
    else fails s

-- Decisions

-- the first of the next position
abbrev pub position_advanced : Stand → Stand
position_advanced s = record s { upto = suc s.upto; position = new_position s.position.layout s.mount; errands = all_left s.errands s.position.ballot.parts }

-- The value of a position is decided, and its transaction applied. A sync goes on at the next position. A call goes on to its data where
-- the transaction is its own, and else is planned again, without another sync
abbrev pub proceeds_with : Stand → (before after : Held) → Option Txn → Pending → MountStep
proceeds_with s before after txn p =
    if is_txn_of s.mount p.number txn
    then data_moved s (data_moves s.volume after.tables (size_in before.tables p.call) p.call)
    else plans s after p

abbrev pub proceeds : Stand → (before after : Held) → Option Txn → (input : Option (List ℕ)) → Option Pending → MountStep
proceeds s before after txn (Some input) (Some p) = proceeds_with s before after txn p
proceeds s before after txn (Some input) None = syncs s after None
proceeds s before after txn None p = syncs s after p

abbrev pub value_decided : Stand → Held → Option Pending → (input : Option (List ℕ)) → Option Txn → Worked
value_decided s h p input txn = record {
  step = proceeds (position_advanced s) h (record h { tables = value_applied h.tables txn }) txn input p;
  tables = value_applied h.tables txn;
}

-- what comes of an answered read of a ballot
abbrev pub balloted : Stand → Held → Option Pending → (input : Option (List ℕ)) → BallotStep → Worked
balloted s h p input Go = record { step = work_stays s; tables = h.tables }
balloted s h p input (Abort mbal) = record { step = ballot_aborted s input; tables = h.tables }
balloted s h p input NoValue = record { step = synced s h p; tables = h.tables }
balloted s h p input (Decided value) = value_decided s h p input (txn_in value)

-- Answers

abbrev pub errand_freed : Stand → (anchor : ℕ) → Stand
errand_freed s anchor = record s { errands = with_errand s.errands anchor Free }

-- a half was read in a ballot. While the mount is at other work no ballot runs, and the answer frees the anchor alone
abbrev pub ballot_read : Stand → Held → Option Pending → MountWork → (anchor : ℕ) → List Block → Worked
ballot_read s h p (Ballots input) anchor blocks =
    balloted (record s { position = having_read s.position anchor blocks }) h p input (read_at s.position.ballot anchor blocks).step
ballot_read s h p work anchor blocks = record { step = work_stays (record s { position = having_read s.position anchor blocks }); tables = h.tables }

abbrev pub ballot_answered : Stand → Held → Option Pending → MountWork → (anchor : ℕ) → Reply → Worked
ballot_answered s h p work anchor Written = record { step = work_stays (record s { position = having_written s.position anchor }); tables = h.tables }
ballot_answered s h p work anchor (Bytes sectors) = ballot_read s h p work anchor (blocks_in sectors)

-- a half was read in a sync
abbrev pub look_answered : Stand → Held → Option Pending → MountWork → (anchor : ℕ) → Reply → MountStep
look_answered s h p (Syncs looks) anchor (Bytes sectors) =
    syncs_on (record s { position = having_seen s.position (blocks_in sectors) }) h p (having_looked looks anchor (blocks_in sectors))
look_answered s h p work anchor reply = work_stays s

-- the superblock was read, or written
abbrev pub super_answered : Stand → Held → Option Pending → MountWork → Reply → MountStep
super_answered s h p ReadsSuper (Bytes sectors) = super_read s h p (bytes_of sectors)
super_answered s h p work reply = work_stays s

abbrev pub super_filled : Stand → Held → Option Pending → MountWork → MountStep
super_filled s h p WritesSuper = syncs s h p
super_filled s h p work = work_stays s

abbrev pub pause_answered : Stand → MountWork → MountStep
pause_answered s (Pauses input left) = paused s input left
pause_answered s work = work_stays s

abbrev pub errand_answered : Errand → Stand → Held → Option Pending → MountWork → (anchor : ℕ) → Reply → Worked
errand_answered Free s h p work anchor reply = ballot_answered s h p work anchor reply
errand_answered OfSync s h p work anchor reply = record { step = look_answered (errand_freed s anchor) h p work anchor reply; tables = h.tables }
errand_answered OfPause s h p work anchor reply = record { step = pause_answered (errand_freed s anchor) work; tables = h.tables }
errand_answered OfSuper s h p work anchor reply = record { step = super_answered (errand_freed s anchor) h p work reply; tables = h.tables }
errand_answered FillsSuper s h p work anchor reply = record { step = super_filled (errand_freed s anchor) h p work; tables = h.tables }
errand_answered errand s h p work anchor reply = record { step = work_stays (errand_freed s anchor); tables = h.tables }

abbrev pub data_answered : Stand → Held → MountWork → Reply → MountStep
data_answered s h (Moves moving) reply = data_moved s (moves_on s.volume h.tables moving reply)
data_answered s h work reply = work_stays s

abbrev pub port_answered : Stand → Held → Option Pending → MountWork → (port : ℕ) → Reply → Worked
port_answered s h p work port reply =
    if port == anchors_of s.position
    then record { step = data_answered s h work reply; tables = h.tables }
    else errand_answered (errand_at s.errands port) s h p work port reply

-- The mount takes over a step

abbrev pub stand_of : MountIs → Stand
stand_of m = record { mount = m.files.mount; volume = m.files.volume; upto = m.upto; position = m.position; errands = m.errands }

abbrev pub taken : FilesIs → MountTask → MountStep → MountOutcome
taken files task step = record {
  mount = record {
    files = record files { pending = if step.ends then None else files.pending };
    upto = step.stand.upto;
    position = step.stand.position;
    errands = step.stand.errands;
    task = unwrap_or step.task task;
  };
  next = step.next;
}

abbrev pub takes_work : MountIs → Worked → MountOutcome
takes_work m w = taken (record m.files { tables = w.tables }) m.task w.step

-- the pending ask of a port is answered
abbrev pub mount_answered : MountIs → (port : ℕ) → Reply → MountOutcome
mount_answered m port reply = takes_work m (port_answered (stand_of m) (tables_held m.files) m.files.pending m.task.work port reply)

-- a call begins with a sync
abbrev pub having_started : MountIs → FileCall → MountIs
having_started m call = record m { files = record m.files { calls = suc m.files.calls; pending = Some (record { number = suc m.files.calls; call = call }) } }

abbrev pub starting : MountIs → FileCall → MountOutcome
starting m call = let n = having_started m call in taken n.files n.task (syncs (stand_of n) (tables_held n.files) n.files.pending)

-- a new mount begins with the superblock, where its layout has one, and else with a sync
abbrev pub first_work : LayoutIs → MountWork
first_work l = if l.has_super then ReadsSuper else Syncs new_looks

abbrev pub mount_opening : Layout → (number : ℕ) → Extent → MountIs
mount_opening layout number v = record {
  files = record { mount = number; volume = v; first = (layout_of layout).first; tables = new_tables (size_of v / 8); calls = 0; pending = None };
  upto = 0;
  position = new_position layout number;
  errands = no_errands;
  task = record { work = first_work (layout_of layout); ask = None };
}

-- Asks

abbrev pub hands_nothing : Stand → Handed
hands_nothing s = record { stand = s; ask = None }

abbrev pub hands_errand : Stand → (anchor : ℕ) → Errand → Ask → Handed
hands_errand s anchor errand ask = record { stand = record s { errands = with_errand s.errands anchor errand }; ask = Some ask }

-- a sync's next half
abbrev pub looks_on : Stand → (anchor : ℕ) → Stage → Handed
looks_on s anchor ReadsLow = hands_errand s anchor OfSync (reads_half (journal_of s.position) s.volume anchor s.upto 0)
looks_on s anchor ReadsHigh = hands_errand s anchor OfSync (reads_half (journal_of s.position) s.volume anchor s.upto 1)
looks_on s anchor stage = hands_nothing s

-- a ballot's next ask
abbrev pub ballot_asks_next : Stand → (anchor : ℕ) → AnchorNext → Option Ask
ballot_asks_next s anchor (Write block) = Some (writes_own (journal_of s.position) s.volume anchor s.upto s.mount block)
ballot_asks_next s anchor (Read half) = Some (reads_half (journal_of s.position) s.volume anchor s.upto half)
ballot_asks_next s anchor Idle = None

abbrev pub ballots_on : Stand → (anchor : ℕ) → Handed
ballots_on s anchor = record {
  stand = record s { position = having_asked s.position anchor };
  ask = ballot_asks_next s anchor (next_at_anchor s.position.ballot anchor);
}

-- one read of a pause is pending at a time, on the least anchor that has no pending ask
abbrev pub pauses_on : Stand → (anchor : ℕ) → Handed
pauses_on s anchor =
    if not (is_pausing s.errands) && (anchor == least_free_anchor s.errands s.position.ballot.parts)
    then hands_errand s anchor OfPause (reads_first (journal_of s.position) s.volume anchor s.upto)
    else hands_nothing s

-- the superblock lies at anchor 0
abbrev pub supers_on : Stand → (anchor : ℕ) → Errand → Ask → Handed
supers_on s anchor errand ask = if anchor == 0 then hands_errand s anchor errand ask else hands_nothing s

abbrev pub works_on : Stand → MountWork → (anchor : ℕ) → Handed
works_on s ReadsSuper anchor = supers_on s anchor OfSuper (reads_super s.volume)
works_on s WritesSuper anchor = supers_on s anchor FillsSuper (writes_super s.volume)
works_on s (Syncs looks) anchor = looks_on s anchor (look_at looks anchor).stage
works_on s (Ballots input) anchor = ballots_on s anchor
works_on s (Pauses input left) anchor = pauses_on s anchor
works_on s work anchor = hands_nothing s

abbrev pub anchor_hands : Stand → MountWork → (anchor : ℕ) → Handed
anchor_hands s work anchor = if is_anchor_free s.errands s.position.ballot.parts anchor then works_on s work anchor else hands_nothing s

-- what is to be asked at a port now, if its last ask is answered and there is something to do
abbrev pub ask_at : MountIs → (port : ℕ) → Option Ask
ask_at m port = if port == anchors_of m.position then m.task.ask else (anchor_hands (stand_of m) m.task.work port).ask

-- the mount once that is handed out
abbrev pub asked_data : MountIs → MountIs
asked_data m = record m { task = record m.task { ask = None } }

abbrev pub asked_anchor : MountIs → (anchor : ℕ) → MountIs
asked_anchor m anchor = let s = (anchor_hands (stand_of m) m.task.work anchor).stand in record m { position = s.position; errands = s.errands }

abbrev pub mount_asked : MountIs → (port : ℕ) → MountIs
mount_asked m port = if port == anchors_of m.position then asked_data m else asked_anchor m port
