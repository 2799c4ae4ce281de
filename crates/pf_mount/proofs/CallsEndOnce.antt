-- A mount is ready once, and each call ends once.
use Rattle.std.proofs.Common.{◌≡◌, ℕ, zero, suc, Bool, true, false, not, ◌==◌, if◌then◌else◌, List, replicate, Option, Some, None, refl, sym, subst}
use Rattle.std.specs.Prelude.{unwrap_or}
use Rattle.std.specs.Str.{bytes_eq}
use Rattle.std.proofs.lemmas.Bool.{false≢true}
use Rattle.pf_base.specs.declared.asks.Reply.{Reply}
use Rattle.pf_base.specs.declared.asks.Reply.TheVariants.{Written, Bytes}
use Rattle.pf_tree_tables.specs.declared.changes.Txn.{Txn}
use Rattle.pf_layout.specs.Supers.{super_block}
use Rattle.pf_tree.specs.Held.{Held, data_of}
use Rattle.pf_tree.specs.Calls.{FileCall}
use Rattle.pf_txn.specs.Spelling.{spell_txn}
use Rattle.pf_txn.specs.Reading.{txn_in}
use Rattle.pf_paxos.specs.declared.block.Block.{Block}
use Rattle.pf_paxos.specs.declared.ballot.BallotStep.{BallotStep}
use Rattle.pf_paxos.specs.declared.ballot.BallotStep.TheVariants.{Go, Abort, NoValue, Decided}
use Rattle.pf_paxos.specs.Ballots.{read_at}
use Rattle.pf_file_calls.specs.declared.answers.CallAnswer.{CallAnswer}
use Rattle.pf_file_calls.specs.declared.answers.CallAnswer.TheVariants.{Refused}
use Rattle.pf_file_calls.specs.declared.answers.CallFault.TheVariants.{JournalFull}
use Rattle.pf_file_calls.specs.declared.calls.Pending.{Pending}
use Rattle.pf_file_calls.specs.declared.calls.Planned.{Planned}
use Rattle.pf_file_calls.specs.declared.calls.Planned.TheVariants.{Refuses, Proposes, Goes}
use Rattle.pf_file_calls.specs.declared.moving.Moved.{Moved}
use Rattle.pf_file_calls.specs.declared.moving.Moved.TheVariants.{Asks, Ends}
use Rattle.pf_file_calls.specs.Blocks.{bytes_of}
use Rattle.pf_file_calls.specs.Calls.{value_applied, is_txn_of, planned, size_in}
use Rattle.pf_file_calls.specs.Calls.{FilesIs}
use Rattle.pf_file_calls.specs.Moving.{data_moves, moves_on}
use Rattle.pf_mount_errands.specs.Blocks.{blocks_in}
use Rattle.pf_volume.specs.Volumes.{Extent}
use Rattle.pf_journal.specs.declared.layouts.Layout.{Layout}
use Rattle.pf_journal.specs.Layouts.{layout_of}
use Rattle.pf_mount_errands.specs.declared.errands.Errand.{Errand}
use Rattle.pf_mount_errands.specs.declared.errands.Errand.TheVariants.{Free, OfSync, OfPause, OfSuper, FillsSuper, LateWrite, LateRead}
use Rattle.pf_mount_errands.specs.declared.looks.Looks.{Looks}
use Rattle.pf_mount.specs.declared.stand.Stand.{Stand}
use Rattle.pf_mount.specs.declared.stand.MountStep.{MountStep}
use Rattle.pf_mount.specs.declared.work.MountNext.{MountNext}
use Rattle.pf_mount.specs.declared.work.MountNext.TheVariants.{Ready, Done, Failed}
use Rattle.pf_mount.specs.declared.work.MountTask.{MountTask}
use Rattle.pf_mount.specs.declared.work.MountWork.{MountWork}
use Rattle.pf_mount.specs.declared.work.MountWork.TheVariants.{Rests, Fails, ReadsSuper, WritesSuper, Syncs, Ballots, Pauses, Moves}
use Rattle.pf_mount_errands.specs.Positions.{anchors_of, can_start, having_aborted, having_read, having_seen, journal_of, rest_of_pause, starting_ballot}
use Rattle.pf_mount_errands.specs.Errands.{all_late, errand_at}
use Rattle.pf_mount_errands.specs.Looks.{are_looked, have_found, having_looked, new_looks}
use Rattle.pf_mount.specs.Mounts.{MountIs, Worked, position_advanced, mount_answered, ballot_answered, ballot_read, balloted, ballots, data_answered, done, errand_answered, fails, errand_freed, having_started, look_answered, data_moved, mount_opening, pause_answered, paused, pauses, plans, plans_as, port_answered, proceeds, proceeds_with, proposes, stand_of, starting, work_stays, super_answered, super_filled, super_read, synced, syncs, syncs_on, taken, turns_to}
use Rattle.pf_mount.specs.Mounts.{tables_held}
use Rattle.pf_mount.specs.Lives.{IsMountingWork, IsCallWork, IsMounting, MountIsAtRest, IsAtCall, MountHasFailed, MountsOn, CallsOn, RestsOn, FailsOn}

-- by the pending call
abbrev IsAtWork : Option Pending → MountWork → Type 0
IsAtWork None work = IsMountingWork work
IsAtWork (Some p) work = IsCallWork work

-- a step goes on, or it ends the mounting or the call. The work of a step that may stay is that of before
abbrev GoesOn : (may_stay : Bool) → Option Pending → (task : Option MountTask) → Type 0
GoesOn may_stay p None = may_stay ≡ true
GoesOn may_stay p (Some task) = IsAtWork p task.work

abbrev ComesToRest : Option MountTask → Type 0
ComesToRest None = ⊥
ComesToRest (Some task) = task.work ≡ Rests

abbrev HasFailedIn : Option MountTask → Type 0
HasFailedIn None = ⊥
HasFailedIn (Some task) = task.work ≡ Fails

abbrev Lives : (may_stay : Bool) → Option Pending → (ends : Bool) → Option MountNext → Option MountTask → Type 0
Lives may_stay p false None task = GoesOn may_stay p task
Lives may_stay None false (Some Ready) task = ComesToRest task
Lives may_stay None false (Some Failed) task = HasFailedIn task
Lives may_stay (Some q) true (Some (Done answer)) task = ComesToRest task
Lives may_stay p ends next task = ⊥

module _ (may_stay : Bool) where
  lives_if : (p : Option Pending) (b : Bool) (x y : MountStep) → Lives may_stay p x.ends x.next x.task → Lives may_stay p y.ends y.next y.task → (let s : MountStep = if b then x else y in Lives may_stay p s.ends s.next s.task)
  lives_if p true x y of_x of_y = of_x
  lives_if p false x y of_x of_y = of_y

  abbrev LivesBy : Option Pending → MountStep → Type 0
  LivesBy p step = Lives may_stay p step.ends step.next step.task

  pauses_lives : (p : Option Pending) (s : Stand) (input : Option (List ℕ)) (left : ℕ) → LivesBy p (pauses s input left)
  pauses_lives None s input left = tt
  pauses_lives (Some q) s input left = tt

  ballots_lives : (p : Option Pending) (s : Stand) (input : Option (List ℕ)) → LivesBy p (ballots s input)
  ballots_lives None s input = lives_if None (can_start s.position) (turns_to (record s { position = starting_ballot s.position input }) (Ballots input)) (pauses s input 0) tt tt
  ballots_lives (Some q) s input = lives_if (Some q) (can_start s.position) (turns_to (record s { position = starting_ballot s.position input }) (Ballots input)) (pauses s input 0) tt tt

  paused_lives : (p : Option Pending) (s : Stand) (input : Option (List ℕ)) (left : ℕ) → LivesBy p (paused s input left)
  paused_lives p s input zero = ballots_lives p s input
  paused_lives p s input (suc left) = pauses_lives p s input left

  module _ (q : Pending) where
    done_lives : (s : Stand) (answer : CallAnswer) → LivesBy (Some q) (done s answer)
    done_lives s answer = refl

    moved_lives : (s : Stand) (x : Moved) → LivesBy (Some q) (data_moved s x)
    moved_lives s (Asks ask moving) = tt
    moved_lives s (Ends answer) = refl

    proposes_lives : (s : Stand) (txn : Txn) → LivesBy (Some q) (proposes s txn)
    proposes_lives s txn = lives_if (Some q) (s.upto == (journal_of s.position).positions) (done s (Refused JournalFull)) (ballots s (Some (spell_txn txn))) refl (ballots_lives (Some q) s (Some (spell_txn txn)))

    plans_as_lives : (s : Stand) (x : Planned) → LivesBy (Some q) (plans_as s x)
    plans_as_lives s (Refuses fault) = refl
    plans_as_lives s (Proposes txn) = proposes_lives s txn
    plans_as_lives s (Goes step) = moved_lives s step

    plans_lives : (s : Stand) (h : Held) (p : Pending) → LivesBy (Some q) (plans s h p)
    plans_lives s h p = plans_as_lives s (planned s.mount s.volume (data_of h.first h.tables) h.tables p)

    proceeds_with_lives : (s : Stand) (h after : Held) (txn : Option Txn) (p : Pending) → LivesBy (Some q) (proceeds_with s h after txn p)
    proceeds_with_lives s h after txn p =
        lives_if (Some q) (is_txn_of s.mount p.number txn) (data_moved s (data_moves s.volume after.tables (size_in h.tables p.call) p.call)) (plans s after p)
        (moved_lives s (data_moves s.volume after.tables (size_in h.tables p.call) p.call)) (plans_lives s after p)

  synced_lives : (p : Option Pending) (s : Stand) (h : Held) → LivesBy p (synced s h p)
  synced_lives None s h = refl
  synced_lives (Some q) s h = plans_lives q s h q

  looks_live : (p : Option Pending) (s : Stand) (looks : Looks) → LivesBy p (turns_to s (Syncs looks))
  looks_live None s looks = tt
  looks_live (Some q) s looks = tt

  syncs_lives : (p : Option Pending) (s : Stand) (h : Held) → LivesBy p (syncs s h p)
  syncs_lives p s h = lives_if p (s.upto == (journal_of s.position).positions) (synced s h p) (turns_to (record s { errands = all_late s.errands }) (Syncs new_looks)) (synced_lives p s h) (looks_live p (record s { errands = all_late s.errands }) new_looks)

  syncs_on_lives : (p : Option Pending) (s : Stand) (h : Held) (looks : Looks) → LivesBy p (syncs_on s h p looks)
  syncs_on_lives p s h looks =
      lives_if p (not (are_looked (journal_of s.position).quorum looks)) (turns_to s (Syncs looks)) (if have_found looks then ballots s None else synced s h p)
      (looks_live p s looks)
      (lives_if p (have_found looks) (ballots s None) (synced s h p) (ballots_lives p s None) (synced_lives p s h))

  super_read_lives : (s : Stand) (h : Held) (sector : List ℕ) → LivesBy None (super_read s h None sector)
  super_read_lives s h sector =
      lives_if None (bytes_eq sector (super_block s.volume.chunks s.volume.sectors)) (syncs s h None) (if bytes_eq sector (replicate 512 0) then turns_to s WritesSuper else fails s)
      (syncs_lives None s h)
      (lives_if None (bytes_eq sector (replicate 512 0)) (turns_to s WritesSuper) (fails s) tt refl)

  proceeds_lives : (p : Option Pending) (s : Stand) (h after : Held) (txn : Option Txn) (input : Option (List ℕ)) → LivesBy p (proceeds s h after txn input p)
  proceeds_lives (Some q) s h after txn (Some input) = proceeds_with_lives q s h after txn q
  proceeds_lives None s h after txn (Some input) = syncs_lives None s after
  proceeds_lives p s h after txn None = syncs_lives p s after

stays_lives : (p : Option Pending) (s : Stand) → LivesBy true p (work_stays s)
stays_lives None s = refl
stays_lives (Some q) s = refl

balloted_lives : (p : Option Pending) (s : Stand) (h : Held) (input : Option (List ℕ)) (step : BallotStep) → LivesBy true p (balloted s h p input step).step
balloted_lives p s h input Go = stays_lives p s
balloted_lives p s h input (Abort mbal) = pauses_lives true p (record s { position = having_aborted s.position }) input (rest_of_pause s.mount (having_aborted s.position))
balloted_lives p s h input NoValue = synced_lives true p s h
balloted_lives p s h input (Decided value) = proceeds_lives true p (position_advanced s) h (record h { tables = value_applied h.tables (txn_in value) }) (txn_in value) input

module _ (p : Option Pending) (s : Stand) (h : Held) (anchor : ℕ) where
  read_lives : (work : MountWork) (blocks : List Block) → LivesBy true p (ballot_read s h p work anchor blocks).step
  read_lives (Ballots input) blocks = balloted_lives p (record s { position = having_read s.position anchor blocks }) h input (read_at s.position.ballot anchor blocks).step
  read_lives Rests blocks = stays_lives p s
  read_lives Fails blocks = stays_lives p s
  read_lives ReadsSuper blocks = stays_lives p s
  read_lives WritesSuper blocks = stays_lives p s
  read_lives (Syncs looks) blocks = stays_lives p s
  read_lives (Pauses input left) blocks = stays_lives p s
  read_lives (Moves moving) blocks = stays_lives p s

  ballot_lives : (work : MountWork) (reply : Reply) → LivesBy true p (ballot_answered s h p work anchor reply).step
  ballot_lives work Written = stays_lives p s
  ballot_lives work (Bytes sectors) = read_lives work (blocks_in sectors)

  look_lives : (work : MountWork) (reply : Reply) → LivesBy true p (look_answered (errand_freed s anchor) h p work anchor reply)
  look_lives (Syncs looks) (Bytes sectors) = syncs_on_lives true p (record (errand_freed s anchor) { position = having_seen s.position (blocks_in sectors) }) h (having_looked looks anchor (blocks_in sectors))
  look_lives (Syncs looks) Written = stays_lives p s
  look_lives Rests reply = stays_lives p s
  look_lives Fails reply = stays_lives p s
  look_lives ReadsSuper reply = stays_lives p s
  look_lives WritesSuper reply = stays_lives p s
  look_lives (Ballots input) reply = stays_lives p s
  look_lives (Pauses input left) reply = stays_lives p s
  look_lives (Moves moving) reply = stays_lives p s

  pause_lives : (work : MountWork) → LivesBy true p (pause_answered (errand_freed s anchor) work)
  pause_lives (Pauses input left) = paused_lives true p (errand_freed s anchor) input left
  pause_lives Rests = stays_lives p s
  pause_lives Fails = stays_lives p s
  pause_lives ReadsSuper = stays_lives p s
  pause_lives WritesSuper = stays_lives p s
  pause_lives (Syncs looks) = stays_lives p s
  pause_lives (Ballots input) = stays_lives p s
  pause_lives (Moves moving) = stays_lives p s

  filled_lives : (work : MountWork) → LivesBy true p (super_filled (errand_freed s anchor) h p work)
  filled_lives WritesSuper = syncs_lives true p (errand_freed s anchor) h
  filled_lives Rests = stays_lives p s
  filled_lives Fails = stays_lives p s
  filled_lives ReadsSuper = stays_lives p s
  filled_lives (Syncs looks) = stays_lives p s
  filled_lives (Ballots input) = stays_lives p s
  filled_lives (Pauses input left) = stays_lives p s
  filled_lives (Moves moving) = stays_lives p s

-- the superblock is read before any call
super_lives : (p : Option Pending) (s : Stand) (h : Held) (anchor : ℕ) (work : MountWork) (reply : Reply) → IsAtWork p work → LivesBy true p (super_answered (errand_freed s anchor) h p work reply)
super_lives None s h anchor ReadsSuper (Bytes sectors) at = super_read_lives true (errand_freed s anchor) h (bytes_of sectors)
super_lives (Some q) s h anchor ReadsSuper (Bytes sectors) at = absurd at
super_lives p s h anchor ReadsSuper Written at = stays_lives p s
super_lives p s h anchor Rests reply at = stays_lives p s
super_lives p s h anchor Fails reply at = stays_lives p s
super_lives p s h anchor WritesSuper reply at = stays_lives p s
super_lives p s h anchor (Syncs looks) reply at = stays_lives p s
super_lives p s h anchor (Ballots input) reply at = stays_lives p s
super_lives p s h anchor (Pauses input left) reply at = stays_lives p s
super_lives p s h anchor (Moves moving) reply at = stays_lives p s

errand_lives : (p : Option Pending) (s : Stand) (h : Held) (anchor : ℕ) (errand : Errand) (work : MountWork) (reply : Reply) → IsAtWork p work → LivesBy true p (errand_answered errand s h p work anchor reply).step
errand_lives p s h anchor Free work reply at = ballot_lives p s h anchor work reply
errand_lives p s h anchor OfSync work reply at = look_lives p s h anchor work reply
errand_lives p s h anchor OfPause work reply at = pause_lives p s h anchor work
errand_lives p s h anchor OfSuper work reply at = super_lives p s h anchor work reply at
errand_lives p s h anchor FillsSuper work reply at = filled_lives p s h anchor work
errand_lives p s h anchor LateWrite work reply at = stays_lives p s
errand_lives p s h anchor (LateRead count) work reply at = stays_lives p s

-- file data are those of a call
data_lives : (p : Option Pending) (s : Stand) (h : Held) (work : MountWork) (reply : Reply) → IsAtWork p work → LivesBy true p (data_answered s h work reply)
data_lives None s h (Moves moving) reply at = absurd at
data_lives (Some q) s h (Moves moving) reply at = moved_lives true q s (moves_on s.volume h.tables moving reply)
data_lives p s h Rests reply at = stays_lives p s
data_lives p s h Fails reply at = stays_lives p s
data_lives p s h ReadsSuper reply at = stays_lives p s
data_lives p s h WritesSuper reply at = stays_lives p s
data_lives p s h (Syncs looks) reply at = stays_lives p s
data_lives p s h (Ballots input) reply at = stays_lives p s
data_lives p s h (Pauses input left) reply at = stays_lives p s

port_lives : (p : Option Pending) (s : Stand) (h : Held) (work : MountWork) (port : ℕ) (reply : Reply) → IsAtWork p work → LivesBy true p (port_answered s h p work port reply).step
port_lives p s h work port reply at = by (port == anchors_of s.position)
  where
    by : (b : Bool) → (let x : Worked = if b then record { step = data_answered s h work reply; tables = h.tables } else errand_answered (errand_at s.errands port) s h p work port reply in LivesBy true p x.step)
    by true = data_lives p s h work reply at
    by false = errand_lives p s h port (errand_at s.errands port) work reply at

-- what a mount is that takes over such a step

went_on : (p : Option Pending) (o : Option MountTask) (task : MountTask) → IsAtWork p task.work → GoesOn true p o → IsAtWork p (unwrap_or o task).work
went_on p None task was is = was
went_on p (Some new) task was is = is

came_to_rest : (o : Option MountTask) (task : MountTask) → ComesToRest o → (unwrap_or o task).work ≡ Rests
came_to_rest None task is = absurd is
came_to_rest (Some new) task is = is

had_failed : (o : Option MountTask) (task : MountTask) → HasFailedIn o → (unwrap_or o task).work ≡ Fails
had_failed None task is = absurd is
had_failed (Some new) task is = is

mounts_on : (files : FilesIs) (task : MountTask) (s : Stand) (ends : Bool) (next : Option MountNext) (o : Option MountTask) → files.pending ≡ None → IsMountingWork task.work → Lives true None ends next o → (let step : MountStep = record { stand = s; task = o; ends = ends; next = next } in MountsOn (taken files task step).mount (taken files task step).next)
mounts_on files task s false None o none was is = record { call = none; work = went_on None o task was is }
mounts_on files task s false (Some Ready) o none was is = record { call = none; work = came_to_rest o task is }
mounts_on files task s false (Some Failed) o none was is = record { call = none; work = had_failed o task is }
mounts_on files task s false (Some (Done answer)) o none was is = absurd is
mounts_on files task s true None o none was is = absurd is
mounts_on files task s true (Some Ready) o none was is = absurd is
mounts_on files task s true (Some Failed) o none was is = absurd is
mounts_on files task s true (Some (Done answer)) o none was is = absurd is

calls_on : (q : Pending) (files : FilesIs) (task : MountTask) (s : Stand) (ends : Bool) (next : Option MountNext) (o : Option MountTask) → files.pending ≡ Some q → IsCallWork task.work → Lives true (Some q) ends next o → (let step : MountStep = record { stand = s; task = o; ends = ends; next = next } in CallsOn q (taken files task step).mount (taken files task step).next)
calls_on q files task s false None o some was is = record { call = some; work = went_on (Some q) o task was is }
calls_on q files task s false (Some Ready) o some was is = absurd is
calls_on q files task s false (Some Failed) o some was is = absurd is
calls_on q files task s false (Some (Done answer)) o some was is = absurd is
calls_on q files task s true None o some was is = absurd is
calls_on q files task s true (Some Ready) o some was is = absurd is
calls_on q files task s true (Some Failed) o some was is = absurd is
calls_on q files task s true (Some (Done answer)) o some was is = record { call = refl; work = came_to_rest o task is }

rests_on : (files : FilesIs) (task : MountTask) (step : MountStep) → files.pending ≡ None → task.work ≡ Rests → step ≡ work_stays step.stand → RestsOn (taken files task step).mount (taken files task step).next
rests_on files task step none rests same =
    let P : MountStep → Type 0 = λ s. RestsOn (taken files task s).mount (taken files task s).next in
    subst P (sym same) (record { call = none; work = rests })

fails_on : (files : FilesIs) (task : MountTask) (step : MountStep) → files.pending ≡ None → task.work ≡ Fails → step ≡ work_stays step.stand → FailsOn (taken files task step).mount (taken files task step).next
fails_on files task step none failed same =
    let P : MountStep → Type 0 = λ s. FailsOn (taken files task s).mount (taken files task s).next in
    subst P (sym same) (record { call = none; work = failed })

-- a late answer at rest, or where the mount has failed
abbrev IsOver : MountWork → Type 0
IsOver Rests = Unit {0}
IsOver Fails = Unit {0}
IsOver work = ⊥

abbrev Stays : MountStep → Type 0
Stays x = x ≡ work_stays x.stand

module _ (p : Option Pending) (s : Stand) (h : Held) where
  rest_errand : (errand : Errand) (anchor : ℕ) (reply : Reply) → Stays (errand_answered errand s h p Rests anchor reply).step
  rest_errand Free anchor Written = refl
  rest_errand Free anchor (Bytes sectors) = refl
  rest_errand OfSync anchor reply = refl
  rest_errand OfPause anchor reply = refl
  rest_errand OfSuper anchor reply = refl
  rest_errand FillsSuper anchor reply = refl
  rest_errand LateWrite anchor reply = refl
  rest_errand (LateRead count) anchor reply = refl

  fail_errand : (errand : Errand) (anchor : ℕ) (reply : Reply) → Stays (errand_answered errand s h p Fails anchor reply).step
  fail_errand Free anchor Written = refl
  fail_errand Free anchor (Bytes sectors) = refl
  fail_errand OfSync anchor reply = refl
  fail_errand OfPause anchor reply = refl
  fail_errand OfSuper anchor reply = refl
  fail_errand FillsSuper anchor reply = refl
  fail_errand LateWrite anchor reply = refl
  fail_errand (LateRead count) anchor reply = refl

  over_errand : (work : MountWork) → IsOver work → (errand : Errand) (anchor : ℕ) (reply : Reply) → Stays (errand_answered errand s h p work anchor reply).step
  over_errand Rests is = rest_errand
  over_errand Fails is = fail_errand
  over_errand ReadsSuper is = absurd is
  over_errand WritesSuper is = absurd is
  over_errand (Syncs looks) is = absurd is
  over_errand (Ballots input) is = absurd is
  over_errand (Pauses input left) is = absurd is
  over_errand (Moves moving) is = absurd is

  over_data : (work : MountWork) → IsOver work → (reply : Reply) → Stays (data_answered s h work reply)
  over_data Rests is reply = refl
  over_data Fails is reply = refl
  over_data ReadsSuper is reply = absurd is
  over_data WritesSuper is reply = absurd is
  over_data (Syncs looks) is reply = absurd is
  over_data (Ballots input) is reply = absurd is
  over_data (Pauses input left) is reply = absurd is
  over_data (Moves moving) is reply = absurd is

  over_port : (work : MountWork) → IsOver work → (port : ℕ) (reply : Reply) → Stays (port_answered s h p work port reply).step
  over_port work is port reply = by (port == anchors_of s.position)
    where
      by : (b : Bool) → (let x : Worked = if b then record { step = data_answered s h work reply; tables = h.tables } else errand_answered (errand_at s.errands port) s h p work port reply in Stays x.step)
      by true = over_data work is reply
      by false = over_errand work is (errand_at s.errands port) port reply

module _ (m : MountIs) (port : ℕ) (reply : Reply) where
  stays_over : IsOver m.task.work → Stays (port_answered (stand_of m) (tables_held m.files) m.files.pending m.task.work port reply).step
  stays_over is = over_port m.files.pending (stand_of m) (tables_held m.files) m.task.work is port reply

  pub resting_stays : MountIsAtRest m → RestsOn (mount_answered m port reply).mount (mount_answered m port reply).next
  resting_stays is =
      let made = port_answered (stand_of m) (tables_held m.files) m.files.pending m.task.work port reply in
      rests_on (record m.files { tables = made.tables }) m.task made.step is.call is.work (stays_over (subst IsOver (sym is.work) tt))

  pub failing_stays : MountHasFailed m → FailsOn (mount_answered m port reply).mount (mount_answered m port reply).next
  failing_stays is =
      let made = port_answered (stand_of m) (tables_held m.files) m.files.pending m.task.work port reply in
      fails_on (record m.files { tables = made.tables }) m.task made.step is.call is.work (stays_over (subst IsOver (sym is.work) tt))

  abbrev w : Option Pending → Worked
  w p = port_answered (stand_of m) (tables_held m.files) p m.task.work port reply

  pub mounting_goes_on : IsMounting m → MountsOn (mount_answered m port reply).mount (mount_answered m port reply).next
  mounting_goes_on is =
      let L : Option Pending → Type 0 = λ p. LivesBy true None (w p).step in
      let lives : L m.files.pending = subst L (sym is.call) (port_lives None (stand_of m) (tables_held m.files) m.task.work port reply is.work) in
      let made = w m.files.pending in
      mounts_on (record m.files { tables = made.tables }) m.task made.step.stand made.step.ends made.step.next made.step.task is.call is.work lives

  pub calling_goes_on : (q : Pending) → IsAtCall q m → CallsOn q (mount_answered m port reply).mount (mount_answered m port reply).next
  calling_goes_on q is =
      let L : Option Pending → Type 0 = λ p. LivesBy true (Some q) (w p).step in
      let lives : L m.files.pending = subst L (sym is.call) (port_lives (Some q) (stand_of m) (tables_held m.files) m.task.work port reply is.work) in
      let made = w m.files.pending in
      calls_on q (record m.files { tables = made.tables }) m.task made.step.stand made.step.ends made.step.next made.step.task is.call is.work lives

-- a call is started from rest: its first step never stays
started_on : (q : Pending) (files : FilesIs) (task : MountTask) (s : Stand) (ends : Bool) (next : Option MountNext) (o : Option MountTask) → files.pending ≡ Some q → Lives false (Some q) ends next o → (let step : MountStep = record { stand = s; task = o; ends = ends; next = next } in CallsOn q (taken files task step).mount (taken files task step).next)
started_on q files task s false None None some is = absurd (false≢true is)
started_on q files task s false None (Some new) some is = record { call = some; work = is }
started_on q files task s false (Some Ready) o some is = absurd is
started_on q files task s false (Some Failed) o some is = absurd is
started_on q files task s false (Some (Done answer)) o some is = absurd is
started_on q files task s true None o some is = absurd is
started_on q files task s true (Some Ready) o some is = absurd is
started_on q files task s true (Some Failed) o some is = absurd is
started_on q files task s true (Some (Done answer)) o some is = record { call = refl; work = came_to_rest o task is }

pub starting_goes_on : (m : MountIs) (call : FileCall) → CallsOn (record { number = suc m.files.calls; call = call }) (starting m call).mount (starting m call).next
starting_goes_on m call =
    let q : Pending = record { number = suc m.files.calls; call = call } in
    let n = having_started m call in
    let step = syncs (stand_of n) (tables_held n.files) (Some q) in
    started_on q n.files n.task step.stand step.ends step.next step.task refl (syncs_lives false (Some q) (stand_of n) (tables_held n.files))

first_mounting : (has : Bool) → (let work : MountWork = if has then ReadsSuper else Syncs new_looks in IsMountingWork work)
first_mounting true = tt
first_mounting false = tt

pub opening_mounts : (layout : Layout) (number : ℕ) (v : Extent) → IsMounting (mount_opening layout number v)
opening_mounts layout number v = record { call = refl; work = first_mounting (layout_of layout).has_super }
