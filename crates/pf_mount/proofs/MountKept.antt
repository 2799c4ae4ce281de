-- A mount stays as every mount is.
use Rattle.std.proofs.Common.{◌≡◌, ◌≢◌, ℕ, zero, suc, ◌<◌, ◌≤◌, Bool, true, false, not, ◌==◌, if◌then◌else◌, List, [], ◌∷◌, length, replicate, Option, Some, None, ap, refl, sym, subst, ◌∙◌, arith}
use Rattle.std.specs.Prelude.{unwrap_or}
use Rattle.std.specs.Str.{bytes_eq}
use Rattle.std.proofs.lemmas.Bool.{eqb-false}
use Rattle.pf_base.specs.declared.asks.Reply.{Reply}
use Rattle.pf_base.specs.declared.asks.Reply.TheVariants.{Written, Bytes}
use Rattle.pf_volume.specs.Volumes.{Extent, IsVolume}
use Rattle.pf_tree_tables.specs.declared.changes.Change.{Change}
use Rattle.pf_tree_tables.specs.declared.changes.Txn.{Txn}
use Rattle.pf_tree_tables.specs.Tables.{Tables}
use Rattle.pf_tree_tables.proofs.Shelves.{applied_length}
use Rattle.pf_layout.specs.Supers.{super_block}
use Rattle.pf_tree.specs.Held.{Held, data_of}
use Rattle.pf_tree.specs.Trees.{Data, refusal}
use Rattle.pf_tree.specs.Plans.{changes, tables_sight}
use Rattle.pf_tree.specs.Calls.{FileCall}
use Rattle.pf_txn.specs.Spelling.{spell_txn}
use Rattle.pf_txn.specs.Reading.{txn_in}
use Rattle.pf_paxos.specs.declared.block.Block.{Block}
use Rattle.pf_paxos.specs.Standing.{IsInput}
use Rattle.pf_paxos.specs.declared.ballot.BallotStep.{BallotStep}
use Rattle.pf_paxos.specs.declared.ballot.BallotStep.TheVariants.{Go, Abort, NoValue, Decided}
use Rattle.pf_paxos.specs.Ballots.{read_at}
use Rattle.pf_file_calls.specs.declared.answers.CallAnswer.{CallAnswer}
use Rattle.pf_file_calls.specs.declared.answers.CallAnswer.TheVariants.{Refused}
use Rattle.pf_file_calls.specs.declared.answers.CallFault.TheVariants.{JournalFull}
use Rattle.pf_file_calls.specs.declared.calls.Pending.{Pending}
use Rattle.pf_file_calls.specs.declared.calls.Planned.{Planned}
use Rattle.pf_file_calls.specs.declared.calls.Planned.TheVariants.{Refuses, Proposes, Goes}
use Rattle.pf_file_calls.specs.declared.moving.DataMoving.{DataMoving}
use Rattle.pf_file_calls.specs.declared.moving.Moved.{Moved}
use Rattle.pf_file_calls.specs.declared.moving.Moved.TheVariants.{Asks, Ends}
use Rattle.pf_file_calls.specs.Blocks.{bytes_of}
use Rattle.pf_file_calls.specs.Calls.{value_applied, is_txn_of, planned, planned_by, planned_with, size_in}
use Rattle.pf_file_calls.specs.Moving.{AsksInside, IsTreeOf, data_moves, moves_on}
use Rattle.pf_mount_errands.specs.Blocks.{blocks_in}
use Rattle.pf_mount.proofs.DataAsks.{AwaitsMoved}
use Rattle.pf_mount.proofs.DataAsks.{moves_awaits, moves_on_awaits}
use Rattle.pf_mount_errands.specs.declared.errands.Errand.{Errand}
use Rattle.pf_mount_errands.specs.declared.errands.Errand.TheVariants.{Free, OfSync, OfPause, OfSuper, FillsSuper, LateWrite, LateRead}
use Rattle.pf_mount_errands.specs.declared.looks.Looks.{Looks}
use Rattle.pf_mount.specs.declared.stand.Stand.{Stand}
use Rattle.pf_mount.specs.declared.stand.MountStep.{MountStep}
use Rattle.pf_mount.specs.declared.work.MountTask.{MountTask}
use Rattle.pf_mount.specs.declared.work.MountWork.{MountWork}
use Rattle.pf_mount.specs.declared.work.MountWork.TheVariants.{Rests, Fails, ReadsSuper, WritesSuper, Syncs, Ballots, Pauses, Moves}
use Rattle.pf_mount_errands.specs.Positions.{anchors_of, can_start, having_read, having_written, having_seen, journal_of}
use Rattle.pf_mount_errands.specs.Errands.{errand_at}
use Rattle.pf_mount_errands.specs.Looks.{are_looked, have_found, having_looked}
use Rattle.pf_mount.specs.Mounts.{Worked, ballot_aborted, position_advanced, ballot_answered, ballot_read, balloted, ballots, data_answered, done, errand_answered, fails, errand_freed, look_answered, data_moved, pause_answered, paused, pauses, plans, plans_as, port_answered, proceeds, proceeds_with, proposes, work_stays, super_answered, super_filled, super_read, synced, syncs, syncs_on, turns_to}
use Rattle.pf_journal.specs.declared.layouts.Layout.{Layout}
use Rattle.pf_journal.specs.Layouts.{layout_of}
use Rattle.pf_mount.specs.Standing.{IsFileMove, IsTask, IsWorkAt}
use Rattle.pf_mount.proofs.LaidOut.{read_laid}

-- what the mount is at work on after a step
abbrev pub IsTaskIf : Extent → (positions before after : ℕ) → Option MountTask → Type 0
IsTaskIf v positions before after None = after ≡ before
IsTaskIf v positions before after (Some task) = IsTask v positions after task

pub record IsStep (v : Extent) (positions before : ℕ) (step : MountStep) : Type 0 where
  pub upto : step.stand.upto ≤ positions
  pub task : IsTaskIf v positions before step.stand.upto step.task

-- what is worked out
pub record IsWorked (v : Extent) (positions before : ℕ) (w : Worked) : Type 0 where
  pub step : IsStep v positions before w.step
  pub inodes : length w.tables.inodes ≡ 1024

pub task_after : (v : Extent) (positions before after : ℕ) (o : Option MountTask) (task : MountTask) → IsTask v positions before task → IsTaskIf v positions before after o → IsTask v positions after (unwrap_or o task)
task_after v positions before after None task was same = subst (λ n. IsTask v positions n task) (sym same) was
task_after v positions before after (Some new) task was is = is

none_is_input : IsInput None
none_is_input v e = absurd (grind (arith, e))

spelled_is_input : (txn : Txn) → IsInput (Some (spell_txn txn))
spelled_is_input txn v e empty = absurd (grind (arith, e, empty))

moved_of : (v : Extent) (x : Moved) → AsksInside v x → AwaitsMoved x → IsFileMove v x
moved_of v (Asks ask moving) inside awaits = record { inside = inside; awaits = awaits }
moved_of v (Ends answer) inside awaits = tt

tree_with : (v : Extent) (t : Tables) (txn : Option Txn) → IsTreeOf v t → IsTreeOf v (value_applied t txn)
tree_with v t None is = is
tree_with v t (Some txn) is = (applied_length t txn.changes).2 ∙ is

pub inodes_with : (t : Tables) (txn : Option Txn) → length t.inodes ≡ 1024 → length (value_applied t txn).inodes ≡ 1024
inodes_with t None is = is
inodes_with t (Some txn) is = (applied_length t txn.changes).0 ∙ is

-- by the law that each ask for file data is inside
module _ (first : (v : Extent) (tables : Tables) (size : ℕ) (call : FileCall) → IsVolume v → IsTreeOf v tables → AsksInside v (data_moves v tables size call)) where
  pub moves_moved : (v : Extent) (tables : Tables) (size : ℕ) (call : FileCall) → IsVolume v → IsTreeOf v tables → IsFileMove v (data_moves v tables size call)
  moves_moved v tables size call is tree = moved_of v (data_moves v tables size call) (first v tables size call is tree) (moves_awaits v tables size call)

  module _ (v : Extent) (is : IsVolume v) where
    with_moved : (mount : ℕ) (tables : Tables) (p : Pending) → IsTreeOf v tables → (cs : List Change) (step : Moved) → planned_with mount v tables p cs ≡ Goes step → IsFileMove v step
    with_moved mount tables p tree [] step e =
        let same : data_moves v tables (size_in tables p.call) p.call ≡ step = (cc) in
        subst (IsFileMove v) same (moves_moved v tables (size_in tables p.call) p.call is tree)
    with_moved mount tables p tree (c ∷ cs) step e = absurd (grind (arith, e))

    planned_moved : (mount : ℕ) (d : Data) (tables : Tables) (p : Pending) → IsTreeOf v tables → (refused : Option ℕ) (step : Moved) → planned_by mount v d tables p refused ≡ Goes step → IsFileMove v step
    planned_moved mount d tables p tree (Some refused) step e = absurd (grind (arith, e))
    planned_moved mount d tables p tree None step e = with_moved mount tables p tree (changes d tables p.call) step e

-- with so many positions, from a position on
module _ (positions before : ℕ) where
  step_if : (v : Extent) (b : Bool) (x y : MountStep) → (b ≡ true → IsStep v positions before x) → (b ≡ false → IsStep v positions before y) → IsStep v positions before (if b then x else y)
  step_if v true x y of_x of_y = of_x refl
  step_if v false x y of_x of_y = of_y refl

  stays_step : (s : Stand) → s.upto ≤ positions → s.upto ≡ before → IsStep s.volume positions before (work_stays s)
  stays_step s low same = record { upto = low; task = same }

  done_step : (s : Stand) (answer : CallAnswer) → s.upto ≤ positions → IsStep s.volume positions before (done s answer)
  done_step s answer low = record { upto = low; task = record { work = tt; ask = tt } }

  moved_step : (s : Stand) (x : Moved) → s.upto ≤ positions → IsFileMove s.volume x → IsStep s.volume positions before (data_moved s x)
  moved_step s (Asks ask moving) low is = record { upto = low; task = record { work = tt; ask = is } }
  moved_step s (Ends answer) low is = done_step s answer low

  pauses_step : (s : Stand) (input : Option (List ℕ)) (left : ℕ) → s.upto < positions → IsInput input → IsStep s.volume positions before (pauses s input left)
  pauses_step s input left low is = record { upto = omega (arith, low); task = record { work = (low, is); ask = tt } }

  aborted_step : (s : Stand) (input : Option (List ℕ)) → s.upto < positions → IsInput input → IsStep s.volume positions before (ballot_aborted s input)
  aborted_step s input low is = record { upto = omega (arith, low); task = record { work = (low, is); ask = tt } }

  ballots_step : (s : Stand) (input : Option (List ℕ)) → s.upto < positions → IsInput input → IsStep s.volume positions before (ballots s input)
  ballots_step s input low is =
      step_if s.volume (can_start s.position) _ _
      (λ _. record { upto = omega (arith, low); task = record { work = (low, is); ask = tt } })
      (λ _. pauses_step s input 0 low is)

  paused_step : (s : Stand) (input : Option (List ℕ)) (left : ℕ) → s.upto < positions → IsInput input → IsStep s.volume positions before (paused s input left)
  paused_step s input zero low is = ballots_step s input low is
  paused_step s input (suc left) low is = pauses_step s input left low is

  -- its layout has them
  abbrev Fits : Stand → Type 0
  Fits s = (journal_of s.position).positions ≡ positions

  below : (s : Stand) → Fits s → s.upto ≤ positions → (s.upto == (journal_of s.position).positions) ≡ false → s.upto < positions
  below s fit low apart = let no : s.upto ≢ (journal_of s.position).positions = eqb-false s.upto (journal_of s.position).positions apart in omega (arith, low, no, fit)

  proposes_step : (s : Stand) (txn : Txn) → Fits s → s.upto ≤ positions → IsStep s.volume positions before (proposes s txn)
  proposes_step s txn fit low =
      step_if s.volume (s.upto == (journal_of s.position).positions) _ _
      (λ _. done_step s (Refused JournalFull) low)
      (λ apart. ballots_step s (Some (spell_txn txn)) (below s fit low apart) (spelled_is_input txn))

  plans_as_step : (s : Stand) (x : Planned) → Fits s → s.upto ≤ positions → ((step : Moved) → x ≡ Goes step → IsFileMove s.volume step) → IsStep s.volume positions before (plans_as s x)
  plans_as_step s (Refuses fault) fit low goes = done_step s (Refused fault) low
  plans_as_step s (Proposes txn) fit low goes = proposes_step s txn fit low
  plans_as_step s (Goes step) fit low goes = moved_step s step low (goes step refl)

  module _ (first : (v : Extent) (tables : Tables) (size : ℕ) (call : FileCall) → IsVolume v → IsTreeOf v tables → AsksInside v (data_moves v tables size call)) where
    plans_step : (s : Stand) (h : Held) (p : Pending) → Fits s → s.upto ≤ positions → IsVolume s.volume → IsTreeOf s.volume h.tables → IsStep s.volume positions before (plans s h p)
    plans_step s h p fit low is tree =
        let d = data_of h.first h.tables in
        plans_as_step s (planned s.mount s.volume d h.tables p) fit low
        (λ step e. planned_moved first s.volume is s.mount d h.tables p tree (refusal (tables_sight d h.tables) p.call) step e)

    synced_step : (s : Stand) (h : Held) (p : Option Pending) → Fits s → s.upto ≤ positions → IsVolume s.volume → IsTreeOf s.volume h.tables → IsStep s.volume positions before (synced s h p)
    synced_step s h None fit low is tree = record { upto = low; task = record { work = tt; ask = tt } }
    synced_step s h (Some p) fit low is tree = plans_step s h p fit low is tree

    pub syncs_step : (s : Stand) (h : Held) (p : Option Pending) → Fits s → s.upto ≤ positions → IsVolume s.volume → IsTreeOf s.volume h.tables → IsStep s.volume positions before (syncs s h p)
    syncs_step s h p fit low is tree =
        step_if s.volume (s.upto == (journal_of s.position).positions) _ _
        (λ _. synced_step s h p fit low is tree)
        (λ apart. record { upto = low; task = record { work = below s fit low apart; ask = tt } })

    syncs_on_step : (s : Stand) (h : Held) (p : Option Pending) (looks : Looks) → Fits s → s.upto < positions → IsVolume s.volume → IsTreeOf s.volume h.tables → IsStep s.volume positions before (syncs_on s h p looks)
    syncs_on_step s h p looks fit low is tree =
        step_if s.volume (not (are_looked (journal_of s.position).quorum looks)) _ _
        (λ _. record { upto = omega (arith, low); task = record { work = low; ask = tt } })
        (λ _. step_if s.volume (have_found looks) _ _
        (λ _. ballots_step s None low none_is_input)
        (λ _. synced_step s h p fit (omega (arith, low)) is tree))

    super_read_step : (s : Stand) (h : Held) (p : Option Pending) (sector : List ℕ) → Fits s → s.upto ≤ positions → IsVolume s.volume → IsTreeOf s.volume h.tables → IsStep s.volume positions before (super_read s h p sector)
    super_read_step s h p sector fit low is tree =
        step_if s.volume (bytes_eq sector (super_block s.volume.chunks s.volume.sectors)) _ _
        (λ _. syncs_step s h p fit low is tree)
        (λ _. step_if s.volume (bytes_eq sector (replicate 512 0)) (turns_to s WritesSuper) (fails s)
        (λ _. record { upto = low; task = record { work = tt; ask = tt } })
        (λ _. record { upto = low; task = record { work = tt; ask = tt } }))

    proceeds_with_step : (s : Stand) (h after : Held) (txn : Option Txn) (p : Pending) → Fits s → s.upto ≤ positions → IsVolume s.volume → IsTreeOf s.volume after.tables → IsStep s.volume positions before (proceeds_with s h after txn p)
    proceeds_with_step s h after txn p fit low is tree =
        step_if s.volume (is_txn_of s.mount p.number txn) _ _
        (λ _. moved_step s _ low (moves_moved first s.volume after.tables (size_in h.tables p.call) p.call is tree))
        (λ _. plans_step s after p fit low is tree)

    proceeds_step : (s : Stand) (h after : Held) (txn : Option Txn) (input : Option (List ℕ)) (p : Option Pending) → Fits s → s.upto ≤ positions → IsVolume s.volume → IsTreeOf s.volume after.tables → IsStep s.volume positions before (proceeds s h after txn input p)
    proceeds_step s h after txn (Some input) (Some p) fit low is tree = proceeds_with_step s h after txn p fit low is tree
    proceeds_step s h after txn (Some input) None fit low is tree = syncs_step s after None fit low is tree
    proceeds_step s h after txn None p fit low is tree = syncs_step s after p fit low is tree

    balloted_worked : (s : Stand) (h : Held) (p : Option Pending) (input : Option (List ℕ)) (step : BallotStep) → Fits s → s.upto < positions → s.upto ≡ before → IsInput input → IsVolume s.volume → IsTreeOf s.volume h.tables → length h.tables.inodes ≡ 1024 → IsWorked s.volume positions before (balloted s h p input step)
    balloted_worked s h p input Go fit low same given is tree inodes = record { step = stays_step s (omega (arith, low)) same; inodes = inodes }
    balloted_worked s h p input (Abort mbal) fit low same given is tree inodes = record { step = aborted_step s input low given; inodes = inodes }
    balloted_worked s h p input NoValue fit low same given is tree inodes = record { step = synced_step s h p fit (omega (arith, low)) is tree; inodes = inodes }
    balloted_worked s h p input (Decided value) fit low same given is tree inodes = record {
      step = proceeds_step (position_advanced s) h (record h { tables = value_applied h.tables (txn_in value) }) (txn_in value) input p fit (omega (arith, low)) is (tree_with s.volume h.tables (txn_in value) tree);
      inodes = inodes_with h.tables (txn_in value) inodes;
    }

    module _ (s : Stand) (h : Held) (p : Option Pending) (fit : Fits s) (low : s.upto ≤ positions) (same : s.upto ≡ before) (is : IsVolume s.volume) (tree : IsTreeOf s.volume h.tables) (inodes : length h.tables.inodes ≡ 1024) where
      read_stays : (anchor : ℕ) (blocks : List Block) → IsWorked s.volume positions before (record { step = work_stays (record s { position = having_read s.position anchor blocks }); tables = h.tables })
      read_stays anchor blocks = record { step = stays_step (record s { position = having_read s.position anchor blocks }) low same; inodes = inodes }

      ballot_read_worked : (work : MountWork) → IsWorkAt positions s.upto work → (anchor : ℕ) (blocks : List Block) → IsWorked s.volume positions before (ballot_read s h p work anchor blocks)
      ballot_read_worked (Ballots input) at anchor blocks =
          let after = having_read s.position anchor blocks in
          balloted_worked (record s { position = after }) h p input (read_at s.position.ballot anchor blocks).step
          (ap (λ (l : Layout). (layout_of l).positions) (read_laid s.position anchor blocks).layout ∙ fit) at.0 same at.1 is tree inodes
      ballot_read_worked Rests at anchor blocks = read_stays anchor blocks
      ballot_read_worked Fails at anchor blocks = read_stays anchor blocks
      ballot_read_worked ReadsSuper at anchor blocks = read_stays anchor blocks
      ballot_read_worked WritesSuper at anchor blocks = read_stays anchor blocks
      ballot_read_worked (Syncs looks) at anchor blocks = read_stays anchor blocks
      ballot_read_worked (Pauses input left) at anchor blocks = read_stays anchor blocks
      ballot_read_worked (Moves moving) at anchor blocks = read_stays anchor blocks

      ballot_worked : (work : MountWork) → IsWorkAt positions s.upto work → (anchor : ℕ) (reply : Reply) → IsWorked s.volume positions before (ballot_answered s h p work anchor reply)
      ballot_worked work at anchor Written = record { step = stays_step (record s { position = having_written s.position anchor }) low same; inodes = inodes }
      ballot_worked work at anchor (Bytes sectors) = ballot_read_worked work at anchor (blocks_in sectors)

      free_stays : (anchor : ℕ) → IsStep s.volume positions before (work_stays (errand_freed s anchor))
      free_stays anchor = stays_step (errand_freed s anchor) low same

      look_step : (work : MountWork) → IsWorkAt positions s.upto work → (anchor : ℕ) (reply : Reply) → IsStep s.volume positions before (look_answered (errand_freed s anchor) h p work anchor reply)
      look_step (Syncs looks) at anchor (Bytes sectors) = syncs_on_step (record (errand_freed s anchor) { position = having_seen s.position (blocks_in sectors) }) h p (having_looked looks anchor (blocks_in sectors)) fit at is tree
      look_step (Syncs looks) at anchor Written = free_stays anchor
      look_step Rests at anchor reply = free_stays anchor
      look_step Fails at anchor reply = free_stays anchor
      look_step ReadsSuper at anchor reply = free_stays anchor
      look_step WritesSuper at anchor reply = free_stays anchor
      look_step (Ballots input) at anchor reply = free_stays anchor
      look_step (Pauses input left) at anchor reply = free_stays anchor
      look_step (Moves moving) at anchor reply = free_stays anchor

      pause_step : (work : MountWork) → IsWorkAt positions s.upto work → (anchor : ℕ) → IsStep s.volume positions before (pause_answered (errand_freed s anchor) work)
      pause_step (Pauses input left) at anchor = paused_step (errand_freed s anchor) input left at.0 at.1
      pause_step Rests at anchor = free_stays anchor
      pause_step Fails at anchor = free_stays anchor
      pause_step ReadsSuper at anchor = free_stays anchor
      pause_step WritesSuper at anchor = free_stays anchor
      pause_step (Syncs looks) at anchor = free_stays anchor
      pause_step (Ballots input) at anchor = free_stays anchor
      pause_step (Moves moving) at anchor = free_stays anchor

      super_step : (work : MountWork) (anchor : ℕ) (reply : Reply) → IsStep s.volume positions before (super_answered (errand_freed s anchor) h p work reply)
      super_step ReadsSuper anchor (Bytes sectors) = super_read_step (errand_freed s anchor) h p (bytes_of sectors) fit low is tree
      super_step ReadsSuper anchor Written = free_stays anchor
      super_step Rests anchor reply = free_stays anchor
      super_step Fails anchor reply = free_stays anchor
      super_step WritesSuper anchor reply = free_stays anchor
      super_step (Syncs looks) anchor reply = free_stays anchor
      super_step (Ballots input) anchor reply = free_stays anchor
      super_step (Pauses input left) anchor reply = free_stays anchor
      super_step (Moves moving) anchor reply = free_stays anchor

      filled_step : (work : MountWork) (anchor : ℕ) → IsStep s.volume positions before (super_filled (errand_freed s anchor) h p work)
      filled_step WritesSuper anchor = syncs_step (errand_freed s anchor) h p fit low is tree
      filled_step Rests anchor = free_stays anchor
      filled_step Fails anchor = free_stays anchor
      filled_step ReadsSuper anchor = free_stays anchor
      filled_step (Syncs looks) anchor = free_stays anchor
      filled_step (Ballots input) anchor = free_stays anchor
      filled_step (Pauses input left) anchor = free_stays anchor
      filled_step (Moves moving) anchor = free_stays anchor

      errand_worked : (errand : Errand) (work : MountWork) → IsWorkAt positions s.upto work → (anchor : ℕ) (reply : Reply) → IsWorked s.volume positions before (errand_answered errand s h p work anchor reply)
      errand_worked Free work at anchor reply = ballot_worked work at anchor reply
      errand_worked OfSync work at anchor reply = record { step = look_step work at anchor reply; inodes = inodes }
      errand_worked OfPause work at anchor reply = record { step = pause_step work at anchor; inodes = inodes }
      errand_worked OfSuper work at anchor reply = record { step = super_step work anchor reply; inodes = inodes }
      errand_worked FillsSuper work at anchor reply = record { step = filled_step work anchor; inodes = inodes }
      errand_worked LateWrite work at anchor reply = record { step = free_stays anchor; inodes = inodes }
      errand_worked (LateRead count) work at anchor reply = record { step = free_stays anchor; inodes = inodes }

      module _ (next : (v : Extent) (tables : Tables) (moving : DataMoving) (reply : Reply) → IsVolume v → IsTreeOf v tables → AsksInside v (moves_on v tables moving reply)) where
        data_step : (work : MountWork) (reply : Reply) → IsStep s.volume positions before (data_answered s h work reply)
        data_step (Moves moving) reply = moved_step s (moves_on s.volume h.tables moving reply) low (moved_of s.volume (moves_on s.volume h.tables moving reply) (next s.volume h.tables moving reply is tree) (moves_on_awaits s.volume h.tables moving reply))
        data_step Rests reply = stays_step s low same
        data_step Fails reply = stays_step s low same
        data_step ReadsSuper reply = stays_step s low same
        data_step WritesSuper reply = stays_step s low same
        data_step (Syncs looks) reply = stays_step s low same
        data_step (Ballots input) reply = stays_step s low same
        data_step (Pauses input left) reply = stays_step s low same

        pub port_worked : (work : MountWork) → IsWorkAt positions s.upto work → (port : ℕ) (reply : Reply) → IsWorked s.volume positions before (port_answered s h p work port reply)
        port_worked work at port reply = by (port == anchors_of s.position)
          where
            by : (b : Bool) → IsWorked s.volume positions before (if b then record { step = data_answered s h work reply; tables = h.tables } else errand_answered (errand_at s.errands port) s h p work port reply)
            by true = record { step = data_step work reply; inodes = inodes }
            by false = errand_worked (errand_at s.errands port) work at port reply
