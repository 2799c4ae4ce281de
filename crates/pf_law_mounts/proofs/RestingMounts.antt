-- A mount rests as its call is done.
use Rattle.std.proofs.Common.{◌≡◌, ℕ, zero, suc, Bool, true, false, not, ◌==◌, if◌then◌else◌, List, Option, Some, None, refl, subst}
use Rattle.std.specs.Prelude.{unwrap_or}
use Rattle.std.proofs.lemmas.Option.{none-some}
use Rattle.pf_base.specs.declared.asks.Reply.{Reply}
use Rattle.pf_base.specs.declared.asks.Reply.TheVariants.{Written, Bytes}
use Rattle.pf_tree_tables.specs.declared.changes.Txn.{Txn}
use Rattle.pf_tree.specs.Held.{Held, data_of}
use Rattle.pf_txn.specs.Reading.{txn_in}
use Rattle.pf_txn.specs.Spelling.{spell_txn}
use Rattle.pf_paxos.specs.Ballots.{read_at}
use Rattle.pf_paxos.specs.declared.ballot.BallotStep.{BallotStep}
use Rattle.pf_paxos.specs.declared.ballot.BallotStep.TheVariants.{NoValue, Decided}
use Rattle.pf_paxos.specs.declared.block.Block.{Block}
use Rattle.pf_file_calls.specs.Calls.{value_applied, is_txn_of, planned, size_in}
use Rattle.pf_file_calls.specs.Moving.{data_moves, moves_on}
use Rattle.pf_file_calls.specs.declared.answers.CallAnswer.{CallAnswer}
use Rattle.pf_file_calls.specs.declared.answers.CallAnswer.TheVariants.{Refused}
use Rattle.pf_file_calls.specs.declared.answers.CallFault.TheVariants.{JournalFull}
use Rattle.pf_file_calls.specs.declared.calls.Pending.{Pending}
use Rattle.pf_file_calls.specs.declared.calls.Planned.{Planned}
use Rattle.pf_file_calls.specs.declared.calls.Planned.TheVariants.{Refuses, Proposes, Goes}
use Rattle.pf_file_calls.specs.declared.moving.Moved.{Moved}
use Rattle.pf_file_calls.specs.declared.moving.Moved.TheVariants.{Asks as AsksData, Ends}
use Rattle.pf_mount_errands.specs.Blocks.{blocks_in}
use Rattle.pf_mount_errands.specs.Errands.{all_late, errand_at}
use Rattle.pf_mount_errands.specs.Looks.{are_looked, have_found, having_looked, new_looks}
use Rattle.pf_mount_errands.specs.Positions.{anchors_of, can_start, having_read, having_seen, journal_of, starting_ballot}
use Rattle.pf_mount_errands.specs.declared.errands.Errand.{Errand}
use Rattle.pf_mount_errands.specs.declared.errands.Errand.TheVariants.{Free, OfSync, OfPause, OfSuper, FillsSuper}
use Rattle.pf_mount_errands.specs.declared.looks.Looks.{Looks}
use Rattle.pf_mount.specs.declared.work.MountNext.{MountNext}
use Rattle.pf_mount.specs.declared.work.MountNext.TheVariants.{Done}
use Rattle.pf_mount.specs.declared.work.MountTask.{MountTask}
use Rattle.pf_mount.specs.declared.work.MountWork.{MountWork}
use Rattle.pf_mount.specs.declared.work.MountWork.TheVariants.{Rests, ReadsSuper, WritesSuper, Syncs, Ballots, Pauses, Moves}
use Rattle.pf_mount.specs.Mounts.{MountIs, Worked, position_advanced, ballot_answered, ballot_read, balloted, ballots, data_answered, done, errand_answered, fails, errand_freed, having_started, tables_held, look_answered, data_moved, pause_answered, paused, pauses, plans, plans_as, port_answered, proceeds, proceeds_with, stand_of, work_stays, super_answered, super_filled, synced, syncs, syncs_on, turns_to}
use Rattle.pf_law_calls.specs.Answering.{next_by}
use Rattle.pf_law_calls.specs.Lives.{Asks, Begins, Hears, Input, mount_after}

-- the types of where a mount stands and of its steps, which have no names here
abbrev DomainOf : {A B : Type 0} → (A → B) → Type 0
DomainOf {A} {B} f = A

abbrev CodomainOf : {A B : Type 0} → (A → B) → Type 0
CodomainOf {A} {B} f = B

abbrev Stand : Type 0
Stand = DomainOf work_stays

abbrev Step : Type 0
Step = CodomainOf work_stays

-- Steps

abbrev ComesToRest : Option MountTask → Type 0
ComesToRest None = ⊥
ComesToRest (Some task) = task.work ≡ Rests

-- where a call is done, the work is to rest
abbrev RestsAsDone : Option MountNext → Option MountTask → Type 0
RestsAsDone (Some (Done answer)) task = ComesToRest task
RestsAsDone next task = Unit {0}

abbrev Rested : Step → Type 0
Rested step = RestsAsDone step.next step.task

rested_if : (b : Bool) (x y : Step) → Rested x → Rested y → Rested (if b then x else y)
rested_if true x y of_x of_y = of_x
rested_if false x y of_x of_y = of_y

ballots_rested : (s : Stand) (input : Option (List ℕ)) → Rested (ballots s input)
ballots_rested s input = rested_if (can_start s.position) (turns_to (record s { position = starting_ballot s.position input }) (Ballots input)) (pauses s input 0) tt tt

paused_rested : (s : Stand) (input : Option (List ℕ)) (left : ℕ) → Rested (paused s input left)
paused_rested s input zero = ballots_rested s input
paused_rested s input (suc left) = tt

moved_rested : (s : Stand) (x : Moved) → Rested (data_moved s x)
moved_rested s (AsksData ask moving) = tt
moved_rested s (Ends answer) = refl

plans_as_rested : (s : Stand) (x : Planned) → Rested (plans_as s x)
plans_as_rested s (Refuses fault) = refl
plans_as_rested s (Proposes txn) = rested_if (s.upto == (journal_of s.position).positions) (done s (Refused JournalFull)) (ballots s (Some (spell_txn txn))) refl (ballots_rested s (Some (spell_txn txn)))
plans_as_rested s (Goes step) = moved_rested s step

plans_rested : (s : Stand) (h : Held) (p : Pending) → Rested (plans s h p)
plans_rested s h p = plans_as_rested s (planned s.mount s.volume (data_of h.first h.tables) h.tables p)

synced_rested : (s : Stand) (h : Held) (p : Option Pending) → Rested (synced s h p)
synced_rested s h None = tt
synced_rested s h (Some p) = plans_rested s h p

syncs_rested : (s : Stand) (h : Held) (p : Option Pending) → Rested (syncs s h p)
syncs_rested s h p = rested_if (s.upto == (journal_of s.position).positions) (synced s h p) (turns_to (record s { errands = all_late s.errands }) (Syncs new_looks)) (synced_rested s h p) tt

syncs_on_rested : (s : Stand) (h : Held) (p : Option Pending) (looks : Looks) → Rested (syncs_on s h p looks)
syncs_on_rested s h p looks =
    rested_if (not (are_looked (journal_of s.position).quorum looks)) (turns_to s (Syncs looks)) (if have_found looks then ballots s None else synced s h p) tt
    (rested_if (have_found looks) (ballots s None) (synced s h p) (ballots_rested s None) (synced_rested s h p))

-- sector 0 was read, and it is the superblock or not, or zeros or not
super_read_rested : (s : Stand) (h : Held) (p : Option Pending) (its_own is_zeros : Bool) → Rested (if its_own then syncs s h p else if is_zeros then turns_to s WritesSuper else fails s)
super_read_rested s h p true is_zeros = syncs_rested s h p
super_read_rested s h p false true = tt
super_read_rested s h p false false = tt

proceeds_with_rested : (s : Stand) (before after : Held) (txn : Option Txn) (p : Pending) → Rested (proceeds_with s before after txn p)
proceeds_with_rested s before after txn p =
    let goes = data_moves s.volume after.tables (size_in before.tables p.call) p.call in
    rested_if (is_txn_of s.mount p.number txn) (data_moved s goes) (plans s after p) (moved_rested s goes) (plans_rested s after p)

proceeds_rested : (s : Stand) (before after : Held) (txn : Option Txn) (input : Option (List ℕ)) (p : Option Pending) → Rested (proceeds s before after txn input p)
proceeds_rested s before after txn (Some input) (Some p) = proceeds_with_rested s before after txn p
proceeds_rested s before after txn (Some input) None = syncs_rested s after None
proceeds_rested s before after txn None p = syncs_rested s after p

balloted_rested : (s : Stand) (h : Held) (p : Option Pending) (input : Option (List ℕ)) (step : BallotStep) → Rested (balloted s h p input step).step
balloted_rested s h p input NoValue = synced_rested s h p
balloted_rested s h p input (Decided value) = proceeds_rested (position_advanced s) h (record h { tables = value_applied h.tables (txn_in value) }) (txn_in value) input p
balloted_rested s h p input step = tt

-- Answers

module _ (s : Stand) (h : Held) (p : Option Pending) where
  read_rested : (work : MountWork) (anchor : ℕ) (blocks : List Block) → Rested (ballot_read s h p work anchor blocks).step
  read_rested (Ballots input) anchor blocks = balloted_rested (record s { position = having_read s.position anchor blocks }) h p input (read_at s.position.ballot anchor blocks).step
  read_rested work anchor blocks = tt

  ballot_rested : (work : MountWork) (anchor : ℕ) (reply : Reply) → Rested (ballot_answered s h p work anchor reply).step
  ballot_rested work anchor Written = tt
  ballot_rested work anchor (Bytes sectors) = read_rested work anchor (blocks_in sectors)

  look_rested : (work : MountWork) (anchor : ℕ) (reply : Reply) → Rested (look_answered s h p work anchor reply)
  look_rested (Syncs looks) anchor (Bytes sectors) = syncs_on_rested (record s { position = having_seen s.position (blocks_in sectors) }) h p (having_looked looks anchor (blocks_in sectors))
  look_rested work anchor reply = tt

  pause_rested : (work : MountWork) → Rested (pause_answered s work)
  pause_rested (Pauses input left) = paused_rested s input left
  pause_rested work = tt

  super_rested : (work : MountWork) (reply : Reply) → Rested (super_answered s h p work reply)
  super_rested ReadsSuper (Bytes sectors) = super_read_rested s h p _ _
  super_rested work reply = tt

  filled_rested : (work : MountWork) → Rested (super_filled s h p work)
  filled_rested WritesSuper = syncs_rested s h p
  filled_rested work = tt

  data_rested : (work : MountWork) (reply : Reply) → Rested (data_answered s h work reply)
  data_rested (Moves moving) reply = moved_rested s (moves_on s.volume h.tables moving reply)
  data_rested work reply = tt

errand_rested : (errand : Errand) (s : Stand) (h : Held) (p : Option Pending) (work : MountWork) (anchor : ℕ) (reply : Reply) → Rested (errand_answered errand s h p work anchor reply).step
errand_rested Free s h p work anchor reply = ballot_rested s h p work anchor reply
errand_rested OfSync s h p work anchor reply = look_rested (errand_freed s anchor) h p work anchor reply
errand_rested OfPause s h p work anchor reply = pause_rested (errand_freed s anchor) h p work
errand_rested OfSuper s h p work anchor reply = super_rested (errand_freed s anchor) h p work reply
errand_rested FillsSuper s h p work anchor reply = filled_rested (errand_freed s anchor) h p work
errand_rested errand s h p work anchor reply = tt

port_rested : (s : Stand) (h : Held) (p : Option Pending) (work : MountWork) (port : ℕ) (reply : Reply) → Rested (port_answered s h p work port reply).step
port_rested s h p work port reply = by (port == anchors_of s.position)
  where
    by : (b : Bool) → (let w : Worked = if b then record { step = data_answered s h work reply; tables = h.tables } else errand_answered (errand_at s.errands port) s h p work port reply in Rested w.step)
    by true = data_rested s h p work reply
    by false = errand_rested (errand_at s.errands port) s h p work port reply

-- Inputs

came_to_rest : (old : MountTask) (task : Option MountTask) → ComesToRest task → (unwrap_or task old).work ≡ Rests
came_to_rest old None rests = absurd rests
came_to_rest old (Some task) rests = rests

rests_by : (old : MountTask) (step : Step) (answer : CallAnswer) → Rested step → step.next ≡ Some (Done answer) → (unwrap_or step.task old).work ≡ Rests
rests_by old step answer rested is = came_to_rest old step.task (subst (λ next. RestsAsDone next step.task) is rested)

pub rests_as_done : (x : MountIs) (input : Input) (answer : CallAnswer) → next_by x input ≡ Some (Done answer) → (mount_after x input).task.work ≡ Rests
rests_as_done x (Begins call) answer is =
    let n = having_started x call in
    rests_by n.task (syncs (stand_of n) (tables_held n.files) n.files.pending) answer (syncs_rested (stand_of n) (tables_held n.files) n.files.pending) is
rests_as_done x (Asks port) answer is = absurd (none-some (Done answer) is)
rests_as_done x (Hears port reply) answer is =
    let w = port_answered (stand_of x) (tables_held x.files) x.files.pending x.task.work port reply in
    rests_by x.task w.step answer (port_rested (stand_of x) (tables_held x.files) x.files.pending x.task.work port reply) is
