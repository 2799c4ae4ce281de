-- What a step of a mount puts in spells what the pending call plans on the tables that the step leaves; and how far the mount comes by it.
use Rattle.std.proofs.Common.{◌≡◌, ℕ, zero, suc, ◌+◌, ◌*◌, ◌≤◌, Bool, true, false, not, ◌==◌, if◌then◌else◌, List, replicate, Option, Some, None, arith, refl, sym, subst, ◌∙◌}
use Rattle.std.specs.Prelude.{unwrap_or}
use Rattle.std.specs.Str.{bytes_eq}
use Rattle.std.proofs.lemmas.Option.{none-some}
use Rattle.pf_base.specs.declared.asks.Reply.{Reply}
use Rattle.pf_base.specs.declared.asks.Reply.TheVariants.{Written, Bytes}
use Rattle.pf_entry.proofs.Cases.{by_test}
use Rattle.pf_volume.specs.Volumes.{Extent}
use Rattle.pf_tree_tables.specs.declared.changes.Txn.{Txn}
use Rattle.pf_tree.specs.Calls.{FileCall}
use Rattle.pf_tree.specs.Held.{Held, data_of}
use Rattle.pf_txn.specs.Reading.{txn_in}
use Rattle.pf_txn.specs.Spelling.{spell_txn}
use Rattle.pf_paxos.specs.declared.block.Block.{Block}
use Rattle.pf_paxos.specs.declared.ballot.BallotStep.{BallotStep}
use Rattle.pf_paxos.specs.declared.ballot.BallotStep.TheVariants.{Go, Abort, NoValue, Decided}
use Rattle.pf_paxos.specs.Ballots.{read_at}
use Rattle.pf_file_calls.specs.Blocks.{bytes_of}
use Rattle.pf_file_calls.specs.Calls.{value_applied, is_txn_of, planned, size_in}
use Rattle.pf_file_calls.specs.Moving.{data_moves, moves_on}
use Rattle.pf_file_calls.specs.declared.answers.CallAnswer.{CallAnswer}
use Rattle.pf_file_calls.specs.declared.answers.CallAnswer.TheVariants.{Refused}
use Rattle.pf_file_calls.specs.declared.answers.CallFault.TheVariants.{JournalFull}
use Rattle.pf_file_calls.specs.declared.calls.Pending.{Pending}
use Rattle.pf_file_calls.specs.declared.calls.Planned.{Planned}
use Rattle.pf_file_calls.specs.declared.calls.Planned.TheVariants.{Refuses, Proposes, Goes}
use Rattle.pf_file_calls.specs.declared.moving.Moved.{Moved}
use Rattle.pf_file_calls.specs.declared.moving.Moved.TheVariants.{Asks as AsksFor, Ends}
use Rattle.pf_mount_errands.specs.Blocks.{blocks_in}
use Rattle.pf_mount_errands.specs.declared.errands.Errand.{Errand}
use Rattle.pf_mount_errands.specs.declared.errands.Errand.TheVariants.{FillsSuper, Free, OfSuper, OfSync, OfPause}
use Rattle.pf_mount_errands.specs.declared.looks.Looks.{Looks}
use Rattle.pf_mount_errands.specs.Errands.{all_late, errand_at, with_errand}
use Rattle.pf_mount_errands.specs.Looks.{are_looked, have_found, having_looked, new_looks}
use Rattle.pf_mount_errands.specs.Positions.{anchors_of, can_start, having_read, having_seen, having_written, journal_of, starting_ballot}
use Rattle.pf_mount.specs.declared.work.MountTask.{MountTask}
use Rattle.pf_mount.specs.declared.work.MountWork.{MountWork}
use Rattle.pf_mount.specs.declared.work.MountWork.TheVariants.{Rests, Fails, ReadsSuper, WritesSuper, Syncs, Ballots, Pauses, Moves}
use Rattle.pf_mount.specs.Mounts.{MountIs, Worked, ballot_aborted, position_advanced, mount_answered, mount_asked, asked_anchor, asked_data, ballot_answered, ballot_read, balloted, ballots, data_answered, value_decided, done, errand_answered, fails, having_started, tables_held, look_answered, data_moved, pause_answered, paused, pauses, plans, plans_as, port_answered, proceeds, proceeds_with, proposes, stand_of, starting, work_stays, super_answered, super_filled, super_read, synced, syncs, syncs_on, turns_to}

-- Plans

-- the value spells the plan of the pending call
pub record IsOfPlan (number : ℕ) (v : Extent) (h : Held) (pending : Option Pending) (value : List ℕ) : Type 0 where
  pub call : Pending
  pub pends : pending ≡ Some call
  pub txn : Txn
  pub plan : planned number v (data_of h.first h.tables) h.tables call ≡ Proposes txn
  pub spells : value ≡ spell_txn txn

abbrev pub OfPlan : (number : ℕ) → Extent → Held → (pending : Option Pending) → (input : Option (List ℕ)) → Type 0
OfPlan number v h pending None = Unit {0}
OfPlan number v h pending (Some value) = IsOfPlan number v h pending value

abbrev pub PutsInPlan : (number : ℕ) → Extent → Held → (pending : Option Pending) → MountWork → Type 0
PutsInPlan number v h pending (Ballots input) = OfPlan number v h pending input
PutsInPlan number v h pending (Pauses input left) = OfPlan number v h pending input
PutsInPlan number v h pending work = Unit {0}

-- Stages

-- of a ballot, or a pause, with this input
abbrev pub stage_of : Option (List ℕ) → ℕ
stage_of None = 0
stage_of (Some value) = 1

-- a mount syncs, puts in, or does neither any more in its call
abbrev pub stage : MountWork → ℕ
stage (Ballots input) = stage_of input
stage (Pauses input left) = stage_of input
stage (Syncs looks) = 0
stage (Moves moving) = 2
stage Rests = 2
stage Fails = 2
stage ReadsSuper = 0
stage WritesSuper = 0

stage_of_most : (input : Option (List ℕ)) → stage_of input ≤ 1
stage_of_most None = omega arith
stage_of_most (Some value) = omega arith

pub stage_most : (work : MountWork) → stage work ≤ 2
stage_most (Ballots input) = let most = stage_of_most input in omega (arith, most)
stage_most (Pauses input left) = let most = stage_of_most input in omega (arith, most)
stage_most (Syncs looks) = omega arith
stage_most (Moves moving) = omega arith
stage_most Rests = omega arith
stage_most Fails = omega arith
stage_most ReadsSuper = omega arith
stage_most WritesSuper = omega arith

-- Steps

-- what is at work puts in such plans, and is at this stage at least
pub record Fits (number : ℕ) (v : Extent) (h : Held) (pending : Option Pending) (least : ℕ) (work : MountWork) : Type 0 where
  pub plans : PutsInPlan number v h pending work
  pub onward : least ≤ stage work

-- so it is after a step of a mount with this task, on these tables
abbrev pub WorkedFits : MountIs → Held → Option Pending → MountTask → (least : ℕ) → Worked → Type 0
WorkedFits n h p task least w = Fits n.files.mount n.files.volume h (if w.step.ends then None else p) least (unwrap_or w.step.task task).work

less_fits : {number : ℕ} {v : Extent} {h : Held} {p : Option Pending} {work : MountWork} → (low least : ℕ) → low ≤ least → Fits number v h p least work → Fits number v h p low work
less_fits low least le is = let on = is.onward in record { plans = is.plans; onward = omega (arith, le, on) }

module _ (n : MountIs) (h : Held) (p : Option Pending) (task : MountTask) where
  abbrev To : ℕ → Worked → Type 0
  To least w = WorkedFits n h p task least w

  abbrev IsPlan : Option (List ℕ) → Type 0
  IsPlan input = OfPlan n.files.mount n.files.volume h p input

  to_if : (least : ℕ) (b : Bool) (x y : Worked) → To least x → To least y → To least (record { step = if b then x.step else y.step; tables = h.tables })
  to_if least true x y of_x of_y = record { plans = of_x.plans; onward = of_x.onward }
  to_if least false x y of_x of_y = record { plans = of_y.plans; onward = of_y.onward }

  -- the work stays
  stays_to : (work : MountWork) → task.work ≡ work → PutsInPlan n.files.mount n.files.volume h p work → To (stage work) (record { step = work_stays (stand_of n); tables = h.tables })
  stays_to work same is = subst (λ w. Fits n.files.mount n.files.volume h p (stage work) w) (sym same) (record { plans = is; onward = omega arith })

  done_to : (answer : CallAnswer) → To 2 (record { step = done (stand_of n) answer; tables = h.tables })
  done_to answer = record { plans = tt; onward = omega arith }

  moved_to : (x : Moved) → To 2 (record { step = data_moved (stand_of n) x; tables = h.tables })
  moved_to (AsksFor ask moving) = record { plans = tt; onward = omega arith }
  moved_to (Ends answer) = done_to answer

  -- Ballots

  pauses_to : (input : Option (List ℕ)) (left : ℕ) → IsPlan input → To (stage_of input) (record { step = pauses (stand_of n) input left; tables = h.tables })
  pauses_to input left plan = record { plans = plan; onward = omega arith }

  aborted_to : (input : Option (List ℕ)) → IsPlan input → To (stage_of input) (record { step = ballot_aborted (stand_of n) input; tables = h.tables })
  aborted_to input plan = record { plans = plan; onward = omega arith }

  ballots_to : (input : Option (List ℕ)) → IsPlan input → To (stage_of input) (record { step = ballots (stand_of n) input; tables = h.tables })
  ballots_to input plan =
      to_if (stage_of input) (can_start n.position)
      (record { step = turns_to (stand_of (record n { position = starting_ballot n.position input })) (Ballots input); tables = h.tables })
      (record { step = pauses (stand_of n) input 0; tables = h.tables })
      (record { plans = plan; onward = omega arith })
      (pauses_to input 0 plan)

  paused_to : (input : Option (List ℕ)) (left : ℕ) → IsPlan input → To (stage_of input) (record { step = paused (stand_of n) input left; tables = h.tables })
  paused_to input zero plan = ballots_to input plan
  paused_to input (suc left) plan = pauses_to input left plan

  -- Calls

  proposes_to : (txn : Txn) → IsOfPlan n.files.mount n.files.volume h p (spell_txn txn) → To 1 (record { step = proposes (stand_of n) txn; tables = h.tables })
  proposes_to txn plan =
      to_if 1 (n.upto == (journal_of n.position).positions)
      (record { step = done (stand_of n) (Refused JournalFull); tables = h.tables })
      (record { step = ballots (stand_of n) (Some (spell_txn txn)); tables = h.tables })
      (less_fits 1 2 (omega arith) (done_to (Refused JournalFull)))
      (ballots_to (Some (spell_txn txn)) plan)

  plans_as_to : (q : Pending) → p ≡ Some q → (x : Planned) → planned n.files.mount n.files.volume (data_of h.first h.tables) h.tables q ≡ x → To 1 (record { step = plans_as (stand_of n) x; tables = h.tables })
  plans_as_to q pends (Refuses fault) is = less_fits 1 2 (omega arith) (done_to (Refused fault))
  plans_as_to q pends (Proposes txn) is = proposes_to txn (record { call = q; pends = pends; txn = txn; plan = is; spells = refl })
  plans_as_to q pends (Goes step) is = less_fits 1 2 (omega arith) (moved_to step)

  plans_to : (q : Pending) → p ≡ Some q → To 1 (record { step = plans (stand_of n) h q; tables = h.tables })
  plans_to q pends = plans_as_to q pends (planned n.files.mount n.files.volume (data_of h.first h.tables) h.tables q) refl

  -- Syncs

  synced_to : (o : Option Pending) → p ≡ o → To 1 (record { step = synced (stand_of n) h o; tables = h.tables })
  synced_to None same = record { plans = tt; onward = omega arith }
  synced_to (Some q) same = plans_to q same

  syncs_to : To 0 (record { step = syncs (stand_of n) h p; tables = h.tables })
  syncs_to =
      to_if 0 (n.upto == (journal_of n.position).positions)
      (record { step = synced (stand_of n) h p; tables = h.tables })
      (record { step = turns_to (stand_of (record n { errands = all_late n.errands })) (Syncs new_looks); tables = h.tables })
      (less_fits 0 1 (omega arith) (synced_to p refl))
      (record { plans = tt; onward = omega arith })

  syncs_on_to : (looks : Looks) → To 0 (record { step = syncs_on (stand_of n) h p looks; tables = h.tables })
  syncs_on_to looks =
      to_if 0 (not (are_looked (journal_of n.position).quorum looks))
      (record { step = turns_to (stand_of n) (Syncs looks); tables = h.tables })
      (record { step = if have_found looks then ballots (stand_of n) None else synced (stand_of n) h p; tables = h.tables })
      (record { plans = tt; onward = omega arith })
      (to_if 0 (have_found looks)
      (record { step = ballots (stand_of n) None; tables = h.tables })
      (record { step = synced (stand_of n) h p; tables = h.tables })
      (ballots_to None tt)
      (less_fits 0 1 (omega arith) (synced_to p refl)))

  super_read_to : (sector : List ℕ) → To 0 (record { step = super_read (stand_of n) h p sector; tables = h.tables })
  super_read_to sector =
      to_if 0 _
      (record { step = syncs (stand_of n) h p; tables = h.tables })
      (record { step = if bytes_eq sector (replicate 512 0) then turns_to (stand_of n) WritesSuper else fails (stand_of n); tables = h.tables })
      syncs_to
      (to_if 0 (bytes_eq sector (replicate 512 0))
      (record { step = turns_to (stand_of n) WritesSuper; tables = h.tables })
      (record { step = fails (stand_of n); tables = h.tables })
      (record { plans = tt; onward = omega arith })
      (record { plans = tt; onward = omega arith }))

  -- Decisions, on the tables after them

  proceeds_with_to : (before : Held) (txn : Option Txn) (q : Pending) → p ≡ Some q → To 1 (record { step = proceeds_with (stand_of n) before h txn q; tables = h.tables })
  proceeds_with_to before txn q pends =
      let x : Moved = data_moves n.files.volume h.tables (size_in before.tables q.call) q.call in
      to_if 1 (is_txn_of n.files.mount q.number txn)
      (record { step = data_moved (stand_of n) x; tables = h.tables })
      (record { step = plans (stand_of n) h q; tables = h.tables })
      (less_fits 1 2 (omega arith) (moved_to x))
      (plans_to q pends)

  proceeds_to : (before : Held) (txn : Option Txn) (value : List ℕ) (call : Pending) (o : Option Pending) → p ≡ o → p ≡ Some call → To 1 (record { step = proceeds (stand_of n) before h txn (Some value) o; tables = h.tables })
  proceeds_to before txn value call None same pends = absurd (none-some call (sym same ∙ pends))
  proceeds_to before txn value call (Some q) same pends = proceeds_with_to before txn q same

  -- Answers that change no tables

  data_to : (work : MountWork) → task.work ≡ work → PutsInPlan n.files.mount n.files.volume h p work → (reply : Reply) → To (stage work) (record { step = data_answered (stand_of n) h work reply; tables = h.tables })
  data_to (Moves moving) same is reply = moved_to (moves_on n.files.volume h.tables moving reply)
  data_to work same is reply = stays_to work same is

  pause_to : (work : MountWork) → task.work ≡ work → PutsInPlan n.files.mount n.files.volume h p work → To (stage work) (record { step = pause_answered (stand_of n) work; tables = h.tables })
  pause_to (Pauses input left) same is = paused_to input left is
  pause_to work same is = stays_to work same is

  super_to : (work : MountWork) → task.work ≡ work → PutsInPlan n.files.mount n.files.volume h p work → (reply : Reply) → To (stage work) (record { step = super_answered (stand_of n) h p work reply; tables = h.tables })
  super_to ReadsSuper same is (Bytes sectors) = super_read_to (bytes_of sectors)
  super_to work same is reply = stays_to work same is

  fills_to : (work : MountWork) → task.work ≡ work → PutsInPlan n.files.mount n.files.volume h p work → To (stage work) (record { step = super_filled (stand_of n) h p work; tables = h.tables })
  fills_to WritesSuper same is = syncs_to
  fills_to work same is = stays_to work same is

-- Answers to asks of ballots

module _ (n : MountIs) (h : Held) (p : Option Pending) (task : MountTask) where
  abbrev Answered : ℕ → Worked → Type 0
  Answered least w = WorkedFits n (record { first = h.first; tables = w.tables }) p task least w

  abbrev Puts : MountWork → Type 0
  Puts work = PutsInPlan n.files.mount n.files.volume h p work

  -- the mount at the next position
  abbrev advances : MountIs
  advances = let s = position_advanced (stand_of n) in record n { upto = s.upto; position = s.position; errands = s.errands }

  decided_to : (input : Option (List ℕ)) (txn : Option Txn) → OfPlan n.files.mount n.files.volume h p input → Answered (stage_of input) (value_decided (stand_of n) h p input txn)
  decided_to None txn plan = syncs_to advances (record h { tables = value_applied h.tables txn }) p task
  decided_to (Some value) txn plan = proceeds_to advances (record h { tables = value_applied h.tables txn }) p task h txn value plan.call p refl plan.pends

  balloted_to : (input : Option (List ℕ)) → task.work ≡ Ballots input → OfPlan n.files.mount n.files.volume h p input → (step : BallotStep) → Answered (stage_of input) (balloted (stand_of n) h p input step)
  balloted_to input same plan Go = stays_to n h p task (Ballots input) same plan
  balloted_to input same plan (Abort mbal) = aborted_to n h p task input plan
  balloted_to input same plan NoValue = less_fits (stage_of input) 1 (stage_of_most input) (synced_to n h p task p refl)
  balloted_to input same plan (Decided value) = decided_to input (txn_in value) plan

module _ (n : MountIs) (h : Held) (p : Option Pending) (task : MountTask) (anchor : ℕ) where
  read_to : (work : MountWork) → task.work ≡ work → Puts n h p task work → (blocks : List Block) → Answered n h p task (stage work) (ballot_read (stand_of n) h p work anchor blocks)
  read_to (Ballots input) same is blocks = balloted_to (record n { position = having_read n.position anchor blocks }) h p task input same is (read_at n.position.ballot anchor blocks).step
  read_to work same is blocks = stays_to (record n { position = having_read n.position anchor blocks }) h p task work same is

  ballot_to : (work : MountWork) → task.work ≡ work → Puts n h p task work → (reply : Reply) → Answered n h p task (stage work) (ballot_answered (stand_of n) h p work anchor reply)
  ballot_to work same is Written = stays_to (record n { position = having_written n.position anchor }) h p task work same is
  ballot_to work same is (Bytes sectors) = read_to work same is (blocks_in sectors)

  look_to : (work : MountWork) → task.work ≡ work → Puts n h p task work → (reply : Reply) → Answered n h p task (stage work) (record { step = look_answered (stand_of n) h p work anchor reply; tables = h.tables })
  look_to (Syncs looks) same is (Bytes sectors) =
      syncs_on_to (record n { position = having_seen n.position (blocks_in sectors) }) h p task (having_looked looks anchor (blocks_in sectors))
  look_to work same is reply = stays_to n h p task work same is

-- Answers at any port

module _ (n : MountIs) (h : Held) (p : Option Pending) (task : MountTask) where
  errand_to : (anchor : ℕ) (errand : Errand) (work : MountWork) → task.work ≡ work → Puts n h p task work → (reply : Reply)
      → Answered n h p task (stage work) (errand_answered errand (stand_of n) h p work anchor reply)
  errand_to anchor Free work same is reply = ballot_to n h p task anchor work same is reply
  errand_to anchor OfSync work same is reply = look_to (record n { errands = with_errand n.errands anchor Free }) h p task anchor work same is reply
  errand_to anchor OfPause work same is reply = pause_to (record n { errands = with_errand n.errands anchor Free }) h p task work same is
  errand_to anchor OfSuper work same is reply = super_to (record n { errands = with_errand n.errands anchor Free }) h p task work same is reply
  errand_to anchor FillsSuper work same is reply = fills_to (record n { errands = with_errand n.errands anchor Free }) h p task work same is
  errand_to anchor errand work same is reply = stays_to (record n { errands = with_errand n.errands anchor Free }) h p task work same is

  port_to : (port : ℕ) (reply : Reply) → Puts n h p task task.work → Answered n h p task (stage task.work) (port_answered (stand_of n) h p task.work port reply)
  port_to port reply is =
      by_test (port == anchors_of n.position)
      (λ b. Answered n h p task (stage task.work) (if b then record { step = data_answered (stand_of n) h task.work reply; tables = h.tables } else errand_answered (errand_at n.errands port) (stand_of n) h p task.work port reply))
      (λ _. data_to n h p task task.work refl is reply)
      (λ _. errand_to port (errand_at n.errands port) task.work refl is reply)

-- Mounts

-- what the mount puts in is the plan of its pending call
abbrev pub PlansIn : MountIs → Type 0
PlansIn x = PutsInPlan x.files.mount x.files.volume (tables_held x.files) x.files.pending x.task.work

-- how far it has come
abbrev pub progress : MountIs → ℕ
progress x = 3 * x.files.calls + stage x.task.work

-- an input leaves the mount so
pub record GoesOn (before after : MountIs) : Type 0 where
  pub plans : PlansIn after
  pub onward : progress before ≤ progress after

pub answered_on : (x : MountIs) (port : ℕ) (reply : Reply) → PlansIn x → GoesOn x (mount_answered x port reply).mount
answered_on x port reply is =
    let to = port_to x (tables_held x.files) x.files.pending x.task port reply is in
    let on = to.onward in record { plans = to.plans; onward = omega (arith, on) }

pub starting_on : (x : MountIs) (call : FileCall) → GoesOn x (starting x call).mount
starting_on x call =
    let n : MountIs = having_started x call in
    let to = syncs_to n (tables_held n.files) n.files.pending n.task in
    let most = stage_most x.task.work in record { plans = to.plans; onward = omega (arith, most) }

pub asked_on : (x : MountIs) (port : ℕ) → PlansIn x → GoesOn x (mount_asked x port)
asked_on x port is =
    by_test (port == anchors_of x.position) (λ b. GoesOn x (if b then asked_data x else asked_anchor x port)) (λ _. record { plans = is; onward = omega arith }) (λ _. record { plans = is; onward = omega arith })
