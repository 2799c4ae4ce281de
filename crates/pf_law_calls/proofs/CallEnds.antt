-- How a step of a mount ends its call: the call is refused as it is planned on the tables that the mount has, or it is answered from them, after
-- its own transaction was decided last or where it changes nothing.
use Rattle.std.proofs.Common.{◌≡◌, ◌⊎◌, inl, inr, ℕ, zero, suc, Bool, true, false, not, ◌==◌, if◌then◌else◌, List, [], ◌∷◌, ◌++◌, replicate, Option, Some, None, refl, sym, ap, subst, ◌∙◌}
use Rattle.std.specs.Prelude.{unwrap_or}
use Rattle.std.specs.Str.{bytes_eq}
use Rattle.std.proofs.lemmas.Bool.{eqb-true}
use Rattle.pf_base.specs.declared.asks.Ask.{Ask}
use Rattle.pf_base.specs.declared.asks.Reply.{Reply}
use Rattle.pf_base.specs.declared.asks.Reply.TheVariants.{Written, Bytes}
use Rattle.pf_entry.specs.Ops.{Sector}
use Rattle.pf_volume.specs.Volumes.{Extent}
use Rattle.pf_tree_tables.specs.declared.changes.Txn.{Txn}
use Rattle.pf_tree_tables.specs.Tables.{Tables}
use Rattle.pf_tree.specs.Held.{Held, data_of}
use Rattle.pf_txn.specs.Reading.{txn_in}
use Rattle.pf_txn.specs.Spelling.{spell_txn}
use Rattle.pf_paxos.specs.declared.ballot.BallotStep.{BallotStep}
use Rattle.pf_paxos.specs.declared.ballot.BallotStep.TheVariants.{Go, Abort, NoValue, Decided}
use Rattle.pf_paxos.specs.Ballots.{read_at}
use Rattle.pf_journal.specs.declared.layouts.Layout.{Layout}
use Rattle.pf_journal.specs.Layouts.{layout_of}
use Rattle.pf_file_calls.specs.Blocks.{bytes_of}
use Rattle.pf_file_calls.specs.Calls.{value_applied, is_txn_of, planned, size_in}
use Rattle.pf_file_calls.specs.Moving.{data_moves, moves_on}
use Rattle.pf_file_calls.specs.declared.answers.CallAnswer.{CallAnswer}
use Rattle.pf_file_calls.specs.declared.answers.CallAnswer.TheVariants.{Refused}
use Rattle.pf_file_calls.specs.declared.answers.CallFault.{CallFault}
use Rattle.pf_file_calls.specs.declared.answers.CallFault.TheVariants.{JournalFull}
use Rattle.pf_file_calls.specs.declared.calls.Pending.{Pending}
use Rattle.pf_file_calls.specs.declared.calls.Planned.{Planned}
use Rattle.pf_file_calls.specs.declared.calls.Planned.TheVariants.{Refuses, Proposes, Goes}
use Rattle.pf_file_calls.specs.declared.moving.DataMoving.{DataMoving}
use Rattle.pf_file_calls.specs.declared.moving.DataMoving.TheVariants.{Fetches, Stores, Gathers}
use Rattle.pf_file_calls.specs.declared.moving.Moved.{Moved}
use Rattle.pf_file_calls.specs.declared.moving.Moved.TheVariants.{Asks as AsksFor, Ends}
use Rattle.pf_mount_errands.specs.Blocks.{blocks_in}
use Rattle.pf_mount.specs.Filing.{AnswersMoving}
use Rattle.pf_mount_errands.specs.declared.errands.Errand.{Errand}
use Rattle.pf_mount_errands.specs.declared.errands.Errand.TheVariants.{FillsSuper, Free, OfPause, OfSuper, OfSync}
use Rattle.pf_mount_errands.specs.declared.errands.Errands.{Errands}
use Rattle.pf_mount_errands.specs.declared.looks.Looks.{Looks}
use Rattle.pf_mount_errands.specs.Errands.{all_late, all_left, with_errand}
use Rattle.pf_mount_errands.specs.Looks.{are_looked, have_found, having_looked, new_looks}
use Rattle.pf_mount_errands.specs.Positions.{PositionIs, can_start, having_aborted, having_read, having_seen, having_written, journal_of, new_position, rest_of_pause, starting_ballot}
use Rattle.pf_mount.specs.declared.work.MountNext.{MountNext}
use Rattle.pf_mount.specs.declared.work.MountNext.TheVariants.{Done}
use Rattle.pf_mount.specs.declared.work.MountTask.{MountTask}
use Rattle.pf_mount.specs.declared.work.MountWork.{MountWork}
use Rattle.pf_mount.specs.declared.work.MountWork.TheVariants.{ReadsSuper, Syncs, Ballots, Pauses, Moves, WritesSuper}
use Rattle.pf_mount.specs.Mounts.{MountIs, Worked, ballot_read, balloted, ballots, data_answered, value_decided, done, errand_answered, fails, look_answered, data_moved, pause_answered, paused, pauses, plans, plans_as, proposes, stand_of, work_stays, super_answered, super_filled, super_read, synced, syncs, syncs_on, turns_to}
use Rattle.pf_mount.specs.Standing.{AnswersData}
use Rattle.pf_law_calls.specs.Lives.{decided_in, value_in}
use Rattle.pf_law_calls.proofs.Layouts.{read_layout}
use Rattle.pf_law_calls.specs.Exchanges.{exchange}
use Rattle.pf_law_plans.specs.Exchanges.{Exchange}
use Rattle.pf_law_plans.proofs.EndedCalls as ends
use Rattle.pf_law_plans.proofs.EndedCalls.{IsOwn}
use Rattle.pf_law_plans.proofs.DataSteps.{AsksFitly, FitsMoved, FitsMoving, RepliesFitly, moves_fit, moves_on_fit, plan_goes}

-- a call is refused as its plan is; where a change is planned, exactly as the journal is full
abbrev pub IsRefusedAs : Layout → (upto : ℕ) → Planned → CallFault → Type 0
IsRefusedAs layout upto (Refuses its) fault = its ≡ fault
IsRefusedAs layout upto (Proposes txn) fault = (upto ≡ (layout_of layout).positions) × (fault ≡ JournalFull)
IsRefusedAs layout upto (Goes step) fault = ⊥

-- what the port for file data asks next, or has asked last and hears of next, is for the call
abbrev pub FitsAsk : Extent → Tables → (last : Option Ask) → MountWork → (next : Option Ask) → Type 0
FitsAsk v tables last (Moves moving) (Some ask) = AsksFitly v tables moving ask
FitsAsk v tables last (Moves moving) None = (ask : Ask) × (last ≡ Some ask) × AsksFitly v tables moving ask
FitsAsk v tables last work next = Unit {0}

-- of mount m of a volume with this layout, where the list has these values
module _ (layout : Layout) (Is : ℕ → List ℕ → Type 0) (m : ℕ) (v : Extent) where
  -- the plan of a call on the tables
  abbrev pub plan_at : Held → Pending → Planned
  plan_at h p = planned m v (data_of h.first h.tables) h.tables p

  -- the call's changes are applied, if it has any
  abbrev pub HasPassed : (upto : ℕ) → Held → Pending → Type 0
  HasPassed upto h p = ends.HasPassed Is m v (data_of h.first h.tables) h.tables upto p

  -- the call's file has this size in the tables, unless the call has just changed it
  abbrev pub IsSize : (upto : ℕ) → Held → Pending → ℕ → Type 0
  IsSize upto h p size = ends.IsSize Is m v (data_of h.first h.tables) h.tables upto p size

  -- it is answered from the tables
  abbrev pub IsFound : (came : List Exchange) → (upto : ℕ) → Held → Pending → CallAnswer → Type 0
  IsFound came upto h p answer = ends.IsFound Is m v (data_of h.first h.tables) h.tables upto p came answer

  abbrev pub IsEnd : (came : List Exchange) → (upto : ℕ) → Held → Pending → CallAnswer → Type 0
  IsEnd came upto h p answer = ((fault : CallFault) × (answer ≡ Refused fault) × IsRefusedAs layout upto (plan_at h p) fault) ⊎ IsFound came upto h p answer

  abbrev pub EndsIn : (came : List Exchange) → (upto : ℕ) → Held → Option Pending → CallAnswer → Type 0
  EndsIn came upto h None answer = ⊥
  EndsIn came upto h (Some p) answer = IsEnd came upto h p answer

  -- where the call ends, it ends so
  abbrev pub EndsBy : (came : List Exchange) → (upto : ℕ) → Held → Option Pending → Option MountNext → Type 0
  EndsBy came upto h q (Some (Done answer)) = EndsIn came upto h q answer
  EndsBy came upto h q next = Unit {0}

  pub record IsOnItsWay (came : List Exchange) (upto : ℕ) (h : Held) (p : Pending) (moving : DataMoving) : Type 0 where
    pub passed : HasPassed upto h p
    pub size : ℕ
    pub size_is : IsSize upto h p size
    pub fits : FitsMoving v h.tables size came p.call moving

  abbrev pub MovesIn : (came : List Exchange) → (upto : ℕ) → Held → Option Pending → DataMoving → Type 0
  MovesIn came upto h None moving = ⊥
  MovesIn came upto h (Some p) moving = IsOnItsWay came upto h p moving

  -- of a mount at this work
  abbrev pub Underway : (came : List Exchange) → (upto : ℕ) → Held → Option Pending → MountWork → Type 0
  Underway came upto h q (Moves moving) = MovesIn came upto h q moving
  Underway came upto h q work = Unit {0}

  -- after a step of a mount with this pending call and this task
  pub record Leads (came : List Exchange) (last : Option Ask) (task : MountTask) (first : ℕ) (q : Option Pending) (w : Worked) : Type 0 where
    pub asks : FitsAsk v w.tables last (unwrap_or w.step.task task).work (unwrap_or w.step.task task).ask
    pub under : Underway came w.step.stand.upto (record { first = first; tables = w.tables }) (if w.step.ends then None else q) (unwrap_or w.step.task task).work
    pub ends : EndsBy came w.step.stand.upto (record { first = first; tables = w.tables }) q w.step.next

  -- a mount of this number that stands here
  abbrev at : MountIs → (upto : ℕ) → PositionIs → Errands → MountIs
  at x upto o e = record x { files = record x.files { mount = m; volume = v }; upto = upto; position = o; errands = e }

  module _ (came : List Exchange) (last : Option Ask) (task : MountTask) (x : MountIs) where
    abbrev To : Held → Option Pending → Worked → Type 0
    To h q w = Leads came last task h.first q w

    to_if : (h : Held) (q : Option Pending) (b : Bool) (x y : Worked) → (b ≡ true → To h q (record { step = x.step; tables = h.tables })) → (b ≡ false → To h q (record { step = y.step; tables = h.tables }))
        → To h q (record { step = if b then x.step else y.step; tables = h.tables })
    to_if h q true x y of_x of_y = of_x refl
    to_if h q false x y of_x of_y = of_y refl

    done_to : (u : ℕ) (o : PositionIs) (lie : o.layout ≡ layout) (e : Errands) (h : Held) (p : Pending) (answer : CallAnswer) → IsEnd came u h p answer → To h (Some p) (record { step = done (stand_of (at x u o e)) answer; tables = h.tables })
    done_to u o lie e h p answer is = record { asks = tt; under = tt; ends = is }

    moved_to : (u : ℕ) (o : PositionIs) (lie : o.layout ≡ layout) (e : Errands) (h : Held) (p : Pending) (step : Moved) → HasPassed u h p → (size : ℕ) → IsSize u h p size → FitsMoved v h.tables size came p.call step
        → To h (Some p) (record { step = data_moved (stand_of (at x u o e)) step; tables = h.tables })
    moved_to u o lie e h p (Ends answer) passed size size_is fits = done_to u o lie e h p answer (inr (passed, size, size_is, fits))
    moved_to u o lie e h p (AsksFor ask moving) passed size size_is fits =
        record { asks = fits.1; under = record { passed = passed; size = size; size_is = size_is; fits = fits.0 }; ends = tt }

    -- Ballots

    pauses_to : (u : ℕ) (o : PositionIs) (lie : o.layout ≡ layout) (e : Errands) (h : Held) (q : Option Pending) (input : Option (List ℕ)) (left : ℕ) → To h q (record { step = pauses (stand_of (at x u o e)) input left; tables = h.tables })
    pauses_to u o lie e h q input left = record { asks = tt; under = tt; ends = tt }

    ballots_to : (u : ℕ) (o : PositionIs) (lie : o.layout ≡ layout) (e : Errands) (h : Held) (q : Option Pending) (input : Option (List ℕ)) → To h q (record { step = ballots (stand_of (at x u o e)) input; tables = h.tables })
    ballots_to u o lie e h q input =
        to_if h q (can_start o) (record { step = turns_to (stand_of (at x u (starting_ballot o input) e)) (Ballots input); tables = h.tables }) (record { step = pauses (stand_of (at x u o e)) input 0; tables = h.tables })
        (λ _. record { asks = tt; under = tt; ends = tt }) (λ _. pauses_to u o lie e h q input 0)

    paused_to : (u : ℕ) (o : PositionIs) (lie : o.layout ≡ layout) (e : Errands) (h : Held) (q : Option Pending) (input : Option (List ℕ)) (left : ℕ) → To h q (record { step = paused (stand_of (at x u o e)) input left; tables = h.tables })
    paused_to u o lie e h q input zero = ballots_to u o lie e h q input
    paused_to u o lie e h q input (suc left) = pauses_to u o lie e h q input left

    -- Plans

    proposes_to : (u : ℕ) (o : PositionIs) (lie : o.layout ≡ layout) (e : Errands) (h : Held) (p : Pending) (txn : Txn) → plan_at h p ≡ Proposes txn → To h (Some p) (record { step = proposes (stand_of (at x u o e)) txn; tables = h.tables })
    proposes_to u o lie e h p txn is =
        to_if h (Some p) (u == (journal_of o).positions) (record { step = done (stand_of (at x u o e)) (Refused JournalFull); tables = h.tables }) (record { step = ballots (stand_of (at x u o e)) (Some (spell_txn txn)); tables = h.tables })
        (λ full. done_to u o lie e h p (Refused JournalFull) (inl (JournalFull, refl, subst (λ plan. IsRefusedAs layout u plan JournalFull) (sym is) (eqb-true u (journal_of o).positions full ∙ ap (λ l. (layout_of l).positions) lie, refl))))
        (λ _. ballots_to u o lie e h (Some p) (Some (spell_txn txn)))

    plans_as_to : (u : ℕ) (o : PositionIs) (lie : o.layout ≡ layout) (e : Errands) (h : Held) (p : Pending) (plan : Planned) → plan_at h p ≡ plan → To h (Some p) (record { step = plans_as (stand_of (at x u o e)) plan; tables = h.tables })
    plans_as_to u o lie e h p (Refuses fault) is = done_to u o lie e h p (Refused fault) (inl (fault, refl, subst (λ plan. IsRefusedAs layout u plan fault) (sym is) refl))
    plans_as_to u o lie e h p (Proposes txn) is = proposes_to u o lie e h p txn is
    plans_as_to u o lie e h p (Goes step) is =
        moved_to u o lie e h p step (inl (step, is)) (size_in h.tables p.call) (inl refl) (plan_goes m v (data_of h.first h.tables) h.tables came p step is)

    plans_to : (u : ℕ) (o : PositionIs) (lie : o.layout ≡ layout) (e : Errands) (h : Held) (p : Pending) → To h (Some p) (record { step = plans (stand_of (at x u o e)) h p; tables = h.tables })
    plans_to u o lie e h p = plans_as_to u o lie e h p (plan_at h p) refl

    -- Syncs

    synced_to : (u : ℕ) (o : PositionIs) (lie : o.layout ≡ layout) (e : Errands) (h : Held) (q : Option Pending) → To h q (record { step = synced (stand_of (at x u o e)) h q; tables = h.tables })
    synced_to u o lie e h None = record { asks = tt; under = tt; ends = tt }
    synced_to u o lie e h (Some p) = plans_to u o lie e h p

    pub syncs_to : (u : ℕ) (o : PositionIs) (lie : o.layout ≡ layout) (e : Errands) (h : Held) (q : Option Pending) → To h q (record { step = syncs (stand_of (at x u o e)) h q; tables = h.tables })
    syncs_to u o lie e h q =
        to_if h q (u == (journal_of o).positions) (record { step = synced (stand_of (at x u o e)) h q; tables = h.tables }) (record { step = turns_to (stand_of (at x u o (all_late e))) (Syncs new_looks); tables = h.tables }) (λ _. synced_to u o lie e h q) (λ _. record { asks = tt; under = tt; ends = tt })

    syncs_on_to : (u : ℕ) (o : PositionIs) (lie : o.layout ≡ layout) (e : Errands) (h : Held) (q : Option Pending) (looks : Looks) → To h q (record { step = syncs_on (stand_of (at x u o e)) h q looks; tables = h.tables })
    syncs_on_to u o lie e h q looks =
        to_if h q (not (are_looked (journal_of o).quorum looks)) (record { step = turns_to (stand_of (at x u o e)) (Syncs looks); tables = h.tables }) (record { step = if have_found looks then ballots (stand_of (at x u o e)) None else synced (stand_of (at x u o e)) h q; tables = h.tables })
        (λ _. record { asks = tt; under = tt; ends = tt })
        (λ _. to_if h q (have_found looks) (record { step = ballots (stand_of (at x u o e)) None; tables = h.tables }) (record { step = synced (stand_of (at x u o e)) h q; tables = h.tables }) (λ _. ballots_to u o lie e h q None) (λ _. synced_to u o lie e h q))

    -- The superblock

    super_read_to : (u : ℕ) (o : PositionIs) (lie : o.layout ≡ layout) (e : Errands) (h : Held) (q : Option Pending) (sector : List ℕ) → To h q (record { step = super_read (stand_of (at x u o e)) h q sector; tables = h.tables })
    super_read_to u o lie e h q sector =
        to_if h q _ (record { step = syncs (stand_of (at x u o e)) h q; tables = h.tables }) (record { step = if bytes_eq sector (replicate 512 0) then turns_to (stand_of (at x u o e)) WritesSuper else fails (stand_of (at x u o e)); tables = h.tables })
        (λ _. syncs_to u o lie e h q)
        (λ _. to_if h q (bytes_eq sector (replicate 512 0)) (record { step = turns_to (stand_of (at x u o e)) WritesSuper; tables = h.tables }) (record { step = fails (stand_of (at x u o e)); tables = h.tables }) (λ _. record { asks = tt; under = tt; ends = tt }) (λ _. record { asks = tt; under = tt; ends = tt }))

    -- Decisions

    decided_to : (u : ℕ) (o : PositionIs) (lie : o.layout ≡ layout) (e : Errands) (h : Held) (input : Option (List ℕ)) (q : Option Pending) (value : List ℕ) → Is u value
        → Leads came last task h.first q (value_decided (stand_of (at x u o e)) h q input (txn_in value))
    decided_to u o lie e h None q value is = syncs_to (suc u) (new_position o.layout m) lie (all_left e o.ballot.parts) (record h { tables = value_applied h.tables (txn_in value) }) q
    decided_to u o lie e h (Some input) None value is = syncs_to (suc u) (new_position o.layout m) lie (all_left e o.ballot.parts) (record h { tables = value_applied h.tables (txn_in value) }) None
    decided_to u o lie e h (Some input) (Some p) value is =
        let after : Held = record h { tables = value_applied h.tables (txn_in value) } in
        let left = all_left e o.ballot.parts in
        let size = size_in h.tables p.call in
        let step : Moved = data_moves v after.tables size p.call in
        to_if after (Some p) (is_txn_of m p.number (txn_in value)) (record { step = data_moved (stand_of (at x (suc u) (new_position o.layout m) left)) step; tables = after.tables }) (record { step = plans (stand_of (at x (suc u) (new_position o.layout m) left)) after p; tables = after.tables })
        (λ own.
        let its : IsOwn Is m (suc u) p = record { position = u; last = refl; value = value; is = is; own = own } in
        moved_to (suc u) (new_position o.layout m) lie left after p step (inr its) size (inr its) (moves_fit v after.tables size came p.call))
        (λ _. plans_to (suc u) (new_position o.layout m) lie left after p)

    -- Answers at the anchors. Where nothing else follows, the mount's work stays

    module _ (h : Held) (q : Option Pending) (u : ℕ) (fits : FitsAsk v h.tables last task.work task.ask) (under : Underway came u h q task.work) where
      stays_to : (o : PositionIs) (e : Errands) → To h q (record { step = work_stays (stand_of (at x u o e)); tables = h.tables })
      stays_to o e = record { asks = fits; under = under; ends = tt }

      balloted_to : (o : PositionIs) (lie : o.layout ≡ layout) (e : Errands) (input : Option (List ℕ)) (step : BallotStep) → ((value : List ℕ) → value_in step ≡ Some value → Is u value) → Leads came last task h.first q (balloted (stand_of (at x u o e)) h q input step)
      balloted_to o lie e input Go is = stays_to o e
      balloted_to o lie e input (Abort mbal) is = pauses_to u (having_aborted o) lie e h q input (rest_of_pause m (having_aborted o))
      balloted_to o lie e input NoValue is = synced_to u o lie e h q
      balloted_to o lie e input (Decided value) is = decided_to u o lie e h input q value (is value refl)

      read_to : (o : PositionIs) (lie : o.layout ≡ layout) (e : Errands) (anchor : ℕ) (sectors : List Sector) (work : MountWork) → ((value : List ℕ) → decided_in Free (Bytes sectors) work o.ballot anchor ≡ Some value → Is u value)
          → Leads came last task h.first q (ballot_read (stand_of (at x u o e)) h q work anchor (blocks_in sectors))
      read_to o lie e anchor sectors (Ballots input) is =
          balloted_to (having_read o anchor (blocks_in sectors)) (read_layout o anchor (blocks_in sectors) ∙ lie) e input (read_at o.ballot anchor (blocks_in sectors)).step is
      read_to o lie e anchor sectors work is = stays_to (having_read o anchor (blocks_in sectors)) e

      look_to : (o : PositionIs) (lie : o.layout ≡ layout) (e : Errands) (anchor : ℕ) (work : MountWork) (reply : Reply) → To h q (record { step = look_answered (stand_of (at x u o e)) h q work anchor reply; tables = h.tables })
      look_to o lie e anchor (Syncs looks) (Bytes sectors) = syncs_on_to u (having_seen o (blocks_in sectors)) lie e h q (having_looked looks anchor (blocks_in sectors))
      look_to o lie e anchor work reply = stays_to o e

      pause_to : (o : PositionIs) (lie : o.layout ≡ layout) (e : Errands) (work : MountWork) → To h q (record { step = pause_answered (stand_of (at x u o e)) work; tables = h.tables })
      pause_to o lie e (Pauses input left) = paused_to u o lie e h q input left
      pause_to o lie e work = stays_to o e

      super_to : (o : PositionIs) (lie : o.layout ≡ layout) (e : Errands) (work : MountWork) (reply : Reply) → To h q (record { step = super_answered (stand_of (at x u o e)) h q work reply; tables = h.tables })
      super_to o lie e ReadsSuper (Bytes sectors) = super_read_to u o lie e h q (bytes_of sectors)
      super_to o lie e work reply = stays_to o e

      fills_to : (o : PositionIs) (lie : o.layout ≡ layout) (e : Errands) (work : MountWork) → To h q (record { step = super_filled (stand_of (at x u o e)) h q work; tables = h.tables })
      fills_to o lie e WritesSuper = syncs_to u o lie e h q
      fills_to o lie e work = stays_to o e

      pub errand_to : (o : PositionIs) (lie : o.layout ≡ layout) (e : Errands) (anchor : ℕ) (work : MountWork) (errand : Errand) (reply : Reply) → ((value : List ℕ) → decided_in errand reply work o.ballot anchor ≡ Some value → Is u value)
          → Leads came last task h.first q (errand_answered errand (stand_of (at x u o e)) h q work anchor reply)
      errand_to o lie e anchor work Free Written is = stays_to (having_written o anchor) e
      errand_to o lie e anchor work Free (Bytes sectors) is = read_to o lie e anchor sectors work is
      errand_to o lie e anchor work OfSync reply is = look_to o lie (with_errand e anchor Free) anchor work reply
      errand_to o lie e anchor work OfPause reply is = pause_to o lie (with_errand e anchor Free) work
      errand_to o lie e anchor work OfSuper reply is = super_to o lie (with_errand e anchor Free) work reply
      errand_to o lie e anchor work FillsSuper reply is = fills_to o lie (with_errand e anchor Free) work
      errand_to o lie e anchor work errand reply is = stays_to o (with_errand e anchor Free)

  -- Answers at the port for file data

  module _ (was : List Exchange) (last : Option Ask) (task : MountTask) (x : MountIs) where
    in_kind : (moving : DataMoving) (reply : Reply) → AnswersMoving moving reply → RepliesFitly moving reply
    in_kind (Gathers inode offset to index bytes) Written kind = absurd kind
    in_kind (Gathers inode offset to index bytes) (Bytes sectors) kind = tt
    in_kind (Fetches f index) reply kind = tt
    in_kind (Stores f index) reply kind = tt

    moving_to : (u : ℕ) (o : PositionIs) (lie : o.layout ≡ layout) (e : Errands) (h : Held) (q : Option Pending) (moving : DataMoving) (reply : Reply) → AnswersMoving moving reply → FitsAsk v h.tables last (Moves moving) None → MovesIn was u h q moving
        → Leads (was ++ exchange last reply) None task h.first q (record { step = data_moved (stand_of (at x u o e)) (moves_on v h.tables moving reply); tables = h.tables })
    moving_to u o lie e h None moving reply kind fits under = absurd under
    moving_to u o lie e h (Some p) moving reply kind fits under =
        subst (λ its. Leads (was ++ exchange its reply) None task h.first (Some p) (record { step = data_moved (stand_of (at x u o e)) (moves_on v h.tables moving reply); tables = h.tables })) (sym fits.1)
        (moved_to (was ++ (fits.0, reply) ∷ []) None task x u o lie e h p (moves_on v h.tables moving reply) under.passed under.size under.size_is
        (moves_on_fit v h.tables under.size was fits.0 reply p.call moving reply refl under.fits fits.2 (in_kind moving reply kind)))

    pub data_to : (u : ℕ) (o : PositionIs) (lie : o.layout ≡ layout) (e : Errands) (h : Held) (q : Option Pending) (work : MountWork) (next : Option Ask) (reply : Reply) → AnswersData work next reply → FitsAsk v h.tables last work next → Underway was u h q work
        → Leads (was ++ exchange last reply) None task h.first q (record { step = data_answered (stand_of (at x u o e)) h work reply; tables = h.tables })
    data_to u o lie e h q (Moves moving) None reply kind fits under = moving_to u o lie e h q moving reply kind fits under
    data_to u o lie e h q (Moves moving) (Some ask) reply kind fits under = absurd kind
    data_to u o lie e h q work next reply kind fits under = absurd kind
