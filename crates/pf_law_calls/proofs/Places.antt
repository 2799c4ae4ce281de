-- Where a mount stands at its work: it reads and decides a position only where there is one, and once it is past its sync what is said of its
-- position is true.
use Rattle.std.proofs.Common.{◌≡◌, ℕ, zero, suc, ◌<◌, ◌≤◌, true, false, not, ◌==◌, if◌then◌else◌, List, [], ◌∷◌, replicate, Option, Some, None, arith, refl, sym, ap, subst, ◌∙◌}
use Rattle.std.specs.Prelude.{unwrap_or}
use Rattle.std.specs.Str.{bytes_eq}
use Rattle.std.proofs.lemmas.Bool.{eqb-false, eqb-true}
use Rattle.pf_base.specs.declared.asks.Reply.{Reply}
use Rattle.pf_base.specs.declared.asks.Reply.TheVariants.{Written, Bytes}
use Rattle.pf_entry.proofs.Cases.{by_test}
use Rattle.pf_volume.specs.Volumes.{Extent}
use Rattle.pf_tree_tables.specs.declared.changes.Txn.{Txn}
use Rattle.pf_tree.specs.Held.{Held, data_of}
use Rattle.pf_tree.specs.Calls.{FileCall}
use Rattle.pf_txn.specs.Reading.{txn_in}
use Rattle.pf_txn.specs.Spelling.{spell_txn}
use Rattle.pf_paxos.specs.declared.ballot.BallotStep.{BallotStep}
use Rattle.pf_paxos.specs.declared.ballot.BallotStep.TheVariants.{Go, Abort, NoValue, Decided}
use Rattle.pf_paxos.specs.Ballots.{read_at}
use Rattle.pf_journal.specs.declared.layouts.Layout.{Layout}
use Rattle.pf_journal.specs.declared.layouts.Layout.TheVariants.{Plain, Three}
use Rattle.pf_journal.specs.Layouts.{layout_of}
use Rattle.pf_file_calls.specs.Blocks.{bytes_of}
use Rattle.pf_file_calls.specs.Calls.{value_applied, is_txn_of, planned, size_in}
use Rattle.pf_file_calls.specs.Moving.{data_moves, moves_on}
use Rattle.pf_file_calls.specs.declared.answers.CallAnswer.{CallAnswer}
use Rattle.pf_file_calls.specs.declared.answers.CallAnswer.TheVariants.{Refused}
use Rattle.pf_file_calls.specs.declared.answers.CallFault.TheVariants.{JournalFull}
use Rattle.pf_file_calls.specs.declared.calls.Pending.{Pending}
use Rattle.pf_file_calls.specs.declared.calls.Planned.{Planned}
use Rattle.pf_file_calls.specs.declared.calls.Planned.TheVariants.{Refuses, Proposes, Goes}
use Rattle.pf_file_calls.specs.declared.moving.Moved.{Moved}
use Rattle.pf_file_calls.specs.declared.moving.Moved.TheVariants.{Asks as AsksFor, Ends}
use Rattle.pf_mount_errands.specs.Blocks.{blocks_in}
use Rattle.pf_mount_errands.specs.declared.errands.Errand.{Errand}
use Rattle.pf_mount_errands.specs.declared.errands.Errand.TheVariants.{FillsSuper, Free, OfPause, OfSuper, OfSync}
use Rattle.pf_mount_errands.specs.declared.errands.Errands.{Errands}
use Rattle.pf_mount_errands.specs.declared.looks.Looks.{Looks}
use Rattle.pf_mount_errands.specs.Errands.{all_late, errand_at, with_errand}
use Rattle.pf_mount_errands.specs.Looks.{are_looked, have_found, having_looked, new_looks}
use Rattle.pf_mount_errands.specs.Positions.{PositionIs, anchors_of, can_start, having_read, having_seen, having_written, journal_of, starting_ballot}
use Rattle.pf_mount.specs.declared.work.MountTask.{MountTask}
use Rattle.pf_mount.specs.declared.work.MountWork.{MountWork}
use Rattle.pf_mount.specs.declared.work.MountWork.TheVariants.{Rests, ReadsSuper, WritesSuper, Syncs, Ballots, Pauses, Moves}
use Rattle.pf_mount.specs.Mounts.{MountIs, Worked, position_advanced, mount_asked, asked_anchor, asked_data, balloted, ballots, data_answered, value_decided, done, errand_answered, fails, having_started, tables_held, data_moved, mount_opening, paused, pauses, plans, plans_as, port_answered, proceeds, proceeds_with, proposes, stand_of, work_stays, super_read, synced, syncs, syncs_on, turns_to}
use Rattle.pf_law_calls.specs.Lives.{Asks, Begins, Hears, Input, Life, MountTold, all_opened, lived, lives, lives_from, lives_on as goes, mount_after}
use Rattle.pf_law_calls.proofs.Layouts.{Lies, input_lies, new_lies, read_layout}

-- Past its sync a mount stands where Q is true. What a sync has read at a position, with these errands at the anchors, is as L says
module _ (layout : Layout) (Q : ℕ → Type 0) (L : ℕ → Errands → Looks → Type 0) where
  abbrev pub most : ℕ
  most = (layout_of layout).positions

  abbrev pub OfInput : (upto : ℕ) → Option (List ℕ) → Type 0
  OfInput upto None = Unit {0}
  OfInput upto (Some value) = Q upto

  abbrev pub AtWork : (upto : ℕ) → MountWork → Type 0
  AtWork upto (Syncs looks) = upto < most
  AtWork upto (Ballots input) = (upto < most) × OfInput upto input
  AtWork upto (Pauses input left) = (upto < most) × OfInput upto input
  AtWork upto (Moves moving) = Q upto
  AtWork upto Rests = Q upto
  AtWork upto work = Unit {0}

  abbrev pub LooksWith : (upto : ℕ) → Errands → MountWork → Type 0
  LooksWith upto e (Syncs looks) = L upto e looks
  LooksWith upto e work = Unit {0}

  pub record IsPlace (upto : ℕ) (e : Errands) (work : MountWork) : Type 0 where
    pub within : upto ≤ most
    pub at : AtWork upto work
    pub looks : LooksWith upto e work

  -- where this answer ends a sync that found nothing, or a ballot that found no value, Q is true
  abbrev pub IsQuietFor : MountIs → (port : ℕ) → Errand → Reply → MountWork → Type 0
  IsQuietFor x port OfSync (Bytes sectors) (Syncs looks) =
      let l = having_looked looks port (blocks_in sectors) in are_looked (layout_of layout).quorum l ≡ true → have_found l ≡ false → Q x.upto
  IsQuietFor x port Free (Bytes sectors) (Ballots input) = (read_at x.position.ballot port (blocks_in sectors)).step ≡ NoValue → Q x.upto
  IsQuietFor x port errand reply work = Unit {0}

  -- and where it leaves the sync at work, it has read so
  abbrev pub LooksOn : MountIs → (port : ℕ) → Errand → Reply → MountWork → Type 0
  LooksOn x port OfSync (Bytes sectors) (Syncs looks) = L x.upto (with_errand x.errands port Free) (having_looked looks port (blocks_in sectors))
  LooksOn x port Free reply (Syncs looks) = L x.upto x.errands looks
  LooksOn x port errand reply (Syncs looks) = L x.upto (with_errand x.errands port Free) looks
  LooksOn x port errand reply work = Unit {0}

  -- so for each input
  abbrev pub QuietIn : MountIs → Input → Type 0
  QuietIn x (Hears port reply) = (port == anchors_of x.position) ≡ false → IsQuietFor x port (errand_at x.errands port) reply x.task.work
  QuietIn x input = Unit {0}

  abbrev pub LooksIn : MountIs → Input → Type 0
  LooksIn x (Begins call) = Unit {0}
  LooksIn x (Asks port) = LooksWith x.upto (mount_asked x port).errands x.task.work
  LooksIn x (Hears port reply) =
      ((port == anchors_of x.position) ≡ true → LooksWith x.upto x.errands x.task.work)
      × ((port == anchors_of x.position) ≡ false → LooksOn x port (errand_at x.errands port) reply x.task.work)

  abbrev pub IsPlaceOf : MountIs → Type 0
  IsPlaceOf x = IsPlace x.upto x.errands x.task.work

  module _ (rises : (upto : ℕ) → Q upto → Q (suc upto)) (last : Q most) (fresh : (upto : ℕ) (e : Errands) → L upto (all_late e) new_looks) where
    -- after a step of a mount with this task
    module _ (task : MountTask) where
      abbrev To : Worked → Type 0
      To w = IsPlace w.step.stand.upto w.step.stand.errands (unwrap_or w.step.task task).work

      module _ (n : MountIs) (lie : n.position.layout ≡ layout) (within : n.upto ≤ most) (h : Held) where
        here : (journal_of n.position).positions ≡ most
        here = ap (λ (l : Layout). (layout_of l).positions) lie

        not_last : (n.upto == (journal_of n.position).positions) ≡ false → n.upto < most
        not_last is = omega (arith, within, here, eqb-false n.upto (journal_of n.position).positions is)

        at_last : (n.upto == (journal_of n.position).positions) ≡ true → Q n.upto
        at_last is = subst Q (sym (eqb-true n.upto (journal_of n.position).positions is ∙ here)) last

        stays_to : AtWork n.upto task.work → LooksWith n.upto n.errands task.work → To (record { step = work_stays (stand_of n); tables = h.tables })
        stays_to at on = record { within = within; at = at; looks = on }

        done_to : (answer : CallAnswer) → Q n.upto → To (record { step = done (stand_of n) answer; tables = h.tables })
        done_to answer q = record { within = within; at = q; looks = tt }

        moved_to : (x : Moved) → Q n.upto → To (record { step = data_moved (stand_of n) x; tables = h.tables })
        moved_to (AsksFor ask moving) q = record { within = within; at = q; looks = tt }
        moved_to (Ends answer) q = done_to answer q

        -- Ballots

        pauses_to : (input : Option (List ℕ)) (left : ℕ) → n.upto < most → OfInput n.upto input → To (record { step = pauses (stand_of n) input left; tables = h.tables })
        pauses_to input left low of = record { within = within; at = (low, of); looks = tt }

        ballots_to : (input : Option (List ℕ)) → n.upto < most → OfInput n.upto input → To (record { step = ballots (stand_of n) input; tables = h.tables })
        ballots_to input low of =
            by_test (can_start n.position)
            (λ b. To (record { step = if b then turns_to (stand_of (record n { position = starting_ballot n.position input })) (Ballots input) else pauses (stand_of n) input 0; tables = h.tables }))
            (λ _. record { within = within; at = (low, of); looks = tt }) (λ _. pauses_to input 0 low of)

        paused_to : (input : Option (List ℕ)) (left : ℕ) → n.upto < most → OfInput n.upto input → To (record { step = paused (stand_of n) input left; tables = h.tables })
        paused_to input zero low of = ballots_to input low of
        paused_to input (suc left) low of = pauses_to input left low of

        -- Calls

        proposes_to : (txn : Txn) → Q n.upto → To (record { step = proposes (stand_of n) txn; tables = h.tables })
        proposes_to txn q =
            by_test (n.upto == (journal_of n.position).positions)
            (λ b. To (record { step = if b then done (stand_of n) (Refused JournalFull) else ballots (stand_of n) (Some (spell_txn txn)); tables = h.tables }))
            (λ _. done_to (Refused JournalFull) q) (λ is. ballots_to (Some (spell_txn txn)) (not_last is) q)

        plans_as_to : (x : Planned) → Q n.upto → To (record { step = plans_as (stand_of n) x; tables = h.tables })
        plans_as_to (Refuses fault) q = done_to (Refused fault) q
        plans_as_to (Proposes txn) q = proposes_to txn q
        plans_as_to (Goes step) q = moved_to step q

        plans_to : (p : Pending) → Q n.upto → To (record { step = plans (stand_of n) h p; tables = h.tables })
        plans_to p q = plans_as_to (planned n.files.mount n.files.volume (data_of h.first h.tables) h.tables p) q

        -- Syncs

        synced_to : (o : Option Pending) → Q n.upto → To (record { step = synced (stand_of n) h o; tables = h.tables })
        synced_to None q = record { within = within; at = q; looks = tt }
        synced_to (Some p) q = plans_to p q

        syncs_to : (o : Option Pending) → To (record { step = syncs (stand_of n) h o; tables = h.tables })
        syncs_to o =
            by_test (n.upto == (journal_of n.position).positions)
            (λ b. To (record { step = if b then synced (stand_of n) h o else turns_to (stand_of (record n { errands = all_late n.errands })) (Syncs new_looks); tables = h.tables }))
            (λ is. synced_to o (at_last is)) (λ is. record { within = within; at = not_last is; looks = fresh n.upto n.errands })

        syncs_on_to : (o : Option Pending) (looks : Looks) → n.upto < most → L n.upto n.errands looks → (are_looked (layout_of layout).quorum looks ≡ true → have_found looks ≡ false → Q n.upto)
            → To (record { step = syncs_on (stand_of n) h o looks; tables = h.tables })
        syncs_on_to o looks low at quiet =
            by_test (are_looked (journal_of n.position).quorum looks)
            (λ b. To (record { step = if not b then turns_to (stand_of n) (Syncs looks) else if have_found looks then ballots (stand_of n) None else synced (stand_of n) h o; tables = h.tables }))
            (λ all.
            by_test (have_found looks) (λ b. To (record { step = if b then ballots (stand_of n) None else synced (stand_of n) h o; tables = h.tables }))
            (λ _. ballots_to None low tt) (λ none. synced_to o (quiet (subst (λ (l : Layout). are_looked (layout_of l).quorum looks ≡ true) lie all) none)))
            (λ _. record { within = within; at = low; looks = at })

        super_read_to : (o : Option Pending) (sector : List ℕ) → To (record { step = super_read (stand_of n) h o sector; tables = h.tables })
        super_read_to o sector =
            by_test _
            (λ b. To (record { step = if b then syncs (stand_of n) h o else if bytes_eq sector (replicate 512 0) then turns_to (stand_of n) WritesSuper else fails (stand_of n); tables = h.tables }))
            (λ _. syncs_to o)
            (λ _.
            by_test (bytes_eq sector (replicate 512 0)) (λ b. To (record { step = if b then turns_to (stand_of n) WritesSuper else fails (stand_of n); tables = h.tables }))
            (λ _. record { within = within; at = tt; looks = tt }) (λ _. record { within = within; at = tt; looks = tt }))

        -- Decisions

        proceeds_with_to : (before : Held) (txn : Option Txn) (p : Pending) → Q n.upto → To (record { step = proceeds_with (stand_of n) before h txn p; tables = h.tables })
        proceeds_with_to before txn p q =
            let x : Moved = data_moves n.files.volume h.tables (size_in before.tables p.call) p.call in
            by_test (is_txn_of n.files.mount p.number txn) (λ b. To (record { step = if b then data_moved (stand_of n) x else plans (stand_of n) h p; tables = h.tables }))
            (λ _. moved_to x q) (λ _. plans_to p q)

        proceeds_to : (before : Held) (txn : Option Txn) (input : Option (List ℕ)) (o : Option Pending) → OfInput n.upto input → To (record { step = proceeds (stand_of n) before h txn input o; tables = h.tables })
        proceeds_to before txn (Some value) (Some p) q = proceeds_with_to before txn p q
        proceeds_to before txn (Some value) None q = syncs_to None
        proceeds_to before txn None o q = syncs_to o

      -- Answers to asks of ballots

      module _ (n : MountIs) (lie : n.position.layout ≡ layout) (within : n.upto ≤ most) (h : Held) (o : Option Pending) where
        risen : (input : Option (List ℕ)) → OfInput n.upto input → OfInput (suc n.upto) input
        risen None of = tt
        risen (Some value) of = rises n.upto of

        decided_to : (input : Option (List ℕ)) (txn : Option Txn) → n.upto < most → OfInput n.upto input → To (value_decided (stand_of n) h o input txn)
        decided_to input txn low of =
            let s = position_advanced (stand_of n) in
            proceeds_to (record n { upto = s.upto; position = s.position; errands = s.errands }) lie low (record h { tables = value_applied h.tables txn }) h txn input o (risen input of)

        balloted_to : (input : Option (List ℕ)) → task.work ≡ Ballots input → n.upto < most → OfInput n.upto input → (step : BallotStep) → (step ≡ NoValue → Q n.upto) → To (balloted (stand_of n) h o input step)
        balloted_to input same low of Go quiet = stays_to n lie within h (subst (AtWork n.upto) (sym same) (low, of)) (subst (LooksWith n.upto n.errands) (sym same) tt)
        balloted_to input same low of (Abort mbal) quiet = record { within = within; at = (low, of); looks = tt }
        balloted_to input same low of NoValue quiet = synced_to n lie within h o (quiet refl)
        balloted_to input same low of (Decided value) quiet = decided_to input (txn_in value) low of

      -- Answers at any port

      module _ (n : MountIs) (lie : n.position.layout ≡ layout) (within : n.upto ≤ most) (h : Held) (o : Option Pending) (port : ℕ) where
        abbrev freed_there : MountIs
        freed_there = record n { errands = with_errand n.errands port Free }

        place_stays : (x : PositionIs) (f : Errands) (work : MountWork) → task.work ≡ work → AtWork n.upto work → LooksWith n.upto f work → To (record { step = work_stays (stand_of (record n { position = x; errands = f })); tables = h.tables })
        place_stays x f work same at on = record { within = within; at = subst (AtWork n.upto) (sym same) at; looks = subst (LooksWith n.upto f) (sym same) on }

        freed_stays : (work : MountWork) → task.work ≡ work → AtWork n.upto work → LooksWith n.upto freed_there.errands work → To (record { step = work_stays (stand_of freed_there); tables = h.tables })
        freed_stays work same at on = place_stays n.position freed_there.errands work same at on

        errand_to : (errand : Errand) (reply : Reply) (work : MountWork) → task.work ≡ work → AtWork n.upto work → IsQuietFor n port errand reply work → LooksOn n port errand reply work → To (errand_answered errand (stand_of n) h o work port reply)
        errand_to Free Written (Syncs looks) same at quiet on = place_stays (having_written n.position port) n.errands (Syncs looks) same at on
        errand_to Free Written work same at quiet on = place_stays (having_written n.position port) n.errands work same at tt
        errand_to Free (Bytes sectors) (Ballots input) same at quiet on =
            balloted_to (record n { position = having_read n.position port (blocks_in sectors) }) (read_layout n.position port (blocks_in sectors) ∙ lie) within h o input same at.0 at.1 (read_at n.position.ballot port (blocks_in sectors)).step quiet
        errand_to Free (Bytes sectors) (Syncs looks) same at quiet on = place_stays (having_read n.position port (blocks_in sectors)) n.errands (Syncs looks) same at on
        errand_to Free (Bytes sectors) work same at quiet on = place_stays (having_read n.position port (blocks_in sectors)) n.errands work same at tt
        errand_to OfSync (Bytes sectors) (Syncs looks) same at quiet on =
            syncs_on_to (record freed_there { position = having_seen n.position (blocks_in sectors) }) lie within h o (having_looked looks port (blocks_in sectors)) at on quiet
        errand_to OfPause reply (Pauses input left) same at quiet on = paused_to freed_there lie within h input left at.0 at.1
        errand_to OfSuper (Bytes sectors) ReadsSuper same at quiet on = super_read_to freed_there lie within h o (bytes_of sectors)
        errand_to FillsSuper reply WritesSuper same at quiet on = syncs_to freed_there lie within h o
        errand_to errand Written (Syncs looks) same at quiet on = freed_stays (Syncs looks) same at on
        errand_to errand (Bytes sectors) (Syncs looks) same at quiet on = freed_stays (Syncs looks) same at on
        errand_to errand Written work same at quiet on = freed_stays work same at tt
        errand_to errand (Bytes sectors) work same at quiet on = freed_stays work same at tt

        data_to : (reply : Reply) (work : MountWork) → task.work ≡ work → AtWork n.upto work → LooksWith n.upto n.errands work → To (record { step = data_answered (stand_of n) h work reply; tables = h.tables })
        data_to reply (Moves moving) same at on = moved_to n lie within h (moves_on n.files.volume h.tables moving reply) at
        data_to reply work same at on = place_stays n.position n.errands work same at on

    -- Inputs

    pub begins_place : (x : MountIs) (call : FileCall) → x.position.layout ≡ layout → x.upto ≤ most → IsPlaceOf (mount_after x (Begins call))
    begins_place x call lie within =
        let n : MountIs = having_started x call in
        let to = syncs_to n.task n lie within (tables_held n.files) n.files.pending in
        record { within = to.within; at = to.at; looks = to.looks }

    pub input_place : (x : MountIs) (input : Input) → x.position.layout ≡ layout → x.upto ≤ most → AtWork x.upto x.task.work → QuietIn x input → LooksIn x input → IsPlaceOf (mount_after x input)
    input_place x (Begins call) lie within at quiet on = begins_place x call lie within
    input_place x (Asks port) lie within at quiet on =
        by_test (port == anchors_of x.position)
        (λ b. LooksWith x.upto (if b then asked_data x else asked_anchor x port).errands x.task.work → IsPlaceOf (if b then asked_data x else asked_anchor x port))
        (λ _ on. record { within = within; at = at; looks = on }) (λ _ on. record { within = within; at = at; looks = on })
        on
    input_place x (Hears port reply) lie within at quiet on =
        let h = tables_held x.files in
        let o = x.files.pending in
        let to : To x.task (port_answered (stand_of x) h o x.task.work port reply) =
        by_test (port == anchors_of x.position)
        (λ b. To x.task (if b then record { step = data_answered (stand_of x) h x.task.work reply; tables = h.tables } else errand_answered (errand_at x.errands port) (stand_of x) h o x.task.work port reply))
        (λ is_data. data_to x.task x lie within h o port reply x.task.work refl at (on.0 is_data))
        (λ other. errand_to x.task x lie within h o port (errand_at x.errands port) reply x.task.work refl at (quiet other) (on.1 other)) in
        record { within = to.within; at = to.at; looks = to.looks }

-- Whatever is told

module _ (layout : Layout) where
  abbrev Any : ℕ → Type 0
  Any upto = Unit {0}

  abbrev AnyLooks : ℕ → Errands → Looks → Type 0
  AnyLooks upto e looks = Unit {0}

  -- the mount stands at one of the positions or past them, and reads and decides only where there is one
  abbrev pub Placed : MountIs → Type 0
  Placed x = IsPlaceOf layout Any AnyLooks x

  any_looks : (upto : ℕ) (e : Errands) (work : MountWork) → LooksWith layout Any AnyLooks upto e work
  any_looks upto e (Syncs looks) = tt
  any_looks upto e work = tt

  any_quiet : (x : MountIs) (port : ℕ) (errand : Errand) (reply : Reply) (work : MountWork) → IsQuietFor layout Any AnyLooks x port errand reply work
  any_quiet x port OfSync (Bytes sectors) (Syncs looks) = λ _ _. tt
  any_quiet x port Free (Bytes sectors) (Ballots input) = λ _. tt
  any_quiet x port errand reply work = tt

  any_on : (x : MountIs) (port : ℕ) (errand : Errand) (reply : Reply) (work : MountWork) → LooksOn layout Any AnyLooks x port errand reply work
  any_on x port OfSync (Bytes sectors) (Syncs looks) = tt
  any_on x port Free reply (Syncs looks) = tt
  any_on x port errand reply (Syncs looks) = tt
  any_on x port errand reply work = tt

  quiet_in : (x : MountIs) (input : Input) → QuietIn layout Any AnyLooks x input
  quiet_in x (Begins call) = tt
  quiet_in x (Asks port) = tt
  quiet_in x (Hears port reply) = λ _. any_quiet x port (errand_at x.errands port) reply x.task.work

  looks_in : (x : MountIs) (input : Input) → LooksIn layout Any AnyLooks x input
  looks_in x (Begins call) = tt
  looks_in x (Asks port) = any_looks x.upto (mount_asked x port).errands x.task.work
  looks_in x (Hears port reply) = (λ _. any_looks x.upto x.errands x.task.work, λ _. any_on x port (errand_at x.errands port) reply x.task.work)

  input_placed : (x : MountIs) (input : Input) → Lies layout x → Placed x → Placed (mount_after x input)
  input_placed x input lie is = input_place layout Any AnyLooks (λ _ _. tt) tt (λ _ _. tt) x input lie.lies is.within is.at (quiet_in x input) (looks_in x input)

  all_placed : (told : List MountTold) (ls : ℕ → Life) → ((m : ℕ) → Lies layout (ls m).mount × Placed (ls m).mount) → (m : ℕ) → Placed (lives_from ls told m).mount
  all_placed [] ls each m = (each m).1
  all_placed (t ∷ told) ls each m =
      all_placed told (lived ls t)
      (λ k.
      by_test (k == t.mount) (λ b. (let l : Life = if b then goes (ls k) t.input else ls k in Lies layout l.mount × Placed l.mount))
      (λ _. (input_lies layout (ls k).mount t.input (each k).0, input_placed (ls k).mount t.input (each k).0 (each k).1)) (λ _. each k))
      m

new_placed : (layout : Layout) (v : Extent) (m : ℕ) → Placed layout (mount_opening layout m v)
new_placed Plain v m = record { within = omega arith; at = tt; looks = tt }
new_placed Three v m = record { within = omega arith; at = omega arith; looks = tt }

pub mounts_placed : (layout : Layout) (v : Extent) (told : List MountTold) (m : ℕ) → Placed layout (lives layout v told m).mount
mounts_placed layout v told m = all_placed layout told (all_opened layout v) (λ k. (new_lies layout k v, new_placed layout v k)) m
