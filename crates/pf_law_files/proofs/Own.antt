-- Where a ballot of a mount decides the transaction of its own pending call, the file data of the call go, on the tables after it, from the size
-- before it on, to the end.
use Rattle.std.proofs.Common.{◌≡◌, ℕ, ◌<◌, true, ◌==◌, if◌then◌else◌, List, [], ◌∷◌, ◌++◌, Option, Some, None, arith, refl, sym, ap, subst, ◌∙◌, append-nil}
use Rattle.std.specs.Prelude.{unwrap_or}
use Rattle.std.proofs.lemmas.Bool.{eqb-true}
use Rattle.std.proofs.lemmas.Option.{none-some, same_Some}
use Rattle.pf_base.specs.declared.asks.Ask.{Ask}
use Rattle.pf_base.specs.declared.asks.Reply.{Reply}
use Rattle.pf_base.specs.declared.asks.Reply.TheVariants.{Written, Bytes}
use Rattle.pf_entry.proofs.Cases.{by_test}
use Rattle.pf_volume.specs.Volumes.{Extent}
use Rattle.pf_tree_tables.specs.Tables.{Tables}
use Rattle.pf_tree.specs.Held.{Held}
use Rattle.pf_txn.specs.Reading.{txn_in}
use Rattle.pf_paxos.specs.declared.ballot.BallotStep.{BallotStep}
use Rattle.pf_paxos.specs.declared.ballot.BallotStep.TheVariants.{Go, Abort, NoValue, Decided}
use Rattle.pf_paxos.specs.Ballots.{BallotIs, read_at}
use Rattle.pf_file_calls.specs.Calls.{value_applied, is_txn_of, size_in}
use Rattle.pf_file_calls.specs.Moving.{data_moves, moves_on}
use Rattle.pf_file_calls.specs.declared.calls.Pending.{Pending}
use Rattle.pf_file_calls.specs.declared.moving.Moved.{Moved}
use Rattle.pf_file_calls.specs.declared.moving.Moved.TheVariants.{Asks as AsksFor, Ends}
use Rattle.pf_law_plans.specs.Exchanges.{Exchange}
use Rattle.pf_law_contents.specs.Stored.{GoesSo, DataGoesTo}
use Rattle.pf_law_contents.proofs.Steps.{goes_one_more, goes_to_end}
use Rattle.pf_mount_errands.specs.Blocks.{blocks_in}
use Rattle.pf_mount_errands.specs.declared.errands.Errand.{Errand}
use Rattle.pf_mount_errands.specs.declared.errands.Errand.TheVariants.{Free, OfSync, OfPause, OfSuper, FillsSuper}
use Rattle.pf_mount_errands.specs.Errands.{errand_at}
use Rattle.pf_mount_errands.specs.Positions.{PositionIs, anchors_of, having_read}
use Rattle.pf_mount.specs.declared.work.MountNext.{MountNext}
use Rattle.pf_mount.specs.declared.work.MountNext.TheVariants.{Done}
use Rattle.pf_mount.specs.declared.work.MountTask.{MountTask}
use Rattle.pf_mount.specs.declared.work.MountWork.{MountWork}
use Rattle.pf_mount.specs.declared.work.MountWork.TheVariants.{Ballots, Moves}
use Rattle.pf_mount.specs.Mounts.{MountIs, Worked, position_advanced, anchor_hands, asked_anchor, asked_data, balloted, data_answered, errand_answered, tables_held, data_moved, plans, stand_of}
use Rattle.pf_mount.specs.Standing.{AnswersData}
use Rattle.pf_law_calls.specs.Answering.{next_by}
use Rattle.pf_law_calls.specs.Exchanges.{exchange, pends_after, pends_with}
use Rattle.pf_law_calls.specs.Going.{IsDataAsked}
use Rattle.pf_law_calls.specs.Since.{since_after}
use Rattle.pf_law_calls.proofs.DataSteps.{IsFit, goes_fit}
use Rattle.pf_law_calls.specs.Lives.{Asks, Begins, CanTake, Hears, Input, decided_by, decided_in, mount_after, value_in}
use Rattle.pf_law_calls.proofs.PlannedInputs.{stage}

-- file data go on these tables from the first step on
module _ (v : Extent) (t : Tables) (first : Moved) where
  -- with these exchanges so far, of a mount at this work
  abbrev pub GoesFrom : (its : List Exchange) → (last next : Option Ask) → MountWork → Type 0
  GoesFrom its last next (Moves moving) = (ask : Ask) × IsDataAsked last next ask × DataGoesTo v t first its (AsksFor ask moving)
  GoesFrom its last next work = ⊥

  -- after an input, which may end the call
  abbrev pub GoesBy : (its : List Exchange) → (last : Option Ask) → MountTask → Option MountNext → Type 0
  GoesBy its last task None = GoesFrom its last task.ask task.work
  GoesBy its last task (Some (Done answer)) = GoesSo v t first its answer
  GoesBy its last task (Some next) = ⊥

  abbrev GoesWith : (its : List Exchange) → (last : Option Ask) → MountTask → Worked → Type 0
  GoesWith its last task w = GoesBy its last (unwrap_or w.step.task task) w.step.next

  moved_goes : (n : MountIs) (u : Tables) (task : MountTask) (its : List Exchange) (step : Moved) → DataGoesTo v t first its step → GoesWith its None task (record { step = data_moved (stand_of n) step; tables = u })
  moved_goes n u task its (AsksFor ask moving) goes = (ask, (refl, refl), goes)
  moved_goes n u task its (Ends answer) goes = goes_to_end v t first its answer goes

  hands_out : (its : List Exchange) (last next : Option Ask) (work : MountWork) → GoesFrom its last next work → GoesFrom its (pends_with last next) None work
  hands_out its last (Some ask) (Moves moving) far = (far.0, ap Some far.1.1, far.2)
  hands_out its last None (Moves moving) far = far
  hands_out its last next work far = absurd far

  -- what is answered at an anchor leaves them
  errand_goes : (n : MountIs) (h : Held) (p : Option Pending) (its : List Exchange) (last : Option Ask) (task : MountTask) (anchor : ℕ) (errand : Errand) (work : MountWork) (reply : Reply) → GoesFrom its last task.ask work → GoesFrom its last task.ask task.work
      → GoesWith its last task (errand_answered errand (stand_of n) h p work anchor reply)
  errand_goes n h p its last task anchor Free (Moves moving) Written far now = now
  errand_goes n h p its last task anchor Free (Moves moving) (Bytes sectors) far now = now
  errand_goes n h p its last task anchor OfSync (Moves moving) reply far now = now
  errand_goes n h p its last task anchor OfPause (Moves moving) reply far now = now
  errand_goes n h p its last task anchor OfSuper (Moves moving) reply far now = now
  errand_goes n h p its last task anchor FillsSuper (Moves moving) reply far now = now
  errand_goes n h p its last task anchor errand (Moves moving) reply far now = now
  errand_goes n h p its last task anchor errand work reply far now = absurd far

-- What is decided is decided by a ballot of the mount

ballot_in : (value : List ℕ) (errand : Errand) (reply : Reply) (work : MountWork) (p : BallotIs) (anchor : ℕ) → decided_in errand reply work p anchor ≡ Some value → (input : Option (List ℕ)) × (work ≡ Ballots input)
ballot_in value Free (Bytes sectors) (Ballots input) p anchor is = (input, refl)
ballot_in value Free (Bytes sectors) work p anchor is = absurd (none-some value is)
ballot_in value Free Written work p anchor is = absurd (none-some value is)
ballot_in value errand reply work p anchor is = absurd (none-some value is)

pub decides_in_ballot : (x : MountIs) (value : List ℕ) (input : Input) → decided_by x input ≡ Some value → (its : Option (List ℕ)) × (x.task.work ≡ Ballots its)
decides_in_ballot x value (Begins call) is = absurd (none-some value is)
decides_in_ballot x value (Asks port) is = absurd (none-some value is)
decides_in_ballot x value (Hears port reply) is =
    by_test (port == anchors_of x.position)
    (λ b. (if b then None else decided_in (errand_at x.errands port) reply x.task.work x.position.ballot port) ≡ Some value → (its : Option (List ℕ)) × (x.task.work ≡ Ballots its))
    (λ _ is. absurd (none-some value is)) (λ _ is. ballot_in value (errand_at x.errands port) reply x.task.work x.position.ballot port is) is

module _ (x : MountIs) where
  abbrev h : Held
  h = tables_held x.files

  abbrev q : Option Pending
  q = x.files.pending

  -- on the tables that the mount has, with each input
  module _ (first : Moved) (fit : IsFit first) (its : List Exchange) (last : Option Ask) where
    abbrev From : List Exchange → Option Ask → Option Ask → MountWork → Type 0
    From its last next work = GoesFrom x.files.volume x.files.tables first its last next work

    abbrev With : List Exchange → Option Ask → Worked → Type 0
    With its last w = GoesWith x.files.volume x.files.tables first its last x.task w

    reply_goes : (work : MountWork) (next : Option Ask) (reply : Reply) → AnswersData work next reply → From its last next work
        → With (its ++ exchange last reply) None (record { step = data_answered (stand_of x) h work reply; tables = h.tables })
    reply_goes (Moves moving) None reply kind far =
        let v = x.files.volume in
        let t = x.files.tables in
        subst (λ (ask : Option Ask). With (its ++ exchange ask reply) None (record { step = data_answered (stand_of x) h (Moves moving) reply; tables = h.tables })) (sym far.1)
        (moved_goes v t first x t x.task (its ++ (far.0, reply) ∷ []) (moves_on v t moving reply)
        (goes_one_more v t first its far.0 moving reply far.2 (goes_fit v t first its (AsksFor far.0 moving) fit far.2 reply kind)))
    reply_goes (Moves moving) (Some ask) reply kind far = absurd kind
    reply_goes work next reply kind far = absurd kind

    pub data_goes : (input : Input) → CanTake x input → From its last x.task.ask x.task.work
        → GoesBy x.files.volume x.files.tables first (since_after x last its input) (pends_after x last input) (mount_after x input).task (next_by x input)
    data_goes (Begins call) can far = absurd (subst (λ (work : MountWork). From its last x.task.ask work) can far)
    data_goes (Asks port) can far =
        by_test (port == anchors_of x.position)
        (λ b. From its (if b then pends_with last (if b then x.task.ask else (anchor_hands (stand_of x) x.task.work port).ask) else last) (if b then asked_data x else asked_anchor x port).task.ask (if b then asked_data x else asked_anchor x port).task.work)
        (λ _. hands_out x.files.volume x.files.tables first its last x.task.ask x.task.work far)
        (λ _. far)
    data_goes (Hears port reply) can far =
        by_test (port == anchors_of x.position)
        (λ b.
        With (its ++ (if b then exchange last reply else [])) (if b then None else last)
        (if b then record { step = data_answered (stand_of x) h x.task.work reply; tables = h.tables } else errand_answered (errand_at x.errands port) (stand_of x) h q x.task.work port reply))
        (λ is. reply_goes x.task.work x.task.ask reply (can.data_port (eqb-true port (anchors_of x.position) is)) far)
        (λ _.
        subst (λ all. With all last (errand_answered (errand_at x.errands port) (stand_of x) h q x.task.work port reply)) (sym (append-nil its))
        (errand_goes x.files.volume x.files.tables first x h q its last x.task port (errand_at x.errands port) x.task.work reply far far))

  -- The own transaction is decided

  module _ (p : Pending) (pends : x.files.pending ≡ Some p) (value : List ℕ) (own : is_txn_of x.files.mount p.number (txn_in value) ≡ true) where
    abbrev after : Tables
    after = value_applied x.files.tables (txn_in value)

    abbrev begins : Moved
    begins = data_moves x.files.volume after (size_in x.files.tables p.call) p.call

    abbrev Starts : Worked → Type 0
    Starts w = GoesWith x.files.volume after begins [] None x.task w

    decided_starts : (o : PositionIs) (input : List ℕ) → Starts (balloted (stand_of (record x { position = o })) h (Some p) (Some input) (Decided value))
    decided_starts o input =
        let s = position_advanced (stand_of (record x { position = o })) in
        let there : MountIs = record x { upto = s.upto; position = s.position; errands = s.errands } in
        let held : Held = record h { tables = after } in
        subst (λ b. Starts (record { step = if b then data_moved (stand_of there) begins else plans (stand_of there) held p; tables = after })) (sym own)
        (moved_goes x.files.volume after begins there after x.task [] begins refl)

    step_starts : (o : PositionIs) (input : List ℕ) (step : BallotStep) → value_in step ≡ Some value → Starts (balloted (stand_of (record x { position = o })) h (Some p) (Some input) step)
    step_starts o input Go is = absurd (none-some value is)
    step_starts o input (Abort mbal) is = absurd (none-some value is)
    step_starts o input NoValue is = absurd (none-some value is)
    step_starts o input (Decided w) is =
        subst (λ u. Starts (balloted (stand_of (record x { position = o })) h (Some p) (Some input) (Decided u))) (sym (same_Some w value is)) (decided_starts o input)

    errand_starts : (port : ℕ) (errand : Errand) (work : MountWork) (reply : Reply) → 0 < stage work → decided_in errand reply work x.position.ballot port ≡ Some value → Starts (errand_answered errand (stand_of x) h (Some p) work port reply)
    errand_starts port Free (Ballots (Some input)) (Bytes sectors) at is = step_starts (having_read x.position port (blocks_in sectors)) input (read_at x.position.ballot port (blocks_in sectors)).step is
    errand_starts port Free (Ballots None) (Bytes sectors) at is = absurd (omega (arith, at))
    errand_starts port Free work (Bytes sectors) at is = absurd (none-some value is)
    errand_starts port Free work Written at is = absurd (none-some value is)
    errand_starts port errand work reply at is = absurd (none-some value is)

    -- by a ballot that puts something in for the call, which has asked for no data
    pub own_starts : (its : List Exchange) (last : Option Ask) (input : Input) → 0 < stage x.task.work → its ≡ [] → last ≡ None → decided_by x input ≡ Some value
        → GoesBy x.files.volume after begins (since_after x last its input) (pends_after x last input) (mount_after x input).task (next_by x input)
    own_starts its last (Begins call) at none free is = absurd (none-some value is)
    own_starts its last (Asks port) at none free is = absurd (none-some value is)
    own_starts its last (Hears port reply) at none free is =
        by_test (port == anchors_of x.position)
        (λ b.
        (if b then None else decided_in (errand_at x.errands port) reply x.task.work x.position.ballot port) ≡ Some value
        → GoesWith x.files.volume after begins (its ++ (if b then exchange last reply else [])) (if b then None else last) x.task
        (if b then record { step = data_answered (stand_of x) h x.task.work reply; tables = h.tables } else errand_answered (errand_at x.errands port) (stand_of x) h q x.task.work port reply))
        (λ _ is. absurd (none-some value is))
        (λ _ is.
        subst (λ all. GoesWith x.files.volume after begins all last x.task (errand_answered (errand_at x.errands port) (stand_of x) h q x.task.work port reply)) (sym (append-nil its ∙ none))
        (subst (λ ask. GoesWith x.files.volume after begins [] ask x.task (errand_answered (errand_at x.errands port) (stand_of x) h q x.task.work port reply)) (sym free)
        (subst (λ o. Starts (errand_answered (errand_at x.errands port) (stand_of x) h o x.task.work port reply)) (sym pends) (errand_starts port (errand_at x.errands port) x.task.work reply at is))))
        is
