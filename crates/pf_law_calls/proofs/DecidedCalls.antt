-- Where the decided value is of the pending call, nothing more is put in for it.
use Rattle.std.proofs.Common.{◌≡◌, ℕ, ◌≤◌, Bool, true, false, ◌==◌, if◌then◌else◌, List, Option, Some, None, arith, refl, sym, ap, subst, ◌∙◌}
use Rattle.std.specs.Prelude.{unwrap_or}
use Rattle.std.proofs.lemmas.Option.{none-some, same_Some}
use Rattle.pf_base.specs.declared.asks.Reply.{Reply}
use Rattle.pf_base.specs.declared.asks.Reply.TheVariants.{Written, Bytes}
use Rattle.pf_entry.proofs.Cases.{by_test}
use Rattle.pf_tree.specs.Held.{Held}
use Rattle.pf_txn.specs.Reading.{txn_in}
use Rattle.pf_paxos.specs.declared.ballot.BallotStep.{BallotStep}
use Rattle.pf_paxos.specs.declared.ballot.BallotStep.TheVariants.{Go, Abort, NoValue, Decided}
use Rattle.pf_paxos.specs.Ballots.{read_at}
use Rattle.pf_file_calls.specs.Calls.{value_applied, is_txn_of, size_in}
use Rattle.pf_file_calls.specs.Moving.{data_moves}
use Rattle.pf_file_calls.specs.declared.calls.Pending.{Pending}
use Rattle.pf_file_calls.specs.declared.moving.Moved.{Moved}
use Rattle.pf_file_calls.specs.declared.moving.Moved.TheVariants.{Asks as AsksFor, Ends}
use Rattle.pf_mount_errands.specs.Blocks.{blocks_in}
use Rattle.pf_mount_errands.specs.declared.errands.Errand.{Errand}
use Rattle.pf_mount_errands.specs.declared.errands.Errand.TheVariants.{Free}
use Rattle.pf_mount_errands.specs.Errands.{errand_at}
use Rattle.pf_mount_errands.specs.Positions.{anchors_of, having_read}
use Rattle.pf_mount.specs.declared.work.MountTask.{MountTask}
use Rattle.pf_mount.specs.declared.work.MountWork.{MountWork}
use Rattle.pf_mount.specs.declared.work.MountWork.TheVariants.{Ballots}
use Rattle.pf_mount.specs.Mounts.{MountIs, Worked, mount_answered, position_advanced, balloted, data_answered, errand_answered, tables_held, data_moved, plans, port_answered, stand_of}
use Rattle.pf_law_calls.specs.Lives.{Asks, Begins, Hears, Input, decided_by, decided_in, mount_after, value_in}
use Rattle.pf_law_calls.proofs.PlannedInputs.{stage}

module _ (task : MountTask) where
  -- after the step
  abbrev IsLast : Worked → Type 0
  IsLast w = 2 ≤ stage (unwrap_or w.step.task task).work

  moved_last : (n : MountIs) (h : Held) (x : Moved) → IsLast (record { step = data_moved (stand_of n) x; tables = h.tables })
  moved_last n h (AsksFor ask moving) = omega arith
  moved_last n h (Ends answer) = omega arith

  module _ (value : List ℕ) (p : Pending) (h : Held) (input : List ℕ) where
    decided_last : (n : MountIs) (w : List ℕ) → is_txn_of n.files.mount p.number (txn_in w) ≡ true → IsLast (balloted (stand_of n) h (Some p) (Some input) (Decided w))
    decided_last n w own =
        let after : Held = record h { tables = value_applied h.tables (txn_in w) } in
        let s = position_advanced (stand_of n) in
        let x : Moved = data_moves n.files.volume after.tables (size_in h.tables p.call) p.call in
        let there : MountIs = record n { upto = s.upto; position = s.position; errands = s.errands } in
        subst (λ b. IsLast (record { step = if b then data_moved (stand_of there) x else plans (stand_of there) after p; tables = after.tables })) (sym own) (moved_last there after x)

    step_last : (n : MountIs) (step : BallotStep) → is_txn_of n.files.mount p.number (txn_in value) ≡ true → value_in step ≡ Some value → IsLast (balloted (stand_of n) h (Some p) (Some input) step)
    step_last n Go own is = absurd (none-some value is)
    step_last n (Abort mbal) own is = absurd (none-some value is)
    step_last n NoValue own is = absurd (none-some value is)
    step_last n (Decided w) own is = decided_last n w (ap (λ v. is_txn_of n.files.mount p.number (txn_in v)) (same_Some w value is) ∙ own)

    module _ (n : MountIs) (own : is_txn_of n.files.mount p.number (txn_in value) ≡ true) (port : ℕ) where
      errand_last : (errand : Errand) (reply : Reply) → decided_in errand reply (Ballots (Some input)) n.position.ballot port ≡ Some value
          → IsLast (errand_answered errand (stand_of n) h (Some p) (Ballots (Some input)) port reply)
      errand_last Free Written is = absurd (none-some value is)
      errand_last Free (Bytes sectors) is = step_last (record n { position = having_read n.position port (blocks_in sectors) }) (read_at n.position.ballot port (blocks_in sectors)).step own is
      errand_last errand reply is = absurd (none-some value is)

      abbrev decided_if : Bool → Reply → Option (List ℕ)
      decided_if b reply = if b then None else decided_in (errand_at n.errands port) reply (Ballots (Some input)) n.position.ballot port

      abbrev worked_if : Bool → Reply → Worked
      worked_if b reply =
          if b
          then record { step = data_answered (stand_of n) h (Ballots (Some input)) reply; tables = h.tables }
          else errand_answered (errand_at n.errands port) (stand_of n) h (Some p) (Ballots (Some input)) port reply

      port_last : (reply : Reply) → decided_if (port == anchors_of n.position) reply ≡ Some value → IsLast (port_answered (stand_of n) h (Some p) (Ballots (Some input)) port reply)
      port_last reply =
          by_test (port == anchors_of n.position) (λ b. decided_if b reply ≡ Some value → IsLast (worked_if b reply))
          (λ _ is. absurd (none-some value is)) (λ _ is. errand_last (errand_at n.errands port) reply is)

-- a mount that decides a value by its ballot, at the stage at which it puts in, has an input there
input_there : (value : List ℕ) (x : MountIs) (port : ℕ) (reply : Reply) → decided_by x (Hears port reply) ≡ Some value → stage x.task.work ≡ 1 → (input : List ℕ) × (x.task.work ≡ Ballots (Some input))
input_there value x port reply decides at = by (port == anchors_of x.position) (errand_at x.errands port) reply x.task.work at decides
  where
    by : (b : Bool) (errand : Errand) (reply : Reply) (work : MountWork) → stage work ≡ 1 → (if b then None else decided_in errand reply work x.position.ballot port) ≡ Some value
        → (input : List ℕ) × (work ≡ Ballots (Some input))
    by b errand reply (Ballots (Some input)) at is = (input, refl)
    by b errand reply (Ballots None) at is = absurd (omega (arith, at))
    by true errand reply work at is = absurd (none-some value is)
    by false Free Written work at is = absurd (none-some value is)
    by false Free (Bytes sectors) work at is = absurd (none-some value is)
    by false errand reply work at is = absurd (none-some value is)

module _ (value : List ℕ) (x : MountIs) where
  answer_ends : (port : ℕ) (reply : Reply) (p : Pending) (input : List ℕ) → x.files.pending ≡ Some p → x.task.work ≡ Ballots (Some input) → is_txn_of x.files.mount p.number (txn_in value) ≡ true → decided_by x (Hears port reply) ≡ Some value
      → 2 ≤ stage (mount_answered x port reply).mount.task.work
  answer_ends port reply p input pends works own decides =
      let h = tables_held x.files in
      subst (λ o. IsLast x.task (port_answered (stand_of x) h o x.task.work port reply)) (sym pends)
      (subst (λ w. IsLast x.task (port_answered (stand_of x) h (Some p) w port reply)) (sym works)
      (port_last x.task value p h input x own port reply
      (subst (λ w. (if port == anchors_of x.position then None else decided_in (errand_at x.errands port) reply w x.position.ballot port) ≡ Some value) works decides)))

  pub own_ends : (input : Input) (p : Pending) → x.files.pending ≡ Some p → stage x.task.work ≡ 1 → is_txn_of x.files.mount p.number (txn_in value) ≡ true → decided_by x input ≡ Some value
      → (2 ≤ stage (mount_after x input).task.work) × ((mount_after x input).files.calls ≡ x.files.calls)
  own_ends (Begins call) p pends at own decides = absurd (none-some value decides)
  own_ends (Asks port) p pends at own decides = absurd (none-some value decides)
  own_ends (Hears port reply) p pends at own decides =
      let its = input_there value x port reply decides at in
      (answer_ends port reply p its.0 pends its.1 own decides, refl)
