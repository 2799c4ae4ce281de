-- A mount fails only as it reads another volume's superblock.
use Rattle.std.proofs.Common.{◌≡◌, ◌⊎◌, ℕ, zero, suc, inl, inr, Bool, true, false, cond, not, ◌==◌, List, replicate, Option, Some, None, sym, ◌∙◌}
use Rattle.std.specs.Prelude.{unwrap_or}
use Rattle.std.specs.Str.{bytes_eq}
use Rattle.std.proofs.lemmas.Bool.{false≢true}
use Rattle.std.proofs.lemmas.Slice.Eq.{bytes_eq-Decides}
use Rattle.pf_base.specs.declared.asks.Reply.{Reply}
use Rattle.pf_base.specs.declared.asks.Reply.TheVariants.{Written, Bytes}
use Rattle.pf_entry.proofs.Cases.{by_test}
use Rattle.pf_volume.specs.Volumes.{Extent}
use Rattle.pf_layout.specs.Supers.{super_block}
use Rattle.pf_tree_tables.specs.declared.changes.Txn.{Txn}
use Rattle.pf_tree.specs.Held.{Held, data_of}
use Rattle.pf_txn.specs.Spelling.{spell_txn}
use Rattle.pf_txn.specs.Reading.{txn_in}
use Rattle.pf_paxos.specs.declared.block.Block.{Block}
use Rattle.pf_paxos.specs.declared.ballot.BallotStep.{BallotStep}
use Rattle.pf_paxos.specs.declared.ballot.BallotStep.TheVariants.{Go, Abort, NoValue, Decided}
use Rattle.pf_paxos.specs.Ballots.{read_at}
use Rattle.pf_file_calls.specs.declared.calls.Pending.{Pending}
use Rattle.pf_file_calls.specs.declared.calls.Planned.{Planned}
use Rattle.pf_file_calls.specs.declared.calls.Planned.TheVariants.{Refuses, Proposes, Goes}
use Rattle.pf_file_calls.specs.declared.moving.Moved.{Moved}
use Rattle.pf_file_calls.specs.declared.moving.Moved.TheVariants.{Asks as AsksData, Ends}
use Rattle.pf_file_calls.specs.Blocks.{bytes_of}
use Rattle.pf_file_calls.specs.Calls.{value_applied, is_txn_of, planned, size_in}
use Rattle.pf_file_calls.specs.Moving.{data_moves, moves_on}
use Rattle.pf_mount_errands.specs.Blocks.{blocks_in}
use Rattle.pf_mount_errands.specs.declared.errands.Errand.{Errand}
use Rattle.pf_mount_errands.specs.declared.errands.Errand.TheVariants.{FillsSuper, Free, OfPause, OfSuper, OfSync}
use Rattle.pf_mount_errands.specs.declared.looks.Looks.{Looks}
use Rattle.pf_mount_errands.specs.Errands.{errand_at}
use Rattle.pf_mount_errands.specs.Looks.{are_looked, have_found, having_looked}
use Rattle.pf_mount_errands.specs.Positions.{anchors_of, can_start, having_read, having_seen, journal_of}
use Rattle.pf_mount.specs.declared.work.MountTask.{MountTask}
use Rattle.pf_mount.specs.declared.work.MountWork.{MountWork}
use Rattle.pf_mount.specs.declared.work.MountWork.TheVariants.{Ballots, Fails, Moves, Pauses, ReadsSuper, Syncs, WritesSuper}
use Rattle.pf_mount.specs.Mounts.{MountIs, position_advanced, asked_anchor, asked_data, ballot_read, balloted, ballots, data_answered, errand_answered, fails, errand_freed, having_started, tables_held, look_answered, data_moved, pause_answered, paused, plans, plans_as, port_answered, proceeds, proceeds_with, proposes, stand_of, work_stays, super_answered, super_filled, super_read, synced, syncs, syncs_on, turns_to}
use Rattle.pf_law_calls.specs.Lives.{Asks, Begins, Hears, Input, mount_after}

-- where a mount stands, and a step from there, whose types have no names here
abbrev DomainOf : {A B : Type 0} → (A → B) → Type 0
DomainOf {A} {B} f = A

abbrev CodomainOf : {A B : Type 0} → (A → B) → Type 0
CodomainOf {A} {B} f = B

abbrev Stand : Type 0
Stand = DomainOf work_stays

abbrev Step : Type 0
Step = CodomainOf work_stays

abbrev pub Works : MountWork → Type 0
Works Fails = ⊥
Works work = Unit {0}

-- the sector is the superblock of the volume, or zeros
abbrev pub IsOwnSuper : Extent → List ℕ → Type 0
IsOwnSuper v sector = (sector ≡ super_block v.chunks v.sectors) ⊎ (sector ≡ replicate 512 0)

-- where the mount waits for its superblock, what is read is its own
abbrev pub ReadsOwn : Extent → Errand → MountWork → Reply → Type 0
ReadsOwn v OfSuper ReadsSuper (Bytes sectors) = IsOwnSuper v (bytes_of sectors)
ReadsOwn v errand work reply = Unit {0}

-- Steps. What a mount is at work on stays, or it turns to something

module _ (task : MountTask) where
  abbrev WorksAfter : Step → Type 0
  WorksAfter step = Works (unwrap_or step.task task).work

  works_if : (b : Bool) (x y : Step) → WorksAfter x → WorksAfter y → WorksAfter (cond b x y)
  works_if true x y of_x of_y = of_x
  works_if false x y of_x of_y = of_y

  module _ (s : Stand) where
    ballots_work : (input : Option (List ℕ)) → WorksAfter (ballots s input)
    ballots_work input = works_if (can_start s.position) _ _ tt tt

    paused_work : (input : Option (List ℕ)) (left : ℕ) → WorksAfter (paused s input left)
    paused_work input zero = ballots_work input
    paused_work input (suc left) = tt

    moved_work : (x : Moved) → WorksAfter (data_moved s x)
    moved_work (AsksData ask moving) = tt
    moved_work (Ends answer) = tt

    proposes_work : (txn : Txn) → WorksAfter (proposes s txn)
    proposes_work txn = works_if (s.upto == (journal_of s.position).positions) _ _ tt (ballots_work (Some (spell_txn txn)))

    plans_as_work : (x : Planned) → WorksAfter (plans_as s x)
    plans_as_work (Refuses fault) = tt
    plans_as_work (Proposes txn) = proposes_work txn
    plans_as_work (Goes step) = moved_work step

    plans_work : (h : Held) (p : Pending) → WorksAfter (plans s h p)
    plans_work h p = plans_as_work (planned s.mount s.volume (data_of h.first h.tables) h.tables p)

    synced_work : (h : Held) (p : Option Pending) → WorksAfter (synced s h p)
    synced_work h None = tt
    synced_work h (Some p) = plans_work h p

    syncs_work : (h : Held) (p : Option Pending) → WorksAfter (syncs s h p)
    syncs_work h p = works_if (s.upto == (journal_of s.position).positions) _ _ (synced_work h p) tt

    syncs_on_work : (h : Held) (p : Option Pending) (looks : Looks) → WorksAfter (syncs_on s h p looks)
    syncs_on_work h p looks = works_if (not (are_looked (journal_of s.position).quorum looks)) _ _ tt (works_if (have_found looks) _ _ (ballots_work None) (synced_work h p))

    super_read_work : (h : Held) (p : Option Pending) (sector : List ℕ) → IsOwnSuper s.volume sector → WorksAfter (super_read s h p sector)
    super_read_work h p sector own =
        let its = super_block s.volume.chunks s.volume.sectors in
        by_test (bytes_eq sector its) (λ b. WorksAfter (cond b (syncs s h p) (cond (bytes_eq sector (replicate 512 0)) (turns_to s WritesSuper) (fails s)))) (λ _. syncs_work h p)
        (λ no. by_test (bytes_eq sector (replicate 512 0)) (λ b. WorksAfter (cond b (turns_to s WritesSuper) (fails s))) (λ _. tt)
        (λ none. elim own [
          | inl same ↦ false≢true (sym no ∙ (bytes_eq-Decides sector its).1 same)
          | inr zeros ↦ false≢true (sym none ∙ (bytes_eq-Decides sector (replicate 512 0)).1 zeros)
        ]))

    proceeds_with_work : (before after : Held) (txn : Option Txn) (p : Pending) → WorksAfter (proceeds_with s before after txn p)
    proceeds_with_work before after txn p = works_if (is_txn_of s.mount p.number txn) _ _ (moved_work (data_moves s.volume after.tables (size_in before.tables p.call) p.call)) (plans_work after p)

    proceeds_work : (before after : Held) (txn : Option Txn) (input : Option (List ℕ)) (p : Option Pending) → WorksAfter (proceeds s before after txn input p)
    proceeds_work before after txn (Some input) (Some p) = proceeds_with_work before after txn p
    proceeds_work before after txn (Some input) None = syncs_work after None
    proceeds_work before after txn None p = syncs_work after p

  -- Answers

  module _ (s : Stand) (h : Held) (p : Option Pending) (works : Works task.work) where
    balloted_work : (z : Stand) (input : Option (List ℕ)) (step : BallotStep) → WorksAfter (balloted z h p input step).step
    balloted_work z input Go = works
    balloted_work z input (Abort mbal) = tt
    balloted_work z input NoValue = synced_work z h p
    balloted_work z input (Decided value) = proceeds_work (position_advanced z) h (record h { tables = value_applied h.tables (txn_in value) }) (txn_in value) input p

    ballot_read_work : (work : MountWork) (a : ℕ) (blocks : List Block) → WorksAfter (ballot_read s h p work a blocks).step
    ballot_read_work (Ballots input) a blocks = balloted_work (record s { position = having_read s.position a blocks }) input (read_at s.position.ballot a blocks).step
    ballot_read_work work a blocks = works

    look_work : (work : MountWork) (a : ℕ) (reply : Reply) → WorksAfter (look_answered (errand_freed s a) h p work a reply)
    look_work (Syncs looks) a (Bytes sectors) = syncs_on_work (record (errand_freed s a) { position = having_seen s.position (blocks_in sectors) }) h p (having_looked looks a (blocks_in sectors))
    look_work work a reply = works

    pause_work : (work : MountWork) (a : ℕ) → WorksAfter (pause_answered (errand_freed s a) work)
    pause_work (Pauses input left) a = paused_work (errand_freed s a) input left
    pause_work work a = works

    super_work : (work : MountWork) (a : ℕ) (reply : Reply) → ReadsOwn s.volume OfSuper work reply → WorksAfter (super_answered (errand_freed s a) h p work reply)
    super_work ReadsSuper a (Bytes sectors) own = super_read_work (errand_freed s a) h p (bytes_of sectors) own
    super_work work a reply own = works

    fills_work : (work : MountWork) (a : ℕ) → WorksAfter (super_filled (errand_freed s a) h p work)
    fills_work WritesSuper a = syncs_work (errand_freed s a) h p
    fills_work work a = works

    errand_work : (errand : Errand) (work : MountWork) (a : ℕ) (reply : Reply) → ReadsOwn s.volume errand work reply → WorksAfter (errand_answered errand s h p work a reply).step
    errand_work Free work a Written own = works
    errand_work Free work a (Bytes sectors) own = ballot_read_work work a (blocks_in sectors)
    errand_work OfSync work a reply own = look_work work a reply
    errand_work OfPause work a reply own = pause_work work a
    errand_work OfSuper work a reply own = super_work work a reply own
    errand_work FillsSuper work a reply own = fills_work work a
    errand_work errand work a reply own = works

    data_work : (work : MountWork) (reply : Reply) → WorksAfter (data_answered s h work reply)
    data_work (Moves moving) reply = moved_work s (moves_on s.volume h.tables moving reply)
    data_work work reply = works

    port_work : (work : MountWork) (port : ℕ) (reply : Reply) → ((port == anchors_of s.position) ≡ false → ReadsOwn s.volume (errand_at s.errands port) work reply) → WorksAfter (port_answered s h p work port reply).step
    port_work work port reply own =
        by_test (port == anchors_of s.position) (λ b. WorksAfter (cond b (record { step = data_answered s h work reply; tables = h.tables }) (errand_answered (errand_at s.errands port) s h p work port reply)).step)
        (λ _. data_work work reply)
        (λ other. errand_work (errand_at s.errands port) work port reply (own other))

-- An input

abbrev pub HearsOwn : MountIs → Input → Type 0
HearsOwn m (Hears port reply) = (port == anchors_of m.position) ≡ false → ReadsOwn m.files.volume (errand_at m.errands port) m.task.work reply
HearsOwn m input = Unit {0}

pub input_works : (m : MountIs) (input : Input) → Works m.task.work → HearsOwn m input → Works (mount_after m input).task.work
input_works m (Begins call) works own = let n = having_started m call in syncs_work n.task (stand_of n) (tables_held n.files) n.files.pending
input_works m (Hears port reply) works own = port_work m.task (stand_of m) (tables_held m.files) m.files.pending works m.task.work port reply own
input_works m (Asks port) works own = by (port == anchors_of m.position)
  where
    by : (b : Bool) → (let n : MountIs = cond b (asked_data m) (asked_anchor m port) in Works n.task.work)
    by true = works
    by false = works
