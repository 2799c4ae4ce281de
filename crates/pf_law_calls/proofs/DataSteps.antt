-- A mount has the file data of its calls go as they are planned: each step leads to the next, and the last one ends the call.
use Rattle.std.proofs.Common.{◌≡◌, ◌⊎◌, inl, inr, ℕ, zero, suc, Bool, true, false, not, ◌==◌, if◌then◌else◌, List, [], ◌∷◌, ◌++◌, replicate, Option, Some, None, refl, sym, ap, subst, ◌∙◌}
use Rattle.std.specs.Prelude.{unwrap_or}
use Rattle.std.specs.Str.{bytes_eq}
use Rattle.pf_base.specs.declared.asks.Ask.{Ask}
use Rattle.pf_base.specs.declared.asks.Reply.{Reply}
use Rattle.pf_base.specs.declared.asks.Reply.TheVariants.{Written, Bytes}
use Rattle.pf_entry.specs.Ops.{Sector}
use Rattle.pf_volume.specs.Volumes.{Extent}
use Rattle.pf_tree_tables.specs.declared.changes.Txn.{Txn}
use Rattle.pf_tree_tables.specs.Tables.{Tables}
use Rattle.pf_tree.specs.Held.{Held, data_of}
use Rattle.pf_txn.specs.Reading.{txn_in}
use Rattle.pf_txn.specs.Spelling.{spell_txn}
use Rattle.pf_paxos.specs.declared.ballot.BallotStep.{BallotStep}
use Rattle.pf_paxos.specs.declared.ballot.BallotStep.TheVariants.{Go, Abort, NoValue, Decided}
use Rattle.pf_paxos.specs.Ballots.{read_at}
use Rattle.pf_file_calls.specs.Blocks.{bytes_of}
use Rattle.pf_file_calls.specs.Calls.{value_applied, is_txn_of, size_in}
use Rattle.pf_file_calls.specs.Moving.{data_moves, moves_on}
use Rattle.pf_file_calls.specs.declared.answers.CallAnswer.TheVariants.{Refused}
use Rattle.pf_file_calls.specs.declared.answers.CallFault.{CallFault}
use Rattle.pf_file_calls.specs.declared.answers.CallFault.TheVariants.{JournalFull}
use Rattle.pf_file_calls.specs.declared.calls.Pending.{Pending}
use Rattle.pf_file_calls.specs.declared.calls.Planned.{Planned}
use Rattle.pf_file_calls.specs.declared.calls.Planned.TheVariants.{Refuses, Proposes, Goes}
use Rattle.pf_file_calls.specs.declared.moving.DataMoving.{DataMoving}
use Rattle.pf_file_calls.specs.declared.moving.Moved.{Moved}
use Rattle.pf_file_calls.specs.declared.moving.Moved.TheVariants.{Asks as AsksFor, Ends}
use Rattle.pf_mount_errands.specs.Blocks.{blocks_in}
use Rattle.pf_mount.specs.Filing.{AnswersMoving}
use Rattle.pf_mount_errands.specs.declared.errands.Errand.{Errand}
use Rattle.pf_mount_errands.specs.declared.errands.Errand.TheVariants.{FillsSuper, Free, OfPause, OfSuper, OfSync}
use Rattle.pf_mount_errands.specs.declared.errands.Errands.{Errands}
use Rattle.pf_mount_errands.specs.declared.looks.Looks.{Looks}
use Rattle.pf_mount_errands.specs.Errands.{all_late, all_left, with_errand}
use Rattle.pf_mount_errands.specs.Looks.{are_looked, have_found, having_looked, new_looks}
use Rattle.pf_mount_errands.specs.Positions.{PositionIs, can_start, having_aborted, having_read, having_seen, having_written, journal_of, new_position, rest_of_pause, starting_ballot}
use Rattle.pf_mount.specs.declared.work.MountTask.{MountTask}
use Rattle.pf_mount.specs.declared.work.MountWork.{MountWork}
use Rattle.pf_mount.specs.declared.work.MountWork.TheVariants.{ReadsSuper, Syncs, Ballots, Pauses, Moves, WritesSuper}
use Rattle.pf_mount.specs.Mounts.{MountIs, Worked, ballot_read, balloted, ballots, data_answered, value_decided, done, errand_answered, fails, look_answered, data_moved, pause_answered, paused, pauses, plans, plans_as, proposes, stand_of, work_stays, super_answered, super_filled, super_read, synced, syncs, syncs_on, turns_to}
use Rattle.pf_mount.specs.Standing.{AnswersData}
use Rattle.pf_law_plans.specs.Exchanges.{Exchange}
use Rattle.std.specs.Prelude.{take}
use Rattle.pf_file_calls.specs.declared.answers.CallAnswer.{CallAnswer}
use Rattle.pf_file_calls.specs.declared.moving.DataMoving.TheVariants.{Fetches, Stores, Gathers}
use Rattle.pf_file_calls.specs.Moving.{fills, fills_block, gathers, stores, block_at}
use Rattle.pf_file_calls.specs.Filling.{end_of_fill, first_of_fill, is_new, read_end, bytes_wanted}
use Rattle.pf_base.specs.Asks.{Answers}
use Rattle.pf_base.specs.declared.calls.Call.TheVariants.{Mkdir, Create, Write, Read, Truncate, Rename, Unlink, Rmdir, Stat, List as Lists}
use Rattle.pf_law_contents.specs.Stored.{DataGoesTo}
use Rattle.pf_law_contents.proofs.SerialCalls.{step_is}
use Rattle.pf_law_contents.proofs.Steps.{goes_one_more, goes_to_end}
use Rattle.pf_entry.proofs.Cases.{by_test}
use Rattle.pf_law_calls.specs.Lives.{decided_in, tables_from, value_in}
use Rattle.pf_law_calls.specs.Exchanges.{exchange}
use Rattle.pf_law_calls.specs.Going.{EndsBy, GoesAt, HasAskedNone, HasChanged, HasGoneSo, HasGoneTo, IsRefusedAs, IsRefusedSo, MovesAt, plan_at}
use Rattle.pf_file_calls.specs.declared.filling.Fill.{Fill}
use Rattle.pf_file_calls.specs.declared.answers.CallAnswer.TheVariants.{Fine, Bytes as BytesRead}
use Rattle.pf_file_calls.specs.Blocks.{reads_block}
use Rattle.pf_file_calls.specs.Moving.{fills_file}
use Rattle.pf_tree.specs.Plans.{found}
use Rattle.pf_tree.specs.Trees.{block_count}
use Rattle.pf_tree.specs.Calls.{FileCall}
use Rattle.std.specs.Prelude.{nat_lt, ◌/◌, slice_get}
use Rattle.pf_mount.specs.declared.work.MountWork.TheVariants.{Rests, Fails}

-- What an ask is answered is of its kind, as its step takes it

abbrev pub IsFit : Moved → Type 0
IsFit (Ends answer) = Unit {0}
IsFit (AsksFor ask moving) = (reply : Reply) → AnswersMoving moving reply → Answers ask reply

module _ (v : Extent) (t : Tables) where
  stores_fit : (block : ℕ) (f : Fill) (index : ℕ) (bytes : List ℕ) → IsFit (stores v block f index bytes)
  stores_fit block f index bytes Written kind = tt
  stores_fit block f index bytes (Bytes sectors) kind = absurd kind

  fetches_fit : (block : ℕ) (f : Fill) (index : ℕ) → IsFit (AsksFor (reads_block v block) (Fetches f index))
  fetches_fit block f index Written kind = absurd kind
  fetches_fit block f index (Bytes sectors) kind = kind

  block_fit : (block : ℕ) (f : Fill) (index : ℕ) → IsFit (fills_block v block f index)
  block_fit block f index =
      by_test (is_new f index) (λ b. IsFit (if b then stores v block f index (replicate 4096 0) else AsksFor (reads_block v block) (Fetches f index)))
      (λ _. stores_fit block f index (replicate 4096 0)) (λ _. fetches_fit block f index)

  fills_fit : (f : Fill) (index : ℕ) → IsFit (fills v t f index)
  fills_fit f index =
      by_test (nat_lt index (end_of_fill f)) (λ b. IsFit (if b then fills_block v (block_at t f.inode index) f index else Ends Fine))
      (λ _. block_fit (block_at t f.inode index) f index) (λ _. tt)

  gathered_fit : (block inode offset to index : ℕ) (bytes : List ℕ) → IsFit (AsksFor (reads_block v block) (Gathers inode offset to index bytes))
  gathered_fit block inode offset to index bytes Written kind = absurd kind
  gathered_fit block inode offset to index bytes (Bytes sectors) kind = kind

  gathers_fit : (inode offset to index : ℕ) (bytes : List ℕ) → IsFit (gathers v t inode offset to index bytes)
  gathers_fit inode offset to index bytes =
      by_test (nat_lt index (block_count to))
      (λ b. IsFit (if b then AsksFor (reads_block v (block_at t inode index)) (Gathers inode offset to index bytes) else Ends (BytesRead (bytes_wanted offset to bytes))))
      (λ _. gathered_fit (block_at t inode index) inode offset to index bytes) (λ _. tt)

  pub moves_fit : (size : ℕ) (call : FileCall) → IsFit (data_moves v t size call)
  moves_fit size (Write p offset byte count) =
      let f : Fill = record { inode = found t p; size = size; start = offset; byte = byte; count = count } in
      by_test (count == 0) (λ b. IsFit (if b then Ends Fine else fills_file v t f)) (λ _. tt) (λ _. fills_fit f (first_of_fill f))
  moves_fit size (Truncate p to) =
      let f : Fill = record { inode = found t p; size = size; start = to; byte = 0; count = 0 } in
      by_test (nat_lt size to) (λ b. IsFit (if b then fills_file v t f else Ends Fine)) (λ _. fills_fit f (first_of_fill f)) (λ _. tt)
  moves_fit size (Read p offset count) =
      let to = read_end size offset count in
      by_test (nat_lt offset to) (λ b. IsFit (if b then gathers v t (found t p) offset to (offset / 4096) [] else Ends (BytesRead []))) (λ _. gathers_fit (found t p) offset to (offset / 4096) []) (λ _. tt)
  moves_fit size (Stat p) = tt
  moves_fit size (Lists p) = tt
  moves_fit size (Mkdir p) = tt
  moves_fit size (Create p) = tt
  moves_fit size (Rename from to) = tt
  moves_fit size (Unlink p) = tt
  moves_fit size (Rmdir p) = tt

  moves_on_fit : (moving : DataMoving) (reply : Reply) → IsFit (moves_on v t moving reply)
  moves_on_fit (Fetches f index) (Bytes sectors) = stores_fit (block_at t f.inode index) f index (bytes_of sectors)
  moves_on_fit (Fetches f index) Written = tt
  moves_on_fit (Stores f index) Written = fills_fit f (suc index)
  moves_on_fit (Stores f index) (Bytes sectors) = tt
  moves_on_fit (Gathers inode offset to index bytes) (Bytes sectors) = gathers_fit inode offset to (suc index) (bytes ++ bytes_of sectors)
  moves_on_fit (Gathers inode offset to index bytes) Written = tt

  pub goes_fit : (first : Moved) (its : List Exchange) (now : Moved) → IsFit first → DataGoesTo v t first its now → IsFit now
  goes_fit first [] now fit goes = subst IsFit goes fit
  goes_fit (Ends answer) (e ∷ its) now fit goes = absurd goes
  goes_fit (AsksFor ask moving) (e ∷ its) now fit goes = goes_fit (moves_on v t moving e.1) its now (moves_on_fit moving e.1) goes.2

-- no file data are underway
abbrev IsNoMoving : MountWork → Type 0
IsNoMoving (Moves moving) = ⊥
IsNoMoving work = Unit {0}

-- of mount m of a volume with this list
module _ (list : List (List ℕ)) (m : ℕ) (v : Extent) where
  -- after a step of a mount with this pending call and this task
  pub record Leads (its : List Exchange) (last : Option Ask) (task : MountTask) (first : ℕ) (q : Option Pending) (w : Worked) : Type 0 where
    pub far : GoesAt list m v its last (unwrap_or w.step.task task).ask w.step.stand.upto (record { first = first; tables = w.tables }) (if w.step.ends then None else q) (unwrap_or w.step.task task).work
    pub ends : EndsBy list m v its w.step.stand.upto (record { first = first; tables = w.tables }) q w.step.next

  -- a mount of this number that stands here
  abbrev at : MountIs → (upto : ℕ) → PositionIs → Errands → MountIs
  at x upto o e = record x { files = record x.files { mount = m; volume = v }; upto = upto; position = o; errands = e }

  module _ (its : List Exchange) (last : Option Ask) (task : MountTask) (x : MountIs) where
    abbrev To : Held → Option Pending → Worked → Type 0
    To h q w = Leads its last task h.first q w

    -- no file data have been asked for
    abbrev NoneYet : Option Pending → Type 0
    NoneYet q = HasAskedNone its last None q

    to_if : (h : Held) (q : Option Pending) (b : Bool) (x y : Worked) → (b ≡ true → To h q (record { step = x.step; tables = h.tables })) → (b ≡ false → To h q (record { step = y.step; tables = h.tables }))
        → To h q (record { step = if b then x.step else y.step; tables = h.tables })
    to_if h q true x y of_x of_y = of_x refl
    to_if h q false x y of_x of_y = of_y refl

    done_to : (u : ℕ) (o : PositionIs) (e : Errands) (h : Held) (p : Pending) (answer : CallAnswer) → last ≡ None → IsRefusedSo list m v its h p answer ⊎ HasGoneSo list m v its u h p answer
        → To h (Some p) (record { step = done (stand_of (at x u o e)) answer; tables = h.tables })
    done_to u o e h p answer free is = record { far = (free, refl, tt); ends = is }

    moved_to : (u : ℕ) (o : PositionIs) (e : Errands) (h : Held) (p : Pending) (step : Moved) → last ≡ None → HasGoneTo list m v its u h p step → To h (Some p) (record { step = data_moved (stand_of (at x u o e)) step; tables = h.tables })
    moved_to u o e h p (Ends answer) free gone =
        done_to u o e h p answer free (inr (record { size = gone.size; begun = gone.begun; goes = goes_to_end v h.tables (data_moves v h.tables gone.size p.call) its answer gone.goes }))
    moved_to u o e h p (AsksFor ask moving) free gone = record { far = (ask, (free, refl), gone); ends = tt }

    -- Ballots

    pauses_to : (u : ℕ) (o : PositionIs) (e : Errands) (h : Held) (q : Option Pending) (input : Option (List ℕ)) (left : ℕ) → NoneYet q → To h q (record { step = pauses (stand_of (at x u o e)) input left; tables = h.tables })
    pauses_to u o e h q input left none = record { far = none; ends = tt }

    ballots_to : (u : ℕ) (o : PositionIs) (e : Errands) (h : Held) (q : Option Pending) (input : Option (List ℕ)) → NoneYet q → To h q (record { step = ballots (stand_of (at x u o e)) input; tables = h.tables })
    ballots_to u o e h q input none =
        to_if h q (can_start o) (record { step = turns_to (stand_of (at x u (starting_ballot o input) e)) (Ballots input); tables = h.tables }) (record { step = pauses (stand_of (at x u o e)) input 0; tables = h.tables })
        (λ _. record { far = none; ends = tt }) (λ _. pauses_to u o e h q input 0 none)

    paused_to : (u : ℕ) (o : PositionIs) (e : Errands) (h : Held) (q : Option Pending) (input : Option (List ℕ)) (left : ℕ) → NoneYet q → To h q (record { step = paused (stand_of (at x u o e)) input left; tables = h.tables })
    paused_to u o e h q input zero none = ballots_to u o e h q input none
    paused_to u o e h q input (suc left) none = pauses_to u o e h q input left none

    -- Plans

    refused_to : (u : ℕ) (o : PositionIs) (e : Errands) (h : Held) (p : Pending) (fault : CallFault) → NoneYet (Some p) → IsRefusedAs (plan_at list m v h p) fault → To h (Some p) (record { step = done (stand_of (at x u o e)) (Refused fault); tables = h.tables })
    refused_to u o e h p fault none is = done_to u o e h p (Refused fault) none.0 (inl (fault, refl, is, none.2))

    proposes_to : (u : ℕ) (o : PositionIs) (e : Errands) (h : Held) (p : Pending) (txn : Txn) → NoneYet (Some p) → plan_at list m v h p ≡ Proposes txn → To h (Some p) (record { step = proposes (stand_of (at x u o e)) txn; tables = h.tables })
    proposes_to u o e h p txn none is =
        to_if h (Some p) (u == (journal_of o).positions) (record { step = done (stand_of (at x u o e)) (Refused JournalFull); tables = h.tables }) (record { step = ballots (stand_of (at x u o e)) (Some (spell_txn txn)); tables = h.tables })
        (λ _. refused_to u o e h p JournalFull none (subst (λ plan. IsRefusedAs plan JournalFull) (sym is) refl))
        (λ _. ballots_to u o e h (Some p) (Some (spell_txn txn)) none)

    plans_as_to : (u : ℕ) (o : PositionIs) (e : Errands) (h : Held) (p : Pending) (plan : Planned) → NoneYet (Some p) → plan_at list m v h p ≡ plan → To h (Some p) (record { step = plans_as (stand_of (at x u o e)) plan; tables = h.tables })
    plans_as_to u o e h p (Refuses fault) none is = refused_to u o e h p fault none (subst (λ plan. IsRefusedAs plan fault) (sym is) refl)
    plans_as_to u o e h p (Proposes txn) none is = proposes_to u o e h p txn none is
    plans_as_to u o e h p (Goes step) none is =
        let first = step_is m v (data_of h.first h.tables) h.tables p step is in
        let size = size_in h.tables p.call in
        moved_to u o e h p step none.0 (record {
          size = size;
          begun = inl (record { size_is = refl; plan = is ∙ ap Goes (sym first) });
          goes = subst (λ came. DataGoesTo v h.tables (data_moves v h.tables size p.call) came step) (sym none.2) first;
        })

    plans_to : (u : ℕ) (o : PositionIs) (e : Errands) (h : Held) (p : Pending) → NoneYet (Some p) → To h (Some p) (record { step = plans (stand_of (at x u o e)) h p; tables = h.tables })
    plans_to u o e h p none = plans_as_to u o e h p (plan_at list m v h p) none refl

    -- Syncs

    synced_to : (u : ℕ) (o : PositionIs) (e : Errands) (h : Held) (q : Option Pending) → NoneYet q → To h q (record { step = synced (stand_of (at x u o e)) h q; tables = h.tables })
    synced_to u o e h None none = record { far = none; ends = tt }
    synced_to u o e h (Some p) none = plans_to u o e h p none

    pub syncs_to : (u : ℕ) (o : PositionIs) (e : Errands) (h : Held) (q : Option Pending) → NoneYet q → To h q (record { step = syncs (stand_of (at x u o e)) h q; tables = h.tables })
    syncs_to u o e h q none =
        to_if h q (u == (journal_of o).positions) (record { step = synced (stand_of (at x u o e)) h q; tables = h.tables }) (record { step = turns_to (stand_of (at x u o (all_late e))) (Syncs new_looks); tables = h.tables })
        (λ _. synced_to u o e h q none) (λ _. record { far = none; ends = tt })

    syncs_on_to : (u : ℕ) (o : PositionIs) (e : Errands) (h : Held) (q : Option Pending) (looks : Looks) → NoneYet q → To h q (record { step = syncs_on (stand_of (at x u o e)) h q looks; tables = h.tables })
    syncs_on_to u o e h q looks none =
        to_if h q (not (are_looked (journal_of o).quorum looks)) (record { step = turns_to (stand_of (at x u o e)) (Syncs looks); tables = h.tables }) (record { step = if have_found looks then ballots (stand_of (at x u o e)) None else synced (stand_of (at x u o e)) h q; tables = h.tables })
        (λ _. record { far = none; ends = tt })
        (λ _. to_if h q (have_found looks) (record { step = ballots (stand_of (at x u o e)) None; tables = h.tables }) (record { step = synced (stand_of (at x u o e)) h q; tables = h.tables }) (λ _. ballots_to u o e h q None none) (λ _. synced_to u o e h q none))

    -- The superblock

    super_read_to : (u : ℕ) (o : PositionIs) (e : Errands) (h : Held) (q : Option Pending) (sector : List ℕ) → NoneYet q → To h q (record { step = super_read (stand_of (at x u o e)) h q sector; tables = h.tables })
    super_read_to u o e h q sector none =
        to_if h q _ (record { step = syncs (stand_of (at x u o e)) h q; tables = h.tables }) (record { step = if bytes_eq sector (replicate 512 0) then turns_to (stand_of (at x u o e)) WritesSuper else fails (stand_of (at x u o e)); tables = h.tables })
        (λ _. syncs_to u o e h q none)
        (λ _. to_if h q (bytes_eq sector (replicate 512 0)) (record { step = turns_to (stand_of (at x u o e)) WritesSuper; tables = h.tables }) (record { step = fails (stand_of (at x u o e)); tables = h.tables }) (λ _. record { far = none; ends = tt }) (λ _. record { far = none; ends = tt }))

    -- Decisions

    decided_to : (u : ℕ) (o : PositionIs) (e : Errands) (h : Held) (input : Option (List ℕ)) (q : Option Pending) (value : List ℕ) → NoneYet q → h.tables ≡ tables_from v (take u list) → slice_get list u ≡ Some value
        → Leads its last task h.first q (value_decided (stand_of (at x u o e)) h q input (txn_in value))
    decided_to u o e h None q value none stood is = syncs_to (suc u) (new_position o.layout m) (all_left e o.ballot.parts) (record h { tables = value_applied h.tables (txn_in value) }) q none
    decided_to u o e h (Some input) None value none stood is = syncs_to (suc u) (new_position o.layout m) (all_left e o.ballot.parts) (record h { tables = value_applied h.tables (txn_in value) }) None none
    decided_to u o e h (Some input) (Some p) value none stood is =
        let after : Held = record h { tables = value_applied h.tables (txn_in value) } in
        let left = all_left e o.ballot.parts in
        let size = size_in h.tables p.call in
        let step : Moved = data_moves v after.tables size p.call in
        to_if after (Some p) (is_txn_of m p.number (txn_in value)) (record { step = data_moved (stand_of (at x (suc u) (new_position o.layout m) left)) step; tables = after.tables }) (record { step = plans (stand_of (at x (suc u) (new_position o.layout m) left)) after p; tables = after.tables })
        (λ own.
        let its_change : HasChanged list m v (suc u) p size = record { position = u; last = refl; value = value; there = is; own = own; size_is = ap (λ t. size_in t p.call) stood } in
        moved_to (suc u) (new_position o.layout m) left after p step none.0 (record { size = size; begun = inr its_change; goes = subst (λ came. DataGoesTo v after.tables step came step) (sym none.2) refl }))
        (λ _. plans_to (suc u) (new_position o.layout m) left after p none)

    -- Answers at the anchors. Where nothing else follows, the mount's work stays

    module _ (h : Held) (q : Option Pending) (u : ℕ) (far : GoesAt list m v its last task.ask u h q task.work) where
      pub none_yet : (work : MountWork) → task.work ≡ work → IsNoMoving work → NoneYet q
      none_yet work is other = let none = of_work work (subst (GoesAt list m v its last task.ask u h q) is far) other in (none.0, refl, none.2)
        where
          of_work : (work : MountWork) → GoesAt list m v its last task.ask u h q work → IsNoMoving work → HasAskedNone its last task.ask q
          of_work (Moves moving) goes other = absurd other
          of_work Rests goes other = goes
          of_work Fails goes other = goes
          of_work ReadsSuper goes other = goes
          of_work WritesSuper goes other = goes
          of_work (Syncs looks) goes other = goes
          of_work (Ballots input) goes other = goes
          of_work (Pauses input left) goes other = goes

      stays_to : (o : PositionIs) (e : Errands) → To h q (record { step = work_stays (stand_of (at x u o e)); tables = h.tables })
      stays_to o e = record { far = far; ends = tt }

      module _ (stood : h.tables ≡ tables_from v (take u list)) where
        balloted_to : (o : PositionIs) (e : Errands) (input : Option (List ℕ)) (step : BallotStep) → NoneYet q → ((value : List ℕ) → value_in step ≡ Some value → slice_get list u ≡ Some value) → Leads its last task h.first q (balloted (stand_of (at x u o e)) h q input step)
        balloted_to o e input Go none is = stays_to o e
        balloted_to o e input (Abort mbal) none is = pauses_to u (having_aborted o) e h q input (rest_of_pause m (having_aborted o)) none
        balloted_to o e input NoValue none is = synced_to u o e h q none
        balloted_to o e input (Decided value) none is = decided_to u o e h input q value none stood (is value refl)

        read_to : (o : PositionIs) (e : Errands) (anchor : ℕ) (sectors : List Sector) (work : MountWork) → task.work ≡ work → ((value : List ℕ) → decided_in Free (Bytes sectors) work o.ballot anchor ≡ Some value → slice_get list u ≡ Some value)
            → Leads its last task h.first q (ballot_read (stand_of (at x u o e)) h q work anchor (blocks_in sectors))
        read_to o e anchor sectors (Ballots input) at is =
            balloted_to (having_read o anchor (blocks_in sectors)) e input (read_at o.ballot anchor (blocks_in sectors)).step (none_yet (Ballots input) at tt) is
        read_to o e anchor sectors work at is = stays_to (having_read o anchor (blocks_in sectors)) e

      look_to : (o : PositionIs) (e : Errands) (anchor : ℕ) (work : MountWork) (reply : Reply) → task.work ≡ work → To h q (record { step = look_answered (stand_of (at x u o e)) h q work anchor reply; tables = h.tables })
      look_to o e anchor (Syncs looks) (Bytes sectors) at = syncs_on_to u (having_seen o (blocks_in sectors)) e h q (having_looked looks anchor (blocks_in sectors)) (none_yet (Syncs looks) at tt)
      look_to o e anchor work reply at = stays_to o e

      pause_to : (o : PositionIs) (e : Errands) (work : MountWork) → task.work ≡ work → To h q (record { step = pause_answered (stand_of (at x u o e)) work; tables = h.tables })
      pause_to o e (Pauses input left) at = paused_to u o e h q input left (none_yet (Pauses input left) at tt)
      pause_to o e work at = stays_to o e

      super_to : (o : PositionIs) (e : Errands) (work : MountWork) (reply : Reply) → task.work ≡ work → To h q (record { step = super_answered (stand_of (at x u o e)) h q work reply; tables = h.tables })
      super_to o e ReadsSuper (Bytes sectors) at = super_read_to u o e h q (bytes_of sectors) (none_yet ReadsSuper at tt)
      super_to o e work reply at = stays_to o e

      fills_to : (o : PositionIs) (e : Errands) (work : MountWork) → task.work ≡ work → To h q (record { step = super_filled (stand_of (at x u o e)) h q work; tables = h.tables })
      fills_to o e WritesSuper at = syncs_to u o e h q (none_yet WritesSuper at tt)
      fills_to o e work at = stays_to o e

      module _ (stood : h.tables ≡ tables_from v (take u list)) where
        pub errand_to : (o : PositionIs) (e : Errands) (anchor : ℕ) (work : MountWork) (errand : Errand) (reply : Reply) → task.work ≡ work → ((value : List ℕ) → decided_in errand reply work o.ballot anchor ≡ Some value → slice_get list u ≡ Some value)
            → Leads its last task h.first q (errand_answered errand (stand_of (at x u o e)) h q work anchor reply)
        errand_to o e anchor work Free Written at is = stays_to (having_written o anchor) e
        errand_to o e anchor work Free (Bytes sectors) at is = read_to stood o e anchor sectors work at is
        errand_to o e anchor work OfSync reply at is = look_to o (with_errand e anchor Free) anchor work reply at
        errand_to o e anchor work OfPause reply at is = pause_to o (with_errand e anchor Free) work at
        errand_to o e anchor work OfSuper reply at is = super_to o (with_errand e anchor Free) work reply at
        errand_to o e anchor work FillsSuper reply at is = fills_to o (with_errand e anchor Free) work at
        errand_to o e anchor work errand reply at is = stays_to o (with_errand e anchor Free)

  -- Answers at the port for file data

  module _ (was : List Exchange) (last : Option Ask) (task : MountTask) (x : MountIs) where
    moving_to : (u : ℕ) (o : PositionIs) (e : Errands) (h : Held) (q : Option Pending) (moving : DataMoving) (reply : Reply) → AnswersMoving moving reply → MovesAt list m v was last None u h q moving
        → Leads (was ++ exchange last reply) None task h.first q (record { step = data_moved (stand_of (at x u o e)) (moves_on v h.tables moving reply); tables = h.tables })
    moving_to u o e h None moving reply kind far = absurd far
    moving_to u o e h (Some p) moving reply kind far =
        let ask = far.0 in
        let gone = far.2 in
        let first : Moved = data_moves v h.tables gone.size p.call in
        subst (λ its. Leads (was ++ exchange its reply) None task h.first (Some p) (record { step = data_moved (stand_of (at x u o e)) (moves_on v h.tables moving reply); tables = h.tables })) (sym far.1)
        (moved_to (was ++ (ask, reply) ∷ []) None task x u o e h p (moves_on v h.tables moving reply) refl (record {
          size = gone.size;
          begun = gone.begun;
          goes = goes_one_more v h.tables first was ask moving reply gone.goes (goes_fit v h.tables first was (AsksFor ask moving) (moves_fit v h.tables gone.size p.call) gone.goes reply kind);
        }))

    pub data_to : (u : ℕ) (o : PositionIs) (e : Errands) (h : Held) (q : Option Pending) (work : MountWork) (next : Option Ask) (reply : Reply) → AnswersData work next reply → GoesAt list m v was last next u h q work
        → Leads (was ++ exchange last reply) None task h.first q (record { step = data_answered (stand_of (at x u o e)) h work reply; tables = h.tables })
    data_to u o e h q (Moves moving) None reply kind far = moving_to u o e h q moving reply kind far
    data_to u o e h q (Moves moving) (Some ask) reply kind far = absurd kind
    data_to u o e h q work next reply kind far = absurd kind
