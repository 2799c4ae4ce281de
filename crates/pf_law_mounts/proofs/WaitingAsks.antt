-- An ask that waits in a mount is one for a block of file data, begins in its chunk, and each answer to it is one that the mount takes. What holds of each ask for a block holds of it.
use Rattle.std.proofs.Common.{◌≡◌, ℕ, zero, suc, ◌*◌, ◌/◌, ◌%◌, ◌<◌, ◌≤◌, Bool, true, false, cond, not, ◌==◌, nat_lt, List, [], ◌∷◌, ◌++◌, replicate, Option, Some, None, arith, refl, subst}
use Rattle.std.specs.Prelude.{unwrap_or}
use Rattle.pf_base.specs.Asks.{Answers as AnswersAsk, span_of}
use Rattle.pf_base.specs.declared.asks.Ask.{Ask}
use Rattle.pf_base.specs.declared.asks.Reply.{Reply}
use Rattle.pf_base.specs.declared.asks.Reply.TheVariants.{Written, Bytes}
use Rattle.pf_base.specs.declared.calls.Call.TheVariants.{Write, Read, Truncate}
use Rattle.pf_volume.specs.Volumes.{Extent}
use Rattle.pf_tree_tables.specs.declared.changes.Change.{Change}
use Rattle.pf_tree_tables.specs.declared.changes.Txn.{Txn}
use Rattle.pf_tree_tables.specs.Tables.{Tables}
use Rattle.pf_tree.specs.Held.{Held, data_of}
use Rattle.pf_tree.specs.Calls.{FileCall}
use Rattle.pf_tree.specs.Trees.{block_count, refusal}
use Rattle.pf_tree.specs.Plans.{changes, found, tables_sight}
use Rattle.pf_txn.specs.Spelling.{spell_txn}
use Rattle.pf_txn.specs.Reading.{txn_in}
use Rattle.pf_paxos.specs.declared.block.Block.{Block}
use Rattle.pf_paxos.specs.declared.ballot.BallotStep.{BallotStep}
use Rattle.pf_paxos.specs.declared.ballot.BallotStep.TheVariants.{Go, Abort, NoValue, Decided}
use Rattle.pf_paxos.specs.Ballots.{read_at}
use Rattle.pf_file_calls.specs.declared.answers.CallAnswer.TheVariants.{Bytes as BytesRead, Fine, Refused}
use Rattle.pf_file_calls.specs.declared.answers.CallFault.TheVariants.{JournalFull}
use Rattle.pf_file_calls.specs.declared.calls.Pending.{Pending}
use Rattle.pf_file_calls.specs.declared.calls.Planned.{Planned}
use Rattle.pf_file_calls.specs.declared.calls.Planned.TheVariants.{Refuses, Proposes, Goes}
use Rattle.pf_file_calls.specs.declared.moving.Moved.{Moved}
use Rattle.pf_file_calls.specs.declared.moving.Moved.TheVariants.{Asks as AsksData, Ends}
use Rattle.pf_file_calls.specs.Calls.{value_applied, is_txn_of, planned, planned_by, planned_with, size_in}
use Rattle.pf_file_calls.specs.declared.filling.Fill.{Fill}
use Rattle.pf_file_calls.specs.declared.moving.DataMoving.{DataMoving}
use Rattle.pf_file_calls.specs.declared.moving.DataMoving.TheVariants.{Fetches, Stores, Gathers}
use Rattle.pf_file_calls.specs.Blocks.{bytes_of, reads_block, writes_block}
use Rattle.pf_file_calls.specs.Filling.{end_of_fill, filled_block, first_of_fill, is_new, read_end, bytes_wanted}
use Rattle.pf_file_calls.specs.Moving.{block_at, fills, fills_file, gathers, data_moves, moves_on, stores}
use Rattle.pf_file_calls.proofs.Cut.{length_cut}
use Rattle.pf_mount_errands.specs.Blocks.{blocks_in}
use Rattle.pf_mount.specs.Filing.{AnswersMoving}
use Rattle.pf_entry.proofs.Cases.{by_test}
use Rattle.std.proofs.lemmas.Bool.{eqb-true}
use Rattle.pf_mount_errands.specs.declared.errands.Errand.{Errand}
use Rattle.pf_mount_errands.specs.declared.errands.Errand.TheVariants.{Free, OfSync, OfPause, OfSuper, FillsSuper, LateWrite, LateRead}
use Rattle.pf_mount_errands.specs.declared.looks.Looks.{Looks}
use Rattle.pf_mount_errands.specs.Errands.{all_late, all_left, errand_at, with_errand}
use Rattle.pf_mount_errands.specs.Looks.{are_looked, have_found, having_looked, new_looks}
use Rattle.pf_mount_errands.specs.Positions.{anchors_of, can_start, having_read, having_seen, journal_of, new_position, starting_ballot}
use Rattle.pf_mount.specs.declared.work.MountTask.{MountTask}
use Rattle.pf_mount.specs.declared.work.MountWork.{MountWork}
use Rattle.pf_mount.specs.declared.work.MountWork.TheVariants.{ReadsSuper, WritesSuper, Syncs, Ballots, Pauses, Moves}
use Rattle.pf_mount.specs.Mounts.{MountIs, Worked, asked_anchor, asked_data, ballot_answered, ballot_read, balloted, ballots, data_answered, done, errand_answered, fails, errand_freed, having_started, tables_held, look_answered, data_moved, pause_answered, paused, pauses, plans, plans_as, port_answered, proceeds, proceeds_with, proposes, stand_of, super_answered, super_filled, synced, syncs, syncs_on, turns_to}
use Rattle.pf_mount.specs.Standing.{AnswersData}
use Rattle.pf_law_calls.specs.Lives.{Asks, Hears, Input, mount_after}
use Rattle.pf_law_calls.specs.Lives as lives
use Rattle.pf_law_events.specs.Events.{client_of}

-- The ask for file data that waits in a mount is one like this, where each ask for a block is: a read, a write of a block of zeros that is filled, and one of
-- the bytes that a read gave, where these are whole
pub record AreSo (Is : Extent → DataMoving → Ask → Type 0) (IsWhole : List ℕ → Type 0) : Type 0 where
  pub fetches : (v : Extent) (block : ℕ) (f : Fill) (index : ℕ) → Is v (Fetches f index) (reads_block v block)
  pub gathers : (v : Extent) (block inode offset to index : ℕ) (bytes : List ℕ) → Is v (Gathers inode offset to index bytes) (reads_block v block)
  pub stores : (v : Extent) (block : ℕ) (f : Fill) (index : ℕ) (bytes : List ℕ) → IsWhole bytes → Is v (Stores f index) (writes_block v block (filled_block f index bytes))
  pub zeros : IsWhole (replicate 4096 0)

module _ (Is : Extent → DataMoving → Ask → Type 0) (IsWhole : List ℕ → Type 0) where
  abbrev pub Waits : Extent → MountWork → Option Ask → Type 0
  Waits v work None = Unit {0}
  Waits v (Moves moving) (Some ask) = Is v moving ask
  Waits v work (Some ask) = ⊥

  abbrev AsksSo : Extent → Moved → Type 0
  AsksSo v (AsksData ask moving) = Is v moving ask
  AsksSo v (Ends answer) = Unit {0}

  abbrev pub GivesWhole : DataMoving → Reply → Type 0
  GivesWhole (Fetches f index) (Bytes sectors) = IsWhole (bytes_of sectors)
  GivesWhole moving reply = Unit {0}

  -- what a read for file data gave is whole
  abbrev pub HearsWhole : MountIs → Input → Type 0
  HearsWhole m (Hears port reply) = (moving : DataMoving) → m.task.work ≡ Moves moving → port ≡ anchors_of m.position → GivesWhole moving reply
  HearsWhole m input = Unit {0}

  module _ (are : AreSo Is IsWhole) where
    -- File data

    so_if : (v : Extent) (b : Bool) (x y : Moved) → AsksSo v x → AsksSo v y → AsksSo v (cond b x y)
    so_if v true x y of_x of_y = of_x
    so_if v false x y of_x of_y = of_y

    fills_so : (v : Extent) (tables : Tables) (f : Fill) (index : ℕ) → AsksSo v (fills v tables f index)
    fills_so v tables f index =
        let block = block_at tables f.inode index in
        let new : Moved = stores v block f index (replicate 4096 0) in
        let old : Moved = AsksData (reads_block v block) (Fetches f index) in
        so_if v (nat_lt index (end_of_fill f)) (cond (is_new f index) new old) (Ends Fine) (so_if v (is_new f index) new old (are.stores v block f index (replicate 4096 0) are.zeros) (are.fetches v block f index)) tt

    gathers_so : (v : Extent) (tables : Tables) (inode offset to index : ℕ) (bytes : List ℕ) → AsksSo v (gathers v tables inode offset to index bytes)
    gathers_so v tables inode offset to index bytes =
        let block = block_at tables inode index in
        so_if v (nat_lt index (block_count to)) (AsksData (reads_block v block) (Gathers inode offset to index bytes)) (Ends (BytesRead (bytes_wanted offset to bytes))) (are.gathers v block inode offset to index bytes) tt

    moves_so : (v : Extent) (tables : Tables) (size : ℕ) (call : FileCall) → AsksSo v (data_moves v tables size call)
    moves_so v tables size (Write p offset byte count) =
        let f : Fill = record { inode = found tables p; size = size; start = offset; byte = byte; count = count } in
        so_if v (count == 0) (Ends Fine) (fills_file v tables f) tt (fills_so v tables f (first_of_fill f))
    moves_so v tables size (Truncate p to) =
        let f : Fill = record { inode = found tables p; size = size; start = to; byte = 0; count = 0 } in
        so_if v (nat_lt size to) (fills_file v tables f) (Ends Fine) (fills_so v tables f (first_of_fill f)) tt
    moves_so v tables size (Read p offset count) =
        let i = found tables p in
        let to = read_end size offset count in
        so_if v (nat_lt offset to) (gathers v tables i offset to (offset / 4096) []) (Ends (BytesRead [])) (gathers_so v tables i offset to (offset / 4096) []) tt
    moves_so v tables size call = tt

    moves_on_so : (v : Extent) (tables : Tables) (moving : DataMoving) (reply : Reply) → GivesWhole moving reply → AsksSo v (moves_on v tables moving reply)
    moves_on_so v tables (Fetches f index) (Bytes sectors) whole = are.stores v (block_at tables f.inode index) f index (bytes_of sectors) whole
    moves_on_so v tables (Stores f index) Written whole = fills_so v tables f (suc index)
    moves_on_so v tables (Gathers inode offset to index bytes) (Bytes sectors) whole = gathers_so v tables inode offset to (suc index) (bytes ++ bytes_of sectors)
    moves_on_so v tables moving reply whole = tt

    -- What is planned

    with_awaits : (mount : ℕ) (v : Extent) (tables : Tables) (p : Pending) (cs : List Change) (step : Moved) → planned_with mount v tables p cs ≡ Goes step → AsksSo v step
    with_awaits mount v tables p [] step e =
        let same : data_moves v tables (size_in tables p.call) p.call ≡ step = (cc) in
        subst (AsksSo v) same (moves_so v tables (size_in tables p.call) p.call)
    with_awaits mount v tables p (c ∷ cs) step e = absurd (grind (arith, e))

    -- Steps. What a mount is at work on stays, or it turns to something

    module _ (task : MountTask) where
      abbrev AwaitsAfter : Extent → Worked → Type 0
      AwaitsAfter v w = Waits v (unwrap_or w.step.task task).work (unwrap_or w.step.task task).ask

      module _ (t : Tables) where
        await_if : (v : Extent) (b : Bool) (x y : Worked) → AwaitsAfter v x → AwaitsAfter v y → AwaitsAfter v (record { step = cond b x.step y.step; tables = t })
        await_if v true x y of_x of_y = of_x
        await_if v false x y of_x of_y = of_y

        module _ (n : MountIs) where
          ballots_await : (input : Option (List ℕ)) → AwaitsAfter n.files.volume (record { step = ballots (stand_of n) input; tables = t })
          ballots_await input =
              await_if n.files.volume (can_start n.position)
              (record { step = turns_to (stand_of (record n { position = starting_ballot n.position input })) (Ballots input); tables = t })
              (record { step = pauses (stand_of n) input 0; tables = t }) tt tt

          paused_awaits : (input : Option (List ℕ)) (left : ℕ) → AwaitsAfter n.files.volume (record { step = paused (stand_of n) input left; tables = t })
          paused_awaits input zero = ballots_await input
          paused_awaits input (suc left) = tt

          moved_awaits : (x : Moved) → AsksSo n.files.volume x → AwaitsAfter n.files.volume (record { step = data_moved (stand_of n) x; tables = t })
          moved_awaits (AsksData ask moving) is = is
          moved_awaits (Ends answer) is = tt

          proposes_awaits : (txn : Txn) → AwaitsAfter n.files.volume (record { step = proposes (stand_of n) txn; tables = t })
          proposes_awaits txn =
              await_if n.files.volume (n.upto == (journal_of n.position).positions)
              (record { step = done (stand_of n) (Refused JournalFull); tables = t })
              (record { step = ballots (stand_of n) (Some (spell_txn txn)); tables = t }) tt (ballots_await (Some (spell_txn txn)))

          plans_as_awaits : (x : Planned) → ((step : Moved) → x ≡ Goes step → AsksSo n.files.volume step) → AwaitsAfter n.files.volume (record { step = plans_as (stand_of n) x; tables = t })
          plans_as_awaits (Refuses fault) goes = tt
          plans_as_awaits (Proposes txn) goes = proposes_awaits txn
          plans_as_awaits (Goes step) goes = moved_awaits step (goes step refl)

          plans_await : (h : Held) (p : Pending) → AwaitsAfter n.files.volume (record { step = plans (stand_of n) h p; tables = t })
          plans_await h p = plans_as_awaits (planned n.files.mount n.files.volume (data_of h.first h.tables) h.tables p) (by (refusal (tables_sight (data_of h.first h.tables) h.tables) p.call))
            where
              by : (refused : Option ℕ) (step : Moved) → planned_by n.files.mount n.files.volume (data_of h.first h.tables) h.tables p refused ≡ Goes step → AsksSo n.files.volume step
              by (Some refused) step e = absurd (grind (arith, e))
              by None step e = with_awaits n.files.mount n.files.volume h.tables p (changes (data_of h.first h.tables) h.tables p.call) step e

          synced_awaits : (h : Held) (p : Option Pending) → AwaitsAfter n.files.volume (record { step = synced (stand_of n) h p; tables = t })
          synced_awaits h None = tt
          synced_awaits h (Some p) = plans_await h p

          syncs_await : (h : Held) (p : Option Pending) → AwaitsAfter n.files.volume (record { step = syncs (stand_of n) h p; tables = t })
          syncs_await h p =
              await_if n.files.volume (n.upto == (journal_of n.position).positions)
              (record { step = synced (stand_of n) h p; tables = t })
              (record { step = turns_to (stand_of (record n { errands = all_late n.errands })) (Syncs new_looks); tables = t }) (synced_awaits h p) tt

          syncs_on_awaits : (h : Held) (p : Option Pending) (looks : Looks) → AwaitsAfter n.files.volume (record { step = syncs_on (stand_of n) h p looks; tables = t })
          syncs_on_awaits h p looks =
              await_if n.files.volume (not (are_looked (journal_of n.position).quorum looks))
              (record { step = turns_to (stand_of n) (Syncs looks); tables = t })
              (record { step = cond (have_found looks) (ballots (stand_of n) None) (synced (stand_of n) h p); tables = t }) tt
              (await_if n.files.volume (have_found looks)
              (record { step = ballots (stand_of n) None; tables = t })
              (record { step = synced (stand_of n) h p; tables = t }) (ballots_await None) (synced_awaits h p))

          proceeds_with_awaits : (before after : Held) (txn : Option Txn) (p : Pending) → AwaitsAfter n.files.volume (record { step = proceeds_with (stand_of n) before after txn p; tables = t })
          proceeds_with_awaits before after txn p =
              let x : Moved = data_moves n.files.volume after.tables (size_in before.tables p.call) p.call in
              await_if n.files.volume (is_txn_of n.files.mount p.number txn)
              (record { step = data_moved (stand_of n) x; tables = t })
              (record { step = plans (stand_of n) after p; tables = t }) (moved_awaits x (moves_so n.files.volume after.tables (size_in before.tables p.call) p.call)) (plans_await after p)

          proceeds_await : (before after : Held) (txn : Option Txn) (input : Option (List ℕ)) (p : Option Pending) → AwaitsAfter n.files.volume (record { step = proceeds (stand_of n) before after txn input p; tables = t })
          proceeds_await before after txn (Some input) (Some p) = proceeds_with_awaits before after txn p
          proceeds_await before after txn (Some input) None = syncs_await after None
          proceeds_await before after txn None p = syncs_await after p

          super_read_awaits : (h : Held) (p : Option Pending) (is_its is_zero : Bool) → AwaitsAfter n.files.volume (record { step = cond is_its (syncs (stand_of n) h p) (cond is_zero (turns_to (stand_of n) WritesSuper) (fails (stand_of n))); tables = t })
          super_read_awaits h p true is_zero = syncs_await h p
          super_read_awaits h p false true = tt
          super_read_awaits h p false false = tt

      -- Answers

      module _ (h : Held) (p : Option Pending) where
        module _ (n : MountIs) (stays : Waits n.files.volume task.work task.ask) where
          abbrev next : MountIs
          next = record n { upto = suc n.upto; position = new_position n.position.layout n.files.mount; errands = all_left n.errands n.position.ballot.parts }

          balloted_awaits : (input : Option (List ℕ)) (step : BallotStep) → AwaitsAfter n.files.volume (balloted (stand_of n) h p input step)
          balloted_awaits input Go = stays
          balloted_awaits input (Abort mbal) = tt
          balloted_awaits input NoValue = synced_awaits h.tables n h p
          balloted_awaits input (Decided value) = proceeds_await (value_applied h.tables (txn_in value)) next h (record h { tables = value_applied h.tables (txn_in value) }) (txn_in value) input p

        module _ (m : MountIs) (stays : Waits m.files.volume task.work task.ask) where
          ballot_read_awaits : (work : MountWork) (a : ℕ) (blocks : List Block) → AwaitsAfter m.files.volume (ballot_read (stand_of m) h p work a blocks)
          ballot_read_awaits (Ballots input) a blocks = balloted_awaits (record m { position = having_read m.position a blocks }) stays input (read_at m.position.ballot a blocks).step
          ballot_read_awaits work a blocks = stays

          ballot_awaits : (work : MountWork) (a : ℕ) (reply : Reply) → AwaitsAfter m.files.volume (ballot_answered (stand_of m) h p work a reply)
          ballot_awaits work a Written = stays
          ballot_awaits work a (Bytes sectors) = ballot_read_awaits work a (blocks_in sectors)

          look_awaits : (work : MountWork) (a : ℕ) (reply : Reply) → AwaitsAfter m.files.volume (record { step = look_answered (errand_freed (stand_of m) a) h p work a reply; tables = h.tables })
          look_awaits (Syncs looks) a (Bytes sectors) =
              syncs_on_awaits h.tables (record m { errands = with_errand m.errands a Free; position = having_seen m.position (blocks_in sectors) }) h p (having_looked looks a (blocks_in sectors))
          look_awaits work a reply = stays

          pause_awaits : (work : MountWork) (a : ℕ) → AwaitsAfter m.files.volume (record { step = pause_answered (errand_freed (stand_of m) a) work; tables = h.tables })
          pause_awaits (Pauses input left) a = paused_awaits h.tables (record m { errands = with_errand m.errands a Free }) input left
          pause_awaits work a = stays

          super_awaits : (work : MountWork) (a : ℕ) (reply : Reply) → AwaitsAfter m.files.volume (record { step = super_answered (errand_freed (stand_of m) a) h p work reply; tables = h.tables })
          super_awaits ReadsSuper a (Bytes sectors) = super_read_awaits h.tables (record m { errands = with_errand m.errands a Free }) h p _ _
          super_awaits work a reply = stays

          filled_awaits : (work : MountWork) (a : ℕ) → AwaitsAfter m.files.volume (record { step = super_filled (errand_freed (stand_of m) a) h p work; tables = h.tables })
          filled_awaits WritesSuper a = syncs_await h.tables (record m { errands = with_errand m.errands a Free }) h p
          filled_awaits work a = stays

          errand_awaits : (errand : Errand) (work : MountWork) (a : ℕ) (reply : Reply) → AwaitsAfter m.files.volume (errand_answered errand (stand_of m) h p work a reply)
          errand_awaits Free work a reply = ballot_awaits work a reply
          errand_awaits OfSync work a reply = look_awaits work a reply
          errand_awaits OfPause work a reply = pause_awaits work a
          errand_awaits OfSuper work a reply = super_awaits work a reply
          errand_awaits FillsSuper work a reply = filled_awaits work a
          errand_awaits LateWrite work a reply = stays
          errand_awaits (LateRead count) work a reply = stays

          -- file data: what a read gave is whole, where that is asked for
          data_awaits : (work : MountWork) (reply : Reply) → ((moving : DataMoving) → work ≡ Moves moving → GivesWhole moving reply) → AwaitsAfter m.files.volume (record { step = data_answered (stand_of m) h work reply; tables = h.tables })
          data_awaits (Moves moving) reply whole = moved_awaits h.tables m (moves_on m.files.volume h.tables moving reply) (moves_on_so m.files.volume h.tables moving reply (whole moving refl))
          data_awaits work reply whole = stays

          port_awaits : (work : MountWork) (port : ℕ) (reply : Reply) → ((moving : DataMoving) → work ≡ Moves moving → port ≡ anchors_of m.position → GivesWhole moving reply) → AwaitsAfter m.files.volume (port_answered (stand_of m) h p work port reply)
          port_awaits work port reply whole = by_test (port == anchors_of m.position)
              (λ b. AwaitsAfter m.files.volume (cond b (record { step = data_answered (stand_of m) h work reply; tables = h.tables }) (errand_answered (errand_at m.errands port) (stand_of m) h p work port reply)))
              (λ same. data_awaits work reply (λ moving is. whole moving is (eqb-true port (anchors_of m.position) same)))
              (λ _. errand_awaits (errand_at m.errands port) work port reply)

    -- An input

    pub waits_after : (m : MountIs) (input : Input) → HearsWhole m input → Waits m.files.volume m.task.work m.task.ask → (let n = mount_after m input in Waits n.files.volume n.task.work n.task.ask)
    waits_after m (lives.Begins call) whole is = let n = having_started m call in syncs_await m.task n.files.tables n (tables_held n.files) n.files.pending
    waits_after m (Hears port reply) whole is = port_awaits m.task (tables_held m.files) m.files.pending m is m.task.work port reply whole
    waits_after m (Asks port) whole is = by (port == anchors_of m.position)
      where
        by : (b : Bool) → (let n : MountIs = cond b (asked_data m) (asked_anchor m port) in Waits n.files.volume n.task.work n.task.ask)
        by true = tt
        by false = is

-- Each answer to such an ask is one that the mount takes: it begins at a place of the volume, and has eight sectors at most
pub record IsDataAsk (v : Extent) (moving : DataMoving) (ask : Ask) : Type 0 where
  pub place : ℕ
  pub begins : (span_of ask).first ≡ place % v.sectors
  pub few : (span_of ask).count ≤ 8
  pub takes : (reply : Reply) → AnswersAsk ask reply → AnswersMoving moving reply

abbrev AreAnyBytes : List ℕ → Type 0
AreAnyBytes bytes = Unit {0}

abbrev pub IsAwaited : Extent → MountWork → Option Ask → Type 0
IsAwaited = Waits IsDataAsk AreAnyBytes

data_asks : AreSo IsDataAsk AreAnyBytes
data_asks = record {
  fetches = λ v block f index. record { place = 8 * block; begins = refl; few = omega arith; takes = fetches_awaits v block f index };
  gathers = λ v block inode offset to index bytes. record { place = 8 * block; begins = refl; few = omega arith; takes = gather_awaits v block inode offset to index bytes };
  stores = λ v block f index bytes whole. record { place = 8 * block; begins = refl; few = (let eight = length_cut 8 (filled_block f index bytes) in omega (arith, eight)); takes = stores_awaits v block f index bytes };
  zeros = tt;
}
  where
    fetches_awaits : (v : Extent) (block : ℕ) (f : Fill) (index : ℕ) (reply : Reply) → AnswersAsk (reads_block v block) reply → AnswersMoving (Fetches f index) reply
    fetches_awaits v block f index Written is = absurd is
    fetches_awaits v block f index (Bytes sectors) is = is

    gather_awaits : (v : Extent) (block inode offset to index : ℕ) (bytes : List ℕ) (reply : Reply) → AnswersAsk (reads_block v block) reply → AnswersMoving (Gathers inode offset to index bytes) reply
    gather_awaits v block inode offset to index bytes Written is = absurd is
    gather_awaits v block inode offset to index bytes (Bytes sectors) is = is

    stores_awaits : (v : Extent) (block : ℕ) (f : Fill) (index : ℕ) (bytes : List ℕ) (reply : Reply) → AnswersAsk (writes_block v block (filled_block f index bytes)) reply → AnswersMoving (Stores f index) reply
    stores_awaits v block f index bytes Written is = tt
    stores_awaits v block f index bytes (Bytes sectors) is = absurd is

any_bytes : (moving : DataMoving) (reply : Reply) → GivesWhole IsDataAsk AreAnyBytes moving reply
any_bytes (Fetches f index) (Bytes sectors) = tt
any_bytes moving reply = tt

any_input : (m : MountIs) (input : Input) → HearsWhole IsDataAsk AreAnyBytes m input
any_input m (Hears port reply) = λ moving work last. any_bytes moving reply
any_input m (lives.Begins call) = tt
any_input m (Asks port) = tt

pub awaited_after : (m : MountIs) (input : Input) → IsAwaited m.files.volume m.task.work m.task.ask → (let n = mount_after m input in IsAwaited n.files.volume n.task.work n.task.ask)
awaited_after m input is = waits_after IsDataAsk AreAnyBytes data_asks m input (any_input m input) is

-- once it is handed out, the port for file data takes each answer
pub data_taken : (v : Extent) (work : MountWork) (ask : Ask) → IsAwaited v work (Some ask) → (reply : Reply) → AnswersAsk ask reply → AnswersData work None reply
data_taken v (Moves moving) ask is reply answers = is.takes reply answers
data_taken v work ask is reply answers = absurd is

-- it begins in a chunk
pub first_below : (v : Extent) (work : MountWork) (ask : Ask) → IsAwaited v work (Some ask) → 0 < v.sectors → (span_of ask).first < v.sectors
first_below v (Moves moving) ask is sectors =
    let less : is.place % v.sectors < v.sectors = omega (arith, sectors) in
    let begins = is.begins in omega (arith, less, begins)
first_below v work ask is sectors = absurd is

-- it is of a block
pub few_awaited : (v : Extent) (work : MountWork) (ask : Ask) → IsAwaited v work (Some ask) → (span_of ask).count ≤ 8
few_awaited v (Moves moving) ask is = is.few
few_awaited v work ask is = absurd is

-- no sync has it
pub by_itself : (v : Extent) (work : MountWork) (ask : Ask) (number : ℕ) → IsAwaited v work (Some ask) → client_of number work ≡ number
by_itself v (Moves moving) ask number is = refl
by_itself v work ask number is = absurd is
