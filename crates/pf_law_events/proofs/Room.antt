-- A mount asks nothing in the journal past its last position.
use Rattle.std.proofs.Common.{◌≡◌, ◌≢◌, ℕ, zero, suc, ◌<◌, ◌≤◌, Bool, true, false, cond, not, ◌==◌, List, replicate, Option, Some, None, arith, refl, ap, ◌∙◌}
use Rattle.std.specs.Prelude.{unwrap_or}
use Rattle.std.specs.Str.{bytes_eq}
use Rattle.std.proofs.lemmas.Bool.{eqb-false}
use Rattle.pf_base.specs.declared.asks.Reply.{Reply}
use Rattle.pf_base.specs.declared.asks.Reply.TheVariants.{Written, Bytes}
use Rattle.pf_tree_tables.specs.declared.changes.Txn.{Txn}
use Rattle.pf_tree_tables.specs.Tables.{Tables}
use Rattle.pf_tree.specs.Held.{Held, data_of}
use Rattle.pf_txn.specs.Spelling.{spell_txn}
use Rattle.pf_txn.specs.Reading.{txn_in}
use Rattle.pf_paxos.specs.declared.block.Block.{Block}
use Rattle.pf_paxos.specs.declared.ballot.BallotStep.{BallotStep}
use Rattle.pf_paxos.specs.declared.ballot.BallotStep.TheVariants.{Go, Abort, NoValue, Decided}
use Rattle.pf_paxos.specs.Ballots.{read_at}
use Rattle.pf_file_calls.specs.declared.answers.CallAnswer.TheVariants.{Refused}
use Rattle.pf_file_calls.specs.declared.answers.CallFault.TheVariants.{JournalFull}
use Rattle.pf_file_calls.specs.declared.calls.Pending.{Pending}
use Rattle.pf_file_calls.specs.declared.calls.Planned.{Planned}
use Rattle.pf_file_calls.specs.declared.calls.Planned.TheVariants.{Refuses, Proposes, Goes}
use Rattle.pf_file_calls.specs.declared.moving.Moved.{Moved}
use Rattle.pf_file_calls.specs.declared.moving.Moved.TheVariants.{Asks as AsksData, Ends}
use Rattle.pf_file_calls.specs.Blocks.{bytes_of}
use Rattle.pf_file_calls.specs.Calls.{value_applied, is_txn_of, planned, size_in}
use Rattle.pf_file_calls.specs.Moving.{data_moves, moves_on}
use Rattle.pf_mount_errands.specs.Blocks.{blocks_in}
use Rattle.pf_journal.specs.declared.layouts.Layout.{Layout}
use Rattle.pf_journal.specs.declared.layouts.Layout.TheVariants.{Plain, Three}
use Rattle.pf_journal.specs.Layouts.{layout_of}
use Rattle.pf_mount_errands.specs.declared.errands.Errand.{Errand}
use Rattle.pf_mount_errands.specs.declared.errands.Errand.TheVariants.{FillsSuper, Free, OfPause, OfSuper, OfSync}
use Rattle.pf_mount_errands.specs.declared.looks.Looks.{Looks}
use Rattle.pf_mount_errands.specs.Errands.{all_late, all_left, errand_at, with_errand}
use Rattle.pf_mount_errands.specs.Looks.{are_looked, have_found, having_looked, new_looks}
use Rattle.pf_mount_errands.specs.Positions.{PositionIs, anchors_of, can_start, having_read, having_seen, journal_of, new_position, starting_ballot}
use Rattle.pf_mount.specs.declared.work.MountTask.{MountTask}
use Rattle.pf_mount.specs.declared.work.MountWork.{MountWork}
use Rattle.pf_mount.specs.declared.work.MountWork.TheVariants.{ReadsSuper, Syncs, Ballots, Pauses, Moves, WritesSuper}
use Rattle.pf_mount.specs.Mounts.{MountIs, Worked, asked_anchor, asked_data, ballot_answered, ballot_read, balloted, ballots, data_answered, done, errand_answered, fails, first_work, errand_freed, having_started, tables_held, look_answered, data_moved, pause_answered, paused, pauses, plans, plans_as, port_answered, proceeds, proceeds_with, proposes, stand_of, super_answered, super_filled, super_read, synced, syncs, syncs_on, turns_to}
use Rattle.pf_law_calls.specs.Lives.{Asks, Begins, Hears, Input, mount_after}
use Rattle.pf_law_calls.proofs.Layouts.{read_layout}

-- there is a position where one is read or decided
abbrev pub HasPosition : (positions : ℕ) → MountWork → (upto : ℕ) → Type 0
HasPosition positions (Syncs looks) upto = upto < positions
HasPosition positions (Ballots input) upto = upto < positions
HasPosition positions (Pauses input left) upto = upto < positions
HasPosition positions work upto = upto ≤ positions

abbrev pub positions_in : Layout → ℕ
positions_in layout = (layout_of layout).positions

-- a mount that did nothing yet
pub new_room : (layout : Layout) → HasPosition (positions_in layout) (first_work (layout_of layout)) 0
new_room Plain = omega arith
new_room Three = omega arith

most : (positions : ℕ) (work : MountWork) (upto : ℕ) → HasPosition positions work upto → upto ≤ positions
most positions (Syncs looks) upto room = omega (arith, room)
most positions (Ballots input) upto room = omega (arith, room)
most positions (Pauses input left) upto room = omega (arith, room)
most positions work upto room = room

less : (layout : Layout) (n : ℕ) (p : PositionIs) → p.layout ≡ layout → n ≤ positions_in layout → (n == (journal_of p).positions) ≡ false → n < positions_in layout
less layout n p lie low apart =
    let no : n ≢ (journal_of p).positions = eqb-false n (journal_of p).positions apart in
    let all : (journal_of p).positions ≡ positions_in layout = ap positions_in lie in
    omega (arith, low, no, all)

-- Steps. What a mount is at work on stays, or it turns to something

module _ (layout : Layout) (task : MountTask) where
  abbrev count : ℕ
  count = positions_in layout

  abbrev RoomAfter : Worked → Type 0
  RoomAfter w = HasPosition count (unwrap_or w.step.task task).work w.step.stand.upto

  module _ (t : Tables) where
    room_if : (b : Bool) (x y : Worked) → (b ≡ true → RoomAfter x) → (b ≡ false → RoomAfter y) → RoomAfter (record { step = cond b x.step y.step; tables = t })
    room_if true x y of_x of_y = of_x refl
    room_if false x y of_x of_y = of_y refl

    module _ (n : MountIs) (lie : n.position.layout ≡ layout) where
      ballots_room : (input : Option (List ℕ)) → n.upto < count → RoomAfter (record { step = ballots (stand_of n) input; tables = t })
      ballots_room input low =
          room_if (can_start n.position)
          (record { step = turns_to (stand_of (record n { position = starting_ballot n.position input })) (Ballots input); tables = t })
          (record { step = pauses (stand_of n) input 0; tables = t })
          (λ _. low) (λ _. low)

      paused_room : (input : Option (List ℕ)) (left : ℕ) → n.upto < count → RoomAfter (record { step = paused (stand_of n) input left; tables = t })
      paused_room input zero low = ballots_room input low
      paused_room input (suc left) low = low

      moved_room : (x : Moved) → n.upto ≤ count → RoomAfter (record { step = data_moved (stand_of n) x; tables = t })
      moved_room (AsksData ask moving) low = low
      moved_room (Ends answer) low = low

      proposes_room : (txn : Txn) → n.upto ≤ count → RoomAfter (record { step = proposes (stand_of n) txn; tables = t })
      proposes_room txn low =
          room_if (n.upto == (journal_of n.position).positions)
          (record { step = done (stand_of n) (Refused JournalFull); tables = t })
          (record { step = ballots (stand_of n) (Some (spell_txn txn)); tables = t })
          (λ _. low) (λ apart. ballots_room (Some (spell_txn txn)) (less layout n.upto n.position lie low apart))

      plans_as_room : (x : Planned) → n.upto ≤ count → RoomAfter (record { step = plans_as (stand_of n) x; tables = t })
      plans_as_room (Refuses fault) low = low
      plans_as_room (Proposes txn) low = proposes_room txn low
      plans_as_room (Goes step) low = moved_room step low

      plans_room : (h : Held) (p : Pending) → n.upto ≤ count → RoomAfter (record { step = plans (stand_of n) h p; tables = t })
      plans_room h p low = plans_as_room (planned n.files.mount n.files.volume (data_of h.first h.tables) h.tables p) low

      synced_room : (h : Held) (p : Option Pending) → n.upto ≤ count → RoomAfter (record { step = synced (stand_of n) h p; tables = t })
      synced_room h None low = low
      synced_room h (Some p) low = plans_room h p low

      syncs_room : (h : Held) (p : Option Pending) → n.upto ≤ count → RoomAfter (record { step = syncs (stand_of n) h p; tables = t })
      syncs_room h p low =
          room_if (n.upto == (journal_of n.position).positions)
          (record { step = synced (stand_of n) h p; tables = t })
          (record { step = turns_to (stand_of (record n { errands = all_late n.errands })) (Syncs new_looks); tables = t })
          (λ _. synced_room h p low) (λ apart. less layout n.upto n.position lie low apart)

      syncs_on_room : (h : Held) (p : Option Pending) (looks : Looks) → n.upto < count → RoomAfter (record { step = syncs_on (stand_of n) h p looks; tables = t })
      syncs_on_room h p looks low =
          room_if (not (are_looked (journal_of n.position).quorum looks))
          (record { step = turns_to (stand_of n) (Syncs looks); tables = t })
          (record { step = cond (have_found looks) (ballots (stand_of n) None) (synced (stand_of n) h p); tables = t })
          (λ _. low)
          (λ _. room_if (have_found looks)
          (record { step = ballots (stand_of n) None; tables = t })
          (record { step = synced (stand_of n) h p; tables = t })
          (λ _. ballots_room None low) (λ _. synced_room h p (omega (arith, low))))

      super_read_room : (h : Held) (p : Option Pending) (sector : List ℕ) → n.upto ≤ count → RoomAfter (record { step = super_read (stand_of n) h p sector; tables = t })
      super_read_room h p sector low =
          room_if _
          (record { step = syncs (stand_of n) h p; tables = t })
          (record { step = cond (bytes_eq sector (replicate 512 0)) (turns_to (stand_of n) WritesSuper) (fails (stand_of n)); tables = t })
          (λ _. syncs_room h p low)
          (λ _. room_if (bytes_eq sector (replicate 512 0))
          (record { step = turns_to (stand_of n) WritesSuper; tables = t })
          (record { step = fails (stand_of n); tables = t })
          (λ _. low) (λ _. low))

      proceeds_with_room : (before after : Held) (txn : Option Txn) (p : Pending) → n.upto ≤ count → RoomAfter (record { step = proceeds_with (stand_of n) before after txn p; tables = t })
      proceeds_with_room before after txn p low =
          let x : Moved = data_moves n.files.volume after.tables (size_in before.tables p.call) p.call in
          room_if (is_txn_of n.files.mount p.number txn)
          (record { step = data_moved (stand_of n) x; tables = t })
          (record { step = plans (stand_of n) after p; tables = t })
          (λ _. moved_room x low) (λ _. plans_room after p low)

      proceeds_room : (before after : Held) (txn : Option Txn) (input : Option (List ℕ)) (p : Option Pending) → n.upto ≤ count → RoomAfter (record { step = proceeds (stand_of n) before after txn input p; tables = t })
      proceeds_room before after txn (Some input) (Some p) low = proceeds_with_room before after txn p low
      proceeds_room before after txn (Some input) None low = syncs_room after None low
      proceeds_room before after txn None p low = syncs_room after p low

  -- Answers

  module _ (n : MountIs) (lie : n.position.layout ≡ layout) (h : Held) (p : Option Pending) (stays : HasPosition count task.work n.upto) where
    -- a decision leaves the position, and there is one more at most
    abbrev next : MountIs
    next = record n { upto = suc n.upto; position = new_position n.position.layout n.files.mount; errands = all_left n.errands n.position.ballot.parts }

    balloted_room : (input : Option (List ℕ)) (step : BallotStep) → n.upto < count → RoomAfter (balloted (stand_of n) h p input step)
    balloted_room input Go low = stays
    balloted_room input (Abort mbal) low = low
    balloted_room input NoValue low = synced_room h.tables n lie h p (omega (arith, low))
    balloted_room input (Decided value) low =
        proceeds_room (value_applied h.tables (txn_in value)) next lie h (record h { tables = value_applied h.tables (txn_in value) }) (txn_in value) input p (omega (arith, low))

  module _ (m : MountIs) (lie : m.position.layout ≡ layout) (h : Held) (p : Option Pending) (stays : HasPosition count task.work m.upto) where
    ballot_read_room : (work : MountWork) → HasPosition count work m.upto → (a : ℕ) (blocks : List Block) → RoomAfter (ballot_read (stand_of m) h p work a blocks)
    ballot_read_room (Ballots input) room a blocks = balloted_room (record m { position = having_read m.position a blocks }) (read_layout m.position a blocks ∙ lie) h p stays input (read_at m.position.ballot a blocks).step room
    ballot_read_room work room a blocks = stays

    ballot_room : (work : MountWork) → HasPosition count work m.upto → (a : ℕ) (reply : Reply) → RoomAfter (ballot_answered (stand_of m) h p work a reply)
    ballot_room work room a Written = stays
    ballot_room work room a (Bytes sectors) = ballot_read_room work room a (blocks_in sectors)

    look_room : (work : MountWork) → HasPosition count work m.upto → (a : ℕ) (reply : Reply) → RoomAfter (record { step = look_answered (errand_freed (stand_of m) a) h p work a reply; tables = h.tables })
    look_room (Syncs looks) room a (Bytes sectors) =
        syncs_on_room h.tables (record m { errands = with_errand m.errands a Free; position = having_seen m.position (blocks_in sectors) }) lie h p (having_looked looks a (blocks_in sectors)) room
    look_room work room a reply = stays

    pause_room : (work : MountWork) → HasPosition count work m.upto → (a : ℕ) → RoomAfter (record { step = pause_answered (errand_freed (stand_of m) a) work; tables = h.tables })
    pause_room (Pauses input left) room a = paused_room h.tables (record m { errands = with_errand m.errands a Free }) lie input left room
    pause_room work room a = stays

    super_room : (work : MountWork) → HasPosition count work m.upto → (a : ℕ) (reply : Reply) → RoomAfter (record { step = super_answered (errand_freed (stand_of m) a) h p work reply; tables = h.tables })
    super_room ReadsSuper room a (Bytes sectors) = super_read_room h.tables (record m { errands = with_errand m.errands a Free }) lie h p (bytes_of sectors) room
    super_room work room a reply = stays

    fills_room : (work : MountWork) → HasPosition count work m.upto → (a : ℕ) → RoomAfter (record { step = super_filled (errand_freed (stand_of m) a) h p work; tables = h.tables })
    fills_room WritesSuper room a = syncs_room h.tables (record m { errands = with_errand m.errands a Free }) lie h p room
    fills_room work room a = stays

    errand_room : (errand : Errand) (work : MountWork) → HasPosition count work m.upto → (a : ℕ) (reply : Reply) → RoomAfter (errand_answered errand (stand_of m) h p work a reply)
    errand_room Free work room a reply = ballot_room work room a reply
    errand_room OfSync work room a reply = look_room work room a reply
    errand_room OfPause work room a reply = pause_room work room a
    errand_room OfSuper work room a reply = super_room work room a reply
    errand_room FillsSuper work room a reply = fills_room work room a
    errand_room errand work room a reply = stays

    data_room : (work : MountWork) → HasPosition count work m.upto → (reply : Reply) → RoomAfter (record { step = data_answered (stand_of m) h work reply; tables = h.tables })
    data_room (Moves moving) room reply = moved_room h.tables m lie (moves_on m.files.volume h.tables moving reply) room
    data_room work room reply = stays

    port_room : (work : MountWork) → HasPosition count work m.upto → (port : ℕ) (reply : Reply) → RoomAfter (port_answered (stand_of m) h p work port reply)
    port_room work room port reply = by (port == anchors_of m.position)
      where
        by : (b : Bool) → RoomAfter (cond b (record { step = data_answered (stand_of m) h work reply; tables = h.tables }) (errand_answered (errand_at m.errands port) (stand_of m) h p work port reply))
        by true = data_room work room reply
        by false = errand_room (errand_at m.errands port) work room port reply

-- An input

pub room_after : (layout : Layout) (m : MountIs) → m.position.layout ≡ layout → (input : Input) → HasPosition (positions_in layout) m.task.work m.upto → HasPosition (positions_in layout) (mount_after m input).task.work (mount_after m input).upto
room_after layout m lie (Begins call) room =
    let n = having_started m call in
    syncs_room layout m.task n.files.tables n lie (tables_held n.files) n.files.pending (most (positions_in layout) m.task.work m.upto room)
room_after layout m lie (Hears port reply) room = port_room layout m.task m lie (tables_held m.files) m.files.pending room m.task.work room port reply
room_after layout m lie (Asks port) room = by (port == anchors_of m.position)
  where
    by : (b : Bool) → (let n : MountIs = cond b (asked_data m) (asked_anchor m port) in HasPosition (positions_in layout) n.task.work n.upto)
    by true = room
    by false = room
