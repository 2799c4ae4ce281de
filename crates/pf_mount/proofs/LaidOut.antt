-- A mount keeps its layout, and its ballots stay over the anchors of that.
use Rattle.std.proofs.Common.{◌≡◌, ℕ, zero, suc, ◌≤◌, Bool, true, false, not, ◌&&◌, ◌==◌, if◌then◌else◌, List, length, Option, Some, None, refl, ◌∙◌, arith}
use Rattle.std.proofs.lemmas.List.{length-replicate, length-set}
use Rattle.pf_base.specs.declared.asks.Ask.{Ask}
use Rattle.pf_base.specs.declared.asks.Reply.{Reply}
use Rattle.pf_base.specs.declared.asks.Reply.TheVariants.{Written, Bytes}
use Rattle.pf_tree_tables.specs.declared.changes.Txn.{Txn}
use Rattle.pf_tree.specs.Held.{Held, data_of}
use Rattle.pf_tree.specs.Calls.{FileCall}
use Rattle.pf_txn.specs.Spelling.{spell_txn}
use Rattle.pf_txn.specs.Reading.{txn_in}
use Rattle.pf_layout.specs.Supers.{super_block}
use Rattle.std.specs.Prelude.{replicate}
use Rattle.std.specs.Str.{bytes_eq}
use Rattle.pf_paxos.specs.declared.block.Block.{Block}
use Rattle.pf_paxos.specs.declared.ballot.BallotStep.{BallotStep}
use Rattle.pf_paxos.specs.declared.ballot.BallotStep.TheVariants.{Go, Abort, NoValue, Decided}
use Rattle.pf_paxos.specs.declared.parts.Stage.{Stage}
use Rattle.pf_paxos.specs.declared.parts.Stage.TheVariants.{Writes, ReadsLow, ReadsHigh, Done}
use Rattle.pf_paxos.specs.Blocks.{zero_block}
use Rattle.pf_paxos.specs.Parts.{fresh, part_at, part_takes, part_written}
use Rattle.pf_paxos.specs.Ballots.{next_at_anchor, read_at}
use Rattle.pf_file_calls.specs.declared.answers.CallAnswer.TheVariants.{Refused}
use Rattle.pf_file_calls.specs.declared.answers.CallFault.TheVariants.{JournalFull}
use Rattle.pf_file_calls.specs.declared.calls.Pending.{Pending}
use Rattle.pf_file_calls.specs.declared.calls.Planned.{Planned}
use Rattle.pf_file_calls.specs.declared.calls.Planned.TheVariants.{Refuses, Proposes, Goes}
use Rattle.pf_file_calls.specs.declared.moving.Moved.{Moved}
use Rattle.pf_file_calls.specs.declared.moving.Moved.TheVariants.{Asks, Ends}
use Rattle.pf_file_calls.specs.Blocks.{bytes_of}
use Rattle.pf_file_calls.specs.Calls.{value_applied, is_txn_of, planned, size_in}
use Rattle.pf_file_calls.specs.Moving.{data_moves, moves_on}
use Rattle.pf_mount_errands.specs.Blocks.{blocks_in}
use Rattle.pf_journal.specs.declared.layouts.Layout.{Layout}
use Rattle.pf_journal.specs.declared.layouts.Layout.TheVariants.{Plain, Three}
use Rattle.pf_journal.specs.Layouts.{layout_of}
use Rattle.pf_mount_errands.specs.declared.errands.Errand.{Errand}
use Rattle.pf_mount_errands.specs.declared.errands.Errand.TheVariants.{Free, OfSync, OfPause, OfSuper, FillsSuper, LateWrite, LateRead}
use Rattle.pf_mount_errands.specs.declared.looks.Looks.{Looks}
use Rattle.pf_mount_errands.specs.Errands.{all_late, errand_at, is_anchor_free, is_pausing, least_free_anchor}
use Rattle.pf_mount_errands.specs.Looks.{are_looked, have_found, having_looked, look_at, new_looks}
use Rattle.pf_mount_errands.specs.Places.{reads_first, reads_super, writes_super}
use Rattle.pf_mount_errands.specs.Positions.{IsOverAnchors, PositionIs, can_start, having_aborted, having_asked, having_read, having_seen, having_written, journal_of, new_position, starting_ballot, anchors_of}
use Rattle.pf_mount_errands.proofs.Counts.{read_count, started_count}
use Rattle.pf_mount.specs.declared.stand.Handed.{Handed}
use Rattle.pf_mount.specs.declared.stand.Stand.{Stand}
use Rattle.pf_mount.specs.declared.stand.MountStep.{MountStep}
use Rattle.pf_mount.specs.declared.work.MountWork.{MountWork}
use Rattle.pf_mount.specs.declared.work.MountWork.TheVariants.{Rests, Fails, ReadsSuper, WritesSuper, Syncs, Ballots, Pauses, Moves}
use Rattle.pf_mount.specs.Mounts.{MountIs, Worked, position_advanced, anchor_hands, mount_answered, mount_asked, asked_anchor, asked_data, ballot_answered, ballot_read, balloted, ballots, data_answered, done, errand_answered, fails, errand_freed, hands_errand, hands_nothing, having_started, tables_held, look_answered, looks_on, data_moved, pause_answered, paused, pauses, plans, plans_as, port_answered, proceeds, proceeds_with, proposes, stand_of, starting, super_answered, super_filled, super_read, synced, syncs, syncs_on, turns_to, works_on}

pub few : (layout : Layout) → length (layout_of layout).anchors ≤ 3
few Plain = omega arith
few Three = omega arith

pub record Laid (p r : PositionIs) : Type 0 where
  pub layout : r.layout ≡ p.layout
  pub over : IsOverAnchors p → IsOverAnchors r

same : (p : PositionIs) → Laid p p
same p = record { layout = refl; over = λ is. is }

on_to : (p r t : PositionIs) → Laid p r → Laid r t → Laid p t
on_to p r t first next = record { layout = next.layout ∙ first.layout; over = λ is. next.over (first.over is) }

seen_laid : (p : PositionIs) (blocks : List Block) → Laid p (having_seen p blocks)
seen_laid p blocks = record { layout = refl; over = λ is. is }

aborted_laid : (p : PositionIs) → Laid p (having_aborted p)
aborted_laid p = record { layout = refl; over = λ is. is }

started_laid : (p : PositionIs) (input : Option (List ℕ)) → Laid p (starting_ballot p input)
started_laid p input = record { layout = refl; over = λ is. started_count p.ballot p.rivals.seen input ∙ is }

asked_laid : (p : PositionIs) (a : ℕ) → Laid p (having_asked p a)
asked_laid p a = record { layout = refl; over = λ is. length-set p.ballot.parts a (part_takes (part_at p.ballot.parts a) (next_at_anchor p.ballot a)) ∙ is }

written_laid : (p : PositionIs) (a : ℕ) → Laid p (having_written p a)
written_laid p a = record { layout = refl; over = λ is. length-set p.ballot.parts a (part_written (part_at p.ballot.parts a)) ∙ is }

new_laid : (p : PositionIs) (mount : ℕ) → Laid p (new_position p.layout mount)
new_laid p mount = record { layout = refl; over = λ is. length-replicate (anchors_of p) (fresh zero_block) }

pub read_laid : (p : PositionIs) (a : ℕ) (blocks : List Block) → Laid p (having_read p a blocks)
read_laid p a blocks = by (part_at p.ballot.parts a).is_late
  where
    by : (b : Bool) → (let after : PositionIs = record p { ballot = (read_at p.ballot a blocks).ballot } in let r : PositionIs = if b then after else having_seen after blocks in Laid p r)
    by true = record { layout = refl; over = λ is. read_count p.ballot a blocks ∙ is }
    by false = record { layout = refl; over = λ is. read_count p.ballot a blocks ∙ is }

-- from this position on
module _ (p : PositionIs) where
  abbrev To : MountStep → Type 0
  To step = Laid p step.stand.position

  to_if : (b : Bool) (x y : MountStep) → To x → To y → (let z : MountStep = if b then x else y in To z)
  to_if true x y of_x of_y = of_x
  to_if false x y of_x of_y = of_y

module _ (s : Stand) where
  ballots_laid : (input : Option (List ℕ)) → To s.position (ballots s input)
  ballots_laid input = to_if s.position (can_start s.position) (turns_to (record s { position = starting_ballot s.position input }) (Ballots input)) (pauses s input 0) (started_laid s.position input) (same s.position)

  paused_laid : (input : Option (List ℕ)) (left : ℕ) → To s.position (paused s input left)
  paused_laid input zero = ballots_laid input
  paused_laid input (suc left) = same s.position

  moved_laid : (x : Moved) → To s.position (data_moved s x)
  moved_laid (Asks ask moving) = same s.position
  moved_laid (Ends answer) = same s.position

  proposes_laid : (txn : Txn) → To s.position (proposes s txn)
  proposes_laid txn = to_if s.position (s.upto == (journal_of s.position).positions) (done s (Refused JournalFull)) (ballots s (Some (spell_txn txn))) (same s.position) (ballots_laid (Some (spell_txn txn)))

  plans_as_laid : (x : Planned) → To s.position (plans_as s x)
  plans_as_laid (Refuses fault) = same s.position
  plans_as_laid (Proposes txn) = proposes_laid txn
  plans_as_laid (Goes step) = moved_laid step

  plans_laid : (h : Held) (p : Pending) → To s.position (plans s h p)
  plans_laid h p = plans_as_laid (planned s.mount s.volume (data_of h.first h.tables) h.tables p)

  synced_laid : (h : Held) (p : Option Pending) → To s.position (synced s h p)
  synced_laid h None = same s.position
  synced_laid h (Some p) = plans_laid h p

  pub syncs_laid : (h : Held) (p : Option Pending) → To s.position (syncs s h p)
  syncs_laid h p =
      to_if s.position (s.upto == (journal_of s.position).positions) (synced s h p) (turns_to (record s { errands = all_late s.errands }) (Syncs new_looks))
      (synced_laid h p) (same s.position)

  syncs_on_laid : (h : Held) (p : Option Pending) (looks : Looks) → To s.position (syncs_on s h p looks)
  syncs_on_laid h p looks =
      to_if s.position (not (are_looked (journal_of s.position).quorum looks)) (turns_to s (Syncs looks)) (if have_found looks then ballots s None else synced s h p)
      (same s.position)
      (to_if s.position (have_found looks) (ballots s None) (synced s h p) (ballots_laid None) (synced_laid h p))

  super_read_laid : (h : Held) (p : Option Pending) (sector : List ℕ) → To s.position (super_read s h p sector)
  super_read_laid h p sector =
      to_if s.position (bytes_eq sector (super_block s.volume.chunks s.volume.sectors)) (syncs s h p) (if bytes_eq sector (replicate 512 0) then turns_to s WritesSuper else fails s)
      (syncs_laid h p)
      (to_if s.position (bytes_eq sector (replicate 512 0)) (turns_to s WritesSuper) (fails s) (same s.position) (same s.position))

  proceeds_with_laid : (before after : Held) (txn : Option Txn) (p : Pending) → To s.position (proceeds_with s before after txn p)
  proceeds_with_laid before after txn p =
      to_if s.position (is_txn_of s.mount p.number txn) (data_moved s (data_moves s.volume after.tables (size_in before.tables p.call) p.call)) (plans s after p)
      (moved_laid (data_moves s.volume after.tables (size_in before.tables p.call) p.call)) (plans_laid after p)

  proceeds_laid : (before after : Held) (txn : Option Txn) (input : Option (List ℕ)) (p : Option Pending) → To s.position (proceeds s before after txn input p)
  proceeds_laid before after txn (Some input) (Some p) = proceeds_with_laid before after txn p
  proceeds_laid before after txn (Some input) None = syncs_laid after None
  proceeds_laid before after txn None p = syncs_laid after p

balloted_laid : (s : Stand) (h : Held) (p : Option Pending) (input : Option (List ℕ)) (step : BallotStep) → To s.position (balloted s h p input step).step
balloted_laid s h p input Go = same s.position
balloted_laid s h p input (Abort mbal) = aborted_laid s.position
balloted_laid s h p input NoValue = synced_laid s h p
balloted_laid s h p input (Decided value) =
    let after = (balloted s h p input (Decided value)).step.stand.position in
    on_to s.position (position_advanced s).position after (new_laid s.position s.mount)
    (proceeds_laid (position_advanced s) h (record h { tables = value_applied h.tables (txn_in value) }) (txn_in value) input p)

module _ (s : Stand) (h : Held) (p : Option Pending) (a : ℕ) where
  ballot_read_laid : (work : MountWork) (blocks : List Block) → To s.position (ballot_read s h p work a blocks).step
  ballot_read_laid (Ballots input) blocks =
      let t : Stand = record s { position = having_read s.position a blocks } in
      let step = (read_at s.position.ballot a blocks).step in
      on_to s.position t.position (balloted t h p input step).step.stand.position (read_laid s.position a blocks) (balloted_laid t h p input step)
  ballot_read_laid Rests blocks = read_laid s.position a blocks
  ballot_read_laid Fails blocks = read_laid s.position a blocks
  ballot_read_laid ReadsSuper blocks = read_laid s.position a blocks
  ballot_read_laid WritesSuper blocks = read_laid s.position a blocks
  ballot_read_laid (Syncs looks) blocks = read_laid s.position a blocks
  ballot_read_laid (Pauses input left) blocks = read_laid s.position a blocks
  ballot_read_laid (Moves moving) blocks = read_laid s.position a blocks

  ballot_laid : (work : MountWork) (reply : Reply) → To s.position (ballot_answered s h p work a reply).step
  ballot_laid work Written = written_laid s.position a
  ballot_laid work (Bytes sectors) = ballot_read_laid work (blocks_in sectors)

  look_laid : (work : MountWork) (reply : Reply) → To s.position (look_answered (errand_freed s a) h p work a reply)
  look_laid (Syncs looks) (Bytes sectors) =
      let t : Stand = record (errand_freed s a) { position = having_seen s.position (blocks_in sectors) } in
      let after = having_looked looks a (blocks_in sectors) in
      on_to s.position t.position (syncs_on t h p after).stand.position (seen_laid s.position (blocks_in sectors)) (syncs_on_laid t h p after)
  look_laid (Syncs looks) Written = same s.position
  look_laid Rests reply = same s.position
  look_laid Fails reply = same s.position
  look_laid ReadsSuper reply = same s.position
  look_laid WritesSuper reply = same s.position
  look_laid (Ballots input) reply = same s.position
  look_laid (Pauses input left) reply = same s.position
  look_laid (Moves moving) reply = same s.position

  pause_laid : (work : MountWork) → To s.position (pause_answered (errand_freed s a) work)
  pause_laid (Pauses input left) = paused_laid (errand_freed s a) input left
  pause_laid Rests = same s.position
  pause_laid Fails = same s.position
  pause_laid ReadsSuper = same s.position
  pause_laid WritesSuper = same s.position
  pause_laid (Syncs looks) = same s.position
  pause_laid (Ballots input) = same s.position
  pause_laid (Moves moving) = same s.position

  super_laid : (work : MountWork) (reply : Reply) → To s.position (super_answered (errand_freed s a) h p work reply)
  super_laid ReadsSuper (Bytes sectors) = super_read_laid (errand_freed s a) h p (bytes_of sectors)
  super_laid ReadsSuper Written = same s.position
  super_laid Rests reply = same s.position
  super_laid Fails reply = same s.position
  super_laid WritesSuper reply = same s.position
  super_laid (Syncs looks) reply = same s.position
  super_laid (Ballots input) reply = same s.position
  super_laid (Pauses input left) reply = same s.position
  super_laid (Moves moving) reply = same s.position

  filled_laid : (work : MountWork) → To s.position (super_filled (errand_freed s a) h p work)
  filled_laid WritesSuper = syncs_laid (errand_freed s a) h p
  filled_laid Rests = same s.position
  filled_laid Fails = same s.position
  filled_laid ReadsSuper = same s.position
  filled_laid (Syncs looks) = same s.position
  filled_laid (Ballots input) = same s.position
  filled_laid (Pauses input left) = same s.position
  filled_laid (Moves moving) = same s.position

  errand_laid : (errand : Errand) (work : MountWork) (reply : Reply) → To s.position (errand_answered errand s h p work a reply).step
  errand_laid Free work reply = ballot_laid work reply
  errand_laid OfSync work reply = look_laid work reply
  errand_laid OfPause work reply = pause_laid work
  errand_laid OfSuper work reply = super_laid work reply
  errand_laid FillsSuper work reply = filled_laid work
  errand_laid LateWrite work reply = same s.position
  errand_laid (LateRead count) work reply = same s.position

data_laid : (s : Stand) (h : Held) (work : MountWork) (reply : Reply) → To s.position (data_answered s h work reply)
data_laid s h (Moves moving) reply = moved_laid s (moves_on s.volume h.tables moving reply)
data_laid s h Rests reply = same s.position
data_laid s h Fails reply = same s.position
data_laid s h ReadsSuper reply = same s.position
data_laid s h WritesSuper reply = same s.position
data_laid s h (Syncs looks) reply = same s.position
data_laid s h (Ballots input) reply = same s.position
data_laid s h (Pauses input left) reply = same s.position

pub port_laid : (s : Stand) (h : Held) (p : Option Pending) (work : MountWork) (port : ℕ) (reply : Reply) → To s.position (port_answered s h p work port reply).step
port_laid s h p work port reply = by (port == anchors_of s.position)
  where
    by : (b : Bool) → (let x : Worked = if b then record { step = data_answered s h work reply; tables = h.tables } else errand_answered (errand_at s.errands port) s h p work port reply in To s.position x.step)
    by true = data_laid s h work reply
    by false = errand_laid s h p port (errand_at s.errands port) work reply

-- what is handed out

module _ (s : Stand) (a : ℕ) where
  abbrev Hands : Handed → Type 0
  Hands h = Laid s.position h.stand.position

  hands_if : (b : Bool) (errand : Errand) (ask : Ask) → (let h : Handed = if b then hands_errand s a errand ask else hands_nothing s in Hands h)
  hands_if true errand ask = same s.position
  hands_if false errand ask = same s.position

  looks_on_laid : (stage : Stage) → Hands (looks_on s a stage)
  looks_on_laid ReadsLow = same s.position
  looks_on_laid ReadsHigh = same s.position
  looks_on_laid Writes = same s.position
  looks_on_laid Done = same s.position

  works_on_laid : (work : MountWork) → Hands (works_on s work a)
  works_on_laid ReadsSuper = hands_if (a == 0) OfSuper (reads_super s.volume)
  works_on_laid WritesSuper = hands_if (a == 0) FillsSuper (writes_super s.volume)
  works_on_laid (Syncs looks) = looks_on_laid (look_at looks a).stage
  works_on_laid (Ballots input) = asked_laid s.position a
  works_on_laid (Pauses input left) = hands_if (not (is_pausing s.errands) && (a == least_free_anchor s.errands s.position.ballot.parts)) OfPause (reads_first (journal_of s.position) s.volume a s.upto)
  works_on_laid Rests = same s.position
  works_on_laid Fails = same s.position
  works_on_laid (Moves moving) = same s.position

  pub anchor_hands_laid : (work : MountWork) → Hands (anchor_hands s work a)
  anchor_hands_laid work = by (is_anchor_free s.errands s.position.ballot.parts a)
    where
      by : (b : Bool) → (let x : Handed = if b then works_on s work a else hands_nothing s in Hands x)
      by true = works_on_laid work
      by false = same s.position

-- the mount

pub answered_laid : (m : MountIs) (port : ℕ) (reply : Reply) → Laid m.position (mount_answered m port reply).mount.position
answered_laid m port reply = port_laid (stand_of m) (tables_held m.files) m.files.pending m.task.work port reply

pub asked_mount_laid : (m : MountIs) (port : ℕ) → Laid m.position (mount_asked m port).position
asked_mount_laid m port = by (port == anchors_of m.position)
  where
    by : (b : Bool) → (let n : MountIs = if b then asked_data m else asked_anchor m port in Laid m.position n.position)
    by true = same m.position
    by false = anchor_hands_laid (stand_of m) port m.task.work

pub starting_laid : (m : MountIs) (call : FileCall) → Laid m.position (starting m call).mount.position
starting_laid m call = let n = having_started m call in syncs_laid (stand_of n) (tables_held n.files) n.files.pending
