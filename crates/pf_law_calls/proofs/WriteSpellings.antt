-- What mounts over a layout write has a spelling, whatever they hear.
use Rattle.std.proofs.Common.{◌≡◌, ℕ, zero, suc, ◌*◌, ◌/◌, ◌≤◌, Bool, true, false, not, ◌&&◌, ◌==◌, if◌then◌else◌, List, [], ◌∷◌, replicate, Option, Some, None, unwrap_or, arith, refl}
use Rattle.std.specs.Str.{bytes_eq}
use Rattle.std.proofs.Math.Nat.{mul-le-mul}
use Rattle.std.proofs.lemmas.Bool.{ltb-true}
use Rattle.pf_base.specs.declared.asks.Ask.{Ask}
use Rattle.pf_base.specs.declared.asks.Reply.{Reply}
use Rattle.pf_base.specs.declared.asks.Reply.TheVariants.{Written, Bytes}
use Rattle.pf_volume.specs.Volumes.{Extent, IsVolume, size_of}
use Rattle.pf_tree_tables.specs.declared.changes.Change.{Change}
use Rattle.pf_tree_tables.specs.declared.changes.Txn.{Txn}
use Rattle.pf_tree_tables.specs.Tables.{TablesAreHeld, Tables}
use Rattle.pf_tree_tables.proofs.Whole.{applied_held, new_held}
use Rattle.pf_tree.specs.Calls.{FileCall}
use Rattle.pf_tree.specs.Held.{Held, data_of}
use Rattle.pf_tree.specs.Plans.{changes, tables_sight}
use Rattle.pf_tree.specs.Trees.{refusal}
use Rattle.pf_txn.specs.Reading.{txn_in}
use Rattle.pf_txn.specs.Spelling.{IsShortCall, spell_txn}
use Rattle.pf_txn.proofs.PlannedSizes.{Few, can_spell, changes_few}
use Rattle.pf_journal.specs.declared.layouts.Layout.{Layout}
use Rattle.pf_journal.specs.declared.layouts.Layout.TheVariants.{Plain, Three}
use Rattle.pf_journal.specs.Layouts.{layout_of}
use Rattle.pf_journal.specs.Sectors.{HasSpelling}
use Rattle.pf_paxos.specs.declared.ballot.BallotStep.{BallotStep}
use Rattle.pf_paxos.specs.declared.ballot.BallotStep.TheVariants.{Abort, Decided, Go, NoValue}
use Rattle.pf_paxos.specs.declared.parts.Stage.{Stage}
use Rattle.pf_paxos.specs.declared.parts.Stage.TheVariants.{Writes, ReadsLow, ReadsHigh, Done as HasDone}
use Rattle.pf_paxos.specs.Ballots.{read_at}
use Rattle.pf_file_calls.specs.declared.answers.CallAnswer.{CallAnswer}
use Rattle.pf_file_calls.specs.declared.answers.CallAnswer.TheVariants.{Refused}
use Rattle.pf_file_calls.specs.declared.answers.CallFault.TheVariants.{JournalFull}
use Rattle.pf_file_calls.specs.declared.calls.Pending.{Pending}
use Rattle.pf_file_calls.specs.declared.calls.Planned.{Planned}
use Rattle.pf_file_calls.specs.declared.calls.Planned.TheVariants.{Refuses, Proposes, Goes}
use Rattle.pf_file_calls.specs.declared.moving.Moved.{Moved}
use Rattle.pf_file_calls.specs.declared.moving.Moved.TheVariants.{Asks as AsksFor, Ends}
use Rattle.pf_file_calls.specs.Blocks.{bytes_of}
use Rattle.pf_file_calls.specs.Calls.{FilesIs, value_applied, is_txn_of, planned, planned_by, planned_with, size_in}
use Rattle.pf_file_calls.specs.Moving.{data_moves, moves_on}
use Rattle.pf_mount_errands.specs.Blocks.{blocks_in}
use Rattle.pf_mount.specs.Filing.{IsShortFor}
use Rattle.pf_mount_errands.specs.declared.errands.Errand.{Errand}
use Rattle.pf_mount_errands.specs.declared.errands.Errand.TheVariants.{FillsSuper, Free, LateRead, LateWrite, OfPause, OfSuper, OfSync}
use Rattle.pf_mount_errands.specs.declared.looks.Looks.{Looks}
use Rattle.pf_mount_errands.specs.Errands.{all_late, errand_at, is_anchor_free, is_pausing, least_free_anchor}
use Rattle.pf_mount_errands.specs.Looks.{are_looked, have_found, having_looked, look_at, new_looks}
use Rattle.pf_mount_errands.specs.Places.{reads_first, reads_super, writes_super}
use Rattle.pf_mount_errands.specs.Positions.{PositionIs, anchors_of, can_start, having_read, having_seen, journal_of, starting_ballot}
use Rattle.pf_mount.specs.declared.work.MountTask.{MountTask}
use Rattle.pf_mount.specs.declared.work.MountWork.{MountWork}
use Rattle.pf_mount.specs.declared.work.MountWork.TheVariants.{ReadsSuper, Syncs, Ballots, Pauses, Moves, WritesSuper}
use Rattle.pf_mount.specs.Mounts.{MountIs, Worked, ballot_aborted, position_advanced, mount_answered, mount_asked, asked_anchor, asked_data, ballot_answered, ballot_read, balloted, ballots, data_answered, done, errand_answered, fails, first_work, errand_freed, hands_errand, hands_nothing, having_started, tables_held, look_answered, looks_on, data_moved, mount_opening, pause_answered, paused, pauses, plans, plans_as, port_answered, proceeds, proposes, stand_of, starting, work_stays, super_answered, super_filled, super_read, synced, syncs, syncs_on, taken, turns_to, works_on}
use Rattle.pf_law_calls.specs.Lives.{AreShort, Asks, Begins, Hears, Input, IsShortInput, Life, MountTold, all_opened, lived, lives, lives_from, lives_on, mount_after}
use Rattle.pf_law_calls.proofs.BallotBlocks.{AreSpelled, IsSpelledInput, IsValue, asked_spelled, in_sectors, new_spelled, read_spelled, started_spelled, written_spelled}

-- the types of where a mount stands, of its steps, and of what it hands out, which have no names here
abbrev DomainOf : {A B : Type 0} → (A → B) → Type 0
DomainOf {A} {B} f = A

abbrev CodomainOf : {A B : Type 0} → (A → B) → Type 0
CodomainOf {A} {B} f = B

abbrev Stand : Type 0
Stand = DomainOf work_stays

abbrev Step : Type 0
Step = CodomainOf work_stays

abbrev Handed : Type 0
Handed = CodomainOf hands_nothing

-- what is to be proposed may be
abbrev IsSpelledWork : MountWork → Type 0
IsSpelledWork (Ballots input) = IsSpelledInput input
IsSpelledWork (Pauses input left) = IsSpelledInput input
IsSpelledWork work = Unit {0}

abbrev IsSpelledTask : Option MountTask → Type 0
IsSpelledTask None = Unit {0}
IsSpelledTask (Some task) = IsSpelledWork task.work

abbrev Stands : Stand → Type 0
Stands s = AreSpelled s.position.ballot

-- what a step leaves
record IsSpelledStep (step : Step) : Type 0 where
  stands : Stands step.stand
  task : IsSpelledTask step.task

record IsSpelledWorked (w : Worked) : Type 0 where
  step : IsSpelledStep w.step
  tables : TablesAreHeld w.tables

record IsSpelledMount (m : MountIs) : Type 0 where
  anchors : AreSpelled m.position.ballot
  work : IsSpelledWork m.task.work
  tables : TablesAreHeld m.files.tables
  call : IsShortFor m.files.pending

step_if : (b : Bool) (x y : Step) → (b ≡ true → IsSpelledStep x) → (b ≡ false → IsSpelledStep y) → IsSpelledStep (if b then x else y)
step_if true x y of_x of_y = of_x refl
step_if false x y of_x of_y = of_y refl

-- Steps

module _ (s : Stand) (its : Stands s) where
  stays_spelled : IsSpelledStep (work_stays s)
  stays_spelled = record { stands = its; task = tt }

  done_spelled : (answer : CallAnswer) → IsSpelledStep (done s answer)
  done_spelled answer = record { stands = its; task = tt }

  moved_spelled : (x : Moved) → IsSpelledStep (data_moved s x)
  moved_spelled (AsksFor ask moving) = record { stands = its; task = tt }
  moved_spelled (Ends answer) = done_spelled answer

  pauses_spelled : (input : Option (List ℕ)) (left : ℕ) → IsSpelledInput input → IsSpelledStep (pauses s input left)
  pauses_spelled input left is = record { stands = its; task = is }

  aborted_spelled : (input : Option (List ℕ)) → IsSpelledInput input → IsSpelledStep (ballot_aborted s input)
  aborted_spelled input is = record { stands = record { own = its.own; parts = its.parts; input = its.input; begun = its.begun }; task = is }

  ballots_spelled : (input : Option (List ℕ)) → IsSpelledInput input → IsSpelledStep (ballots s input)
  ballots_spelled input is =
      step_if (can_start s.position) (turns_to (record s { position = starting_ballot s.position input }) (Ballots input)) (pauses s input 0)
      (λ can. record { stands = started_spelled s.position.ballot s.position.rivals.seen input its is (ltb-true _ _ can); task = is })
      (λ _. pauses_spelled input 0 is)

  paused_spelled : (input : Option (List ℕ)) (left : ℕ) → IsSpelledInput input → IsSpelledStep (paused s input left)
  paused_spelled input zero is = ballots_spelled input is
  paused_spelled input (suc left) is = pauses_spelled input left is

  -- Plans

  abbrev IsSpelledPlan : Planned → Type 0
  IsSpelledPlan (Proposes txn) = IsValue (spell_txn txn)
  IsSpelledPlan plan = Unit {0}

  proposes_spelled : (txn : Txn) → IsValue (spell_txn txn) → IsSpelledStep (proposes s txn)
  proposes_spelled txn is =
      step_if (s.upto == (journal_of s.position).positions) (done s (Refused JournalFull)) (ballots s (Some (spell_txn txn)))
      (λ _. done_spelled (Refused JournalFull))
      (λ _. ballots_spelled (Some (spell_txn txn)) is)

  plan_spelled : (plan : Planned) → IsSpelledPlan plan → IsSpelledStep (plans_as s plan)
  plan_spelled (Refuses fault) is = done_spelled (Refused fault)
  plan_spelled (Proposes txn) is = proposes_spelled txn is
  plan_spelled (Goes step) is = moved_spelled step

  module _ (h : Held) (held : TablesAreHeld h.tables) where
    plans_spelled : (p : Pending) → IsShortCall p.call → IsSpelledStep (plans s h p)
    plans_spelled p short = plan_spelled (planned s.mount s.volume (data_of h.first h.tables) h.tables p) (by_refusal (refusal (tables_sight (data_of h.first h.tables) h.tables) p.call) refl)
      where
        by_changes : (cs : List Change) → Few cs → IsSpelledPlan (planned_with s.mount s.volume h.tables p cs)
        by_changes [] few = tt
        by_changes (c ∷ cs) few =
            let txn : Txn = record { mount = s.mount; number = p.number; changes = c ∷ cs } in
            record { some = λ e. cc; few = (can_spell txn few).0.few }

        by_refusal : (r : Option ℕ) → refusal (tables_sight (data_of h.first h.tables) h.tables) p.call ≡ r → IsSpelledPlan (planned_by s.mount s.volume (data_of h.first h.tables) h.tables p r)
        by_refusal (Some refused) e = tt
        by_refusal None e = by_changes (changes (data_of h.first h.tables) h.tables p.call) (changes_few (data_of h.first h.tables) h.tables held.inodes held.whole.sizes p.call short e)

    -- Syncs

    synced_spelled : (p : Option Pending) → IsShortFor p → IsSpelledStep (synced s h p)
    synced_spelled None short = record { stands = its; task = tt }
    synced_spelled (Some p) short = plans_spelled p short

    syncs_spelled : (p : Option Pending) → IsShortFor p → IsSpelledStep (syncs s h p)
    syncs_spelled p short =
        step_if (s.upto == (journal_of s.position).positions) (synced s h p) (turns_to (record s { errands = all_late s.errands }) (Syncs new_looks))
        (λ _. synced_spelled p short)
        (λ _. record { stands = its; task = tt })

    syncs_on_spelled : (p : Option Pending) (looks : Looks) → IsShortFor p → IsSpelledStep (syncs_on s h p looks)
    syncs_on_spelled p looks short =
        step_if (not (are_looked (journal_of s.position).quorum looks)) (turns_to s (Syncs looks)) (if have_found looks then ballots s None else synced s h p)
        (λ _. record { stands = its; task = tt })
        (λ _. step_if (have_found looks) (ballots s None) (synced s h p) (λ _. ballots_spelled None tt) (λ _. synced_spelled p short))

    -- The superblock

    super_spelled : (p : Option Pending) (sector : List ℕ) → IsShortFor p → IsSpelledStep (super_read s h p sector)
    super_spelled p sector short =
        step_if _ (syncs s h p) (if bytes_eq sector (replicate 512 0) then turns_to s WritesSuper else fails s) (λ _. syncs_spelled p short)
        (λ _. step_if (bytes_eq sector (replicate 512 0)) (turns_to s WritesSuper) (fails s) (λ _. record { stands = its; task = tt }) (λ _. record { stands = its; task = tt }))

-- Decisions

held_with : (t : Tables) (txn : Option Txn) → TablesAreHeld t → TablesAreHeld (value_applied t txn)
held_with t None held = held
held_with t (Some txn) held = applied_held t txn.changes held

proceeds_spelled : (s : Stand) → Stands s → (before after : Held) (txn : Option Txn) (input : Option (List ℕ)) (p : Option Pending) → TablesAreHeld after.tables → IsShortFor p → IsSpelledStep (proceeds s before after txn input p)
proceeds_spelled s its before after txn (Some input) (Some p) held short =
    let step : Moved = data_moves s.volume after.tables (size_in before.tables p.call) p.call in
    step_if (is_txn_of s.mount p.number txn) (data_moved s step) (plans s after p) (λ _. moved_spelled s its step) (λ _. plans_spelled s its after held p short)
proceeds_spelled s its before after txn (Some input) None held short = syncs_spelled s its after held None tt
proceeds_spelled s its before after txn None p held short = syncs_spelled s its after held p short

module _ (h : Held) (p : Option Pending) (held : TablesAreHeld h.tables) (short : IsShortFor p) where
  balloted_spelled : (s : Stand) → Stands s → (input : Option (List ℕ)) (step : BallotStep) → IsSpelledInput input → IsSpelledWorked (balloted s h p input step)
  balloted_spelled s its input Go is = record { step = stays_spelled s its; tables = held }
  balloted_spelled s its input (Abort mbal) is = record { step = aborted_spelled s its input is; tables = held }
  balloted_spelled s its input NoValue is = record { step = synced_spelled s its h held p short; tables = held }
  balloted_spelled s its input (Decided value) is =
      let after = held_with h.tables (txn_in value) held in
      record { step = proceeds_spelled (position_advanced s) (new_spelled s.position.layout s.mount) h (record h { tables = value_applied h.tables (txn_in value) }) (txn_in value) input p after short; tables = after }

  -- Answers

  module _ (s : Stand) (its : Stands s) where
    having_read_spelled : (a : ℕ) (sectors : List (List ℕ)) → AreSpelled (having_read s.position a (blocks_in sectors)).ballot
    having_read_spelled a sectors = by _
      where
        by : (b : Bool) → (let after : PositionIs = record s.position { ballot = (read_at s.position.ballot a (blocks_in sectors)).ballot } in let x : PositionIs = if b then after else having_seen after (blocks_in sectors) in AreSpelled x.ballot)
        by true = read_spelled s.position.ballot a (blocks_in sectors) its (in_sectors sectors)
        by false = read_spelled s.position.ballot a (blocks_in sectors) its (in_sectors sectors)

    still_spelled : (t : Stand) → Stands t → IsSpelledWorked (record { step = work_stays t; tables = h.tables })
    still_spelled t so = record { step = stays_spelled t so; tables = held }

    ballot_read_spelled : (work : MountWork) → IsSpelledWork work → (a : ℕ) (sectors : List (List ℕ)) → IsSpelledWorked (ballot_read s h p work a (blocks_in sectors))
    ballot_read_spelled (Ballots input) is a sectors =
        balloted_spelled (record s { position = having_read s.position a (blocks_in sectors) }) (having_read_spelled a sectors) input (read_at s.position.ballot a (blocks_in sectors)).step is
    ballot_read_spelled work is a sectors = still_spelled (record s { position = having_read s.position a (blocks_in sectors) }) (having_read_spelled a sectors)

    look_spelled : (work : MountWork) → IsSpelledWork work → (a : ℕ) (reply : Reply) → IsSpelledStep (look_answered (errand_freed s a) h p work a reply)
    look_spelled (Syncs looks) is a (Bytes sectors) =
        syncs_on_spelled (record (errand_freed s a) { position = having_seen s.position (blocks_in sectors) }) its h held p (having_looked looks a (blocks_in sectors)) short
    look_spelled work is a reply = stays_spelled (errand_freed s a) its

    pause_spelled : (work : MountWork) → IsSpelledWork work → (a : ℕ) → IsSpelledStep (pause_answered (errand_freed s a) work)
    pause_spelled (Pauses input left) is a = paused_spelled (errand_freed s a) its input left is
    pause_spelled work is a = stays_spelled (errand_freed s a) its

    super_answered_spelled : (work : MountWork) (a : ℕ) (reply : Reply) → IsSpelledStep (super_answered (errand_freed s a) h p work reply)
    super_answered_spelled ReadsSuper a (Bytes sectors) = super_spelled (errand_freed s a) its h held p (bytes_of sectors) short
    super_answered_spelled work a reply = stays_spelled (errand_freed s a) its

    super_filled_spelled : (work : MountWork) (a : ℕ) → IsSpelledStep (super_filled (errand_freed s a) h p work)
    super_filled_spelled WritesSuper a = syncs_spelled (errand_freed s a) its h held p short
    super_filled_spelled work a = stays_spelled (errand_freed s a) its

    errand_spelled : (errand : Errand) (work : MountWork) → IsSpelledWork work → (a : ℕ) (reply : Reply) → IsSpelledWorked (errand_answered errand s h p work a reply)
    errand_spelled Free work is a Written = still_spelled (ballot_answered s h p work a Written).step.stand (written_spelled s.position.ballot a its)
    errand_spelled Free work is a (Bytes sectors) = ballot_read_spelled work is a sectors
    errand_spelled OfSync work is a reply = record { step = look_spelled work is a reply; tables = held }
    errand_spelled OfPause work is a reply = record { step = pause_spelled work is a; tables = held }
    errand_spelled OfSuper work is a reply = record { step = super_answered_spelled work a reply; tables = held }
    errand_spelled FillsSuper work is a reply = record { step = super_filled_spelled work a; tables = held }
    errand_spelled LateWrite work is a reply = still_spelled (errand_freed s a) its
    errand_spelled (LateRead count) work is a reply = still_spelled (errand_freed s a) its

    data_spelled : (work : MountWork) (reply : Reply) → IsSpelledStep (data_answered s h work reply)
    data_spelled (Moves moving) reply = moved_spelled s its (moves_on s.volume h.tables moving reply)
    data_spelled work reply = stays_spelled s its

    port_spelled : (work : MountWork) → IsSpelledWork work → (port : ℕ) (reply : Reply) → IsSpelledWorked (port_answered s h p work port reply)
    port_spelled work is port reply = by (port == anchors_of s.position)
      where
        by : (b : Bool) → IsSpelledWorked (if b then record { step = data_answered s h work reply; tables = h.tables } else errand_answered (errand_at s.errands port) s h p work port reply)
        by true = record { step = data_spelled work reply; tables = held }
        by false = errand_spelled (errand_at s.errands port) work is port reply

-- Mounts

taken_spelled : (files : FilesIs) (task : MountTask) (step : Step) → TablesAreHeld files.tables → IsShortFor files.pending → IsSpelledWork task.work → IsSpelledStep step → IsSpelledMount (taken files task step).mount
taken_spelled files task step held short work is = record { anchors = is.stands; work = at_work step.task is.task; tables = held; call = call step.ends }
  where
    at_work : (o : Option MountTask) → IsSpelledTask o → (let t : MountTask = unwrap_or o task in IsSpelledWork t.work)
    at_work None its = work
    at_work (Some new) its = its

    call : (b : Bool) → IsShortFor (if b then None else files.pending)
    call true = tt
    call false = short

answered_spelled : (m : MountIs) (port : ℕ) (reply : Reply) → IsSpelledMount m → IsSpelledMount (mount_answered m port reply).mount
answered_spelled m port reply is =
    let w : Worked = port_answered (stand_of m) (tables_held m.files) m.files.pending m.task.work port reply in
    let so : IsSpelledWorked w = port_spelled (tables_held m.files) m.files.pending is.tables is.call (stand_of m) is.anchors m.task.work is.work port reply in
    taken_spelled (record m.files { tables = w.tables }) m.task w.step so.tables is.call is.work so.step

starting_spelled : (m : MountIs) (call : FileCall) → IsShortCall call → IsSpelledMount m → IsSpelledMount (starting m call).mount
starting_spelled m call short is =
    let n : MountIs = having_started m call in
    taken_spelled n.files n.task (syncs (stand_of n) (tables_held n.files) n.files.pending) is.tables short is.work
    (syncs_spelled (stand_of n) is.anchors (tables_held n.files) is.tables n.files.pending short)

asked_mount_spelled : (m : MountIs) (port : ℕ) → IsSpelledMount m → IsSpelledMount (mount_asked m port)
asked_mount_spelled m port is = by (port == anchors_of m.position)
  where
    looks : (stage : Stage) → (let h : Handed = looks_on (stand_of m) port stage in Stands h.stand)
    looks ReadsLow = is.anchors
    looks ReadsHigh = is.anchors
    looks Writes = is.anchors
    looks HasDone = is.anchors

    handing : (b : Bool) (errand : Errand) (ask : Ask) → (let h : Handed = if b then hands_errand (stand_of m) port errand ask else hands_nothing (stand_of m) in Stands h.stand)
    handing true errand ask = is.anchors
    handing false errand ask = is.anchors

    works : (work : MountWork) → (let h : Handed = works_on (stand_of m) work port in Stands h.stand)
    works ReadsSuper = handing (port == 0) OfSuper (reads_super m.files.volume)
    works WritesSuper = handing (port == 0) FillsSuper (writes_super m.files.volume)
    works (Syncs look) = looks (look_at look port).stage
    works (Ballots input) = asked_spelled m.position.ballot port is.anchors
    works (Pauses input left) = handing (not (is_pausing m.errands) && (port == least_free_anchor m.errands m.position.ballot.parts)) OfPause (reads_first (journal_of m.position) m.files.volume port m.upto)
    works work = is.anchors

    at_anchor : (b : Bool) → (let h : Handed = if b then works_on (stand_of m) m.task.work port else hands_nothing (stand_of m) in Stands h.stand)
    at_anchor true = works m.task.work
    at_anchor false = is.anchors

    by : (b : Bool) → (let n : MountIs = if b then asked_data m else asked_anchor m port in IsSpelledMount n)
    by true = record { anchors = is.anchors; work = is.work; tables = is.tables; call = is.call }
    by false = record { anchors = at_anchor (is_anchor_free m.errands m.position.ballot.parts port); work = is.work; tables = is.tables; call = is.call }

input_spelled : (m : MountIs) (input : Input) → IsShortInput input → IsSpelledMount m → IsSpelledMount (mount_after m input)
input_spelled m (Begins call) short is = starting_spelled m call short is
input_spelled m (Asks port) short is = asked_mount_spelled m port is
input_spelled m (Hears port reply) short is = answered_spelled m port reply is

-- All that is told

all_spelled : (told : List MountTold) (ls : ℕ → Life) → AreShort told → ((m : ℕ) → IsSpelledMount (ls m).mount) → (m : ℕ) → IsSpelledMount (lives_from ls told m).mount
all_spelled [] ls short each = each
all_spelled (t ∷ told) ls short each = all_spelled told (lived ls t) short.1 (λ m. by m (m == t.mount))
  where
    by : (m : ℕ) (b : Bool) → (let l : Life = if b then lives_on (ls m) t.input else ls m in IsSpelledMount l.mount)
    by m true = input_spelled (ls m).mount t.input short.0 (each m)
    by m false = each m

first_spelled : (layout : Layout) → IsSpelledWork (first_work (layout_of layout))
first_spelled Plain = tt
first_spelled Three = tt

-- of a volume of eight chunks of 4,096 sectors at most
opened_spelled : (layout : Layout) (v : Extent) → IsVolume v → (m : ℕ) → IsSpelledMount (mount_opening layout m v)
opened_spelled layout v is m = record {
  anchors = new_spelled layout m;
  work = first_spelled layout;
  tables = new_held (size_of v / 8) (let most : v.chunks * v.sectors ≤ 8 * 4096 = mul-le-mul is.few_chunks is.few_sectors in omega (arith, most));
  call = tt;
}

pub own_spelled : (layout : Layout) (v : Extent) (told : List MountTold) (m : ℕ) → IsVolume v → AreShort told → HasSpelling (lives layout v told m).mount.position.ballot.own
own_spelled layout v told m is short = (all_spelled told (all_opened layout v) short (opened_spelled layout v is) m).anchors.own
