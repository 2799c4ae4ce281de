-- A mount keeps its layout, and its ballots are over the anchors of it, whatever it hears.
use Rattle.std.proofs.Common.{◌≡◌, ℕ, suc, ◌<◌, ◌≤◌, inl, inr, Bool, true, false, not, ◌&&◌, ◌==◌, if◌then◌else◌, List, [], ◌∷◌, length, Option, arith, refl, sym, subst, ◌∙◌}
use Rattle.std.proofs.lemmas.List.{length-replicate, length-set}
use Rattle.pf_base.specs.declared.asks.Reply.{Reply}
use Rattle.pf_base.specs.declared.asks.Reply.TheVariants.{Written, Bytes}
use Rattle.pf_volume.specs.Volumes.{Extent}
use Rattle.pf_txn.specs.Reading.{txn_in}
use Rattle.pf_paxos.specs.declared.block.Block.{Block}
use Rattle.pf_paxos.specs.declared.parts.AnchorAsk.TheVariants.{Nothing}
use Rattle.pf_paxos.specs.declared.parts.Part.{Part}
use Rattle.pf_paxos.specs.declared.parts.Stage.{Stage}
use Rattle.pf_paxos.specs.declared.parts.Stage.TheVariants.{ReadsLow, ReadsHigh}
use Rattle.pf_paxos.specs.declared.ballot.BallotStep.{BallotStep}
use Rattle.pf_paxos.specs.declared.ballot.BallotStep.TheVariants.{Go, Abort, NoValue, Decided}
use Rattle.pf_paxos.specs.Blocks.{zero_block}
use Rattle.pf_paxos.specs.Parts.{fresh, part_at}
use Rattle.pf_paxos.specs.Ballots.{BallotIs, read_at}
use Rattle.pf_paxos.proofs.BallotForms.{at_new}
use Rattle.pf_journal.specs.declared.layouts.Layout.{Layout}
use Rattle.pf_journal.specs.declared.layouts.Layout.TheVariants.{Plain, Three}
use Rattle.pf_journal.specs.Layouts.{layout_of}
use Rattle.pf_file_calls.specs.Blocks.{bytes_of}
use Rattle.pf_file_calls.specs.Calls.{value_applied}
use Rattle.pf_file_calls.specs.Moving.{moves_on}
use Rattle.pf_mount_errands.specs.Blocks.{blocks_in}
use Rattle.pf_mount_errands.proofs.Counts.{read_count, started_count}
use Rattle.pf_mount_errands.specs.declared.errands.Errand.{Errand}
use Rattle.pf_mount_errands.specs.declared.errands.Errand.TheVariants.{Free, OfSync, OfPause, OfSuper, FillsSuper, LateWrite, LateRead}
use Rattle.pf_mount_errands.specs.Errands.{all_left, errand_at, is_anchor_free, is_pausing, least_free_anchor, with_errand}
use Rattle.pf_mount_errands.specs.Looks.{having_looked, look_at}
use Rattle.pf_mount_errands.specs.Positions.{IsOverAnchors, PositionIs, anchors_of, having_aborted, having_read, having_seen, having_written, new_position, rest_of_pause}
use Rattle.pf_mount.specs.declared.work.MountWork.{MountWork}
use Rattle.pf_mount.specs.declared.work.MountWork.TheVariants.{ReadsSuper, WritesSuper, Syncs, Ballots, Pauses, Moves}
use Rattle.pf_mount.specs.Mounts.{MountIs, Worked, asked_anchor, asked_data, ballot_read, balloted, data_answered, errand_answered, hands_nothing, having_started, tables_held, look_answered, looks_on, mount_opening, pause_answered, port_answered, stand_of, super_answered, super_filled, works_on}
use Rattle.pf_law_calls.specs.Lives.{Asks, Begins, Hears, Input, Life, MountTold, all_opened, lived, lives, lives_from, lives_on, mount_after}
use Rattle.pf_law_calls.proofs.MountSteps.{GoesOn, moved_go, paused_go, pauses_go, proceeds_go, super_read_go, synced_go, syncs_go, syncs_on_go}

abbrev pub anchors_in : Layout → ℕ
anchors_in layout = length (layout_of layout).anchors

pub few_anchors : (layout : Layout) → anchors_in layout ≤ 3
few_anchors Plain = omega arith
few_anchors Three = omega arith

pub below_three : (layout : Layout) (a : ℕ) → a < anchors_in layout → a < 3
below_three layout a low = let few = few_anchors layout in omega (arith, few, low)

-- the ballots of a mount that did nothing yet
abbrev pub new_in : Layout → (mount : ℕ) → BallotIs
new_in layout mount = (new_position layout mount).ballot

pub new_count : (layout : Layout) (mount : ℕ) → length (new_in layout mount).parts ≡ anchors_in layout
new_count layout mount = length-replicate (anchors_in layout) (fresh zero_block)

pub new_idle : (layout : Layout) (mount a : ℕ) → (part_at (new_in layout mount).parts a).asked ≡ Nothing
new_idle layout mount a = at_new (λ (part : Part). part.asked ≡ Nothing) (anchors_in layout) (fresh zero_block) a refl refl

-- what is read leaves the layout
pub read_layout : (x : PositionIs) (a : ℕ) (blocks : List Block) → (having_read x a blocks).layout ≡ x.layout
read_layout x a blocks = by (part_at x.ballot.parts a).is_late
  where
    by : (b : Bool) → (let after : PositionIs = record x { ballot = (read_at x.ballot a blocks).ballot } in let r : PositionIs = if b then after else having_seen after blocks in r.layout) ≡ x.layout
    by true = refl
    by false = refl

pub record Lies (layout : Layout) (p : MountIs) : Type 0 where
  pub lies : p.position.layout ≡ layout
  pub over : IsOverAnchors p.position

-- what a mount hands out, whose type has no name here
abbrev CodomainOf : {A B : Type 0} → (A → B) → Type 0
CodomainOf {A} {B} f = B

abbrev Handed : Type 0
Handed = CodomainOf hands_nothing

module _ (layout : Layout) where
  abbrev Lie : PositionIs → Type 0
  Lie x = (x.layout ≡ layout) × IsOverAnchors x

  abbrev LieAfter : Worked → Type 0
  LieAfter w = Lie w.step.stand.position

  -- Steps

  goes_lie : (n : MountIs) (w : Worked) → Lie n.position → GoesOn n w → LieAfter w
  goes_lie n w lie (inl r) = elim r.stand [
    | inl same ↦ subst (λ s. Lie s.position) (sym same) lie
    | inr late ↦ subst (λ s. Lie s.position) (sym late) lie
  ]
  goes_lie n w lie (inr s) = subst (λ x. Lie x.position) (sym s.stand) (lie.0, started_count n.position.ballot n.position.rivals.seen s.input ∙ lie.1)

  written_lies : (x : PositionIs) (a : ℕ) → Lie x → Lie (having_written x a)
  written_lies x a lie = (lie.0, length-set x.ballot.parts a _ ∙ lie.1)

  read_lies : (x : PositionIs) (a : ℕ) (blocks : List Block) → Lie x → Lie (having_read x a blocks)
  read_lies x a blocks lie = by (part_at x.ballot.parts a).is_late
    where
      by : (b : Bool) → (let after : PositionIs = record x { ballot = (read_at x.ballot a blocks).ballot } in Lie (if b then after else having_seen after blocks))
      by true = (lie.0, read_count x.ballot a blocks ∙ lie.1)
      by false = (lie.0, read_count x.ballot a blocks ∙ lie.1)

  module _ (m : MountIs) (lie : Lie m.position) where
    balloted_lies : (x : PositionIs) → Lie x → (input : Option (List ℕ)) (step : BallotStep) → LieAfter (balloted (stand_of (record m { position = x })) (tables_held m.files) m.files.pending input step)
    balloted_lies x its input Go = its
    balloted_lies x its input (Abort mbal) =
        let n = record m { position = having_aborted x } in
        goes_lie n _ its (pauses_go n m.files.tables input (rest_of_pause m.files.mount (having_aborted x)))
    balloted_lies x its input NoValue = let n = record m { position = x } in goes_lie n _ its (synced_go n m.files.tables (tables_held m.files) m.files.pending)
    balloted_lies x its input (Decided value) =
        let n : MountIs = record m { upto = suc m.upto; position = new_position x.layout m.files.mount; errands = all_left m.errands x.ballot.parts } in
        let h = tables_held m.files in
        let t = value_applied m.files.tables (txn_in value) in
        goes_lie n _ (its.0, new_count x.layout m.files.mount) (proceeds_go n t h (record h { tables = t }) (txn_in value) input m.files.pending)

    -- Answers

    module _ (a : ℕ) (reply : Reply) where
      abbrev n : MountIs
      n = record m { errands = with_errand m.errands a Free }

      half_read : (work : MountWork) (blocks : List Block) → LieAfter (ballot_read (stand_of m) (tables_held m.files) m.files.pending work a blocks)
      half_read (Ballots input) blocks = balloted_lies (having_read m.position a blocks) (read_lies m.position a blocks lie) input (read_at m.position.ballot a blocks).step
      half_read work blocks = read_lies m.position a blocks lie

      look_lies : (work : MountWork) (r : Reply) → LieAfter (record { step = look_answered (stand_of n) (tables_held m.files) m.files.pending work a r; tables = m.files.tables })
      look_lies (Syncs looks) (Bytes sectors) =
          let x = having_seen m.position (blocks_in sectors) in
          goes_lie (record n { position = x }) _ lie (syncs_on_go (record n { position = x }) m.files.tables (tables_held m.files) m.files.pending (having_looked looks a (blocks_in sectors)))
      look_lies work r = lie

      pause_lies : (work : MountWork) → LieAfter (record { step = pause_answered (stand_of n) work; tables = m.files.tables })
      pause_lies (Pauses input left) = goes_lie n _ lie (paused_go n m.files.tables input left)
      pause_lies work = lie

      super_lies : (work : MountWork) (r : Reply) → LieAfter (record { step = super_answered (stand_of n) (tables_held m.files) m.files.pending work r; tables = m.files.tables })
      super_lies ReadsSuper (Bytes sectors) = goes_lie n _ lie (super_read_go n m.files.tables (tables_held m.files) m.files.pending (bytes_of sectors))
      super_lies work r = lie

      fills_lies : (work : MountWork) → LieAfter (record { step = super_filled (stand_of n) (tables_held m.files) m.files.pending work; tables = m.files.tables })
      fills_lies WritesSuper = goes_lie n _ lie (syncs_go n m.files.tables (tables_held m.files) m.files.pending)
      fills_lies work = lie

      errand_lies : (errand : Errand) (r : Reply) → LieAfter (errand_answered errand (stand_of m) (tables_held m.files) m.files.pending m.task.work a r)
      errand_lies Free Written = written_lies m.position a lie
      errand_lies Free (Bytes sectors) = half_read m.task.work (blocks_in sectors)
      errand_lies OfSync r = look_lies m.task.work r
      errand_lies OfPause r = pause_lies m.task.work
      errand_lies OfSuper r = super_lies m.task.work r
      errand_lies FillsSuper r = fills_lies m.task.work
      errand_lies LateWrite r = lie
      errand_lies (LateRead count) r = lie

      data_lies : (work : MountWork) → LieAfter (record { step = data_answered (stand_of m) (tables_held m.files) work reply; tables = m.files.tables })
      data_lies (Moves moving) = goes_lie m _ lie (moved_go m m.files.tables (moves_on m.files.volume m.files.tables moving reply))
      data_lies work = lie

      port_lies : LieAfter (port_answered (stand_of m) (tables_held m.files) m.files.pending m.task.work a reply)
      port_lies = by (a == anchors_of m.position)
        where
          by : (b : Bool) → LieAfter (if b then record { step = data_answered (stand_of m) (tables_held m.files) m.task.work reply; tables = m.files.tables } else errand_answered (errand_at m.errands a) (stand_of m) (tables_held m.files) m.files.pending m.task.work a reply)
          by true = data_lies m.task.work
          by false = errand_lies (errand_at m.errands a) reply

    -- Asks

    asked_lies : (port : ℕ) → Lie (let n : MountIs = if port == anchors_of m.position then asked_data m else asked_anchor m port in n.position)
    asked_lies port = by (port == anchors_of m.position)
      where
        if_lies : (b : Bool) (h k : Handed) → Lie h.stand.position → Lie k.stand.position → Lie (if b then h else k).stand.position
        if_lies true h k of_h of_k = of_h
        if_lies false h k of_h of_k = of_k

        looks : (stage : Stage) → Lie (looks_on (stand_of m) port stage).stand.position
        looks ReadsLow = lie
        looks ReadsHigh = lie
        looks stage = lie

        works : (work : MountWork) → Lie (works_on (stand_of m) work port).stand.position
        works (Syncs look) = looks (look_at look port).stage
        works (Ballots input) = (lie.0, length-set m.position.ballot.parts port _ ∙ lie.1)
        works (Pauses input left) = if_lies (not (is_pausing m.errands) && (port == least_free_anchor m.errands m.position.ballot.parts)) _ _ lie lie
        works ReadsSuper = if_lies (port == 0) _ _ lie lie
        works WritesSuper = if_lies (port == 0) _ _ lie lie
        works work = lie

        by : (b : Bool) → Lie (let n : MountIs = if b then asked_data m else asked_anchor m port in n.position)
        by true = lie
        by false = if_lies (is_anchor_free m.errands m.position.ballot.parts port) (works_on (stand_of m) m.task.work port) (hands_nothing (stand_of m)) (works m.task.work) lie

  -- Inputs

  pub new_lies : (number : ℕ) (v : Extent) → Lies layout (mount_opening layout number v)
  new_lies number v = record { lies = refl; over = new_count layout number }

  input_lie : (m : MountIs) (input : Input) → Lie m.position → Lie (mount_after m input).position
  input_lie m (Begins call) lie = let n = having_started m call in goes_lie n _ lie (syncs_go n n.files.tables (tables_held n.files) n.files.pending)
  input_lie m (Asks port) lie = asked_lies m lie port
  input_lie m (Hears port reply) lie = port_lies m lie port reply

  pub input_lies : (m : MountIs) (input : Input) → Lies layout m → Lies layout (mount_after m input)
  input_lies m input is = let its = input_lie m input (is.lies, is.over) in record { lies = its.0; over = its.1 }

  -- All that is told

  all_lie : (told : List MountTold) (ls : ℕ → Life) → ((m : ℕ) → Lies layout (ls m).mount) → (m : ℕ) → Lies layout (lives_from ls told m).mount
  all_lie [] ls each = each
  all_lie (t ∷ told) ls each = all_lie told (lived ls t) (λ m. by m (m == t.mount))
    where
      by : (m : ℕ) (b : Bool) → Lies layout (let l : Life = if b then lives_on (ls m) t.input else ls m in l.mount)
      by m true = input_lies (ls m).mount t.input (each m)
      by m false = each m

  pub mounts_lie : (v : Extent) (told : List MountTold) (m : ℕ) → Lies layout (lives layout v told m).mount
  mounts_lie v told m = all_lie told (all_opened layout v) (λ k. new_lies k v) m
