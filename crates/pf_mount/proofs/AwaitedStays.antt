-- What a port awaits it awaits until it is answered.
use Rattle.std.proofs.Common.{◌≡◌, ◌≢◌, ℕ, zero, suc, ◌<◌, ◌≤◌, Bool, true, false, cond, not, ◌&&◌, ◌==◌, if◌then◌else◌, List, [], Option, Some, None, replicate, length, refl, sym, ap, subst, ◌∙◌, arith}
use Rattle.std.specs.Prelude.{unwrap_or}
use Rattle.std.specs.Str.{bytes_eq}
use Rattle.std.proofs.lemmas.Bool.{eqb-false, eqb-true}
use Rattle.std.proofs.lemmas.List.{length-replicate, set-get_or}
use Rattle.pf_base.specs.Asks.{Answers as AnswersAsk}
use Rattle.pf_base.specs.declared.asks.Ask.{Ask}
use Rattle.pf_base.specs.declared.asks.Ask.TheVariants as asks
use Rattle.pf_base.specs.declared.asks.Reply.{Reply}
use Rattle.pf_base.specs.declared.asks.Reply.TheVariants.{Written, Bytes}
use Rattle.pf_tree_tables.specs.declared.changes.Txn.{Txn}
use Rattle.pf_layout.specs.Supers.{super_block}
use Rattle.pf_tree.specs.Held.{Held, data_of}
use Rattle.pf_tree.specs.Calls.{FileCall}
use Rattle.pf_txn.specs.Spelling.{spell_txn}
use Rattle.pf_txn.specs.Reading.{txn_in}
use Rattle.pf_paxos.specs.declared.block.Block.{Block}
use Rattle.pf_paxos.specs.declared.parts.AnchorAsk.{AnchorAsk}
use Rattle.pf_paxos.specs.declared.parts.AnchorAsk.TheVariants.{Nothing, OwnBlock, Half}
use Rattle.pf_paxos.specs.declared.ballot.BallotStep.{BallotStep}
use Rattle.pf_paxos.specs.declared.ballot.BallotStep.TheVariants.{Go, Abort, NoValue, Decided}
use Rattle.pf_paxos.specs.declared.parts.Stage.{Stage}
use Rattle.pf_paxos.specs.declared.parts.Stage.TheVariants.{Writes, ReadsLow, ReadsHigh, Done}
use Rattle.pf_paxos.specs.declared.parts.AnchorNext.{AnchorNext}
use Rattle.pf_paxos.specs.declared.parts.AnchorNext.TheVariants.{Write, Read, Idle}
use Rattle.pf_paxos.specs.declared.parts.Part.{Part}
use Rattle.pf_paxos.specs.Blocks.{zero_block}
use Rattle.pf_paxos.specs.Parts.{fresh, no_part, part_at, part_takes, with_part}
use Rattle.pf_paxos.specs.Ballots.{next_at_anchor, read_at}
use Rattle.pf_file_calls.specs.declared.answers.CallAnswer.TheVariants.{Refused}
use Rattle.pf_file_calls.specs.declared.answers.CallFault.TheVariants.{JournalFull}
use Rattle.pf_file_calls.specs.declared.calls.Pending.{Pending}
use Rattle.pf_file_calls.specs.declared.calls.Planned.{Planned}
use Rattle.pf_file_calls.specs.declared.calls.Planned.TheVariants.{Refuses, Proposes, Goes}
use Rattle.pf_file_calls.specs.declared.moving.Moved.{Moved}
use Rattle.pf_file_calls.specs.declared.moving.Moved.TheVariants.{Asks, Ends}
use Rattle.pf_file_calls.specs.declared.moving.DataMoving.{DataMoving}
use Rattle.pf_file_calls.specs.Blocks.{bytes_of}
use Rattle.pf_file_calls.specs.Calls.{value_applied, is_txn_of, planned, size_in}
use Rattle.pf_file_calls.specs.Moving.{data_moves, moves_on}
use Rattle.pf_mount_errands.specs.Blocks.{blocks_in}
use Rattle.pf_mount_errands.specs.declared.errands.Errand.{Errand}
use Rattle.pf_mount_errands.specs.declared.errands.Errand.TheVariants.{Free, OfSync, OfPause, OfSuper, FillsSuper, LateWrite, LateRead}
use Rattle.pf_mount_errands.specs.declared.errands.Errands.{Errands}
use Rattle.pf_mount_errands.specs.declared.looks.Looks.{Looks}
use Rattle.pf_mount_errands.specs.Errands.{all_late, errand_at, is_anchor_free, is_free_of, is_pausing, late, least_free_anchor, left_behind, with_errand}
use Rattle.pf_mount_errands.specs.Looks.{are_looked, have_found, having_looked, look_at, new_looks}
use Rattle.pf_mount_errands.specs.Places.{reads_first, reads_half, reads_super, writes_super}
use Rattle.pf_mount_errands.specs.Positions.{anchors_of, can_start, having_read, having_seen, journal_of, starting_ballot}
use Rattle.pf_mount.specs.declared.stand.Handed.{Handed}
use Rattle.pf_mount.specs.declared.stand.Stand.{Stand}
use Rattle.pf_mount.specs.declared.stand.MountStep.{MountStep}
use Rattle.pf_mount.specs.declared.work.MountTask.{MountTask}
use Rattle.pf_mount.specs.declared.work.MountWork.{MountWork}
use Rattle.pf_mount.specs.declared.work.MountWork.TheVariants.{Rests, Fails, ReadsSuper, WritesSuper, Syncs, Ballots, Pauses, Moves}
use Rattle.pf_mount.specs.Mounts.{MountIs, Worked, position_advanced, anchor_hands, mount_answered, ask_at, mount_asked, asked_anchor, asked_data, ballot_asks_next, ballot_answered, ballot_read, balloted, ballots, ballots_on, data_answered, done, errand_answered, fails, errand_freed, hands_errand, hands_nothing, having_started, tables_held, look_answered, looks_on, data_moved, pause_answered, paused, pauses, pauses_on, plans, plans_as, port_answered, proceeds, proceeds_with, proposes, stand_of, starting, super_answered, super_filled, super_read, supers_on, synced, syncs, syncs_on, turns_to, works_on}
use Rattle.pf_mount.specs.Standing.{AnswersPort, AnswersData, AnswersErrand, Awaits, AwaitsStill}
use Rattle.pf_journal.specs.declared.layouts.Layout.{Layout}
use Rattle.pf_journal.specs.Layouts.{layout_of}
use Rattle.pf_mount.proofs.LaidOut.{answered_laid, asked_mount_laid, few, starting_laid}
use Rattle.pf_mount.proofs.AnchorAsks.{having_read_asked, next_asked, started_asked, written_asked}

-- Errands

errand_other : (e : Errands) (a b : ℕ) (x : Errand) → a < 3 → b < 3 → b ≢ a → errand_at (with_errand e a x) b ≡ errand_at e b
errand_other e a b x low_a low_b apart = by (a == 0) refl (a == 1) refl (b == 0) refl (b == 1) refl
  where
    by : (i : Bool) → (a == 0) ≡ i → (j : Bool) → (a == 1) ≡ j → (k : Bool) → (b == 0) ≡ k → (l : Bool) → (b == 1) ≡ l → (let r = cond i (record e { errand_0 = x }) (cond j (record e { errand_1 = x }) (record e { errand_2 = x })) in cond k r.errand_0 (cond l r.errand_1 r.errand_2)) ≡ cond k e.errand_0 (cond l e.errand_1 e.errand_2)
    by true is_i j is_j true is_k l is_l = absurd (apart (eqb-true b 0 is_k ∙ sym (eqb-true a 0 is_i)))
    by true is_i j is_j false is_k true is_l = refl
    by true is_i j is_j false is_k false is_l = refl
    by false is_i true is_j true is_k l is_l = refl
    by false is_i true is_j false is_k true is_l = absurd (apart (eqb-true b 1 is_l ∙ sym (eqb-true a 1 is_j)))
    by false is_i true is_j false is_k false is_l = refl
    by false is_i false is_j true is_k l is_l = refl
    by false is_i false is_j false is_k true is_l = refl
    by false is_i false is_j false is_k false is_l = absurd (omega (arith, apart, low_a, low_b, eqb-false a 0 is_i, eqb-false a 1 is_j, eqb-false b 0 is_k, eqb-false b 1 is_l))

late_answers : (x : Errand) (n : AnchorAsk) (reply : Reply) → AnswersErrand x n reply → AnswersErrand (late x) n reply
late_answers Free n reply is = is
late_answers OfSync n reply is = is
late_answers OfPause n reply is = is
late_answers OfSuper n reply is = is
late_answers FillsSuper n reply is = is
late_answers LateWrite n reply is = is
late_answers (LateRead count) n reply is = is

left_answers : (x : Errand) (n : AnchorAsk) (reply : Reply) → AnswersErrand x n reply → AnswersErrand (left_behind x n) Nothing reply
left_answers Free OwnBlock reply is = is
left_answers Free (Half half) reply is = is
left_answers Free Nothing reply is = absurd is
left_answers OfSync n reply is = is
left_answers OfPause n reply is = is
left_answers OfSuper n reply is = is
left_answers FillsSuper n reply is = is
left_answers LateWrite n reply is = is
left_answers (LateRead count) n reply is = is

fresh_asked : (own : Block) (n q : ℕ) → (part_at (replicate n (fresh own)) q).asked ≡ Nothing
fresh_asked own zero q = refl
fresh_asked own (suc n) zero = refl
fresh_asked own (suc n) (suc q) = fresh_asked own n q

-- the position is left: what answered an anchor before answers it after, where nothing is asked any more
left_at : (q : ℕ) → q < 3 → (s : Stand) (reply : Reply) → AnswersErrand (errand_at s.errands q) (part_at s.position.ballot.parts q).asked reply → AnswersErrand (errand_at (position_advanced s).errands q) (part_at (position_advanced s).position.ballot.parts q).asked reply
left_at q low s reply is = subst (λ (n : AnchorAsk). AnswersErrand (errand_at (position_advanced s).errands q) n reply) (sym (fresh_asked zero_block (anchors_of s.position) q)) (by q low is)
  where
    by : (k : ℕ) → k < 3 → AnswersErrand (errand_at s.errands k) (part_at s.position.ballot.parts k).asked reply → AnswersErrand (errand_at (position_advanced s).errands k) Nothing reply
    by zero small = left_answers s.errands.errand_0 (part_at s.position.ballot.parts 0).asked reply
    by (suc zero) small = left_answers s.errands.errand_1 (part_at s.position.ballot.parts 1).asked reply
    by (suc (suc zero)) small = left_answers s.errands.errand_2 (part_at s.position.ballot.parts 2).asked reply
    by (suc (suc (suc k))) small = absurd (omega (arith, small))

-- Steps, at another anchor

module _ (q : ℕ) where
  abbrev AnswersAt : Stand → Reply → Type 0
  AnswersAt s reply = AnswersErrand (errand_at s.errands q) (part_at s.position.ballot.parts q).asked reply

  -- what answers this anchor before answers it after
  abbrev Keeps : (before after : Stand) → Type 0
  Keeps s t = (reply : Reply) → AnswersAt s reply → AnswersAt t reply

  same_keeps : (s t : Stand) → errand_at t.errands q ≡ errand_at s.errands q → (part_at t.position.ballot.parts q).asked ≡ (part_at s.position.ballot.parts q).asked → Keeps s t
  same_keeps s t errand next reply is =
      subst (λ (x : Errand). AnswersErrand x (part_at t.position.ballot.parts q).asked reply) (sym errand)
      (subst (λ (n : AnchorAsk). AnswersErrand (errand_at s.errands q) n reply) (sym next) is)

  late_keeps : (s : Stand) → Keeps s (record s { errands = all_late s.errands })
  late_keeps s reply = by (part_at s.position.ballot.parts q).asked (q == 0) (q == 1)
    where
      by : (n : AnchorAsk) (b c : Bool) → (let e = s.errands in AnswersErrand (cond b e.errand_0 (cond c e.errand_1 e.errand_2)) n reply → AnswersErrand (cond b (late e.errand_0) (cond c (late e.errand_1) (late e.errand_2))) n reply)
      by n true c = late_answers s.errands.errand_0 n reply
      by n false true = late_answers s.errands.errand_1 n reply
      by n false false = late_answers s.errands.errand_2 n reply

  keeps_if : (s : Stand) (b : Bool) (x y : MountStep) → Keeps s x.stand → Keeps s y.stand → (let z : MountStep = if b then x else y in Keeps s z.stand)
  keeps_if s true x y of_x of_y = of_x
  keeps_if s false x y of_x of_y = of_y

  same : (s : Stand) → Keeps s s
  same s reply is = is

  ballots_keep : (s : Stand) (input : Option (List ℕ)) → Keeps s (ballots s input).stand
  ballots_keep s input =
      let t : Stand = record s { position = starting_ballot s.position input } in
      keeps_if s (can_start s.position) (turns_to t (Ballots input)) (pauses s input 0)
      (same_keeps s t refl (started_asked q s.position.ballot s.position.rivals.seen input)) (same s)

  paused_keeps : (s : Stand) (input : Option (List ℕ)) (left : ℕ) → Keeps s (paused s input left).stand
  paused_keeps s input zero = ballots_keep s input
  paused_keeps s input (suc left) = same s

  moved_keeps : (s : Stand) (x : Moved) → Keeps s (data_moved s x).stand
  moved_keeps s (Asks ask moving) = same s
  moved_keeps s (Ends answer) = same s

  proposes_keeps : (s : Stand) (txn : Txn) → Keeps s (proposes s txn).stand
  proposes_keeps s txn = keeps_if s (s.upto == (journal_of s.position).positions) (done s (Refused JournalFull)) (ballots s (Some (spell_txn txn))) (same s) (ballots_keep s (Some (spell_txn txn)))

  plans_as_keeps : (s : Stand) (x : Planned) → Keeps s (plans_as s x).stand
  plans_as_keeps s (Refuses fault) = same s
  plans_as_keeps s (Proposes txn) = proposes_keeps s txn
  plans_as_keeps s (Goes step) = moved_keeps s step

  plans_keeps : (s : Stand) (h : Held) (p : Pending) → Keeps s (plans s h p).stand
  plans_keeps s h p = plans_as_keeps s (planned s.mount s.volume (data_of h.first h.tables) h.tables p)

  synced_keeps : (s : Stand) (h : Held) (p : Option Pending) → Keeps s (synced s h p).stand
  synced_keeps s h None = same s
  synced_keeps s h (Some p) = plans_keeps s h p

  pub syncs_keeps : (s : Stand) (h : Held) (p : Option Pending) → Keeps s (syncs s h p).stand
  syncs_keeps s h p =
      keeps_if s (s.upto == (journal_of s.position).positions) (synced s h p) (turns_to (record s { errands = all_late s.errands }) (Syncs new_looks))
      (synced_keeps s h p) (late_keeps s)

  syncs_on_keeps : (s : Stand) (h : Held) (p : Option Pending) (looks : Looks) → Keeps s (syncs_on s h p looks).stand
  syncs_on_keeps s h p looks =
      keeps_if s (not (are_looked (journal_of s.position).quorum looks)) (turns_to s (Syncs looks)) (if have_found looks then ballots s None else synced s h p)
      (same s)
      (keeps_if s (have_found looks) (ballots s None) (synced s h p) (ballots_keep s None) (synced_keeps s h p))

  super_read_keeps : (s : Stand) (h : Held) (p : Option Pending) (sector : List ℕ) → Keeps s (super_read s h p sector).stand
  super_read_keeps s h p sector =
      keeps_if s (bytes_eq sector (super_block s.volume.chunks s.volume.sectors)) (syncs s h p) (if bytes_eq sector (replicate 512 0) then turns_to s WritesSuper else fails s)
      (syncs_keeps s h p)
      (keeps_if s (bytes_eq sector (replicate 512 0)) (turns_to s WritesSuper) (fails s) (same s) (same s))

  proceeds_with_keeps : (s : Stand) (before after : Held) (txn : Option Txn) (p : Pending) → Keeps s (proceeds_with s before after txn p).stand
  proceeds_with_keeps s before after txn p =
      keeps_if s (is_txn_of s.mount p.number txn) (data_moved s (data_moves s.volume after.tables (size_in before.tables p.call) p.call)) (plans s after p)
      (moved_keeps s (data_moves s.volume after.tables (size_in before.tables p.call) p.call)) (plans_keeps s after p)

  proceeds_keeps : (s : Stand) (before after : Held) (txn : Option Txn) (input : Option (List ℕ)) (p : Option Pending) → Keeps s (proceeds s before after txn input p).stand
  proceeds_keeps s before after txn (Some input) (Some p) = proceeds_with_keeps s before after txn p
  proceeds_keeps s before after txn (Some input) None = syncs_keeps s after None
  proceeds_keeps s before after txn None p = syncs_keeps s after p

  balloted_keeps : q < 3 → (s : Stand) (h : Held) (p : Option Pending) (input : Option (List ℕ)) (step : BallotStep) → Keeps s (balloted s h p input step).step.stand
  balloted_keeps low s h p input Go = same s
  balloted_keeps low s h p input (Abort mbal) = same s
  balloted_keeps low s h p input NoValue = synced_keeps s h p
  balloted_keeps low s h p input (Decided value) = λ reply is.
      proceeds_keeps (position_advanced s) h (record h { tables = value_applied h.tables (txn_in value) }) (txn_in value) input p reply (left_at q low s reply is)

  module _ (a : ℕ) (low : a < 3) (low_q : q < 3) (apart : q ≢ a) (s : Stand) (h : Held) (p : Option Pending) where
    freed_keeps : Keeps s (errand_freed s a)
    freed_keeps = same_keeps s (errand_freed s a) (errand_other s.errands a q Free low low_q apart) refl

    having_read_keeps : (blocks : List Block) → Keeps s (record s { position = having_read s.position a blocks })
    having_read_keeps blocks = same_keeps s (record s { position = having_read s.position a blocks }) refl (having_read_asked q a apart s.position blocks)

    read_keeps : (work : MountWork) (blocks : List Block) → Keeps s (ballot_read s h p work a blocks).step.stand
    read_keeps (Ballots input) blocks = λ reply is.
        balloted_keeps low_q (record s { position = having_read s.position a blocks }) h p input (read_at s.position.ballot a blocks).step reply (having_read_keeps blocks reply is)
    read_keeps Rests blocks = having_read_keeps blocks
    read_keeps Fails blocks = having_read_keeps blocks
    read_keeps ReadsSuper blocks = having_read_keeps blocks
    read_keeps WritesSuper blocks = having_read_keeps blocks
    read_keeps (Syncs looks) blocks = having_read_keeps blocks
    read_keeps (Pauses input left) blocks = having_read_keeps blocks
    read_keeps (Moves moving) blocks = having_read_keeps blocks

    ballot_keeps : (work : MountWork) (reply : Reply) → Keeps s (ballot_answered s h p work a reply).step.stand
    ballot_keeps work Written = same_keeps s (ballot_answered s h p work a Written).step.stand refl (written_asked q a apart s.position.ballot)
    ballot_keeps work (Bytes sectors) = read_keeps work (blocks_in sectors)

    look_keeps : (work : MountWork) (reply : Reply) → Keeps s (look_answered (errand_freed s a) h p work a reply).stand
    look_keeps (Syncs looks) (Bytes sectors) = λ reply is.
        syncs_on_keeps (record (errand_freed s a) { position = having_seen s.position (blocks_in sectors) }) h p (having_looked looks a (blocks_in sectors)) reply (freed_keeps reply is)
    look_keeps (Syncs looks) Written = freed_keeps
    look_keeps Rests reply = freed_keeps
    look_keeps Fails reply = freed_keeps
    look_keeps ReadsSuper reply = freed_keeps
    look_keeps WritesSuper reply = freed_keeps
    look_keeps (Ballots input) reply = freed_keeps
    look_keeps (Pauses input left) reply = freed_keeps
    look_keeps (Moves moving) reply = freed_keeps

    pause_keeps : (work : MountWork) → Keeps s (pause_answered (errand_freed s a) work).stand
    pause_keeps (Pauses input left) = λ reply is. paused_keeps (errand_freed s a) input left reply (freed_keeps reply is)
    pause_keeps Rests = freed_keeps
    pause_keeps Fails = freed_keeps
    pause_keeps ReadsSuper = freed_keeps
    pause_keeps WritesSuper = freed_keeps
    pause_keeps (Syncs looks) = freed_keeps
    pause_keeps (Ballots input) = freed_keeps
    pause_keeps (Moves moving) = freed_keeps

    super_keeps : (work : MountWork) (reply : Reply) → Keeps s (super_answered (errand_freed s a) h p work reply).stand
    super_keeps ReadsSuper (Bytes sectors) = λ reply is. super_read_keeps (errand_freed s a) h p (bytes_of sectors) reply (freed_keeps reply is)
    super_keeps ReadsSuper Written = freed_keeps
    super_keeps Rests reply = freed_keeps
    super_keeps Fails reply = freed_keeps
    super_keeps WritesSuper reply = freed_keeps
    super_keeps (Syncs looks) reply = freed_keeps
    super_keeps (Ballots input) reply = freed_keeps
    super_keeps (Pauses input left) reply = freed_keeps
    super_keeps (Moves moving) reply = freed_keeps

    filled_keeps : (work : MountWork) → Keeps s (super_filled (errand_freed s a) h p work).stand
    filled_keeps WritesSuper = λ reply is. syncs_keeps (errand_freed s a) h p reply (freed_keeps reply is)
    filled_keeps Rests = freed_keeps
    filled_keeps Fails = freed_keeps
    filled_keeps ReadsSuper = freed_keeps
    filled_keeps (Syncs looks) = freed_keeps
    filled_keeps (Ballots input) = freed_keeps
    filled_keeps (Pauses input left) = freed_keeps
    filled_keeps (Moves moving) = freed_keeps

    errand_keeps : (errand : Errand) (work : MountWork) (reply : Reply) → Keeps s (errand_answered errand s h p work a reply).step.stand
    errand_keeps Free work reply = ballot_keeps work reply
    errand_keeps OfSync work reply = look_keeps work reply
    errand_keeps OfPause work reply = pause_keeps work
    errand_keeps OfSuper work reply = super_keeps work reply
    errand_keeps FillsSuper work reply = filled_keeps work
    errand_keeps LateWrite work reply = freed_keeps
    errand_keeps (LateRead count) work reply = freed_keeps

    -- what is handed out
    hands_keeps : (errand : Errand) (ask : Ask) → Keeps s (hands_errand s a errand ask).stand
    hands_keeps errand ask = same_keeps s (hands_errand s a errand ask).stand (errand_other s.errands a q errand low low_q apart) refl

    looks_on_keeps : (stage : Stage) → Keeps s (looks_on s a stage).stand
    looks_on_keeps ReadsLow = hands_keeps OfSync (reads_half (journal_of s.position) s.volume a s.upto 0)
    looks_on_keeps ReadsHigh = hands_keeps OfSync (reads_half (journal_of s.position) s.volume a s.upto 1)
    looks_on_keeps Writes = same s
    looks_on_keeps Done = same s

    pauses_on_keeps : Keeps s (pauses_on s a).stand
    pauses_on_keeps = by (not (is_pausing s.errands) && (a == least_free_anchor s.errands s.position.ballot.parts))
      where
        by : (b : Bool) → (let x : Handed = if b then hands_errand s a OfPause (reads_first (journal_of s.position) s.volume a s.upto) else hands_nothing s in Keeps s x.stand)
        by true = hands_keeps OfPause (reads_first (journal_of s.position) s.volume a s.upto)
        by false = same s

    supers_on_keeps : (errand : Errand) (ask : Ask) → Keeps s (supers_on s a errand ask).stand
    supers_on_keeps errand ask = by (a == 0)
      where
        by : (b : Bool) → (let x : Handed = if b then hands_errand s a errand ask else hands_nothing s in Keeps s x.stand)
        by true = hands_keeps errand ask
        by false = same s

    works_on_keeps : (work : MountWork) → Keeps s (works_on s work a).stand
    works_on_keeps (Syncs looks) = looks_on_keeps (look_at looks a).stage
    works_on_keeps (Ballots input) = same_keeps s (ballots_on s a).stand refl (next_asked q a apart s.position.ballot)
    works_on_keeps (Pauses input left) = pauses_on_keeps
    works_on_keeps ReadsSuper = supers_on_keeps OfSuper (reads_super s.volume)
    works_on_keeps WritesSuper = supers_on_keeps FillsSuper (writes_super s.volume)
    works_on_keeps Rests = same s
    works_on_keeps Fails = same s
    works_on_keeps (Moves moving) = same s

    anchor_hands_keeps : (work : MountWork) → Keeps s (anchor_hands s work a).stand
    anchor_hands_keeps work = by (is_anchor_free s.errands s.position.ballot.parts a)
      where
        by : (b : Bool) → (let x : Handed = if b then works_on s work a else hands_nothing s in Keeps s x.stand)
        by true = works_on_keeps work
        by false = same s

  data_keeps : (s : Stand) (h : Held) (work : MountWork) (reply : Reply) → Keeps s (data_answered s h work reply).stand
  data_keeps s h (Moves moving) reply = moved_keeps s (moves_on s.volume h.tables moving reply)
  data_keeps s h Rests reply = same s
  data_keeps s h Fails reply = same s
  data_keeps s h ReadsSuper reply = same s
  data_keeps s h WritesSuper reply = same s
  data_keeps s h (Syncs looks) reply = same s
  data_keeps s h (Ballots input) reply = same s
  data_keeps s h (Pauses input left) reply = same s

  port_keeps : (s : Stand) (h : Held) (p : Option Pending) (work : MountWork) (port : ℕ) (reply : Reply) → port ≤ anchors_of s.position → q < anchors_of s.position → q ≢ port → Keeps s (port_answered s h p work port reply).step.stand
  port_keeps s h p work port reply low low_q apart = by (port == anchors_of s.position) refl
    where
      most : anchors_of s.position ≤ 3
      most = few s.position.layout

      by : (b : Bool) → (port == anchors_of s.position) ≡ b → (let x : Worked = if b then record { step = data_answered s h work reply; tables = h.tables } else errand_answered (errand_at s.errands port) s h p work port reply in Keeps s x.step.stand)
      by true e = data_keeps s h work reply
      by false e = errand_keeps port (omega (arith, low, most, eqb-false port (anchors_of s.position) e)) (omega (arith, low_q, most)) apart s h p (errand_at s.errands port) work reply

  asked_keeps : (m : MountIs) (port : ℕ) → port ≤ anchors_of m.position → q < anchors_of m.position → q ≢ port → Keeps (stand_of m) (stand_of (mount_asked m port))
  asked_keeps m port low low_q apart = by (port == anchors_of m.position) refl
    where
      most : anchors_of m.position ≤ 3
      most = few m.position.layout

      by : (b : Bool) → (port == anchors_of m.position) ≡ b → (let n : MountIs = if b then asked_data m else asked_anchor m port in Keeps (stand_of m) (stand_of n))
      by true e = same (stand_of m)
      by false e = anchor_hands_keeps port (omega (arith, low, most, eqb-false port (anchors_of m.position) e)) (omega (arith, low_q, most)) apart (stand_of m) (tables_held m.files) m.files.pending m.task.work

-- File data

-- what a mount that awaits file data is at work on stays while an anchor is answered
moving_stays : (s : Stand) (h : Held) (p : Option Pending) (moving : DataMoving) (errand : Errand) (a : ℕ) (reply : Reply) → (errand_answered errand s h p (Moves moving) a reply).step.task ≡ None
moving_stays s h p moving Free a Written = refl
moving_stays s h p moving Free a (Bytes sectors) = refl
moving_stays s h p moving OfSync a reply = refl
moving_stays s h p moving OfPause a reply = refl
moving_stays s h p moving OfSuper a reply = refl
moving_stays s h p moving FillsSuper a reply = refl
moving_stays s h p moving LateWrite a reply = refl
moving_stays s h p moving (LateRead count) a reply = refl

abbrev AnswersTask : MountTask → Reply → Type 0
AnswersTask task reply = AnswersData task.work task.ask reply

module _ (s : Stand) (h : Held) (p : Option Pending) (task : MountTask) (awaited : Reply) where
  task_stays : (work : MountWork) (waiting : Option Ask) → AnswersData work waiting awaited → (errand : Errand) (a : ℕ) (reply : Reply) → (errand_answered errand s h p work a reply).step.task ≡ None
  task_stays (Moves moving) waiting is errand a reply = moving_stays s h p moving errand a reply
  task_stays Rests waiting is errand a reply = absurd is
  task_stays Fails waiting is errand a reply = absurd is
  task_stays ReadsSuper waiting is errand a reply = absurd is
  task_stays WritesSuper waiting is errand a reply = absurd is
  task_stays (Syncs looks) waiting is errand a reply = absurd is
  task_stays (Ballots input) waiting is errand a reply = absurd is
  task_stays (Pauses input left) waiting is errand a reply = absurd is

  data_stays : (port : ℕ) (reply : Reply) → anchors_of s.position ≢ port → AnswersTask task awaited → AnswersTask (unwrap_or (port_answered s h p task.work port reply).step.task task) awaited
  data_stays port reply apart is = by (port == anchors_of s.position) refl
    where
      by : (b : Bool) → (port == anchors_of s.position) ≡ b → (let x : Worked = if b then record { step = data_answered s h task.work reply; tables = h.tables } else errand_answered (errand_at s.errands port) s h p task.work port reply in AnswersTask (unwrap_or x.step.task task) awaited)
      by true e = absurd (apart (sym (eqb-true port (anchors_of s.position) e)))
      by false e = subst (λ (o : Option MountTask). AnswersTask (unwrap_or o task) awaited) (sym (task_stays task.work task.ask is (errand_at s.errands port) port reply)) is

data_asked : (m : MountIs) (port : ℕ) (reply : Reply) → anchors_of m.position ≢ port → AnswersTask m.task reply → AnswersTask (mount_asked m port).task reply
data_asked m port reply apart is = by (port == anchors_of m.position) refl
  where
    by : (b : Bool) → (port == anchors_of m.position) ≡ b → (let n : MountIs = if b then asked_data m else asked_anchor m port in AnswersTask n.task reply)
    by true e = absurd (apart (sym (eqb-true port (anchors_of m.position) e)))
    by false e = is

-- What is awaited

module _ (m n : MountIs) (port : ℕ) (laid : n.position.layout ≡ m.position.layout) (at_anchor : port < anchors_of m.position → Keeps port (stand_of m) (stand_of n)) (at_data : port ≡ anchors_of m.position → (reply : Reply) → AnswersTask m.task reply → AnswersTask n.task reply) where
  as_many : anchors_of n.position ≡ anchors_of m.position
  as_many = ap (λ (l : Layout). length (layout_of l).anchors) laid

  stays_awaited : AwaitsStill m n port
  stays_awaited None = λ awaits. tt
  stays_awaited (Some ask) = λ awaits reply is. record {
    port_low = subst (λ (k : ℕ). port ≤ k) (sym as_many) (awaits reply is).port_low;
    anchor = λ low. let here = subst (λ (k : ℕ). port < k) as_many low in at_anchor here reply ((awaits reply is).anchor here);
    data_port = λ e. at_data (e ∙ as_many) reply ((awaits reply is).data_port (e ∙ as_many));
  }

-- another port
apart_from : (port other last : ℕ) → other ≢ port → other ≡ last → last ≢ port
apart_from port other last apart is e = apart (is ∙ e)

pub answered_awaits : (m : MountIs) (port other : ℕ) (reply : Reply) → port ≤ anchors_of m.position → other ≢ port → AwaitsStill m (mount_answered m port reply).mount other
answered_awaits m port other reply low apart =
    stays_awaited m (mount_answered m port reply).mount other (answered_laid m port reply).layout
    (λ low_other. port_keeps other (stand_of m) (tables_held m.files) m.files.pending m.task.work port reply low low_other apart)
    (λ is awaited. data_stays (stand_of m) (tables_held m.files) m.files.pending m.task awaited port reply (apart_from port other (anchors_of m.position) apart is))

pub asked_awaits : (m : MountIs) (port other : ℕ) → port ≤ anchors_of m.position → other ≢ port → AwaitsStill m (mount_asked m port) other
asked_awaits m port other low apart =
    stays_awaited m (mount_asked m port) other (asked_mount_laid m port).layout
    (λ low_other. asked_keeps other m port low low_other apart)
    (λ is reply. data_asked m port reply (apart_from port other (anchors_of m.position) apart is))

pub starting_awaits : (m : MountIs) (call : FileCall) (port : ℕ) → m.task.work ≡ Rests → AwaitsStill m (starting m call).mount port
starting_awaits m call port rests =
    let n = having_started m call in
    stays_awaited m (starting m call).mount port (starting_laid m call).layout
    (λ low. syncs_keeps port (stand_of n) (tables_held n.files) n.files.pending)
    (λ is reply answers. absurd (subst (λ (work : MountWork). AnswersData work m.task.ask reply) rests answers))

-- What is silent

-- every ask has an answer
answer_to : (ask : Ask) → (reply : Reply) × AnswersAsk ask reply
answer_to (asks.Write chunk span sectors) = (Written, tt)
answer_to (asks.Read chunk span) = (Bytes (replicate span.count []), length-replicate span.count [])

none_waits : (work : MountWork) (waiting : Option Ask) (reply : Reply) → AnswersData work waiting reply → waiting ≡ None
none_waits (Moves moving) None reply is = refl
none_waits (Moves moving) (Some ask) reply is = absurd is
none_waits Rests waiting reply is = absurd is
none_waits Fails waiting reply is = absurd is
none_waits ReadsSuper waiting reply is = absurd is
none_waits WritesSuper waiting reply is = absurd is
none_waits (Syncs looks) waiting reply is = absurd is
none_waits (Ballots input) waiting reply is = absurd is
none_waits (Pauses input left) waiting reply is = absurd is

not_free : (x : Errand) (n : AnchorAsk) (reply : Reply) → AnswersErrand x n reply → is_free_of x n ≡ false
not_free Free OwnBlock reply is = refl
not_free Free (Half half) reply is = refl
not_free Free Nothing reply is = absurd is
not_free OfSync n reply is = refl
not_free OfPause n reply is = refl
not_free OfSuper n reply is = refl
not_free FillsSuper n reply is = refl
not_free LateWrite n reply is = refl
not_free (LateRead count) n reply is = refl

pub awaiting_is_silent : (m : MountIs) (port : ℕ) (ask : Ask) → Awaits m port (Some ask) → ask_at m port ≡ None
awaiting_is_silent m port ask awaits = by (port == anchors_of m.position) refl
  where
    answers : AnswersPort m port (answer_to ask).0
    answers = awaits (answer_to ask).0 (answer_to ask).1

    nothing : (b : Bool) → b ≡ false → (let x : Handed = if b then works_on (stand_of m) m.task.work port else hands_nothing (stand_of m) in x.ask ≡ None)
    nothing true e = absurd (grind (arith, e))
    nothing false e = refl

    by : (b : Bool) → (port == anchors_of m.position) ≡ b → (if b then m.task.ask else (anchor_hands (stand_of m) m.task.work port).ask) ≡ None
    by true e = none_waits m.task.work m.task.ask (answer_to ask).0 (answers.data_port (eqb-true port (anchors_of m.position) e))
    by false e =
        let low : port < anchors_of m.position = omega (arith, answers.port_low, eqb-false port (anchors_of m.position) e) in
        nothing (is_anchor_free m.errands m.position.ballot.parts port)
        (not_free (errand_at m.errands port) (part_at m.position.ballot.parts port).asked (answer_to ask).0 (answers.anchor low))

-- where nothing is asked, nothing changes

no_some : (ask : Ask) → Some ask ≡ None → ⊥
no_some ask e = grind (arith, e)

module _ (s : Stand) (a : ℕ) where
  abbrev IsSilent : Handed → Type 0
  IsSilent h = h.ask ≡ None → h.stand ≡ s

  hands_silent : (b : Bool) (errand : Errand) (ask : Ask) → IsSilent (if b then hands_errand s a errand ask else hands_nothing s)
  hands_silent true errand ask e = absurd (no_some ask e)
  hands_silent false errand ask e = refl

  looks_silent : (stage : Stage) → IsSilent (looks_on s a stage)
  looks_silent ReadsLow = hands_silent true OfSync (reads_half (journal_of s.position) s.volume a s.upto 0)
  looks_silent ReadsHigh = hands_silent true OfSync (reads_half (journal_of s.position) s.volume a s.upto 1)
  looks_silent Writes = λ e. refl
  looks_silent Done = λ e. refl

  takes_nothing : (part : Part) (n : AnchorNext) → ballot_asks_next s a n ≡ None → part_takes part n ≡ part
  takes_nothing part (Write block) e = absurd (no_some _ e)
  takes_nothing part (Read half) e = absurd (no_some _ e)
  takes_nothing part Idle e = refl

  ballots_silent : IsSilent (ballots_on s a)
  ballots_silent e =
      let parts = s.position.ballot.parts in
      let put : Part → Stand = λ part. record s { position = record s.position { ballot = record s.position.ballot { parts = with_part parts a part } } } in
      let back : List Part → Stand = λ x. record s { position = record s.position { ballot = record s.position.ballot { parts = x } } } in
      ap put (takes_nothing (part_at parts a) (next_at_anchor s.position.ballot a) e) ∙ ap back (set-get_or parts a no_part)

  works_silent : (work : MountWork) → IsSilent (works_on s work a)
  works_silent ReadsSuper = hands_silent (a == 0) OfSuper (reads_super s.volume)
  works_silent WritesSuper = hands_silent (a == 0) FillsSuper (writes_super s.volume)
  works_silent (Syncs looks) = looks_silent (look_at looks a).stage
  works_silent (Ballots input) = ballots_silent
  works_silent (Pauses input left) = hands_silent (not (is_pausing s.errands) && (a == least_free_anchor s.errands s.position.ballot.parts)) OfPause (reads_first (journal_of s.position) s.volume a s.upto)
  works_silent Rests = λ e. refl
  works_silent Fails = λ e. refl
  works_silent (Moves moving) = λ e. refl

  pub anchor_silent : (work : MountWork) → IsSilent (anchor_hands s work a)
  anchor_silent work = by (is_anchor_free s.errands s.position.ballot.parts a)
    where
      by : (b : Bool) → IsSilent (if b then works_on s work a else hands_nothing s)
      by true = works_silent work
      by false = λ e. refl

pub silent_stays : (m : MountIs) (port : ℕ) → ask_at m port ≡ None → mount_asked m port ≡ m
silent_stays m port = by (port == anchors_of m.position)
  where
    by : (b : Bool) → (if b then m.task.ask else (anchor_hands (stand_of m) m.task.work port).ask) ≡ None → (if b then asked_data m else asked_anchor m port) ≡ m
    by true e = ap (λ (ask : Option Ask). record m { task = record m.task { ask = ask } }) (sym e)
    by false e = ap (λ (s : Stand). record m { position = s.position; errands = s.errands }) (anchor_silent (stand_of m) port m.task.work e)
