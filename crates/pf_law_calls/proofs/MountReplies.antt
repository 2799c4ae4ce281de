-- A pending ask is answered.
use Rattle.std.proofs.Common.{◌≡◌, ◌≢◌, ℕ, suc, ◌<◌, ◌≤◌, ◌⊎◌, inl, inr, Bool, true, false, ◌==◌, if◌then◌else◌, List, [], ◌∷◌, ◌++◌, Option, Some, None, arith, refl, sym, ap, subst, ◌∙◌}
use Rattle.std.proofs.lemmas.Bool.{cond-false, eqb-false, eqb-true, ne_eqb}
use Rattle.pf_base.specs.declared.asks.Reply.{Reply}
use Rattle.pf_base.specs.declared.asks.Reply.TheVariants.{Written, Bytes}
use Rattle.pf_txn.specs.Reading.{txn_in}
use Rattle.pf_paxos.specs.declared.block.Block.{Block}
use Rattle.pf_paxos.specs.Registers.{Gives, Written as IsPut}
use Rattle.pf_paxos.specs.declared.parts.AnchorAsk.{AnchorAsk}
use Rattle.pf_paxos.specs.declared.parts.AnchorAsk.TheVariants.{Nothing, OwnBlock, Half}
use Rattle.pf_paxos.specs.declared.ballot.BallotStep.{BallotStep}
use Rattle.pf_paxos.specs.declared.ballot.BallotStep.TheVariants.{Go, Abort, NoValue, Decided}
use Rattle.pf_paxos.specs.declared.ballot.Phase.TheVariants.{Resting}
use Rattle.pf_paxos.specs.Parts.{part_at}
use Rattle.pf_paxos.specs.Ballots.{BallotIs, read_at, written_at}
use Rattle.pf_paxos.specs.BallotRuns.{GetsRead, IsWritten, Move, move_at, anchor_turn_answered}
use Rattle.pf_law_lists.specs.Journals.{Acts, Doing, BallotJournal, journal_goes_on}
use Rattle.pf_journal.specs.declared.layouts.Layout.{Layout}
use Rattle.pf_file_calls.specs.Blocks.{bytes_of}
use Rattle.pf_file_calls.specs.Calls.{value_applied}
use Rattle.pf_file_calls.specs.Moving.{moves_on}
use Rattle.pf_mount.specs.Filing.{tables_by}
use Rattle.pf_mount_errands.specs.Blocks.{blocks_in}
use Rattle.pf_mount_errands.specs.declared.errands.Errand.{Errand}
use Rattle.pf_mount_errands.specs.declared.errands.Errand.TheVariants.{Free, FillsSuper, OfSync as SyncErrand, OfPause as PauseErrand, OfSuper as SuperErrand, LateWrite, LateRead}
use Rattle.pf_mount_errands.specs.declared.errands.Errands.{Errands}
use Rattle.pf_mount_errands.specs.Errands.{all_left, errand_at, with_errand}
use Rattle.pf_mount_errands.specs.Looks.{having_looked}
use Rattle.pf_mount_errands.specs.Positions.{PositionIs, anchors_of, having_aborted, having_read, having_seen, having_written, new_position, rest_of_pause}
use Rattle.pf_mount.specs.declared.work.MountWork.{MountWork}
use Rattle.pf_mount.specs.declared.work.MountWork.TheVariants.{ReadsSuper, Syncs, Ballots, Pauses, Moves, WritesSuper}
use Rattle.pf_mount.specs.Mounts.{MountIs, Worked, ballot_answered, balloted, data_answered, errand_answered, errand_freed, tables_held, look_answered, pause_answered, port_answered, stand_of, work_stays, super_answered, super_filled, takes_work}
use Rattle.pf_mount.specs.Standing.{AnswersPort, AnswersBallot, AnswersErrand}
use Rattle.pf_mount.proofs.AnchorAsks.{having_read_asked, written_asked}
use Rattle.pf_law_calls.specs.Doings.{act_of, at_anchor, began, hears_for, looker, no_doing as nothing_in, reply_of}
use Rattle.pf_law_calls.specs.Lives.{Hears, Life, OfBallot, OfPause, OfSuper, OfSync, Waiting, decided_by, decided_in, value_in, waits_with, with_value}
use Rattle.pf_law_calls.proofs.MountsInJournals.{Follows, act_keeps, acted_here, after_act, after_decision, after_late, after_look, asked_in}
use Rattle.pf_law_calls.proofs.MountSteps.{moved_go, paused_go, pauses_go, proceeds_go, super_read_go, synced_go, syncs_go, syncs_on_go}
use Rattle.pf_law_calls.proofs.Layouts.{anchors_in, below_three, new_in, read_layout}
use Rattle.pf_law_calls.proofs.MountLives.{Between, GoesOnTo, IsMountIn, PhaseFits, Stays, Turns, look_still, mbal_here, nothing_follows, nothing_still, phase_fits, taken}
use Rattle.pf_law_calls.proofs.AnchorPending.{AreWaits, IsOwed, WaitsAs, all_left_waits, changed_waits, errand_other, errand_same, owed_below, past_waits}
use Rattle.pf_law_calls.proofs.BallotReads.{EndsAs, read_anchors, read_leaves, written_idle}

module _ {layout : Layout} (j : BallotJournal) (l : Life) (low : l.mount.files.mount < 16) (lies : l.mount.position.layout ≡ layout) (is : IsMountIn layout j l.mount.files.mount l.mount l.waits l.decided) where
  abbrev m : MountIs
  m = l.mount

  abbrev p : BallotIs
  p = l.mount.position.ballot

  abbrev its : Layout
  its = l.mount.position.layout

  abbrev nothing : Doing
  nothing = nothing_in its

  -- with this doing of an answer, and this value
  module _ (port : ℕ) where
    pub record HeardTo (d : Doing) (value : Option (List ℕ)) (w : Worked) : Type 0 where
      pub mount : GoesOnTo layout (journal_goes_on j d) (began m (takes_work m w).mount) m.files.mount (takes_work m w).mount (waits_with l.waits port None) (with_value l.decided value)
      pub tables : w.tables ≡ tables_by m.files.tables value

    heard : (d : Doing) (value : Option (List ℕ)) (n : MountIs) (w : Worked) → w.tables ≡ tables_by m.files.tables value → Between layout m (journal_goes_on j d) n w (waits_with l.waits port None) (with_value l.decided value) → HeardTo d value w
    heard d value n w tables between = record { mount = taken m low (journal_goes_on j d) n w (waits_with l.waits port None) (with_value l.decided value) between; tables = tables }

    -- where no value is decided the position stays
    heard_at : (d : Doing) (x : PositionIs) (e : Errands) (w : Worked) → Follows layout (journal_goes_on j d) m.files.mount m.upto x.ballot l.decided → AreWaits layout m.upto e x.ballot.parts (waits_with l.waits port None) (asked_in (journal_goes_on j d) m.files.mount) → p.own.mbal ≡ x.ballot.own.mbal → w.tables ≡ m.files.tables
        → (let n = record m { position = x; errands = e } in Stays n m.task.work w ⊎ Turns n w) → HeardTo d None w
    heard_at d x e w follows waits_are mbal tables goes =
        heard d None (record m { position = x; errands = e }) w tables (record { follows = follows; waits_are = waits_are; was = mbal_here m m.upto refl ∙ mbal; goes = goes })

    rests_at : (work : MountWork) → m.task.work ≡ work → PhaseFits work p.phase
    rests_at work same = subst (λ (x : MountWork). PhaseFits x p.phase) same is.phase

    -- file data are nothing in the journal
    module _ (past : anchors_in layout ≤ port) (reply : Reply) where
      data_follows : Follows layout (journal_goes_on j nothing) m.files.mount m.upto p l.decided
      data_follows = nothing_follows its j m.files.mount m.upto p l.decided is.follows

      data_waits : AreWaits layout m.upto m.errands p.parts (waits_with l.waits port None) (asked_in (journal_goes_on j nothing) m.files.mount)
      data_waits = past_waits layout m.upto m.errands p.parts l.waits (asked_in j m.files.mount) is.waits_are (asked_in (journal_goes_on j nothing) m.files.mount) port past None (λ a q less. nothing_still its j m.files.mount a q)

      data_stays : HeardTo nothing None (record { step = work_stays (stand_of m); tables = m.files.tables })
      data_stays = heard_at nothing m.position m.errands _ data_follows data_waits refl refl (inl (record { turns = refl; stand = refl; phase = is.phase }))

      data_heard : (work : MountWork) → m.task.work ≡ work → HeardTo nothing None (record { step = data_answered (stand_of m) (tables_held m.files) work reply; tables = m.files.tables })
      data_heard (Moves moving) same =
          heard_at nothing m.position m.errands _ data_follows data_waits refl refl
          (inr (record { rests = rests_at (Moves moving) same; goes = moved_go m m.files.tables (moves_on m.files.volume m.files.tables moving reply) }))
      data_heard work same = data_stays

    module _ (low_a : port < anchors_in layout) where
      freed_waits : (d : Doing) (q : BallotIs) (e : Errands) → errand_at e port ≡ Free → (part_at q.parts port).asked ≡ Nothing
          → ((b : ℕ) → b < anchors_in layout → b ≢ port → (errand_at e b ≡ errand_at m.errands b) × ((part_at q.parts b).asked ≡ (part_at p.parts b).asked) × ((at : ℕ) → at < m.upto → asked_in (journal_goes_on j d) m.files.mount b at ≡ asked_in j m.files.mount b at))
          → AreWaits layout m.upto e q.parts (waits_with l.waits port None) (asked_in (journal_goes_on j d) m.files.mount)
      freed_waits d q e free idle others =
          let news = asked_in (journal_goes_on j d) m.files.mount in
          changed_waits layout m.upto m.errands p.parts l.waits (asked_in j m.files.mount) is.waits_are news e q.parts port None
          (subst (λ (y : Errand). WaitsAs m.upto y (part_at q.parts port).asked None (news port)) (sym free)
          (subst (λ (n : AnchorAsk). WaitsAs m.upto Free n None (news port)) (sym idle) tt))
          others

      -- An errand is answered: what a sync or a pause asked, or earlier work

      module _ (errand : Errand) (idle : (part_at p.parts port).asked ≡ Nothing) (owed : IsOwed m.upto errand (l.waits port) (asked_in j m.files.mount port)) where
        abbrev errands : Errands
        errands = with_errand m.errands port Free

        abbrev doing : Reply → Doing
        doing reply = hears_for its m.files.mount port reply (l.waits port)

        hears_still : (reply : Reply) (w : Option Waiting) (b : ℕ) → b < anchors_in layout → b ≢ port → (at : ℕ) → asked_in (journal_goes_on j (hears_for its m.files.mount port reply w)) m.files.mount b at ≡ asked_in j m.files.mount b at
        hears_still reply None b low_b apart at = nothing_still its j m.files.mount b at
        hears_still reply (Some (OfBallot q)) b low_b apart at = act_keeps m.files.mount b port apart j q (act_of reply) at
        hears_still reply (Some (OfSync q half)) b low_b apart at = look_still j m.files.mount q (anchor_turn_answered (looker m.files.mount) port (reply_of reply)) b at
        hears_still reply (Some OfPause) b low_b apart at = nothing_still its j m.files.mount b at
        hears_still reply (Some OfSuper) b low_b apart at = nothing_still its j m.files.mount b at

        errand_waits : (reply : Reply) → AreWaits layout m.upto errands p.parts (waits_with l.waits port None) (asked_in (journal_goes_on j (doing reply)) m.files.mount)
        errand_waits reply =
            freed_waits (doing reply) p errands (errand_same m.errands port Free) idle
            (λ b low_b apart. (errand_other m.errands port b Free (below_three layout port low_a) (below_three layout b low_b) apart, refl, λ at less. hears_still reply (l.waits port) b low_b apart at))

        errand_follows : (reply : Reply) → Follows layout (journal_goes_on j (doing reply)) m.files.mount m.upto p l.decided
        errand_follows reply = by (l.waits port) (owed_below m.upto errand (l.waits port) (asked_in j m.files.mount port) owed)
          where
            by : (w : Option Waiting) → ((q : ℕ) → w ≡ Some (OfBallot q) → q < m.upto) → Follows layout (journal_goes_on j (hears_for its m.files.mount port reply w)) m.files.mount m.upto p l.decided
            by None below = nothing_follows its j m.files.mount m.upto p l.decided is.follows
            by (Some (OfBallot q)) below = after_late j m.files.mount m.upto p l.decided is.follows q port (act_of reply) (below q refl)
            by (Some (OfSync q half)) below = after_look j m.files.mount m.upto p l.decided is.follows q (anchor_turn_answered (looker m.files.mount) port (reply_of reply))
            by (Some OfPause) below = nothing_follows its j m.files.mount m.upto p l.decided is.follows
            by (Some OfSuper) below = nothing_follows its j m.files.mount m.upto p l.decided is.follows

        errand_stays : (reply : Reply) → HeardTo (doing reply) None (record { step = work_stays (errand_freed (stand_of m) port); tables = m.files.tables })
        errand_stays reply = heard_at (doing reply) m.position errands _ (errand_follows reply) (errand_waits reply) refl refl (inl (record { turns = refl; stand = refl; phase = is.phase }))

        look_heard : (work : MountWork) (reply : Reply) → m.task.work ≡ work → HeardTo (doing reply) None (record { step = look_answered (errand_freed (stand_of m) port) (tables_held m.files) m.files.pending work port reply; tables = m.files.tables })
        look_heard (Syncs looks) (Bytes sectors) same =
            let x = having_seen m.position (blocks_in sectors) in
            heard_at (doing (Bytes sectors)) x errands _ (errand_follows (Bytes sectors)) (errand_waits (Bytes sectors)) refl refl
            (inr (record { rests = rests_at (Syncs looks) same; goes = syncs_on_go (record m { position = x; errands = errands }) m.files.tables (tables_held m.files) m.files.pending (having_looked looks port (blocks_in sectors)) }))
        look_heard work reply same = errand_stays reply

        pause_heard : (work : MountWork) (reply : Reply) → m.task.work ≡ work → HeardTo (doing reply) None (record { step = pause_answered (errand_freed (stand_of m) port) work; tables = m.files.tables })
        pause_heard (Pauses input left) reply same =
            heard_at (doing reply) m.position errands _ (errand_follows reply) (errand_waits reply) refl refl
            (inr (record { rests = rests_at (Pauses input left) same; goes = paused_go (record m { errands = errands }) m.files.tables input left }))
        pause_heard work reply same = errand_stays reply

        super_heard : (work : MountWork) (reply : Reply) → m.task.work ≡ work → HeardTo (doing reply) None (record { step = super_answered (errand_freed (stand_of m) port) (tables_held m.files) m.files.pending work reply; tables = m.files.tables })
        super_heard ReadsSuper (Bytes sectors) same =
            heard_at (doing (Bytes sectors)) m.position errands _ (errand_follows (Bytes sectors)) (errand_waits (Bytes sectors)) refl refl
            (inr (record { rests = rests_at ReadsSuper same; goes = super_read_go (record m { errands = errands }) m.files.tables (tables_held m.files) m.files.pending (bytes_of sectors) }))
        super_heard work reply same = errand_stays reply

        fills_heard : (work : MountWork) (reply : Reply) → m.task.work ≡ work → HeardTo (doing reply) None (record { step = super_filled (errand_freed (stand_of m) port) (tables_held m.files) m.files.pending work; tables = m.files.tables })
        fills_heard WritesSuper reply same =
            heard_at (doing reply) m.position errands _ (errand_follows reply) (errand_waits reply) refl refl
            (inr (record { rests = rests_at WritesSuper same; goes = syncs_go (record m { errands = errands }) m.files.tables (tables_held m.files) m.files.pending }))
        fills_heard work reply same = errand_stays reply

      -- A ballot's ask is answered

      module _ (free : errand_at m.errands port ≡ Free) where
        written_heard : (part_at p.parts port).asked ≡ OwnBlock → HeardTo (Acts m.files.mount m.upto port IsWritten) None (record { step = work_stays (stand_of (record m { position = having_written m.position port })); tables = m.files.tables })
        written_heard asks =
            heard_at (Acts m.files.mount m.upto port IsWritten) (having_written m.position port) m.errands _
            (after_act j m.files.mount m.upto p l.decided is.follows low port low_a IsWritten (record { ballot = written_at p port; turn = anchor_turn_answered m.files.mount port IsPut; step = Go }) (ap (move_at m.files.mount port p IsWritten) asks) refl)
            (freed_waits (Acts m.files.mount m.upto port IsWritten) (written_at p port) m.errands free (written_idle p port) (λ b low_b apart. (refl, written_asked b port apart p, λ at less. act_keeps m.files.mount b port apart j m.upto IsWritten at)))
            refl refl (inl (record { turns = refl; stand = refl; phase = is.phase }))

        module _ (half : ℕ) (asks : (part_at p.parts port).asked ≡ Half half) (blocks : List Block) where
          abbrev x : PositionIs
          x = having_read m.position port blocks

          abbrev read : Doing
          read = Acts m.files.mount m.upto port (GetsRead blocks)

          abbrev move : Move
          move = record { ballot = (read_at p port blocks).ballot; turn = anchor_turn_answered m.files.mount port (Gives blocks); step = (read_at p port blocks).step }

          moves_so : move_at m.files.mount port p (GetsRead blocks) (part_at p.parts port).asked ≡ Some move
          moves_so = ap (move_at m.files.mount port p (GetsRead blocks)) asks

          same_anchors : x.ballot ≡ (read_at p port blocks).ballot
          same_anchors = read_anchors m.position port blocks

          read_follows : value_in (read_at p port blocks).step ≡ None → Follows layout (journal_goes_on j read) m.files.mount m.upto x.ballot l.decided
          read_follows none =
              subst (λ (q : BallotIs). Follows layout (journal_goes_on j read) m.files.mount m.upto q l.decided) (sym same_anchors)
              (after_act j m.files.mount m.upto p l.decided is.follows low port low_a (GetsRead blocks) move moves_so none)

          read_idle : (part_at x.ballot.parts port).asked ≡ Nothing
          read_idle = ap (λ (q : BallotIs). (part_at q.parts port).asked) same_anchors ∙ (read_leaves p port blocks).idle

          read_waits : AreWaits layout m.upto m.errands x.ballot.parts (waits_with l.waits port None) (asked_in (journal_goes_on j read) m.files.mount)
          read_waits =
              freed_waits read x.ballot m.errands free read_idle
              (λ b low_b apart. (refl, having_read_asked b port apart m.position blocks, λ at less. act_keeps m.files.mount b port apart j m.upto (GetsRead blocks) at))

          -- what the position asks still when it is left
          left_asked : (a : ℕ) → (part_at x.ballot.parts a).asked ≡ asked_in (journal_goes_on j read) m.files.mount a m.upto
          left_asked a = ap (λ (q : BallotIs). (part_at q.parts a).asked) (same_anchors ∙ sym (acted_here j m.files.mount m.upto p l.decided is.follows low port low_a (GetsRead blocks) move moves_so))

          read_mbal : p.own.mbal ≡ x.ballot.own.mbal
          read_mbal = sym (read_leaves p port blocks).mbal ∙ ap (λ (q : BallotIs). q.own.mbal) (sym same_anchors)

          -- while the mount is at other work no ballot runs
          other_heard : p.phase ≡ Resting → HeardTo read None (record { step = work_stays (stand_of (record m { position = x })); tables = m.files.tables })
          other_heard rests =
              heard_at read x m.errands _ (read_follows ((read_leaves p port blocks).nothing rests)) read_waits read_mbal refl
              (inl (record { turns = refl; stand = refl; phase = phase_fits m.task.work x.ballot.phase (ap (λ (q : BallotIs). q.phase) same_anchors ∙ (read_leaves p port blocks).rests rests) }))

          ended : (step : BallotStep) → (read_at p port blocks).step ≡ step → EndsAs step x.ballot.phase
          ended step same =
              subst (λ (s : BallotStep). EndsAs s x.ballot.phase) same
              (subst (λ (q : BallotIs). EndsAs (read_at p port blocks).step q.phase) (sym same_anchors) (read_leaves p port blocks).ends)

          step_heard : (input : Option (List ℕ)) → m.task.work ≡ Ballots input → (step : BallotStep) → (read_at p port blocks).step ≡ step → HeardTo read (value_in step) (balloted (stand_of (record m { position = x })) (tables_held m.files) m.files.pending input step)
          step_heard input same Go is_step =
              heard_at read x m.errands _ (read_follows (ap value_in is_step)) read_waits read_mbal refl
              (inl (record { turns = refl; stand = refl; phase = subst (λ (work : MountWork). PhaseFits work x.ballot.phase) (sym same) tt }))
          step_heard input same (Abort mbal) is_step =
              let n = record m { position = having_aborted x } in
              heard_at read (having_aborted x) m.errands _ (read_follows (ap value_in is_step)) read_waits read_mbal refl
              (inr (record { rests = ended (Abort mbal) is_step; goes = pauses_go n m.files.tables input (rest_of_pause m.files.mount (having_aborted x)) }))
          step_heard input same NoValue is_step =
              heard_at read x m.errands _ (read_follows (ap value_in is_step)) read_waits read_mbal refl
              (inr (record { rests = ended NoValue is_step; goes = synced_go (record m { position = x }) m.files.tables (tables_held m.files) m.files.pending }))
          step_heard input same (Decided v) is_step =
              let n = record m { upto = suc m.upto; position = new_position x.layout m.files.mount; errands = all_left m.errands x.ballot.parts } in
              let h = tables_held m.files in
              let t = value_applied m.files.tables (txn_in v) in
              let same_layout : x.layout ≡ layout = read_layout m.position port blocks ∙ lies in
              heard read (Some v) n _ refl (record {
                follows =
                    subst (λ (y : Layout). Follows layout (journal_goes_on j read) m.files.mount (suc m.upto) (new_in y m.files.mount) (l.decided ++ v ∷ [])) (sym same_layout)
                    (after_decision j m.files.mount m.upto p l.decided is.follows low port low_a (GetsRead blocks) move moves_so v is_step);
                waits_are =
                    subst (λ (y : Layout). AreWaits layout (suc m.upto) (all_left m.errands x.ballot.parts) (new_in y m.files.mount).parts (waits_with l.waits port None) (asked_in (journal_goes_on j read) m.files.mount)) (sym same_layout)
                    (all_left_waits layout m.upto m.errands x.ballot.parts (waits_with l.waits port None) (asked_in (journal_goes_on j read) m.files.mount) read_waits m.files.mount left_asked);
                was = cond-false (suc m.upto == m.upto) p.own.mbal 0 (ne_eqb (suc m.upto) m.upto (λ e. absurd (omega (arith, e))));
                goes = inr (record { rests = refl; goes = proceeds_go n t h (record h { tables = t }) (txn_in v) input m.files.pending });
              })

        -- by what was asked
        asked_heard : (next : AnchorAsk) → (part_at p.parts port).asked ≡ next → (reply : Reply) → AnswersBallot next reply → (work : MountWork) → m.task.work ≡ work
            → HeardTo (Acts m.files.mount m.upto port (act_of reply)) (decided_in Free reply work p port) (ballot_answered (stand_of m) (tables_held m.files) m.files.pending work port reply)
        asked_heard OwnBlock asks Written answers work same = written_heard asks
        asked_heard OwnBlock asks (Bytes sectors) answers work same = absurd answers
        asked_heard (Half half) asks Written answers work same = absurd answers
        asked_heard (Half half) asks (Bytes sectors) answers (Ballots input) same = step_heard half asks (blocks_in sectors) input same (read_at p port (blocks_in sectors)).step refl
        asked_heard (Half half) asks (Bytes sectors) answers work same = other_heard half asks (blocks_in sectors) (rests_at work same)
        asked_heard Nothing asks reply answers work same = absurd answers

        waiting_is : (next : AnchorAsk) (reply : Reply) → AnswersBallot next reply → WaitsAs m.upto Free next (l.waits port) (asked_in j m.files.mount port) → l.waits port ≡ Some (OfBallot m.upto)
        waiting_is OwnBlock reply answers waits = waits
        waiting_is (Half half) reply answers waits = waits
        waiting_is Nothing reply answers waits = absurd answers

        ballot_heard : (reply : Reply) → AnswersBallot (part_at p.parts port).asked reply → WaitsAs m.upto Free (part_at p.parts port).asked (l.waits port) (asked_in j m.files.mount port)
            → HeardTo (hears_for its m.files.mount port reply (l.waits port)) (decided_in Free reply m.task.work p port) (ballot_answered (stand_of m) (tables_held m.files) m.files.pending m.task.work port reply)
        ballot_heard reply answers waits =
            subst (λ (w : Option Waiting). HeardTo (hears_for its m.files.mount port reply w) (decided_in Free reply m.task.work p port) (ballot_answered (stand_of m) (tables_held m.files) m.files.pending m.task.work port reply))
            (sym (waiting_is (part_at p.parts port).asked reply answers waits)) (asked_heard (part_at p.parts port).asked refl reply answers m.task.work refl)

      -- by the errand
      errand_heard : (errand : Errand) → errand_at m.errands port ≡ errand → (reply : Reply) → AnswersErrand errand (part_at p.parts port).asked reply → WaitsAs m.upto errand (part_at p.parts port).asked (l.waits port) (asked_in j m.files.mount port)
          → HeardTo (hears_for its m.files.mount port reply (l.waits port)) (decided_in errand reply m.task.work p port) (errand_answered errand (stand_of m) (tables_held m.files) m.files.pending m.task.work port reply)
      errand_heard Free at reply answers waits = ballot_heard at reply answers waits
      errand_heard SyncErrand at reply answers waits = look_heard SyncErrand waits.0 waits.1 m.task.work reply refl
      errand_heard PauseErrand at reply answers waits = pause_heard PauseErrand waits.0 waits.1 m.task.work reply refl
      errand_heard SuperErrand at reply answers waits = super_heard SuperErrand waits.0 waits.1 m.task.work reply refl
      errand_heard FillsSuper at reply answers waits = fills_heard FillsSuper waits.0 waits.1 m.task.work reply refl
      errand_heard LateWrite at reply answers waits = errand_stays LateWrite waits.0 waits.1 reply
      errand_heard (LateRead count) at reply answers waits = errand_stays (LateRead count) waits.0 waits.1 reply

      anchor_heard : (reply : Reply) → AnswersErrand (errand_at m.errands port) (part_at p.parts port).asked reply
          → HeardTo (hears_for its m.files.mount port reply (l.waits port)) (decided_in (errand_at m.errands port) reply m.task.work p port) (errand_answered (errand_at m.errands port) (stand_of m) (tables_held m.files) m.files.pending m.task.work port reply)
      anchor_heard reply answers = errand_heard (errand_at m.errands port) refl reply answers (is.waits_are port low_a)

    pub port_heard : (reply : Reply) → AnswersPort m port reply
        → HeardTo (at_anchor l (Hears port reply)) (decided_by m (Hears port reply)) (port_answered (stand_of m) (tables_held m.files) m.files.pending m.task.work port reply)
    port_heard reply answers = by (port == anchors_of m.position) refl
      where
        same_anchors : anchors_of m.position ≡ anchors_in layout
        same_anchors = ap anchors_in lies

        by : (b : Bool) → (port == anchors_of m.position) ≡ b
            → HeardTo (if b then nothing else hears_for its m.files.mount port reply (l.waits port)) (if b then None else decided_in (errand_at m.errands port) reply m.task.work p port)
            (if b then record { step = data_answered (stand_of m) (tables_held m.files) m.task.work reply; tables = m.files.tables } else errand_answered (errand_at m.errands port) (stand_of m) (tables_held m.files) m.files.pending m.task.work port reply)
        by true at = data_heard (omega (arith, eqb-true port (anchors_of m.position) at, same_anchors)) reply m.task.work refl
        by false apart =
            let low_port : port < anchors_of m.position = omega (arith, answers.port_low, eqb-false port (anchors_of m.position) apart) in
            anchor_heard (omega (arith, low_port, same_anchors)) reply (answers.anchor low_port)
