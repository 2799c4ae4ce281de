-- What is known of a mount since a moment, input by input: its sync has read what the history has, and past it what is said of the mount's
-- position is true.
use Rattle.std.proofs.Common.{◌≡◌, ◌≢◌, inl, inr, ℕ, suc, ◌<◌, ◌≤◌, ◌==◌, true, false, if◌then◌else◌, List, [], ◌∷◌, ◌++◌, length, take, Option, Some, None, slice_get, arith, refl, sym, ap, subst, ◌∙◌, append-nil}
use Rattle.std.proofs.lemmas.Bool.{cases_eq, cond-false, cond-true, eq-eqb, eqb-false, eqb-true, ne_eqb}
use Rattle.std.proofs.lemmas.List.{append_assoc}
use Rattle.pf_base.specs.declared.asks.Reply.{Reply}
use Rattle.pf_base.specs.declared.asks.Reply.TheVariants.{Bytes, Written}
use Rattle.pf_entry.proofs.Cases.{by_test}
use Rattle.pf_volume.specs.Volumes.{Extent}
use Rattle.pf_paxos.specs.declared.block.Block.{Block}
use Rattle.pf_paxos.specs.declared.ballot.BallotStep.TheVariants.{NoValue}
use Rattle.pf_paxos.specs.declared.ballot.Phase.TheVariants.{Resting}
use Rattle.pf_paxos.specs.declared.parts.AnchorAsk.{AnchorAsk}
use Rattle.pf_paxos.specs.declared.parts.AnchorAsk.TheVariants.{Half, Nothing, OwnBlock}
use Rattle.pf_paxos.specs.BallotRuns.{At, Calls, BallotEvent, GetsRead, Mounts, Otherwise, no_turn, ballots_opening, run_ballots, anchor_turn_answered, ballot_turn}
use Rattle.pf_paxos.specs.Ballots.{BallotIs, read_at}
use Rattle.pf_paxos.specs.Parts.{part_at}
use Rattle.pf_paxos.specs.Quorums.{AnchorTurn, FindsNothingOver, turn_on}
use Rattle.pf_paxos.specs.Registers.{Gives}
use Rattle.pf_paxos.proofs.BallotKept.{turns}
use Rattle.pf_paxos.proofs.BallotMoments.{Run, turn_at}
use Rattle.pf_journal.specs.declared.layouts.Layout.{Layout}
use Rattle.pf_journal.specs.Layouts.{layout_of}
use Rattle.pf_law_lists.specs.Journals.{Acts, BallotJournal}
use Rattle.pf_law_lists.proofs.JournalPositions.{Case, before as journal_before, events, past, position_event, position_run, start}
use Rattle.pf_mount_errands.specs.Blocks.{blocks_in}
use Rattle.pf_mount_errands.specs.declared.errands.Errand.{Errand}
use Rattle.pf_mount_errands.specs.declared.errands.Errand.TheVariants.{Free, OfSync}
use Rattle.pf_mount_errands.specs.declared.errands.Errands.{Errands}
use Rattle.pf_mount_errands.specs.declared.looks.AnchorLook.{AnchorLook}
use Rattle.pf_mount_errands.specs.declared.looks.Looks.{Looks}
use Rattle.pf_mount_errands.specs.Errands.{errand_at, with_errand}
use Rattle.pf_mount_errands.specs.Looks.{having_looked, look_at, looked}
use Rattle.pf_mount_errands.specs.Positions.{anchors_of}
use Rattle.pf_mount.specs.declared.work.MountWork.{MountWork}
use Rattle.pf_mount.specs.declared.work.MountWork.TheVariants.{Ballots, Syncs}
use Rattle.pf_mount.specs.Mounts.{MountIs, mount_asked}
use Rattle.pf_mount.specs.Standing.{AnswersPort, AnswersBallot, AnswersErrand}
use Rattle.pf_law_calls.specs.Doings.{act_of, at_anchor, began, doings, hears_for, journal_after, looker, mbal_at, no_doing, reply_of}
use Rattle.pf_law_calls.specs.Lives.{Asks, Begins, CanBe, CanComeFrom, CanTake, Hears, Input, Life, OfBallot, MountTold, Waiting, all_opened, decided_by, lived, lives, lives_on as goes, mount_after, waits_after, waits_with}
use Rattle.pf_law_calls.proofs.MountsInJournals.{asked_in}
use Rattle.pf_law_calls.proofs.Layouts.{anchors_in, below_three, mounts_lie}
use Rattle.pf_law_calls.proofs.AnchorPending.{WaitsAs, errand_other, errand_same}
use Rattle.pf_law_calls.proofs.Journals.{IsLived, is_lived}
use Rattle.pf_law_calls.proofs.AnchorTurns.{answer_turns}
use Rattle.pf_law_calls.proofs.Parts.{can_after, lives_on}
use Rattle.pf_law_calls.proofs.Below.{longer_with}
use Rattle.pf_law_calls.proofs.ValuelessBallots.{lacking_finds, lacks_now}
use Rattle.pf_law_calls.proofs.Places.{IsPlaceOf, IsQuietFor, LooksIn, LooksOn, LooksWith, QuietIn, input_place}
use Rattle.pf_law_calls.proofs.SyncDoings.{above, at_apart, asked_seen, began_apart, c, can_done, first_there, heard_answered, heard_other, journal_there, moment, moment_next, nothing_apart, second_there}
use Rattle.pf_law_calls.proofs.Seen.{AreSeen, SeenAt, look_other, look_same, new_seen, quiet_sync, seen_freed, seen_still}

-- what a ballot that waits for these blocks has asked
half_asked : (asked : AnchorAsk) (reply : Reply) (sectors : List (List ℕ)) → reply ≡ Bytes sectors → AnswersBallot asked reply → (half : ℕ) × (asked ≡ Half half)
half_asked OwnBlock Written sectors same answers = absurd (grind (arith, same))
half_asked OwnBlock (Bytes s) sectors same answers = absurd answers
half_asked (Half half) reply sectors same answers = (half, refl)
half_asked Nothing reply sectors same answers = absurd answers

module _ (layout : Layout) (v : Extent) (told : List MountTold) (can : CanBe layout v told) (m : ℕ) (low : m < 16) (from : ℕ) where
  abbrev ds : Case
  ds = c layout v told can

  abbrev pub Seen : (t : ℕ) → (ℕ → Option Waiting) → (upto : ℕ) → Errands → Looks → Type 0
  Seen t waits upto e looks = AreSeen layout ds from (looker m) (above ds from m) t waits upto e looks

  abbrev Sees : (t q a : ℕ) → AnchorLook → Errand → Option Waiting → Type 0
  Sees t q a look e w = SeenAt layout ds from (looker m) (above ds from m) t q a look e w

  module _ (Q : ℕ → Type 0) (rises : (upto : ℕ) → Q upto → Q (suc upto)) (last : Q (layout_of layout).positions) (bounded : (q : ℕ) → FindsNothingOver ds.anchors ds.quorum (past ds q) from → Q q) (least : ℕ)
      (rested : (q : ℕ) → least ≤ q → ((journal_before ds from).mounts q m).phase ≡ Resting) where
    pub record KnownIn (t : ℕ) (l : Life) : Type 0 where
      pub place : IsPlaceOf layout Q (Seen t l.waits) l.mount
      pub reached : least ≤ length l.decided
      pub late : from ≤ t

    -- one input of the mount
    module _ (done more : List MountTold) (input : Input) (same : told ≡ done ++ record { mount = m; input = input } ∷ more) (known : KnownIn (moment layout v told can done) (lives layout v done m)) where
      abbrev own : MountTold
      own = record { mount = m; input = input }

      abbrev k : ℕ
      k = moment layout v told can done

      abbrev l : Life
      l = lives layout v done m

      abbrev x : MountIs
      x = l.mount

      its : IsLived layout v (journal_after layout v done) m l
      its = is_lived layout v done m (can_done layout v told can done (own ∷ more) same) low

      lie : x.position.layout ≡ layout
      lie = (mounts_lie layout v done m).lies

      at_first : slice_get (doings layout v told) k ≡ Some (at_anchor l input)
      at_first = first_there layout v told can done own more same

      at_second : slice_get (doings layout v told) (suc k) ≡ Some (began x (mount_after x input))
      at_second = second_there layout v told can done own more same

      takes : CanTake x input
      takes = let rest : CanComeFrom (lives layout v done) (own ∷ more) = can_after (all_opened layout v) done (own ∷ more) (subst (CanBe layout v) same can) in rest.0.takes

      then_still : (q a : ℕ) (look : AnchorLook) (e : Errand) (w : Option Waiting) → Sees (suc k) q a look e w → Sees (suc (suc k)) q a look e w
      then_still q a look e w is =
          let after = mount_after x input in
          seen_still layout ds from (looker m) (above ds from m) (suc k) q a (began x after) at_second
          (began_apart ds from m x.position.layout after.task.work x.files.mount (mbal_at x after.upto) after.position.ballot.own.mbal after.position.rivals.seen a)
          look.stage look.found e w is

      new_waits : ℕ → Option Waiting
      new_waits = waits_after l input

    module _ (done more : List MountTold) (port : ℕ) (same : told ≡ done ++ record { mount = m; input = Asks port } ∷ more) (known : KnownIn (moment layout v told can done) (lives layout v done m)) where
      abbrev a_l : Life
      a_l = lives layout v done m

      asks_on : (work : MountWork) → a_l.mount.task.work ≡ work → LooksWith layout Q (Seen (moment layout v told can done) a_l.waits) a_l.mount.upto a_l.mount.errands work
          → LooksWith layout Q (Seen (suc (suc (moment layout v told can done))) (waits_after a_l (Asks port))) a_l.mount.upto (mount_asked a_l.mount port).errands work
      asks_on (Syncs looks) works old = record {
        there = λ a low_a.
            then_still done more (Asks port) same known a_l.mount.upto a (look_at looks a) (errand_at (mount_asked a_l.mount port).errands a) (waits_after a_l (Asks port) a)
            (asked_seen layout ds from m (moment layout v told can done) known.late a_l (its done more (Asks port) same known).number (lie done more (Asks port) same known) port looks old a low_a (takes done more (Asks port) same known) works (at_first done more (Asks port) same known));
        past = old.past;
      }
      asks_on work works old = tt

    -- an answer
    module _ (done more : List MountTold) (port : ℕ) (reply : Reply) (same : told ≡ done ++ record { mount = m; input = Hears port reply } ∷ more) (known : KnownIn (moment layout v told can done) (lives layout v done m)) where
      abbrev h_l : Life
      h_l = lives layout v done m

      abbrev y : MountIs
      y = h_l.mount

      abbrev h_k : ℕ
      h_k = moment layout v told can done

      abbrev q : ℕ
      q = y.upto

      is : IsLived layout v (journal_after layout v done) m h_l
      is = its done more (Hears port reply) same known

      h_lie : y.position.layout ≡ layout
      h_lie = lie done more (Hears port reply) same known

      answers : AnswersPort y port reply
      answers = takes done more (Hears port reply) same known

      abbrev Old : MountWork → Type 0
      Old work = LooksWith layout Q (Seen h_k h_l.waits) q y.errands work

      abbrev NewAt : ℕ → Errands → Looks → Type 0
      NewAt upto e looks = Seen (suc (suc h_k)) (waits_with h_l.waits port None) upto e looks

      abbrev New : Errands → Looks → Type 0
      New e looks = NewAt q e looks

      still_then : (a : ℕ) (look : AnchorLook) (e : Errand) (w : Option Waiting) → Sees (suc h_k) q a look e w → Sees (suc (suc h_k)) q a look e w
      still_then a look e w sees = then_still done more (Hears port reply) same known q a look e w sees

      waits_there : (a : ℕ) → a ≢ port → waits_with h_l.waits port None a ≡ h_l.waits a
      waits_there a apart = cond-false (a == port) None (h_l.waits a) (ne_eqb a port apart)

      -- file data
      data_on : (port == anchors_of y.position) ≡ true → (work : MountWork) → Old work → LooksWith layout Q NewAt q y.errands work
      data_on of_data (Syncs looks) old = record {
        there = λ a low_a.
            let high = eqb-true port (anchors_of y.position) of_data in
            let count = ap anchors_in h_lie in
            let apart : a ≢ port = λ e. absurd (omega (arith, e, high, count, low_a)) in
            let at = at_first done more (Hears port reply) same known ∙ ap (λ d. Some d) (cond-true (port == anchors_of y.position) (no_doing y.position.layout) (hears_for y.position.layout y.files.mount port reply (h_l.waits port)) of_data) in
            subst (λ (w : Option Waiting). Sees (suc (suc h_k)) q a (look_at looks a) (errand_at y.errands a) w) (sym (waits_there a apart))
            (still_then a (look_at looks a) (errand_at y.errands a) (h_l.waits a)
            (seen_still layout ds from (looker m) (above ds from m) h_k q a (no_doing y.position.layout) at (nothing_apart ds from m y.position.layout a) (look_at looks a).stage (look_at looks a).found (errand_at y.errands a) (h_l.waits a) (old.there a low_a)));
        past = old.past;
      }
      data_on of_data work old = tt

      module _ (anchor : (port == anchors_of y.position) ≡ false) where
        low_port : port < anchors_in layout
        low_port = let apart = eqb-false port (anchors_of y.position) anchor in let count = ap anchors_in h_lie in let le = answers.port_low in omega (arith, apart, count, le)

        few : port < 3
        few = below_three layout port low_port

        at_heard : slice_get (doings layout v told) h_k ≡ Some (hears_for y.position.layout y.files.mount port reply (h_l.waits port))
        at_heard =
            at_first done more (Hears port reply) same known
            ∙ ap (λ d. Some d) (cond-false (port == anchors_of y.position) (no_doing y.position.layout) (hears_for y.position.layout y.files.mount port reply (h_l.waits port)) anchor)

        -- elsewhere nothing changes
        seen_by : (looks new : Looks) (e : Errands) → Old (Syncs looks) → ((a : ℕ) → a < 3 → a ≢ port → look_at new a ≡ look_at looks a) → ((a : ℕ) → a < 3 → a ≢ port → errand_at e a ≡ errand_at y.errands a)
            → Sees (suc (suc h_k)) q port (look_at new port) (errand_at e port) None → New e new
        seen_by looks new e old look_still errand_still here = record {
          there = λ a low_a. elim (cases_eq a port) [
            | inl at ↦
                subst (λ j. Sees (suc (suc h_k)) q j (look_at new j) (errand_at e j) (waits_with h_l.waits port None j)) (sym at)
                (subst (λ (w : Option Waiting). Sees (suc (suc h_k)) q port (look_at new port) (errand_at e port) w) (sym (cond-true (port == port) None (h_l.waits port) (eq-eqb port port refl))) here)
            | inr apart ↦
                let low_there = below_three layout a low_a in
                subst (λ (look : AnchorLook). Sees (suc (suc h_k)) q a look (errand_at e a) (waits_with h_l.waits port None a)) (sym (look_still a low_there apart))
                (subst (λ (f : Errand). Sees (suc (suc h_k)) q a (look_at looks a) f (waits_with h_l.waits port None a)) (sym (errand_still a low_there apart))
                (still_then a (look_at looks a) (errand_at y.errands a) (waits_with h_l.waits port None a)
                (heard_other layout ds from m h_k known.late h_l is.number h_lie port reply looks a old low_a apart at_heard)))
          ];
          past = λ a high less. ap (λ (look : AnchorLook). look.stage) (look_still a less (λ e. absurd (omega (arith, e, high, low_port)))) ∙ old.past a high less;
        }

        -- the anchor is free, and the sync has not read more
        freed_by : (looks : Looks) (e : Errands) → Old (Syncs looks) → ((a : ℕ) → a < 3 → a ≢ port → errand_at e a ≡ errand_at y.errands a) → errand_at e port ≡ Free → New e looks
        freed_by looks e old errand_still free =
            seen_by looks looks e old (λ a _ _. refl) errand_still
            (subst (λ (f : Errand). Sees (suc (suc h_k)) q port (look_at looks port) f None) (sym free)
            (seen_freed layout ds from (looker m) (above ds from m) h_k q port (suc (suc h_k)) (look_at looks port).stage (look_at looks port).found (errand_at y.errands port) (h_l.waits port) None (old.there port low_port)))

        frees : Errands
        frees = with_errand y.errands port Free

        freed_other : (a : ℕ) → a < 3 → a ≢ port → errand_at (with_errand y.errands port Free) a ≡ errand_at y.errands a
        freed_other a less apart = errand_other y.errands port a Free few less apart

      looked_on : (anchor : (port == anchors_of y.position) ≡ false) (sectors : List (List ℕ)) → reply ≡ Bytes sectors → errand_at y.errands port ≡ OfSync → (looks : Looks) → Old (Syncs looks) → New (with_errand y.errands port Free) (having_looked looks port (blocks_in sectors))
      looked_on anchor sectors read errand looks old =
          let l = having_looked looks port (blocks_in sectors) in
          let at = at_heard anchor ∙ ap (λ r. Some (hears_for y.position.layout y.files.mount port r (h_l.waits port))) read in
          seen_by anchor looks l (with_errand y.errands port Free) old (λ a less apart. look_other looks port a (looked (look_at looks port) (blocks_in sectors)) (few anchor) less apart) (freed_other anchor)
          (subst (λ (look : AnchorLook). Sees (suc (suc h_k)) q port look (errand_at (with_errand y.errands port Free) port) None) (sym (look_same looks port (looked (look_at looks port) (blocks_in sectors))))
          (subst (λ (f : Errand). Sees (suc (suc h_k)) q port (looked (look_at looks port) (blocks_in sectors)) f None) (sym (errand_same y.errands port Free))
          (heard_answered layout ds from m h_k known.late h_l is.number h_lie port sectors looks (suc (suc h_k)) old (low_port anchor) errand at)))

      hears_on : (anchor : (port == anchors_of y.position) ≡ false) (errand : Errand) (r : Reply) (work : MountWork) → errand_at y.errands port ≡ errand → reply ≡ r → Old work → LooksOn layout Q NewAt y port errand r work
      hears_on anchor OfSync (Bytes sectors) (Syncs looks) at read old = looked_on anchor sectors read at looks old
      hears_on anchor Free r (Syncs looks) at read old = freed_by anchor looks y.errands old (λ a _ _. refl) at
      hears_on anchor errand r (Syncs looks) at read old = freed_by anchor looks (with_errand y.errands port Free) old (freed_other anchor) (errand_same y.errands port Free)
      hears_on anchor errand r work at read old = tt

      -- a ballot that ends without a value
      module _ (anchor : (port == anchors_of y.position) ≡ false) (sectors : List (List ℕ)) (read : reply ≡ Bytes sectors) (free : errand_at y.errands port ≡ Free) where
        abbrev blocks : List Block
        blocks = blocks_in sectors

        abbrev p : BallotIs
        p = y.position.ballot

        abbrev ran : Run
        ran = record { anchors = ds.anchors; quorum = ds.quorum; events = events ds q }

        abbrev call : BallotEvent
        call = Calls m (At port (GetsRead blocks))

        asked_half : (half : ℕ) × ((part_at p.parts port).asked ≡ Half half)
        asked_half =
            let apart = eqb-false port (anchors_of y.position) anchor in
            let le = answers.port_low in
            let there = subst (λ (e : Errand). AnswersErrand e (part_at p.parts port).asked reply) free (answers.anchor (omega (arith, apart, le))) in
            half_asked (part_at p.parts port).asked reply sectors read there

        waits_so : h_l.waits port ≡ Some (OfBallot q)
        waits_so =
            let olds = asked_in (journal_after layout v done) m port in
            subst (λ (n : AnchorAsk). WaitsAs q Free n (h_l.waits port) olds) asked_half.1 (subst (λ (e : Errand). WaitsAs q e (part_at p.parts port).asked (h_l.waits port) olds) free (is.mount.waits_are port (low_port anchor)))

        at_act : slice_get (doings layout v told) h_k ≡ Some (Acts m q port (GetsRead blocks))
        at_act =
            at_heard anchor
            ∙ ap (λ w. Some (hears_for y.position.layout y.files.mount port reply w)) waits_so
            ∙ ap (λ n. Some (hears_for y.position.layout n port reply (Some (OfBallot q)))) is.number
            ∙ ap (λ r. Some (hears_for y.position.layout m port r (Some (OfBallot q)))) read

        event_there : slice_get (events ds q) h_k ≡ Some call
        event_there =
            position_event q h_k (start ds) ds.doings (Acts m q port (GetsRead blocks)) at_act
            ∙ ap (λ e. Some e) (cond-true (q == q) call (Otherwise no_turn) (eq-eqb q q refl))

        mounts_there : run_ballots (ballots_opening ds.anchors ds.quorum) (take h_k (events ds q)) ≡ (journal_after layout v done).mounts q
        mounts_there =
            position_run q h_k (start ds) ds.doings
            ∙ ap (λ (j : BallotJournal). j.mounts q) (journal_there layout v told can done (record { mount = m; input = Hears port reply } ∷ more) same)

        turns_now : (b : ℕ) → slice_get (turns ran b) h_k ≡ Some (turn_on b (anchor_turn_answered m port (Gives blocks)))
        turns_now b =
            let answered_turn : ballot_turn ((journal_after layout v done).mounts q) call ≡ anchor_turn_answered m port (Gives blocks) =
            subst (λ (r : Reply). ballot_turn ((journal_after layout v done).mounts q) (Calls m (At port (act_of r))) ≡ anchor_turn_answered m port (reply_of r)) read
            (answer_turns layout v done m (can_done layout v told can done (record { mount = m; input = Hears port reply } ∷ more) same) low port (low_port anchor) reply answers q waits_so) in
            turn_at b (ballots_opening ds.anchors ds.quorum) h_k (events ds q) call event_there
            ∙ ap (λ (ps : Mounts). Some (turn_on b (ballot_turn ps call))) mounts_there
            ∙ ap (λ (turn : AnchorTurn). Some (turn_on b turn)) answered_turn

        lacked : (read_at p port blocks).step ≡ NoValue → FindsNothingOver ds.anchors ds.quorum (past ds q) from
        lacked step =
            let reached = known.reached in
            let count = is.mount.follows.upto_is in
            let rests = ap (λ (ps : Mounts). (ps m).phase) (position_run q from (start ds) ds.doings) ∙ rested q (omega (arith, reached, count)) in
            let there = ap (λ (ps : Mounts). ps m) mounts_there ∙ is.mount.follows.here in
            let parts = is.mount.follows.count in
            let under = low_port anchor in
            lacking_finds ran m low from rests h_k known.late p there port (omega (arith, parts, under)) asked_half.0 asked_half.1 blocks turns_now (lacks_now p port blocks step)

      quiet_for : (anchor : (port == anchors_of y.position) ≡ false) (errand : Errand) (r : Reply) (work : MountWork) → errand_at y.errands port ≡ errand → reply ≡ r → Old work → IsQuietFor layout Q NewAt y port errand r work
      quiet_for anchor OfSync (Bytes sectors) (Syncs looks) at read old = λ all none.
          bounded q
          (quiet_sync layout ds from (looker m) (above ds from m) ds.quorum (suc (suc h_k)) (waits_with h_l.waits port None) q (with_errand y.errands port Free) (having_looked looks port (blocks_in sectors)) (looked_on anchor sectors read at looks old) all none)
      quiet_for anchor Free (Bytes sectors) (Ballots input) at read old = λ step. bounded q (lacked anchor sectors read at step)
      quiet_for anchor errand r work at read old = tt

    -- so is it known of the mount after its input
    module _ (done more : List MountTold) where
      quiet_in : (input : Input) (same : told ≡ done ++ record { mount = m; input = input } ∷ more) (known : KnownIn (moment layout v told can done) (lives layout v done m))
          → QuietIn layout Q (Seen (suc (suc (moment layout v told can done))) (waits_after (lives layout v done m) input)) (lives layout v done m).mount input
      quiet_in (Begins begun) same known = tt
      quiet_in (Asks port) same known = tt
      quiet_in (Hears port reply) same known = λ anchor.
          let x = (lives layout v done m).mount in
          quiet_for done more port reply same known anchor (errand_at x.errands port) reply x.task.work refl refl known.place.looks

      looks_in : (input : Input) (same : told ≡ done ++ record { mount = m; input = input } ∷ more) (known : KnownIn (moment layout v told can done) (lives layout v done m))
          → LooksIn layout Q (Seen (suc (suc (moment layout v told can done))) (waits_after (lives layout v done m) input)) (lives layout v done m).mount input
      looks_in (Begins begun) same known = tt
      looks_in (Asks port) same known = asks_on done more port same known (lives layout v done m).mount.task.work refl known.place.looks
      looks_in (Hears port reply) same known =
          let x = (lives layout v done m).mount in (
            λ of_data. data_on done more port reply same known of_data x.task.work known.place.looks,
            λ anchor. hears_on done more port reply same known anchor (errand_at x.errands port) reply x.task.work refl refl known.place.looks,
          )

      own_known : (input : Input) → told ≡ done ++ record { mount = m; input = input } ∷ more → KnownIn (moment layout v told can done) (lives layout v done m) → KnownIn (suc (suc (moment layout v told can done))) (goes (lives layout v done m) input)
      own_known input same known =
          let l = lives layout v done m in
          let late = known.late in
          let reached = known.reached in
          let longer = longer_with l.decided (decided_by l.mount input) in record {
            place =
                input_place layout Q (Seen (suc (suc (moment layout v told can done))) (waits_after l input)) rises last
                (λ upto e. new_seen layout ds from (looker m) (above ds from m) (suc (suc (moment layout v told can done))) (waits_after l input) upto e)
                l.mount input (mounts_lie layout v done m).lies known.place.within known.place.at (quiet_in input same known) (looks_in input same known);
            reached = omega (arith, reached, longer);
            late = omega (arith, late);
          }

    -- or of another mount
    module _ (done : List MountTold) (t : MountTold) (more : List MountTold) (same : told ≡ done ++ t ∷ more) (other : t.mount ≢ m) (known : KnownIn (moment layout v told can done) (lives layout v done m)) where
      abbrev o_k : ℕ
      o_k = moment layout v told can done

      abbrev o_l : Life
      o_l = lives layout v done m

      abbrev o_its : Life
      o_its = lives layout v done t.mount

      o_other : o_its.mount.files.mount ≢ m
      o_other e =
          let rest : CanComeFrom (lives layout v done) (t ∷ more) = can_after (all_opened layout v) done (t ∷ more) (subst (CanBe layout v) same can) in
          other (sym (is_lived layout v done t.mount (can_done layout v told can done (t ∷ more) same) rest.0.number).number ∙ e)

      o_seen : (a : ℕ) (look : AnchorLook) (e : Errand) (w : Option Waiting) → Sees o_k o_l.mount.upto a look e w → Sees (suc (suc o_k)) o_l.mount.upto a look e w
      o_seen a look e w sees =
          let x = o_its.mount in
          let after = mount_after x t.input in
          let q = o_l.mount.upto in
          seen_still layout ds from (looker m) (above ds from m) (suc o_k) q a (began x after) (second_there layout v told can done t more same)
          (began_apart ds from m x.position.layout after.task.work x.files.mount (mbal_at x after.upto) after.position.ballot.own.mbal after.position.rivals.seen a)
          look.stage look.found e w
          (seen_still layout ds from (looker m) (above ds from m) o_k q a (at_anchor o_its t.input) (first_there layout v told can done t more same) (at_apart ds from m o_its t.input o_other a) look.stage look.found e w sees)

      o_looks : (work : MountWork) → LooksWith layout Q (Seen o_k o_l.waits) o_l.mount.upto o_l.mount.errands work → LooksWith layout Q (Seen (suc (suc o_k)) o_l.waits) o_l.mount.upto o_l.mount.errands work
      o_looks (Syncs looks) old = record { there = λ a low_a. o_seen a (look_at looks a) (errand_at o_l.mount.errands a) (o_l.waits a) (old.there a low_a); past = old.past }
      o_looks work old = tt

      other_known : KnownIn (suc (suc o_k)) o_l
      other_known = let late = known.late in record {
        place = record { within = known.place.within; at = known.place.at; looks = o_looks o_l.mount.task.work known.place.looks };
        reached = known.reached;
        late = omega (arith, late);
      }

    abbrev pub Known : List MountTold → Type 0
    Known done = KnownIn (moment layout v told can done) (lives layout v done m)

    told_known : (done : List MountTold) (t : MountTold) (more : List MountTold) → told ≡ done ++ t ∷ more → Known done → Known (done ++ t ∷ [])
    told_known done t more same known =
        let ls = lives layout v done in
        let here : KnownIn (suc (suc (moment layout v told can done))) (lived ls t m) =
        by_test (m == t.mount) (λ b. KnownIn (suc (suc (moment layout v told can done))) (if b then goes (ls m) t.input else ls m))
        (λ own. own_known done more t.input (subst (λ i. told ≡ done ++ record { mount = i; input = t.input } ∷ more) (sym (eqb-true m t.mount own)) same) known)
        (λ apart. other_known done t more same (λ e. eqb-false m t.mount apart (sym e)) known) in
        subst (λ k. KnownIn k (lives layout v (done ++ t ∷ []) m)) (sym (moment_next layout v told can done t more same))
        (subst (λ (of : ℕ → Life). KnownIn (suc (suc (moment layout v told can done))) (of m)) (sym (lives_on (all_opened layout v) done (t ∷ []))) here)

    pub all_known : (mid done after : List MountTold) → told ≡ done ++ (mid ++ after) → Known done → Known (done ++ mid)
    all_known [] done after same known = subst Known (sym (append-nil done)) known
    all_known (t ∷ mid) done after same known =
        subst Known (append_assoc done (t ∷ []) mid)
        (all_known mid (done ++ t ∷ []) after (same ∙ sym (append_assoc done (t ∷ []) (mid ++ after))) (told_known done t (mid ++ after) same known))
