-- A call begins, or an ask goes out.
use Rattle.std.proofs.Common.{◌≡◌, ℕ, ◌<◌, ◌≤◌, inr, Bool, true, false, not, ◌&&◌, ◌==◌, if◌then◌else◌, List, Option, Some, None, arith, refl, sym, ap, subst, ◌∙◌}
use Rattle.std.proofs.lemmas.Bool.{eqb-false, eqb-true}
use Rattle.std.proofs.lemmas.List.{get_or-set_same, set-get_or}
use Rattle.pf_base.specs.declared.asks.Ask.{Ask}
use Rattle.pf_tree.specs.Calls.{FileCall}
use Rattle.pf_paxos.specs.declared.parts.AnchorNext.{AnchorNext}
use Rattle.pf_paxos.specs.declared.parts.AnchorNext.TheVariants.{Write, Read, Idle}
use Rattle.pf_paxos.specs.declared.parts.AnchorAsk.{AnchorAsk}
use Rattle.pf_paxos.specs.declared.parts.AnchorAsk.TheVariants.{Nothing, OwnBlock, Half}
use Rattle.pf_paxos.specs.declared.parts.Part.{Part}
use Rattle.pf_paxos.specs.declared.parts.Stage.{Stage}
use Rattle.pf_paxos.specs.declared.parts.Stage.TheVariants.{Writes, ReadsLow, ReadsHigh, Done}
use Rattle.pf_paxos.specs.Parts.{no_part, part_at, part_takes, with_part}
use Rattle.pf_paxos.specs.Ballots.{BallotIs, asked_next, next_at_anchor}
use Rattle.pf_paxos.specs.BallotRuns.{Asks as AsksNext, turn_asking}
use Rattle.pf_law_lists.specs.Journals.{Acts, Doing, BallotJournal, Looks as LooksAt, journal_goes_on}
use Rattle.pf_journal.specs.declared.layouts.Layout.{Layout}
use Rattle.pf_journal.specs.Layouts.{layout_of}
use Rattle.pf_mount_errands.specs.declared.errands.Errand.{Errand}
use Rattle.pf_mount_errands.specs.declared.errands.Errand.TheVariants.{Free, FillsSuper, OfSync as SyncErrand, OfPause as PauseErrand, OfSuper as SuperErrand}
use Rattle.pf_mount_errands.specs.declared.errands.Errands.{Errands}
use Rattle.pf_mount_errands.specs.Errands.{errand_at, is_anchor_free, is_pausing, least_free_anchor, with_errand}
use Rattle.pf_mount_errands.specs.Looks.{look_at}
use Rattle.pf_mount_errands.specs.Places.{reads_first, reads_super, writes_super}
use Rattle.pf_mount_errands.specs.Positions.{PositionIs, anchors_of, having_asked}
use Rattle.pf_mount.specs.declared.work.MountWork.{MountWork}
use Rattle.pf_mount.specs.declared.work.MountWork.TheVariants.{ReadsSuper, Rests, Syncs, Ballots, Pauses, WritesSuper}
use Rattle.pf_mount.specs.Mounts.{MountIs, asked_anchor, asked_data, hands_errand, hands_nothing, having_started, tables_held, looks_on, stand_of, syncs, works_on}
use Rattle.pf_mount.proofs.AnchorAsks.{next_asked}
use Rattle.pf_law_calls.specs.Doings.{asks_for, asks_now, at_anchor, began, looker, mbal_at, no_doing as nothing_in}
use Rattle.pf_law_calls.specs.Lives.{Waiting, OfBallot, OfSync, OfPause, OfSuper, Life, Asks, Begins, Input, ballot_waits, decided_by, look_waits, mount_after, waits_after, waits_now, waits_with, with_value, work_waits}
use Rattle.pf_law_calls.proofs.MountsInJournals.{Follows, act_keeps, after_act, after_look, asked_in}
use Rattle.pf_law_calls.proofs.MountSteps.{syncs_go}
use Rattle.pf_law_calls.proofs.Layouts.{anchors_in, below_three}
use Rattle.pf_law_calls.proofs.MountLives.{GoesOnTo, IsIn, IsMountIn, PhaseFits, began_none, look_still, mbal_here, none_rests, nothing_still, still_in, taken}
use Rattle.pf_law_calls.proofs.AnchorPending.{AreWaits, WaitsAs, changed_waits, errand_other, errand_same, free_errand, free_idle, past_waits}

-- the mount is one of the journal after the two doings of the input, and the second begins no ballot where one runs
abbrev pub GoesWith : Layout → BallotJournal → Life → Input → Type 0
GoesWith layout j l input =
    GoesOnTo layout (journal_goes_on j (at_anchor l input)) (began l.mount (mount_after l.mount input)) l.mount.files.mount (mount_after l.mount input) (waits_after l input) (with_value l.decided (decided_by l.mount input))

-- nothing is asked
idle_stays : (p : BallotIs) (a : ℕ) → next_at_anchor p a ≡ Idle → asked_next p a ≡ p
idle_stays p a idle =
    ap (λ (n : AnchorNext). let ps : List Part = with_part p.parts a (part_takes (part_at p.parts a) n) in record p { parts = ps }) idle
    ∙ ap (λ (ps : List Part). record p { parts = ps }) (set-get_or p.parts a no_part)

module _ {layout : Layout} (j : BallotJournal) (l : Life) (low : l.mount.files.mount < 16) (lies : l.mount.position.layout ≡ layout) (is : IsMountIn layout j l.mount.files.mount l.mount l.waits l.decided) where
  abbrev m : MountIs
  m = l.mount

  abbrev p : BallotIs
  p = l.mount.position.ballot

  abbrev its : Layout
  its = l.mount.position.layout

  abbrev nothing : Doing
  nothing = nothing_in its

  before_in : IsIn layout (journal_goes_on j nothing) m.files.mount m.upto p m.errands m.task.work l.waits l.decided
  before_in = still_in its j m.files.mount m.upto p m.errands m.task.work l.waits l.decided is nothing refl

  pub begins_on : (call : FileCall) → m.task.work ≡ Rests → GoesWith layout j l (Begins call)
  begins_on call rests =
      let n = having_started m call in
      taken n low (journal_goes_on j nothing) n (record { step = syncs (stand_of n) (tables_held n.files) n.files.pending; tables = n.files.tables }) l.waits l.decided (record {
        follows = before_in.follows;
        waits_are = before_in.waits_are;
        was = mbal_here n n.upto refl;
        goes = inr (record {
          rests = subst (λ (work : MountWork). PhaseFits work p.phase) rests is.phase;
          goes = syncs_go n n.files.tables (tables_held n.files) n.files.pending;
        });
      })

  module _ (port : ℕ) where
    -- what is handed out at the port, with this doing
    record HandsSo (d : Doing) (w : Option Waiting) (q : BallotIs) (e : Errands) : Type 0 where
      follows : Follows layout (journal_goes_on j d) m.files.mount m.upto q l.decided
      phase : PhaseFits m.task.work q.phase
      mbal : p.own.mbal ≡ q.own.mbal
      waits_are : AreWaits layout m.upto e q.parts (waits_with l.waits port w) (asked_in (journal_goes_on j d) m.files.mount)

    abbrev AskedTo : Doing → Option Waiting → MountIs → Type 0
    AskedTo d w n = GoesOnTo layout (journal_goes_on j d) (began m n) m.files.mount n (waits_with l.waits port w) l.decided

    handed : (d : Doing) (w : Option Waiting) (x : PositionIs) (e : Errands) (ask : Option Ask) → HandsSo d w x.ballot e → AskedTo d w (record m { position = x; errands = e; task = record m.task { ask = ask } })
    handed d w x e ask so =
        let none = began_none its m.task.work m.files.mount (mbal_at m m.upto) x.ballot.own.mbal x.rivals.seen (mbal_here m m.upto refl ∙ so.mbal) in
        record {
          mount = still_in its (journal_goes_on j d) m.files.mount m.upto x.ballot e m.task.work (waits_with l.waits port w) l.decided (record { follows = so.follows; phase = so.phase; waits_are = so.waits_are }) _ none;
          rests = none_rests its (journal_goes_on j d) _ none;
        }

    -- file data are of no anchor
    data_asked : (w : Option Waiting) → port ≡ anchors_in layout → AskedTo nothing w (asked_data m)
    data_asked w at = handed nothing w m.position m.errands None (record {
      follows = before_in.follows;
      phase = is.phase;
      mbal = refl;
      waits_are = past_waits layout m.upto m.errands p.parts l.waits (asked_in (journal_goes_on j nothing) m.files.mount) before_in.waits_are (asked_in (journal_goes_on j nothing) m.files.mount) port (omega (arith, at)) w (λ a q less. refl);
    })

    module _ (low_a : port < anchors_in layout) where
      -- an ask is pending there
      busy : AskedTo nothing (l.waits port) m
      busy = handed nothing (l.waits port) m.position m.errands m.task.ask (record {
        follows = before_in.follows;
        phase = is.phase;
        mbal = refl;
        waits_are =
            let olds = asked_in (journal_goes_on j nothing) m.files.mount in
            changed_waits layout m.upto m.errands p.parts l.waits olds before_in.waits_are olds m.errands p.parts port (l.waits port) (before_in.waits_are port low_a) (λ b low_b apart. (refl, refl, λ q less. refl));
      })

      module _ (free : is_anchor_free m.errands p.parts port ≡ true) where
        is_errand : errand_at m.errands port ≡ Free
        is_errand = free_errand (errand_at m.errands port) (part_at p.parts port).asked free

        is_idle : (part_at p.parts port).asked ≡ Nothing
        is_idle = free_idle (errand_at m.errands port) (part_at p.parts port).asked free

        -- this errand is handed out there, or none
        errand_waits : (d : Doing) → ((a q : ℕ) → asked_in (journal_goes_on j d) m.files.mount a q ≡ asked_in j m.files.mount a q) → (x : Errand) (w : Option Waiting) → WaitsAs m.upto x Nothing w (asked_in (journal_goes_on j d) m.files.mount port)
            → AreWaits layout m.upto (with_errand m.errands port x) p.parts (waits_with l.waits port w) (asked_in (journal_goes_on j d) m.files.mount)
        errand_waits d still x w waits_as =
            let news = asked_in (journal_goes_on j d) m.files.mount in
            changed_waits layout m.upto m.errands p.parts l.waits (asked_in j m.files.mount) is.waits_are news (with_errand m.errands port x) p.parts port w
            (subst (λ (y : Errand). WaitsAs m.upto y (part_at p.parts port).asked w (news port)) (sym (errand_same m.errands port x))
            (subst (λ (n : AnchorAsk). WaitsAs m.upto x n w (news port)) (sym is_idle) waits_as))
            (λ b low_b apart. (errand_other m.errands port b x (below_three layout port low_a) (below_three layout b low_b) apart, refl, λ q less. still b q))

        none_waits : AreWaits layout m.upto m.errands p.parts (waits_with l.waits port None) (asked_in (journal_goes_on j nothing) m.files.mount)
        none_waits =
            let olds = asked_in (journal_goes_on j nothing) m.files.mount in
            changed_waits layout m.upto m.errands p.parts l.waits olds before_in.waits_are olds m.errands p.parts port None
            (subst (λ (y : Errand). WaitsAs m.upto y (part_at p.parts port).asked None (olds port)) (sym is_errand)
            (subst (λ (n : AnchorAsk). WaitsAs m.upto Free n None (olds port)) (sym is_idle) tt))
            (λ b low_b apart. (refl, refl, λ q less. refl))

        none_asked : AskedTo nothing None m
        none_asked = handed nothing None m.position m.errands m.task.ask (record { follows = before_in.follows; phase = is.phase; mbal = refl; waits_are = none_waits })

        half_asked : (half : ℕ) (e : Errands) → e ≡ with_errand m.errands port SyncErrand → AskedTo (asks_for its m.files.mount port (Some (OfSync m.upto half))) (Some (OfSync m.upto half)) (record m { errands = e })
        half_asked half e same = handed (asks_for its m.files.mount port (Some (OfSync m.upto half))) (Some (OfSync m.upto half)) m.position e m.task.ask (record {
          follows = after_look j m.files.mount m.upto p l.decided is.follows m.upto (turn_asking (looker m.files.mount) port (Read half));
          phase = is.phase;
          mbal = refl;
          waits_are =
              let turn = turn_asking (looker m.files.mount) port (Read half) in
              let d = LooksAt m.upto turn in
              subst (λ (x : Errands). AreWaits layout m.upto x p.parts (waits_with l.waits port (Some (OfSync m.upto half))) (asked_in (journal_goes_on j d) m.files.mount)) (sym same)
              (errand_waits d (λ a q. look_still j m.files.mount m.upto turn a q) SyncErrand (Some (OfSync m.upto half)) (refl, tt));
        })

        look_asked : (stage : Stage) → AskedTo (asks_for its m.files.mount port (look_waits m.upto stage)) (look_waits m.upto stage) (let h = looks_on (stand_of m) port stage in record m { position = h.stand.position; errands = h.stand.errands })
        look_asked ReadsLow = half_asked 0 (with_errand m.errands port SyncErrand) refl
        look_asked ReadsHigh = half_asked 1 (with_errand m.errands port SyncErrand) refl
        look_asked Writes = none_asked
        look_asked Done = none_asked

        -- a ballot's ask
        abbrev asks : Doing
        asks = Acts m.files.mount m.upto port AsksNext

        -- what counts as asked at the anchor then
        abbrev taken_as : AnchorNext → AnchorAsk
        taken_as n = (part_takes (part_at p.parts port) n).asked

        next_waits : (n : AnchorNext) (asked : AnchorAsk) → next_at_anchor p port ≡ n → taken_as n ≡ asked → ((old : ℕ → AnchorAsk) → WaitsAs m.upto Free asked (Some (OfBallot m.upto)) old) → AreWaits layout m.upto m.errands (asked_next p port).parts (waits_with l.waits port (Some (OfBallot m.upto))) (asked_in (journal_goes_on j asks) m.files.mount)
        next_waits n asked next taken_so waits_as =
            let news = asked_in (journal_goes_on j asks) m.files.mount in
            changed_waits layout m.upto m.errands p.parts l.waits (asked_in j m.files.mount) is.waits_are news m.errands (asked_next p port).parts port (Some (OfBallot m.upto))
            (subst (λ (y : Errand). WaitsAs m.upto y (part_at (asked_next p port).parts port).asked (Some (OfBallot m.upto)) (news port)) (sym is_errand)
            (subst (λ (k : AnchorAsk). WaitsAs m.upto Free k (Some (OfBallot m.upto)) (news port)) (sym asked_now) (waits_as (news port))))
            (λ b low_b apart. (refl, next_asked b port apart p, λ q less. act_keeps m.files.mount b port apart j m.upto AsksNext q))
          where
            asked_now : (part_at (asked_next p port).parts port).asked ≡ asked
            asked_now =
                ap (λ (x : Part). x.asked) (get_or-set_same p.parts port (part_takes (part_at p.parts port) (next_at_anchor p port)) no_part (omega (arith, low_a, is.follows.count)))
                ∙ ap taken_as next
                ∙ taken_so

        next_asked_so : (n : AnchorNext) (asked : AnchorAsk) → next_at_anchor p port ≡ n → taken_as n ≡ asked → ((old : ℕ → AnchorAsk) → WaitsAs m.upto Free asked (Some (OfBallot m.upto)) old) → AskedTo (asks_for its m.files.mount port (Some (OfBallot m.upto))) (Some (OfBallot m.upto)) (record m { position = having_asked m.position port })
        next_asked_so n asked next taken_so waits_as = handed (asks_for its m.files.mount port (Some (OfBallot m.upto))) (Some (OfBallot m.upto)) (having_asked m.position port) m.errands m.task.ask (record {
          follows = after_act j m.files.mount m.upto p l.decided is.follows low port low_a AsksNext _ refl refl;
          phase = is.phase;
          mbal = refl;
          waits_are = next_waits n asked next taken_so waits_as;
        })

        ballot_asked : (n : AnchorNext) → next_at_anchor p port ≡ n → AskedTo (asks_for its m.files.mount port (ballot_waits m.upto n)) (ballot_waits m.upto n) (record m { position = having_asked m.position port })
        ballot_asked (Write block) next = next_asked_so (Write block) OwnBlock next refl (λ old. refl)
        ballot_asked (Read half) next = next_asked_so (Read half) (Half half) next refl (λ old. refl)
        ballot_asked Idle next = handed nothing None (having_asked m.position port) m.errands m.task.ask (record {
          follows = subst (λ (x : BallotIs). Follows layout (journal_goes_on j nothing) m.files.mount m.upto x l.decided) (sym (idle_stays p port next)) before_in.follows;
          phase = is.phase;
          mbal = refl;
          waits_are = subst (λ (x : BallotIs). AreWaits layout m.upto m.errands x.parts (waits_with l.waits port None) (asked_in (journal_goes_on j nothing) m.files.mount)) (sym (idle_stays p port next)) none_waits;
        })

        pause_asked : (b : Bool) → AskedTo (asks_for its m.files.mount port (if b then Some OfPause else None)) (if b then Some OfPause else None) (let h = if b then hands_errand (stand_of m) port PauseErrand (reads_first (layout_of its) m.files.volume port m.upto) else hands_nothing (stand_of m) in record m { position = h.stand.position; errands = h.stand.errands })
        pause_asked true = handed nothing (Some OfPause) m.position (with_errand m.errands port PauseErrand) m.task.ask (record {
          follows = before_in.follows;
          phase = is.phase;
          mbal = refl;
          waits_are = errand_waits nothing (λ a q. nothing_still its j m.files.mount a q) PauseErrand (Some OfPause) (refl, tt);
        })
        pause_asked false = none_asked

        -- the superblock is asked at anchor 0
        super_asked : (x : Errand) (ask : Ask) → ((old : ℕ → AnchorAsk) → WaitsAs m.upto x Nothing (Some OfSuper) old) → (b : Bool) → AskedTo (asks_for its m.files.mount port (if b then Some OfSuper else None)) (if b then Some OfSuper else None) (let h = if b then hands_errand (stand_of m) port x ask else hands_nothing (stand_of m) in record m { position = h.stand.position; errands = h.stand.errands })
        super_asked x ask waits_as true = handed nothing (Some OfSuper) m.position (with_errand m.errands port x) m.task.ask (record {
          follows = before_in.follows;
          phase = is.phase;
          mbal = refl;
          waits_are = errand_waits nothing (λ a q. nothing_still its j m.files.mount a q) x (Some OfSuper) (waits_as _);
        })
        super_asked x ask waits_as false = none_asked

        work_asked : (work : MountWork) → AskedTo (asks_for its m.files.mount port (work_waits m work port)) (work_waits m work port) (let h = works_on (stand_of m) work port in record m { position = h.stand.position; errands = h.stand.errands })
        work_asked ReadsSuper = super_asked SuperErrand (reads_super m.files.volume) (λ old. (refl, tt)) (port == 0)
        work_asked WritesSuper = super_asked FillsSuper (writes_super m.files.volume) (λ old. (refl, tt)) (port == 0)
        work_asked (Syncs looks) = look_asked (look_at looks port).stage
        work_asked (Ballots input) = ballot_asked (next_at_anchor p port) refl
        work_asked (Pauses input left) = pause_asked (not (is_pausing m.errands) && (port == least_free_anchor m.errands p.parts))
        work_asked work = none_asked

      anchor_asked : AskedTo (asks_now m port) (waits_now l port) (asked_anchor m port)
      anchor_asked = by (is_anchor_free m.errands p.parts port) refl
        where
          by : (c : Bool) → is_anchor_free m.errands p.parts port ≡ c → AskedTo (if c then asks_for its m.files.mount port (work_waits m m.task.work port) else nothing) (if c then work_waits m m.task.work port else l.waits port) (let h = if c then works_on (stand_of m) m.task.work port else hands_nothing (stand_of m) in record m { position = h.stand.position; errands = h.stand.errands })
          by true free = work_asked free m.task.work
          by false free = busy

    same_anchors : anchors_of m.position ≡ anchors_in layout
    same_anchors = ap anchors_in lies

    pub asks_on : port ≤ anchors_of m.position → GoesWith layout j l (Asks port)
    asks_on low_port = by (port == anchors_of m.position) refl
      where
        by : (b : Bool) → (port == anchors_of m.position) ≡ b → AskedTo (if b then nothing else asks_now m port) (waits_now l port) (if b then asked_data m else asked_anchor m port)
        by true at = data_asked (waits_now l port) (eqb-true port (anchors_of m.position) at ∙ same_anchors)
        by false apart = anchor_asked (omega (arith, low_port, eqb-false port (anchors_of m.position) apart, same_anchors))
