-- A mount that is one of a journal, and how a step takes it and the journal on.
use Rattle.std.proofs.Common.{◌≡◌, ℕ, ◌⊎◌, inl, inr, Bool, true, false, ◌+◌, ◌*◌, ◌-◌, ◌/◌, ◌<◌, ◌≤◌, ◌==◌, nat_lt, if◌then◌else◌, List, Option, Some, None, arith, refl, sym, ap, subst, ◌∙◌}
use Rattle.std.specs.Prelude.{max, unwrap_or}
use Rattle.std.proofs.lemmas.Bool.{cases_lt, cond-false, cond-true, eq-eqb, le-ltb, lt-ltb}
use Rattle.pf_paxos.specs.Blocks.{ballot_after}
use Rattle.pf_paxos.specs.declared.ballot.Phase.{Phase}
use Rattle.pf_paxos.specs.declared.ballot.Phase.TheVariants.{Resting}
use Rattle.pf_paxos.specs.Parts.{part_at}
use Rattle.pf_paxos.specs.Ballots.{BallotIs, ballot_claim, started}
use Rattle.pf_paxos.specs.Quorums.{AnchorTurn}
use Rattle.pf_paxos.specs.BallotRuns.{no_turn}
use Rattle.pf_law_lists.specs.Journals.{Doing, Ballots as BeginsBallot, BallotJournal, Looks, journal_goes_on, position_of}
use Rattle.pf_journal.specs.declared.layouts.Layout.{Layout}
use Rattle.pf_journal.specs.Layouts.{layout_of}
use Rattle.pf_mount_errands.specs.declared.errands.Errands.{Errands}
use Rattle.pf_mount_errands.specs.Errands.{all_late}
use Rattle.pf_mount_errands.specs.Positions.{starting_ballot}
use Rattle.pf_mount.specs.declared.work.MountTask.{MountTask}
use Rattle.pf_mount.specs.declared.work.MountWork.{MountWork}
use Rattle.pf_mount.specs.declared.work.MountWork.TheVariants.{Rests, Fails, ReadsSuper, WritesSuper, Syncs, Ballots, Pauses, Moves}
use Rattle.pf_mount.specs.Mounts.{MountIs, Worked, stand_of, takes_work}
use Rattle.pf_mount.proofs.AnchorAsks.{started_asked}
use Rattle.pf_law_calls.specs.Doings.{began, began_in, mbal_at, no_doing}
use Rattle.pf_law_calls.specs.Lives.{Waiting}
use Rattle.pf_law_calls.proofs.MountsInJournals.{Follows, after_ballot, after_look, asked_in, ballot_keeps, look_keeps, stands_at}
use Rattle.pf_law_calls.proofs.MountSteps.{GoesOn, IsNoBallot, Rested}
use Rattle.pf_law_calls.proofs.AnchorPending.{AreWaits, all_late_waits, same_waits}
use Rattle.pf_law_calls.proofs.RestingMounts.{AtRest}

-- beside a ballot's work no ballot runs
abbrev pub PhaseFits : MountWork → Phase → Type 0
PhaseFits (Ballots input) phase = Unit {0}
PhaseFits work phase = phase ≡ Resting

pub phase_fits : (work : MountWork) (phase : Phase) → phase ≡ Resting → PhaseFits work phase
phase_fits (Ballots input) phase is = tt
phase_fits Rests phase is = is
phase_fits Fails phase is = is
phase_fits ReadsSuper phase is = is
phase_fits WritesSuper phase is = is
phase_fits (Syncs looks) phase is = is
phase_fits (Pauses input left) phase is = is
phase_fits (Moves moving) phase is = is

-- a mount at this place and this work is one of the journal
pub record IsIn (layout : Layout) (j : BallotJournal) (m upto : ℕ) (p : BallotIs) (e : Errands) (work : MountWork) (waits : ℕ → Option Waiting) (list : List (List ℕ)) : Type 0 where
  pub follows : Follows layout j m upto p list
  pub phase : PhaseFits work p.phase
  pub waits_are : AreWaits layout upto e p.parts waits (asked_in j m)

abbrev pub IsMountIn : Layout → BallotJournal → (m : ℕ) → MountIs → (waits : ℕ → Option Waiting) → (list : List (List ℕ)) → Type 0
IsMountIn layout j m n waits list = IsIn layout j m n.upto n.position.ballot n.errands n.task.work waits list

-- it is one after this doing, which begins no ballot where one runs
pub record GoesOnTo (layout : Layout) (j : BallotJournal) (d : Doing) (m : ℕ) (n : MountIs) (waits : ℕ → Option Waiting) (list : List (List ℕ)) : Type 0 where
  pub mount : IsMountIn layout (journal_goes_on j d) m n waits list
  pub rests : AtRest j d

-- The ballot that a step begins

above : (m n : ℕ) → n < ballot_after m n
above m n = by (cases_lt n (16 + m))
  where
    by : (n < 16 + m) ⊎ (16 + m ≤ n) → n < ballot_after m n
    by (inl low) = omega (arith, cond-true (nat_lt n (16 + m)) (16 + m) (16 * ((n - m) / 16 + 1) + m) (lt-ltb n (16 + m) low), low)
    by (inr high) = omega (arith, cond-false (nat_lt n (16 + m)) (16 + m) (16 * ((n - m) / 16 + 1) + m) (le-ltb n (16 + m) high), high)

claims_more : (p : BallotIs) (seen : ℕ) → p.own.mbal < (ballot_claim p seen).mbal
claims_more p seen = omega (arith, above p.mount (max seen p.own.mbal))

pub began_none : (layout : Layout) (work : MountWork) (m was now seen : ℕ) → was ≡ now → began_in layout work m was now seen ≡ no_doing layout
began_none layout (Ballots input) m was now seen same = cond-false (nat_lt was now) (BeginsBallot m seen input) (no_doing layout) (le-ltb was now (omega (arith, same)))
began_none layout work m was now seen same = refl

began_other : (layout : Layout) (work : MountWork) (m was now seen : ℕ) → IsNoBallot work → began_in layout work m was now seen ≡ no_doing layout
began_other layout (Ballots input) m was now seen is = absurd is
began_other layout work m was now seen is = refl

rests_in : (j : BallotJournal) (layout : Layout) (work : MountWork) (m was now seen : ℕ) → (j.mounts (position_of j m) m).phase ≡ Resting → AtRest j (began_in layout work m was now seen)
rests_in j layout (Ballots input) m was now seen is = by (nat_lt was now)
  where
    by : (b : Bool) → AtRest j (if b then BeginsBallot m seen input else no_doing layout)
    by true = is
    by false = tt
rests_in j layout work m was now seen is = tt

pub none_rests : (its : Layout) (j : BallotJournal) (d : Doing) → d ≡ no_doing its → AtRest j d
none_rests its j d none = subst (AtRest j) (sym none) tt

pub mbal_here : (b : MountIs) (upto : ℕ) → upto ≡ b.upto → mbal_at b upto ≡ b.position.ballot.own.mbal
mbal_here b upto same = cond-true (upto == b.upto) b.position.ballot.own.mbal 0 (eq-eqb upto b.upto same)

pub nothing_follows : {layout : Layout} (its : Layout) (j : BallotJournal) (m upto : ℕ) (p : BallotIs) (list : List (List ℕ)) → Follows layout j m upto p list → Follows layout (journal_goes_on j (no_doing its)) m upto p list
nothing_follows its j m upto p list f = after_look j m upto p list f (layout_of its).positions no_turn

pub look_still : (j : BallotJournal) (m at : ℕ) (turn : AnchorTurn) (a q : ℕ) → asked_in (journal_goes_on j (Looks at turn)) m a q ≡ asked_in j m a q
look_still j m at turn a q = ap (λ (p : BallotIs). (part_at p.parts a).asked) (look_keeps j m at turn q)

pub nothing_still : (its : Layout) (j : BallotJournal) (m a q : ℕ) → asked_in (journal_goes_on j (no_doing its)) m a q ≡ asked_in j m a q
nothing_still its j m a q = look_still j m (layout_of its).positions no_turn a q

-- nothing happens
pub still_in : {layout : Layout} (its : Layout) (j : BallotJournal) (m upto : ℕ) (p : BallotIs) (e : Errands) (work : MountWork) (waits : ℕ → Option Waiting) (list : List (List ℕ)) → IsIn layout j m upto p e work waits list → (d : Doing) → d ≡ no_doing its → IsIn layout (journal_goes_on j d) m upto p e work waits list
still_in {layout} its j m upto p e work waits list is d none = subst (λ (x : Doing). IsIn layout (journal_goes_on j x) m upto p e work waits list) (sym none) (record {
  follows = nothing_follows its j m upto p list is.follows;
  phase = is.phase;
  waits_are = same_waits layout upto e p.parts waits (asked_in j m) is.waits_are (asked_in (journal_goes_on j (no_doing its)) m) p.parts (λ a. refl) (λ a q less. nothing_still its j m a q);
})

-- Steps

-- the work stays
pub record Stays (n : MountIs) (work : MountWork) (w : Worked) : Type 0 where
  pub turns : w.step.task ≡ None
  pub stand : w.step.stand ≡ stand_of n
  pub phase : PhaseFits work n.position.ballot.phase

-- from rest
pub record Turns (n : MountIs) (w : Worked) : Type 0 where
  pub rests : n.position.ballot.phase ≡ Resting
  pub goes : GoesOn n w

-- Between the two doings of an input. The mount b stands as n does once what was answered is taken in, and the step w goes on from there
pub record Between (layout : Layout) (b : MountIs) (j : BallotJournal) (n : MountIs) (w : Worked) (waits : ℕ → Option Waiting) (list : List (List ℕ)) : Type 0 where
  pub follows : Follows layout j b.files.mount n.upto n.position.ballot list
  pub waits_are : AreWaits layout n.upto n.errands n.position.ballot.parts waits (asked_in j b.files.mount)
  pub was : mbal_at b n.upto ≡ n.position.ballot.own.mbal
  pub goes : Stays n b.task.work w ⊎ Turns n w

module _ {layout : Layout} (b : MountIs) (low : b.files.mount < 16) (j : BallotJournal) (n : MountIs) (w : Worked) (waits : ℕ → Option Waiting) (list : List (List ℕ)) (is : Between layout b j n w waits list) where
  -- the mount where it stands then, at this task
  abbrev Taken : (task : MountTask) (upto : ℕ) (p : BallotIs) (seen : ℕ) (e : Errands) → Type 0
  Taken task upto p seen e = IsIn layout (journal_goes_on j (began_in b.position.layout task.work b.files.mount (mbal_at b upto) p.own.mbal seen)) b.files.mount upto p e task.work waits list

  abbrev TakenAt : (task : MountTask) → MountIs → Type 0
  TakenAt task x = Taken task x.upto x.position.ballot x.position.rivals.seen x.errands

  abbrev p : BallotIs
  p = n.position.ballot

  abbrev seen : ℕ
  seen = n.position.rivals.seen

  -- the same place
  stays_taken : PhaseFits b.task.work p.phase → TakenAt b.task n
  stays_taken phase =
      still_in b.position.layout j b.files.mount n.upto p n.errands b.task.work waits list (record { follows = is.follows; phase = phase; waits_are = is.waits_are }) _
      (began_none b.position.layout b.task.work b.files.mount (mbal_at b n.upto) p.own.mbal seen is.was)

  rests_taken : p.phase ≡ Resting → (task : MountTask) → IsNoBallot task.work → (e : Errands) → AreWaits layout n.upto e p.parts waits (asked_in j b.files.mount) → TakenAt task (record n { errands = e })
  rests_taken rests task work e waits_are =
      still_in b.position.layout j b.files.mount n.upto p e task.work waits list (record { follows = is.follows; phase = phase_fits task.work p.phase rests; waits_are = waits_are }) _
      (began_other b.position.layout task.work b.files.mount (mbal_at b n.upto) p.own.mbal seen work)

  begins : (input : Option (List ℕ)) → began_in b.position.layout (Ballots input) b.files.mount (mbal_at b n.upto) (ballot_claim p seen).mbal seen ≡ BeginsBallot b.files.mount seen input
  begins input = cond-true (nat_lt (mbal_at b n.upto) (ballot_claim p seen).mbal) (BeginsBallot b.files.mount seen input) (no_doing b.position.layout) (lt-ltb (mbal_at b n.upto) (ballot_claim p seen).mbal (omega (arith, is.was, claims_more p seen)))

  begins_taken : (input : Option (List ℕ)) → TakenAt (record { work = Ballots input; ask = None }) (record n { position = starting_ballot n.position input })
  begins_taken input = subst (λ (d : Doing). IsIn layout (journal_goes_on j d) b.files.mount n.upto (started p seen input) n.errands (Ballots input) waits list) (sym (begins input)) (record {
    follows = after_ballot j b.files.mount n.upto p list is.follows low seen input;
    phase = tt;
    waits_are =
        same_waits layout n.upto n.errands p.parts waits (asked_in j b.files.mount) is.waits_are (asked_in (journal_goes_on j (BeginsBallot b.files.mount seen input)) b.files.mount) (started p seen input).parts (λ a. started_asked a p seen input)
        (λ a q less. ap (λ (x : BallotIs). (part_at x.parts a).asked) (ballot_keeps j b.files.mount n.upto p list is.follows low seen input q (λ e. absurd (omega (arith, e, less)))));
  })

  -- whatever the step is
  abbrev TakenBy : (task : Option MountTask) → MountIs → Type 0
  TakenBy task x = TakenAt (unwrap_or task b.task) x

  taken_so : (task : Option MountTask) (x : MountIs) → w.step.task ≡ task → w.step.stand ≡ stand_of x → TakenBy task x → IsMountIn layout (journal_goes_on j (began b (takes_work b w).mount)) b.files.mount (takes_work b w).mount waits list
  taken_so task x turns stand taken =
      subst (λ (o : Option MountTask). Taken (unwrap_or o b.task) w.step.stand.upto w.step.stand.position.ballot w.step.stand.position.rivals.seen w.step.stand.errands) (sym turns)
      (subst (λ s. Taken (unwrap_or task b.task) s.upto s.position.ballot s.position.rivals.seen s.errands) (sym stand) taken)

  mount_taken : IsMountIn layout (journal_goes_on j (began b (takes_work b w).mount)) b.files.mount (takes_work b w).mount waits list
  mount_taken = by is.goes
    where
      rested : n.position.ballot.phase ≡ Resting → (r : Rested n w) → (w.step.stand ≡ stand_of n) ⊎ (w.step.stand ≡ stand_of (record n { errands = all_late n.errands })) → IsMountIn layout (journal_goes_on j (began b (takes_work b w).mount)) b.files.mount (takes_work b w).mount waits list
      rested rests r (inl same) = taken_so (Some r.task) n r.turns same (rests_taken rests r.task r.work n.errands is.waits_are)
      rested rests r (inr late) =
          taken_so (Some r.task) (record n { errands = all_late n.errands }) r.turns late
          (rests_taken rests r.task r.work (all_late n.errands) (all_late_waits layout n.upto n.errands n.position.ballot.parts waits (asked_in j b.files.mount) is.waits_are))

      goes : n.position.ballot.phase ≡ Resting → GoesOn n w → IsMountIn layout (journal_goes_on j (began b (takes_work b w).mount)) b.files.mount (takes_work b w).mount waits list
      goes rests (inl r) = rested rests r r.stand
      goes rests (inr s) = taken_so (Some (record { work = Ballots s.input; ask = None })) (record n { position = starting_ballot n.position s.input }) s.turns s.stand (begins_taken s.input)

      by : Stays n b.task.work w ⊎ Turns n w → IsMountIn layout (journal_goes_on j (began b (takes_work b w).mount)) b.files.mount (takes_work b w).mount waits list
      by (inl stays) = taken_so None n stays.turns stays.stand (stays_taken stays.phase)
      by (inr turns) = goes turns.rests turns.goes

  rests_there : p.phase ≡ Resting → (j.mounts (position_of j b.files.mount) b.files.mount).phase ≡ Resting
  rests_there rests =
      ap (λ (q : ℕ). (j.mounts q b.files.mount).phase) (stands_at j b.files.mount n.upto p list is.follows)
      ∙ ap (λ (x : BallotIs). x.phase) is.follows.here
      ∙ rests

  began_rests : AtRest j (began b (takes_work b w).mount)
  began_rests = by is.goes
    where
      by : Stays n b.task.work w ⊎ Turns n w → AtRest j (began b (takes_work b w).mount)
      by (inl stays) =
          subst (λ (o : Option MountTask). AtRest j (began_in b.position.layout (unwrap_or o b.task).work b.files.mount (mbal_at b w.step.stand.upto) w.step.stand.position.ballot.own.mbal w.step.stand.position.rivals.seen)) (sym stays.turns)
          (subst (λ s. AtRest j (began_in b.position.layout b.task.work b.files.mount (mbal_at b s.upto) s.position.ballot.own.mbal s.position.rivals.seen)) (sym stays.stand)
          (none_rests b.position.layout j _ (began_none b.position.layout b.task.work b.files.mount (mbal_at b n.upto) p.own.mbal seen is.was)))
      by (inr turns) = rests_in j b.position.layout (takes_work b w).mount.task.work b.files.mount (mbal_at b (takes_work b w).mount.upto) (takes_work b w).mount.position.ballot.own.mbal (takes_work b w).mount.position.rivals.seen (rests_there turns.rests)

  pub taken : GoesOnTo layout j (began b (takes_work b w).mount) b.files.mount (takes_work b w).mount waits list
  taken = record { mount = mount_taken; rests = began_rests }
