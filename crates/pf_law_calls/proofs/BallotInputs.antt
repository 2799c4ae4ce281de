-- Each ballot of the journal that begins with an input was begun by a mount, in what was told.
use Rattle.std.proofs.Common.{◌≡◌, ◌≢◌, ℕ, zero, suc, ◌<◌, ◌==◌, Bool, true, false, nat_lt, if◌then◌else◌, List, [], ◌∷◌, ◌++◌, length, take, Option, Some, slice_get, arith, refl, sym, ap, subst, ◌∙◌}
use Rattle.std.proofs.lemmas.Bool.{cond-true, eq-eqb}
use Rattle.std.proofs.lemmas.List.{append_assoc}
use Rattle.std.proofs.lemmas.Option.{none-some, same_Some}
use Rattle.pf_base.specs.declared.asks.Reply.{Reply}
use Rattle.pf_volume.specs.Volumes.{Extent}
use Rattle.pf_paxos.proofs.BallotInputs.{was_put_in}
use Rattle.pf_journal.specs.declared.layouts.Layout.{Layout}
use Rattle.pf_law_lists.proofs.FirstTurns.{starts_there}
use Rattle.pf_law_lists.specs.Journals.{Ballots as BeginsBallot, Doing, BallotJournal, events_at, journal_goes_on, journal_from, position_of}
use Rattle.pf_mount_errands.specs.Errands.{is_anchor_free}
use Rattle.pf_mount_errands.specs.Positions.{anchors_of}
use Rattle.pf_mount.specs.declared.work.MountWork.{MountWork}
use Rattle.pf_mount.specs.declared.work.MountWork.TheVariants.{Ballots}
use Rattle.pf_law_calls.specs.Doings.{HaveRegisters, IsDecidedIn, asks_for, at_anchor, began, began_in, doings, doings_from, hears_for, journal_after, mbal_at, new_journal_of, no_doing}
use Rattle.pf_law_calls.specs.Lives.{Asks, Begins, CanBe, CanComeFrom, Hears, Input, Life, OfBallot, OfSync, MountTold, Waiting, all_opened, lived, lives, lives_on as goes, mount_after, work_waits}
use Rattle.pf_law_calls.proofs.Journals.{is_lived, over_layout, quorums_meet}
use Rattle.pf_law_calls.specs.Lists.{HasPutIn}
use Rattle.pf_law_calls.proofs.Parts.{can_after, can_until, doings_on, journal_on, lives_on}

-- What an input is at an anchor begins no ballot

abbrev BeginsNone : Doing → Type 0
BeginsNone (BeginsBallot m above input) = ⊥
BeginsNone d = Unit {0}

asks_none : (layout : Layout) (n a : ℕ) (w : Option Waiting) → BeginsNone (asks_for layout n a w)
asks_none layout n a (Some (OfBallot position)) = tt
asks_none layout n a (Some (OfSync position half)) = tt
asks_none layout n a w = tt

hears_none : (layout : Layout) (n a : ℕ) (reply : Reply) (w : Option Waiting) → BeginsNone (hears_for layout n a reply w)
hears_none layout n a reply (Some (OfBallot position)) = tt
hears_none layout n a reply (Some (OfSync position half)) = tt
hears_none layout n a reply w = tt

none_if : (b : Bool) (d e : Doing) → BeginsNone d → BeginsNone e → BeginsNone (if b then d else e)
none_if true d e of_d of_e = of_d
none_if false d e of_d of_e = of_e

at_anchor_none : (l : Life) (input : Input) → BeginsNone (at_anchor l input)
at_anchor_none l (Begins call) = tt
at_anchor_none l (Asks port) =
    let n = l.mount.files.mount in
    let its = l.mount.position.layout in
    let asks = asks_for its n port (work_waits l.mount l.mount.task.work port) in
    let free = is_anchor_free l.mount.errands l.mount.position.ballot.parts port in
    none_if (port == anchors_of l.mount.position) (no_doing its) (if free then asks else no_doing its) tt
    (none_if free asks (no_doing its) (asks_none its n port (work_waits l.mount l.mount.task.work port)) tt)
at_anchor_none l (Hears port reply) =
    let n = l.mount.files.mount in
    let its = l.mount.position.layout in
    none_if (port == anchors_of l.mount.position) (no_doing its) (hears_for its n port reply (l.waits port)) tt (hears_none its n port reply (l.waits port))

-- and a ballot that begins is that of the mount, which is at work on it

module _ (m above : ℕ) (value : List ℕ) where
  abbrev begun : Doing
  begun = BeginsBallot m above (Some value)

  not_begun : (d : Doing) → BeginsNone d → d ≡ begun → ⊥
  not_begun d none same = subst BeginsNone same none

  begun_if : (layout : Layout) (n seen : ℕ) (input : Option (List ℕ)) (b : Bool) → (if b then BeginsBallot n seen input else no_doing layout) ≡ begun → (n ≡ m) × (Ballots input ≡ Ballots (Some value))
  begun_if layout n seen input true same =
      let own : input ≡ Some value = cc in
      (cc, ap Ballots own)
  begun_if layout n seen input false same = absurd (not_begun (no_doing layout) tt same)

  begun_by : (layout : Layout) (work : MountWork) (n was now seen : ℕ) → began_in layout work n was now seen ≡ begun → (n ≡ m) × (work ≡ Ballots (Some value))
  begun_by layout (Ballots input) n was now seen same = begun_if layout n seen input (nat_lt was now) same
  begun_by layout work n was now seen same = absurd (not_begun (no_doing layout) tt same)

module _ (layout : Layout) (v : Extent) (told : List MountTold) (can : CanBe layout v told) where
  abbrev journal_of : List MountTold → BallotJournal
  journal_of told = journal_after layout v told

  module _ (done : List MountTold) (t : MountTold) (more : List MountTold) (same : told ≡ done ++ t ∷ more) where
    abbrev now : List MountTold
    now = done ++ t ∷ []

    now_same : told ≡ now ++ more
    now_same = same ∙ sym (append_assoc done (t ∷ []) more)

    can_now : CanBe layout v now
    can_now = can_until (all_opened layout v) now more (subst (CanBe layout v) now_same can)

    can_done : CanBe layout v done
    can_done = can_until (all_opened layout v) done (t ∷ more) (subst (CanBe layout v) same can)

    low : t.mount < 16
    low = let rest : CanComeFrom (lives layout v done) (t ∷ more) = can_after (all_opened layout v) done (t ∷ more) (subst (CanBe layout v) same can) in rest.0.number

    lives_now : lives layout v now ≡ lived (lives layout v done) t
    lives_now = lives_on (all_opened layout v) done (t ∷ [])

    journal_now : journal_of now ≡ journal_from (journal_of done) (doings_from (lives layout v done) (t ∷ []))
    journal_now = ap (journal_from (new_journal_of layout)) (doings_on (all_opened layout v) done (t ∷ [])) ∙ journal_on (new_journal_of layout) (doings layout v done) (doings_from (lives layout v done) (t ∷ []))

    abbrev l : Life
    l = lives layout v done t.mount

    abbrev between : BallotJournal
    between = journal_goes_on (journal_of done) (at_anchor l t.input)

    its_life : lives layout v now t.mount ≡ goes l t.input
    its_life = ap (λ (ls : ℕ → Life). ls t.mount) lives_now ∙ cond-true (t.mount == t.mount) (goes l t.input) l (eq-eqb t.mount t.mount refl)

    -- the ballot that begins with this input
    begun_here : (m above : ℕ) (value : List ℕ) → began l.mount (mount_after l.mount t.input) ≡ BeginsBallot m above (Some value) → HasPutIn layout v told (position_of between m) value
    begun_here m above value begins =
        let after = mount_after l.mount t.input in
        let of = begun_by m above value l.mount.position.layout after.task.work l.mount.files.mount (mbal_at l.mount after.upto) after.position.ballot.own.mbal after.position.rivals.seen begins in
        let number : t.mount ≡ m = sym (is_lived layout v done t.mount can_done low).number ∙ of.0 in
        let follows = (is_lived layout v now t.mount can_now low).mount.follows in
        let stood : position_of (journal_of now) t.mount ≡ position_of between t.mount =
        ap (λ (j : BallotJournal). position_of j t.mount) journal_now ∙ ap (λ (d : Doing). position_of (journal_goes_on between d) t.mount) begins in record {
          first = now;
          rest = more;
          told_so = now_same;
          mount = t.mount;
          low = low;
          at = follows.upto_is ∙ sym (ap (λ (xs : List (List ℕ)). length xs) follows.list_is) ∙ stood ∙ ap (position_of between) number;
          works = ap (λ (x : Life). x.mount.task.work) its_life ∙ of.1;
        }

  put_from : (more done : List MountTold) → told ≡ done ++ more → (ls : ℕ → Life) → lives layout v done ≡ ls → (j : BallotJournal) → journal_of done ≡ j → (k m above : ℕ) (value : List ℕ)
      → slice_get (doings_from ls more) k ≡ Some (BeginsBallot m above (Some value)) → HasPutIn layout v told (position_of (journal_from j (take k (doings_from ls more))) m) value
  put_from [] done same ls is_ls j is_j k m above value at = absurd (none-some _ at)
  put_from (t ∷ more) done same ls is_ls j is_j zero m above value at =
      let l = ls t.mount in
      absurd (not_begun m above value (at_anchor l t.input) (at_anchor_none l t.input) (same_Some (at_anchor l t.input) (BeginsBallot m above (Some value)) at))
  put_from (t ∷ more) done same ls is_ls j is_j (suc zero) m above value at =
      subst (λ (x : BallotJournal). HasPutIn layout v told (position_of (journal_goes_on x (at_anchor (ls t.mount) t.input)) m) value) is_j
      (subst (λ (x : ℕ → Life). began (x t.mount).mount (mount_after (x t.mount).mount t.input) ≡ BeginsBallot m above (Some value) → HasPutIn layout v told (position_of (journal_goes_on (journal_of done) (at_anchor (x t.mount) t.input)) m) value) is_ls
      (begun_here done t more same m above value)
      (let l = ls t.mount in same_Some (began l.mount (mount_after l.mount t.input)) (BeginsBallot m above (Some value)) at))
  put_from (t ∷ more) done same ls is_ls j is_j (suc (suc k)) m above value at =
      put_from more (now done t more same) (now_same done t more same) (lived ls t) (lives_now done t more same ∙ ap (λ (x : ℕ → Life). lived x t) is_ls)
      (journal_from j (doings_from ls (t ∷ [])))
      (journal_now done t more same ∙ ap (λ (x : BallotJournal). journal_from x (doings_from (lives layout v done) (t ∷ []))) is_j ∙ ap (λ (x : ℕ → Life). journal_from j (doings_from x (t ∷ []))) is_ls)
      k m above value at

  pub put_in : HaveRegisters layout v told → (position : ℕ) (value : List ℕ) → IsDecidedIn layout v told position value → value ≢ [] → HasPutIn layout v told position value
  put_in registers position value decided some =
      let ds = doings layout v told in
      let its = over_layout layout ds in
      let put = was_put_in its.anchors its.quorum (let meets = quorums_meet layout in omega (arith, meets)) (events_at its.anchors its.quorum position ds) (registers position) decided.ballot value decided.decides some in
      let there = starts_there its position put.moment put.mount put.above (Some value) put.at in
      subst (λ q. HasPutIn layout v told q value) there.1 (put_from told [] refl (all_opened layout v) refl (new_journal_of layout) refl put.moment put.mount put.above value there.0)
