-- The asks and answers of a running sync, as doings, and what the sync has read after each.
use Rattle.std.proofs.Common.{◌≡◌, ◌≢◌, ◌⊎◌, inl, inr, ℕ, suc, ◌<◌, ◌≤◌, ◌==◌, Bool, true, false, nat_lt, if◌then◌else◌, List, [], ◌∷◌, ◌++◌, length, take, Option, Some, None, slice_get, arith, refl, sym, ap, subst, ◌∙◌, length-append}
use Rattle.std.proofs.lemmas.Bool.{cases_eq, cond-false, cond-true, eq-eqb, eqb-false, eqb-true, ne_eqb}
use Rattle.std.proofs.lemmas.List.{take_at}
use Rattle.pf_base.specs.declared.asks.Reply.{Reply}
use Rattle.pf_base.specs.declared.asks.Reply.TheVariants.{Bytes}
use Rattle.pf_entry.proofs.Cases.{by_test}
use Rattle.pf_volume.specs.Volumes.{Extent}
use Rattle.pf_paxos.specs.declared.parts.Stage.{Stage}
use Rattle.pf_paxos.specs.declared.parts.Stage.TheVariants.{Done, ReadsHigh, ReadsLow, Writes}
use Rattle.pf_paxos.specs.Quorums.{turn_on}
use Rattle.pf_paxos.specs.Registers.{Turn}
use Rattle.pf_paxos.specs.Runs.{idle_turn}
use Rattle.pf_journal.specs.declared.layouts.Layout.{Layout}
use Rattle.pf_law_lists.specs.Journals.{Ballots as BeginsBallot, Doing, journal_from}
use Rattle.pf_law_lists.proofs.JournalPositions.{Case, before as journal_before}
use Rattle.pf_mount_errands.specs.Blocks.{blocks_in}
use Rattle.pf_mount_errands.specs.declared.errands.Errand.{Errand}
use Rattle.pf_mount_errands.specs.declared.errands.Errand.TheVariants.{Free, OfSync}
use Rattle.pf_mount_errands.specs.declared.errands.Errands.{Errands}
use Rattle.pf_mount_errands.specs.declared.looks.AnchorLook.{AnchorLook}
use Rattle.pf_mount_errands.specs.declared.looks.Looks.{Looks}
use Rattle.pf_mount_errands.specs.Errands.{errand_at, is_anchor_free}
use Rattle.pf_mount_errands.specs.Looks.{look_at, looked}
use Rattle.pf_mount_errands.specs.Positions.{anchors_of}
use Rattle.pf_mount.specs.declared.work.MountWork.{MountWork}
use Rattle.pf_mount.specs.declared.work.MountWork.TheVariants.{Ballots, Syncs}
use Rattle.pf_mount.specs.Mounts.{MountIs, mount_asked, asked_data, hands_nothing, looks_on, stand_of, works_on}
use Rattle.pf_law_calls.specs.Doings.{asks_for, at_anchor, began, began_in, doings, doings_from, hears_for, journal_after, looker, new_journal_of, no_doing}
use Rattle.pf_law_calls.specs.Lives.{Asks, Begins, CanBe, Hears, Input, Life, OfBallot, MountTold, Waiting, all_opened, look_waits, lived, lives, mount_after, waits_after, waits_with, work_waits}
use Rattle.pf_law_calls.specs.Lives.{OfSync as SyncWaits}
use Rattle.pf_law_calls.proofs.Layouts.{anchors_in, below_three}
use Rattle.pf_law_calls.proofs.AnchorPending.{errand_other, errand_same}
use Rattle.pf_law_calls.proofs.Journals.{over_layout}
use Rattle.pf_law_calls.proofs.Parts.{can_until, doings_on}
use Rattle.pf_law_calls.proofs.SyncReads.{IsApart}
use Rattle.pf_law_calls.proofs.Seen.{AreSeen, HasSeen, SeenAt, answered_seen, asked_high, asked_low, seen_still}

-- Places of lists

pub behind : {X : Type 0} → (xs ys : List X) (x : X) → slice_get (xs ++ x ∷ ys) (length xs) ≡ Some x
behind [] ys x = refl
behind (z ∷ zs) ys x = behind zs ys x

next_behind : {X : Type 0} → (xs ys : List X) (x y : X) → slice_get (xs ++ x ∷ y ∷ ys) (suc (length xs)) ≡ Some y
next_behind [] ys x y = refl
next_behind (z ∷ zs) ys x y = next_behind zs ys x y

-- Doings that are not of a mount's sync at an anchor

module _ (c : Case) (from m : ℕ) where
  pub above : 16 < looker m
  above = omega arith

  abbrev Apart : (anchor : ℕ) → Doing → Type 0
  Apart a d = IsApart c from (looker m) above a d

  pub nothing_apart : (its : Layout) (a : ℕ) → Apart a (no_doing its)
  nothing_apart its a = by_test (0 == a) (λ b. (if b then idle_turn else idle_turn).client ≢ looker m) (λ _ same. absurd (omega (arith, same))) (λ _ same. absurd (omega (arith, same)))

  -- of another mount, or at another anchor
  abbrev IsOther : (n port anchor : ℕ) → Type 0
  IsOther n port a = (n ≢ m) ⊎ (a ≢ port)

  turn_apart : (n port a : ℕ) (x : Turn) → x.client ≡ looker n → IsOther n port a → (turn_on a (record { anchor = port; turn = x })).client ≢ looker m
  turn_apart n port a x its other =
      by_test (port == a) (λ b. (if b then x else idle_turn).client ≢ looker m)
      (λ here same. elim other [
        | inl mount ↦ mount (omega (arith, its, same))
        | inr anchor ↦ anchor (sym (eqb-true port a here))
      ])
      (λ _ same. absurd (omega (arith, same)))

  asks_apart : (its : Layout) (n port a : ℕ) (w : Option Waiting) → IsOther n port a → Apart a (asks_for its n port w)
  asks_apart its n port a (Some (OfBallot q)) other = tt
  asks_apart its n port a (Some (SyncWaits q half)) other = turn_apart n port a _ refl other
  asks_apart its n port a w other = nothing_apart its a

  hears_apart : (its : Layout) (n port a : ℕ) (reply : Reply) (w : Option Waiting) → IsOther n port a → Apart a (hears_for its n port reply w)
  hears_apart its n port a reply (Some (OfBallot q)) other = tt
  hears_apart its n port a reply (Some (SyncWaits q half)) other = turn_apart n port a _ refl other
  hears_apart its n port a reply w other = nothing_apart its a

  pub apart_if : (a : ℕ) (b : Bool) (d e : Doing) → Apart a d → Apart a e → Apart a (if b then d else e)
  apart_if a true d e of_d of_e = of_d
  apart_if a false d e of_d of_e = of_e

  pub began_apart : (its : Layout) (work : MountWork) (n was is seen a : ℕ) → Apart a (began_in its work n was is seen)
  began_apart its (Ballots input) n was is seen a = apart_if a (nat_lt was is) (BeginsBallot n seen input) (no_doing its) tt (nothing_apart its a)
  began_apart its work n was is seen a = nothing_apart its a

  -- those of another mount
  pub at_apart : (l : Life) (input : Input) → l.mount.files.mount ≢ m → (a : ℕ) → Apart a (at_anchor l input)
  at_apart l (Begins call) other a = nothing_apart l.mount.position.layout a
  at_apart l (Asks port) other a =
      let its = l.mount.position.layout in
      let n = l.mount.files.mount in
      let w = work_waits l.mount l.mount.task.work port in
      let free = is_anchor_free l.mount.errands l.mount.position.ballot.parts port in
      apart_if a (port == anchors_of l.mount.position) (no_doing its) (if free then asks_for its n port w else no_doing its) (nothing_apart its a)
      (apart_if a free (asks_for its n port w) (no_doing its) (asks_apart its n port a w (inl other)) (nothing_apart its a))
  at_apart l (Hears port reply) other a =
      let its = l.mount.position.layout in
      let n = l.mount.files.mount in
      apart_if a (port == anchors_of l.mount.position) (no_doing its) (hears_for its n port reply (l.waits port)) (nothing_apart its a) (hears_apart its n port a reply (l.waits port) (inl other))

module _ (layout : Layout) (v : Extent) (told : List MountTold) (can : CanBe layout v told) where
  abbrev pub c : Case
  c = over_layout layout (doings layout v told)

  -- the moment behind what was told
  abbrev pub moment : List MountTold → ℕ
  moment done = length (doings layout v done)

  module _ (done rest : List MountTold) (same : told ≡ done ++ rest) where
    pub all_doings : doings layout v told ≡ doings layout v done ++ doings_from (lives layout v done) rest
    all_doings = ap (doings layout v) same ∙ doings_on (all_opened layout v) done rest

    pub journal_there : journal_before c (moment done) ≡ journal_after layout v done
    journal_there =
        let first = doings layout v done in
        ap (journal_from (new_journal_of layout)) (ap (take (length first)) all_doings ∙ take_at first (doings_from (lives layout v done) rest) (length first) refl)

    pub can_done : CanBe layout v done
    can_done = can_until (all_opened layout v) done rest (subst (CanBe layout v) same can)

  module _ (done : List MountTold) (t : MountTold) (rest : List MountTold) (same : told ≡ done ++ t ∷ rest) where
    abbrev its : Life
    its = lives layout v done t.mount

    abbrev second : Doing
    second = began its.mount (mount_after its.mount t.input)

    abbrev later : List Doing
    later = doings_from (lived (lives layout v done) t) rest

    pub first_there : slice_get (doings layout v told) (moment done) ≡ Some (at_anchor its t.input)
    first_there = ap (λ ds. slice_get ds (moment done)) (all_doings done (t ∷ rest) same) ∙ behind (doings layout v done) (second ∷ later) (at_anchor its t.input)

    pub second_there : slice_get (doings layout v told) (suc (moment done)) ≡ Some second
    second_there = ap (λ ds. slice_get ds (suc (moment done))) (all_doings done (t ∷ rest) same) ∙ next_behind (doings layout v done) later (at_anchor its t.input) second

    pub moment_next : moment (done ++ t ∷ []) ≡ suc (suc (moment done))
    moment_next =
        let count = length-append (doings layout v done) (doings_from (lives layout v done) (t ∷ [])) in
        let all = ap length (doings_on (all_opened layout v) done (t ∷ [])) in
        omega (arith, count, all)

-- One input of the mount, at this moment of the doings

module _ (layout : Layout) (c : Case) (from m k : ℕ) (late : from ≤ k) (l : Life) (number : l.mount.files.mount ≡ m) (lie : l.mount.position.layout ≡ layout) where
  abbrev x : MountIs
  x = l.mount

  abbrev its_layout : Layout
  its_layout = x.position.layout

  abbrev n : ℕ
  n = x.files.mount

  abbrev client_above : 16 < looker m
  client_above = above c from m

  abbrev pub Sees : (t q a : ℕ) → AnchorLook → Errand → Option Waiting → Type 0
  Sees t q a look e w = SeenAt layout c from (looker m) client_above t q a look e w

  -- what the sync has read, at a moment
  abbrev pub HaveSeen : (t : ℕ) → (ℕ → Option Waiting) → (upto : ℕ) → Errands → Looks → Type 0
  HaveSeen t waits upto e looks = AreSeen layout c from (looker m) client_above t waits upto e looks

  still : (t a : ℕ) (d : Doing) → slice_get c.doings t ≡ Some d → Apart c from m a d → (look : AnchorLook) (e : Errand) (w : Option Waiting) → Sees t x.upto a look e w → Sees (suc t) x.upto a look e w
  still t a d at apart look e w is = seen_still layout c from (looker m) client_above t x.upto a d at apart look.stage look.found e w is

  -- no anchor is the port of file data
  below : (a : ℕ) → a < anchors_in layout → a < anchors_of x.position
  below a low = let same = ap anchors_in lie in omega (arith, low, same)

  waits_other : (port a : ℕ) (w : Option Waiting) → a ≢ port → waits_with l.waits port w a ≡ l.waits a
  waits_other port a w apart = cond-false (a == port) w (l.waits a) (ne_eqb a port apart)

  waits_here : (port : ℕ) (w : Option Waiting) → waits_with l.waits port w port ≡ w
  waits_here port w = cond-true (port == port) w (l.waits port) (eq-eqb port port refl)

  -- An ask goes out

  module _ (port : ℕ) (looks : Looks) (old : HaveSeen k l.waits x.upto x.errands looks) where
    abbrev sync_waits : Option Waiting
    sync_waits = look_waits x.upto (look_at looks port).stage

    abbrev waits_if : Bool → Option Waiting
    waits_if b = if b then sync_waits else l.waits port

    abbrev doing_if : Bool → Doing
    doing_if b = if b then asks_for its_layout n port sync_waits else no_doing its_layout

    abbrev errands_if : Bool → Errands
    errands_if b = (if b then looks_on (stand_of x) port (look_at looks port).stage else hands_nothing (stand_of x)).stand.errands

    free_asks : (stage : Stage) (found : Bool) (e : Errand) (w : Option Waiting) → HasSeen layout c from (looker m) client_above k x.upto port stage found e w → slice_get c.doings k ≡ Some (asks_for its_layout n port (look_waits x.upto stage))
        → HasSeen layout c from (looker m) client_above (suc k) x.upto port stage found (errand_at (looks_on (stand_of x) port stage).stand.errands port) (look_waits x.upto stage)
    free_asks Writes found e w is at = absurd is
    free_asks ReadsLow found e w is at =
        subst (λ f. HasSeen layout c from (looker m) client_above (suc k) x.upto port ReadsLow found f (Some (SyncWaits x.upto 0))) (sym (errand_same x.errands port OfSync))
        (asked_low layout c from (looker m) client_above k x.upto port late (subst (λ i. slice_get c.doings k ≡ Some (asks_for its_layout i port (Some (SyncWaits x.upto 0)))) number at) found)
    free_asks ReadsHigh found e w is at =
        subst (λ f. HasSeen layout c from (looker m) client_above (suc k) x.upto port ReadsHigh found f (Some (SyncWaits x.upto 1))) (sym (errand_same x.errands port OfSync))
        (asked_high layout c from (looker m) client_above k x.upto port late (subst (λ i. slice_get c.doings k ≡ Some (asks_for its_layout i port (Some (SyncWaits x.upto 1)))) number at) found is.0)
    free_asks Done found e w is at = is

    asked_here : (b : Bool) → port < anchors_in layout → slice_get c.doings k ≡ Some (doing_if b) → Sees (suc k) x.upto port (look_at looks port) (errand_at (errands_if b) port) (waits_if b)
    asked_here true low at = free_asks (look_at looks port).stage (look_at looks port).found (errand_at x.errands port) (l.waits port) (old.there port low) at
    asked_here false low at = still k port (no_doing its_layout) at (nothing_apart c from m its_layout port) (look_at looks port) (errand_at x.errands port) (l.waits port) (old.there port low)

    errands_other : (a : ℕ) → port < 3 → a < 3 → a ≢ port → (b : Bool) → errand_at (errands_if b) a ≡ errand_at x.errands a
    errands_other a low low_a apart false = refl
    errands_other a low low_a apart true = by (look_at looks port).stage
      where
        by : (stage : Stage) → errand_at (looks_on (stand_of x) port stage).stand.errands a ≡ errand_at x.errands a
        by ReadsLow = errand_other x.errands port a OfSync low low_a apart
        by ReadsHigh = errand_other x.errands port a OfSync low low_a apart
        by Writes = refl
        by Done = refl

    asked_other : (a : ℕ) → a < anchors_in layout → port < 3 → a ≢ port → (b : Bool) → slice_get c.doings k ≡ Some (doing_if b) → Sees (suc k) x.upto a (look_at looks a) (errand_at (errands_if b) a) (waits_with l.waits port (waits_if b) a)
    asked_other a low_a low apart b at =
        subst (λ (e : Errand). Sees (suc k) x.upto a (look_at looks a) e (waits_with l.waits port (waits_if b) a)) (sym (errands_other a low (below_three layout a low_a) apart b))
        (subst (λ (w : Option Waiting). Sees (suc k) x.upto a (look_at looks a) (errand_at x.errands a) w) (sym (waits_other port a (waits_if b) apart))
        (still k a (doing_if b) at (apart_if c from m a b (asks_for its_layout n port sync_waits) (no_doing its_layout) (asks_apart c from m its_layout n port a sync_waits (inr apart)) (nothing_apart c from m its_layout a))
        (look_at looks a) (errand_at x.errands a) (l.waits a) (old.there a low_a)))

    abbrev free : Bool
    free = is_anchor_free x.errands x.position.ballot.parts port

    asked_in : (a : ℕ) → a < anchors_in layout → port ≤ anchors_of x.position → (b : Bool) → (port == anchors_of x.position) ≡ b → slice_get c.doings k ≡ Some (if b then no_doing its_layout else doing_if free)
        → Sees (suc k) x.upto a (look_at looks a) (errand_at (if b then x.errands else errands_if free) a) (waits_with l.waits port (waits_if free) a)
    asked_in a low_a low true is at =
        let high = eqb-true port (anchors_of x.position) is in
        let under = below a low_a in
        subst (λ (w : Option Waiting). Sees (suc k) x.upto a (look_at looks a) (errand_at x.errands a) w) (sym (waits_other port a (waits_if free) (λ e. absurd (omega (arith, e, high, under)))))
        (still k a (no_doing its_layout) at (nothing_apart c from m its_layout a) (look_at looks a) (errand_at x.errands a) (l.waits a) (old.there a low_a))
    asked_in a low_a low false is at =
        let apart_data = eqb-false port (anchors_of x.position) is in
        let same = ap anchors_in lie in
        let under : port < anchors_in layout = omega (arith, low, apart_data, same) in
        elim (cases_eq a port) [
          | inl here ↦
              subst (λ j. Sees (suc k) x.upto j (look_at looks j) (errand_at (errands_if free) j) (waits_with l.waits port (waits_if free) j)) (sym here)
              (subst (λ (w : Option Waiting). Sees (suc k) x.upto port (look_at looks port) (errand_at (errands_if free) port) w) (sym (waits_here port (waits_if free))) (asked_here free under at))
          | inr apart ↦ asked_other a low_a (below_three layout port under) apart free at
        ]

    -- whatever its work is called
    abbrev asked_at : MountWork → MountIs
    asked_at work = let s = (if free then works_on (stand_of x) work port else hands_nothing (stand_of x)).stand in record x { position = s.position; errands = s.errands }

    abbrev doing_at : MountWork → Doing
    doing_at work = if free then asks_for its_layout n port (work_waits x work port) else no_doing its_layout

    abbrev waits_at : MountWork → Option Waiting
    waits_at work = if free then work_waits x work port else l.waits port

    pub asked_seen : (a : ℕ) → a < anchors_in layout → port ≤ anchors_of x.position → x.task.work ≡ Syncs looks → slice_get c.doings k ≡ Some (at_anchor l (Asks port))
        → Sees (suc k) x.upto a (look_at looks a) (errand_at (mount_asked x port).errands a) (waits_after l (Asks port) a)
    asked_seen a low_a low same =
        subst (λ (work : MountWork). slice_get c.doings k ≡ Some (if port == anchors_of x.position then no_doing its_layout else doing_at work)
        → Sees (suc k) x.upto a (look_at looks a) (errand_at (if port == anchors_of x.position then asked_data x else asked_at work).errands a) (waits_with l.waits port (waits_at work) a))
        (sym same)
        (by_test (port == anchors_of x.position)
        (λ b. slice_get c.doings k ≡ Some (if b then no_doing its_layout else doing_if free)
        → Sees (suc k) x.upto a (look_at looks a) (errand_at (if b then asked_data x else asked_at (Syncs looks)).errands a) (waits_with l.waits port (waits_if free) a))
        (λ is at. asked_in a low_a low true is at) (λ is at. asked_in a low_a low false is at))

  -- An ask is answered

  module _ (port : ℕ) (reply : Reply) where
    abbrev pub heard_doing : Doing
    heard_doing = hears_for its_layout n port reply (l.waits port)

    pub heard_other : (looks : Looks) (a : ℕ) → HaveSeen k l.waits x.upto x.errands looks → a < anchors_in layout → a ≢ port → slice_get c.doings k ≡ Some heard_doing → Sees (suc k) x.upto a (look_at looks a) (errand_at x.errands a) (waits_with l.waits port None a)
    heard_other looks a old low apart at =
        subst (λ (w : Option Waiting). Sees (suc k) x.upto a (look_at looks a) (errand_at x.errands a) w) (sym (waits_other port a None apart))
        (still k a heard_doing at (hears_apart c from m its_layout n port a reply (l.waits port) (inr apart)) (look_at looks a) (errand_at x.errands a) (l.waits a) (old.there a low))

  pub heard_answered : (port : ℕ) (sectors : List (List ℕ)) (looks : Looks) (t : ℕ) → HaveSeen k l.waits x.upto x.errands looks → port < anchors_in layout → errand_at x.errands port ≡ OfSync → slice_get c.doings k ≡ Some (heard_doing port (Bytes sectors))
      → Sees t x.upto port (looked (look_at looks port) (blocks_in sectors)) Free None
  heard_answered port sectors looks t old low errand at =
      answered_seen layout c from (looker m) client_above k x.upto port (blocks_in sectors) (l.waits port)
      (λ half waits. subst (λ i. slice_get c.doings k ≡ Some (hears_for its_layout i port (Bytes sectors) (Some (SyncWaits x.upto half)))) number (at ∙ ap (λ w. Some (hears_for its_layout n port (Bytes sectors) w)) waits))
      t None (look_at looks port).stage (look_at looks port).found
      (subst (λ (e : Errand). Sees k x.upto port (look_at looks port) e (l.waits port)) errand (old.there port low))
