-- Whatever any number of mounts hear, they are mounts of one journal.
use Rattle.std.proofs.Common.{◌≡◌, ◌≢◌, ℕ, ◌*◌, ◌<◌, ◌≤◌, ◌⊎◌, inl, inr, Bool, true, false, ◌==◌, nat_lt, if◌then◌else◌, List, [], ◌∷◌, ◌++◌, length, Option, Some, None, arith, refl, sym, ap, subst, ◌∙◌}
use Rattle.std.proofs.lemmas.Bool.{cases_eq, cond-false, cond-true, eq-eqb, ne_eqb}
use Rattle.pf_base.specs.declared.asks.Reply.{Reply}
use Rattle.pf_volume.specs.Volumes.{Extent}
use Rattle.pf_tree_tables.specs.Tables.{Tables}
use Rattle.pf_txn.specs.Reading.{txn_in}
use Rattle.pf_paxos.specs.Journals.{Begins as BeginsList}
use Rattle.pf_paxos.specs.declared.parts.AnchorAsk.{AnchorAsk}
use Rattle.pf_paxos.specs.declared.parts.AnchorAsk.TheVariants.{Nothing}
use Rattle.pf_paxos.specs.declared.ballot.Phase.TheVariants.{Resting}
use Rattle.pf_paxos.specs.Parts.{part_at}
use Rattle.pf_paxos.specs.Ballots.{BallotIs}
use Rattle.pf_law_lists.specs.Journals.{Ballots as BeginsBallot, BeginsAtRest, Doing, BallotJournal, journal_goes_on, journal_from}
use Rattle.pf_law_lists.proofs.Exact.{exact_end}
use Rattle.pf_law_lists.proofs.ListGrowth.{end_list}
use Rattle.pf_law_lists.proofs.OneList.{begins_list, begins_other}
use Rattle.pf_law_lists.proofs.JournalPositions.{Case, list_at}
use Rattle.pf_journal.specs.declared.layouts.Layout.{Layout}
use Rattle.pf_journal.specs.declared.layouts.Layout.TheVariants.{Plain, Three}
use Rattle.pf_journal.specs.Layouts.{layout_of}
use Rattle.pf_file_calls.specs.Calls.{value_applied}
use Rattle.pf_mount.specs.Filing.{tables_by}
use Rattle.pf_mount_errands.specs.declared.errands.Errand.TheVariants.{Free}
use Rattle.pf_mount_errands.specs.Errands.{errand_at, is_anchor_free, no_errands}
use Rattle.pf_mount_errands.specs.Positions.{anchors_of}
use Rattle.pf_mount.specs.declared.work.MountWork.{MountWork}
use Rattle.pf_mount.specs.declared.work.MountWork.TheVariants.{Ballots}
use Rattle.pf_mount.specs.Mounts.{MountIs, asked_anchor, asked_data, first_work}
use Rattle.pf_law_calls.specs.Doings.{HaveRegisters, IsDecidedIn, IsListOf, asks_for, at_anchor, began, began_in, doings, doings_from, hears_for, journal_after, mbal_at, new_journal_of, no_doing}
use Rattle.pf_law_calls.specs.Lives.{after_values, all_opened, Asks, Begins, CanBe, CanCome, CanComeFrom, CanTake, Hears, Input, Life, OfBallot, MountTold, Waiting, decided_by, lived, lives, lives_from, lives_on, mount_after, opened, tables_from, with_value, work_waits}
use Rattle.pf_law_calls.proofs.CallBegins.{GoesWith, asks_on, begins_on}
use Rattle.pf_law_calls.proofs.MountsInJournals.{IsOf, after_other, asked_in, other_keeps}
use Rattle.pf_law_calls.proofs.MountReplies.{port_heard}
use Rattle.pf_law_calls.proofs.Layouts.{Lies, anchors_in, input_lies, new_count, new_idle, new_in, new_lies}
use Rattle.pf_law_calls.proofs.MountLives.{IsMountIn, phase_fits}
use Rattle.pf_law_calls.proofs.AnchorPending.{AreWaits, WaitsAs, same_waits}
use Rattle.pf_law_calls.proofs.RestingMounts.{AllAtRest, AtRest, rests_then}

-- the mount is one of the journal, and its tables are those of what it has decided
pub record IsLived (layout : Layout) (v : Extent) (j : BallotJournal) (m : ℕ) (l : Life) : Type 0 where
  pub number : l.mount.files.mount ≡ m
  pub lies : Lies layout l.mount
  pub mount : IsMountIn layout j m l.mount l.waits l.decided
  pub tables : l.mount.files.tables ≡ tables_from v l.decided

opened_lived : (layout : Layout) (v : Extent) (m : ℕ) → IsLived layout v (new_journal_of layout) m (opened layout m v)
opened_lived layout v m = record {
  number = refl;
  lies = new_lies layout m v;
  mount = record {
    follows = record { list_is = refl; upto_is = refl; count = new_count layout m; here = refl; later = λ q past. refl };
    phase = phase_fits (first_work (layout_of layout)) Resting refl;
    waits_are = nothing_waits;
  };
  tables = refl;
}
  where
    nothing_waits : AreWaits layout 0 no_errands (new_in layout m).parts (λ a. None) (asked_in (new_journal_of layout) m)
    nothing_waits a low = subst (λ (n : AnchorAsk). WaitsAs 0 (errand_at no_errands a) n None (asked_in (new_journal_of layout) m a)) (sym (new_idle layout m a)) (by (a == 0) (a == 1))
      where
        by : (b c : Bool) → WaitsAs 0 (if b then Free else if c then Free else Free) Nothing None (asked_in (new_journal_of layout) m a)
        by true c = tt
        by false true = tt
        by false false = tt

-- Tables

one_more : (t : Tables) (values : List (List ℕ)) (value : List ℕ) → after_values t (values ++ value ∷ []) ≡ value_applied (after_values t values) (txn_in value)
one_more t [] value = refl
one_more t (w ∷ values) value = one_more (value_applied t (txn_in w)) values value

tables_with : (t : Tables) (values : List (List ℕ)) (value : Option (List ℕ)) → tables_by (after_values t values) value ≡ after_values t (with_value values value)
tables_with t values None = refl
tables_with t values (Some value) = sym (one_more t values value)

-- The doings of an input are those of its mount

asks_of : (layout : Layout) (n a : ℕ) (w : Option Waiting) → IsOf n (asks_for layout n a w)
asks_of layout n a (Some (OfBallot position)) = refl
asks_of layout n a w = tt

hears_of : (layout : Layout) (n a : ℕ) (reply : Reply) (w : Option Waiting) → IsOf n (hears_for layout n a reply w)
hears_of layout n a reply (Some (OfBallot position)) = refl
hears_of layout n a reply w = tt

of_if : (n : ℕ) (b : Bool) (d e : Doing) → IsOf n d → IsOf n e → IsOf n (if b then d else e)
of_if n true d e of_d of_e = of_d
of_if n false d e of_d of_e = of_e

at_anchor_of : (l : Life) (input : Input) → IsOf l.mount.files.mount (at_anchor l input)
at_anchor_of l (Begins call) = tt
at_anchor_of l (Asks port) =
    let n = l.mount.files.mount in
    let its = l.mount.position.layout in
    let asks = asks_for its n port (work_waits l.mount l.mount.task.work port) in
    let free = is_anchor_free l.mount.errands l.mount.position.ballot.parts port in
    of_if n (port == anchors_of l.mount.position) (no_doing its) (if free then asks else no_doing its) tt
    (of_if n free asks (no_doing its) (asks_of its n port (work_waits l.mount l.mount.task.work port)) tt)
at_anchor_of l (Hears port reply) =
    let n = l.mount.files.mount in
    let its = l.mount.position.layout in
    of_if n (port == anchors_of l.mount.position) (no_doing its) (hears_for its n port reply (l.waits port)) tt (hears_of its n port reply (l.waits port))

began_in_of : (layout : Layout) (work : MountWork) (n was now seen : ℕ) → IsOf n (began_in layout work n was now seen)
began_in_of layout (Ballots input) n was now seen = of_if n (nat_lt was now) (BeginsBallot n seen input) (no_doing layout) refl tt
began_in_of layout work n was now seen = tt

began_of : (before after : MountIs) → IsOf before.files.mount (began before after)
began_of before after = began_in_of before.position.layout after.task.work before.files.mount (mbal_at before after.upto) after.position.ballot.own.mbal after.position.rivals.seen

-- One input

-- an input leaves the number, and the tables but for a value that is decided
record Leaves (m : MountIs) (input : Input) : Type 0 where
  number : (mount_after m input).files.mount ≡ m.files.mount
  tables : (mount_after m input).files.tables ≡ tables_by m.files.tables (decided_by m input)

asked_leaves : (m : MountIs) (port : ℕ) → Leaves m (Asks port)
asked_leaves m port = record { number = numbers (port == anchors_of m.position); tables = tables (port == anchors_of m.position) }
  where
    numbers : (b : Bool) → (let n : MountIs = if b then asked_data m else asked_anchor m port in n.files.mount) ≡ m.files.mount
    numbers true = refl
    numbers false = refl

    tables : (b : Bool) → (let n : MountIs = if b then asked_data m else asked_anchor m port in n.files.tables) ≡ m.files.tables
    tables true = refl
    tables false = refl

abbrev after_input : BallotJournal → Life → Input → BallotJournal
after_input j l input = journal_goes_on (journal_goes_on j (at_anchor l input)) (began l.mount (mount_after l.mount input))

module _ {layout : Layout} (j : BallotJournal) (l : Life) (low : l.mount.files.mount < 16) (lies : l.mount.position.layout ≡ layout) (is : IsMountIn layout j l.mount.files.mount l.mount l.waits l.decided) where
  goes_with : (input : Input) → CanTake l.mount input → GoesWith layout j l input × Leaves l.mount input
  goes_with (Begins call) can = (begins_on j l low lies is call can, record { number = refl; tables = refl })
  goes_with (Asks port) can = (asks_on j l low lies is port can, asked_leaves l.mount port)
  goes_with (Hears port reply) can = let h = port_heard j l low lies is port reply can in (h.mount, record { number = refl; tables = h.tables })

module _ (layout : Layout) (v : Extent) (j : BallotJournal) (m : ℕ) (l : Life) (low : m < 16) (is : IsLived layout v j m l) (input : Input) (can : CanTake l.mount input) where
  input_goes : GoesWith layout j l input × Leaves l.mount input
  input_goes =
      goes_with j l (subst (λ (k : ℕ). k < 16) (sym is.number) low) is.lies.lies
      (subst (λ (k : ℕ). IsMountIn layout j k l.mount l.waits l.decided) (sym is.number) is.mount) input can

  input_lived : IsLived layout v (after_input j l input) m (lives_on l input)
  input_lived =
      let goes = input_goes in
      record {
        number = goes.1.number ∙ is.number;
        lies = input_lies layout l.mount input is.lies;
        mount = subst (λ (k : ℕ). IsMountIn layout (after_input j l input) k (mount_after l.mount input) (lives_on l input).waits (lives_on l input).decided) is.number goes.0.mount;
        tables = goes.1.tables ∙ ap (λ (t : Tables). tables_by t (decided_by l.mount input)) is.tables ∙ tables_with (tables_from v []) l.decided (decided_by l.mount input);
      }

-- what another mount does
other_lived : (layout : Layout) (v : Extent) (j : BallotJournal) (m k : ℕ) (l : Life) → m ≢ k → IsLived layout v j m l → (d : Doing) → IsOf k d → IsLived layout v (journal_goes_on j d) m l
other_lived layout v j m k l apart is d of_k = record {
  number = is.number;
  lies = is.lies;
  mount = record {
    follows = after_other k m apart j l.mount.upto l.mount.position.ballot l.decided is.mount.follows d of_k;
    phase = is.mount.phase;
    waits_are =
        same_waits layout l.mount.upto l.mount.errands l.mount.position.ballot.parts l.waits (asked_in j m) is.mount.waits_are (asked_in (journal_goes_on j d) m) l.mount.position.ballot.parts (λ a. refl)
        (λ a q less. ap (λ (p : BallotIs). (part_at p.parts a).asked) (other_keeps k m apart j d of_k q));
  };
  tables = is.tables;
}

-- All that is told

abbrev AllLived : Layout → Extent → BallotJournal → (ℕ → Life) → Type 0
AllLived layout v j ls = (m : ℕ) → m < 16 → IsLived layout v j m (ls m)

told_lived : (layout : Layout) (v : Extent) (j : BallotJournal) (ls : ℕ → Life) (t : MountTold) → AllLived layout v j ls → CanCome ls t → AllLived layout v (after_input j (ls t.mount) t.input) (lived ls t)
told_lived layout v j ls t are can m low = by (cases_eq m t.mount)
  where
    by : (m ≡ t.mount) ⊎ (m ≡ t.mount → ⊥) → IsLived layout v (after_input j (ls t.mount) t.input) m (lived ls t m)
    by (inl same) =
        subst (λ (l : Life). IsLived layout v (after_input j (ls t.mount) t.input) m l) (sym (cond-true (m == t.mount) (lives_on (ls m) t.input) (ls m) (eq-eqb m t.mount same)))
        (subst (λ (k : ℕ). IsLived layout v (after_input j (ls t.mount) t.input) k (lives_on (ls k) t.input)) (sym same)
        (input_lived layout v j t.mount (ls t.mount) can.number (are t.mount can.number) t.input can.takes))
    by (inr apart) =
        let l = ls t.mount in
        let k = l.mount.files.mount in
        let other : m ≢ k = λ e. apart (e ∙ (are t.mount can.number).number) in
        subst (λ (x : Life). IsLived layout v (after_input j l t.input) m x) (sym (cond-false (m == t.mount) (lives_on (ls m) t.input) (ls m) (ne_eqb m t.mount apart)))
        (other_lived layout v (journal_goes_on j (at_anchor l t.input)) m k (ls m) other
        (other_lived layout v j m k (ls m) other (are m low) (at_anchor l t.input) (at_anchor_of l t.input))
        (began l.mount (mount_after l.mount t.input)) (began_of l.mount (mount_after l.mount t.input)))

all_lived : (layout : Layout) (v : Extent) (told : List MountTold) (j : BallotJournal) (ls : ℕ → Life) → AllLived layout v j ls → CanComeFrom ls told → AllLived layout v (journal_from j (doings_from ls told)) (lives_from ls told)
all_lived layout v [] j ls are can = are
all_lived layout v (t ∷ told) j ls are can = all_lived layout v told (after_input j (ls t.mount) t.input) (lived ls t) (told_lived layout v j ls t are can.0) can.1

-- no ballot begins where one of its mount runs

rest_if : (j : BallotJournal) (b : Bool) (d e : Doing) → AtRest j d → AtRest j e → AtRest j (if b then d else e)
rest_if j true d e of_d of_e = of_d
rest_if j false d e of_d of_e = of_e

asks_rest : (j : BallotJournal) (layout : Layout) (n a : ℕ) (w : Option Waiting) → AtRest j (asks_for layout n a w)
asks_rest j layout n a None = tt
asks_rest j layout n a (Some (OfBallot position)) = tt
asks_rest j layout n a (Some w) = tt

hears_rest : (j : BallotJournal) (layout : Layout) (n a : ℕ) (reply : Reply) (w : Option Waiting) → AtRest j (hears_for layout n a reply w)
hears_rest j layout n a reply (Some (OfBallot position)) = tt
hears_rest j layout n a reply w = tt

at_anchor_rests : (j : BallotJournal) (l : Life) (input : Input) → AtRest j (at_anchor l input)
at_anchor_rests j l (Begins call) = tt
at_anchor_rests j l (Asks port) =
    let n = l.mount.files.mount in
    let its = l.mount.position.layout in
    let asks = asks_for its n port (work_waits l.mount l.mount.task.work port) in
    let free = is_anchor_free l.mount.errands l.mount.position.ballot.parts port in
    rest_if j (port == anchors_of l.mount.position) (no_doing its) (if free then asks else no_doing its) tt
    (rest_if j free asks (no_doing its) (asks_rest j its n port (work_waits l.mount l.mount.task.work port)) tt)
at_anchor_rests j l (Hears port reply) =
    let n = l.mount.files.mount in
    let its = l.mount.position.layout in
    rest_if j (port == anchors_of l.mount.position) (no_doing its) (hears_for its n port reply (l.waits port)) tt (hears_rest j its n port reply (l.waits port))

all_rest : (layout : Layout) (v : Extent) (told : List MountTold) (j : BallotJournal) (ls : ℕ → Life) → AllLived layout v j ls → CanComeFrom ls told → AllAtRest j (doings_from ls told)
all_rest layout v [] j ls are can = tt
all_rest layout v (t ∷ told) j ls are can =
    let l = ls t.mount in (
      at_anchor_rests j l t.input,
      (
        (input_goes layout v j t.mount l can.0.number (are t.mount can.0.number) t.input can.0.takes).0.rests,
        all_rest layout v told (after_input j l t.input) (lived ls t) (told_lived layout v j ls t are can.0) can.1,
      ),
    )

abbrev pub over_layout : Layout → List Doing → Case
over_layout layout ds = record { anchors = anchors_in layout; quorum = (layout_of layout).quorum; doings = ds }

-- two quorums share an anchor
pub quorums_meet : (layout : Layout) → anchors_in layout < 2 * (layout_of layout).quorum
quorums_meet Plain = omega arith
quorums_meet Three = omega arith

module _ (layout : Layout) (v : Extent) (told : List MountTold) (m : ℕ) (can : CanBe layout v told) (low : m < 16) where
  pub is_lived : IsLived layout v (journal_after layout v told) m (lives layout v told m)
  is_lived = all_lived layout v told (new_journal_of layout) (all_opened layout v) (λ k low_k. opened_lived layout v k) can m low

  list_is : list_at (over_layout layout (doings layout v told)) m (length (doings layout v told)) ≡ (lives layout v told m).decided
  list_is = end_list (over_layout layout (doings layout v told)) m ∙ is_lived.mount.follows.list_is

module _ (layout : Layout) (v : Extent) (told : List MountTold) (can : CanBe layout v told) (registers : HaveRegisters layout v told) (m : ℕ) (low : m < 16) where
  pub shorter_begins : (other : ℕ) → other < 16 → length (lives layout v told m).decided ≤ length (lives layout v told other).decided → BeginsList (lives layout v told m).decided (lives layout v told other).decided
  shorter_begins other low_other le =
      let ds = over_layout layout (doings layout v told) in
      let t = length ds.doings in
      let at : (xs ys : List (List ℕ)) → list_at ds m t ≡ xs → list_at ds other t ≡ ys → length xs ≤ length ys → BeginsList xs ys = λ xs ys is_xs is_ys shorter.
      subst (λ zs. BeginsList zs ys) is_xs
      (subst (λ zs. BeginsList (list_at ds m t) zs) is_ys
      (begins_other ds (quorums_meet layout) registers m other t t
      (subst (λ zs. length zs ≤ length (list_at ds other t)) (sym is_xs) (subst (λ zs. length xs ≤ length zs) (sym is_ys) shorter)))) in
      at (lives layout v told m).decided (lives layout v told other).decided (list_is layout v told m can low) (list_is layout v told other can low_other) le

  pub begins_transactions : (list : List (List ℕ)) → IsListOf layout v told list → BeginsList (lives layout v told m).decided list
  begins_transactions list is =
      subst (λ (xs : List (List ℕ)). BeginsList xs list) (list_is layout v told m can low) (begins_list (over_layout layout (doings layout v told)) (quorums_meet layout) registers list is m (length (doings layout v told)))

module _ (layout : Layout) (v : Extent) (told : List MountTold) (can : CanBe layout v told) where
  pub begin_at_rest : BeginsAtRest (anchors_in layout) (layout_of layout).quorum (doings layout v told)
  begin_at_rest = rests_then (new_journal_of layout) (doings layout v told) (all_rest layout v told (new_journal_of layout) (all_opened layout v) (λ k low_k. opened_lived layout v k) can)

  some_anchors : (l : Layout) → 0 < anchors_in l
  some_anchors Plain = omega arith
  some_anchors Three = omega arith

  -- where a ballot needs all anchors, no position from the end of a transaction list on is decided
  pub list_is_whole : (layout_of layout).quorum ≡ anchors_in layout → HaveRegisters layout v told → (list : List (List ℕ)) → IsListOf layout v told list → (position : ℕ) (value : List ℕ) → length list ≤ position → IsDecidedIn layout v told position value → ⊥
  list_is_whole all registers = exact_end (over_layout layout (doings layout v told)) all (some_anchors layout) registers begin_at_rest
