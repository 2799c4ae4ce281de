-- A call of a mount as it goes on, input by input: its own transaction is not below the mount, or its file data go from where that was applied on.
use Rattle.std.proofs.Common.{◌≡◌, ◌⊎◌, IfSome, inl, inr, ℕ, suc, ◌<◌, ◌==◌, true, List, [], ◌∷◌, ◌++◌, length, Option, Some, None, slice_get, arith, refl, sym, ap, subst, ◌∙◌, length-append}
use Rattle.std.proofs.lemmas.Bool.{cases_lt, cond-true, eq-eqb, false≢true}
use Rattle.std.proofs.lemmas.Option.{same_Some}
use Rattle.pf_base.specs.declared.asks.Ask.{Ask}
use Rattle.pf_entry.proofs.Cases.{by_test}
use Rattle.pf_volume.specs.Volumes.{Extent, IsVolume}
use Rattle.pf_tree_tables.specs.Tables.{Tables}
use Rattle.pf_txn.specs.Reading.{txn_in}
use Rattle.pf_journal.specs.declared.layouts.Layout.{Layout}
use Rattle.pf_journal.specs.Layouts.{layout_of}
use Rattle.pf_file_calls.specs.Calls.{value_applied, is_txn_of, size_in}
use Rattle.pf_file_calls.specs.Moving.{data_moves}
use Rattle.pf_file_calls.specs.declared.answers.CallAnswer.{CallAnswer}
use Rattle.pf_file_calls.specs.declared.calls.Pending.{Pending}
use Rattle.pf_file_calls.specs.declared.moving.Moved.{Moved}
use Rattle.pf_law_plans.specs.Exchanges.{Exchange}
use Rattle.pf_law_plans.proofs.TableAnswers.{own_txn}
use Rattle.pf_law_plans.proofs.Numbers.{named}
use Rattle.pf_law_contents.specs.Stored.{GoesSo}
use Rattle.pf_mount.specs.declared.work.MountNext.{MountNext}
use Rattle.pf_mount.specs.declared.work.MountNext.TheVariants.{Done, Failed, Ready}
use Rattle.pf_mount.specs.declared.work.MountTask.{MountTask}
use Rattle.pf_mount.specs.Mounts.{MountIs, tables_held}
use Rattle.pf_law_calls.specs.Answering.{next_by}
use Rattle.pf_law_calls.specs.Exchanges.{pends_after}
use Rattle.pf_law_calls.proofs.EndedCalls.{decides_in_list, its_life, low, now_same}
use Rattle.pf_law_calls.specs.Going.{GoesAt, HasAskedNone, HasGoneSo, IsLookedUp, IsRefusedSo, held_at}
use Rattle.pf_law_calls.specs.Since.{called, exchanges_since, pends, since_after}
use Rattle.pf_law_calls.proofs.DataSteps.{moves_fit}
use Rattle.pf_law_calls.proofs.DataByMoment.{data_ended, far_before, pends_on, since_on}
use Rattle.pf_law_calls.specs.Doings.{HaveRegisters, IsListOf}
use Rattle.pf_law_calls.specs.Lives.{CanBe, CanComeFrom, CanTake, Input, Life, MountTold, all_opened, decided_by, lives, lives_on as goes, mount_after, with_value}
use Rattle.pf_law_calls.specs.Spelled.{CanAllBeSpelled}
use Rattle.pf_law_calls.specs.Trees.{AreFewCalls}
use Rattle.pf_law_calls.proofs.CallNumbers.{its_calls}
use Rattle.pf_law_calls.proofs.Parts.{can_after}
use Rattle.pf_law_calls.proofs.TablesByList.{mounts_stand, stands_behind}
use Rattle.pf_law_files.proofs.Own.{GoesBy, GoesFrom, data_goes, decides_in_ballot, own_starts}
use Rattle.pf_law_files.proofs.Positions.{IsOf, one_applied, puts_in, tables_at}

-- Of the call p of mount m

module _ (list : List (List ℕ)) (v : Extent) (m : ℕ) (p : Pending) where
  -- no value below is the call's
  abbrev pub HasNoneBelow : (upto : ℕ) → Type 0
  HasNoneBelow upto = (k : ℕ) → k < upto → IsOf list k m p.number → ⊥

  -- the first step of its file data, where its transaction stands at the position
  abbrev pub first_behind : (position : ℕ) → Moved
  first_behind position = data_moves v (tables_at list v (suc position)) (size_in (tables_at list v position) p.call) p.call

  pub record OwnGoes (upto : ℕ) (its : List Exchange) (last : Option Ask) (task : MountTask) : Type 0 where
    pub position : ℕ
    pub last_is : upto ≡ suc position
    pub own : IsOf list position m p.number
    pub goes : GoesFrom v (tables_at list v (suc position)) (first_behind position) its last task.ask task.work

  abbrev pub Phase : (upto : ℕ) → (its : List Exchange) → (last : Option Ask) → MountTask → Type 0
  Phase upto its last task = HasNoneBelow upto ⊎ OwnGoes upto its last task

  -- it ends without a transaction: it is refused, or nothing is changed
  pub record EndsPlain (first upto : ℕ) (its : List Exchange) (answer : CallAnswer) : Type 0 where
    pub none : HasNoneBelow upto
    pub size : ℕ
    pub how :
        IsRefusedSo list m v its (held_at list v first upto) p answer
        ⊎ (IsLookedUp list m v (held_at list v first upto) p size × GoesSo v (tables_at list v upto) (data_moves v (tables_at list v upto) size p.call) its answer)

  -- or behind its own
  pub record EndsOwn (upto : ℕ) (its : List Exchange) (answer : CallAnswer) : Type 0 where
    pub position : ℕ
    pub last_is : upto ≡ suc position
    pub own : IsOf list position m p.number
    pub goes : GoesSo v (tables_at list v (suc position)) (first_behind position) its answer

  abbrev pub Ends : (first upto : ℕ) → (its : List Exchange) → CallAnswer → Type 0
  Ends first upto its answer = EndsPlain first upto its answer ⊎ EndsOwn upto its answer

  -- after an input, with which it may end
  abbrev pub GoesOn : (first upto : ℕ) → (its : List Exchange) → (last : Option Ask) → MountTask → Option MountNext → Type 0
  GoesOn first upto its last task None = Phase upto its last task
  GoesOn first upto its last task (Some (Done answer)) = Ends first upto its answer
  GoesOn first upto its last task (Some next) = Unit {0}

module _ (layout : Layout) (v : Extent) (told : List MountTold) (can : CanBe layout v told) (registers : HaveRegisters layout v told) (list : List (List ℕ)) (is : IsListOf layout v told list) (volume : IsVolume v)
    (spelled : CanAllBeSpelled told) (few : AreFewCalls told) (before after : List MountTold) (m : ℕ) (input : Input) (same : told ≡ before ++ record { mount = m; input = input } ∷ after) where
  abbrev t : MountTold
  t = record { mount = m; input = input }

  abbrev now : List MountTold
  now = before ++ t ∷ []

  abbrev l : Life
  l = lives layout v before m

  abbrev x : MountIs
  x = l.mount

  abbrev y : MountIs
  y = (lives layout v now m).mount

  abbrev its : List Exchange
  its = exchanges_since layout v before m

  abbrev its_now : List Exchange
  its_now = exchanges_since layout v now m

  abbrev first : ℕ
  first = (layout_of layout).first

  come : CanComeFrom (lives layout v before) (t ∷ after)
  come = can_after (all_opened layout v) before (t ∷ after) (subst (CanBe layout v) same can)

  takes : CanTake x input
  takes = come.0.takes

  small : m < 16
  small = low layout v told can registers list is m before after input same

  now_is : told ≡ now ++ after
  now_is = now_same layout v told can registers list is m before after input same

  life_is : lives layout v now m ≡ goes l input
  life_is = its_life layout v told can registers list is m before after input same

  pub since_is : its_now ≡ since_after x (pends layout v before m) its input
  since_is = since_on (all_opened layout v) m None [] before (t ∷ []) ∙ cond-true (m == m) (since_after x (pends layout v before m) its input) its (eq-eqb m m refl)

  pends_is : pends layout v now m ≡ pends_after x (pends layout v before m) input
  pends_is = pends_on (all_opened layout v) m None before (t ∷ []) ∙ cond-true (m == m) (pends_after x (pends layout v before m) input) (pends layout v before m) (eq-eqb m m refl)

  -- Its position

  decided_is : (lives layout v now m).decided ≡ with_value l.decided (decided_by x input)
  decided_is = ap (λ (of : Life). of.decided) life_is

  stood : x.upto ≡ length l.decided
  stood = stands_behind layout v told can registers list is before (t ∷ after) same m small

  stands : y.upto ≡ length (lives layout v now m).decided
  stands = stands_behind layout v told can registers list is now after now_is m small

  pub stays : decided_by x input ≡ None → y.upto ≡ x.upto
  stays none = stands ∙ ap (λ (values : List (List ℕ)). length values) (decided_is ∙ ap (with_value l.decided) none) ∙ sym stood

  module _ (value : List ℕ) (decides : decided_by x input ≡ Some value) where
    all : (lives layout v now m).decided ≡ l.decided ++ value ∷ []
    all = decided_is ∙ ap (with_value l.decided) decides

    advances : y.upto ≡ suc x.upto
    advances =
        let longer = ap (λ (values : List (List ℕ)). length values) all in
        let parts = length-append l.decided (value ∷ []) in
        omega (arith, stands, stood, longer, parts)

    there : slice_get list x.upto ≡ Some value
    there = decides_in_list layout v told can registers list is m before after input same value decides

  tables_there : x.files.tables ≡ tables_at list v x.upto
  tables_there = (mounts_stand layout v told can registers list is volume spelled few before (t ∷ after) same m small).tables

  -- Its call

  module _ (p : Pending) where
    -- as no value below the mount is the call's, it ends as it is planned there
    pub plain_on : (next : Option MountNext) → next_by x input ≡ next → called x input ≡ Some p → HasNoneBelow list v m p y.upto → GoesOn list v m p first y.upto its_now (pends layout v now m) y.task next
    plain_on None is_next calls none = inl none
    plain_on (Some Ready) is_next calls none = tt
    plain_on (Some Failed) is_next calls none = tt
    plain_on (Some (Done answer)) is_next calls none =
        let ended = data_ended layout v told can registers list is m before after input answer same is_next in
        let call_is : ended.call ≡ p = same_Some ended.call p (sym ended.was ∙ calls) in
        inl (plain_end answer none (subst (λ q. IsRefusedSo list m v its_now (held_at list v first y.upto) q answer ⊎ HasGoneSo list m v its_now y.upto (held_at list v first y.upto) q answer) call_is ended.is))
      where
        plain_end : (answer : CallAnswer) → HasNoneBelow list v m p y.upto → IsRefusedSo list m v its_now (held_at list v first y.upto) p answer ⊎ HasGoneSo list m v its_now y.upto (held_at list v first y.upto) p answer
            → EndsPlain list v m p first y.upto its_now answer
        plain_end answer none (inl refused) = record { none = none; size = 0; how = inl refused }
        plain_end answer none (inr gone) = record {
          none = none;
          size = gone.size;
          how = elim gone.begun [
            | inl looked ↦ inr (looked, gone.goes)
            | inr changed ↦
                let last = changed.last in
                absurd (none changed.position (omega (arith, last)) (record { value = changed.value; there = changed.there; its = own_txn m p.number changed.value (txn_in changed.value) refl changed.own }))
          ];
        }

    abbrev On : Option MountNext → Type 0
    On next = GoesOn list v m p first y.upto its_now (pends layout v now m) y.task next

    from_own : (k : ℕ) → y.upto ≡ suc k → IsOf list k m p.number → (next : Option MountNext) → GoesBy v (tables_at list v (suc k)) (first_behind list v m p k) its_now (pends layout v now m) y.task next → On next
    from_own k last own None goes = inr (record { position = k; last_is = last; own = own; goes = goes })
    from_own k last own (Some (Done answer)) goes = inr (record { position = k; last_is = last; own = own; goes = goes })
    from_own k last own (Some Ready) goes = tt
    from_own k last own (Some Failed) goes = tt

    -- as after the input, of the mount that it leaves
    goes_now : (u : Tables) (step : Moved) → GoesBy v u step (since_after x (pends layout v before m) its input) (pends_after x (pends layout v before m) input) (mount_after x input).task (next_by x input)
        → GoesBy v u step its_now (pends layout v now m) y.task (next_by x input)
    goes_now u step goes =
        subst (λ came. GoesBy v u step came (pends layout v now m) y.task (next_by x input)) (sym since_is)
        (subst (λ last. GoesBy v u step (since_after x (pends layout v before m) its input) last y.task (next_by x input)) (sym pends_is)
        (subst (λ (of : Life). GoesBy v u step (since_after x (pends layout v before m) its input) (pends_after x (pends layout v before m) input) of.mount.task (next_by x input)) (sym life_is) goes))

    volume_is : x.files.volume ≡ v
    volume_is = (its_calls layout v m before).volume

    stays_at : (u : Tables) (step : Moved) → GoesFrom x.files.volume u step its (pends layout v before m) x.task.ask x.task.work → (decided : Option (List ℕ)) → decided_by x input ≡ decided → y.upto ≡ x.upto
    stays_at u step far None none = stays none
    stays_at u step far (Some value) some =
        let works = decides_in_ballot x value input some in
        absurd (subst (λ work. GoesFrom x.files.volume u step its (pends layout v before m) x.task.ask work) works.1 far)

    -- its file data are underway
    data_on : OwnGoes list v m p x.upto its (pends layout v before m) x.task → On (next_by x input)
    data_on is_own =
        let k = is_own.position in
        let step = first_behind list v m p k in
        let last = pends layout v before m in
        let tables : x.files.tables ≡ tables_at list v (suc k) = tables_there ∙ ap (tables_at list v) is_own.last_is in
        let at_mount : GoesFrom x.files.volume x.files.tables step its last x.task.ask x.task.work =
        subst (λ w. GoesFrom w x.files.tables step its last x.task.ask x.task.work) (sym volume_is) (subst (λ u. GoesFrom v u step its last x.task.ask x.task.work) (sym tables) is_own.goes) in
        let on = data_goes x step (moves_fit v (tables_at list v (suc k)) (size_in (tables_at list v k) p.call) p.call) its last input takes at_mount in
        let on_tables : GoesBy v (tables_at list v (suc k)) step (since_after x last its input) (pends_after x last input) (mount_after x input).task (next_by x input) =
        subst (λ u. GoesBy v u step (since_after x last its input) (pends_after x last input) (mount_after x input).task (next_by x input)) tables
        (subst (λ w. GoesBy w x.files.tables step (since_after x last its input) (pends_after x last input) (mount_after x input).task (next_by x input)) volume_is on) in
        from_own k (stays_at x.files.tables step at_mount (decided_by x input) refl ∙ is_own.last_is) is_own.own (next_by x input) (goes_now (tables_at list v (suc k)) step on_tables)

    module _ (pending : x.files.pending ≡ Some p) (number : p.number ≡ x.files.calls) where
      -- its transaction is decided
      own_on : (value : List ℕ) → decided_by x input ≡ Some value → is_txn_of m p.number (txn_in value) ≡ true → On (next_by x input)
      own_on value decides own =
          let k = x.upto in
          let last = pends layout v before m in
          let of : IsOf list k m p.number = record { value = value; there = there value decides; its = own_txn m p.number value (txn_in value) refl own } in
          let works = decides_in_ballot x value input decides in
          let puts = puts_in layout v told can registers list is few k m p.number of before t after same refl (advances value decides) number in
          let asked : HasAskedNone its last x.task.ask x.files.pending =
          subst (λ work. GoesAt list x.files.mount x.files.volume its last x.task.ask x.upto (tables_held x.files) x.files.pending work) works.1 (far_before layout v told can registers list is m before (t ∷ after) same) in
          let none : its ≡ [] = subst (λ q. IfSome q (λ (call : Pending). its ≡ [])) pending asked.2 in
          let its_own : is_txn_of x.files.mount p.number (txn_in value) ≡ true = ap (λ i. is_txn_of i p.number (txn_in value)) (its_calls layout v m before).number ∙ own in
          let on = own_starts x p pending value its_own its last input puts none asked.0 decides in
          let tables : value_applied x.files.tables (txn_in value) ≡ tables_at list v (suc k) = ap (λ u. value_applied u (txn_in value)) tables_there ∙ sym (one_applied list v k value (there value decides)) in
          let By : (w : Extent) (u : Tables) (size : ℕ) → Type 0 = λ w u size. GoesBy w u (data_moves w u size p.call) (since_after x last its input) (pends_after x last input) (mount_after x input).task (next_by x input) in
          let on_tables : By v (tables_at list v (suc k)) (size_in (tables_at list v k) p.call) =
          subst (λ u. By v (tables_at list v (suc k)) (size_in u p.call)) tables_there (subst (λ u. By v u (size_in x.files.tables p.call)) tables (subst (λ w. By w (value_applied x.files.tables (txn_in value)) (size_in x.files.tables p.call)) volume_is on)) in
          from_own k (advances value decides) of (next_by x input) (goes_now (tables_at list v (suc k)) (first_behind list v m p k) on_tables)

      -- or another one, or none
      none_on : HasNoneBelow list v m p x.upto → (decided : Option (List ℕ)) → decided_by x input ≡ decided → called x input ≡ Some p → On (next_by x input)
      none_on none None is_none calls = plain_on (next_by x input) refl calls (λ k below. none k (let same_place = stays is_none in omega (arith, same_place, below)))
      none_on none (Some value) some calls =
          by_test (is_txn_of m p.number (txn_in value)) (λ b. is_txn_of m p.number (txn_in value) ≡ b → On (next_by x input))
          (λ _ own. own_on value some own)
          (λ _ other. plain_on (next_by x input) refl calls (λ k below of. elim (cases_lt k x.upto) [
            | inl less ↦ none k less of
            | inr reached ↦
                let next = advances value some in
                let here : x.upto ≡ k = omega (arith, next, below, reached) in
                let value_is : value ≡ of.value = same_Some value of.value (sym (there value some) ∙ ap (λ i. slice_get list i) here ∙ of.there) in
                let its_own : is_txn_of m p.number (txn_in value) ≡ true = ap (λ w. is_txn_of m p.number (txn_in w)) value_is ∙ ap (is_txn_of m p.number) of.its.spells ∙ named m p.number of.its.txn of.its.mount_is of.its.number_is in
                false≢true (sym other ∙ its_own)
          ]))
          refl

      pub phase_on : Phase list v m p x.upto its (pends layout v before m) x.task → called x input ≡ Some p → On (next_by x input)
      phase_on (inl none) calls = none_on none (decided_by x input) refl calls
      phase_on (inr own) calls = data_on own
