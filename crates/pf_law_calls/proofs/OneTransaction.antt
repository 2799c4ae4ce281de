-- No call has two transactions in the list: what a mount put in for its call at a later position, it put in when its call had none yet.
use Rattle.std.proofs.Common.{◌≡◌, ℕ, ◌+◌, ◌*◌, ◌<◌, ◌≤◌, ◌^◌, ◌==◌, true, if◌then◌else◌, List, [], ◌∷◌, ◌++◌, length, Option, Some, None, slice_get, inl, inr, arith, refl, sym, ap, subst, ◌∙◌, length-append}
use Rattle.std.proofs.lemmas.Bool.{cases_order}
use Rattle.std.proofs.lemmas.Option.{same_Some, slice_get_within}
use Rattle.pf_entry.proofs.Cases.{by_test}
use Rattle.pf_volume.specs.Volumes.{Extent}
use Rattle.pf_tree_tables.specs.declared.changes.Txn.{Txn}
use Rattle.pf_tree.specs.Calls.{FileCall}
use Rattle.pf_tree.specs.Held.{data_of}
use Rattle.pf_txn.specs.Reading.{txn_in}
use Rattle.pf_file_calls.specs.Calls.{is_txn_of}
use Rattle.pf_file_calls.specs.declared.calls.Pending.{Pending}
use Rattle.pf_law_plans.proofs.Lists.{at_front}
use Rattle.pf_law_plans.proofs.Numbers.{named, numbered_most, read_names}
use Rattle.pf_law_plans.proofs.PlannedTransactions.{planned_names, some_value}
use Rattle.pf_journal.specs.declared.layouts.Layout.{Layout}
use Rattle.pf_mount.specs.Mounts.{MountIs, tables_held}
use Rattle.pf_mount.specs.declared.work.MountWork.{MountWork}
use Rattle.pf_mount.specs.declared.work.MountWork.TheVariants.{Ballots, Pauses}
use Rattle.pf_law_calls.specs.Doings.{HaveRegisters, IsListOf}
use Rattle.pf_law_calls.specs.Lives.{CanBe, Input, Life, MountTold, all_opened, decided_by, lived, lives, lives_from, lives_on as goes, mount_after, with_value}
use Rattle.pf_law_plans.specs.Lists.{NamesEachOnce}
use Rattle.pf_law_calls.specs.Lists.{HasPutIn, IsPlanned}
use Rattle.pf_law_calls.specs.Trees.{AreFewCalls, call_named, calls_of}
use Rattle.pf_law_calls.proofs.DecidedCalls.{own_ends}
use Rattle.pf_law_calls.proofs.Lists.{at_end, something_there, split}
use Rattle.pf_law_calls.proofs.CallNumbers.{IsLastOf, IsNamed, OfPending, input_on, its_calls, its_planned, named_on, told_named}
use Rattle.pf_law_calls.proofs.Parts.{lives_on}
use Rattle.pf_law_calls.proofs.PlannedInputs.{PlansIn, PutsInPlan, progress, stage, stage_most}
use Rattle.pf_law_calls.proofs.BallotInputs.{put_in}
use Rattle.pf_law_calls.proofs.TablesByList.{begins, stands_behind}

-- Lives grow

module _ (layout : Layout) (v : Extent) (m : ℕ) where
  -- a value that was decided stays, and the mount comes no less far
  record Grows (before after : Life) : Type 0 where
    stays : (k : ℕ) (value : List ℕ) → slice_get before.decided k ≡ Some value → slice_get after.decided k ≡ Some value
    longer : length before.decided ≤ length after.decided
    onward : progress before.mount ≤ progress after.mount

  valued : (list : List (List ℕ)) (value : Option (List ℕ)) → ((k : ℕ) (w : List ℕ) → slice_get list k ≡ Some w → slice_get (with_value list value) k ≡ Some w) × (length list ≤ length (with_value list value))
  valued list None = (λ k w is. is, omega arith)
  valued list (Some value) = (λ k w is. at_front list (value ∷ []) k w is, let count = length-append list (value ∷ []) in omega (arith, count))

  input_grows : (l : Life) (input : Input) → PlansIn l.mount → Grows l (goes l input)
  input_grows l input plans =
      let of = valued l.decided (decided_by l.mount input) in record { stays = of.0; longer = of.1; onward = (input_on l.mount input plans).onward }

  told_grows : (calls : List FileCall) (ls : ℕ → Life) (t : MountTold) → IsNamed layout v m calls (ls m).mount → Grows (ls m) (lived ls t m)
  told_grows calls ls t is =
      by_test (m == t.mount) (λ b. Grows (ls m) (if b then goes (ls m) t.input else ls m)) (λ _. input_grows (ls m) t.input is.plans)
      (λ _. record { stays = λ k value is. is; longer = omega arith; onward = omega arith })

  all_grow : (more : List MountTold) (calls : List FileCall) (ls : ℕ → Life) → IsNamed layout v m calls (ls m).mount → Grows (ls m) (lives_from ls more m)
  all_grow [] calls ls is = record { stays = λ k value is. is; longer = omega arith; onward = omega arith }
  all_grow (t ∷ more) calls ls is =
      let here = told_grows calls ls t is in
      let later = all_grow more (calls ++ calls_of (t ∷ []) m) (lived ls t) (told_named layout v m calls ls t is) in
      let first = here.longer in
      let second = later.longer in
      let from = here.onward in
      let on = later.onward in record {
        stays = λ k value is. later.stays k value (here.stays k value is);
        longer = omega (arith, first, second);
        onward = omega (arith, from, on);
      }

  -- Between two ballots that put in for one call

  module _ (n position : ℕ) (value : List ℕ) (txn : Txn) (read : txn_in value ≡ Some txn) (mount : txn.mount ≡ m) (number : txn.number ≡ n) where
    pending_there : (x : MountIs) (work : MountWork) → stage work ≡ 1 → PutsInPlan x.files.mount x.files.volume (tables_held x.files) x.files.pending work → (p : Pending) × (x.files.pending ≡ Some p)
    pending_there x (Ballots (Some own)) at plan = (plan.call, plan.pends)
    pending_there x (Pauses (Some own) left) at plan = (plan.call, plan.pends)
    pending_there x work at plan = absurd (omega (arith, at))

    -- the step that decides the value ends that
    module _ (calls : List FileCall) (x : MountIs) (input : Input) (is : IsNamed layout v m calls x) (far : progress x ≡ 3 * n + 1) (decides : decided_by x input ≡ Some value) (least : progress (mount_after x input) ≤ 3 * n + 1) where
      calls_are : x.files.calls ≡ n
      calls_are = let most = stage_most x.task.work in omega (arith, far, most)

      stage_is : stage x.task.work ≡ 1
      stage_is = omega (arith, far, calls_are)

      its_own : (p : Pending) → IsLastOf calls p → is_txn_of x.files.mount p.number (txn_in value) ≡ true
      its_own p its = ap (is_txn_of x.files.mount p.number) read ∙ named x.files.mount p.number txn (mount ∙ sym is.number) (number ∙ sym (its.last ∙ sym is.count ∙ calls_are))

      ends_with : (p : Pending) → x.files.pending ≡ Some p → ⊥
      ends_with p pends =
          let its : IsLastOf calls p = subst (OfPending (IsLastOf calls)) pends is.call in
          let ends = own_ends value x input p pends stage_is (its_own p its) decides in
          let high = ends.0 in
          let still = ends.1 in
          omega (arith, high, still, calls_are, least)

      ends_here : ⊥
      ends_here = let p = pending_there x x.task.work stage_is is.plans in ends_with p.0 p.1

    -- so the value is not decided between them
    abbrev IsNever : (before after : Life) → Type 0
    IsNever before after = length before.decided ≡ position → progress before.mount ≡ 3 * n + 1 → progress after.mount ≡ 3 * n + 1 → slice_get after.decided position ≡ Some value → ⊥

    never_by : (calls : List FileCall) (l end : Life) (input : Input) (decided : Option (List ℕ)) → decided_by l.mount input ≡ decided → IsNamed layout v m calls l.mount → Grows (goes l input) end → IsNever (goes l input) end → IsNever l end
    never_by calls l end input None none is grows never count far late at =
        let list : (goes l input).decided ≡ l.decided = ap (with_value l.decided) none in
        let from = (input_on l.mount input is.plans).onward in
        let on = grows.onward in
        never (ap (λ (values : List (List ℕ)). length values) list ∙ count) (omega (arith, from, on, far, late)) late at
    never_by calls l end input (Some w) some is grows never count far late at =
        let list : (goes l input).decided ≡ l.decided ++ w ∷ [] = ap (with_value l.decided) some in
        let there : slice_get (goes l input).decided position ≡ Some w =
        ap (λ (values : List (List ℕ)). slice_get values position) list ∙ ap (λ k. slice_get (l.decided ++ w ∷ []) k) (sym count) ∙ at_end l.decided w in
        let same : w ≡ value = same_Some w value (sym (grows.stays position w there) ∙ at) in
        let on = grows.onward in
        ends_here calls l.mount input is far (some ∙ ap (λ u. Some u) same) (omega (arith, on, late))

    never_from : (more : List MountTold) (calls : List FileCall) (ls : ℕ → Life) → IsNamed layout v m calls (ls m).mount → IsNever (ls m) (lives_from ls more m)
    never_from [] calls ls is = λ count far late at. no_place (ls m).decided position count at
      where
        no_place : (values : List (List ℕ)) (k : ℕ) → length values ≡ k → slice_get values k ≡ Some value → ⊥
        no_place values k count at = let low = slice_get_within values k value at in absurd (omega (arith, low, count))
    never_from (t ∷ more) calls ls is =
        let end : Life = lives_from (lived ls t) more m in
        let next = told_named layout v m calls ls t is in
        let grows = all_grow more (calls ++ calls_of (t ∷ []) m) (lived ls t) next in
        by_test (m == t.mount) (λ b. Grows (if b then goes (ls m) t.input else ls m) end → IsNever (if b then goes (ls m) t.input else ls m) end → IsNever (ls m) end)
        (λ _ grows never. never_by calls (ls m) end t.input (decided_by (ls m).mount t.input) refl is grows never) (λ _ grows never. never)
        grows (never_from more (calls ++ calls_of (t ∷ []) m) (lived ls t) next)

-- The list

module _ (layout : Layout) (v : Extent) (told : List MountTold) (can : CanBe layout v told) (registers : HaveRegisters layout v told) (list : List (List ℕ)) (is : IsListOf layout v told list) (few : AreFewCalls told) where
  -- A value that was put in is of the call that its mount made then

  module _ (position : ℕ) (value : List ℕ) (put : HasPutIn layout v told position value) where
    abbrev x : MountIs
    x = (lives layout v put.first put.mount).mount

    put_progress : progress x ≡ 3 * x.files.calls + 1
    put_progress = ap (λ (w : MountWork). 3 * x.files.calls + stage w) put.works

    put_names : (txn : Txn) → txn_in value ≡ Some txn → (txn.mount ≡ put.mount) × (txn.number ≡ x.files.calls)
    put_names txn read =
        let plan : IsPlanned put.first put.mount x.files value = its_planned layout v put.mount put.first value (Ballots (Some value)) put.works (λ plan. plan) in
        let names = planned_names put.mount x.files.volume (data_of x.files.first x.files.tables) x.files.tables plan.call plan.txn plan.plan in
        let there : call_named told put.mount plan.call.number ≡ Some plan.call.call =
        subst (λ all. call_named all put.mount plan.call.number ≡ Some plan.call.call) (sym put.told_so) (named_on put.first put.rest put.mount plan.call.number plan.call.call plan.named) in
        let most = numbered_most (calls_of told put.mount) plan.call.number plan.call.call there in
        let count = few put.mount put.low in
        let low : plan.txn.number < 2 ^ 32 = let e = names.1 in omega (arith, e, most, count) in
        let same = read_names value txn plan.txn plan.spells low read in
        (same.0 ∙ names.0, same.1 ∙ names.1 ∙ plan.last)

  -- Two positions

  module _ (position other : ℕ) (value its : List ℕ) (txn later : Txn) (here : slice_get list position ≡ Some value) (read : txn_in value ≡ Some txn) (later_read : txn_in its ≡ Some later)
      (mount : txn.mount ≡ later.mount) (number : txn.number ≡ later.number) (less : position < other) (early : HasPutIn layout v told position value) (late : HasPutIn layout v told other its) where
    abbrev m : ℕ
    m = late.mount

    early_names : (txn.mount ≡ early.mount) × (txn.number ≡ (lives layout v early.first early.mount).mount.files.calls)
    early_names = put_names position value early txn read

    late_names : (later.mount ≡ m) × (later.number ≡ (lives layout v late.first m).mount.files.calls)
    late_names = put_names other its late later later_read

    same_mount : early.mount ≡ m
    same_mount = sym early_names.0 ∙ mount ∙ late_names.0

    abbrev first : Life
    first = lives layout v early.first m

    abbrev last : Life
    last = lives layout v late.first m

    early_count : length first.decided ≡ position
    early_count =
        sym (stands_behind layout v told can registers list is early.first early.rest early.told_so m late.low)
        ∙ ap (λ k. (lives layout v early.first k).mount.upto) (sym same_mount) ∙ early.at

    late_count : length last.decided ≡ other
    late_count = sym (stands_behind layout v told can registers list is late.first late.rest late.told_so m late.low) ∙ late.at

    early_far : progress first.mount ≡ 3 * txn.number + 1
    early_far =
        ap (λ k. progress (lives layout v early.first k).mount) (sym same_mount) ∙ put_progress position value early ∙ ap (λ c. 3 * c + 1) (sym early_names.1)

    late_far : progress last.mount ≡ 3 * txn.number + 1
    late_far = put_progress other its late ∙ ap (λ c. 3 * c + 1) (sym late_names.1 ∙ sym number)

    -- the mount has the list's value at each position below its own
    late_has : slice_get last.decided position ≡ Some value
    late_has =
        let w = something_there last.decided position (omega (arith, less, late_count)) in
        let front = begins layout v told can registers list is late.first late.rest late.told_so m late.low in
        w.1 ∙ sym (at_front last.decided front.0 position w.0 w.1) ∙ ap (λ values. slice_get values position) front.1 ∙ here

    never : ⊥
    never = elim (split early.first late.first early.rest late.rest (sym early.told_so ∙ late.told_so)) [
      | inl more ↦
          let end : last ≡ lives_from (lives layout v early.first) more.0 m = ap (λ t. lives layout v t m) more.1 ∙ ap (λ (ls : ℕ → Life). ls m) (lives_on (all_opened layout v) early.first more.0) in
          never_from layout v m txn.number position value txn read (mount ∙ late_names.0) refl more.0 (calls_of early.first m) (lives layout v early.first) (its_calls layout v m early.first) early_count early_far
          (ap (λ (l : Life). progress l.mount) (sym end) ∙ late_far) (ap (λ (l : Life). slice_get l.decided position) (sym end) ∙ late_has)
      | inr more ↦
          let end : first ≡ lives_from (lives layout v late.first) more.0 m = ap (λ t. lives layout v t m) more.1 ∙ ap (λ (ls : ℕ → Life). ls m) (lives_on (all_opened layout v) late.first more.0) in
          let grows = all_grow layout v m more.0 (calls_of late.first m) (lives layout v late.first) (its_calls layout v m late.first) in
          let longer = grows.longer in
          let count = ap (λ (l : Life). length l.decided) end in
          absurd (omega (arith, longer, count, early_count, late_count, less))
    ]

  put_at : (position : ℕ) (value : List ℕ) (txn : Txn) → slice_get list position ≡ Some value → txn_in value ≡ Some txn → HasPutIn layout v told position value
  put_at position value txn at read = put_in layout v told can registers position value (is.decided position value at) (some_value value txn read)

  pub once : NamesEachOnce list
  once position other value its txn same here there read its_read mount number =
      let early = put_at position value txn here read in
      let late = put_at other its same there its_read in
      elim (cases_order position other) [
        | inl at ↦ at
        | inr apart ↦ elim apart [
          | inl less ↦ absurd (never position other value its txn same here read its_read mount number less early late)
          | inr more ↦ absurd (never other position its value same txn there its_read read (sym mount) (sym number) more late early)
        ]
      ]
