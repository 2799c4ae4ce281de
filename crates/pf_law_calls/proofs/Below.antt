-- A mount that has put in a transaction of its call goes on from that only by a decided value. So it stands behind the transactions of its calls
-- that have ended.
use Rattle.std.proofs.Common.{◌≡◌, ◌⊎◌, inl, inr, ℕ, zero, suc, ◌+◌, ◌*◌, ◌<◌, ◌≤◌, ◌^◌, ◌==◌, if◌then◌else◌, List, [], ◌∷◌, ◌++◌, length, Option, Some, None, slice_get, arith, refl, sym, ap, subst, ◌∙◌, length-append}
use Rattle.std.specs.Prelude.{unwrap_or}
use Rattle.std.proofs.lemmas.Bool.{eqb-true}
use Rattle.std.proofs.lemmas.List.{append_assoc}
use Rattle.std.proofs.lemmas.Option.{none-some}
use Rattle.pf_base.specs.declared.asks.Reply.{Reply}
use Rattle.pf_base.specs.declared.asks.Reply.TheVariants.{Written, Bytes}
use Rattle.pf_entry.proofs.Cases.{by_test}
use Rattle.pf_volume.specs.Volumes.{Extent}
use Rattle.pf_tree_tables.specs.declared.changes.Txn.{Txn}
use Rattle.pf_tree.specs.Held.{Held, data_of}
use Rattle.pf_tree.specs.Calls.{FileCall}
use Rattle.pf_txn.specs.Reading.{txn_in}
use Rattle.pf_txn.specs.Spelling.{spell_txn}
use Rattle.pf_paxos.specs.declared.ballot.BallotStep.{BallotStep}
use Rattle.pf_paxos.specs.declared.ballot.BallotStep.TheVariants.{Go, Abort, NoValue, Decided}
use Rattle.pf_paxos.specs.Ballots.{read_at}
use Rattle.pf_journal.specs.declared.layouts.Layout.{Layout}
use Rattle.pf_journal.specs.Layouts.{layout_of}
use Rattle.pf_file_calls.specs.declared.answers.CallAnswer.TheVariants.{Refused}
use Rattle.pf_file_calls.specs.declared.answers.CallFault.TheVariants.{JournalFull}
use Rattle.pf_file_calls.specs.declared.calls.Pending.{Pending}
use Rattle.pf_file_calls.specs.declared.calls.Planned.{Planned}
use Rattle.pf_mount_errands.specs.Blocks.{blocks_in}
use Rattle.pf_law_plans.proofs.Numbers.{numbered_most, read_names}
use Rattle.pf_law_plans.proofs.PlannedTransactions.{planned_names, some_value}
use Rattle.pf_mount_errands.specs.declared.errands.Errand.{Errand}
use Rattle.pf_mount_errands.specs.declared.errands.Errand.TheVariants.{FillsSuper, Free, OfPause, OfSuper, OfSync}
use Rattle.pf_mount_errands.specs.Errands.{errand_at, with_errand}
use Rattle.pf_mount_errands.specs.Positions.{anchors_of, can_start, having_read, journal_of, starting_ballot}
use Rattle.pf_mount.specs.declared.work.MountTask.{MountTask}
use Rattle.pf_mount.specs.declared.work.MountWork.{MountWork}
use Rattle.pf_mount.specs.declared.work.MountWork.TheVariants.{ReadsSuper, WritesSuper, Syncs, Ballots, Pauses, Moves}
use Rattle.pf_mount.specs.Mounts.{MountIs, Worked, mount_answered, asked_anchor, asked_data, balloted, ballots, data_answered, done, errand_answered, tables_held, paused, pauses, plans_as, proposes, stand_of, synced, turns_to}
use Rattle.pf_law_calls.specs.Doings.{HaveRegisters, IsListOf}
use Rattle.pf_law_calls.specs.Lives.{Asks, Begins, CanBe, CanComeFrom, CanTake, Hears, Input, Life, MountTold, all_opened, decided_by, decided_in, lived, lives, lives_from, lives_on as goes, mount_after, value_in, with_value}
use Rattle.pf_law_calls.proofs.Layouts.{mounts_lie, read_layout}
use Rattle.pf_law_calls.specs.Lists.{HasPutIn, IsPlanned}
use Rattle.pf_law_calls.specs.Trees.{AreFewCalls, call_named, calls_of}
use Rattle.pf_law_calls.proofs.Lists.{split}
use Rattle.pf_law_calls.proofs.CallNumbers.{IsNamed, input_on, its_calls, its_planned, named_on, told_named}
use Rattle.pf_law_calls.proofs.Parts.{can_after, can_until, lives_on}
use Rattle.pf_law_calls.proofs.PlannedInputs.{IsOfPlan, PlansIn, PutsInPlan, progress, stage, stage_most}
use Rattle.pf_law_calls.proofs.BallotInputs.{put_in}
use Rattle.pf_law_calls.proofs.TablesByList.{stands_behind}
use Rattle.pf_law_calls.specs.Late.{CallHasEnded}
use Rattle.pf_law_calls.proofs.Places.{AtWork, Placed, mounts_placed}

-- A step that decides nothing

module _ (layout : Layout) (task : MountTask) where
  -- after it the mount puts in still
  abbrev Puts : Worked → Type 0
  Puts w = stage (unwrap_or w.step.task task).work ≡ 1

  module _ (n : MountIs) (h : Held) where
    ballots_put : (value : List ℕ) → Puts (record { step = ballots (stand_of n) (Some value); tables = h.tables })
    ballots_put value =
        by_test (can_start n.position)
        (λ b. Puts (record { step = if b then turns_to (stand_of (record n { position = starting_ballot n.position (Some value) })) (Ballots (Some value)) else pauses (stand_of n) (Some value) 0; tables = h.tables }))
        (λ _. refl) (λ _. refl)

    paused_puts : (value : List ℕ) (left : ℕ) → Puts (record { step = paused (stand_of n) (Some value) left; tables = h.tables })
    paused_puts value zero = ballots_put value
    paused_puts value (suc left) = refl

    module _ (lie : n.position.layout ≡ layout) (low : n.upto < (layout_of layout).positions) where
      proposes_puts : (txn : Txn) → Puts (record { step = proposes (stand_of n) txn; tables = h.tables })
      proposes_puts txn =
          by_test (n.upto == (journal_of n.position).positions)
          (λ b. Puts (record { step = if b then done (stand_of n) (Refused JournalFull) else ballots (stand_of n) (Some (spell_txn txn)); tables = h.tables }))
          (λ is. let here = ap (λ (l : Layout). (layout_of l).positions) lie in let last = eqb-true n.upto (journal_of n.position).positions is in absurd (omega (arith, low, here, last))) (λ _. ballots_put (spell_txn txn))

      -- the same plan again
      synced_puts : (value : List ℕ) (o : Option Pending) → IsOfPlan n.files.mount n.files.volume h o value → Puts (record { step = synced (stand_of n) h o; tables = h.tables })
      synced_puts value o plan =
          subst (λ p. Puts (record { step = synced (stand_of n) h p; tables = h.tables })) (sym plan.pends)
          (subst (λ (x : Planned). Puts (record { step = plans_as (stand_of n) x; tables = h.tables })) (sym plan.plan) (proposes_puts plan.txn))

      balloted_puts : (value : List ℕ) (o : Option Pending) → IsOfPlan n.files.mount n.files.volume h o value → stage task.work ≡ 1 → (step : BallotStep) → value_in step ≡ None → Puts (balloted (stand_of n) h o (Some value) step)
      balloted_puts value o plan at Go none = at
      balloted_puts value o plan at (Abort mbal) none = refl
      balloted_puts value o plan at NoValue none = synced_puts value o plan
      balloted_puts value o plan at (Decided decided) none = absurd (none-some decided (sym none))

module _ (layout : Layout) (x : MountIs) (lie : x.position.layout ≡ layout) (placed : Placed layout x) (plans : PlansIn x) (at : stage x.task.work ≡ 1) where
  abbrev h : Held
  h = tables_held x.files

  abbrev o : Option Pending
  o = x.files.pending

  input_low : (value : List ℕ) → x.task.work ≡ Ballots (Some value) → x.upto < (layout_of layout).positions
  input_low value works = (subst (AtWork layout (λ _. Unit {0}) (λ _ _ _. Unit {0}) x.upto) works placed.at).0

  module _ (port : ℕ) where
    at_work : (work : MountWork) → x.task.work ≡ work → stage work ≡ 1
    at_work work same = ap stage (sym same) ∙ at

    errand_puts : (errand : Errand) (reply : Reply) (work : MountWork) → x.task.work ≡ work → PutsInPlan x.files.mount x.files.volume h o work → decided_in errand reply work x.position.ballot port ≡ None
        → Puts layout x.task (errand_answered errand (stand_of x) h o work port reply)
    errand_puts Free Written work same plan none = at
    errand_puts Free (Bytes sectors) (Ballots (Some value)) same plan none =
        balloted_puts layout x.task (record x { position = having_read x.position port (blocks_in sectors) }) h (read_layout x.position port (blocks_in sectors) ∙ lie) (input_low value same) value o plan at
        (read_at x.position.ballot port (blocks_in sectors)).step none
    errand_puts Free (Bytes sectors) (Ballots None) same plan none = absurd (let is = at_work (Ballots None) same in omega (arith, is))
    errand_puts Free (Bytes sectors) work same plan none = at
    errand_puts OfSync reply (Syncs looks) same plan none = absurd (let is = at_work (Syncs looks) same in omega (arith, is))
    errand_puts OfSync reply work same plan none = at
    errand_puts OfPause reply (Pauses (Some value) left) same plan none = paused_puts layout x.task (record x { errands = with_errand x.errands port Free }) h value left
    errand_puts OfPause reply (Pauses None left) same plan none = absurd (let is = at_work (Pauses None left) same in omega (arith, is))
    errand_puts OfPause reply work same plan none = at
    errand_puts OfSuper reply ReadsSuper same plan none = absurd (let is = at_work ReadsSuper same in omega (arith, is))
    errand_puts OfSuper reply work same plan none = at
    errand_puts FillsSuper reply WritesSuper same plan none = absurd (let is = at_work WritesSuper same in omega (arith, is))
    errand_puts FillsSuper reply work same plan none = at
    errand_puts errand reply work same plan none = at

    data_puts : (reply : Reply) (work : MountWork) → x.task.work ≡ work → Puts layout x.task (record { step = data_answered (stand_of x) h work reply; tables = h.tables })
    data_puts reply (Moves moving) same = absurd (let is = at_work (Moves moving) same in omega (arith, is))
    data_puts reply work same = at

    hears_puts : (reply : Reply) → decided_by x (Hears port reply) ≡ None → stage (mount_answered x port reply).mount.task.work ≡ 1
    hears_puts reply =
        by_test (port == anchors_of x.position)
        (λ b.
        (if b then None else decided_in (errand_at x.errands port) reply x.task.work x.position.ballot port) ≡ None
        → Puts layout x.task (if b then record { step = data_answered (stand_of x) h x.task.work reply; tables = h.tables } else errand_answered (errand_at x.errands port) (stand_of x) h o x.task.work port reply))
        (λ _ none. data_puts reply x.task.work refl) (λ _ none. errand_puts (errand_at x.errands port) reply x.task.work refl plans none)

  input_stays : (input : Input) → CanTake x input → decided_by x input ≡ None → progress (mount_after x input) ≡ progress x
  input_stays (Begins call) rests none = absurd (let is = ap stage rests in omega (arith, at, is))
  input_stays (Asks port) can none =
      by_test (port == anchors_of x.position) (λ b. progress (if b then asked_data x else asked_anchor x port) ≡ progress x) (λ _. refl) (λ _. refl)
  input_stays (Hears port reply) can none = ap (λ k. 3 * x.files.calls + k) (hears_puts port reply none ∙ sym at)

-- Lives

pub longer_with : (list : List (List ℕ)) (value : Option (List ℕ)) → length list ≤ length (with_value list value)
longer_with list None = omega arith
longer_with list (Some value) = let count = length-append list (value ∷ []) in omega (arith, count)

pub decided_longer : (m : ℕ) (more : List MountTold) (ls : ℕ → Life) → length (ls m).decided ≤ length (lives_from ls more m).decided
decided_longer m [] ls = omega arith
decided_longer m (t ∷ more) ls =
    let here : length (ls m).decided ≤ length (lived ls t m).decided =
    by_test (m == t.mount) (λ b. length (ls m).decided ≤ length (if b then goes (ls m) t.input else ls m).decided) (λ _. longer_with (ls m).decided (decided_by (ls m).mount t.input)) (λ _. omega arith) in
    let later = decided_longer m more (lived ls t) in
    omega (arith, here, later)

module _ (layout : Layout) (v : Extent) (m : ℕ) where
  told_onward : (calls : List FileCall) (ls : ℕ → Life) (t : MountTold) → IsNamed layout v m calls (ls m).mount → progress (ls m).mount ≤ progress (lived ls t m).mount
  told_onward calls ls t is =
      by_test (m == t.mount) (λ b. progress (ls m).mount ≤ progress (if b then goes (ls m) t.input else ls m).mount)
      (λ _. (input_on (ls m).mount t.input is.plans).onward) (λ _. omega arith)

  pub onward : (more : List MountTold) (calls : List FileCall) (ls : ℕ → Life) → IsNamed layout v m calls (ls m).mount → progress (ls m).mount ≤ progress (lives_from ls more m).mount
  onward [] calls ls is = omega arith
  onward (t ∷ more) calls ls is =
      let here = told_onward calls ls t is in
      let later = onward more (calls ++ calls_of (t ∷ []) m) (lived ls t) (told_named layout v m calls ls t is) in
      omega (arith, here, later)

  -- from where a mount put in at the position
  module _ (number position : ℕ) where
    record PutsThere (l : Life) : Type 0 where
      count : length l.decided ≡ position
      far : progress l.mount ≡ 3 * number + 1

    puts_on : (done : List MountTold) (l : Life) → lives layout v done m ≡ l → (input : Input) → CanTake l.mount input → PutsThere l → (value : Option (List ℕ)) → decided_by l.mount input ≡ value
        → PutsThere (goes l input) ⊎ (position < length (goes l input).decided)
    puts_on done l is input can puts None none =
        let far = puts.far in
        let most = stage_most l.mount.task.work in
        let at : stage l.mount.task.work ≡ 1 = omega (arith, far, most) in
        let lie = subst (λ (y : Life). y.mount.position.layout ≡ layout) is (mounts_lie layout v done m).lies in
        let placed = subst (λ (y : Life). Placed layout y.mount) is (mounts_placed layout v done m) in
        let plans = subst (λ (y : Life). PlansIn y.mount) is (its_calls layout v m done).plans in
        inl (record {
          count = ap (λ o. length (with_value l.decided o)) none ∙ puts.count;
          far = input_stays layout l.mount lie placed plans at input can none ∙ far;
        })
    puts_on done l is input can puts (Some value) some =
        let longer = ap (λ o. length (with_value l.decided o)) some ∙ length-append l.decided (value ∷ []) in
        let count = puts.count in
        inr (omega (arith, longer, count))

    passes : (more done : List MountTold) (ls : ℕ → Life) → lives layout v done ≡ ls → CanComeFrom ls more → PutsThere (ls m) → 3 * number + 2 ≤ progress (lives_from ls more m).mount → position < length (lives_from ls more m).decided
    passes [] done ls is can puts far = let near = puts.far in absurd (omega (arith, near, far))
    passes (t ∷ more) done ls is can puts far =
        let now : lives layout v (done ++ t ∷ []) ≡ lived ls t = lives_on (all_opened layout v) done (t ∷ []) ∙ ap (λ (x : ℕ → Life). lived x t) is in
        let on : PutsThere (lived ls t m) ⊎ (position < length (lived ls t m).decided) =
        by_test (m == t.mount) (λ b. PutsThere (if b then goes (ls m) t.input else ls m) ⊎ (position < length (if b then goes (ls m) t.input else ls m).decided))
        (λ own.
        puts_on done (ls m) (ap (λ (x : ℕ → Life). x m) is) t.input (subst (λ k. CanTake (ls k).mount t.input) (sym (eqb-true m t.mount own)) can.0.takes) puts (decided_by (ls m).mount t.input) refl)
        (λ _. inl puts) in
        elim on [
          | inl still ↦ passes more (done ++ t ∷ []) (lived ls t) now can.1 still far
          | inr past ↦ let longer = decided_longer m more (lived ls t) in omega (arith, past, longer)
        ]

-- a call that has ended leaves the mount so far
ended_far : (x : MountIs) (number : ℕ) → CallHasEnded x number → 3 * number + 2 ≤ progress x
ended_far x number (inl less) = omega (arith, less)
ended_far x number (inr rests) = let at = ap stage rests.1 in let same = rests.0 in omega (arith, at, same)

module _ (layout : Layout) (v : Extent) (told : List MountTold) (can : CanBe layout v told) (registers : HaveRegisters layout v told) (list : List (List ℕ)) (is : IsListOf layout v told list) (few : AreFewCalls told) where
  -- a value that was put in names the call that its mount made then
  module _ (position : ℕ) (value : List ℕ) (put : HasPutIn layout v told position value) where
    abbrev y : MountIs
    y = (lives layout v put.first put.mount).mount

    put_progress : progress y ≡ 3 * y.files.calls + 1
    put_progress = ap (λ (w : MountWork). 3 * y.files.calls + stage w) put.works

    pub put_names : (txn : Txn) → txn_in value ≡ Some txn → (txn.mount ≡ put.mount) × (txn.number ≡ y.files.calls)
    put_names txn read =
        let plan : IsPlanned put.first put.mount y.files value = its_planned layout v put.mount put.first value (Ballots (Some value)) put.works (λ plan. plan) in
        let names = planned_names put.mount y.files.volume (data_of y.files.first y.files.tables) y.files.tables plan.call plan.txn plan.plan in
        let there : call_named told put.mount plan.call.number ≡ Some plan.call.call =
        subst (λ all. call_named all put.mount plan.call.number ≡ Some plan.call.call) (sym put.told_so) (named_on put.first put.rest put.mount plan.call.number plan.call.call plan.named) in
        let most = numbered_most (calls_of told put.mount) plan.call.number plan.call.call there in
        let count = few put.mount put.low in
        let low : plan.txn.number < 2 ^ 32 = let e = names.1 in omega (arith, e, most, count) in
        let same = read_names value txn plan.txn plan.spells low read in
        (same.0 ∙ names.0, same.1 ∙ names.1 ∙ plan.last)

  module _ (first rest : List MountTold) (n : ℕ) (same : told ≡ first ++ rest) (low : n < 16) (position : ℕ) (value : List ℕ) (txn : Txn) (here : slice_get list position ≡ Some value) (read : txn_in value ≡ Some txn) (mount : txn.mount ≡ n)
      (ended : CallHasEnded (lives layout v first n).mount txn.number) where
    put : HasPutIn layout v told position value
    put = put_in layout v told can registers position value (is.decided position value here) (some_value value txn read)

    names : (txn.mount ≡ put.mount) × (txn.number ≡ (lives layout v put.first put.mount).mount.files.calls)
    names = put_names position value put txn read

    its : put.mount ≡ n
    its = sym names.0 ∙ mount

    puts : PutsThere layout v n txn.number position (lives layout v put.first n)
    puts = record {
      count =
          sym (stands_behind layout v told can registers list is put.first put.rest put.told_so n low)
          ∙ ap (λ k. (lives layout v put.first k).mount.upto) (sym its) ∙ put.at;
      far = ap (λ k. progress (lives layout v put.first k).mount) (sym its) ∙ put_progress position value put ∙ ap (λ c. 3 * c + 1) (sym names.1);
    }

    far : 3 * txn.number + 2 ≤ progress (lives layout v first n).mount
    far = ended_far (lives layout v first n).mount txn.number ended

    below_decided : position < length (lives layout v first n).decided
    below_decided = elim (split first put.first rest put.rest (sym same ∙ put.told_so)) [
      | inl later ↦
          let on = onward layout v n later.0 (calls_of first n) (lives layout v first) (its_calls layout v n first) in
          let there = ap (λ t. progress (lives layout v t n).mount) later.1 ∙ ap (λ (ls : ℕ → Life). progress (ls n).mount) (lives_on (all_opened layout v) first later.0) in
          let near = puts.far in
          absurd (omega (arith, on, there, near, far))
      | inr earlier ↦
          let end : lives layout v first n ≡ lives_from (lives layout v put.first) earlier.0 n = ap (λ t. lives layout v t n) earlier.1 ∙ ap (λ (ls : ℕ → Life). ls n) (lives_on (all_opened layout v) put.first earlier.0) in
          let rest_can : CanComeFrom (lives layout v put.first) (earlier.0 ++ rest) =
          can_after (all_opened layout v) put.first (earlier.0 ++ rest) (subst (CanBe layout v) (same ∙ ap (λ t. t ++ rest) earlier.1 ∙ append_assoc put.first earlier.0 rest) can) in
          subst (λ (l : Life). position < length l.decided) (sym end)
          (passes layout v n txn.number position earlier.0 put.first (lives layout v put.first) refl (can_until (lives layout v put.first) earlier.0 rest rest_can) puts (subst (λ (l : Life). 3 * txn.number + 2 ≤ progress l.mount) end far))
    ]

    pub ended_below : position < (lives layout v first n).mount.upto
    ended_below = subst (λ k. position < k) (sym (stands_behind layout v told can registers list is first rest same n low)) below_decided
