-- What a call that ends was answered, in the user's tree.
use Rattle.std.proofs.Common.{◌≡◌, inl, inr, ℕ, ◌<◌, ◌^◌, List, [], ◌∷◌, ◌++◌, take, Some, slice_get, arith, refl, sym, ap, subst, ◌∙◌}
use Rattle.std.proofs.lemmas.Option.{slice_get_within}
use Rattle.pf_volume.specs.Volumes.{Extent, IsVolume}
use Rattle.pf_tree_tables.specs.Tables.{Tables}
use Rattle.pf_tree.specs.Calls.{FileCall}
use Rattle.pf_tree.specs.Held.{data_of}
use Rattle.pf_tree.specs.Standing.{IsCall, TablesStandFor}
use Rattle.pf_tree.specs.Trees.{Data}
use Rattle.pf_file_calls.specs.Calls.{planned}
use Rattle.pf_file_calls.specs.declared.answers.CallAnswer.{CallAnswer}
use Rattle.pf_file_calls.specs.declared.answers.CallAnswer.TheVariants.{Refused}
use Rattle.pf_file_calls.specs.declared.answers.CallFault.{CallFault}
use Rattle.pf_file_calls.specs.declared.calls.Pending.{Pending}
use Rattle.pf_file_calls.specs.declared.calls.Planned.{Planned}
use Rattle.pf_file_calls.specs.declared.calls.Planned.TheVariants.{Refuses, Proposes, Goes}
use Rattle.pf_law_plans.proofs.Numbers.{numbered_most, read_names}
use Rattle.pf_law_plans.specs.Answering as plans
use Rattle.pf_law_plans.specs.Exchanges.{Exchange}
use Rattle.pf_law_plans.proofs.TableAnswers.{Spells}
use Rattle.pf_law_plans.proofs.EndedCalls as ends
use Rattle.pf_law_plans.proofs.EndedCalls.{IsDone, found_in, full_in, is_done, refused_in}
use Rattle.pf_law_plans.proofs.PlannedTransactions.{planned_names, some_value}
use Rattle.pf_law_plans.proofs.NameOrder.{AllRise}
use Rattle.pf_journal.specs.declared.layouts.Layout.{Layout}
use Rattle.pf_journal.specs.Layouts.{layout_of}
use Rattle.pf_mount.specs.declared.work.MountNext.TheVariants.{Done}
use Rattle.pf_mount.specs.declared.work.MountWork.TheVariants.{Ballots}
use Rattle.pf_mount.specs.Mounts.{MountIs, tables_held}
use Rattle.pf_law_calls.specs.Doings.{HaveRegisters, IsListOf}
use Rattle.pf_law_calls.specs.Lives.{CanBe, Input, Life, MountTold, lives, mount_after, tables_from}
use Rattle.pf_law_calls.specs.Lists.{HasPutIn, IsPlanned, StandsInList}
use Rattle.pf_law_calls.specs.Spelled.{CanAllBeSpelled}
use Rattle.pf_law_calls.specs.Trees.{AreFewCalls, call_named, calls_of, data_blocks, tree_after}
use Rattle.pf_law_calls.proofs.CallNumbers.{its_calls, its_planned, named_on}
use Rattle.pf_law_calls.proofs.BallotInputs.{put_in}
use Rattle.pf_law_calls.proofs.CallWords.{named_spelled}
use Rattle.pf_law_calls.proofs.TablesByList.{mounts_stand, stands_at}
use Rattle.pf_law_calls.specs.Answering.{CallIsAnswered, IsCallAnsweredBy, next_by}
use Rattle.pf_law_calls.specs.Exchanges.{exchanges}
use Rattle.pf_law_calls.proofs.EndedCalls.{HasEnded, IsIn, has_ended, its_life, low, now_same}
use Rattle.pf_law_calls.proofs.CallEnds.{IsFound, IsRefusedAs, plan_at}
use Rattle.pf_law_calls.proofs.NameOrder.{tables_rise}

module _ (layout : Layout) (v : Extent) (told : List MountTold) (can : CanBe layout v told) (registers : HaveRegisters layout v told) (list : List (List ℕ)) (is : IsListOf layout v told list) (volume : IsVolume v)
    (spelled : CanAllBeSpelled told) (few : AreFewCalls told) where
  abbrev d : Data
  d = data_blocks layout v

  is_call : (m number : ℕ) (call : FileCall) → call_named told m number ≡ Some call → IsCall call
  is_call m number call named = (named_spelled told m number call spelled named).place

  -- Its own transaction

  module _ (m number : ℕ) (call : FileCall) (named : call_named told m number ≡ Some call) (n : ℕ) (value : List ℕ) (there : slice_get list n ≡ Some value) (spells : Spells m number value) where
    abbrev t : Tables
    t = tables_from v (take n list)

    stand : TablesStandFor d t (tree_after layout v told (take n list))
    stand = let low = slice_get_within list n value there in stands_at layout v told can registers list is volume spelled few n (omega (arith, low))

    pub put : HasPutIn layout v told n value
    put = put_in layout v told can registers n value (is.decided n value there) (some_value value spells.txn spells.spells)

    abbrev y : MountIs
    y = (lives layout v put.first put.mount).mount

    pub plan : IsPlanned put.first put.mount y.files value
    plan = its_planned layout v put.mount put.first value (Ballots (Some value)) put.works (λ plan. plan)

    abbrev p : Pending
    p = plan.call

    named_so : call_named told put.mount p.number ≡ Some p.call
    named_so = subst (λ all. call_named all put.mount p.number ≡ Some p.call) (sym put.told_so) (named_on put.first put.rest put.mount p.number p.call plan.named)

    tables_there : y.files.tables ≡ t
    tables_there = (mounts_stand layout v told can registers list is volume spelled few put.first put.rest put.told_so put.mount put.low).tables ∙ ap (λ k. tables_from v (take k list)) put.at

    data_is : data_of (layout_of layout).first t ≡ d
    data_is = let with_blocks : ℕ → Data = λ b. record { first = (layout_of layout).first; blocks = b } in ap with_blocks stand.blocks

    pub planned_there : planned put.mount v d t p ≡ Proposes plan.txn
    planned_there =
        let files = y.files in
        let its = its_calls layout v put.mount put.first in
        ap (λ (of : Data). planned put.mount v of t p) (sym data_is)
        ∙ ap (λ (of : Tables). planned put.mount v (data_of (layout_of layout).first of) of p) (sym tables_there)
        ∙ ap (λ (k : ℕ). planned put.mount v (data_of k files.tables) files.tables p) (sym its.first)
        ∙ ap (λ (w : Extent). planned put.mount w (data_of files.first files.tables) files.tables p) (sym its.volume)
        ∙ plan.plan

    done_there : IsDone d (calls_of told) list m number call named n value there spells
    done_there =
        let names = planned_names put.mount v d t p plan.txn planned_there in
        let most = numbered_most (calls_of told put.mount) p.number p.call named_so in
        let count = few put.mount put.low in
        let low : plan.txn.number < 2 ^ 32 = let e = names.1 in omega (arith, e, most, count) in
        let read = read_names value spells.txn plan.txn plan.spells low spells.spells in
        is_done d (calls_of told) list m number call named n value there spells put.mount v t p plan.txn stand (is_call put.mount p.number p.call named_so) planned_there named_so
        (sym read.0 ∙ spells.mount_is) (sym read.1 ∙ spells.number_is)

  -- The answer

  module _ (before after : List MountTold) (m : ℕ) (small : m < 16) (came : List Exchange) (answer : CallAnswer) (same_told : told ≡ before ++ after)
      (ended : HasEnded layout v told can registers list is m came (lives layout v before m).mount answer) where
    abbrev x : MountIs
    x = (lives layout v before m).mount

    abbrev q : Pending
    q = ended.call

    abbrev InList : ℕ → List ℕ → Type 0
    InList = IsIn layout v told can registers list is m

    stands : StandsInList layout v told list x
    stands = mounts_stand layout v told can registers list is volume spelled few before after same_told m small

    rise : AllRise x.files.tables.entries
    rise = subst (λ (t : Tables). AllRise t.entries) (sym stands.tables) (tables_rise v (take x.upto list))

    call_here : IsCall q.call
    call_here = is_call m q.number q.call ended.named

    named_here : call_named told x.files.mount q.number ≡ Some q.call
    named_here = subst (λ k. call_named told k q.number ≡ Some q.call) (sym (its_calls layout v m before).number) ended.named

    data_here : data_of x.files.first x.files.tables ≡ d
    data_here =
        let with_blocks : ℕ → Data = λ b. record { first = (layout_of layout).first; blocks = b } in
        ap (λ k. data_of k x.files.tables) (its_calls layout v m before).first ∙ ap with_blocks stands.tree.blocks

    abbrev plan_here : Planned
    plan_here = plan_at layout InList x.files.mount x.files.volume (tables_held x.files) q

    plan_is : planned x.files.mount x.files.volume d x.files.tables q ≡ plan_here
    plan_is = ap (λ (of : Data). planned x.files.mount x.files.volume of x.files.tables q) (sym data_here)

    -- of a mount with this number and volume, and the call that has this number
    abbrev Is : (k : ℕ) → Extent → (number : ℕ) → Type 0
    Is k w number = plans.PlannedIsAnswered (layout_of layout).positions w d (calls_of told) (tables_from v) list came k number x.upto answer

    abbrev Here : Type 0
    Here = Is x.files.mount x.files.volume q.number

    by_plan : (fault : CallFault) (plan : Planned) → plan_here ≡ plan → answer ≡ Refused fault → IsRefusedAs layout x.upto plan fault → Here
    by_plan fault (Refuses other) is answer_is refused =
        refused_in d (calls_of told) list (layout_of layout).positions x.files.volume (tables_from v) came x.files.mount x.files.tables x.upto stands rise q named_here call_here answer other (plan_is ∙ is) (answer_is ∙ ap Refused (sym refused))
    by_plan fault (Proposes txn) is answer_is refused =
        full_in d (calls_of told) list (layout_of layout).positions x.files.volume (tables_from v) came x.files.mount x.files.tables x.upto stands rise q named_here call_here answer txn (plan_is ∙ is) refused.0 (answer_is ∙ ap Refused refused.1)
    by_plan fault (Goes step) is answer_is refused = absurd refused

    by_tables : IsFound layout InList x.files.mount x.files.volume came x.upto (tables_held x.files) q answer → Here
    by_tables found =
        found_in d (calls_of told) list (layout_of layout).positions x.files.volume (tables_from v) came x.files.mount x.files.tables x.upto stands rise q named_here call_here answer
        (λ own spells. done_there x.files.mount q.number q.call named_here own.position own.value own.is spells)
        (subst (λ (of : Data). ends.IsFound InList x.files.mount x.files.volume of x.files.tables x.upto q came answer) data_here found)

    answered_here : Here
    answered_here = elim ended.end [
      | inl refused ↦ by_plan refused.0 plan_here refl refused.1 refused.2
      | inr found ↦ by_tables found
    ]

    is_answered : CallIsAnswered layout v told list came m x.files.calls x.upto answer
    is_answered = let its = its_calls layout v m before in subst (Is m v) ended.number (subst (λ w. Is m w q.number) its.volume (subst (λ k. Is k x.files.volume q.number) its.number answered_here))

  pub calls_answered : (before after : List MountTold) (m : ℕ) (input : Input) (answer : CallAnswer) → told ≡ before ++ record { mount = m; input = input } ∷ after → next_by (lives layout v before m).mount input ≡ Some (Done answer)
      → IsCallAnsweredBy layout v told list (exchanges layout v (before ++ record { mount = m; input = input } ∷ []) m) m (mount_after (lives layout v before m).mount input) answer
  calls_answered before after m input answer same ends =
      let now : List MountTold = before ++ record { mount = m; input = input } ∷ [] in
      let small = low layout v told can registers list is m before after input same in
      subst (λ (l : Life). IsCallAnsweredBy layout v told list (exchanges layout v now m) m l.mount answer) (its_life layout v told can registers list is m before after input same)
      (is_answered now after m small (exchanges layout v now m) answer (now_same layout v told can registers list is m before after input same)
      (has_ended layout v told can registers list is m before after input answer same ends))
