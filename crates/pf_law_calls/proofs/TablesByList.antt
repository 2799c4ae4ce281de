-- The tables after the first transactions of the list stand for the tree after the calls that these name.
use Rattle.std.proofs.Common.{◌≡◌, ℕ, zero, suc, ◌/◌, ◌<◌, ◌≤◌, ◌^◌, List, [], ◌∷◌, ◌++◌, length, take, get_or, Option, Some, None, slice_get, arith, refl, sym, ap, subst, ◌∙◌, length-append, take-suc}
use Rattle.std.specs.Option.{option_and_then}
use Rattle.std.proofs.lemmas.List.{take_at}
use Rattle.std.proofs.lemmas.List.Sums.{fold-append}
use Rattle.std.proofs.lemmas.Option.{slice_get-get_or}
use Rattle.pf_volume.specs.Volumes.{Extent, IsVolume, size_of}
use Rattle.pf_tree_tables.specs.declared.changes.Txn.{Txn}
use Rattle.pf_tree_tables.specs.Tables.{Tables, applied, new_tables}
use Rattle.pf_tree.specs.Held.{data_of}
use Rattle.pf_tree.specs.Standing.{TablesStandFor}
use Rattle.pf_tree.specs.Trees.{Data, Tree, new_tree}
use Rattle.pf_tree.proofs.New.{new_stands}
use Rattle.pf_txn.specs.Reading.{txn_in}
use Rattle.pf_txn.proofs.TxnLaws.{txn_found}
use Rattle.pf_file_calls.specs.Calls.{value_applied, planned}
use Rattle.pf_file_calls.specs.declared.calls.Pending.{Pending}
use Rattle.pf_file_calls.specs.declared.calls.Planned.TheVariants.{Proposes}
use Rattle.pf_law_plans.specs.Named.{call_in}
use Rattle.pf_law_plans.specs.Numbered.{tree_with}
use Rattle.pf_law_plans.specs.Spelled.{CanBeSpelled}
use Rattle.pf_law_plans.proofs.Numbers.{numbered_most}
use Rattle.pf_law_plans.proofs.PlannedTransactions.{call_followed, few_blocks, no_spelling, planned_names, read_again}
use Rattle.pf_paxos.specs.Journals.{Begins as BeginsList}
use Rattle.pf_journal.specs.declared.layouts.Layout.{Layout}
use Rattle.pf_journal.specs.Layouts.{layout_of}
use Rattle.pf_law_lists.specs.Journals.{Doing, journal_from}
use Rattle.pf_law_lists.proofs.OneList.{begins_list}
use Rattle.pf_mount.specs.Mounts.{MountIs}
use Rattle.pf_mount.specs.declared.work.MountWork.TheVariants.{Ballots}
use Rattle.pf_law_calls.specs.Doings.{HaveRegisters, IsListOf, doings, doings_from, new_journal_of}
use Rattle.pf_law_calls.specs.Lives.{CanBe, Life, MountTold, after_values, all_opened, lives, tables_from}
use Rattle.pf_law_calls.proofs.Journals.{is_lived, over_layout, quorums_meet}
use Rattle.pf_law_calls.specs.Lists.{HasPutIn, IsPlanned, StandsInList}
use Rattle.pf_law_calls.specs.Spelled.{CanAllBeSpelled}
use Rattle.pf_law_calls.specs.Trees.{AreFewCalls, call_named, calls_of, data_blocks, tree_after}
use Rattle.pf_law_calls.proofs.CallWords.{named_spelled}
use Rattle.pf_law_calls.proofs.CallNumbers.{its_calls, its_planned, named_on}
use Rattle.pf_law_calls.proofs.Parts.{can_until, doings_on}
use Rattle.pf_law_calls.proofs.BallotInputs.{put_in}

one_value : (t : Tables) (values : List (List ℕ)) (value : List ℕ) → after_values t (values ++ value ∷ []) ≡ value_applied (after_values t values) (txn_in value)
one_value t [] value = refl
one_value t (w ∷ values) value = one_value (value_applied t (txn_in w)) values value

-- Mounts

module _ (layout : Layout) (v : Extent) (told : List MountTold) (can : CanBe layout v told) (registers : HaveRegisters layout v told) (list : List (List ℕ)) (is : IsListOf layout v told list) where
  module _ (before after : List MountTold) (same : told ≡ before ++ after) (m : ℕ) (low : m < 16) where
    can_before : CanBe layout v before
    can_before = can_until (all_opened layout v) before after (subst (CanBe layout v) same can)

    pub begins : BeginsList (lives layout v before m).decided list
    begins =
        let first = doings layout v before in
        let more = doings_from (lives layout v before) after in
        let all : doings layout v told ≡ first ++ more = ap (doings layout v) same ∙ doings_on (all_opened layout v) before after in
        let part : take (length first) (doings layout v told) ≡ first = ap (take (length first)) all ∙ take_at first more (length first) refl in
        subst (λ values. BeginsList values list) (ap (λ (ds : List Doing). (journal_from (new_journal_of layout) ds).list m) part ∙ (is_lived layout v before m can_before low).mount.follows.list_is)
        (begins_list (over_layout layout (doings layout v told)) (quorums_meet layout) registers list is m (length first))

    pub stands_behind : (lives layout v before m).mount.upto ≡ length (lives layout v before m).decided
    stands_behind = (is_lived layout v before m can_before low).mount.follows.upto_is

    within : (lives layout v before m).mount.upto ≤ length list
    within =
        let count = stands_behind in
        let whole = ap (λ (values : List (List ℕ)). length values) begins.1 in
        omega (arith, count, whole, length-append (lives layout v before m).decided begins.0)

    tables_are : (lives layout v before m).mount.files.tables ≡ tables_from v (take (lives layout v before m).mount.upto list)
    tables_are =
        let l : Life = lives layout v before m in
        let front : take l.mount.upto list ≡ l.decided = ap (take l.mount.upto) (sym begins.1) ∙ take_at l.decided begins.0 l.mount.upto (sym stands_behind) in
        (is_lived layout v before m can_before low).tables ∙ ap (tables_from v) (sym front)

  -- Values

  module _ (volume : IsVolume v) (spelled : CanAllBeSpelled told) (few : AreFewCalls told) where
    abbrev pub d : Data
    d = data_blocks layout v

    abbrev pub tables_at : ℕ → Tables
    tables_at n = tables_from v (take n list)

    abbrev pub tree_at : ℕ → Tree
    tree_at n = tree_after layout v told (take n list)

    -- a value that changes the tables so leaves them standing for the tree with the call that it names
    abbrev StandsWith : ℕ → (value : List ℕ) → Option Txn → Type 0
    StandsWith n value txn = TablesStandFor d (value_applied (tables_at n) txn) (tree_with d (tree_at n) (option_and_then (λ (x : Txn). call_named told x.mount x.number) txn))

    module _ (n : ℕ) (value : List ℕ) (stand : TablesStandFor d (tables_at n) (tree_at n)) (put : HasPutIn layout v told n value) where
      abbrev m : ℕ
      m = put.mount

      abbrev x : MountIs
      x = (lives layout v put.first m).mount

      plan : IsPlanned put.first m x.files value
      plan = its_planned layout v m put.first value (Ballots (Some value)) put.works (λ plan. plan)

      abbrev p : Pending
      p = plan.call

      named : call_named told m p.number ≡ Some p.call
      named = subst (λ all. call_named all m p.number ≡ Some p.call) (sym put.told_so) (named_on put.first put.rest m p.number p.call plan.named)

      tables_there : x.files.tables ≡ tables_at n
      tables_there = tables_are put.first put.rest put.told_so m put.low ∙ ap tables_at put.at

      data_is : data_of (layout_of layout).first (tables_at n) ≡ d
      data_is = let with_blocks : ℕ → Data = λ b. record { first = (layout_of layout).first; blocks = b } in ap with_blocks stand.blocks

      planned_there : planned m v d (tables_at n) p ≡ Proposes plan.txn
      planned_there =
          let files = x.files in
          let its = its_calls layout v m put.first in
          ap (λ (y : Data). planned m v y (tables_at n) p) (sym data_is)
          ∙ ap (λ (t : Tables). planned m v (data_of (layout_of layout).first t) t p) (sym tables_there)
          ∙ ap (λ (k : ℕ). planned m v (data_of k files.tables) files.tables p) (sym its.first)
          ∙ ap (λ (w : Extent). planned m w (data_of files.first files.tables) files.tables p) (sym its.volume)
          ∙ plan.plan

      can_be : CanBeSpelled p.call
      can_be = named_spelled told m p.number p.call spelled named

      few_tags : length (tables_at n).tags ≤ 4096
      few_tags = let most = few_blocks v volume in omega (arith, stand.blocks, most)

      low : p.number < 2 ^ 32
      low = let most = numbered_most (calls_of told m) p.number p.call named in let count = few m put.low in omega (arith, most, count)

      with_txn : StandsWith n value (Some plan.txn)
      with_txn =
          let names = planned_names m v d (tables_at n) p plan.txn planned_there in
          let its_call : call_named told plan.txn.mount plan.txn.number ≡ Some p.call = ap (λ k. call_named told k plan.txn.number) names.0 ∙ ap (call_named told m) names.1 ∙ named in
          subst (λ call. TablesStandFor d (applied (tables_at n) plan.txn.changes) (tree_with d (tree_at n) call)) (sym its_call)
          (call_followed m v d (tables_at n) p plan.txn (tree_at n) stand can_be.place planned_there)

      value_read : txn_in value ≡ Some plan.txn
      value_read = ap txn_in plan.spells ∙ read_again m v d (tables_at n) p plan.txn (tree_at n) stand few_tags put.low low can_be planned_there

      stands_with : StandsWith n value (txn_in value)
      stands_with = subst (StandsWith n value) (sym value_read) with_txn

    value_stands : (n : ℕ) (value : List ℕ) → slice_get list n ≡ Some value → TablesStandFor d (tables_at n) (tree_at n) → (txn : Option Txn) → txn_in value ≡ txn → StandsWith n value (txn_in value)
    value_stands n value at stand None none = subst (StandsWith n value) (sym none) stand
    value_stands n value at stand (Some txn) some =
        let its = (txn_found value txn some).spelled in
        stands_with n value stand (put_in layout v told can registers n value (is.decided n value at) (λ empty. no_spelling txn (its ∙ empty)))

    -- one value more

    one_more : (n : ℕ) (value : List ℕ) → take (suc n) list ≡ take n list ++ value ∷ [] → StandsWith n value (txn_in value) → TablesStandFor d (tables_at (suc n)) (tree_at (suc n))
    one_more n value more stand =
        let tables = ap (tables_from v) more ∙ one_value (new_tables (size_of v / 8)) (take n list) value in
        let tree = ap (tree_after layout v told) more ∙ fold-append (λ (tree : Tree) (value : List ℕ). tree_with d tree (call_in (calls_of told) value)) new_tree (take n list) (value ∷ []) in
        subst (λ t. TablesStandFor d t (tree_at (suc n))) (sym tables) (subst (TablesStandFor d (value_applied (tables_at n) (txn_in value))) (sym tree) stand)

    pub stands_at : (n : ℕ) → n ≤ length list → TablesStandFor d (tables_at n) (tree_at n)
    stands_at zero most = new_stands (layout_of layout).first (size_of v / 8)
    stands_at (suc n) most =
        let low : n < length list = omega (arith, most) in
        let value : List ℕ = get_or list n [] in
        one_more n value (take-suc list n [] low) (value_stands n value (slice_get-get_or list n [] low) (stands_at n (omega (arith, low))) (txn_in value) refl)

    pub mounts_stand : (before after : List MountTold) → told ≡ before ++ after → (m : ℕ) → m < 16 → StandsInList layout v told list (lives layout v before m).mount
    mounts_stand before after same m low =
        let upto = (lives layout v before m).mount.upto in
        let most = within before after same m low in
        let tables = tables_are before after same m low in
        record { within = most; tables = tables; tree = subst (λ t. TablesStandFor d t (tree_at upto)) (sym tables) (stands_at upto most) }
