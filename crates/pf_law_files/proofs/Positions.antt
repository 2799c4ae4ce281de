-- Positions of the list whose values are of calls, and how many calls have begun where a mount stands behind them.
use Rattle.std.proofs.Common.{◌≡◌, inl, inr, ℕ, zero, suc, ◌+◌, ◌*◌, ◌/◌, ◌<◌, ◌≤◌, List, [], ◌∷◌, ◌++◌, length, take, Some, None, slice_get, arith, refl, sym, ap, subst, ◌∙◌, append-nil, length-append}
use Rattle.std.proofs.lemmas.Bool.{cases_lt}
use Rattle.std.proofs.lemmas.List.{append_assoc}
use Rattle.std.proofs.lemmas.Option.{none-some, same_Some}
use Rattle.pf_volume.specs.Volumes.{Extent, size_of}
use Rattle.pf_tree_tables.specs.declared.changes.Txn.{Txn}
use Rattle.pf_tree_tables.specs.Tables.{Tables, new_tables}
use Rattle.pf_tree.specs.Calls.{FileCall}
use Rattle.pf_txn.specs.Reading.{txn_in}
use Rattle.pf_file_calls.specs.Calls.{value_applied}
use Rattle.pf_law_plans.specs.Numbered.{call_numbered}
use Rattle.pf_law_plans.proofs.TableAnswers.{Spells}
use Rattle.pf_law_plans.proofs.Lists.{take_one_more}
use Rattle.pf_law_plans.proofs.PlannedTransactions.{some_value}
use Rattle.pf_journal.specs.declared.layouts.Layout.{Layout}
use Rattle.pf_mount.specs.Mounts.{MountIs}
use Rattle.pf_mount.specs.declared.work.MountWork.{MountWork}
use Rattle.pf_mount.specs.declared.work.MountWork.TheVariants.{Ballots}
use Rattle.pf_law_calls.specs.Doings.{HaveRegisters, IsListOf}
use Rattle.pf_law_calls.specs.Lives.{Begins, CanBe, Life, MountTold, after_values, all_opened, lives, tables_from}
use Rattle.pf_law_calls.specs.Lists.{HasPutIn, IsPlanned}
use Rattle.pf_law_calls.specs.Trees.{AreFewCalls, calls_of}
use Rattle.pf_law_calls.proofs.Lists.{something_there}
use Rattle.pf_law_calls.proofs.CallNumbers.{calls_on, its_calls, its_planned}
use Rattle.pf_law_calls.proofs.Parts.{lives_on}
use Rattle.pf_law_calls.proofs.PlannedInputs.{progress, stage}
use Rattle.pf_law_calls.proofs.BallotInputs.{put_in}
use Rattle.pf_law_calls.proofs.OneTransaction.{once}
use Rattle.pf_law_calls.proofs.TablesByList.{stands_behind}
use Rattle.pf_law_calls.specs.Late.{IsPlanned as IsPlannedWork}
use Rattle.pf_law_calls.proofs.Behind.{call_late}
use Rattle.pf_law_calls.proofs.Below.{decided_longer, onward, put_names}
use Rattle.pf_law_files.proofs.MomentCounts.{first_call, split_at}

positive : (calls : List FileCall) (number : ℕ) (call : FileCall) → call_numbered calls number ≡ Some call → 0 < number
positive calls zero call is = absurd (none-some call is)
positive calls (suc number) call is = omega arith

module _ (list : List (List ℕ)) where
  -- the value at this position is of the call of mount n with this number
  pub record IsOf (position n number : ℕ) : Type 0 where
    pub value : List ℕ
    pub there : slice_get list position ≡ Some value
    pub its : Spells n number value

  pub is_named : (position : ℕ) (value : List ℕ) (txn : Txn) → slice_get list position ≡ Some value → txn_in value ≡ Some txn → IsOf position txn.mount txn.number
  is_named position value txn there read = record { value = value; there = there; its = record { txn = txn; spells = read; mount_is = refl; number_is = refl } }

  -- of one call alone
  pub same_call : (position n m number other : ℕ) → IsOf position n number → IsOf position m other → (n ≡ m) × (number ≡ other)
  same_call position n m number other of is =
      let value : of.value ≡ is.value = same_Some of.value is.value (sym of.there ∙ is.there) in
      let txn : of.its.txn ≡ is.its.txn = same_Some of.its.txn is.its.txn (sym of.its.spells ∙ ap txn_in value ∙ is.its.spells) in
      (sym of.its.mount_is ∙ ap (λ (t : Txn). t.mount) txn ∙ is.its.mount_is, sym of.its.number_is ∙ ap (λ (t : Txn). t.number) txn ∙ is.its.number_is)

  module _ (v : Extent) where
    abbrev pub tables_at : ℕ → Tables
    tables_at n = tables_from v (take n list)

    after_more : (t : Tables) (values : List (List ℕ)) (value : List ℕ) → after_values t (values ++ value ∷ []) ≡ value_applied (after_values t values) (txn_in value)
    after_more t [] value = refl
    after_more t (w ∷ values) value = after_more (value_applied t (txn_in w)) values value

    pub one_applied : (k : ℕ) (value : List ℕ) → slice_get list k ≡ Some value → tables_at (suc k) ≡ value_applied (tables_at k) (txn_in value)
    one_applied k value at = ap (tables_from v) (take_one_more list k value at) ∙ after_more (new_tables (size_of v / 8)) (take k list) value

    -- values that spell nothing change no tables
    pub still : (u e : ℕ) → u ≤ e → e ≤ length list → ((k : ℕ) (value : List ℕ) → u ≤ k → k < e → slice_get list k ≡ Some value → txn_in value ≡ None) → tables_at e ≡ tables_at u
    still u zero le within none = ap tables_at (let same : zero ≡ u = omega (arith, le) in same)
    still u (suc e) le within none = elim (cases_lt e u) [
      | inl past ↦ ap tables_at (let same : suc e ≡ u = omega (arith, le, past) in same)
      | inr reached ↦
          let there = something_there list e (omega (arith, within)) in
          one_applied e there.0 there.1 ∙ ap (value_applied (tables_at e)) (none e there.0 reached (omega arith) there.1)
          ∙ still u e reached (omega (arith, within)) (λ k value least low at. none k value least (omega (arith, low)) at)
    ]

-- calls are no fewer later
pub more_calls : (first more : List MountTold) (n : ℕ) → length (calls_of first n) ≤ length (calls_of (first ++ more) n)
more_calls first more n =
    let all = ap (λ (calls : List FileCall). length calls) (calls_on first more n) in
    let parts = length-append (calls_of first n) (calls_of more n) in
    omega (arith, all, parts)

abbrev pub mount_at : Layout → Extent → (done : List MountTold) → (n : ℕ) → MountIs
mount_at layout v done n = (lives layout v done n).mount

pub calls_count : (layout : Layout) (v : Extent) (done : List MountTold) (n : ℕ) → (mount_at layout v done n).files.calls ≡ length (calls_of done n)
calls_count layout v done n = (its_calls layout v n done).count

module _ (layout : Layout) (v : Extent) (told : List MountTold) (can : CanBe layout v told) (registers : HaveRegisters layout v told) (list : List (List ℕ)) (is : IsListOf layout v told list) (few : AreFewCalls told) where
  pub upto_grows : (before more after : List MountTold) (n : ℕ) → told ≡ (before ++ more) ++ after → n < 16 → (mount_at layout v before n).upto ≤ (mount_at layout v (before ++ more) n).upto
  upto_grows before more after n same low =
      let was = stands_behind layout v told can registers list is before (more ++ after) (same ∙ append_assoc before more after) n low in
      let now = stands_behind layout v told can registers list is (before ++ more) after same n low in
      let longer = decided_longer n more (lives layout v before) in
      let there = ap (λ (ls : ℕ → Life). length (ls n).decided) (lives_on (all_opened layout v) before more) in
      omega (arith, was, now, longer, there)

  -- no call has two
  pub one_position : (k other n number : ℕ) → IsOf list k n number → IsOf list other n number → k ≡ other
  one_position k other n number of it =
      once layout v told can registers list is few k other of.value it.value of.its.txn it.its.txn of.there it.there of.its.spells it.its.spells
      (of.its.mount_is ∙ sym it.its.mount_is) (of.its.number_is ∙ sym it.its.number_is)

  -- The mount was in a ballot with it there

  module _ (k n number : ℕ) (of : IsOf list k n number) where
    put : HasPutIn layout v told k of.value
    put = put_in layout v told can registers k of.value (is.decided k of.value of.there) (some_value of.value of.its.txn of.its.spells)

    names : (of.its.txn.mount ≡ put.mount) × (of.its.txn.number ≡ (mount_at layout v put.first put.mount).files.calls)
    names = put_names layout v told can registers list is few k of.value put of.its.txn of.its.spells

    mount_is : put.mount ≡ n
    mount_is = sym names.0 ∙ of.its.mount_is

    pub low : n < 16
    low = subst (λ i. i < 16) mount_is put.low

    at : (mount_at layout v put.first n).upto ≡ k
    at = ap (λ i. (mount_at layout v put.first i).upto) (sym mount_is) ∙ put.at

    works : (mount_at layout v put.first n).task.work ≡ Ballots (Some of.value)
    works = ap (λ i. (mount_at layout v put.first i).task.work) (sym mount_is) ∙ put.works

    counted : number ≡ (mount_at layout v put.first n).files.calls
    counted = sym of.its.number_is ∙ names.1 ∙ ap (λ i. (mount_at layout v put.first i).files.calls) mount_is

    pub some_number : 0 < number
    some_number =
        let plan : IsPlanned put.first n (mount_at layout v put.first n).files of.value = its_planned layout v n put.first of.value (Ballots (Some of.value)) works (λ plan. plan) in
        let some = positive (calls_of put.first n) plan.call.number plan.call.call plan.named in
        let last = plan.last in
        omega (arith, counted, some, last)

    -- where some mount stands behind the position, the call has begun
    pub begun_by_then : (before after : List MountTold) (other : ℕ) (its_low : other < 16) → told ≡ before ++ after → k < (mount_at layout v before other).upto → number ≤ length (calls_of before n)
    begun_by_then before [] other its_low same below =
        let count = calls_count layout v put.first n in
        let more = more_calls put.first put.rest n in
        let all : length (calls_of (put.first ++ put.rest) n) ≡ length (calls_of before n) = ap (λ us. length (calls_of us n)) (sym put.told_so ∙ same ∙ append-nil before) in
        omega (arith, counted, count, more, all)
    begun_by_then before (t ∷ after) other its_low same below =
        let count = calls_count layout v put.first n in
        elim (split_at put.first put.rest before t after (sym put.told_so ∙ same)) [
          | inl earlier ↦
              let more = more_calls put.first earlier.0 n in
              let all = ap (λ us. length (calls_of us n)) earlier.1 in
              omega (arith, counted, count, more, all)
          | inr later ↦
              let first_is : put.first ≡ before ++ t ∷ later.0 = later.1 ∙ append_assoc before (t ∷ []) later.0 in
              let all = ap (λ us. length (calls_of us n)) first_is in
              let parts = ap (λ (calls : List FileCall). length calls) (calls_on before (t ∷ later.0) n) in
              let sum = length-append (calls_of before n) (calls_of (t ∷ later.0) n) in
              elim (first_call (t ∷ later.0) n) [
                | inl none ↦ let zero_more = ap (λ (calls : List FileCall). length calls) none in omega (arith, counted, count, all, parts, sum, zero_more)
                | inr found ↦
                    let begins : MountTold = record { mount = n; input = Begins found.1 } in
                    let there : put.first ≡ (before ++ found.0) ++ begins ∷ found.2 = first_is ∙ ap (λ us. before ++ us) found.3 ∙ sym (append_assoc before found.0 (begins ∷ found.2)) in
                    let told_there : told ≡ (before ++ found.0) ++ begins ∷ (found.2 ++ put.rest) = put.told_so ∙ ap (λ us. us ++ put.rest) there ∙ append_assoc (before ++ found.0) (begins ∷ found.2) put.rest in
                    let work : (mount_at layout v ((before ++ found.0) ++ begins ∷ found.2) n).task.work ≡ Ballots (Some of.value) = ap (λ us. (mount_at layout v us n).task.work) (sym there) ∙ works in
                    let late =
                    call_late layout v told can registers (before ++ found.0) found.2 put.rest n found.1 told_there other its_low
                    (subst IsPlannedWork (sym work) tt) in
                    let stood : (mount_at layout v ((before ++ found.0) ++ begins ∷ found.2) n).upto ≡ k = ap (λ us. (mount_at layout v us n).upto) (sym there) ∙ at in
                    let grows = upto_grows before found.0 (begins ∷ (found.2 ++ put.rest)) other told_there its_low in
                    absurd (omega (arith, late, stood, grows, below))
              ]
        ]

    -- the mount puts in still as it decides the value
    pub puts_in : (before : List MountTold) (t : MountTold) (after : List MountTold) → told ≡ before ++ t ∷ after → (mount_at layout v before n).upto ≡ k → (mount_at layout v (before ++ t ∷ []) n).upto ≡ suc k → number ≡ (mount_at layout v before n).files.calls
        → 0 < stage (mount_at layout v before n).task.work
    puts_in before t after same here next last = elim (split_at put.first put.rest before t after (sym put.told_so ∙ same)) [
      | inl earlier ↦
          let on = onward layout v n earlier.0 (calls_of put.first n) (lives layout v put.first) (its_calls layout v n put.first) in
          let end = ap (λ us. progress (mount_at layout v us n)) earlier.1 ∙ ap (λ (ls : ℕ → Life). progress (ls n).mount) (lives_on (all_opened layout v) put.first earlier.0) in
          let far = ap (λ (work : MountWork). 3 * (mount_at layout v put.first n).files.calls + stage work) works in
          omega (arith, on, end, far, counted, last)
      | inr later ↦
          let now : List MountTold = before ++ t ∷ [] in
          let told_there : told ≡ (now ++ later.0) ++ put.rest = put.told_so ∙ ap (λ us. us ++ put.rest) later.1 in
          let grows = upto_grows now later.0 put.rest n told_there low in
          let stood : (mount_at layout v (now ++ later.0) n).upto ≡ k = ap (λ us. (mount_at layout v us n).upto) (sym later.1) ∙ at in
          absurd (omega (arith, grows, stood, next))
    ]
