-- Where calls are one at a time the list of transactions grows by one call at a time.
use Rattle.std.proofs.Common.{◌≡◌, ◌⊎◌, inl, inr, ℕ, zero, suc, ◌<◌, ◌≤◌, ◌==◌, List, [], ◌∷◌, ◌++◌, length, Option, Some, None, slice_get, arith, refl, sym, ap, subst, ◌∙◌, append-nil, length-append}
use Rattle.std.specs.List.{cons_option}
use Rattle.std.proofs.lemmas.Bool.{cases_eq, cases_lt, cond-false, cond-true, eq-eqb, ne_eqb}
use Rattle.std.proofs.lemmas.List.{append_assoc}
use Rattle.std.proofs.lemmas.Option.{same_Some}
use Rattle.pf_volume.specs.Volumes.{Extent, IsVolume}
use Rattle.pf_tree_tables.specs.Tables.{Tables, applied}
use Rattle.pf_tree_tables.specs.declared.changes.Txn.{Txn}
use Rattle.pf_tree.specs.Held.{data_of}
use Rattle.pf_tree.specs.Standing.{TablesStandFor}
use Rattle.pf_tree.specs.Trees.{Data}
use Rattle.pf_tree.specs.Calls.{FileCall}
use Rattle.pf_txn.specs.Reading.{txn_in}
use Rattle.pf_file_calls.specs.Calls.{value_applied, planned, size_in}
use Rattle.pf_file_calls.specs.Moving.{data_moves}
use Rattle.pf_file_calls.specs.declared.answers.CallAnswer.{CallAnswer}
use Rattle.pf_file_calls.specs.declared.answers.CallAnswer.TheVariants.{Refused}
use Rattle.pf_file_calls.specs.declared.answers.CallFault.{CallFault}
use Rattle.pf_file_calls.specs.declared.calls.Pending.{Pending}
use Rattle.pf_file_calls.specs.declared.calls.Planned.{Planned}
use Rattle.pf_file_calls.specs.declared.calls.Planned.TheVariants.{Refuses, Proposes, Goes}
use Rattle.pf_law_plans.specs.Exchanges.{Exchange}
use Rattle.pf_law_plans.proofs.Numbers.{numbered_most}
use Rattle.pf_law_plans.proofs.PlannedTransactions.{few_blocks, planned_names, read_again}
use Rattle.pf_law_contents.specs.Going.{CallAsks, HasNoRoom, IsDone, IsLookedUp, IsRefused}
use Rattle.pf_law_contents.specs.Stored.{GoesSo}
use Rattle.pf_journal.specs.declared.layouts.Layout.{Layout}
use Rattle.pf_journal.specs.Layouts.{layout_of}
use Rattle.pf_mount.specs.declared.work.MountWork.TheVariants.{Rests}
use Rattle.pf_mount.specs.Mounts.{MountIs}
use Rattle.pf_law_calls.specs.Late.{CallHasEnded, IsPlanned as IsPlannedWork}
use Rattle.pf_law_calls.proofs.Behind.{call_sees}
use Rattle.pf_law_calls.proofs.Below.{ended_below}
use Rattle.pf_law_calls.proofs.EndedCalls.{begun_named}
use Rattle.pf_law_calls.proofs.CallReports.{plan, planned_there, put}
use Rattle.pf_law_calls.specs.Going.{IsRefusedAs, held_at, plan_at}
use Rattle.pf_law_calls.specs.Doings.{HaveRegisters, IsListOf}
use Rattle.pf_law_calls.specs.Lives.{Begins, CanBe, CanComeFrom, MountTold, all_opened, lives}
use Rattle.pf_law_calls.specs.Spelled.{CanAllBeSpelled}
use Rattle.pf_law_calls.specs.Trees.{AreFewCalls, call_begun, call_named, calls_of, data_blocks}
use Rattle.pf_law_calls.proofs.CallNumbers.{calls_on, named_on}
use Rattle.pf_law_calls.proofs.Parts.{can_after}
use Rattle.pf_law_calls.proofs.CallWords.{named_spelled}
use Rattle.pf_law_calls.proofs.TablesByList.{mounts_stand, stands_at, tree_at}
use Rattle.pf_law_files.specs.Calls.{HaveEnded}
use Rattle.pf_law_files.proofs.Alone.{ended_rests, its_status}
use Rattle.pf_law_files.proofs.CallProgress.{Ends, EndsOwn, EndsPlain}
use Rattle.pf_law_files.proofs.Positions.{IsOf, begun_by_then, calls_count, is_named, low, more_calls, mount_at, one_applied, one_position, same_call, some_number, still, tables_at}

-- the next call of mount m
abbrev pub next_call : Layout → Extent → (earlier : List MountTold) → (m : ℕ) → FileCall → Pending
next_call layout v earlier m call = record { number = suc (mount_at layout v earlier m).files.calls; call = call }

module _ (list : List (List ℕ)) where
  -- the transactions of the calls that have begun, where all have ended, are among the first so many, and the last of these is one
  pub record AreBelow (done : List MountTold) (upto : ℕ) : Type 0 where
    pub below : (k n number : ℕ) → IsOf list k n number → number ≤ length (calls_of done n) → k < upto
    pub last : (k : ℕ) → upto ≡ suc k → (n : ℕ) × (number : ℕ) × IsOf list k n number × (number ≤ length (calls_of done n))

  -- one call more has ended, behind so many
  pub record Grows (v : Extent) (d : Data) (now : List MountTold) (m : ℕ) (p : Pending) (its : List Exchange) (answer : CallAnswer) (was : ℕ) : Type 0 where
    pub upto : ℕ
    pub asks : CallAsks v d m p (tables_at list v was) (tables_at list v upto) its answer
    pub are : AreBelow now upto

module _ (layout : Layout) (v : Extent) (told : List MountTold) (can : CanBe layout v told) (registers : HaveRegisters layout v told) (list : List (List ℕ)) (is : IsListOf layout v told list) (volume : IsVolume v)
    (spelled : CanAllBeSpelled told) (few : AreFewCalls told) where
  abbrev d : Data
  d = data_blocks layout v

  abbrev at : ℕ → Tables
  at n = tables_at list v n

  module _ (earlier mid after : List MountTold) (m : ℕ) (call : FileCall) (same : told ≡ earlier ++ record { mount = m; input = Begins call } ∷ (mid ++ after)) (quiet : (n : ℕ) → calls_of mid n ≡ [])
      (rested : HaveEnded layout v earlier) (u : ℕ) (are : AreBelow list earlier u) where
    abbrev begins : MountTold
    begins = record { mount = m; input = Begins call }

    abbrev now : List MountTold
    now = earlier ++ begins ∷ mid

    abbrev p : Pending
    p = next_call layout v earlier m call

    abbrev x : MountIs
    x = (lives layout v now m).mount

    abbrev e : ℕ
    e = x.upto

    now_same : told ≡ now ++ after
    now_same = same ∙ sym (append_assoc earlier (begins ∷ mid) after)

    come : CanComeFrom (lives layout v earlier) (begins ∷ (mid ++ after))
    come = can_after (all_opened layout v) earlier (begins ∷ (mid ++ after)) (subst (CanBe layout v) same can)

    small : m < 16
    small = come.0.number

    -- Calls are counted

    calls_now : (n : ℕ) → calls_of now n ≡ calls_of earlier n ++ cons_option (call_begun n begins) []
    calls_now n = calls_on earlier (begins ∷ mid) n ∙ ap (λ calls. calls_of earlier n ++ cons_option (call_begun n begins) calls) (quiet n)

    count_other : (n : ℕ) → (n ≡ m → ⊥) → length (calls_of now n) ≡ length (calls_of earlier n)
    count_other n apart =
        let none : call_begun n begins ≡ None = cond-false (n == m) (Some call) None (ne_eqb n m apart) in
        ap (λ (calls : List FileCall). length calls) (calls_now n ∙ ap (λ o. calls_of earlier n ++ cons_option o []) none ∙ append-nil (calls_of earlier n))

    count_own : length (calls_of now m) ≡ suc (length (calls_of earlier m))
    count_own =
        let one : call_begun m begins ≡ Some call = cond-true (m == m) (Some call) None (eq-eqb m m refl) in
        let all = ap (λ (calls : List FileCall). length calls) (calls_now m ∙ ap (λ o. calls_of earlier m ++ cons_option o []) one) in
        let parts = length-append (calls_of earlier m) (call ∷ []) in
        omega (arith, all, parts)

    number_is : p.number ≡ suc (length (calls_of earlier m))
    number_is = let count = calls_count layout v earlier m in omega (arith, count)

    own_begun : p.number ≤ length (calls_of now m)
    own_begun = omega (arith, number_is, count_own)

    -- a call that has begun had begun before, or is this one
    either : (k n number : ℕ) → IsOf list k n number → number ≤ length (calls_of now n) → (k < u) ⊎ ((n ≡ m) × (number ≡ p.number))
    either k n number of begun = elim (cases_eq n m) [
      | inl own ↦
          let begun_there : number ≤ length (calls_of now m) = subst (λ i. number ≤ length (calls_of now i)) own begun in
          elim (cases_lt (length (calls_of earlier m)) number) [
            | inl last ↦ inr (own, omega (arith, last, begun_there, count_own, number_is))
            | inr before ↦ inl (are.below k n number of (subst (λ i. number ≤ length (calls_of earlier i)) (sym own) before))
          ]
      | inr apart ↦ let count = count_other n apart in inl (are.below k n number of (omega (arith, begun, count)))
    ]

    -- Where its mount stands as it has ended

    module _ (ended : HaveEnded layout v now) where
      rests : x.task.work ≡ Rests
      rests = ended_rests x (its_status layout v now m) (ended m small) (let count = calls_count layout v now m in omega (arith, count, count_own))

      planned_late : IsPlannedWork x.task.work
      planned_late = subst IsPlannedWork (sym rests) tt

      seen : (k n number : ℕ) → IsOf list k n number → number ≤ length (calls_of earlier n) → k < e
      seen k n number of begun =
          let y = mount_at layout v earlier n in
          let count = calls_count layout v earlier n in
          let some = some_number layout v told can registers list is few k n number of in
          let low_n = low layout v told can registers list is few k n number of in
          let back = append-nil earlier in
          let work = ended_rests y (its_status layout v earlier n) (rested n low_n) (omega (arith, count, some, begun)) in
          let has : CallHasEnded y number = elim (cases_lt number y.files.calls) [
            | inl less ↦ inl less
            | inr last ↦ inr (omega (arith, last, begun, count), work)
          ] in
          subst (λ us. k < (lives layout v (us ++ begins ∷ mid) m).mount.upto) back
          (call_sees layout v told can registers list is few earlier [] mid after n m call (subst (λ us. told ≡ us ++ begins ∷ (mid ++ after)) (sym back) same)
          (subst (λ us. IsPlannedWork (lives layout v (us ++ begins ∷ mid) m).mount.task.work) (sym back) planned_late) low_n k of.value of.its.txn of.there of.its.spells of.its.mount_is
          (subst (CallHasEnded y) (sym of.its.number_is) has))

      reached : u ≤ e
      reached = by u refl
        where
          by : (k : ℕ) → u ≡ k → u ≤ e
          by zero none = omega (arith, none)
          by (suc k) some = let last = are.last k some in let below = seen k last.0 last.1 last.2 last.3 in omega (arith, some, below)

      within : e ≤ length list
      within = (mounts_stand layout v told can registers list is volume spelled few now after now_same m small).within

      -- what stands between is of the call
      between : (k : ℕ) (value : List ℕ) (txn : Txn) → u ≤ k → k < e → slice_get list k ≡ Some value → txn_in value ≡ Some txn → IsOf list k m p.number
      between k value txn least less there read =
          let of = is_named list k value txn there read in
          let begun = begun_by_then layout v told can registers list is few k txn.mount txn.number of now after m small now_same less in
          elim (either k txn.mount txn.number of begun) [
            | inl below ↦ absurd (omega (arith, below, least))
            | inr own ↦ subst (λ i. IsOf list k i p.number) own.0 (subst (λ number. IsOf list k txn.mount number) own.1 of)
          ]

      same_tables : (stop : ℕ) → u ≤ stop → stop ≤ e → ((k : ℕ) → k < stop → IsOf list k m p.number → ⊥) → at stop ≡ at u
      same_tables stop least most none = still list v u stop least (omega (arith, most, within)) (λ k value from less there. by k value from less there (txn_in value) refl)
        where
          by : (k : ℕ) (value : List ℕ) → u ≤ k → k < stop → slice_get list k ≡ Some value → (txn : Option Txn) → txn_in value ≡ txn → txn_in value ≡ None
          by k value from less there None read = read
          by k value from less there (Some txn) read = absurd (none k less (between k value txn from (omega (arith, less, most)) there read))

      -- each transaction of it is below
      own_below : (k : ℕ) → IsOf list k m p.number → k < e
      own_below k of =
          let count = calls_count layout v now m in
          ended_below layout v told can registers list is few now after m now_same small k of.value of.its.txn of.there of.its.spells of.its.mount_is
          (inr (of.its.number_is ∙ omega (arith, number_is, count_own, count), rests))

      of_own : (k n number : ℕ) → IsOf list k n number → n ≡ m → number ≡ p.number → IsOf list k m p.number
      of_own k n number of mount_is is_number = subst (λ i. IsOf list k i p.number) mount_is (subst (λ i. IsOf list k n i) is_number of)

      module _ (its : List Exchange) (answer : CallAnswer) where
        abbrev first : ℕ
        first = (layout_of layout).first

        -- It changes nothing

        module _ (plain : EndsPlain list v m p first e its answer) where
          tables : at e ≡ at u
          tables = same_tables e reached (omega arith) plain.none

          data_is : data_of first (at e) ≡ d
          data_is =
              let with_blocks : ℕ → Data = λ b. record { first = first; blocks = b } in
              ap with_blocks (stands_at layout v told can registers list is volume spelled few e within).blocks

          abbrev plan_here : Planned
          plan_here = plan_at list m v (held_at list v first e) p

          plan_is : planned m v d (at e) p ≡ plan_here
          plan_is = ap (λ (of : Data). planned m v of (at e) p) (sym data_is)

          abbrev AsksNone : List Exchange → CallAnswer → Type 0
          AsksNone came of = CallAsks v d m p (at e) (at e) came of

          refused_by : (fault : CallFault) (planned_as : Planned) → plan_here ≡ planned_as → answer ≡ Refused fault → IsRefusedAs planned_as fault → its ≡ [] → AsksNone its answer
          refused_by fault (Refuses other) is_plan answer_is refused none =
              subst (λ came. AsksNone came answer) (sym none) (subst (AsksNone []) (sym (answer_is ∙ ap Refused (sym refused))) (IsRefused other (plan_is ∙ is_plan)))
          refused_by fault (Proposes txn) is_plan answer_is refused none =
              subst (λ came. AsksNone came answer) (sym none) (subst (AsksNone []) (sym (answer_is ∙ ap Refused refused)) (HasNoRoom txn (plan_is ∙ is_plan)))
          refused_by fault (Goes step) is_plan answer_is refused none = absurd refused

          asks_there : AsksNone its answer
          asks_there = elim plain.how [
            | inl refused ↦ refused_by refused.0 plan_here refl refused.1 refused.2 refused.3
            | inr looked ↦ IsLookedUp (data_moves v (at e) plain.size p.call) its answer (plan_is ∙ looked.0.plan) looked.1
          ]

          plain_grows : Grows list v d now m p its answer u
          plain_grows = record {
            upto = u;
            asks = subst (λ (t : Tables). CallAsks v d m p t t its answer) tables asks_there;
            are = record {
              below = λ k n number of begun. elim (either k n number of begun) [
                | inl less ↦ less
                | inr own ↦ let its_own = of_own k n number of own.0 own.1 in absurd (plain.none k (own_below k its_own) its_own)
              ];
              last = λ k end. let last = are.last k end in let more = more_calls earlier (begins ∷ mid) last.0 in let begun = last.3 in (last.0, last.1, last.2, omega (arith, begun, more));
            };
          }

        -- Its transaction is the last

        module _ (own : EndsOwn list v m p e its answer) where
          abbrev k : ℕ
          k = own.position

          only : (other : ℕ) → IsOf list other m p.number → other ≡ k
          only other of = one_position layout v told can registers list is few other k m p.number of own.own

          behind : u ≤ k
          behind = elim (cases_lt k u) [
            | inr most ↦ most
            | inl less ↦
                let at_end = own.last_is in
                let last = are.last k (omega (arith, less, reached, at_end)) in
                let same_one = same_call list k last.0 m last.1 p.number last.2 own.own in
                let begun : last.1 ≤ length (calls_of earlier m) = subst (λ i. last.1 ≤ length (calls_of earlier i)) same_one.0 last.3 in
                let number = same_one.1 in
                absurd (omega (arith, begun, number, number_is))
          ]

          tables_before : at k ≡ at u
          tables_before = let at_end = own.last_is in same_tables k behind (omega (arith, at_end)) (λ other less of. let there = only other of in omega (arith, less, there))

          named_here : call_named told m p.number ≡ Some call
          named_here = begun_named layout v told can registers list is m earlier (mid ++ after) call same

          abbrev value : List ℕ
          value = own.own.value

          abbrev txn : Txn
          txn = own.own.its.txn

          stand : TablesStandFor d (at k) (tree_at layout v told can registers list is volume spelled few k)
          stand = let at_end = own.last_is in stands_at layout v told can registers list is volume spelled few k (omega (arith, at_end, within))

          plan_there : planned m v d (at k) p ≡ Proposes txn
          plan_there =
              let its_put = put layout v told can registers list is volume spelled few m p.number call named_here k value own.own.there own.own.its in
              let its_plan = plan layout v told can registers list is volume spelled few m p.number call named_here k value own.own.there own.own.its in
              let q = its_plan.call in
              let n = its_put.mount in
              let there : planned n v d (at k) q ≡ Proposes its_plan.txn = planned_there layout v told can registers list is volume spelled few m p.number call named_here k value own.own.there own.own.its in
              let named_there : call_named told n q.number ≡ Some q.call = subst (λ us. call_named us n q.number ≡ Some q.call) (sym its_put.told_so) (named_on its_put.first its_put.rest n q.number q.call its_plan.named) in
              let names = planned_names n v d (at k) q its_plan.txn there in
              let most = numbered_most (calls_of told n) q.number q.call named_there in
              let count = few n its_put.low in
              let blocks = few_blocks v volume in
              let tags = stand.blocks in
              let again = read_again n v d (at k) q its_plan.txn (tree_at layout v told can registers list is volume spelled few k) stand (omega (arith, tags, blocks)) its_put.low (omega (arith, most, count)) (named_spelled told n q.number q.call spelled named_there) there in
              let same_txn : its_plan.txn ≡ txn = same_Some its_plan.txn txn (sym (ap txn_in its_plan.spells ∙ again) ∙ own.own.its.spells) in
              let mount_is : n ≡ m = sym names.0 ∙ ap (λ (t : Txn). t.mount) same_txn ∙ own.own.its.mount_is in
              let number : q.number ≡ p.number = sym names.1 ∙ ap (λ (t : Txn). t.number) same_txn ∙ own.own.its.number_is in
              let its_call : q.call ≡ call = same_Some q.call call (sym (subst (λ i. call_named told i p.number ≡ Some q.call) mount_is (subst (λ i. call_named told n i ≡ Some q.call) number named_there)) ∙ named_here) in
              let of : (number : ℕ) → FileCall → Pending = λ number its. record { number = number; call = its } in
              let call_is : q ≡ p = ap (λ i. of i q.call) number ∙ ap (of p.number) its_call in
              ap (λ i. planned i v d (at k) p) (sym mount_is) ∙ ap (λ (c : Pending). planned n v d (at k) c) (sym call_is) ∙ there ∙ ap Proposes same_txn

          next : at (suc k) ≡ applied (at k) txn.changes
          next = one_applied list v k value own.own.there ∙ ap (value_applied (at k)) own.own.its.spells

          own_grows : Grows list v d now m p its answer u
          own_grows = record {
            upto = suc k;
            asks =
                subst (λ (t : Tables). CallAsks v d m p t (at (suc k)) its answer) tables_before
                (subst (λ (t : Tables). CallAsks v d m p (at k) t its answer) (sym next)
                (IsDone txn its answer plan_there (subst (λ (t : Tables). GoesSo v t (data_moves v t (size_in (at k) p.call) p.call) its answer) next own.goes)));
            are = record {
              below = λ other n number of begun. elim (either other n number of begun) [
                | inl less ↦ omega (arith, less, behind)
                | inr its_own ↦ let there = only other (of_own other n number of its_own.0 its_own.1) in omega (arith, there)
              ];
              last = λ other end. let here : k ≡ other = omega (arith, end) in (m, p.number, subst (λ i. IsOf list i m p.number) here own.own, own_begun);
            };
          }

        pub grows : Ends list v m p first e its answer → Grows list v d now m p its answer u
        grows (inl plain) = plain_grows plain
        grows (inr own) = own_grows own
