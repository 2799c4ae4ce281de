-- The calls up to a position of the list are planned one after another, each on the tables at its position.
use Rattle.std.proofs.Common.{◌≡◌, ◌⊎◌, inl, inr, ℕ, zero, suc, ◌<◌, ◌≤◌, ◌||◌, Bool, true, false, not, List, [], ◌∷◌, ◌++◌, length, map, Option, Some, None, slice_get, arith, refl, sym, ap, subst, ◌∙◌, append-nil}
use Rattle.std.specs.List.{list_any}
use Rattle.std.specs.Option.{option_and_then, option_to_list}
use Rattle.std.proofs.lemmas.Bool.{cases_eq, cases_lt, false≢true}
use Rattle.std.proofs.lemmas.List.{append_assoc, map-append}
use Rattle.std.proofs.lemmas.Option.{none-some, same_Some, slice_get_within}
use Rattle.pf_entry.specs.Lists.{Every}
use Rattle.pf_entry.proofs.Lists.{every_append, every_more}
use Rattle.pf_volume.specs.Volumes.{Extent, IsVolume}
use Rattle.pf_tree_tables.specs.Tables.{Tables, applied}
use Rattle.pf_tree_tables.specs.declared.changes.Txn.{Txn}
use Rattle.pf_txn.specs.Reading.{txn_in}
use Rattle.pf_tree.specs.Held.{data_of}
use Rattle.pf_tree.specs.Trees.{Data}
use Rattle.pf_tree.specs.Calls.{FileCall}
use Rattle.pf_file_calls.specs.Calls.{value_applied, is_txn_of, planned, size_in}
use Rattle.pf_file_calls.specs.Moving.{data_moves}
use Rattle.pf_file_calls.specs.declared.answers.CallAnswer.{CallAnswer}
use Rattle.pf_file_calls.specs.declared.calls.Pending.{Pending}
use Rattle.pf_file_calls.specs.declared.calls.Planned.TheVariants.{Proposes, Goes}
use Rattle.pf_law_plans.specs.Exchanges.{Exchange}
use Rattle.pf_law_plans.specs.Named.{call_in}
use Rattle.pf_law_plans.specs.Numbered.{call_numbered}
use Rattle.pf_law_plans.proofs.Numbers.{numbered_most}
use Rattle.pf_law_plans.proofs.PlannedTransactions.{few_blocks, planned_names, read_again}
use Rattle.pf_law_contents.specs.Going.{call_done}
use Rattle.pf_law_contents.specs.Stored.{GoesSo}
use Rattle.pf_journal.specs.declared.layouts.Layout.{Layout}
use Rattle.pf_journal.specs.Layouts.{layout_of}
use Rattle.pf_mount.specs.declared.work.MountNext.TheVariants.{Done}
use Rattle.pf_law_calls.specs.Answering.{next_by}
use Rattle.pf_law_calls.proofs.EndedCalls.{begun_named, its_life, low, now_same}
use Rattle.pf_law_calls.proofs.CallReports.{plan, planned_there, put}
use Rattle.pf_law_calls.specs.Going.{HasGoneSo, IsRefusedSo, held_at}
use Rattle.pf_law_calls.specs.Since.{called, exchanges_since}
use Rattle.pf_law_calls.proofs.DataByMoment.{data_ended}
use Rattle.pf_law_calls.specs.Doings.{HaveRegisters, IsListOf}
use Rattle.pf_law_calls.specs.Lives.{Asks, Begins, CanBe, Hears, Input, Life, MountTold, all_opened, lives, mount_after, tables_from}
use Rattle.pf_law_calls.specs.Spelled.{CanAllBeSpelled}
use Rattle.pf_law_calls.specs.Trees.{AreFewCalls, call_named, calls_of, data_blocks}
use Rattle.pf_law_calls.proofs.Lists.{something_there}
use Rattle.pf_law_calls.proofs.CallNumbers.{IsLastOf, OfPending, its_calls, named_on}
use Rattle.pf_law_calls.proofs.CallWords.{named_spelled}
use Rattle.pf_law_calls.proofs.TablesByList.{mounts_stand, stands_at, tree_at}
use Rattle.pf_law_files.specs.Ordered.{calls_below, calls_up_to, has_no_call, in_place_from, calls_named_at}
use Rattle.pf_law_files.proofs.ListedCalls.{AreInOrder, EndsAt, EndsInPlace, Has, InPlace, IsBefore, IsPlace, Named, Stands, Stood, call_in_list, has_back, has_front, order_append, places}
use Rattle.pf_law_contents.specs.Planned.{ArePlannedInTurn, Changes, IsPlannedSo, PlannedCall, Stays}
use Rattle.pf_law_files.proofs.Positions.{IsOf, is_named, one_applied, some_number, tables_at}

pub any_there : {X : Type 0} → (test : X → Bool) (xs : List X) (k : ℕ) (x : X) → slice_get xs k ≡ Some x → test x ≡ true → list_any test xs ≡ true
any_there test [] k x at is = absurd (none-some x at)
any_there test (y ∷ xs) zero x at is = ap (λ b. b || list_any test xs) (ap test (same_Some y x at) ∙ is)
any_there test (y ∷ xs) (suc k) x at is = or_true (test y) (list_any test xs) (any_there test xs k x at is)
  where
    or_true : (a b : Bool) → b ≡ true → (a || b) ≡ true
    or_true true b is = refl
    or_true false b is = is

-- the call that a number names
pub numbered_there : (calls : List FileCall) (number : ℕ) → 0 < number → number ≤ length calls → (call : FileCall) × (call_numbered calls number ≡ Some call)
numbered_there calls zero some most = absurd (omega (arith, some))
numbered_there calls (suc before) some most = something_there calls before (omega (arith, most))

abbrev pub planned_of : Stood → PlannedCall
planned_of s = record { mount = s.mount; call = s.call }

module _ (layout : Layout) (v : Extent) (told : List MountTold) (can : CanBe layout v told) (registers : HaveRegisters layout v told) (list : List (List ℕ)) (is : IsListOf layout v told list) (volume : IsVolume v)
    (spelled : CanAllBeSpelled told) (few : AreFewCalls told) where
  abbrev pub d : Data
  d = data_blocks layout v

  abbrev at : ℕ → Tables
  at n = tables_at list v n

  pub data_is : (n : ℕ) → n ≤ length list → data_of (layout_of layout).first (at n) ≡ d
  data_is n within =
      let with_blocks : ℕ → Data = λ b. record { first = (layout_of layout).first; blocks = b } in
      ap with_blocks (stands_at layout v told can registers list is volume spelled few n within).blocks

  -- the transaction at a position is the plan of its call on the tables there
  pub plan_of : (k m number : ℕ) (of : IsOf list k m number) (call : FileCall) → call_named told m number ≡ Some call → planned m v d (at k) (record { number = number; call = call }) ≡ Proposes of.its.txn
  plan_of k m number of call named_here =
      let p : Pending = record { number = number; call = call } in
      let stand = stands_at layout v told can registers list is volume spelled few k (let within = slice_get_within list k of.value of.there in omega (arith, within)) in
      let its_put = put layout v told can registers list is volume spelled few m number call named_here k of.value of.there of.its in
      let its_plan = plan layout v told can registers list is volume spelled few m number call named_here k of.value of.there of.its in
      let q = its_plan.call in
      let n = its_put.mount in
      let there : planned n v d (at k) q ≡ Proposes its_plan.txn = planned_there layout v told can registers list is volume spelled few m number call named_here k of.value of.there of.its in
      let named_there : call_named told n q.number ≡ Some q.call = subst (λ us. call_named us n q.number ≡ Some q.call) (sym its_put.told_so) (named_on its_put.first its_put.rest n q.number q.call its_plan.named) in
      let names = planned_names n v d (at k) q its_plan.txn there in
      let most = numbered_most (calls_of told n) q.number q.call named_there in
      let count = few n its_put.low in
      let blocks = few_blocks v volume in
      let tags = stand.blocks in
      let again = read_again n v d (at k) q its_plan.txn (tree_at layout v told can registers list is volume spelled few k) stand (omega (arith, tags, blocks)) its_put.low (omega (arith, most, count)) (named_spelled told n q.number q.call spelled named_there) there in
      let same_txn : its_plan.txn ≡ of.its.txn = same_Some its_plan.txn of.its.txn (sym (ap txn_in its_plan.spells ∙ again) ∙ of.its.spells) in
      let mount_is : n ≡ m = sym names.0 ∙ ap (λ (t : Txn). t.mount) same_txn ∙ of.its.mount_is in
      let same_number : q.number ≡ number = sym names.1 ∙ ap (λ (t : Txn). t.number) same_txn ∙ of.its.number_is in
      let its_call : q.call ≡ call = same_Some q.call call (sym (subst (λ i. call_named told i number ≡ Some q.call) mount_is (subst (λ i. call_named told n i ≡ Some q.call) same_number named_there)) ∙ named_here) in
      let made : (number : ℕ) → FileCall → Pending = λ number its. record { number = number; call = its } in
      let call_is : q ≡ p = ap (λ i. made i q.call) same_number ∙ ap (made number) its_call in
      ap (λ i. planned i v d (at k) p) (sym mount_is) ∙ ap (λ (c : Pending). planned n v d (at k) c) (sym call_is) ∙ there ∙ ap Proposes same_txn

  pub next_of : (k m number : ℕ) (of : IsOf list k m number) → at (suc k) ≡ applied (at k) of.its.txn.changes
  next_of k m number of = one_applied list v k of.value of.there ∙ ap (value_applied (at k)) of.its.spells

  module _ (now after : List MountTold) (same : told ≡ now ++ after) where
    -- A call that ended

    module _ (time m : ℕ) (p : Pending) (answer : CallAnswer) (e : EndsAt layout v list now time m p answer) where
      abbrev t : MountTold
      t = record { mount = m; input = e.input }

      abbrev pub up_to : List MountTold
      up_to = e.first ++ t ∷ []

      pub told_there : told ≡ e.first ++ t ∷ (e.rest ++ after)
      told_there = same ∙ ap (λ us. us ++ after) e.now_is ∙ append_assoc e.first (t ∷ e.rest) after

      pub its_mount : m < 16
      its_mount = low layout v told can registers list is m e.first (e.rest ++ after) e.input told_there

      pub life_there : lives layout v up_to m ≡ (let l = lives layout v e.first m in Rattle.pf_law_calls.specs.Lives.lives_on l e.input)
      life_there = its_life layout v told can registers list is m e.first (e.rest ++ after) e.input told_there

      pub upto_there : (lives layout v up_to m).mount.upto ≡ (mount_after (lives layout v e.first m).mount e.input).upto
      upto_there = ap (λ (l : Life). l.mount.upto) life_there

      pub within_there : (lives layout v up_to m).mount.upto ≤ length list
      within_there = (mounts_stand layout v told can registers list is volume spelled few up_to (e.rest ++ after) (now_same layout v told can registers list is m e.first (e.rest ++ after) e.input told_there) m its_mount).within

      ends_number : (input : Input) → next_by (lives layout v e.first m).mount input ≡ Some (Done answer) → called (lives layout v e.first m).mount input ≡ Some p → p.number ≡ (mount_after (lives layout v e.first m).mount input).files.calls
      ends_number (Begins call) ends was = sym (ap (λ (q : Pending). q.number) (same_Some (record { number = suc (lives layout v e.first m).mount.files.calls; call = call }) p was))
      ends_number (Asks port) ends was = absurd (none-some (Done answer) ends)
      ends_number (Hears port reply) ends was =
          let named = its_calls layout v m e.first in
          let its : IsLastOf (calls_of e.first m) p = subst (OfPending (IsLastOf (calls_of e.first m))) was named.call in
          its.last ∙ sym named.count

      pub number_there : p.number ≡ (mount_after (lives layout v e.first m).mount e.input).files.calls
      number_there = ends_number e.input e.ends e.was

      ends_named : (input : Input) → e.input ≡ input → called (lives layout v e.first m).mount input ≡ Some p → call_named told m p.number ≡ Some p.call
      ends_named (Begins call) is_input was =
          let q : Pending = record { number = suc (lives layout v e.first m).mount.files.calls; call = call } in
          let of : Input → List MountTold = λ i. e.first ++ record { mount = m; input = i } ∷ (e.rest ++ after) in
          subst (λ (r : Pending). call_named told m r.number ≡ Some r.call) (same_Some q p was)
          (begun_named layout v told can registers list is m e.first (e.rest ++ after) call (told_there ∙ ap of is_input))
      ends_named (Asks port) is_input was = pending_named was
        where
          pending_named : (lives layout v e.first m).mount.files.pending ≡ Some p → call_named told m p.number ≡ Some p.call
          pending_named was =
              let its : IsLastOf (calls_of e.first m) p = subst (OfPending (IsLastOf (calls_of e.first m))) was (its_calls layout v m e.first).call in
              subst (λ us. call_named us m p.number ≡ Some p.call) (sym told_there) (named_on e.first (t ∷ (e.rest ++ after)) m p.number p.call its.named)
      ends_named (Hears port reply) is_input was =
          let its : IsLastOf (calls_of e.first m) p = subst (OfPending (IsLastOf (calls_of e.first m))) was (its_calls layout v m e.first).call in
          subst (λ us. call_named us m p.number ≡ Some p.call) (sym told_there) (named_on e.first (t ∷ (e.rest ++ after)) m p.number p.call its.named)

      pub named_there : call_named told m p.number ≡ Some p.call
      named_there = ends_named e.input refl e.was

      -- how it went
      pub ended_so : (let upto = (lives layout v up_to m).mount.upto in let h = held_at list v (layout_of layout).first upto in
          IsRefusedSo list m v (exchanges_since layout v up_to m) h p answer ⊎ HasGoneSo list m v (exchanges_since layout v up_to m) upto h p answer)
      ended_so =
          let upto = (lives layout v up_to m).mount.upto in
          let h = held_at list v (layout_of layout).first upto in
          let its = exchanges_since layout v up_to m in
          let ended = data_ended layout v told can registers list is m e.first (e.rest ++ after) e.input answer told_there e.ends in
          subst (λ q. IsRefusedSo list m v its h q answer ⊎ HasGoneSo list m v its upto h q answer) (same_Some ended.call p (sym ended.was ∙ e.was)) ended.is

    -- in place: its plan is to go on to its data, and it did
    pub record GoesInPlace (position time m : ℕ) (p : Pending) (e : EndsInPlace layout v list now position time m p) : Type 0 where
      pub plan : planned m v d (at position) p ≡ Goes (data_moves v (at position) (size_in (at position) p.call) p.call)
      pub goes : GoesSo v (at position) (data_moves v (at position) (size_in (at position) p.call) p.call) (exchanges_since layout v (up_to time m p e.answer e.at) m) e.answer

    pub goes_in_place : (position time m : ℕ) (p : Pending) (e : EndsInPlace layout v list now position time m p) → GoesInPlace position time m p e
    goes_in_place position time m p e = by (ended_so time m p e.answer e.at)
      where
        upto : ℕ
        upto = (lives layout v (up_to time m p e.answer e.at) m).mount.upto

        its : List Exchange
        its = exchanges_since layout v (up_to time m p e.answer e.at) m

        here : upto ≡ position
        here = upto_there time m p e.answer e.at ∙ e.upto

        Goes_at : ℕ → Type 0
        Goes_at n = (planned m v d (at n) p ≡ Goes (data_moves v (at n) (size_in (at n) p.call) p.call)) × GoesSo v (at n) (data_moves v (at n) (size_in (at n) p.call) p.call) its e.answer

        by : (let h = held_at list v (layout_of layout).first upto in IsRefusedSo list m v its h p e.answer ⊎ HasGoneSo list m v its upto h p e.answer) → GoesInPlace position time m p e
        by (inl refused) = absurd (none-some p.call (ap (call_done p.call) (sym refused.1) ∙ e.done))
        by (inr gone) = elim gone.begun [
          | inr changed ↦
              let any : list_any (λ value. is_txn_of m p.number (txn_in value)) list ≡ true = any_there (λ value. is_txn_of m p.number (txn_in value)) list changed.position changed.value changed.there changed.own in
              let none : not (list_any (λ value. is_txn_of m p.number (txn_in value)) list) ≡ true = subst (λ number. has_no_call list m number ≡ true) (sym (number_there time m p e.answer e.at)) e.none in
              absurd (false≢true (sym (ap not any) ∙ none))
          | inl looked ↦
              let plan_is : planned m v d (at upto) p ≡ Goes (data_moves v (at upto) gone.size p.call) = ap (λ (of : Data). planned m v of (at upto) p) (sym (data_is upto (within_there time m p e.answer e.at))) ∙ looked.plan in
              let both : Goes_at upto = (
                plan_is ∙ ap (λ size. Goes (data_moves v (at upto) size p.call)) looked.size_is,
                subst (λ size. GoesSo v (at upto) (data_moves v (at upto) size p.call) its e.answer) looked.size_is gone.goes,
              ) in
              let there = subst Goes_at here both in
              record { plan = there.0; goes = there.1 }
        ]

    -- The list

    module _ (u : ℕ) (within : u ≤ length list) (begun : (k n number : ℕ) → k < u → IsOf list k n number → number ≤ length (calls_of now n)) where
      -- each call is planned on the tables at its position, one after another
      abbrev pub IsChain : (t : Tables) → List Stood → (after : Tables) → Type 0
      IsChain t [] after = t ≡ after
      IsChain t (s ∷ ss) after = (next : Tables) × (t ≡ at s.position) × IsPlannedSo v d s.mount s.call (at s.position) next × IsChain next ss after

      chain_append : (xs ys : List Stood) (t mid after : Tables) → IsChain t xs mid → IsChain mid ys after → IsChain t (xs ++ ys) after
      chain_append [] ys t mid after a b = subst (λ (of : Tables). IsChain of ys after) (sym a) b
      chain_append (x ∷ xs) ys t mid after a b = (a.0, a.1, a.2, chain_append xs ys a.0 mid after a.3 b)

      pub in_turn : (ss : List Stood) (t after : Tables) → IsChain t ss after → ArePlannedInTurn v d t (map planned_of ss) after
      in_turn [] t after chain = chain
      in_turn (s ∷ ss) t after chain =
          (chain.0, subst (λ (of : Tables). IsPlannedSo v d s.mount s.call of chain.0) (sym chain.1) chain.2, in_turn ss chain.0 after chain.3)

      abbrev IsFirst : (n : ℕ) → Stood → Type 0
      IsFirst n s = s.position < n

      -- up to a position, or below it
      pub record CallList (low : ℕ → Type 0) (last : ℕ) (calls : List FileCall) : Type 0 where
        pub stood : List Stood
        pub are : map call_in_list stood ≡ calls
        pub each : Every (Stands layout v list now) stood
        pub positions : Every (λ (s : Stood). low s.position) stood
        pub earlier : Every (λ (s : Stood). (s.position < last) ⊎ (s.ended < length now)) stood
        pub order : AreInOrder stood
        pub chain : IsChain (at 0) stood (at last)
        pub places : (position time m : ℕ) (p : Pending) → low position → EndsInPlace layout v list now position time m p → Has stood (record { mount = m; call = p; position = position; ended = time })
        pub named : (position m number : ℕ) (call : FileCall) → position < last → IsOf list position m number → call_numbered (calls_of now m) number ≡ Some call
            → Has stood (record { mount = m; call = record { number = number; call = call }; position = position; ended = length now })

      -- those in place at one position
      place_chain : (position from : ℕ) (ss : List Stood) → Every (IsPlace layout v list now position from) ss → IsChain (at position) ss (at position)
      place_chain position from [] each = refl
      place_chain position from (s ∷ ss) each =
          let its = each.0 in
          let goes = goes_in_place s.position s.ended s.mount s.call its.its in
          let step = data_moves v (at s.position) (size_in (at s.position) s.call.call) s.call.call in
          let here : at position ≡ at s.position = ap at (sym its.there) in
          (at position, here, subst (λ (next : Tables). IsPlannedSo v d s.mount s.call (at s.position) next) (sym here) (Stays step goes.plan), place_chain position from ss each.1)

      place_stands : (position from : ℕ) (s : Stood) → IsPlace layout v list now position from s → Stands layout v list now s
      place_stands position from s is = InPlace is.its

      all_before : (position : ℕ) (Is : Stood → Type 0) → ((s r : Stood) → Is s → r.position ≡ position → IsBefore s r) → (xs ys : List Stood) → Every Is xs → Every (λ (s : Stood). s.position ≡ position) ys → Every (λ s. Every (IsBefore s) ys) xs
      all_before position Is before [] ys are there = tt
      all_before position Is before (x ∷ xs) ys are there = (one ys there, all_before position Is before xs ys are.1 there)
        where
          one : (zs : List Stood) → Every (λ (s : Stood). s.position ≡ position) zs → Every (IsBefore x) zs
          one [] there = tt
          one (z ∷ zs) there = (before x z are.0 there.0, one zs there.1)

      with_places : (position : ℕ) (calls : List FileCall) → CallList (λ k. k < position) position calls → CallList (λ k. k ≤ position) position (calls ++ in_place_from list position (all_opened layout v) now)
      with_places position calls l =
          let p = places layout v list now position in record {
            stood = l.stood ++ p.stood;
            are = map-append call_in_list l.stood p.stood ∙ ap (λ its. its ++ map call_in_list p.stood) l.are ∙ ap (λ its. calls ++ its) p.are;
            each = every_append (Stands layout v list now) l.stood p.stood l.each (every_more (IsPlace layout v list now position 0) (Stands layout v list now) (place_stands position 0) p.stood p.each);
            positions =
                every_append (λ (s : Stood). s.position ≤ position) l.stood p.stood
                (every_more (λ (s : Stood). s.position < position) (λ (s : Stood). s.position ≤ position) (λ s low. omega (arith, low)) l.stood l.positions)
                (every_more (IsPlace layout v list now position 0) (λ (s : Stood). s.position ≤ position) (λ s is. (let there = is.there in omega (arith, there))) p.stood p.each);
            earlier =
                every_append (λ (s : Stood). (s.position < position) ⊎ (s.ended < length now)) l.stood p.stood
                (every_more (λ (s : Stood). s.position < position) (λ (s : Stood). (s.position < position) ⊎ (s.ended < length now)) (λ s low. inl low) l.stood l.positions)
                (every_more (IsPlace layout v list now position 0) (λ (s : Stood). (s.position < position) ⊎ (s.ended < length now)) (λ s is. inr is.low) p.stood p.each);
            order =
                order_append l.stood p.stood l.order p.order
                (all_before position (λ (s : Stood). s.position < position) (λ s r low there. inl (omega (arith, low, there))) l.stood p.stood l.positions
                (every_more (IsPlace layout v list now position 0) (λ (s : Stood). s.position ≡ position) (λ s is. is.there) p.stood p.each));
            chain = chain_append l.stood p.stood (at 0) (at position) (at position) l.chain (place_chain position 0 p.stood p.each);
            places = λ other time m q low e. elim (cases_lt other position) [
              | inl below ↦ has_front l.stood p.stood (record { mount = m; call = q; position = other; ended = time }) (l.places other time m q below e)
              | inr past ↦
                  let here : position ≡ other = omega (arith, low, past) in
                  has_back l.stood p.stood (record { mount = m; call = q; position = other; ended = time })
                  (subst (λ k. Has p.stood (record { mount = m; call = q; position = k; ended = time })) here (p.all time m q (omega arith) (subst (λ k. EndsInPlace layout v list now k time m q) (sym here) e)))
            ];
            named = λ other m number call low of there. has_front l.stood p.stood (record { mount = m; call = record { number = number; call = call }; position = other; ended = length now }) (l.named other m number call low of there);
          }

      -- the call that the value there names, if it names one
      module _ (position : ℕ) (below : position < u) (calls : List FileCall) (l : CallList (λ k. k ≤ position) position calls) where
        abbrev value_there : (value : List ℕ) × (slice_get list position ≡ Some value)
        value_there = something_there list position (omega (arith, below, within))

        none_more : txn_in value_there.0 ≡ None → CallList (λ k. k < suc position) (suc position) (calls ++ [])
        none_more none = record {
          stood = l.stood;
          are = l.are ∙ sym (append-nil calls);
          each = l.each;
          positions = every_more (λ (s : Stood). s.position ≤ position) (λ (s : Stood). s.position < suc position) (λ s low. omega (arith, low)) l.stood l.positions;
          earlier = every_more (λ (s : Stood). s.position ≤ position) (λ (s : Stood). (s.position < suc position) ⊎ (s.ended < length now)) (λ s low. inl (omega (arith, low))) l.stood l.positions;
          order = l.order;
          chain =
              subst (IsChain (at 0) l.stood) (sym (one_applied list v position value_there.0 value_there.1 ∙ ap (value_applied (at position)) none)) l.chain;
          places = λ other time m p low e. l.places other time m p (omega (arith, low)) e;
          named = λ other m number call low of there. elim (cases_eq other position) [
            | inl here ↦
                let value : value_there.0 ≡ of.value = same_Some value_there.0 of.value (sym value_there.1 ∙ ap (slice_get list) (sym here) ∙ of.there) in
                absurd (none-some of.its.txn (sym none ∙ ap txn_in value ∙ of.its.spells))
            | inr apart ↦ l.named other m number call (omega (arith, low, apart)) of there
          ];
        }

        one_more : (txn : Txn) → txn_in value_there.0 ≡ Some txn → (call : FileCall) → call_numbered (calls_of now txn.mount) txn.number ≡ Some call → CallList (λ k. k < suc position) (suc position) (calls ++ call ∷ [])
        one_more txn reads call there = record {
          stood = l.stood ++ s ∷ [];
          are = map-append call_in_list l.stood (s ∷ []) ∙ ap (λ its. its ++ call ∷ []) l.are;
          each = every_append (Stands layout v list now) l.stood (s ∷ []) l.each (Named of there refl, tt);
          positions =
              every_append (λ (r : Stood). r.position < suc position) l.stood (s ∷ [])
              (every_more (λ (r : Stood). r.position ≤ position) (λ (r : Stood). r.position < suc position) (λ r low. omega (arith, low)) l.stood l.positions)
              ((let same : position < suc position = omega arith in same), tt);
          earlier =
              every_append (λ (r : Stood). (r.position < suc position) ⊎ (r.ended < length now)) l.stood (s ∷ [])
              (every_more (λ (r : Stood). r.position ≤ position) (λ (r : Stood). (r.position < suc position) ⊎ (r.ended < length now)) (λ r low. inl (omega (arith, low))) l.stood l.positions)
              (inl (let same : position < suc position = omega arith in same), tt);
          order = order_append l.stood (s ∷ []) l.order (tt, tt) (before_it l.stood l.earlier l.positions);
          chain = chain_append l.stood (s ∷ []) (at 0) (at position) (at (suc position)) l.chain (at (suc position), refl, planned_here, refl);
          places = λ other time m p low e. has_front l.stood (s ∷ []) (record { mount = m; call = p; position = other; ended = time }) (l.places other time m p (omega (arith, low)) e);
          named = λ other m number its low its_of its_there. elim (cases_eq other position) [
            | inr apart ↦ has_front l.stood (s ∷ []) (record { mount = m; call = record { number = number; call = its }; position = other; ended = length now }) (l.named other m number its (omega (arith, low, apart)) its_of its_there)
            | inl here ↦
                let value : value_there.0 ≡ its_of.value = same_Some value_there.0 its_of.value (sym value_there.1 ∙ ap (slice_get list) (sym here) ∙ its_of.there) in
                let txn_is : txn ≡ its_of.its.txn = same_Some txn its_of.its.txn (sym reads ∙ ap txn_in value ∙ its_of.its.spells) in
                let mount : txn.mount ≡ m = ap (λ (x : Txn). x.mount) txn_is ∙ its_of.its.mount_is in
                let same_number : txn.number ≡ number = ap (λ (x : Txn). x.number) txn_is ∙ its_of.its.number_is in
                let call_is : call ≡ its = same_Some call its (sym there ∙ ap (λ n. call_numbered (calls_of now n) txn.number) mount ∙ ap (call_numbered (calls_of now m)) same_number ∙ its_there) in
                let made : (m number : ℕ) → FileCall → (position : ℕ) → Stood = λ m number call position. record { mount = m; call = record { number = number; call = call }; position = position; ended = length now } in
                has_back l.stood (s ∷ []) (made m number its other)
                (0, ap Some (ap (λ n. made n txn.number call position) mount ∙ ap (λ n. made m n call position) same_number ∙ ap (λ c. made m number c position) call_is ∙ ap (made m number its) (sym here)))
          ];
        }
          where
            p : Pending
            p = record { number = txn.number; call = call }

            s : Stood
            s = record { mount = txn.mount; call = record { number = txn.number; call = call }; position = position; ended = length now }

            of : IsOf list position txn.mount txn.number
            of = is_named list position value_there.0 txn value_there.1 reads

            named_in_told : call_named told txn.mount txn.number ≡ Some call
            named_in_told = subst (λ us. call_named us txn.mount txn.number ≡ Some call) (sym same) (named_on now after txn.mount txn.number call there)

            planned_here : IsPlannedSo v d txn.mount (record { number = txn.number; call = call }) (at position) (at (suc position))
            planned_here = subst (λ (next : Tables). IsPlannedSo v d txn.mount (record { number = txn.number; call = call }) (at position) next) (sym (next_of position txn.mount txn.number of)) (Changes of.its.txn (plan_of position txn.mount txn.number of call named_in_told))

            before_it : (xs : List Stood) → Every (λ (r : Stood). (r.position < position) ⊎ (r.ended < length now)) xs → Every (λ (r : Stood). r.position ≤ position) xs → Every (λ r. Every (IsBefore r) (s ∷ [])) xs
            before_it [] earlier low = tt
            before_it (r ∷ xs) earlier low = (
              (
                elim earlier.0 [
                  | inl below_it ↦ inl below_it
                  | inr ended ↦ elim (cases_eq r.position position) [ inl here ↦ inr (here, ended) | inr apart ↦ inl (let least = low.0 in omega (arith, least, apart)) ]
                ],
                tt,
              ),
              before_it xs earlier.1 low.1,
            )

        named_more : CallList (λ k. k < suc position) (suc position) (calls ++ calls_named_at now list position)
        named_more =
            subst (λ o. CallList (λ k. k < suc position) (suc position) (calls ++ option_to_list (option_and_then (call_in (calls_of now)) o))) (sym value_there.1) (by (txn_in value_there.0) refl)
          where
            Of : Option Txn → Type 0
            Of o = CallList (λ k. k < suc position) (suc position) (calls ++ option_to_list (option_and_then (λ (txn : Txn). call_numbered (calls_of now txn.mount) txn.number) o))

            by : (o : Option Txn) → txn_in value_there.0 ≡ o → Of (txn_in value_there.0)
            by None none = subst Of (sym none) (none_more none)
            by (Some txn) reads =
                let of = is_named list position value_there.0 txn value_there.1 reads in
                let some = some_number layout v told can registers list is few position txn.mount txn.number of in
                let there = numbered_there (calls_of now txn.mount) txn.number some (begun position txn.mount txn.number below of) in
                subst Of (sym reads) (subst (λ o. CallList (λ k. k < suc position) (suc position) (calls ++ option_to_list o)) (sym there.1) (one_more txn reads there.0 there.1))

      pub list_below : (position : ℕ) → position ≤ u → CallList (λ k. k < position) position (calls_below layout v now list position)
      list_below zero most = record {
        stood = [];
        are = refl;
        each = tt;
        positions = tt;
        earlier = tt;
        order = tt;
        chain = refl;
        places = λ position time m p low e. absurd (omega (arith, low));
        named = λ position m number call low of there. absurd (omega (arith, low));
      }
      list_below (suc position) most =
          let here = with_places position (calls_below layout v now list position) (list_below position (omega (arith, most))) in
          let its = in_place_from list position (all_opened layout v) now in
          subst (CallList (λ k. k < suc position) (suc position)) (append_assoc (calls_below layout v now list position) its (calls_named_at now list position))
          (named_more position (omega (arith, most)) (calls_below layout v now list position ++ its) here)

      pub list_up_to : CallList (λ k. k ≤ u) u (calls_up_to layout v now list u)
      list_up_to = with_places u (calls_below layout v now list u) (list_below u (omega arith))
