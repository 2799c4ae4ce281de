-- Calls that touch a block are apart in time, and stand in the list in the order in which they went.
use Rattle.std.proofs.Common.{◌≡◌, ◌⊎◌, inl, inr, ℕ, zero, suc, ◌<◌, ◌≤◌, true, not, List, [], ◌∷◌, ◌++◌, drop, length, take, Some, None, slice_get, arith, refl, sym, ap, subst, ◌∙◌}
use Rattle.std.specs.List.{list_any}
use Rattle.std.proofs.lemmas.Bool.{cases_eq, cases_lt, false≢true}
use Rattle.std.proofs.lemmas.List.{append_assoc, length-append, take-append-drop}
use Rattle.std.proofs.lemmas.Option.{none-some, slice_get_within}
use Rattle.pf_volume.specs.Volumes.{Extent, IsVolume}
use Rattle.pf_txn.specs.Reading.{txn_in}
use Rattle.pf_file_calls.specs.Calls.{is_txn_of}
use Rattle.pf_file_calls.specs.declared.answers.CallAnswer.{CallAnswer}
use Rattle.pf_file_calls.specs.declared.calls.Pending.{Pending}
use Rattle.pf_law_plans.proofs.Lists.{take_one_more}
use Rattle.pf_law_plans.proofs.Numbers.{named}
use Rattle.pf_journal.specs.declared.layouts.Layout.{Layout}
use Rattle.pf_journal.specs.Layouts.{VolumeHasRoom}
use Rattle.pf_mount.specs.declared.work.MountNext.TheVariants.{Done}
use Rattle.pf_mount.specs.declared.work.MountWork.TheVariants.{Rests}
use Rattle.pf_mount.specs.Mounts.{MountIs}
use Rattle.pf_law_calls.specs.Answering.{next_by}
use Rattle.pf_law_calls.specs.Late.{IsPlanned as IsPlannedWork}
use Rattle.pf_law_calls.proofs.Behind.{call_late}
use Rattle.pf_law_calls.proofs.Below.{ended_below}
use Rattle.pf_law_calls.specs.Since.{called}
use Rattle.pf_law_calls.proofs.DataByMoment.{data_ended}
use Rattle.pf_law_calls.specs.Doings.{HaveRegisters, IsListOf}
use Rattle.pf_law_calls.specs.Lives.{Asks, Begins, Hears, Input, MountTold, lives, mount_after}
use Rattle.pf_law_calls.specs.Spelled.{CanAllBeSpelled}
use Rattle.pf_law_calls.specs.Trees.{AreFewCalls, calls_of}
use Rattle.pf_law_homes.specs.Chunks.{ChunkGroups}
use Rattle.pf_law_homes.specs.Routed.{AreRoutedChunks}
use Rattle.pf_law_events.specs.Events.{MountsAreServed, Happening, port_events, mounts_told}
use Rattle.pf_law_files.specs.Ordered.{EndedBefore, has_no_call}
use Rattle.pf_law_files.proofs.Alone.{ended_rests, its_status}
use Rattle.pf_law_files.proofs.PlannedChains.{any_there, number_there}
use Rattle.pf_law_files.proofs.CallTimes.{BeginsThen, EndsThen, at_time, begun_before, count, count_begun, count_grows, life_next, prefix_is, quiet_after, stands_there, take_more}
use Rattle.pf_law_files.proofs.ListedCalls.{EndsInPlace, InPlace, IsBefore, Named, Stands, Stood}
use Rattle.pf_law_files.proofs.Positions.{IsOf, begun_by_then, calls_count, mount_at, one_position, some_number, upto_grows}
use Rattle.pf_law_files.proofs.SerialAsks.{at_place}
use Rattle.pf_law_files.proofs.BlockTimes.{mount_low}

module _ (layout : Layout) (v : Extent) (volume : IsVolume v) (room : VolumeHasRoom layout v) (list : List (List ℕ)) (groups : (chunk : ℕ) → ChunkGroups) (hs : List Happening) (are : MountsAreServed layout v hs) (registers : HaveRegisters layout v (mounts_told hs))
    (is : IsListOf layout v (mounts_told hs) list) (all_routed : AreRoutedChunks v groups (port_events layout v hs)) (spelled : CanAllBeSpelled (mounts_told hs)) (few : AreFewCalls (mounts_told hs)) (now after : List MountTold) (same : mounts_told hs ≡ now ++ after) where
  abbrev told : List MountTold
  told = mounts_told hs

  abbrev x_at : (k m : ℕ) → MountIs
  x_at k m = at_time layout v told k m

  abbrev Begun : (time m number : ℕ) → Type 0
  Begun time m number = BeginsThen layout v told time m number

  abbrev pub Over : (time m number : ℕ) (p : Pending) (answer : CallAnswer) → Type 0
  Over time m number p answer = EndsThen layout v told time m number p answer

  now_most : length now ≤ length told
  now_most = (let size = ap (λ (us : List MountTold). length us) same ∙ length-append now after in omega (arith, size))

  -- what was told so far is the beginning of all
  pub take_now : (k : ℕ) → k ≤ length now → take k now ≡ take k told
  take_now k le = sym (ap (take k) same ∙ front k now after le)
    where
      front : (k : ℕ) (xs ys : List MountTold) → k ≤ length xs → take k (xs ++ ys) ≡ take k xs
      front zero xs ys le = refl
      front (suc k) [] ys le = absurd (omega (arith, le))
      front (suc k) (x ∷ xs) ys le = ap (λ zs. x ∷ zs) (front k xs ys (omega (arith, le)))

  there_now : (xs : List MountTold) (t : MountTold) (ys : List MountTold) → now ≡ xs ++ t ∷ ys → (slice_get told (length xs) ≡ Some t) × (take (length xs) told ≡ xs) × (length xs < length now)
  there_now xs t ys is_now =
      let all : told ≡ xs ++ t ∷ (ys ++ after) = same ∙ ap (λ us. us ++ after) is_now ∙ append_assoc xs (t ∷ ys) after in
      let size = ap (λ (us : List MountTold). length us) is_now ∙ length-append xs (t ∷ ys) in
      (stands_there told xs t (ys ++ after) all, prefix_is told xs (t ∷ (ys ++ after)) all, omega (arith, size))

  -- A call that ended

  pub ends_then : (time m number : ℕ) (input : Input) (answer : CallAnswer) → slice_get told time ≡ Some (record { mount = m; input = input }) → next_by (x_at time m) input ≡ Some (Done answer) → count layout v told (suc time) m ≡ number → (p : Pending) × Over time m number p answer
  ends_then time m number input answer at ends number_is =
      let t : MountTold = record { mount = m; input = input } in
      let ended = data_ended layout v told are.can_be registers list is m (take time told) (drop (suc time) told) input answer (at_place told time t at) ends in
      (ended.call, record { input = input; there = at; ends = ends; was = ended.was; number_is = number_is })

  pub record IsOver (m number n other : ℕ) : Type 0 where
    pub ended : ℕ
    pub call : Pending
    pub answer : CallAnswer
    pub over : Over ended m number call answer
    pub began : ℕ
    pub begun : Begun began n other
    pub before : ended < began
    pub low : began < length now

  pub is_over : (m number n other : ℕ) → EndedBefore layout v now m number n other → IsOver m number n other
  is_over m number n other e =
      let t : MountTold = record { mount = m; input = e.input } in
      let b : MountTold = record { mount = n; input = Begins e.call } in
      let first_there = there_now e.first t (e.mid ++ b ∷ e.last) (e.so ∙ append_assoc e.first (t ∷ e.mid) (b ∷ e.last)) in
      let later_there = there_now (e.first ++ t ∷ e.mid) b e.last e.so in
      let time = length e.first in
      let next : take (suc time) told ≡ e.first ++ t ∷ [] = take_one_more told time t first_there.0 ∙ ap (λ us. us ++ t ∷ []) first_there.1 in
      let its =
      ends_then time m number e.input e.answer first_there.0 (ap (λ us. next_by (lives layout v us m).mount e.input) first_there.1 ∙ e.ends)
      (ap (λ us. length (calls_of us m)) next ∙ e.number_is) in
      let size = length-append e.first (t ∷ e.mid) in
      record {
        ended = time;
        call = its.0;
        answer = e.answer;
        over = its.1;
        began = length (e.first ++ t ∷ e.mid);
        begun = record { call = e.call; there = later_there.0; number_is = ap (λ us. suc (length (calls_of us n))) later_there.1 ∙ e.other_is };
        before = omega (arith, size);
        low = later_there.2;
      }

  mount_of : (time m : ℕ) (input : Input) → slice_get told time ≡ Some (record { mount = m; input = input }) → m < 16
  mount_of time m input at = mount_low layout v volume room list groups hs are registers is all_routed time (record { mount = m; input = input }) at

  -- a call that has ended rests
  pub over_rests : (time m number : ℕ) (p : Pending) (answer : CallAnswer) → Over time m number p answer → 0 < number → (x_at (suc time) m).task.work ≡ Rests
  over_rests time m number p answer o some =
      let low = slice_get_within told time (record { mount = m; input = o.input }) o.there in
      let number_is = o.number_is in
      let none = quiet_after layout v told are.can_be registers list is time m number p answer o (suc time) (omega arith) (omega (arith, low)) (omega (arith, number_is)) in
      let calls = calls_count layout v (take (suc time) told) m in
      ended_rests (x_at (suc time) m) (its_status layout v (take (suc time) told) m) none (omega (arith, calls, number_is, some))

  -- an end is one
  pub over_once : (time other m number : ℕ) (p q : Pending) (answer its : CallAnswer) → Over time m number p answer → Over other m number q its → time ≡ other
  over_once time other m number p q answer its a b = elim (cases_lt time other) [
    | inl sooner ↦ absurd (later time other p q answer its a b sooner)
    | inr not_sooner ↦ elim (cases_lt other time) [ inl past ↦ absurd (later other time q p its answer b a past) | inr not_past ↦ omega (arith, not_sooner, not_past) ]
  ]
    where
      later : (time other : ℕ) (p q : Pending) (answer its : CallAnswer) → Over time m number p answer → Over other m number q its → time < other → ⊥
      later time other p q answer its a b sooner =
          let low = slice_get_within told other (record { mount = m; input = b.input }) b.there in
          let number_is = b.number_is in
          let grows = count_grows layout v told other (suc other) m (omega arith) in
          let none = quiet_after layout v told are.can_be registers list is time m number p answer a other sooner (omega (arith, low)) (omega (arith, grows, number_is)) in
          still b.input refl none
        where
          still : (input : Input) → b.input ≡ input → (x_at other m).files.pending ≡ None → ⊥
          still (Begins call) is_input none =
              let of : Input → MountTold = λ i. record { mount = m; input = i } in
              let first_is = a.number_is in
              let second_is = b.number_is in
              let grows = count_grows layout v told (suc time) other m (omega (arith, sooner)) in
              let more = count_begun layout v told other m call (b.there ∙ ap (λ i. Some (of i)) is_input) in
              omega (arith, first_is, second_is, grows, more)
          still (Asks port) is_input none = none-some q (sym none ∙ ap (called (x_at other m)) (sym is_input) ∙ b.was)
          still (Hears port reply) is_input none = none-some q (sym none ∙ ap (called (x_at other m)) (sym is_input) ∙ b.was)

  -- What calls of the list have to do with positions

  pub upto_at : (k other m : ℕ) → m < 16 → k ≤ other → (x_at k m).upto ≤ (x_at other m).upto
  upto_at k other m small le =
      let more = take_more told k other le in
      let rest : told ≡ (take k told ++ more.0) ++ drop other told = sym (take-append-drop other told) ∙ ap (λ us. us ++ drop other told) more.1 in
      let grows = upto_grows layout v told are.can_be registers list is few (take k told) more.0 (drop other told) m rest small in
      let same_end = ap (λ us. (mount_at layout v us m).upto) more.1 in
      omega (arith, grows, same_end)

  -- in place: its end
  pub place_over : (position time m : ℕ) (p : Pending) (e : EndsInPlace layout v list now position time m p) → Over time m p.number p e.answer × ((x_at (suc time) m).upto ≡ position) × (time < length now)
  place_over position time m p e =
      let t : MountTold = record { mount = m; input = e.at.input } in
      let at = there_now e.at.first t e.at.rest e.at.now_is in
      let there : slice_get told time ≡ Some t = ap (slice_get told) (sym e.at.time_is) ∙ at.0 in
      let before : take time told ≡ e.at.first = ap (λ k. take k told) (sym e.at.time_is) ∙ at.1 in
      let life = life_next layout v told are.can_be registers list is time m e.at.input there in
      let calls = calls_count layout v (take (suc time) told) m in
      let number_is = number_there layout v told are.can_be registers list is volume spelled few now after same time m p e.answer e.at in
      let same_calls : (x_at (suc time) m).files.calls ≡ p.number = ap (λ (x : MountIs). x.files.calls) life ∙ ap (λ us. (mount_after (lives layout v us m).mount e.at.input).files.calls) before ∙ sym number_is in
      let size = at.2 in
      let time_is = e.at.time_is in (
        record {
          input = e.at.input;
          there = there;
          ends = ap (λ us. next_by (lives layout v us m).mount e.at.input) before ∙ e.at.ends;
          was = ap (λ us. called (lives layout v us m).mount e.at.input) before ∙ e.at.was;
          number_is = omega (arith, calls, same_calls);
        },
        ap (λ (x : MountIs). x.upto) life ∙ ap (λ us. (mount_after (lives layout v us m).mount e.at.input).upto) before ∙ e.upto,
        omega (arith, size, time_is),
      )

  abbrev IsStanding : Stood → Type 0
  IsStanding s = Stands layout v list now s

  -- where it ended the mount stands at the call's position, or behind it
  pub ended_at : (s : Stood) → IsStanding s → (time : ℕ) (p : Pending) (answer : CallAnswer) → Over time s.mount s.call.number p answer
      → ((s.position ≡ (x_at (suc time) s.mount).upto) × (s.ended ≡ time)) ⊎ ((s.position < (x_at (suc time) s.mount).upto) × (s.ended ≡ length now))
  ended_at s (InPlace e) time p answer o =
      let its = place_over s.position s.ended s.mount s.call e in
      let once = over_once s.ended time s.mount s.call.number s.call p e.answer answer its.0 o in
      inl (sym its.1 ∙ ap (λ k. (x_at (suc k) s.mount).upto) once, once)
  ended_at s (Named of named_so end) time p answer o =
      let small = mount_of time s.mount o.input o.there in
      let some = some_number layout v told are.can_be registers list is few s.position s.mount s.call.number of in
      let calls = calls_count layout v (take (suc time) told) s.mount in
      let number_is = o.number_is in
      let rest : told ≡ take (suc time) told ++ drop (suc time) told = sym (take-append-drop (suc time) told) in
      let its_number = of.its.number_is in
      inr (
        ended_below layout v told are.can_be registers list is few (take (suc time) told) (drop (suc time) told) s.mount rest small s.position of.value of.its.txn of.there of.its.spells of.its.mount_is
            (inr (omega (arith, its_number, calls, number_is), over_rests time s.mount s.call.number p answer o some)),
        end,
      )

  -- a call of the list stands no lower than any mount did as it began
  pub planned_late : (r : Stood) → IsStanding r → (began : ℕ) → Begun began r.mount r.call.number → (n : ℕ) → n < 16 → (x_at began n).upto ≤ r.position
  planned_late r (Named of named_so end) began b n small = elim (cases_lt r.position (x_at began n).upto) [
    | inr past ↦ past
    | inl below ↦
        let begun = begun_by_then layout v told are.can_be registers list is few r.position r.mount r.call.number of (take began told) (drop began told) n small (sym (take-append-drop began told)) below in
        let number_is = b.number_is in
        absurd (omega (arith, begun, number_is))
  ]
  planned_late r (InPlace e) began b n small =
      let its = place_over r.position r.ended r.mount r.call e in
      let number_is = b.number_is in
      let end_is = its.0.number_is in
      let t : MountTold = record { mount = r.mount; input = Begins b.call } in
      let later = begun_before layout v told began (suc r.ended) r.mount r.call.number b (omega (arith, end_is)) in
      let more = take_more told (suc began) (suc r.ended) later in
      let whole : take (suc r.ended) told ≡ take began told ++ t ∷ more.0 = more.1 ∙ ap (λ us. us ++ more.0) (take_one_more told began t b.there) ∙ append_assoc (take began told) (t ∷ []) more.0 in
      let all : told ≡ take began told ++ t ∷ (more.0 ++ drop (suc r.ended) told) =
      sym (take-append-drop (suc r.ended) told) ∙ ap (λ us. us ++ drop (suc r.ended) told) whole ∙ append_assoc (take began told) (t ∷ more.0) (drop (suc r.ended) told) in
      let rests = over_rests r.ended r.mount r.call.number r.call e.answer its.0 (omega (arith, number_is)) in
      let work : (mount_at layout v (take began told ++ t ∷ more.0) r.mount).task.work ≡ Rests = ap (λ us. (mount_at layout v us r.mount).task.work) (sym whole) ∙ rests in
      let late = call_late layout v told are.can_be registers (take began told) more.0 (drop (suc r.ended) told) r.mount b.call all n small (subst IsPlannedWork (sym work) tt) in
      let at_end = ap (λ us. (mount_at layout v us r.mount).upto) whole in
      let position = its.1 in
      omega (arith, late, at_end, position)

  -- of two calls of the list, that which ended before the other began stands before it
  pub goes_before : (s r : Stood) → IsStanding s → IsStanding r → (time : ℕ) (p : Pending) (answer : CallAnswer) → Over time s.mount s.call.number p answer → (began : ℕ) → Begun began r.mount r.call.number → time < began → began < length now → IsBefore s r
  goes_before s r is_s is_r time p answer o began b before low =
      let small = mount_of time s.mount o.input o.there in
      let late = planned_late r is_r began b s.mount small in
      let grows = upto_at (suc time) began s.mount small (omega (arith, before)) in
      elim (ended_at s is_s time p answer o) [
        | inr behind ↦ inl (let low = behind.0 in omega (arith, low, grows, late))
        | inl here ↦
            let at = here.0 in
            let end = here.1 in
            elim (cases_eq s.position r.position) [
              | inr apart ↦ inl (omega (arith, at, grows, late, apart))
              | inl one ↦ inr (one, r_later is_r end)
            ]
      ]
    where
      r_later : IsStanding r → s.ended ≡ time → s.ended < r.ended
      r_later (Named of named_so r_end) end = omega (arith, r_end, end, before, low)
      r_later (InPlace e) end =
          let its = place_over r.position r.ended r.mount r.call e in
          let end_is = its.0.number_is in
          let later = begun_before layout v told began (suc r.ended) r.mount r.call.number b (omega (arith, end_is)) in
          omega (arith, later, end, before)

  -- nor is one in place that has a transaction
  none_and_one : (position time m : ℕ) (p : Pending) (e : EndsInPlace layout v list now position time m p) (k : ℕ) → IsOf list k m p.number → ⊥
  none_and_one position time m p e k of =
      let number_is = number_there layout v told are.can_be registers list is volume spelled few now after same time m p e.answer e.at in
      let own : is_txn_of m p.number (txn_in of.value) ≡ true = ap (is_txn_of m p.number) of.its.spells ∙ named m p.number of.its.txn of.its.mount_is of.its.number_is in
      let any : list_any (λ value. is_txn_of m p.number (txn_in value)) list ≡ true = any_there (λ value. is_txn_of m p.number (txn_in value)) list k of.value of.there own in
      let none : not (list_any (λ value. is_txn_of m p.number (txn_in value)) list) ≡ true = subst (λ number. has_no_call list m number ≡ true) (sym number_is) e.none in
      false≢true (sym (ap not any) ∙ none)

  -- and no call stands there twice
  pub not_twice : (s r : Stood) → IsStanding s → IsStanding r → s.mount ≡ r.mount → s.call.number ≡ r.call.number → IsBefore s r → ⊥
  not_twice s r (InPlace e) (InPlace o) mount number before =
      let one = place_over s.position s.ended s.mount s.call e in
      let two = place_over r.position r.ended r.mount r.call o in
      let there : Over r.ended s.mount s.call.number r.call o.answer = subst (λ n. Over r.ended s.mount n r.call o.answer) (sym number) (subst (λ k. Over r.ended k r.call.number r.call o.answer) (sym mount) two.0) in
      let time = over_once s.ended r.ended s.mount s.call.number s.call r.call e.answer o.answer one.0 there in
      let same_upto : (x_at (suc s.ended) s.mount).upto ≡ (x_at (suc r.ended) r.mount).upto = ap (λ k. (x_at (suc k) s.mount).upto) time ∙ ap (λ k. (x_at (suc r.ended) k).upto) mount in
      let first_at = one.1 in
      let second_at = two.1 in
      elim before [ inl low ↦ omega (arith, low, same_upto, first_at, second_at) | inr later ↦ let less = later.1 in omega (arith, less, time) ]
  not_twice s r (Named of named_so end) (Named its other_so other_end) mount number before =
      let there : IsOf list r.position s.mount s.call.number = subst (λ n. IsOf list r.position s.mount n) (sym number) (subst (λ k. IsOf list r.position k r.call.number) (sym mount) its) in
      let one = one_position layout v told are.can_be registers list is few s.position r.position s.mount s.call.number of there in
      elim before [ inl low ↦ omega (arith, low, one) | inr later ↦ let less = later.1 in omega (arith, less, end, other_end) ]
  not_twice s r (InPlace e) (Named its other_so other_end) mount number before =
      none_and_one s.position s.ended s.mount s.call e r.position (subst (λ n. IsOf list r.position s.mount n) (sym number) (subst (λ k. IsOf list r.position k r.call.number) (sym mount) its))
  not_twice s r (Named of named_so end) (InPlace e) mount number before =
      none_and_one r.position r.ended r.mount r.call e s.position (subst (λ n. IsOf list s.position r.mount n) number (subst (λ k. IsOf list s.position k s.call.number) mount of))
