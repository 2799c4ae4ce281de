-- Which blocks a call's file data write: those of its fill, each of them; and what came for a call was asked in its time.
use Rattle.std.proofs.Common.{◌≡◌, ◌⊎◌, inl, inr, ℕ, zero, suc, ◌+◌, ◌-◌, ◌*◌, ◌<◌, ◌≤◌, ◌==◌, if◌then◌else◌, nat_lt, replicate, true, List, [], ◌∷◌, ◌++◌, length, take, Option, Some, None, slice_get, arith, refl, sym, ap, subst, ◌∙◌}
use Rattle.std.proofs.lemmas.Bool.{cases_eq, cond-false, cond-true, eq-eqb, ltb-false, ne_eqb}
use Rattle.std.proofs.lemmas.Option.{none-some}
use Rattle.pf_base.specs.declared.asks.Ask.{Ask}
use Rattle.pf_base.specs.declared.asks.Ask.TheVariants.{Write}
use Rattle.pf_base.specs.declared.asks.Reply.{Reply}
use Rattle.pf_base.specs.declared.asks.Reply.TheVariants.{Written, Bytes}
use Rattle.pf_entry.specs.Ops.{Sector}
use Rattle.pf_entry.proofs.Cases.{by_test}
use Rattle.pf_law_epochs.specs.InTurn.{eight_from}
use Rattle.pf_volume.specs.Volumes.{Extent, IsVolume}
use Rattle.pf_tree_tables.specs.Tables.{Tables}
use Rattle.pf_file_calls.specs.Blocks.{reads_block, writes_block, bytes_of}
use Rattle.pf_file_calls.specs.Filling.{end_of_fill, filled_block, first_of_fill, is_new}
use Rattle.pf_file_calls.specs.Moving.{block_at, fills, fills_block, stores}
use Rattle.pf_file_calls.specs.declared.answers.CallAnswer.{CallAnswer}
use Rattle.pf_file_calls.specs.declared.answers.CallAnswer.TheVariants.{Fine}
use Rattle.pf_file_calls.specs.declared.filling.Fill.{Fill}
use Rattle.pf_file_calls.specs.declared.moving.DataMoving.TheVariants.{Fetches}
use Rattle.pf_file_calls.specs.declared.moving.Moved.TheVariants.{Asks as AsksFor, Ends}
use Rattle.pf_journal.specs.declared.layouts.Layout.{Layout}
use Rattle.pf_journal.specs.Layouts.{VolumeHasRoom}
use Rattle.pf_mount_errands.specs.Positions.{anchors_of}
use Rattle.pf_mount.specs.Mounts.{MountIs, anchor_hands, stand_of}
use Rattle.pf_law_plans.specs.Exchanges.{Exchange}
use Rattle.pf_law_plans.proofs.Lists.{take_one_more}
use Rattle.pf_law_contents.specs.Stored.{GoesSo}
use Rattle.pf_law_contents.proofs.FilledBlocks.{chosen}
use Rattle.pf_law_calls.specs.Exchanges.{exchange, exchanged, pends_after, pends_with}
use Rattle.pf_law_calls.specs.Since.{exchanges_since, since_after}
use Rattle.pf_law_calls.proofs.DataByMoment.{since_on}
use Rattle.pf_law_calls.specs.Doings.{HaveRegisters, IsListOf}
use Rattle.pf_law_calls.specs.Lives.{Asks, Begins, Hears, Input, MountTold, all_opened}
use Rattle.pf_law_calls.specs.Trees.{call_begun, call_in_input}
use Rattle.pf_law_calls.proofs.Lists.{something_there}
use Rattle.pf_law_homes.specs.Chunks.{ChunkGroups}
use Rattle.pf_law_homes.specs.Routed.{AreRoutedChunks}
use Rattle.pf_law_events.specs.Events.{MountsAreServed, Happening, port_events, mounts_told}
use Rattle.pf_law_files.specs.Blocks.{is_data_piece}
use Rattle.pf_law_files.proofs.MountAsks.{pending_data}
use Rattle.pf_law_files.proofs.Heard.{all_wait}
use Rattle.pf_law_files.proofs.CallTimes.{at_time, count, count_grows, count_still, none_begins}
use Rattle.pf_law_files.proofs.BlockTimes.{IsWrite, begins_free, far_at, its_at, last_at, pends_other_is, pends_own_is, stays_pending}

-- It is among what came

abbrev pub Came : (Ask → Type 0) → List Exchange → Type 0
Came Is [] = ⊥
Came Is (e ∷ came) = Is e.0 ⊎ Came Is came

pub came_front : (Is : Ask → Type 0) (xs ys : List Exchange) → Came Is xs → Came Is (xs ++ ys)
came_front Is [] ys came = absurd came
came_front Is (e ∷ xs) ys (inl is) = inl is
came_front Is (e ∷ xs) ys (inr came) = inr (came_front Is xs ys came)

pub came_back : (Is : Ask → Type 0) (xs ys : List Exchange) → Came Is ys → Came Is (xs ++ ys)
came_back Is [] ys came = came
came_back Is (e ∷ xs) ys came = inr (came_back Is xs ys came)

came_parts : (Is : Ask → Type 0) (xs ys : List Exchange) → Came Is (xs ++ ys) → Came Is xs ⊎ Came Is ys
came_parts Is [] ys came = inr came
came_parts Is (e ∷ xs) ys (inl is) = inl (inl is)
came_parts Is (e ∷ xs) ys (inr came) = elim (came_parts Is xs ys came) [ inl front ↦ inl (inr front) | inr back ↦ inr back ]

-- A fill writes each of its blocks

module _ (v : Extent) (t : Tables) (f : Fill) where
  abbrev pub Wrote : (k : ℕ) → Ask → Type 0
  Wrote k ask = (bytes : List ℕ) × (ask ≡ writes_block v (block_at t f.inode k) bytes)

  abbrev FillsFrom : (index : ℕ) → Type 0
  FillsFrom index = (came : List Exchange) (answer : CallAnswer) → GoesSo v t (fills v t f index) came answer → (k : ℕ) → index ≤ k → k < end_of_fill f → Came (Wrote k) came

  store_writes : (index : ℕ) → FillsFrom (suc index) → (bytes : List ℕ) (came : List Exchange) (answer : CallAnswer) → GoesSo v t (stores v (block_at t f.inode index) f index bytes) came answer → (k : ℕ) → index ≤ k → k < end_of_fill f → Came (Wrote k) came
  store_writes index next bytes [] answer goes k low high = absurd goes
  store_writes index next bytes ((ask, Bytes sectors) ∷ came) answer goes k low high = absurd goes.1
  store_writes index next bytes ((ask, Written) ∷ came) answer goes k low high = elim (cases_eq index k) [
    | inl here ↦ inl (filled_block f index bytes, goes.0 ∙ ap (λ n. writes_block v (block_at t f.inode n) (filled_block f index bytes)) here)
    | inr apart ↦ inr (next came answer goes.2 k (omega (arith, low, apart)) high)
  ]

  fetch_writes : (index : ℕ) → FillsFrom (suc index) → (came : List Exchange) (answer : CallAnswer) → GoesSo v t (AsksFor (reads_block v (block_at t f.inode index)) (Fetches f index)) came answer → (k : ℕ) → index ≤ k → k < end_of_fill f → Came (Wrote k) came
  fetch_writes index next [] answer goes k low high = absurd goes
  fetch_writes index next ((ask, Written) ∷ came) answer goes k low high = absurd goes.1
  fetch_writes index next ((ask, Bytes sectors) ∷ came) answer goes k low high = inr (store_writes index next (bytes_of sectors) came answer goes.2 k low high)

  fill_writes : (n index : ℕ) → end_of_fill f ≤ index + n → FillsFrom index
  fill_writes zero index most came answer goes k low high = absurd (omega (arith, most, low, high))
  fill_writes (suc n) index most came answer goes k low high =
      chosen v t came answer (nat_lt index (end_of_fill f)) (fills_block v (block_at t f.inode index) f index) (Ends Fine) goes
      (λ below block.
      let next = fill_writes n (suc index) (omega (arith, most)) in
      chosen v t came answer (is_new f index) (stores v (block_at t f.inode index) f index (replicate 4096 0)) (AsksFor (reads_block v (block_at t f.inode index)) (Fetches f index)) block
      (λ new rest. store_writes index next (replicate 4096 0) came answer rest k low high) (λ old rest. fetch_writes index next came answer rest k low high))
      (λ past rest. absurd (let is_past = ltb-false index (end_of_fill f) past in omega (arith, is_past, low, high)))

  pub each_written : (came : List Exchange) (answer : CallAnswer) → GoesSo v t (fills v t f (first_of_fill f)) came answer → (k : ℕ) → first_of_fill f ≤ k → k < end_of_fill f → Came (Wrote k) came
  each_written came answer goes k low high = fill_writes (end_of_fill f) (first_of_fill f) (omega arith) came answer goes k low high

  -- whether a block is of an index from one on
  pub find_index : (block n index : ℕ) → ((k : ℕ) × (index ≤ k) × (k < index + n) × (block ≡ block_at t f.inode k)) ⊎ ((k : ℕ) → index ≤ k → k < index + n → block ≡ block_at t f.inode k → ⊥)
  find_index block zero index = inr (λ k low high same. omega (arith, low, high))
  find_index block (suc n) index = elim (cases_eq block (block_at t f.inode index)) [
    | inl here ↦ inl (index, (let e : index ≤ index = omega arith in e), (let e : index < index + suc n = omega arith in e), here)
    | inr apart ↦ elim (find_index block n (suc index)) [
      | inl found ↦ inl (found.0, (let low = found.1 in omega (arith, low)), (let high = found.2 in omega (arith, high)), found.3)
      | inr none ↦ inr (λ k low high same. elim (cases_eq k index) [
        | inl first_one ↦ apart (same ∙ ap (block_at t f.inode) first_one)
        | inr later ↦ none k (omega (arith, low, later)) (omega (arith, high)) same
      ])
    ]
  ]

module _ (layout : Layout) (v : Extent) (volume : IsVolume v) (room : VolumeHasRoom layout v) (list : List (List ℕ)) (groups : (chunk : ℕ) → ChunkGroups) (hs : List Happening) (are : MountsAreServed layout v hs) (registers : HaveRegisters layout v (mounts_told hs))
    (is : IsListOf layout v (mounts_told hs) list) (all_routed : AreRoutedChunks v groups (port_events layout v hs)) where
  abbrev told : List MountTold
  told = mounts_told hs

  abbrev its : (k m : ℕ) → List Exchange
  its k m = its_at layout v volume room list groups hs are registers is all_routed k m

  abbrev last : (k m : ℕ) → Option Ask
  last k m = last_at layout v volume room list groups hs are registers is all_routed k m

  abbrev x : (k m : ℕ) → MountIs
  x k m = at_time layout v told k m

  its_own : (k m : ℕ) (input : Input) → slice_get told k ≡ Some (record { mount = m; input = input }) → its (suc k) m ≡ since_after (x k m) (last k m) (its k m) input
  its_own k m input at =
      ap (λ us. exchanges_since layout v us m) (take_one_more told k (record { mount = m; input = input }) at) ∙ since_on (all_opened layout v) m None [] (take k told) (record { mount = m; input = input } ∷ [])
      ∙ cond-true (m == m) (since_after (x k m) (last k m) (its k m) input) (its k m) (eq-eqb m m refl)

  its_other : (k m : ℕ) (t : MountTold) → slice_get told k ≡ Some t → (m ≡ t.mount → ⊥) → its (suc k) m ≡ its k m
  its_other k m t at apart =
      ap (λ us. exchanges_since layout v us m) (take_one_more told k t at) ∙ since_on (all_opened layout v) m None [] (take k told) (t ∷ [])
      ∙ cond-false (m == t.mount) _ (its k m) (ne_eqb m t.mount apart)

  module _ (chunk piece : ℕ) (of_data : is_data_piece layout v chunk piece ≡ true) (m : ℕ) (small : m < 16) where
    abbrev pub WritesIt : Ask → Type 0
    WritesIt ask = (sectors : List Sector) × (ask ≡ Write chunk (eight_from (8 * piece)) sectors)

    abbrev WriteAt : (time : ℕ) → Type 0
    WriteAt time = IsWrite layout v volume room list groups hs are registers is all_routed chunk piece of_data time m

    -- no call begins while an ask is pending
    same_count : (n i : ℕ) (ask : Ask) → i + n ≤ length told → ((j : ℕ) → i ≤ j → j < i + n → last j m ≡ Some ask) → count layout v told (i + n) m ≡ count layout v told i m
    same_count zero i ask most pending = ap (λ k. count layout v told k m) (let e : i + 0 ≡ i = omega arith in e)
    same_count (suc n) i ask most pending =
        let it = something_there told (i + n) (omega (arith, most)) in
        ap (λ k. count layout v told k m) (let e : i + suc n ≡ suc (i + n) = omega arith in e) ∙ count_still layout v told (i + n) m it.0 it.1 (none (i + n) it.0 it.1 (pending (i + n) (omega arith) (omega arith)))
        ∙ same_count n i ask (omega (arith, most)) (λ j low high. pending j low (omega (arith, high)))
      where
        none : (k : ℕ) (t : MountTold) → slice_get told k ≡ Some t → last k m ≡ Some ask → call_begun m t ≡ None
        none k t at was = elim (cases_eq m t.mount) [
          | inr apart ↦ cond-false (m == t.mount) (call_in_input t.input) None (ne_eqb m t.mount apart)
          | inl own ↦ cond-true (m == t.mount) (call_in_input t.input) None (eq-eqb m t.mount own) ∙ by t.input (at ∙ ap (λ i. Some (of i t.input)) (sym own)) was
        ]
          where
            of : ℕ → Input → MountTold
            of i input = record { mount = i; input = input }

            by : (input : Input) → slice_get told k ≡ Some (record { mount = m; input = input }) → last k m ≡ Some ask → call_in_input input ≡ None
            by (Begins call) there was = absurd (none-some ask (sym (begins_free layout v volume room list groups hs are registers is all_routed chunk piece of_data m small (λ c from. []) k call there) ∙ was))
            by (Asks port) there was = refl
            by (Hears port reply) there was = refl

    -- what came for a call was asked in its time
    pub record WasAskedThen (k : ℕ) : Type 0 where
      pub time : ℕ
      pub low : time < k
      pub writes : WriteAt time
      pub counted : count layout v told time m ≡ count layout v told k m

    answered_one : (k : ℕ) → k < length told → (ask : Ask) → last k m ≡ Some ask → WritesIt ask → WasAskedThen k
    answered_one k low ask was wrote =
        let w = all_wait layout v volume room list groups hs are registers is all_routed k low m small ask was in
        let less = w.low in
        let gap : w.asked + (k - w.asked) ≡ k = omega (arith, less) in
        let after_it : suc w.asked + (k - suc w.asked) ≡ k = omega (arith, less) in
        let from_next = same_count (k - suc w.asked) (suc w.asked) ask (omega (arith, after_it, low)) (λ j low_j high_j. w.since j (omega (arith, low_j)) (omega (arith, high_j, after_it))) in
        let first_none : call_begun m w.t ≡ None = no_begin w.t (sym w.mount_is) w.asked w.there (w.since (suc w.asked) (omega arith) (omega (arith, less))) w.free in
        record {
          time = w.asked;
          low = less;
          writes = record { t = w.t; there = w.there; mount_is = w.mount_is; free = w.free; sectors = wrote.0; asked = w.since (suc w.asked) (omega arith) (omega (arith, less)) ∙ ap Some wrote.1 };
          counted = sym (count_still layout v told w.asked m w.t w.there first_none) ∙ sym from_next ∙ ap (λ i. count layout v told i m) after_it;
        }
      where
        no_begin : (t : MountTold) → m ≡ t.mount → (time : ℕ) → slice_get told time ≡ Some t → last (suc time) m ≡ Some ask → last time m ≡ None → call_begun m t ≡ None
        no_begin t own time at later free = cond-true (m == t.mount) (call_in_input t.input) None (eq-eqb m t.mount own) ∙ by t.input refl
          where
            by : (input : Input) → t.input ≡ input → call_in_input input ≡ None
            by (Begins call) is_input =
                absurd (none-some ask (sym (ap (last (suc time)) own ∙ pends_own_is layout v volume room list groups hs are registers is all_routed time t at ∙ ap (pends_after (x time t.mount) (last time t.mount)) is_input ∙ ap (last time) (sym own) ∙ free) ∙ later))
            by (Asks port) is_input = refl
            by (Hears port reply) is_input = refl

    pub came_asked : (k : ℕ) → k ≤ length told → Came WritesIt (its k m) → WasAskedThen k
    came_asked zero most came = absurd came
    came_asked (suc k) most came = came_next k most (λ was. came_asked k (omega (arith, most)) was) came
      where
        later : (k : ℕ) (t : MountTold) → slice_get told k ≡ Some t → call_begun m t ≡ None → WasAskedThen k → WasAskedThen (suc k)
        later k t at none was = record { time = was.time; low = (let low = was.low in omega (arith, low)); writes = was.writes; counted = was.counted ∙ sym (count_still layout v told k m t at none) }

        came_next : (k : ℕ) → suc k ≤ length told → (Came WritesIt (its k m) → WasAskedThen k) → Came WritesIt (its (suc k) m) → WasAskedThen (suc k)
        came_next k most before came = elim (cases_eq m it.0.mount) [
          | inr apart ↦ later k it.0 it.1 (cond-false (m == it.0.mount) (call_in_input it.0.input) None (ne_eqb m it.0.mount apart)) (before (subst (Came WritesIt) (its_other k m it.0 it.1 apart) came))
          | inl own ↦ by it.0.input (it.1 ∙ ap (λ i. Some (of i it.0.input)) (sym own)) came
        ]
          where
            it : (t : MountTold) × (slice_get told k ≡ Some t)
            it = something_there told k (omega (arith, most))

            of : ℕ → Input → MountTold
            of i input = record { mount = i; input = input }

            none_of : (input : Input) → call_in_input input ≡ None → call_begun m (record { mount = m; input = input }) ≡ None
            none_of input none = cond-true (m == m) (call_in_input input) None (eq-eqb m m refl) ∙ none

            replied : (o : Option Ask) (reply : Reply) → last k m ≡ o → Came WritesIt (exchange o reply) → WasAskedThen k
            replied None reply was came = absurd came
            replied (Some ask) reply was (inl wrote) = answered_one k (omega (arith, most)) ask was wrote
            replied (Some ask) reply was (inr none) = absurd none

            by : (input : Input) → slice_get told k ≡ Some (record { mount = m; input = input }) → Came WritesIt (its (suc k) m) → WasAskedThen (suc k)
            by (Begins call) at came = absurd (subst (Came WritesIt) (its_own k m (Begins call) at) came)
            by (Asks port) at came = later k (record { mount = m; input = Asks port }) at (none_of (Asks port) refl) (before (subst (Came WritesIt) (its_own k m (Asks port) at) came))
            by (Hears port reply) at came =
                later k (record { mount = m; input = Hears port reply }) at (none_of (Hears port reply) refl)
                (elim (came_parts WritesIt (its k m) (exchanged (x k m) (last k m) (Hears port reply)) (subst (Came WritesIt) (its_own k m (Hears port reply) at) came)) [
                  | inl old ↦ before old
                  | inr new ↦
                      by_test (port == anchors_of (x k m).position) (λ b. Came WritesIt (if b then exchange (last k m) reply else []) → WasAskedThen k)
                      (λ _ new. replied (last k m) reply refl new) (λ _ none. absurd none) new
                ])

    -- and what was asked comes, once it is no longer pending
    pub asked_came : (n k : ℕ) (ask : Ask) → k + n ≤ length told → count layout v told (k + n) m ≤ count layout v told k m → WritesIt ask → (last k m ≡ Some ask) ⊎ Came WritesIt (its k m) → (last (k + n) m ≡ Some ask) ⊎ Came WritesIt (its (k + n) m)
    asked_came zero k ask most stay wrote have = subst (λ i. (last i m ≡ Some ask) ⊎ Came WritesIt (its i m)) (let e : k ≡ k + 0 = omega arith in e) have
    asked_came (suc n) k ask most stay wrote have =
        let it = something_there told k (omega (arith, most)) in
        let next : suc k + n ≡ k + suc n = omega arith in
        let grows = count_grows layout v told (suc k) (suc k + n) m (omega arith) in
        let at_end = ap (λ i. count layout v told i m) next in
        let none = none_begins layout v told k m it.0 it.1 (omega (arith, stay, grows, at_end)) in
        let same_one = count_still layout v told k m it.0 it.1 none in
        subst (λ i. (last i m ≡ Some ask) ⊎ Came WritesIt (its i m)) next
        (asked_came n (suc k) ask (omega (arith, most)) (omega (arith, stay, at_end, same_one)) wrote (one k it.0 it.1 none have))
      where
        heard : (k port : ℕ) (reply : Reply) → slice_get told k ≡ Some (record { mount = m; input = Hears port reply }) → (last k m ≡ Some ask) ⊎ Came WritesIt (its k m) → (last (suc k) m ≡ Some ask) ⊎ Came WritesIt (its (suc k) m)
        heard k port reply at (inr came) = inr (subst (Came WritesIt) (sym (its_own k m (Hears port reply) at)) (came_front WritesIt (its k m) (exchanged (x k m) (last k m) (Hears port reply)) came))
        heard k port reply at (inl was) =
            by_test (port == anchors_of (x k m).position) (λ b. port == anchors_of (x k m).position ≡ b → (last (suc k) m ≡ Some ask) ⊎ Came WritesIt (its (suc k) m))
            (λ _ here.
            let came : exchanged (x k m) (last k m) (Hears port reply) ≡ (ask, reply) ∷ [] = cond-true (port == anchors_of (x k m).position) (exchange (last k m) reply) [] here ∙ ap (λ o. exchange o reply) was in
            inr (subst (Came WritesIt) (sym (its_own k m (Hears port reply) at ∙ ap (λ es. its k m ++ es) came)) (came_back WritesIt (its k m) ((ask, reply) ∷ []) (inl wrote))))
            (λ _ elsewhere.
            inl (pends_own_is layout v volume room list groups hs are registers is all_routed k (record { mount = m; input = Hears port reply }) at ∙ cond-false (port == anchors_of (x k m).position) None (last k m) elsewhere ∙ was))
            refl

        asked : (k port : ℕ) → slice_get told k ≡ Some (record { mount = m; input = Asks port }) → (last k m ≡ Some ask) ⊎ Came WritesIt (its k m) → (last (suc k) m ≡ Some ask) ⊎ Came WritesIt (its (suc k) m)
        asked k port at (inr came) = inr (subst (Came WritesIt) (sym (its_own k m (Asks port) at)) came)
        asked k port at (inl was) = by (last (suc k) m) refl
          where
            by : (o : Option Ask) → last (suc k) m ≡ o → (last (suc k) m ≡ Some ask) ⊎ Came WritesIt (its (suc k) m)
            by (Some other) now = inl (now ∙ ap Some (sym (stays_pending layout v volume room list groups hs are registers is all_routed k m (record { mount = m; input = Asks port }) at ask other was now)))
            by None now = inl (pends_own_is layout v volume room list groups hs are registers is all_routed k (record { mount = m; input = Asks port }) at ∙ ap (λ o. pends_after (x k m) o (Asks port)) was ∙ kept)
              where
                kept : pends_after (x k m) (Some ask) (Asks port) ≡ Some ask
                kept = by_test (port == anchors_of (x k m).position) (λ b. (if b then pends_with (Some ask) (if b then (x k m).task.ask else (anchor_hands (stand_of (x k m)) (x k m).task.work port).ask) else Some ask) ≡ Some ask)
                    (λ _. ap (pends_with (Some ask)) (pending_data v (last k m) (x k m) ask was (far_at layout v volume room list groups hs are registers is all_routed k m small)).nothing) (λ _. refl)

        own : (k : ℕ) (input : Input) → slice_get told k ≡ Some (record { mount = m; input = input }) → call_in_input input ≡ None → (last k m ≡ Some ask) ⊎ Came WritesIt (its k m) → (last (suc k) m ≡ Some ask) ⊎ Came WritesIt (its (suc k) m)
        own k (Begins call) at none have = absurd (none-some call (sym none))
        own k (Asks port) at none have = asked k port at have
        own k (Hears port reply) at none have = heard k port reply at have

        one : (k : ℕ) (t : MountTold) → slice_get told k ≡ Some t → call_begun m t ≡ None → (last k m ≡ Some ask) ⊎ Came WritesIt (its k m) → (last (suc k) m ≡ Some ask) ⊎ Came WritesIt (its (suc k) m)
        one k t at none have = elim (cases_eq m t.mount) [
          | inl is_own ↦
              let of : ℕ → MountTold = λ i. record { mount = i; input = t.input } in
              own k t.input (at ∙ ap (λ i. Some (of i)) (sym is_own)) (sym (cond-true (m == t.mount) (call_in_input t.input) None (eq-eqb m t.mount is_own)) ∙ none) have
          | inr apart ↦ elim have [
            | inl was ↦ inl (pends_other_is layout v volume room list groups hs are registers is all_routed k t at m apart ∙ was)
            | inr came ↦ inr (subst (Came WritesIt) (sym (its_other k m t at apart)) came)
          ]
        ]
