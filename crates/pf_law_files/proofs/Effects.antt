-- What each call up to a position of the list does to a block, in the list and in time.
use Rattle.std.proofs.Common.{◌≡◌, ◌⊎◌, inl, inr, ℕ, zero, suc, ◌+◌, ◌-◌, ◌*◌, ◌/◌, ◌%◌, ◌<◌, ◌≤◌, ◌==◌, ◌||◌, min, Bool, true, false, not, if◌then◌else◌, List, [], ◌∷◌, ◌++◌, drop, length, take, Option, Some, None, slice_get, arith, refl, sym, ap, subst, ◌∙◌}
use Rattle.std.specs.List.{list_any}
use Rattle.std.proofs.lemmas.Bool.{cases_eq, cases_lt, cond-true, eq-eqb, eqb-true}
use Rattle.std.proofs.lemmas.List.{length-append, length-take-le, take-append-drop}
use Rattle.std.proofs.lemmas.Option.{none-some, same_Some, slice_get_within}
use Rattle.pf_base.specs.Asks.{chunk_of, span_of}
use Rattle.pf_base.specs.declared.asks.Ask.{Ask}
use Rattle.pf_base.specs.declared.asks.Ask.TheVariants.{Write, Read}
use Rattle.pf_base.specs.declared.calls.Call.TheVariants as calls
use Rattle.pf_entry.specs.Lists.{Every}
use Rattle.pf_entry.specs.Ops.{Sector}
use Rattle.pf_entry.proofs.Cases.{by_test}
use Rattle.pf_law_epochs.specs.InTurn.{eight_from}
use Rattle.pf_volume.specs.Volumes.{Extent, IsVolume}
use Rattle.pf_tree_tables.specs.Tables.{Tables}
use Rattle.pf_txn.specs.Reading.{txn_in}
use Rattle.pf_tree.specs.Calls.{FileCall}
use Rattle.pf_file_calls.specs.Blocks.{reads_block, sectors_of, writes_block}
use Rattle.pf_file_calls.specs.Calls.{is_txn_of, size_in}
use Rattle.pf_file_calls.specs.Filling.{end_of_fill, first_of_fill}
use Rattle.pf_file_calls.specs.Moving.{block_at, fills_file, data_moves}
use Rattle.pf_file_calls.specs.declared.answers.CallAnswer.{CallAnswer}
use Rattle.pf_file_calls.specs.declared.calls.Pending.{Pending}
use Rattle.pf_file_calls.specs.declared.filling.Fill.{Fill}
use Rattle.pf_file_calls.specs.declared.moving.Moved.{Moved}
use Rattle.pf_file_calls.proofs.Cut.{length_cut}
use Rattle.pf_law_plans.specs.Exchanges.{Exchange}
use Rattle.pf_law_plans.specs.Numbered.{call_numbered}
use Rattle.pf_law_plans.proofs.TableAnswers.{own_txn}
use Rattle.pf_law_plans.proofs.Lists.{at_front, take_one_more}
use Rattle.pf_law_contents.specs.Stored.{GoesSo, Stored, TellStoredAt, stored_after}
use Rattle.pf_law_contents.proofs.SerialCalls.{all_well, begins_well}
use Rattle.pf_law_contents.proofs.PlacesLeft.{IsAskOf, IsRead, asks_its_block, fill_asks, fill_elsewhere, fill_in, fills_so, only_looks, only_reads, same_left, told_at}
use Rattle.pf_law_contents.proofs.StoredBlocks.{one_block}
use Rattle.pf_journal.specs.declared.layouts.Layout.{Layout}
use Rattle.pf_journal.specs.Layouts.{VolumeHasRoom, layout_of}
use Rattle.pf_mount_errands.specs.Positions.{anchors_of}
use Rattle.pf_mount.specs.declared.work.MountNext.TheVariants.{Done}
use Rattle.pf_mount.specs.Mounts.{MountIs, anchor_hands, ask_at, stand_of}
use Rattle.pf_law_calls.specs.Answering.{next_by}
use Rattle.pf_law_calls.specs.Exchanges.{pends_after, pends_with}
use Rattle.pf_law_calls.proofs.Below.{ended_below}
use Rattle.pf_law_calls.proofs.EndedCalls.{begun_named}
use Rattle.pf_law_calls.specs.Since.{called, exchanges_since}
use Rattle.pf_law_calls.specs.Doings.{HaveRegisters, IsListOf}
use Rattle.pf_law_calls.specs.Lives.{Asks, Begins, Hears, Input, MountTold, mount_after}
use Rattle.pf_law_calls.specs.Spelled.{CanAllBeSpelled}
use Rattle.pf_law_calls.specs.Trees.{AreFewCalls, call_begun, call_in_input, call_named, calls_of}
use Rattle.pf_law_calls.proofs.Lists.{something_there}
use Rattle.pf_law_calls.proofs.CallNumbers.{IsLastOf, OfPending, its_calls, named_on}
use Rattle.pf_law_homes.specs.Chunks.{ChunkGroups}
use Rattle.pf_law_homes.specs.Routed.{AreRoutedChunks}
use Rattle.pf_law_events.specs.Events.{MountsAreServed, Happening, port_events, mounts_told}
use Rattle.pf_law_files.specs.Blocks.{is_data_piece}
use Rattle.pf_law_files.specs.Ordered.{CallsAreApart, EndedBefore, HasAsked, Touches, fill_of, has_no_call}
use Rattle.pf_law_files.proofs.MountAsks.{next_data, none_pends}
use Rattle.pf_law_files.proofs.Blocks.{IsOfBlock}
use Rattle.pf_law_files.proofs.CallProgress.{Ends, EndsOwn, EndsPlain, HasNoneBelow}
use Rattle.pf_law_files.proofs.PlannedChains.{goes_in_place, numbered_there, told_there}
use Rattle.pf_law_files.proofs.CallTimes.{BeginsThen, EndsThen, at_time, begins_once, begun_before, begun_then, count, count_begun, count_still, ends_so, life_next, prefix_is, quiet_after, stands_there}
use Rattle.pf_law_files.proofs.ListedCalls.{AreInOrder, EndsInPlace, Has, InPlace, IsBefore, Named, Stands, Stood, in_every, in_order}
use Rattle.pf_law_files.proofs.TouchOrder.{IsOver, ended_at, goes_before, is_over, not_twice, over_once, over_rests, place_over, take_now, upto_at}
use Rattle.pf_law_files.proofs.Positions.{IsOf, calls_count, one_position, tables_at}
use Rattle.pf_law_files.proofs.WriteRanks.{Effect, Leaves, Puts}
use Rattle.pf_law_files.proofs.SerialAsks.{at_place}
use Rattle.pf_law_files.proofs.BlockTimes.{InTurn, begins_free, IsHeard, IsWaiting, IsWrite, call_leaves_it, far_at, in_it, its_at, last_at, mount_low, pends_own_is, write_heard}
use Rattle.pf_law_files.proofs.TouchedBlocks.{Came, Wrote, asked_came, came_asked, each_written, find_index}

pub fill_same : (t : Tables) (size : ℕ) (call : FileCall) → fill_of t size call ≡ fill_in t size call
fill_same t size (calls.Write p offset byte count) = refl
fill_same t size (calls.Truncate p to) = refl
fill_same t size (calls.Mkdir p) = refl
fill_same t size (calls.Create p) = refl
fill_same t size (calls.Read p offset count) = refl
fill_same t size (calls.Rename from to) = refl
fill_same t size (calls.Unlink p) = refl
fill_same t size (calls.Rmdir p) = refl
fill_same t size (calls.Stat p) = refl
fill_same t size (calls.List p) = refl

none_passes : {X : Type 0} → (test : X → Bool) (xs : List X) → ((k : ℕ) (x : X) → slice_get xs k ≡ Some x → test x ≡ false) → list_any test xs ≡ false
none_passes test [] none = refl
none_passes test (x ∷ xs) none = ap (λ b. b || list_any test xs) (none 0 x refl) ∙ none_passes test xs (λ k y at. none (suc k) y at)

came_more : (Is Also : Ask → Type 0) → ((ask : Ask) → Is ask → Also ask) → (came : List Exchange) → Came Is came → Came Also came
came_more Is Also more [] came = came
came_more Is Also more (e ∷ es) (inl here) = inl (more e.0 here)
came_more Is Also more (e ∷ es) (inr came) = inr (came_more Is Also more es came)

-- of what came one that is so, where each is so
came_every : {R : Type 0} → (Is All : Ask → Type 0) → (came : List Exchange) → Came Is came → Every (λ (e : Exchange). All e.0) came → ((ask : Ask) → Is ask → All ask → R) → R
came_every Is All [] came each both = absurd came
came_every Is All (e ∷ es) (inl here) each both = both e.0 here each.0
came_every Is All (e ∷ es) (inr came) each both = came_every Is All es came each.1 both

module _ (layout : Layout) (v : Extent) (volume : IsVolume v) (room : VolumeHasRoom layout v) (list : List (List ℕ)) (groups : (chunk : ℕ) → ChunkGroups) (hs : List Happening) (are : MountsAreServed layout v hs) (registers : HaveRegisters layout v (mounts_told hs))
    (is : IsListOf layout v (mounts_told hs) list) (all_routed : AreRoutedChunks v groups (port_events layout v hs)) (spelled : CanAllBeSpelled (mounts_told hs)) (few : AreFewCalls (mounts_told hs)) (now after : List MountTold) (same : mounts_told hs ≡ now ++ after) where
  abbrev told : List MountTold
  told = mounts_told hs

  abbrev x_at : (k m : ℕ) → MountIs
  x_at k m = at_time layout v told k m

  abbrev counted : (k m : ℕ) → ℕ
  counted k m = count layout v told k m

  abbrev Begun : (time m number : ℕ) → Type 0
  Begun time m number = BeginsThen layout v told time m number

  abbrev Ended : (time m number : ℕ) (p : Pending) (answer : CallAnswer) → Type 0
  Ended time m number p answer = EndsThen layout v told time m number p answer

  abbrev at : ℕ → Tables
  at n = tables_at list v n

  abbrev its : (k m : ℕ) → List Exchange
  its k m = its_at layout v volume room list groups hs are registers is all_routed k m

  abbrev last : (k m : ℕ) → Option Ask
  last k m = last_at layout v volume room list groups hs are registers is all_routed k m

  now_most : length now ≤ length told
  now_most = (let size = ap (λ (us : List MountTold). length us) same ∙ length-append now after in omega (arith, size))

  small_of : (time m : ℕ) (input : Input) → slice_get told time ≡ Some (record { mount = m; input = input }) → m < 16
  small_of time m input there = mount_low layout v volume room list groups hs are registers is all_routed time (record { mount = m; input = input }) there

  -- what a call that ended is
  pub ended_number : (time m number : ℕ) (p : Pending) (answer : CallAnswer) → Ended time m number p answer → (p.number ≡ number) × (0 < number) × (call_named told m number ≡ Some p.call)
  ended_number time m number p answer e = by e.input refl
    where
      x : MountIs
      x = x_at time m

      pending_number : call_begun m (record { mount = m; input = e.input }) ≡ None → x.files.pending ≡ Some p → (p.number ≡ number) × (0 < number) × (call_named told m number ≡ Some p.call)
      pending_number none was =
          let named = its_calls layout v m (take time told) in
          let last_is : IsLastOf (calls_of (take time told) m) p = subst (OfPending (IsLastOf (calls_of (take time told) m))) was named.call in
          let still = count_still layout v told time m (record { mount = m; input = e.input }) e.there none in
          let number_is = e.number_is in
          let its_last = last_is.last in
          let p_is : p.number ≡ number = omega (arith, still, number_is, its_last) in
          let place = at_place told time (record { mount = m; input = e.input }) e.there in
          let in_told : call_named told m p.number ≡ Some p.call = subst (λ us. call_named us m p.number ≡ Some p.call) (sym place) (named_on (take time told) (record { mount = m; input = e.input } ∷ drop (suc time) told) m p.number p.call last_is.named) in
          (p_is, positive p.number last_is.named p_is, ap (call_named told m) (sym p_is) ∙ in_told)
        where
          positive : (n : ℕ) → call_numbered (calls_of (take time told) m) n ≡ Some p.call → n ≡ number → 0 < number
          positive zero is_named same_number = absurd (none-some p.call is_named)
          positive (suc n) is_named same_number = omega (arith, same_number)

      by : (input : Input) → e.input ≡ input → (p.number ≡ number) × (0 < number) × (call_named told m number ≡ Some p.call)
      by (Begins call) is_input =
          let of : Input → MountTold = λ i. record { mount = m; input = i } in
          let there : slice_get told time ≡ Some (record { mount = m; input = Begins call }) = e.there ∙ ap (λ i. Some (of i)) is_input in
          let q : Pending = record { number = suc x.files.calls; call = call } in
          let p_is : q ≡ p = same_Some q p (sym (ap (called x) is_input) ∙ e.was) in
          let more = count_begun layout v told time m call there in
          let count_is = calls_count layout v (take time told) m in
          let number_is = e.number_is in
          let own : suc x.files.calls ≡ number = omega (arith, more, count_is, number_is) in (
            ap (λ (r : Pending). r.number) (sym p_is) ∙ own,
            omega (arith, own),
            ap (call_named told m) (sym own) ∙ begun_named layout v told are.can_be registers list is m (take time told) (drop (suc time) told) call (at_place told time (record { mount = m; input = Begins call }) there) ∙ ap (λ (r : Pending). Some r.call) p_is,
          )
      by (Asks port) is_input = absurd (none-some (Done answer) (ap (next_by x) (sym is_input) ∙ e.ends))
      by (Hears port reply) is_input =
          pending_number (cond-true (m == m) (call_in_input e.input) None (eq-eqb m m refl) ∙ ap call_in_input is_input) (ap (called x) (sym is_input) ∙ e.was)

  -- it began before, and so it ended
  pub record Lasts (m number ended : ℕ) (p : Pending) (answer : CallAnswer) : Type 0 where
    pub began : ℕ
    pub begun : Begun began m number
    pub order : began ≤ ended
    pub goes : Ends list v m p (layout_of layout).first (x_at (suc ended) m).upto (its (suc ended) m) answer

  pub lasts : (m number ended : ℕ) (p : Pending) (answer : CallAnswer) → Ended ended m number p answer → Lasts m number ended p answer
  lasts m number ended p answer e =
      let n = ended_number ended m number p answer e in
      let number_is = e.number_is in
      let b = begun_then layout v told (suc ended) m number n.1 (omega (arith, number_is)) in
      let before = begun_before layout v told b.0 (suc ended) m number b.1 (omega (arith, number_is)) in
      let order : b.0 ≤ ended = omega (arith, before) in
      let small = small_of ended m e.input e.there in
      let count_is = calls_count layout v (take b.0 told) m in
      let its_number = b.1.number_is in
      let place = at_place told b.0 (record { mount = m; input = Begins b.1.call }) b.1.there in
      let named_there = begun_named layout v told are.can_be registers list is m (take b.0 told) (drop (suc b.0) told) b.1.call place in
      let calls_is : suc (x_at b.0 m).files.calls ≡ number = omega (arith, count_is, its_number) in
      let call_is : b.1.call ≡ p.call = same_Some b.1.call p.call (sym named_there ∙ ap (call_named told m) calls_is ∙ n.2) in
      let as_p : Begun b.0 m p.number = record { call = b.1.call; there = b.1.there; number_is = its_number ∙ sym n.0 } in
      record {
        began = b.0;
        begun = b.1;
        order = order;
        goes = ends_so layout v told are.can_be registers list is volume spelled few m small p b.0 as_p call_is ended answer order (subst (λ i. Ended ended m i p answer) (sym n.0) e);
      }

  -- the tables on which the file data of a call of the list go, and the size that its file had
  abbrev pub tables_of : (s : Stood) → Stands layout v list now s → Tables
  tables_of s (InPlace e) = at s.position
  tables_of s (Named of named_so end) = at (suc s.position)

  abbrev pub size_of : Stood → ℕ
  size_of s = size_in (at s.position) s.call.call

  abbrev pub GoesIn : (s : Stood) → Stands layout v list now s → List Exchange → CallAnswer → Type 0
  GoesIn s st came answer = GoesSo v (tables_of s st) (data_moves v (tables_of s st) (size_of s) s.call.call) came answer

  -- so it went
  really : (s : Stood) (st : Stands layout v list now s) (ended : ℕ) (p : Pending) (answer : CallAnswer) → Ended ended s.mount s.call.number p answer → ended < length now → (its_answer : CallAnswer) × GoesIn s st (its (suc ended) s.mount) its_answer
  really s (InPlace e) ended p answer o in_now =
      let its_over = place_over layout v volume room list groups hs are registers is all_routed spelled few now after same s.position s.ended s.mount s.call e in
      let once = over_once layout v volume room list groups hs are registers is all_routed spelled few now after same s.ended ended s.mount s.call.number s.call p e.answer answer its_over.0 o in
      let goes = (goes_in_place layout v told are.can_be registers list is volume spelled few now after same s.position s.ended s.mount s.call e).goes in
      let t : MountTold = record { mount = s.mount; input = e.at.input } in
      let all = told_there layout v told are.can_be registers list is volume spelled few now after same s.ended s.mount s.call e.answer e.at in
      let before = ap (λ k. take k told) (sym e.at.time_is) ∙ prefix_is told e.at.first (t ∷ (e.at.rest ++ after)) all in
      let there = ap (slice_get told) (sym e.at.time_is) ∙ stands_there told e.at.first t (e.at.rest ++ after) all in
      let whole : e.at.first ++ t ∷ [] ≡ take (suc ended) told = ap (λ us. us ++ t ∷ []) (sym before) ∙ sym (take_one_more told s.ended t there) ∙ ap (λ k. take (suc k) told) once in
      (e.answer, subst (λ us. GoesSo v (at s.position) (data_moves v (at s.position) (size_of s) s.call.call) (exchanges_since layout v us s.mount) e.answer) whole goes)
  really s (Named of named_so end) ended p answer o in_now = by l.goes
    where
      l : Lasts s.mount s.call.number ended p answer
      l = lasts s.mount s.call.number ended p answer o

      n : (p.number ≡ s.call.number) × (0 < s.call.number) × (call_named told s.mount s.call.number ≡ Some p.call)
      n = ended_number ended s.mount s.call.number p answer o

      of_p : IsOf list s.position s.mount p.number
      of_p = subst (λ i. IsOf list s.position s.mount i) (sym n.0) of

      call_is : p.call ≡ s.call.call
      call_is = same_Some p.call s.call.call (sym n.2 ∙ subst (λ us. call_named us s.mount s.call.number ≡ Some s.call.call) (sym same) (named_on now after s.mount s.call.number s.call.call named_so))

      low : s.position < (x_at (suc ended) s.mount).upto
      low = elim (ended_at layout v volume room list groups hs are registers is all_routed spelled few now after same s (Named of named_so end) ended p answer o) [
        | inr behind ↦ behind.0
        | inl here ↦ absurd (let size = here.1 in omega (arith, size, in_now, end))
      ]

      by : Ends list v s.mount p (layout_of layout).first (x_at (suc ended) s.mount).upto (its (suc ended) s.mount) answer → (its_answer : CallAnswer) × GoesIn s (Named of named_so end) (its (suc ended) s.mount) its_answer
      by (inl plain) = absurd (plain.none s.position low of_p)
      by (inr own) =
          let here = one_position layout v told are.can_be registers list is few own.position s.position s.mount p.number own.own of_p in
          let goes : GoesSo v (at (suc s.position)) (data_moves v (at (suc s.position)) (size_in (at s.position) p.call) p.call) (its (suc ended) s.mount) answer =
          subst (λ k. GoesSo v (at (suc k)) (data_moves v (at (suc k)) (size_in (at k) p.call) p.call) (its (suc ended) s.mount) answer) here own.goes in
          (answer, subst (λ c. GoesSo v (at (suc s.position)) (data_moves v (at (suc s.position)) (size_in (at s.position) c) c) (its (suc ended) s.mount) answer) call_is goes)

  -- Of one block

  module _ (block chunk piece : ℕ) (of_data : is_data_piece layout v chunk piece ≡ true) (chunk_is : chunk ≡ 8 * block / v.sectors) (first_is : 8 * piece ≡ 8 * block % v.sectors) where
    abbrev WriteAt : (time m : ℕ) → Type 0
    WriteAt time m = IsWrite layout v volume room list groups hs are registers is all_routed chunk piece of_data time m

    abbrev Writes : Ask → Type 0
    Writes ask = (sectors : List Sector) × (ask ≡ Write chunk (eight_from (8 * piece)) sectors)

    some_sectors : 0 < v.sectors
    some_sectors = (let some = volume.some_sectors in omega (arith, some))

    with_none : (o : Option Ask) → pends_with None o ≡ o
    with_none None = refl
    with_none (Some ask) = refl

    -- it is an ask for the block
    its_block : (ask : Ask) (sectors : List Sector) → ask ≡ Write chunk (eight_from (8 * piece)) sectors → IsOfBlock v ask → (bytes : List ℕ) × (ask ≡ writes_block v block bytes)
    its_block ask sectors is_ask of_block = by of_block.2
      where
        by : (ask ≡ reads_block v of_block.0) ⊎ ((bytes : List ℕ) × (ask ≡ writes_block v of_block.0 bytes)) → (bytes : List ℕ) × (ask ≡ writes_block v block bytes)
        by (inl read) = (let e : Write chunk (eight_from (8 * piece)) sectors ≡ reads_block v of_block.0 = sym is_ask ∙ read in absurd (cc))
        by (inr wrote) =
            let e : Write chunk (eight_from (8 * piece)) sectors ≡ writes_block v of_block.0 wrote.0 = sym is_ask ∙ wrote.1 in
            let at_chunk : chunk ≡ 8 * of_block.0 / v.sectors = ap chunk_of e in
            let at_first : 8 * piece ≡ 8 * of_block.0 % v.sectors = ap (λ a. (span_of a).first) e in
            let one = one_block v some_sectors of_block.0 block (sym at_chunk ∙ chunk_is) (sym at_first ∙ first_is) in
            (wrote.0, wrote.1 ∙ ap (λ b. writes_block v b wrote.0) one)

    module _ (time m : ℕ) (w : WriteAt time m) where
      abbrev x : MountIs
      x = x_at time m

      there : slice_get told time ≡ Some (record { mount = m; input = w.t.input })
      there = (let of : ℕ → MountTold = λ i. record { mount = i; input = w.t.input } in w.there ∙ ap (λ i. Some (of i)) w.mount_is)

      small : m < 16
      small = small_of time m w.t.input there

      abbrev wrote : Ask
      wrote = Write chunk (eight_from (8 * piece)) w.sectors

      goes_out : pends_after x None w.t.input ≡ Some wrote
      goes_out = ap (λ o. pends_after x o w.t.input) (sym w.free) ∙ sym (pends_own_is layout v volume room list groups hs are registers is all_routed time (record { mount = m; input = w.t.input }) there) ∙ w.asked

      record AsksIt : Type 0 where
        port : ℕ
        input_is : w.t.input ≡ Asks port
        at_port : port ≡ anchors_of x.position
        asks : ask_at x port ≡ Some wrote
        next : x.task.ask ≡ Some wrote

      asks_it : AsksIt
      asks_it = by w.t.input refl goes_out
        where
          by : (input : Input) → w.t.input ≡ input → pends_after x None input ≡ Some wrote → AsksIt
          by (Begins call) is_input out = absurd (none-some wrote out)
          by (Hears port reply) is_input out =
              absurd (by_test (port == anchors_of x.position) (λ b. (if b then None else None) ≡ Some wrote → ⊥) (λ _ e. none-some wrote e) (λ _ e. none-some wrote e) out)
          by (Asks port) is_input out =
              by_test (port == anchors_of x.position) (λ b. port == anchors_of x.position ≡ b → (if b then pends_with None (if b then x.task.ask else (anchor_hands (stand_of x) x.task.work port).ask) else None) ≡ Some wrote → AsksIt)
              (λ _ here out. record {
                port = port;
                input_is = is_input;
                at_port = eqb-true port (anchors_of x.position) here;
                asks = cond-true (port == anchors_of x.position) x.task.ask (anchor_hands (stand_of x) x.task.work port).ask here ∙ sym (with_none x.task.ask) ∙ out;
                next = sym (with_none x.task.ask) ∙ out;
              })
              (λ _ _ out. absurd (none-some wrote out)) refl out

      no_call : call_begun m (record { mount = m; input = w.t.input }) ≡ None
      no_call = cond-true (m == m) (call_in_input w.t.input) None (eq-eqb m m refl) ∙ ap call_in_input asks_it.input_is

      pub write_still : counted (suc time) m ≡ counted time m
      write_still = count_still layout v told time m (record { mount = m; input = w.t.input }) there no_call

      -- it asked to write the block
      pub write_touches : time < length now → HasAsked layout v now block m (counted time m)
      write_touches low =
          let next = next_data v (last time m) x wrote asks_it.next (far_at layout v volume room list groups hs are registers is all_routed time m small) in
          let its = its_block wrote w.sectors refl next.block in
          let before = take_now layout v volume room list groups hs are registers is all_routed spelled few now after same time (omega (arith, low)) in
          let of : Input → MountTold = λ i. record { mount = m; input = i } in
          let its_there = something_there now time low in
          let is_t : its_there.0 ≡ record { mount = m; input = Asks asks_it.port } =
          same_Some _ _ (sym (ap (λ us. slice_get us time) same ∙ at_front now after time its_there.0 its_there.1) ∙ there ∙ ap (λ i. Some (of i)) asks_it.input_is) in
          record {
            before = take time told;
            after = drop (suc time) now;
            port = asks_it.port;
            bytes = its.0;
            told_so = at_place now time its_there.0 its_there.1 ∙ ap (λ us. us ++ its_there.0 ∷ drop (suc time) now) before ∙ ap (λ (t : MountTold). take time told ++ t ∷ drop (suc time) now) is_t;
            data_port = asks_it.at_port;
            asks = asks_it.asks ∙ ap Some its.1;
            its = refl;
          }

      module _ (ended number : ℕ) (p : Pending) (answer : CallAnswer) (o : Ended ended m number p answer) (count_is : counted time m ≡ number) where
        ended_low : ended < length told
        ended_low = slice_get_within told ended (record { mount = m; input = o.input }) o.there

        none_later : (k : ℕ) → ended < k → k ≤ length told → counted k m ≤ number → last k m ≡ None
        none_later k later most stay =
            none_pends v (last k m) (x_at k m) (quiet_after layout v told are.can_be registers list is ended m number p answer o k later most stay) (far_at layout v volume room list groups hs are registers is all_routed k m small)

        -- before the call ended
        pub write_before : time < ended
        write_before = elim (cases_lt time ended) [
          | inl sooner ↦ sooner
          | inr late ↦
              let still = write_still in
              let low = slice_get_within told time (record { mount = m; input = w.t.input }) there in
              absurd (none-some wrote (sym (none_later (suc time) (omega (arith, late)) (omega (arith, low)) (omega (arith, still, count_is))) ∙ w.asked))
        ]

        pub last_none : last (suc ended) m ≡ None
        last_none = none_later (suc ended) (omega arith) (let low = ended_low in omega (arith, low)) (let e = o.number_is in omega (arith, e))

        -- and it came
        pub write_came : Came Writes (its (suc ended) m)
        write_came =
            let before = write_before in
            let gap : suc time + (suc ended - suc time) ≡ suc ended = omega (arith, before) in
            let low = ended_low in
            let still = write_still in
            let end = o.number_is in
            let at_end = ap (λ k. counted k m) gap in
            let have =
            asked_came layout v volume room list groups hs are registers is all_routed chunk piece of_data m small (suc ended - suc time) (suc time) wrote (omega (arith, gap, low)) (omega (arith, at_end, end, still, count_is)) (w.sectors, refl) (inl w.asked) in
            elim have [
              | inl pending ↦ absurd (none-some wrote (sym last_none ∙ ap (λ k. last k m) (sym gap) ∙ pending))
              | inr came ↦ subst (λ k. Came Writes (its k m)) gap came
            ]

    -- While the calls that touch it are apart, and had ended before a read began

    module _ (u reader reads began_then : ℕ) (read_begun : Begun began_then reader reads) (apart : CallsAreApart layout v now list u block reader reads) where
      abbrev IsTouched : (m number : ℕ) → Type 0
      IsTouched m number = Touches layout v now list u block m number

      abbrev Between : (m number n other : ℕ) → Type 0
      Between m number n other = IsOver layout v volume room list groups hs are registers is all_routed spelled few now after same m number n other

      pub over_of : (m number : ℕ) → IsTouched m number → Between m number reader reads
      over_of m number touched = is_over layout v volume room list groups hs are registers is all_routed spelled few now after same m number reader reads (apart.before m number touched)

      -- a call that touches it, in time
      pub record Touching (m number : ℕ) : Type 0 where
        pub touched : IsTouched m number
        pub began : ℕ
        pub begun : Begun began m number
        pub ended : ℕ
        pub call : Pending
        pub answer : CallAnswer
        pub over : Ended ended m number call answer
        pub order : began ≤ ended
        pub read_later : ended < began_then
        pub low : ended < length now

      pub touching : (m number : ℕ) → IsTouched m number → Touching m number
      touching m number touched =
          let o = over_of m number touched in
          let b = lasts m number o.ended o.call o.answer o.over in
          let once = begins_once layout v told o.began began_then reader reads o.begun read_begun in
          let before = o.before in
          let low_began = o.low in
          record {
            touched = touched;
            began = b.began;
            begun = b.begun;
            ended = o.ended;
            call = o.call;
            answer = o.answer;
            over = o.over;
            order = b.order;
            read_later = omega (arith, before, once);
            low = omega (arith, before, low_began);
          }

      pub write_touched : (time m : ℕ) → time < length now → WriteAt time m → IsTouched m (counted time m)
      write_touched time m low w = inl (write_touches time m w low)

      -- two that touch it: one call, or one ended before the other began
      pub data Apart (m number n other : ℕ) (a : Touching m number) (b : Touching n other) : Type 0 where
        One : m ≡ n → number ≡ other → Apart m number n other a b
        First : a.ended < b.began → Apart m number n other a b
        Last : b.ended < a.began → Apart m number n other a b

      ended_before : (m number n other : ℕ) (a : Touching m number) (b : Touching n other) → EndedBefore layout v now m number n other → a.ended < b.began
      ended_before m number n other a b e =
          let o = is_over layout v volume room list groups hs are registers is all_routed spelled few now after same m number n other e in
          let ends = over_once layout v volume room list groups hs are registers is all_routed spelled few now after same o.ended a.ended m number o.call a.call o.answer a.answer o.over a.over in
          let begins = begins_once layout v told o.began b.began n other o.begun b.begun in
          let before = o.before in
          omega (arith, before, ends, begins)

      pub are_apart : (m number n other : ℕ) (a : Touching m number) (b : Touching n other) → Apart m number n other a b
      are_apart m number n other a b = elim (apart.each m number n other a.touched b.touched) [
        | inl one ↦ One one.0 one.1
        | inr either ↦ elim either [
          | inl first_one ↦ First (ended_before m number n other a b first_one)
          | inr last_one ↦ Last (ended_before n other m number b a last_one)
        ]
      ]

      -- a write of it is in the time of its call
      pub within_call : (time m : ℕ) (low : time < length now) (w : WriteAt time m) (b : Touching m (counted time m)) → (b.began < time) × (time < b.ended)
      within_call time m low w b = (
        begun_before layout v told b.began time m (counted time m) b.begun (omega arith),
        write_before time m w b.ended (counted time m) b.call b.answer b.over refl,
      )

      abbrev Heard : (from m to : ℕ) → Type 0
      Heard from m to = IsHeard layout v volume room list groups hs are registers is all_routed chunk piece of_data from m to

      heard_to : (time m to : ℕ) (w : WriteAt time m) (b : Touching m (counted time m)) → b.ended < to → time < length now → Heard time m to
      heard_to time m to w b later low =
          let inside = within_call time m low w b in
          let less = inside.1 in
          let end_low = b.low in
          let most = now_most in
          let h =
          write_heard layout v volume room list groups hs are registers is all_routed chunk piece of_data time m (suc b.ended) w (omega (arith, less)) (omega (arith, end_low, most))
          (last_none time m w b.ended (counted time m) b.call b.answer b.over refl) in
          let below = h.below in
          record { time = h.time; above = h.above; below = omega (arith, below, later); t = h.t; there = h.there; mount_is = h.mount_is; ask = h.ask; was = h.was; at_chunk = h.at_chunk; now = h.now }

      -- While one call goes on that touches it, or the read, it alone writes it, and its reads are in turn

      module _ (m number began to : ℕ) (begun : Begun began m number) (most : to ≤ length now)
          (others : (time other : ℕ) → time < to → WriteAt time other → ((other ≡ m) × (began < time)) ⊎ ((b : Touching other (counted time other)) → b.ended < began)) where
        all_low : (time : ℕ) → time < to → time < length now
        all_low time below = omega (arith, below, most)

        its_touching : (time other : ℕ) → time < to → WriteAt time other → Touching other (counted time other)
        its_touching time other below w = touching other (counted time other) (write_touched time other (all_low time below) w)

        pub alone_then : (j other : ℕ) → suc began ≤ j → j < to → WriteAt j other → other ≡ m
        alone_then j other above below w = elim (others j other below w) [
          | inl own ↦ own.0
          | inr before ↦
              let b = its_touching j other below w in
              let ended = before b in
              let inside = within_call j other (all_low j below) w b in
              let less = inside.1 in
              absurd (omega (arith, ended, less, above))
        ]

        abbrev read_ask : Ask
        read_ask = Read chunk (eight_from (8 * piece))

        abbrev Waiting : ℕ → Type 0
        Waiting j = IsWaiting layout v volume room list groups hs are registers is all_routed chunk piece of_data j m read_ask

        pub turns_then : last (suc began) m ≡ None → (j : ℕ) → suc began ≤ j → j < to → (w : Waiting j) → InTurn layout v volume room list groups hs are registers is all_routed chunk piece of_data w.asked m j
        turns_then free j above below w = record {
          before = λ write other less wrote. elim (others write other (omega (arith, less, below)) wrote) [
            | inl own ↦ (own_before write other own.0 less wrote, inl own.0)
            | inr before ↦
                let b = its_touching write other (omega (arith, less, below)) wrote in
                let ended = before b in
                let inside = within_call write other (all_low write (omega (arith, less, below))) wrote b in
                let sooner = inside.1 in
                (omega (arith, sooner, ended, asked_late), inr (heard_to write other w.asked wrote b (omega (arith, ended, asked_late)) (all_low write (omega (arith, less, below)))))
          ];
          apart = λ write later one other less later_less a b.
              let first_low = all_low write (omega (arith, less, later_less, below)) in
              let later_low = all_low later (omega (arith, later_less, below)) in
              let x_one = touching one (counted write one) (write_touched write one first_low a) in
              let x_two = touching other (counted later other) (write_touched later other later_low b) in
              let in_one = within_call write one first_low a x_one in
              let in_two = within_call later other later_low b x_two in
              let end_one = in_one.1 in
              let start_one = in_one.0 in
              let end_two = in_two.1 in
              let start_two = in_two.0 in
              by write later one other less first_low a x_one x_two start_one start_two end_two (are_apart one (counted write one) other (counted later other) x_one x_two);
        }
          where
            asked_late : began < w.asked
            asked_late = elim (cases_lt began w.asked) [ inl later ↦ later | inr sooner ↦ absurd (none-some read_ask (sym free ∙ w.since (suc began) (omega (arith, sooner)) above)) ]

            own_before : (write other : ℕ) → other ≡ m → write < j → WriteAt write other → write < w.asked
            own_before write other own less wrote = elim (cases_lt write w.asked) [
              | inl sooner ↦ sooner
              | inr late ↦ elim (cases_eq w.asked write) [
                | inl here ↦
                    let e : Write chunk (eight_from (8 * piece)) wrote.sectors ≡ read_ask = same_Some _ _ (sym (ap (last (suc write)) (sym own) ∙ wrote.asked) ∙ w.since (suc write) (omega (arith, here)) (omega (arith, less))) in
                    absurd (cc)
                | inr later ↦ absurd (none-some read_ask (sym (ap (last write) (sym own) ∙ wrote.free) ∙ w.since write (omega (arith, late, later)) (omega (arith, less))))
              ]
            ]

            by : (write later one other : ℕ) → write < later → write < length now → (a : WriteAt write one) (x_one : Touching one (counted write one)) (x_two : Touching other (counted later other)) → x_one.began < write → x_two.began < later → later < x_two.ended
                → Apart one (counted write one) other (counted later other) x_one x_two → (one ≡ other) ⊎ Heard write one later
            by write later one other less first_low a x_one x_two start_one start_two end_two (One mounts numbers) = inl mounts
            by write later one other less first_low a x_one x_two start_one start_two end_two (First before) = inr (heard_to write one later a x_one (omega (arith, before, start_two)) first_low)
            by write later one other less first_low a x_one x_two start_one start_two end_two (Last before) = absurd (omega (arith, before, end_two, start_one, less))

      -- The calls of the list

      before_asym : (s r : Stood) → IsBefore s r → IsBefore r s → ⊥
      before_asym s r (inl a) (inl b) = omega (arith, a, b)
      before_asym s r (inl a) (inr b) = (let at_one = b.0 in omega (arith, a, at_one))
      before_asym s r (inr a) (inl b) = (let at_one = a.0 in omega (arith, b, at_one))
      before_asym s r (inr a) (inr b) = (let one = a.1 in let two = b.1 in omega (arith, one, two))

      abbrev pub in_block : ℕ → List Sector
      in_block k = in_it layout v volume room list groups hs are registers is all_routed chunk piece of_data (min k (length now))

      pub in_time : (k : ℕ) → k ≤ length now → in_block k ≡ in_it layout v volume room list groups hs are registers is all_routed chunk piece of_data k
      in_time k le = ap (λ n. in_it layout v volume room list groups hs are registers is all_routed chunk piece of_data n) (let e : min k (length now) ≡ k = omega (arith, le) in e)

      as_touching : (time m number : ℕ) → time < length now → WriteAt time m → counted time m ≡ number → Touching m number
      as_touching time m number low w cnt = subst (λ n. Touching m n) cnt (touching m (counted time m) (write_touched time m low w))

      wrote_place : (t : Tables) (fl : Fill) (k : ℕ) → block ≡ block_at t fl.inode k → (ask : Ask) → Wrote v t fl k ask → Writes ask
      wrote_place t fl k here ask wrote =
          let sectors = sectors_of 8 wrote.0 in
          let make : (c first count : ℕ) → Ask = λ c first count. Write c (record { first = first; count = count }) (sectors_of 8 wrote.0) in
          let whole : writes_block v block wrote.0 ≡ Write chunk (eight_from (8 * piece)) (sectors_of 8 wrote.0) =
          ap (λ c. make c (8 * block % v.sectors) (length (sectors_of 8 wrote.0))) (sym chunk_is) ∙ ap (λ n. make chunk n (length (sectors_of 8 wrote.0))) (sym first_is) ∙ ap (make chunk (8 * piece)) (length_cut 8 wrote.0) in
          (sectors, wrote.1 ∙ ap (λ b. writes_block v b wrote.0) (sym here) ∙ whole)

      module _ (stood : List Stood) (each : Every (Stands layout v list now) stood) (order : AreInOrder stood) (low_then : began_then < length now) (positions : Every (λ (s : Stood). (s.position < u) ⊎ (s.ended < length now)) stood) where
        abbrev pub IsRank : (time rank : ℕ) → Type 0
        IsRank time rank = (s : Stood) × (slice_get stood rank ≡ Some s) × WriteAt time s.mount × (counted time s.mount ≡ s.call.number) × (time < length now)

        module _ (rank : ℕ) (s : Stood) (at_rank : slice_get stood rank ≡ Some s) (st : Stands layout v list now s) where
          abbrev size : ℕ
          size = size_of s

          abbrev Own : (time : ℕ) → Type 0
          Own time = WriteAt time s.mount × (counted time s.mount ≡ s.call.number) × (time < length now)

          own_write : (time : ℕ) → IsRank time rank → Own time
          own_write time w = subst (λ (r : Stood). WriteAt time r.mount × (counted time r.mount ≡ r.call.number) × (time < length now)) (same_Some w.0 s (sym w.1 ∙ at_rank)) (w.2, w.3, w.4)

          stands_of : (other : ℕ) (r : Stood) → slice_get stood other ≡ Some r → Stands layout v list now r
          stands_of other r there = in_every (Stands layout v list now) stood other r each there

          goes_first : (a r : Stood) → Stands layout v list now a → Stands layout v list now r → (x : Touching a.mount a.call.number) (y : Touching r.mount r.call.number) → x.ended < y.began → IsBefore a r
          goes_first a r is_a is_r x y before =
              let order_y = y.order in
              let low_y = y.low in
              goes_before layout v volume room list groups hs are registers is all_routed spelled few now after same a r is_a is_r x.ended x.call x.answer x.over y.began y.begun before (omega (arith, order_y, low_y))

          others_of : (b : Touching s.mount s.call.number) (time other : ℕ) → time < suc b.ended → WriteAt time other → ((other ≡ s.mount) × (b.began < time)) ⊎ ((c : Touching other (counted time other)) → c.ended < b.began)
          others_of b time other below w =
              let low_b = b.low in
              let low : time < length now = omega (arith, below, low_b) in
              let c = touching other (counted time other) (write_touched time other low w) in
              by c low (are_apart s.mount s.call.number other (counted time other) b c)
            where
              by : (c : Touching other (counted time other)) → time < length now → Apart s.mount s.call.number other (counted time other) b c → ((other ≡ s.mount) × (b.began < time)) ⊎ ((c : Touching other (counted time other)) → c.ended < b.began)
              by c low (One mounts numbers) =
                  let own = ap (λ k. counted time k) mounts in
                  inl (sym mounts, begun_before layout v told b.began time s.mount s.call.number b.begun (omega (arith, numbers, own)))
              by c low (First before) = (let inside = within_call time other low w c in let start = inside.0 in absurd (omega (arith, before, start, below)))
              by c low (Last before) =
                  inr (λ d.
                  let once = over_once layout v volume room list groups hs are registers is all_routed spelled few now after same d.ended c.ended other (counted time other) d.call c.call d.answer c.answer d.over c.over in
                  omega (arith, once, before))

          puts : (came : List Exchange) (answer : CallAnswer) → GoesIn s st came answer → IsTouched s.mount s.call.number → Effect chunk (8 * piece) in_block IsRank rank came
          puts came answer goes touched =
              Puts b.began (suc b.ended) (let o = b.order in omega (arith, o))
              (λ time w.
              let own = own_write time w in
              let cnt = own.1 in
              let start = begun_before layout v told b.began time s.mount s.call.number b.begun (omega (arith, cnt)) in
              let end = write_before time s.mount own.0 b.ended s.call.number b.call b.answer b.over own.1 in
              (omega (arith, start), omega (arith, end)))
              (λ time other less w.
              let r = w.0 in
              let c = as_touching time r.mount r.call.number w.4 w.2 w.3 in
              let end = write_before time r.mount w.2 c.ended r.call.number c.call c.answer c.over w.3 in
              let before = in_order stood other rank r s order less w.1 at_rank in
              lower r (stands_of other r w.1) before c time end (are_apart s.mount s.call.number r.mount r.call.number b c))
              (λ time other more w.
              let r = w.0 in
              let c = as_touching time r.mount r.call.number w.4 w.2 w.3 in
              let cnt = w.3 in
              let start = begun_before layout v told c.began time r.mount r.call.number c.begun (omega (arith, cnt)) in
              let before = in_order stood rank other s r order more at_rank w.1 in
              higher r (stands_of other r w.1) before c time start (are_apart s.mount s.call.number r.mount r.call.number b c))
              (λ store same_store tells.
              let left = leaves store same_store in
              same_left v (tables_of s st) (size_of s) s.call.call came (its (suc b.ended) s.mount) answer real.0 goes real.1 chunk (8 * piece) store store (told_at chunk (8 * piece) store came tells) left.1 refl ∙ left.0)
            where
              b : Touching s.mount s.call.number
              b = touching s.mount s.call.number touched

              real : (its_answer : CallAnswer) × GoesIn s st (its (suc b.ended) s.mount) its_answer
              real = really s st b.ended b.call b.answer b.over b.low

              lower : (r : Stood) → Stands layout v list now r → IsBefore r s → (c : Touching r.mount r.call.number) (time : ℕ) → time < c.ended → Apart s.mount s.call.number r.mount r.call.number b c → time < b.began
              lower r is_r before c time end (One mounts numbers) = absurd (not_twice layout v volume room list groups hs are registers is all_routed spelled few now after same r s is_r st (sym mounts) (sym numbers) before)
              lower r is_r before c time end (First sooner) = absurd (before_asym s r (goes_first s r st is_r b c sooner) before)
              lower r is_r before c time end (Last sooner) = omega (arith, end, sooner)

              higher : (r : Stood) → Stands layout v list now r → IsBefore s r → (c : Touching r.mount r.call.number) (time : ℕ) → c.began < time → Apart s.mount s.call.number r.mount r.call.number b c → suc b.ended ≤ time
              higher r is_r before c time start (One mounts numbers) = absurd (not_twice layout v volume room list groups hs are registers is all_routed spelled few now after same s r st is_r mounts numbers before)
              higher r is_r before c time start (First sooner) = omega (arith, start, sooner)
              higher r is_r before c time start (Last sooner) = absurd (before_asym s r before (goes_first r s is_r st c b sooner))

              small_s : s.mount < 16
              small_s = small_of b.began s.mount (Begins b.begun.call) b.begun.there

              ended_count : counted (suc b.ended) s.mount ≤ counted (suc b.began) s.mount
              ended_count =
                  let end = b.over.number_is in
                  let more = count_begun layout v told b.began s.mount b.begun.call b.begun.there in
                  let start = b.begun.number_is in
                  omega (arith, end, more, start)

              ended_none : last (suc b.ended) s.mount ≡ None
              ended_none =
                  let low = b.low in
                  let most = now_most in
                  let end = b.over.number_is in
                  none_pends v (last (suc b.ended) s.mount) (x_at (suc b.ended) s.mount)
                  (quiet_after layout v told are.can_be registers list is b.ended s.mount s.call.number b.call b.answer b.over (suc b.ended) (omega arith) (omega (arith, low, most)) (omega (arith, end)))
                  (far_at layout v volume room list groups hs are registers is all_routed (suc b.ended) s.mount small_s)

              begun_none : last (suc b.began) s.mount ≡ None
              begun_none =
                  pends_own_is layout v volume room list groups hs are registers is all_routed b.began (record { mount = s.mount; input = Begins b.begun.call }) b.begun.there
                  ∙ begins_free layout v volume room list groups hs are registers is all_routed chunk piece of_data s.mount small_s (λ c other. []) b.began b.begun.call b.begun.there

              leaves : (store : Stored) → store chunk (8 * piece) ≡ in_block b.began → (stored_after store (its (suc b.ended) s.mount) chunk (8 * piece) ≡ in_block (suc b.ended)) × TellStoredAt chunk (8 * piece) store (its (suc b.ended) s.mount)
              leaves store same_store =
                  let o = b.order in
                  let low = b.low in
                  let most = now_most in
                  let left =
                  call_leaves_it layout v volume room list groups hs are registers is all_routed chunk piece of_data s.mount small_s store b.began (suc b.ended) b.begun.call (omega (arith, o)) (omega (arith, low, most)) b.begun.there ended_count ended_none
                  (alone_then s.mount s.call.number b.began (suc b.ended) b.begun (omega (arith, low)) (others_of b))
                  (turns_then s.mount s.call.number b.began (suc b.ended) b.begun (omega (arith, low)) (others_of b) begun_none)
                  (same_store ∙ in_time b.began (omega (arith, o, low))) in
                  (left.0 ∙ sym (in_time (suc b.ended) (omega (arith, low))), left.1)

          -- a call that does not fill it asks for no write of it
          real_write : (time : ℕ) → IsRank time rank → (ended : ℕ) × (its_answer : CallAnswer) × GoesIn s st (its (suc ended) s.mount) its_answer × Came Writes (its (suc ended) s.mount)
          real_write time w =
              let own = own_write time w in
              let b = as_touching time s.mount s.call.number own.2 own.0 own.1 in
              let real = really s st b.ended b.call b.answer b.over b.low in
              (b.ended, real.0, real.1, write_came time s.mount own.0 b.ended s.call.number b.call b.answer b.over own.1)

          fills_it : (fl : Fill) → fill_in (tables_of s st) (size_of s) s.call.call ≡ Some fl → (k : ℕ) → first_of_fill fl ≤ k → k < end_of_fill fl → block ≡ block_at (tables_of s st) fl.inode k → IsTouched s.mount s.call.number
          fills_it fl is_fill k low high here = by st refl
            where
              by : (its_st : Stands layout v list now s) → st ≡ its_st → IsTouched s.mount s.call.number
              by (Named of named_so end) is_st =
                  let t = at (suc s.position) in
                  let tables : tables_of s st ≡ t = ap (tables_of s) is_st in
                  let below : s.position < u = elim (in_every (λ (r : Stood). (r.position < u) ⊎ (r.ended < length now)) stood rank s positions at_rank) [ inl low_s ↦ low_s | inr early ↦ absurd (omega (arith, early, end)) ] in
                  inr (record {
                    position = s.position;
                    low = below;
                    value = of.value;
                    there = of.there;
                    txn = of.its.txn;
                    spells = of.its.spells;
                    mount_is = of.its.mount_is;
                    number_is = of.its.number_is;
                    call = s.call.call;
                    named = named_so;
                    fill = fl;
                    fills = fill_same t (size_of s) s.call.call ∙ ap (λ (u_t : Tables). fill_in u_t (size_of s) s.call.call) (sym tables) ∙ is_fill;
                    filled = record { index = k; low = low; high = high; is = here ∙ ap (λ (u_t : Tables). block_at u_t fl.inode k) tables };
                  })
              by (InPlace e) is_st =
                  let o = place_over layout v volume room list groups hs are registers is all_routed spelled few now after same s.position s.ended s.mount s.call e in
                  let real = really s st s.ended s.call e.answer o.0 o.2 in
                  let t = tables_of s st in
                  let wrote = each_written v t fl (its (suc s.ended) s.mount) real.0 (subst (λ (x : Moved). GoesSo v t x (its (suc s.ended) s.mount) real.0) (fills_so v t (size_of s) s.call.call fl is_fill) real.1) k low high in
                  let came = came_more (Wrote v t fl k) Writes (wrote_place t fl k here) (its (suc s.ended) s.mount) wrote in
                  let low_end = o.2 in
                  let most = now_most in
                  let asked = came_asked layout v volume room list groups hs are registers is all_routed chunk piece of_data s.mount (small_of s.ended s.mount o.0.input o.0.there) (suc s.ended) (omega (arith, low_end, most)) came in
                  let less = asked.low in
                  subst (λ n. IsTouched s.mount n) (asked.counted ∙ o.0.number_is) (write_touched asked.time s.mount (omega (arith, less, low_end)) asked.writes)

          pub effect : (came : List Exchange) (answer : CallAnswer) → GoesIn s st came answer → Effect chunk (8 * piece) in_block IsRank rank came
          effect came answer goes = by (fill_in (tables_of s st) (size_of s) s.call.call) refl
            where
              t : Tables
              t = tables_of s st

              by : (o : Option Fill) → fill_in (tables_of s st) (size_of s) s.call.call ≡ o → Effect chunk (8 * piece) in_block IsRank rank came
              by None none =
                  Leaves (λ store. only_reads chunk (8 * piece) store came (only_looks v t (size_of s) s.call.call none came answer goes))
                  (λ time w.
                  let real = real_write time w in
                  came_every Writes IsRead (its (suc real.0) s.mount) real.3 (only_looks v t (size_of s) s.call.call none (its (suc real.0) s.mount) real.1 real.2) (λ ask wrote read. subst IsRead wrote.1 read))
              by (Some fl) some = elim (find_index v t fl block (end_of_fill fl - first_of_fill fl) (first_of_fill fl)) [
                | inl found ↦ let high = found.2 in let low = found.1 in puts came answer goes (fills_it fl some found.0 found.1 (omega (arith, high, low)) found.3)
                | inr none ↦
                    let as_fill : (es : List Exchange) (a : CallAnswer) → GoesIn s st es a → GoesSo v t (fills_file v t fl) es a = λ es a of. subst (λ (x : Moved). GoesSo v t x es a) (fills_so v t (size_of s) s.call.call fl some) of in
                    Leaves
                    (fill_elsewhere v t fl came answer (as_fill came answer goes) chunk (8 * piece)
                    (λ k low high place. none k low (omega (arith, low, high)) (one_block v some_sectors block (block_at t fl.inode k) (sym chunk_is ∙ place.0) (sym first_is ∙ place.1))))
                    (λ time w.
                    let real = real_write time w in
                    came_every Writes (IsAskOf v t fl) (its (suc real.0) s.mount) real.3 (fill_asks v t fl (its (suc real.0) s.mount) real.1 (as_fill (its (suc real.0) s.mount) real.1 real.2))
                    (λ ask wrote of.
                    let k = asks_its_block v t fl some_sectors ask of block (ap chunk_of wrote.1 ∙ chunk_is, ap (λ a. (span_of a).first) wrote.1 ∙ first_is) in
                    let high = k.2 in
                    let low = k.1 in
                    none k.0 k.1 (omega (arith, high, low)) (sym k.3)))
              ]

        -- each write of it is by a call of the list

        module _ (late : (n : ℕ) → n < 16 → (x_at began_then n).upto ≤ u) (begun_by : (k n number : ℕ) → k < u → IsOf list k n number → number ≤ length (calls_of now n))
            (places : (position time m : ℕ) (p : Pending) → position ≤ u → EndsInPlace layout v list now position time m p → Has stood (record { mount = m; call = p; position = position; ended = time }))
            (named : (position m number : ℕ) (call : FileCall) → position < u → IsOf list position m number → call_numbered (calls_of now m) number ≡ Some call
            → Has stood (record { mount = m; call = record { number = number; call = call }; position = position; ended = length now })) where
          module _ (time m : ℕ) (low : time < length now) (w : WriteAt time m) where
            b : Touching m (counted time m)
            b = touching m (counted time m) (write_touched time m low w)

            n : (b.call.number ≡ counted time m) × (0 < counted time m) × (call_named told m (counted time m) ≡ Some b.call.call)
            n = ended_number b.ended m (counted time m) b.call b.answer b.over

            small_m : m < 16
            small_m = small_of b.ended m b.over.input b.over.there

            abbrev upto : ℕ
            upto = (x_at (suc b.ended) m).upto

            upto_low : upto ≤ u
            upto_low =
                let read_later = b.read_later in
                let grows = upto_at layout v volume room list groups hs are registers is all_routed spelled few now after same (suc b.ended) began_then m small_m (omega (arith, read_later)) in
                let most = late m small_m in
                omega (arith, grows, most)

            ended_in_told : b.ended < length told
            ended_in_told = (let end_low = b.low in let most = now_most in omega (arith, end_low, most))

            abbrev the_end : MountTold
            the_end = record { mount = m; input = b.over.input }

            now_there : slice_get now b.ended ≡ Some (record { mount = m; input = b.over.input })
            now_there =
                let it = something_there now b.ended b.low in
                it.1 ∙ sym (ap (λ us. slice_get us b.ended) same ∙ at_front now after b.ended it.0 it.1) ∙ b.over.there

            is_rank : (s : Stood) → s.mount ≡ m → s.call.number ≡ counted time m → Has stood s → (rank : ℕ) × IsRank time rank
            is_rank s mount number has =
                (has.0, (s, has.1, subst (λ k. WriteAt time k) (sym mount) w, ap (λ k. counted time k) mount ∙ sym number, low))

            none_of : HasNoneBelow list v m b.call upto → has_no_call list m (mount_after (x_at b.ended m) b.over.input).files.calls ≡ true
            none_of none =
                let life = life_next layout v told are.can_be registers list is b.ended m b.over.input b.over.there in
                let calls_is = calls_count layout v (take (suc b.ended) told) m in
                let end = b.over.number_is in
                let number_is = n.0 in
                let same_calls : (mount_after (x_at b.ended m) b.over.input).files.calls ≡ b.call.number = sym (ap (λ (x : MountIs). x.files.calls) life) ∙ (let e : (x_at (suc b.ended) m).files.calls ≡ b.call.number = omega (arith, calls_is, end, number_is) in e) in
                ap (λ i. has_no_call list m i) same_calls ∙ ap not (none_passes (λ value. is_txn_of m b.call.number (txn_in value)) list (λ k value at_k.
                by_test (is_txn_of m b.call.number (txn_in value)) (λ c. is_txn_of m b.call.number (txn_in value) ≡ c → is_txn_of m b.call.number (txn_in value) ≡ false)
                (λ _ own. absurd (own_there k value at_k own)) (λ _ other. other) refl))
              where
                own_there : (k : ℕ) (value : List ℕ) → slice_get list k ≡ Some value → is_txn_of m b.call.number (txn_in value) ≡ true → ⊥
                own_there k value at_k own =
                    let spells = own_txn m b.call.number value (txn_in value) refl own in
                    let rest : told ≡ take (suc b.ended) told ++ drop (suc b.ended) told = sym (take-append-drop (suc b.ended) told) in
                    let calls_is = calls_count layout v (take (suc b.ended) told) m in
                    let end = b.over.number_is in
                    let number_is = n.0 in
                    let its_number = spells.number_is in
                    let below =
                    ended_below layout v told are.can_be registers list is few (take (suc b.ended) told) (drop (suc b.ended) told) m rest small_m k value spells.txn at_k spells.spells spells.mount_is
                    (inr (omega (arith, its_number, number_is, calls_is, end), over_rests layout v volume room list groups hs are registers is all_routed spelled few now after same b.ended m (counted time m) b.call b.answer b.over n.1)) in
                    none k below (record { value = value; there = at_k; its = spells })

            in_place : EndsPlain list v m b.call (layout_of layout).first upto (its (suc b.ended) m) b.answer → (rank : ℕ) × IsRank time rank
            in_place plain = elim plain.how [
              | inl refused ↦ absurd (subst (Came Writes) refused.3 (write_came time m w b.ended (counted time m) b.call b.answer b.over refl))
              | inr looked ↦
                  let life = life_next layout v told are.can_be registers list is b.ended m b.over.input b.over.there in
                  let before = take_now layout v volume room list groups hs are registers is all_routed spelled few now after same b.ended (let end_low = b.low in omega (arith, end_low)) in
                  let e : EndsInPlace layout v list now upto b.ended m b.call = record {
                    answer = b.answer;
                    at = record {
                      first = take b.ended told;
                      input = b.over.input;
                      rest = drop (suc b.ended) now;
                      now_is = at_place now b.ended the_end now_there ∙ ap (λ us. us ++ the_end ∷ drop (suc b.ended) now) before;
                      time_is = length-take-le b.ended told (let in_told = ended_in_told in omega (arith, in_told));
                      ends = b.over.ends;
                      was = b.over.was;
                    };
                    upto = sym (ap (λ (x : MountIs). x.upto) life);
                    none = none_of plain.none;
                    done = all_well v (at upto) b.call.call (data_moves v (at upto) plain.size b.call.call) (its (suc b.ended) m) b.answer (begins_well v (at upto) plain.size b.call.call b.call.call) looked.1;
                  } in
                  is_rank (record { mount = m; call = b.call; position = upto; ended = b.ended }) refl n.0 (places upto b.ended m b.call upto_low e)
            ]

            behind : EndsOwn list v m b.call upto (its (suc b.ended) m) b.answer → (rank : ℕ) × IsRank time rank
            behind own =
                let last_is = own.last_is in
                let most = upto_low in
                let below : own.position < u = omega (arith, last_is, most) in
                let few_begun = begun_by own.position m b.call.number below own.own in
                let some = n.1 in
                let number_is = n.0 in
                let there = numbered_there (calls_of now m) b.call.number (omega (arith, some, number_is)) few_begun in
                is_rank (record { mount = m; call = record { number = b.call.number; call = there.0 }; position = own.position; ended = length now }) refl n.0 (named own.position m b.call.number there.0 below own.own there.1)

            pub rank_of : (rank : ℕ) × IsRank time rank
            rank_of = by (lasts m (counted time m) b.ended b.call b.answer b.over).goes
              where
                by : Ends list v m b.call (layout_of layout).first upto (its (suc b.ended) m) b.answer → (rank : ℕ) × IsRank time rank
                by (inl plain) = in_place plain
                by (inr own) = behind own
