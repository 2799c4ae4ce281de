-- What a call leaves in a block as time goes on, while no other writes the block: what its exchanges leave.
use Rattle.std.proofs.Common.{◌≡◌, ◌≢◌, inl, inr, ℕ, zero, suc, ◌+◌, ◌-◌, ◌*◌, ◌<◌, ◌≤◌, ◌==◌, ◌&&◌, true, if◌then◌else◌, List, [], ◌∷◌, ◌++◌, drop, length, take, Option, Some, None, slice_get, arith, refl, sym, ap, subst, ◌∙◌, append-nil}
use Rattle.std.proofs.lemmas.Bool.{and_parts, cases_eq, cases_lt, cond-false, cond-true, eq-eqb, eqb-true, ne_eqb}
use Rattle.std.proofs.lemmas.List.Sums.{fold-append}
use Rattle.std.proofs.lemmas.Option.{none-some, same_Some}
use Rattle.pf_base.specs.Asks.{chunk_of}
use Rattle.pf_base.specs.Span.{Span}
use Rattle.pf_base.specs.declared.asks.Ask.{Ask}
use Rattle.pf_base.specs.declared.asks.Ask.TheVariants.{Write, Read}
use Rattle.pf_base.specs.declared.asks.Reply.{Reply}
use Rattle.pf_base.specs.declared.asks.Reply.TheVariants.{Written, Bytes}
use Rattle.pf_entry.specs.Ops.{Sector}
use Rattle.pf_entry.specs.Lists.{Every}
use Rattle.pf_entry.proofs.Cases.{by_test}
use Rattle.pf_entry.proofs.Lists.{every_append}
use Rattle.pf_law_epochs.specs.InTurn.{eight_from}
use Rattle.pf_volume.specs.Volumes.{Extent, IsVolume}
use Rattle.pf_journal.specs.declared.layouts.Layout.{Layout}
use Rattle.pf_journal.specs.Layouts.{VolumeHasRoom}
use Rattle.pf_tree.specs.Calls.{FileCall}
use Rattle.pf_file_calls.specs.declared.calls.Pending.{Pending}
use Rattle.pf_mount_errands.specs.Positions.{anchors_of}
use Rattle.pf_mount.specs.Mounts.{MountIs, anchor_hands, stand_of}
use Rattle.pf_mount.specs.declared.work.MountWork.{MountWork}
use Rattle.pf_mount.specs.declared.work.MountWork.TheVariants.{Rests}
use Rattle.pf_law_plans.specs.Exchanges.{Exchange}
use Rattle.pf_law_plans.proofs.Lists.{take_one_more}
use Rattle.pf_law_contents.specs.Stored.{Stored, TellStoredAt, TellsStoredAt, stored_after, stored_by}
use Rattle.pf_law_contents.proofs.PlacesLeft.{told_at_on}
use Rattle.pf_law_calls.specs.Doings.{HaveRegisters, IsListOf}
use Rattle.pf_law_calls.specs.Lives.{Asks, Begins, CanBe, CanComeFrom, Hears, Input, MountTold, all_opened, lives}
use Rattle.pf_law_calls.specs.Trees.{call_begun, call_in_input}
use Rattle.pf_law_calls.proofs.Lists.{something_there}
use Rattle.pf_law_calls.proofs.Parts.{can_after}
use Rattle.pf_law_calls.specs.Exchanges.{exchange, exchanged, pends_after, pends_with}
use Rattle.pf_law_calls.specs.Since.{exchanges_since, pends, since_after}
use Rattle.pf_law_calls.proofs.DataByMoment.{since_on}
use Rattle.pf_law_homes.specs.Chunks.{ChunkGroups}
use Rattle.pf_law_homes.specs.Routed.{AreRoutedChunks}
use Rattle.pf_law_events.specs.Events.{MountsAreServed, Happening, port_events, mounts_told}
use Rattle.pf_law_files.specs.Blocks.{is_data_piece}
use Rattle.pf_law_files.proofs.MountAsks.{IsFar, MovesNow, pending_data}
use Rattle.pf_law_files.proofs.Blocks.{block_eight}
use Rattle.pf_law_files.proofs.Heard.{AreInTurnThen, HeardBetween, Waits, WritesThen, all_wait, new_ask, pends_other, pends_own, tells_put, told_at}
use Rattle.pf_law_files.proofs.CallTimes.{at_time, count, count_grows, none_begins, count_still}
use Rattle.pf_law_files.proofs.Pieces.{far_through}
use Rattle.pf_law_files.proofs.BlockHistory.{put_ask, put_in, put_more, went_out}
use Rattle.pf_law_files.proofs.SerialAsks.{IsDataAsk, at_place}

module _ (layout : Layout) (v : Extent) (volume : IsVolume v) (room : VolumeHasRoom layout v) (list : List (List ℕ)) (groups : (chunk : ℕ) → ChunkGroups) (hs : List Happening) (are : MountsAreServed layout v hs) (registers : HaveRegisters layout v (mounts_told hs))
    (is : IsListOf layout v (mounts_told hs) list) (all_routed : AreRoutedChunks v groups (port_events layout v hs)) where
  abbrev told : List MountTold
  told = mounts_told hs

  abbrev pub x_at : (k m : ℕ) → MountIs
  x_at k m = at_time layout v told k m

  abbrev pub its_at : (k m : ℕ) → List Exchange
  its_at k m = exchanges_since layout v (take k told) m

  abbrev pub last_at : (k m : ℕ) → Option Ask
  last_at k m = pends layout v (take k told) m

  pub far_at : (k m : ℕ) → m < 16 → IsFar v (last_at k m) (x_at k m)
  far_at k m small = far_through layout v volume told list are.can_be registers is k m small

  abbrev Writes : (chunk piece time m : ℕ) → Type 0
  Writes chunk piece time m = (of_data : is_data_piece layout v chunk piece ≡ true) → WritesThen layout v volume room list groups hs are registers is all_routed chunk piece of_data time m

  pub mount_low : (k : ℕ) (t : MountTold) → slice_get told k ≡ Some t → t.mount < 16
  mount_low k t at = (told_at layout v volume room list groups hs are registers is all_routed k t at).low

  pub pends_own_is : (k : ℕ) (t : MountTold) → slice_get told k ≡ Some t → last_at (suc k) t.mount ≡ pends_after (x_at k t.mount) (last_at k t.mount) t.input
  pends_own_is k t at = pends_own layout v volume room list groups hs are registers is all_routed k t at

  pub pends_other_is : (k : ℕ) (t : MountTold) → slice_get told k ≡ Some t → (m : ℕ) → m ≢ t.mount → last_at (suc k) m ≡ last_at k m
  pends_other_is k t at m apart = pends_other layout v volume room list groups hs are registers is all_routed k t at m apart

  -- what is pending at the port is so until it is heard
  pub stays_pending : (k m : ℕ) (t : MountTold) → slice_get told k ≡ Some t → (ask other : Ask) → last_at k m ≡ Some ask → last_at (suc k) m ≡ Some other → ask ≡ other
  stays_pending k m t at ask other was now = elim (cases_eq m t.mount) [
    | inr apart ↦ same_Some ask other (sym was ∙ sym (pends_other_is k t at m apart) ∙ now)
    | inl own ↦
        let o = told_at layout v volume room list groups hs are registers is all_routed k t at in
        elim
        (new_ask layout v volume room list groups hs are registers is all_routed k t at (last_at k t.mount) (pends_after (x_at k t.mount) (last_at k t.mount) t.input) o.event (exchanged (x_at k t.mount) (last_at k t.mount) t.input) o.kind o.at other
        (sym (pends_own_is k t at) ∙ ap (last_at (suc k)) (sym own) ∙ now)) [
          | inl before ↦ same_Some ask other (sym was ∙ ap (last_at k) own ∙ before)
          | inr new ↦ absurd (none-some ask (sym new.0 ∙ ap (last_at k) (sym own) ∙ was))
        ]
  ]

  module _ (chunk piece : ℕ) (of_data : is_data_piece layout v chunk piece ≡ true) where
    abbrev pub IsWrite : (time m : ℕ) → Type 0
    IsWrite time m = WritesThen layout v volume room list groups hs are registers is all_routed chunk piece of_data time m

    abbrev pub IsHeard : (from m to : ℕ) → Type 0
    IsHeard from m to = HeardBetween layout v volume room list groups hs are registers is all_routed chunk piece of_data from m to

    abbrev pub InTurn : (asked m time : ℕ) → Type 0
    InTurn asked m time = AreInTurnThen layout v volume room list groups hs are registers is all_routed chunk piece of_data asked m time

    abbrev pub IsWaiting : (k m : ℕ) → Ask → Type 0
    IsWaiting k m ask = Waits layout v volume room list groups hs are registers is all_routed k m ask

    abbrev f : ℕ
    f = 8 * piece

    abbrev pub in_it : ℕ → List Sector
    in_it k = put_in chunk f layout v (take k told)

    -- it is heard now, or it stays pending
    heard_next : (n k m from : ℕ) (ask : Ask) → from < k → k + suc n ≤ length told → chunk_of ask ≡ chunk → last_at k m ≡ Some ask → (last_at (suc k) m ≡ Some ask → IsHeard from m (k + suc n)) → IsHeard from m (k + suc n)
    heard_next n k m from ask above most here was still = by (last_at (suc k) m) refl
      where
        it : (t : MountTold) × (slice_get told k ≡ Some t)
        it = something_there told k (omega (arith, most))

        by : (o : Option Ask) → last_at (suc k) m ≡ o → IsHeard from m (k + suc n)
        by (Some other) some = still (some ∙ ap Some (sym (stays_pending k m it.0 it.1 ask other was some)))
        by None none = record {
          time = k;
          above = above;
          below = omega arith;
          t = it.0;
          there = it.1;
          mount_is = elim (cases_eq m it.0.mount) [ inl own ↦ sym own | inr apart ↦ absurd (none-some ask (sym none ∙ pends_other_is k it.0 it.1 m apart ∙ was)) ];
          ask = ask;
          was = was;
          at_chunk = here;
          now = none;
        }

    -- what was asked is heard by the time at which nothing is pending
    heard_by : (n k m from : ℕ) (ask : Ask) → from < k → k + n ≤ length told → chunk_of ask ≡ chunk → last_at k m ≡ Some ask → last_at (k + n) m ≡ None → IsHeard from m (k + n)
    heard_by zero k m from ask above most here was now = absurd (none-some ask (sym now ∙ ap (λ i. last_at i m) (let same : k + 0 ≡ k = omega arith in same) ∙ was))
    heard_by (suc n) k m from ask above most here was now =
        let next : suc k + n ≡ k + suc n = omega arith in
        heard_next n k m from ask above most here was
        (λ still. subst (IsHeard from m) next (heard_by n (suc k) m from ask (omega (arith, above)) (omega (arith, most)) here still (ap (λ i. last_at i m) next ∙ now)))

    pub write_heard : (time m to : ℕ) → IsWrite time m → time < to → to ≤ length told → last_at to m ≡ None → IsHeard time m to
    write_heard time m to w below most none =
        let gap : suc time + (to - suc time) ≡ to = omega (arith, below) in
        subst (IsHeard time m) gap (heard_by (to - suc time) (suc time) m time (Write chunk (eight_from f) w.sectors) (omega arith) (omega (arith, gap, most)) refl w.asked (ap (λ i. last_at i m) gap ∙ none))

    -- What is in the block stays while none writes it

    no_ask_of : (k : ℕ) (t : MountTold) → slice_get told k ≡ Some t → (IsWrite k t.mount → ⊥) → (was now : Option Ask) → last_at k t.mount ≡ was → last_at (suc k) t.mount ≡ now → (old : List Sector) → put_ask chunk f old (went_out was now) ≡ old
    no_ask_of k t at none (Some ask) now is_was is_now old = refl
    no_ask_of k t at none None None is_was is_now old = refl
    no_ask_of k t at none None (Some (Read from span)) is_was is_now old = refl
    no_ask_of k t at none None (Some (Write to span sectors)) is_was is_now old =
        by_test ((chunk == to) && (f == span.first)) (λ b. (if b then sectors else old) ≡ old)
        (λ both.
        let parts = and_parts (chunk == to) (f == span.first) both in
        let o = told_at layout v volume room list groups hs are registers is all_routed k t at in
        let new =
        new_ask layout v volume room list groups hs are registers is all_routed k t at (last_at k t.mount) (pends_after (x_at k t.mount) (last_at k t.mount) t.input) o.event (exchanged (x_at k t.mount) (last_at k t.mount) t.input) o.kind o.at (Write to span sectors)
        (sym (pends_own_is k t at) ∙ is_now) in
        elim new [
          | inl before ↦ absurd (none-some (Write to span sectors) (sym is_was ∙ before))
          | inr its ↦
              let eight = block_eight layout v volume volume.blocks.0 volume.blocks.1 (Write to span sectors) its.1.data_ask.block in
              let make : (first count : ℕ) → Span = λ first count. record { first = first; count = count } in
              let span_is : span ≡ eight_from f = ap (λ n. make n span.count) (sym (eqb-true f span.first parts.1)) ∙ ap (make f) eight in
              absurd (none (record {
                t = t;
                there = at;
                mount_is = refl;
                free = is_was;
                sectors = sectors;
                asked = is_now ∙ ap (λ c. Some (Write c span sectors)) (sym (eqb-true chunk to parts.0)) ∙ ap (λ s. Some (Write chunk s sectors)) span_is;
              }))
        ])
        (λ _. refl)

    in_next : (k : ℕ) (t : MountTold) → slice_get told k ≡ Some t → in_it (suc k) ≡ put_ask chunk f (in_it k) (went_out (last_at k t.mount) (last_at (suc k) t.mount))
    in_next k t at =
        ap (put_in chunk f layout v) (take_one_more told k t at) ∙ put_more chunk f layout v (take k told) t
        ∙ ap (λ o. put_ask chunk f (in_it k) (went_out (last_at k t.mount) o)) (sym (pends_own_is k t at))

    in_still : (k : ℕ) (t : MountTold) → slice_get told k ≡ Some t → (IsWrite k t.mount → ⊥) → in_it (suc k) ≡ in_it k
    in_still k t at none = in_next k t at ∙ no_ask_of k t at none (last_at k t.mount) (last_at (suc k) t.mount) refl refl (in_it k)

    pub in_stays : (n k : ℕ) → k + n ≤ length told → ((j m : ℕ) → k ≤ j → j < k + n → IsWrite j m → ⊥) → in_it (k + n) ≡ in_it k
    in_stays zero k most none = ap in_it (let same : k + 0 ≡ k = omega arith in same)
    in_stays (suc n) k most none =
        let it = something_there told (k + n) (omega (arith, most)) in
        ap in_it (let next : k + suc n ≡ suc (k + n) = omega arith in next)
        ∙ in_still (k + n) it.0 it.1 (none (k + n) it.0.mount (omega arith) (omega arith))
        ∙ in_stays n k (omega (arith, most)) (λ j m above below. none j m above (omega (arith, below)))

    -- A call that alone writes it

    module _ (m : ℕ) (small : m < 16) (r : Stored) where
      -- so far
      record IsKept (k : ℕ) : Type 0 where
        holds : put_ask chunk f (stored_after r (its_at k m) chunk f) (last_at k m) ≡ in_it k
        tells : TellStoredAt chunk f r (its_at k m)

      stored_there : (s : Stored) (ask : Ask) → stored_by s ask chunk f ≡ put_ask chunk f (s chunk f) (Some ask)
      stored_there s (Write to span sectors) = refl
      stored_there s (Read from span) = refl

      -- another mount's input
      other_kept : (k : ℕ) (t : MountTold) → slice_get told k ≡ Some t → m ≢ t.mount → (IsWrite k t.mount → ⊥) → IsKept k → IsKept (suc k)
      other_kept k t at apart none kept =
          let last = pends_other_is k t at m apart in
          let its : its_at (suc k) m ≡ its_at k m =
          ap (λ us. exchanges_since layout v us m) (take_one_more told k t at) ∙ since_on (all_opened layout v) m None [] (take k told) (t ∷ []) ∙ cond-false (m == t.mount) _ (its_at k m) (ne_eqb m t.mount apart) in record {
            holds = ap (λ came. put_ask chunk f (stored_after r came chunk f) (last_at (suc k) m)) its ∙ ap (put_ask chunk f (stored_after r (its_at k m) chunk f)) last ∙ kept.holds ∙ sym (in_still k t at none);
            tells = subst (TellStoredAt chunk f r) (sym its) kept.tells;
          }

      -- its own
      module _ (k : ℕ) (input : Input) (at : slice_get told k ≡ Some (record { mount = m; input = input })) (kept : IsKept k) where
        abbrev x : MountIs
        x = x_at k m

        abbrev last : Option Ask
        last = last_at k m

        abbrev its : List Exchange
        its = its_at k m

        its_next : its_at (suc k) m ≡ since_after x last its input
        its_next =
            ap (λ us. exchanges_since layout v us m) (take_one_more told k (record { mount = m; input = input }) at) ∙ since_on (all_opened layout v) m None [] (take k told) (record { mount = m; input = input } ∷ [])
            ∙ cond-true (m == m) (since_after x last its input) its (eq-eqb m m refl)

        last_next : last_at (suc k) m ≡ pends_after x last input
        last_next = pends_own_is k (record { mount = m; input = input }) at

        -- with these
        made : (came : List Exchange) (now : Option Ask) → since_after x last its input ≡ came → pends_after x last input ≡ now → put_ask chunk f (stored_after r came chunk f) now ≡ put_ask chunk f (in_it k) (went_out last now) → TellStoredAt chunk f r came → IsKept (suc k)
        made came now is_came is_now same tells = record {
          holds =
              ap (λ es. put_ask chunk f (stored_after r es chunk f) (last_at (suc k) m)) (its_next ∙ is_came) ∙ ap (put_ask chunk f (stored_after r came chunk f)) (last_next ∙ is_now) ∙ same
              ∙ ap (λ o. put_ask chunk f (in_it k) (went_out last o)) (sym is_now ∙ sym last_next) ∙ sym (in_next k (record { mount = m; input = input }) at);
          tells = subst (TellStoredAt chunk f r) (sym is_came ∙ sym its_next) tells;
        }

        -- nothing is asked or answered
        nothing_made : (o : Option Ask) → last ≡ o → put_ask chunk f (stored_after r its chunk f) last ≡ put_ask chunk f (in_it k) (went_out last last)
        nothing_made None is_last = kept.holds ∙ sym (ap (λ o. put_ask chunk f (in_it k) (went_out o o)) is_last)
        nothing_made (Some ask) is_last = kept.holds ∙ sym (ap (λ o. put_ask chunk f (in_it k) (went_out o o)) is_last)

        quiet_kept : since_after x last its input ≡ its → pends_after x last input ≡ last → IsKept (suc k)
        quiet_kept same_its same_last = made its last same_its same_last (nothing_made last refl) kept.tells

        -- an ask goes out
        asks_kept : (now : Option Ask) → last ≡ None → since_after x last its input ≡ its → pends_after x last input ≡ now → IsKept (suc k)
        asks_kept now free same_its is_now =
            made its now same_its is_now
            (ap (λ old. put_ask chunk f old now) (ap (put_ask chunk f (stored_after r its chunk f)) (sym free) ∙ kept.holds) ∙ ap (λ o. put_ask chunk f (in_it k) (went_out o now)) (sym free)) kept.tells

        -- one is answered
        heard_kept : (ask : Ask) (reply : Reply) → last ≡ Some ask → since_after x last its input ≡ its ++ (ask, reply) ∷ [] → pends_after x last input ≡ None → TellsStoredAt chunk f (stored_after r its) ask reply → IsKept (suc k)
        heard_kept ask reply was its_are none tells_it =
            made (its ++ (ask, reply) ∷ []) None its_are none
            (ap (λ (s : Stored). s chunk f) (fold-append (λ s (e : Exchange). stored_by s e.0) r its ((ask, reply) ∷ [])) ∙ stored_there (stored_after r its) ask ∙ ap (put_ask chunk f (stored_after r its chunk f)) (sym was) ∙ kept.holds
            ∙ ap (λ o. put_ask chunk f (in_it k) (went_out o None)) (sym was))
            (told_at_on chunk f its ((ask, reply) ∷ []) r kept.tells (tells_it, tt))

      -- an ask at a port, where one may be pending
      asks_at : (k port : ℕ) → slice_get told k ≡ Some (record { mount = m; input = Asks port }) → IsKept k → IsKept (suc k)
      asks_at k port at kept = by (last_at k m) refl
        where
          by : (o : Option Ask) → last_at k m ≡ o → IsKept (suc k)
          by None free = asks_kept k (Asks port) at kept (pends_after (x_at k m) (last_at k m) (Asks port)) free refl refl
          by (Some ask) was =
              let pending = pending_data v (last_at k m) (x_at k m) ask was (far_at k m small) in
              quiet_kept k (Asks port) at kept refl
              (by_test (port == anchors_of (x_at k m).position) (λ b. (if b then pends_with (last_at k m) (if b then (x_at k m).task.ask else (anchor_hands (stand_of (x_at k m)) (x_at k m).task.work port).ask) else last_at k m) ≡ last_at k m)
              (λ _. ap (pends_with (last_at k m)) pending.nothing) (λ _. refl))

      hears_at : (k port : ℕ) (reply : Reply) → slice_get told k ≡ Some (record { mount = m; input = Hears port reply })
          → ((ask : Ask) → last_at k m ≡ Some ask → exchanged (x_at k m) (last_at k m) (Hears port reply) ≡ (ask, reply) ∷ [] → TellsStoredAt chunk f (λ c from. in_it k) ask reply) → IsKept k → IsKept (suc k)
      hears_at k port reply at tell kept =
          by_test (port == anchors_of (x_at k m).position) (λ b. port == anchors_of (x_at k m).position ≡ b → IsKept (suc k))
          (λ _ here. by here (last_at k m) refl)
          (λ _ elsewhere.
          quiet_kept k (Hears port reply) at kept
          (ap (λ came. its_at k m ++ came) (cond-false (port == anchors_of (x_at k m).position) (exchange (last_at k m) reply) [] elsewhere) ∙ append-nil (its_at k m))
          (cond-false (port == anchors_of (x_at k m).position) None (last_at k m) elsewhere))
          refl
        where
          by : port == anchors_of (x_at k m).position ≡ true → (o : Option Ask) → last_at k m ≡ o → IsKept (suc k)
          by here None free =
              quiet_kept k (Hears port reply) at kept
              (ap (λ came. its_at k m ++ came) (cond-true (port == anchors_of (x_at k m).position) (exchange (last_at k m) reply) [] here ∙ ap (λ o. exchange o reply) free) ∙ append-nil (its_at k m))
              (cond-true (port == anchors_of (x_at k m).position) None (last_at k m) here ∙ sym free)
          by here (Some ask) was =
              let came = cond-true (port == anchors_of (x_at k m).position) (exchange (last_at k m) reply) [] here ∙ ap (λ o. exchange o reply) was in
              heard_kept k (Hears port reply) at kept ask reply was (ap (λ es. its_at k m ++ es) came) (cond-true (port == anchors_of (x_at k m).position) None (last_at k m) here)
              (read_so ask reply (tell ask was came) (ap (put_ask chunk f (stored_after r (its_at k m) chunk f)) (sym was) ∙ kept.holds))
            where
              -- a read asks for what is in it
              read_so : (a : Ask) (reply : Reply) → TellsStoredAt chunk f (λ c from. in_it k) a reply → put_ask chunk f (stored_after r (its_at k m) chunk f) (Some a) ≡ in_it k → TellsStoredAt chunk f (stored_after r (its_at k m)) a reply
              read_so (Write to span sectors) reply tells same = tt
              read_so (Read from span) Written tells same = tt
              read_so (Read from span) (Bytes sectors) tells same = λ chunk_is first_is. tells chunk_is first_is ∙ sym same

      -- Up to its end

      first_free : (q : Option Pending) (work : MountWork) (last next : Option Ask) → MovesNow v last next q work → work ≡ Rests → last ≡ None
      first_free q work last next far rests = (subst (MovesNow v last next q) rests far).0

      pub begins_free : (k : ℕ) (call : FileCall) → slice_get told k ≡ Some (record { mount = m; input = Begins call }) → last_at k m ≡ None
      begins_free k call at =
          let t : MountTold = record { mount = m; input = Begins call } in
          let can : CanComeFrom (lives layout v (take k told)) (t ∷ drop (suc k) told) = can_after (all_opened layout v) (take k told) (t ∷ drop (suc k) told) (subst (CanBe layout v) (at_place told k t at) are.can_be) in
          let x = x_at k m in
          first_free x.files.pending x.task.work (last_at k m) x.task.ask (far_at k m small) can.0.takes

      kept_first : (k : ℕ) (call : FileCall) → slice_get told k ≡ Some (record { mount = m; input = Begins call }) → r chunk f ≡ in_it k → IsKept (suc k)
      kept_first k call at same =
          let t : MountTold = record { mount = m; input = Begins call } in
          let free = begins_free k call at in
          let its : its_at (suc k) m ≡ [] =
          ap (λ us. exchanges_since layout v us m) (take_one_more told k t at) ∙ since_on (all_opened layout v) m None [] (take k told) (t ∷ [])
          ∙ cond-true (m == m) (since_after (x_at k m) (last_at k m) (its_at k m) (Begins call)) (its_at k m) (eq-eqb m m refl) in
          let later : last_at (suc k) m ≡ None = pends_own_is k t at ∙ free in
          record {
            holds =
                ap (λ es. put_ask chunk f (stored_after r es chunk f) (last_at (suc k) m)) its ∙ ap (put_ask chunk f (r chunk f)) later ∙ same
                ∙ sym (in_next k t at ∙ ap (λ o. put_ask chunk f (in_it k) (went_out o (last_at (suc k) m))) free ∙ ap (put_ask chunk f (in_it k)) later);
            tells = subst (TellStoredAt chunk f r) (sym its) tt;
          }

      module _ (from to : ℕ) (most : to ≤ length told) (free : last_at from m ≡ None) (alone : (j other : ℕ) → from ≤ j → j < to → IsWrite j other → other ≡ m)
          (turns : (j : ℕ) → from ≤ j → j < to → (w : IsWaiting j m (Read chunk (eight_from f))) → InTurn w.asked m j) where
        -- what is read is in it
        tells_in : (k port : ℕ) (reply : Reply) → from ≤ k → k < to → slice_get told k ≡ Some (record { mount = m; input = Hears port reply })
            → (ask : Ask) → last_at k m ≡ Some ask → exchanged (x_at k m) (last_at k m) (Hears port reply) ≡ (ask, reply) ∷ [] → TellsStoredAt chunk f (λ c other. in_it k) ask reply
        tells_in k port reply above below at (Write to_chunk span sectors) was came = tt
        tells_in k port Written above below at (Read from_chunk span) was came = tt
        tells_in k port (Bytes sectors) above below at (Read from_chunk span) was came = λ chunk_is first_is.
            let low : k < length told = omega (arith, below, most) in
            let first_wait = all_wait layout v volume room list groups hs are registers is all_routed k low m small (Read from_chunk span) was in
            let eight = block_eight layout v volume volume.blocks.0 volume.blocks.1 (Read from_chunk span) first_wait.data_ask.block in
            let make : (first count : ℕ) → Span = λ first count. record { first = first; count = count } in
            let span_is : span ≡ eight_from f = ap (λ n. make n span.count) first_is ∙ ap (make f) eight in
            let read_is : Read from_chunk span ≡ Read chunk (eight_from f) = ap (λ c. Read c span) chunk_is ∙ ap (Read chunk) span_is in
            let told_so =
            tells_put layout v volume room list groups hs are registers is all_routed chunk piece of_data k (record { mount = m; input = Hears port (Bytes sectors) }) at sectors (came ∙ ap (λ (a : Ask). (a, Bytes sectors) ∷ []) read_is)
            (λ w. turns k above below w) in
            told_so.1 ∙ waits_still k above below told_so.0
          where
            waits_still : (k : ℕ) → from ≤ k → k < to → (w : IsWaiting k m (Read chunk (eight_from f))) → in_it w.asked ≡ in_it k
            waits_still k above below w =
                let low = w.low in
                let gap : w.asked + (k - w.asked) ≡ k = omega (arith, low) in
                sym (ap in_it (sym gap) ∙ in_stays (k - w.asked) w.asked (omega (arith, gap, below, most)) (λ j other j_above j_below write. none j other j_above (omega (arith, j_below, gap)) write))
              where
                none : (j other : ℕ) → w.asked ≤ j → j < k → IsWrite j other → ⊥
                none j other j_above j_below write = elim (cases_lt j from) [
                  | inl sooner ↦ none-some (Read chunk (eight_from f)) (sym free ∙ w.since from (omega (arith, j_above, sooner)) above)
                  | inr late ↦
                      let own : other ≡ m = alone j other late (omega (arith, j_below, below)) write in
                      elim (cases_eq w.asked j) [
                        | inl same ↦
                            let wrote : last_at (suc j) m ≡ Some (Write chunk (eight_from f) write.sectors) = ap (last_at (suc j)) (sym own) ∙ write.asked in
                            let read : last_at (suc j) m ≡ Some (Read chunk (eight_from f)) = w.since (suc j) (omega (arith, same)) (omega (arith, j_below)) in
                            let e : Write chunk (eight_from f) write.sectors ≡ Read chunk (eight_from f) = same_Some _ _ (sym wrote ∙ read) in
                            absurd (cc)
                        | inr apart ↦ none-some (Read chunk (eight_from f)) (sym (ap (last_at j) (sym own) ∙ write.free) ∙ w.since j (omega (arith, j_above, apart)) (omega (arith, j_below)))
                      ]
                ]

        keeps : (n k : ℕ) → from ≤ k → k + n ≤ to → count layout v told (k + n) m ≤ count layout v told k m → IsKept k → IsKept (k + n)
        keeps zero k above within stay kept = subst IsKept (let same : k ≡ k + 0 = omega arith in same) kept
        keeps (suc n) k above within stay kept =
            let it = something_there told k (omega (arith, within, most)) in
            let next : suc k + n ≡ k + suc n = omega arith in
            let grows = count_grows layout v told (suc k) (suc k + n) m (omega arith) in
            let at_end = ap (λ i. count layout v told i m) next in
            let none = none_begins layout v told k m it.0 it.1 (omega (arith, stay, grows, at_end)) in
            let same_count = count_still layout v told k m it.0 it.1 none in
            subst IsKept next (keeps n (suc k) (omega (arith, above)) (omega (arith, within)) (omega (arith, stay, at_end, same_count)) (one k it.0 it.1 none above (omega (arith, within)) kept))
          where
            own : (k : ℕ) (input : Input) → slice_get told k ≡ Some (record { mount = m; input = input }) → call_in_input input ≡ None → from ≤ k → k < to → IsKept k → IsKept (suc k)
            own k (Begins call) at none above below kept = absurd (none-some call (sym none))
            own k (Asks port) at none above below kept = asks_at k port at kept
            own k (Hears port reply) at none above below kept = hears_at k port reply at (tells_in k port reply above below at) kept

            one : (k : ℕ) (t : MountTold) → slice_get told k ≡ Some t → call_begun m t ≡ None → from ≤ k → k < to → IsKept k → IsKept (suc k)
            one k t at none above below kept = elim (cases_eq m t.mount) [
              | inr apart ↦ other_kept k t at apart (λ write. apart (sym (alone k t.mount above below write))) kept
              | inl is_own ↦
                  let of : ℕ → MountTold = λ i. record { mount = i; input = t.input } in
                  own k t.input (at ∙ ap (λ i. Some (of i)) (sym is_own)) (sym (cond-true (m == t.mount) (call_in_input t.input) None (eq-eqb m t.mount is_own)) ∙ none) above below kept
            ]

      -- From its beginning to its end: what its exchanges leave is in the block, and its reads of it were told what was stored
      pub call_leaves_it : (began to : ℕ) (call : FileCall) → began < to → to ≤ length told → slice_get told began ≡ Some (record { mount = m; input = Begins call }) → count layout v told to m ≤ count layout v told (suc began) m → last_at to m ≡ None
          → ((j other : ℕ) → suc began ≤ j → j < to → IsWrite j other → other ≡ m) → ((j : ℕ) → suc began ≤ j → j < to → (w : IsWaiting j m (Read chunk (eight_from f))) → InTurn w.asked m j)
          → r chunk f ≡ in_it began → (stored_after r (its_at to m) chunk f ≡ in_it to) × TellStoredAt chunk f r (its_at to m)
      call_leaves_it began to call above most at stay ended alone turns same =
          let gap : suc began + (to - suc began) ≡ to = omega (arith, above) in
          let free : last_at (suc began) m ≡ None = pends_own_is began (record { mount = m; input = Begins call }) at ∙ begins_free began call at in
          let at_end = ap (λ i. count layout v told i m) gap in
          let kept = subst IsKept gap (keeps (suc began) to most free alone turns (to - suc began) (suc began) (omega arith) (omega (arith, gap)) (omega (arith, at_end, stay)) (kept_first began call at same)) in
          (sym (ap (put_ask chunk f (stored_after r (its_at to m) chunk f)) ended) ∙ kept.holds, kept.tells)

  -- All that came is of blocks of file data

  abbrev pub AreData : List Exchange → Type 0
  AreData came = Every (λ (e : Exchange). IsDataAsk layout v volume room e.0) came

  pub came_data : (k m : ℕ) → m < 16 → k ≤ length told → AreData (its_at k m)
  came_data zero m small most = tt
  came_data (suc k) m small most = came_next (came_data k m small (omega (arith, most))) (something_there told k (omega (arith, most)))
    where
      replied : (k : ℕ) → k < length told → (o : Option Ask) (reply : Reply) → last_at k m ≡ o → AreData (exchange o reply)
      replied k low None reply is_last = tt
      replied k low (Some ask) reply is_last = ((all_wait layout v volume room list groups hs are registers is all_routed k low m small ask is_last).data_ask, tt)

      after : (input : Input) → AreData (its_at k m) → AreData (since_after (x_at k m) (last_at k m) (its_at k m) input)
      after (Begins call) all = tt
      after (Asks port) all = all
      after (Hears port reply) all =
          every_append (λ (e : Exchange). IsDataAsk layout v volume room e.0) (its_at k m) (exchanged (x_at k m) (last_at k m) (Hears port reply)) all
          (by_test (port == anchors_of (x_at k m).position) (λ b. AreData (if b then exchange (last_at k m) reply else [])) (λ _. replied k (omega (arith, most)) (last_at k m) reply refl) (λ _. tt))

      came_next : AreData (its_at k m) → ((t : MountTold) × (slice_get told k ≡ Some t)) → AreData (its_at (suc k) m)
      came_next all it =
          subst AreData (sym (ap (λ us. exchanges_since layout v us m) (take_one_more told k it.0 it.1) ∙ since_on (all_opened layout v) m None [] (take k told) (it.0 ∷ [])))
          (by_test (m == it.0.mount) (λ b. AreData (if b then since_after (x_at k m) (last_at k m) (its_at k m) it.0.input else its_at k m)) (λ _. after it.0.input all) (λ _. all))
