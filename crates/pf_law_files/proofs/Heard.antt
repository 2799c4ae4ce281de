-- A read of a block of file data is answered what was put there last, where those that write the block do so in turn.
use Rattle.std.proofs.Common.{◌≡◌, ◌≢◌, ◌⊎◌, inl, inr, ℕ, zero, suc, ◌+◌, ◌-◌, ◌*◌, ◌<◌, ◌≤◌, ◌==◌, ◌&&◌, if◌then◌else◌, true, List, [], ◌∷◌, length, take, Option, Some, None, slice_get, arith, refl, sym, ap, subst, ◌∙◌}
use Rattle.std.proofs.Math.Nat.{zero-add}
use Rattle.std.proofs.lemmas.Bool.{and_left, and_parts, cases_eq, cases_lt, cond-false, cond-true, eq-eqb, eqb-true, ne_eqb}
use Rattle.std.proofs.lemmas.Option.{none-some, same_Some, slice_get_within}
use Rattle.pf_base.specs.Asks.{chunk_of}
use Rattle.pf_base.specs.Span.{Span}
use Rattle.pf_base.specs.declared.asks.Ask.{Ask}
use Rattle.pf_base.specs.declared.asks.Ask.TheVariants.{Write, Read}
use Rattle.pf_base.specs.declared.asks.Reply.TheVariants.{Bytes}
use Rattle.pf_entry.specs.Ops.{Sector}
use Rattle.pf_entry.specs.declared.ops.Op.TheVariants as ops
use Rattle.pf_law_registers.specs.Orders.{given}
use Rattle.pf_entry.proofs.Cases.{by_test}
use Rattle.pf_protocol.specs.Groups.{Answered}
use Rattle.pf_law_positions.specs.Deeds.{Deed, Gets, Got, DeedIsPending, PortAsk, PortReply, Puts, Submits, Takes}
use Rattle.pf_law_positions.specs.PortDeeds.{no_deed, port_ask, port_reply}
use Rattle.pf_law_epochs.specs.InTurn.{AreEightInTurn, AsksBytes, IsTurnAnsweredBy, eight_from, eight_in, last_put, put_over}
use Rattle.pf_law_epochs.specs.Routed.{IsRouted}
use Rattle.pf_law_epochs.proofs.InTurn.{last_of_eight}
use Rattle.pf_volume.specs.Volumes.{Extent, IsVolume}
use Rattle.pf_journal.specs.declared.layouts.Layout.{Layout}
use Rattle.pf_journal.specs.Layouts.{VolumeHasRoom}
use Rattle.pf_law_plans.specs.Exchanges.{Exchange}
use Rattle.pf_law_plans.proofs.Lists.{take_one_more}
use Rattle.pf_law_contents.specs.Serial.{IsOfPiece}
use Rattle.pf_law_contents.proofs.Serial.{left_if, put_next, written_is}
use Rattle.pf_law_calls.specs.Doings.{HaveRegisters, IsListOf}
use Rattle.pf_law_calls.specs.Lives.{MountTold, all_opened, lives}
use Rattle.pf_law_calls.proofs.Layouts.{anchors_in}
use Rattle.pf_law_calls.proofs.Lists.{something_there}
use Rattle.pf_law_calls.specs.Exchanges.{exchanged, pends_after, pends_in}
use Rattle.pf_law_calls.specs.Since.{pends}
use Rattle.pf_law_calls.proofs.DataByMoment.{pends_on}
use Rattle.pf_law_homes.specs.Chunks.{ChunkGroups, groups_in}
use Rattle.pf_law_homes.specs.Ports.{Comes, Goes, Hands, IsAnswerOf, OfData, PortOwed, Passes, Pending, PortEvent, deed_answered, deed_at, deed_of, deeds_on, nothing_pending}
use Rattle.pf_law_homes.specs.Routed.{AreRoutedChunks}
use Rattle.pf_law_events.specs.Events.{MountsAreServed, Happening, port_events, mounts_told}
use Rattle.pf_law_events.proofs.EventTurns.{opened_of}
use Rattle.pf_law_files.specs.Blocks.{is_data_piece}
use Rattle.pf_law_files.proofs.Blocks.{whole_block}
use Rattle.pf_law_files.proofs.Pieces.{blocks_served, far_through}
use Rattle.pf_law_files.proofs.MomentPlaces.{IsBetween, IsIdle, IsTold, all_told, each_moment, moment_of, moment_within, moments_rise}
use Rattle.pf_law_files.proofs.BlockHistory.{put_ask, put_in, put_more, went_out}
use Rattle.pf_law_files.proofs.SerialAsks.{Asked, Elsewhere, Heard, IsDataAsk, IsKind, IsNoAsk, IsNoTurn, Nothing, Replied, asks_in, asks_none, data_owed, handed_none, has_no_turn, heard_none, if_there, no_turn_of, nobody, piece_of, quiet_none, quiet_other, there, went_at}

-- a client that has a turn later has its next one by then
module _ (deeds : List Deed) (client asked : ℕ) (reply : Option PortReply) (ask : PortAsk) (at : slice_get deeds asked ≡ Some (Takes client reply (Some ask))) where
  abbrev IsTurn : ℕ → Type 0
  IsTurn moment = (its : Option PortReply) × (next : Option PortAsk) × (slice_get deeds moment ≡ Some (Takes client its next))

  is_turn : (deed : Option Deed) → ((its : Option PortReply) × (next : Option PortAsk) × (deed ≡ Some (Takes client its next))) ⊎ ((its : Option PortReply) (next : Option PortAsk) → deed ≡ Some (Takes client its next) → ⊥)
  is_turn None = inr (λ its next is. none-some (Takes client its next) is)
  is_turn (Some (Submits other chunk epoch place)) = inr (λ its next is. absurd (cc))
  is_turn (Some (Takes other its next)) = elim (cases_eq other client) [
    | inl same ↦ inl (its, next, ap (λ k. Some (Takes k its next)) same)
    | inr apart ↦ inr (λ o n is. (let e : Takes other its next ≡ Takes client o n = same_Some _ _ is in let k : other ≡ client = cc in absurd (apart k)))
  ]

  -- from the ask on, none so far, and one within so many
  search : (n moment : ℕ) → asked < moment → ((k : ℕ) (its : Option PortReply) (next : Option PortAsk) → asked < k → k < moment → slice_get deeds k ≡ Some (Takes client its next) → ⊥) → IsTurn (moment + n) → IsTurnAnsweredBy deeds client asked (moment + n)
  search zero moment past none turn = record {
    turn = moment + 0;
    by_then = omega arith;
    ask = ask;
    pending = record { reply = reply; at = at; earlier = omega (arith, past); no_other = λ k its next above below is. none k its next above (omega (arith, below)) is };
    reply = turn.0;
    next = turn.1;
    at = turn.2;
  }
  search (suc n) moment past none turn = elim (is_turn (slice_get deeds moment)) [
    | inl here ↦ record {
      turn = moment;
      by_then = omega arith;
      ask = ask;
      pending = record { reply = reply; at = at; earlier = past; no_other = none };
      reply = here.0;
      next = here.1;
      at = here.2;
    }
    | inr nothing ↦
        let same : suc moment + n ≡ moment + suc n = omega arith in
        subst (IsTurnAnsweredBy deeds client asked) same
        (search n (suc moment) (omega (arith, past))
        (λ k its next above below is. elim (cases_lt k moment) [
          | inl sooner ↦ none k its next above sooner is
          | inr not_sooner ↦ nothing its next (ap (slice_get deeds) (let here : moment ≡ k = omega (arith, below, not_sooner) in here) ∙ is)
        ])
        (subst IsTurn (sym same) turn))
  ]

  pub next_turn : (moment : ℕ) → asked < moment → (its : Option PortReply) (next : Option PortAsk) → slice_get deeds moment ≡ Some (Takes client its next) → (later : ℕ) → moment ≤ later → IsTurnAnsweredBy deeds client asked later
  next_turn moment past its next is later within =
      let gap : (n : ℕ) × (suc asked + n ≡ moment) = gap_of moment past in
      let by_then = search gap.0 (suc asked) (omega arith) (λ k o t above below at. omega (arith, above, below)) (subst IsTurn (sym gap.1) (its, next, is)) in
      let low = by_then.by_then in
      let same = gap.1 in
      record { turn = by_then.turn; by_then = omega (arith, low, same, within); ask = by_then.ask; pending = by_then.pending; reply = by_then.reply; next = by_then.next; at = by_then.at }
    where
      gap_of : (m : ℕ) → asked < m → (n : ℕ) × (suc asked + n ≡ m)
      gap_of m below = (m - suc asked, omega (arith, below))

module _ (layout : Layout) (v : Extent) (volume : IsVolume v) (room : VolumeHasRoom layout v) (list : List (List ℕ)) (groups : (chunk : ℕ) → ChunkGroups) (hs : List Happening) (are : MountsAreServed layout v hs) (registers : HaveRegisters layout v (mounts_told hs))
    (is : IsListOf layout v (mounts_told hs) list) (all_routed : AreRoutedChunks v groups (port_events layout v hs)) where
  abbrev told : List MountTold
  told = mounts_told hs

  abbrev deeds : ℕ → List Deed
  deeds = deeds_on (port_events layout v hs)

  abbrev at_moment : ℕ → ℕ
  at_moment k = moment_of hs k

  abbrev pub pends_at : (k m : ℕ) → Option Ask
  pends_at k m = pends layout v (take k told) m

  routed : (chunk piece : ℕ) → chunk < v.chunks → 8 * piece < v.sectors → IsRouted (groups_in (groups chunk)) (deeds chunk) chunk piece
  routed chunk piece low inside = all_routed chunk piece low inside

  pub told_at : (k : ℕ) (t : MountTold) → slice_get told k ≡ Some t → IsTold layout v volume room deeds (at_moment k) (lives layout v (take k told)) (pends_at k) t
  told_at k t at =
      subst (λ n. IsTold layout v volume room deeds n (lives layout v (take k told)) (pends_at k) t) (zero-add (at_moment k))
      (all_told layout v volume room deeds hs (all_opened layout v) nothing_pending (λ m. None) 0 (λ chunk k. ap (slice_get (deeds chunk)) (zero-add k)) (far_through layout v volume told list are.can_be registers is) are.can_be are.served
      (record {
        of = opened_of layout v;
        number = λ m. refl;
        sent = λ m port owed same. absurd (none-some owed same);
        owes = λ m small. refl;
      })
      k t at)

  -- a moment before that of something told is of something told before, or of nothing
  moment_is : (k j : ℕ) → k < length told → j < at_moment k → ((i : ℕ) × (i < k) × (j ≡ at_moment i)) ⊎ IsBetween layout v volume room deeds j
  moment_is k j low below =
      let within = moment_within layout v volume room deeds hs (all_opened layout v) k low in
      elim (each_moment layout v volume room deeds hs (all_opened layout v) nothing_pending 0 (λ chunk k. ap (slice_get (deeds chunk)) (zero-add k)) j (omega (arith, below, within))) [
        | inr between ↦ inr (subst (IsBetween layout v volume room deeds) (zero-add j) between)
        | inl of ↦ elim (cases_lt of.0 k) [
          | inl before ↦ inl (of.0, before, of.2)
          | inr past ↦ elim (cases_eq of.0 k) [
            | inl same ↦ absurd (let at = of.2 in let here = ap at_moment same in omega (arith, at, here, below))
            | inr apart ↦ absurd (let at = of.2 in let rise = moments_rise hs k of.0 (omega (arith, past, apart)) (let low = of.1 in omega (arith, low)) in omega (arith, at, rise, below))
          ]
        ]
      ]

  rises : (i k : ℕ) → i < k → k < length told → at_moment i < at_moment k
  rises i k below low = moments_rise hs i k below (omega (arith, low))

  abbrev NoTurn : (chunk client moment : ℕ) → Type 0
  NoTurn chunk client moment = (reply : Option PortReply) (next : Option PortAsk) → slice_get (deeds chunk) moment ≡ Some (Takes client reply next) → ⊥

  idle_turn : (chunk client : ℕ) → client < 16 → (pending : Pending) (event : PortEvent) → IsIdle event → IsNoTurn client (deed_of chunk pending event)
  idle_turn chunk client low pending Passes idle = nobody client low
  idle_turn chunk client low pending (Hands m port epoch place) idle = handed_none client chunk epoch place low (pending m port)
  idle_turn chunk client low pending (Goes m port owed) idle = absurd idle
  idle_turn chunk client low pending (Comes m port reply epoch by answer) idle = absurd idle

  no_ask : (event : PortEvent) → IsIdle event → IsNoAsk event
  no_ask Passes idle = tt
  no_ask (Hands m port epoch place) idle = tt
  no_ask (Goes m port owed) idle = absurd idle
  no_ask (Comes m port reply epoch by answer) idle = absurd idle

  idle_none : (chunk client moment : ℕ) → client < 16 → IsBetween layout v volume room deeds moment → NoTurn chunk client moment
  idle_none chunk client moment low b =
      has_no_turn layout v volume room groups deeds routed chunk client moment (deed_of chunk b.pending b.event) (b.at chunk) (idle_turn chunk client low b.pending b.event b.idle)

  -- What is pending, input by input

  pends_next : (k : ℕ) (t : MountTold) → slice_get told k ≡ Some t → (m : ℕ) → pends_at (suc k) m ≡ pends_in m (lives layout v (take k told) m).mount (pends_at k m) t
  pends_next k t at m = ap (λ us. pends layout v us m) (take_one_more told k t at) ∙ pends_on (all_opened layout v) m None (take k told) (t ∷ [])

  pub pends_own : (k : ℕ) (t : MountTold) → slice_get told k ≡ Some t → pends_at (suc k) t.mount ≡ pends_after (lives layout v (take k told) t.mount).mount (pends_at k t.mount) t.input
  pends_own k t at = pends_next k t at t.mount ∙ cond-true (t.mount == t.mount) (pends_after (lives layout v (take k told) t.mount).mount (pends_at k t.mount) t.input) (pends_at k t.mount) (eq-eqb t.mount t.mount refl)

  pub pends_other : (k : ℕ) (t : MountTold) → slice_get told k ≡ Some t → (m : ℕ) → m ≢ t.mount → pends_at (suc k) m ≡ pends_at k m
  pends_other k t at m apart = pends_next k t at m ∙ cond-false (m == t.mount) (pends_after (lives layout v (take k told) m).mount (pends_at k m) t.input) (pends_at k m) (ne_eqb m t.mount apart)

  module _ (k : ℕ) (t : MountTold) (at : slice_get told k ≡ Some t) where
    abbrev pub its_told : IsTold layout v volume room deeds (at_moment k) (lives layout v (take k told)) (pends_at k) t
    its_told = told_at k t at

    abbrev pub HasCall : Type 0
    HasCall = (lives layout v (take k told) t.mount).mount.files.pending ≢ None

    -- a client with an ask for file data that stays pending has no turn there
    turn_none : (was now : Option Ask) (event : PortEvent) (its : List Exchange) → IsKind layout v volume room HasCall t.mount its_told.pending was event now its → was ≡ pends_at k t.mount
        → ((chunk : ℕ) → slice_get (deeds chunk) (at_moment k) ≡ Some (deed_of chunk its_told.pending event))
        → (m : ℕ) (ask : Ask) → m < 16 → (m ≡ t.mount → (was ≡ Some ask) × (now ≡ Some ask)) → (asked : ℕ) → IsDataAsk layout v volume room ask → DeedIsPending (deeds (chunk_of ask)) m asked (at_moment k) (port_ask ask) → NoTurn (chunk_of ask) m (at_moment k)
    turn_none was now _ _ Nothing is_was there m ask small own asked its p = has_no_turn layout v volume room groups deeds routed (chunk_of ask) m (at_moment k) no_deed (there (chunk_of ask)) (nobody m small)
    turn_none was now _ _ (Elsewhere port owed is_owed other free) is_was there m ask small own asked its p =
        no_turn_of layout v volume room groups deeds routed (at_moment k) its_told.pending t.mount port owed there (chunk_of ask) m small (apart is_owed.client)
      where
        apart : (owed.client ≡ t.mount) ⊎ (owed.client ≡ 17 + t.mount) → owed.client ≢ m
        apart (inl same) is_m = absurd (none-some ask (sym free ∙ (own (sym is_m ∙ same)).0))
        apart (inr looker) is_m = absurd (omega (arith, looker, is_m, small))
    turn_none was now _ _ (Asked its_ask its_data is_owed free has) is_was there m ask small own asked its p =
        no_turn_of layout v volume room groups deeds routed (at_moment k) its_told.pending t.mount (anchors_in layout) (record { client = t.mount; ask = its_ask; matter = OfData }) there (chunk_of ask) m small
        (λ same. absurd (none-some ask (sym free ∙ (own (sym same)).0)))
    turn_none was now _ _ (Heard port reply epoch by answer low_port replied) is_was there m ask small own asked its p =
        heard_none layout v volume room groups deeds routed t.mount its_told.pending its_told.sent (at_moment k) port reply epoch by answer there low_port replied m ask small asked its p
    turn_none was now _ _ (Replied its_ask reply epoch by answer is_ask replied) is_was there m ask small own asked its p =
        has_no_turn layout v volume room groups deeds routed (chunk_of ask) m (at_moment k) (deed_answered (chunk_of ask) epoch by answer (data_owed layout v volume room t.mount (Some its_ask)) reply)
        (there (chunk_of ask) ∙ ap (λ o. Some (deed_answered (chunk_of ask) epoch by answer o reply)) (its_told.owes t.mount its_told.low ∙ ap (data_owed layout v volume room t.mount) (sym is_was ∙ is_ask)))
        (if_there (IsNoTurn m) (chunk_of ask) (record { client = t.mount; ask = its_ask; matter = OfData }) (Takes t.mount (port_reply its_ask epoch by answer reply) None) (nobody m small)
        (λ _ same. absurd (none-some ask ((own (sym same)).1))))

    -- what becomes pending was asked
    pub record IsNew (ask : Ask) : Type 0 where
      pub data_ask : IsDataAsk layout v volume room ask
      pub here : slice_get (deeds (chunk_of ask)) (at_moment k) ≡ Some (Takes t.mount None (Some (port_ask ask)))

    pub new_ask : (was now : Option Ask) (event : PortEvent) (its : List Exchange) → IsKind layout v volume room HasCall t.mount its_told.pending was event now its
        → ((chunk : ℕ) → slice_get (deeds chunk) (at_moment k) ≡ Some (deed_of chunk its_told.pending event)) → (ask : Ask) → now ≡ Some ask → (was ≡ Some ask) ⊎ ((was ≡ None) × IsNew ask)
    new_ask was now _ _ Nothing at_it ask is_now = inl is_now
    new_ask was now _ _ (Elsewhere port owed is_owed other free) at_it ask is_now = inl is_now
    new_ask was now _ _ (Asked its_ask its_data is_owed free has) at_it ask is_now =
        let same : its_ask ≡ ask = same_Some its_ask ask is_now in
        inr (
          free,
          subst IsNew same (record {
            data_ask = its_data;
            here = at_it (chunk_of its_ask) ∙ ap Some (there (chunk_of its_ask) (record { client = t.mount; ask = its_ask; matter = OfData }) (Takes t.mount None (Some (port_ask its_ask))) refl);
          }),
        )
    new_ask was now _ _ (Heard port reply epoch by answer low_port replied) at_it ask is_now = inl is_now
    new_ask was now _ _ (Replied its_ask reply epoch by answer is_ask replied) at_it ask is_now = absurd (none-some ask is_now)

  -- an ask for file data that is pending was asked at a time, and its client has had no turn since
  pub record Waits (k m : ℕ) (ask : Ask) : Type 0 where
    pub asked : ℕ
    pub low : asked < k
    pub t : MountTold
    pub there : slice_get told asked ≡ Some t
    pub mount_is : t.mount ≡ m
    pub free : pends_at asked m ≡ None
    pub since : (j : ℕ) → asked < j → j ≤ k → pends_at j m ≡ Some ask
    pub data_ask : IsDataAsk layout v volume room ask
    pub pending : DeedIsPending (deeds (chunk_of ask)) m (at_moment asked) (at_moment k) (port_ask ask)

  wait_next : (k : ℕ) → suc k < length told → (m : ℕ) → m < 16 → (ask : Ask) → pends_at (suc k) m ≡ Some ask → (pends_at k m ≡ Some ask → Waits k m ask) → Waits (suc k) m ask
  wait_next k low m small ask is_pending before = by t.mount refl
    where
      it : (u : MountTold) × (slice_get told k ≡ Some u)
      it = something_there told k (omega (arith, low))

      t : MountTold
      t = it.0

      o : IsTold layout v volume room deeds (at_moment k) (lives layout v (take k told)) (pends_at k) t
      o = told_at k t it.1

      later : at_moment k < at_moment (suc k)
      later = rises k (suc k) (omega arith) low

      -- nothing between
      between : (client chunk j : ℕ) → client < 16 → at_moment k < j → j < at_moment (suc k) → NoTurn chunk client j
      between client chunk j small_client above below = elim (moment_is (suc k) j low below) [
        | inr idle ↦ idle_none chunk client j small_client idle
        | inl told_then ↦ elim (cases_eq told_then.0 k) [
          | inl same ↦ absurd (let is_it = told_then.2 in let here = ap at_moment same in omega (arith, is_it, here, above))
          | inr apart ↦ absurd (let is_it = told_then.2 in let less = told_then.1 in let rise = rises told_then.0 k (omega (arith, less, apart)) (omega (arith, low)) in omega (arith, is_it, rise, above))
        ]
      ]

      extends : Waits k m ask → NoTurn (chunk_of ask) m (at_moment k) → Waits (suc k) m ask
      extends w none = record {
        asked = w.asked;
        low = (let less = w.low in omega (arith, less));
        t = w.t;
        there = w.there;
        mount_is = w.mount_is;
        free = w.free;
        since = λ j above most. elim (cases_eq j (suc k)) [ inl same ↦ ap (λ i. pends_at i m) same ∙ is_pending | inr apart ↦ w.since j above (omega (arith, most, apart)) ];
        data_ask = w.data_ask;
        pending = record {
          reply = w.pending.reply;
          at = w.pending.at;
          earlier = (let e = w.pending.earlier in omega (arith, e, later));
          no_other = λ j its next above below is_turn. elim (cases_lt j (at_moment k)) [
            | inl sooner ↦ w.pending.no_other j its next above sooner is_turn
            | inr not_sooner ↦ elim (cases_eq j (at_moment k)) [
              | inl same ↦ none its next (ap (slice_get (deeds (chunk_of ask))) (sym same) ∙ is_turn)
              | inr apart ↦ between m (chunk_of ask) j small (omega (arith, not_sooner, apart)) below its next is_turn
            ]
          ];
        };
      }

      stays : pends_at k m ≡ Some ask → Waits (suc k) m ask
      stays was =
          let w = before was in
          extends w
          (turn_none k t it.1 (pends_at k t.mount) (pends_after (lives layout v (take k told) t.mount).mount (pends_at k t.mount) t.input) o.event (exchanged (lives layout v (take k told) t.mount).mount (pends_at k t.mount) t.input) o.kind refl o.at m ask small
          (λ same. (ap (pends_at k) (sym same) ∙ was, sym (pends_own k t it.1) ∙ ap (pends_at (suc k)) (sym same) ∙ is_pending)) (at_moment w.asked) w.data_ask w.pending)

      by : (i : ℕ) → t.mount ≡ i → Waits (suc k) m ask
      by i mount = elim (cases_eq m t.mount) [
        | inr apart ↦ stays (sym (pends_other k t it.1 m apart) ∙ is_pending)
        | inl own ↦
            elim
            (new_ask k t it.1 (pends_at k t.mount) (pends_after (lives layout v (take k told) t.mount).mount (pends_at k t.mount) t.input) o.event (exchanged (lives layout v (take k told) t.mount).mount (pends_at k t.mount) t.input) o.kind o.at ask
            (sym (pends_own k t it.1) ∙ ap (pends_at (suc k)) (sym own) ∙ is_pending)) [
              | inl was ↦ stays (ap (pends_at k) own ∙ was)
              | inr new ↦ record {
                asked = k;
                low = omega arith;
                t = t;
                there = it.1;
                mount_is = sym own;
                free = ap (pends_at k) own ∙ new.0;
                since = λ j above most. ap (λ i. pends_at i m) (let here : j ≡ suc k = omega (arith, above, most) in here) ∙ is_pending;
                data_ask = new.1.data_ask;
                pending = record {
                  reply = None;
                  at = subst (λ client. slice_get (deeds (chunk_of ask)) (at_moment k) ≡ Some (Takes client None (Some (port_ask ask)))) (sym own) new.1.here;
                  earlier = later;
                  no_other = λ j its next above below is_turn. between m (chunk_of ask) j small above below its next is_turn;
                };
              }
            ]
      ]

  pub all_wait : (k : ℕ) → k < length told → (m : ℕ) → m < 16 → (ask : Ask) → pends_at k m ≡ Some ask → Waits k m ask
  all_wait zero low m small ask is_pending = absurd (none-some ask is_pending)
  all_wait (suc k) low m small ask is_pending = wait_next k low m small ask is_pending (λ was. all_wait k (omega (arith, low)) m small ask was)

  -- What is in a block

  module _ (chunk piece : ℕ) (of_data : is_data_piece layout v chunk piece ≡ true) where
    abbrev put_by : (moment : ℕ) → List Sector
    put_by moment = last_put chunk (8 * piece) (take moment (deeds chunk))

    left_quiet : (moment : ℕ) (deed : Deed) → slice_get (deeds chunk) moment ≡ Some deed → ((client : ℕ) (bytes : Sector) → AsksBytes (deeds chunk) chunk (8 * piece + 0) client moment bytes → ⊥) → put_by (suc moment) ≡ put_by moment
    left_quiet moment deed at none =
        put_next chunk (8 * piece) (deeds chunk) moment deed at
        ∙ left_if chunk (8 * piece) (put_by moment) deed (λ client reply op bytes is gives. none client bytes (record { reply = reply; op = op; at = at ∙ ap Some is; gives = gives }))

    some_nth : 0 < 8
    some_nth = omega arith

    idle_put : (n from : ℕ) → ((j : ℕ) → from ≤ j → j < from + n → IsBetween layout v volume room deeds j) → put_by (from + n) ≡ put_by from
    idle_put zero from idle = ap put_by (let same : from + 0 ≡ from = omega arith in same)
    idle_put (suc n) from idle =
        let b = idle (from + n) (omega arith) (omega arith) in
        ap put_by (let same : from + suc n ≡ suc (from + n) = omega arith in same)
        ∙ left_quiet (from + n) (deed_of chunk b.pending b.event) (b.at chunk)
        (λ client bytes a. quiet_none layout v volume room groups deeds routed (from + n) b.pending b.event b.at (no_ask b.event b.idle) chunk piece 0 client bytes of_data some_nth a)
        ∙ idle_put n from (λ j above below. idle j above (omega (arith, below)))

    pub same_out : (old : List Sector) (o : Option Ask) → put_ask chunk (8 * piece) old (went_out o o) ≡ old
    same_out old None = refl
    same_out old (Some ask) = refl

    asked_put : (n : ℕ) (ask : Ask) → IsDataAsk layout v volume room ask → (old : List Sector) → put_over chunk (8 * piece) old (deed_at chunk (record { client = n; ask = ask; matter = OfData }) (Takes n None (Some (port_ask ask)))) ≡ put_ask chunk (8 * piece) old (Some ask)
    asked_put n ask its old = by ask its (piece_of layout v volume room ask its)
      where
        by : (a : Ask) → IsDataAsk layout v volume room a → IsOfPiece (is_data_piece layout v) a → put_over chunk (8 * piece) old (deed_at chunk (record { client = n; ask = a; matter = OfData }) (Takes n None (Some (port_ask a)))) ≡ put_ask chunk (8 * piece) old (Some a)
        by (Read from span) its piece_is =
            if_there (λ deed. put_over chunk (8 * piece) old deed ≡ old) chunk (record { client = n; ask = Read from span; matter = OfData }) (Takes n None (Some (Gets from span))) refl (λ _. refl)
        by (Write to span sectors) its piece_is = elim (cases_eq to chunk) [
          | inl here ↦
              ap (put_over chunk (8 * piece) old) (there chunk (record { client = n; ask = Write to span sectors; matter = OfData }) (Takes n None (Some (Puts to (ops.Write span sectors)))) here)
              ∙ subst (λ c. put_over chunk (8 * piece) old (Takes n None (Some (Puts c (ops.Write span sectors)))) ≡ put_ask chunk (8 * piece) old (Some (Write c span sectors))) (sym here)
              (sym (written_is (λ other from. old) old chunk piece span sectors piece_is.0 n None refl piece_is.2 piece_is.3))
          | inr apart ↦
              ap (put_over chunk (8 * piece) old) (cond-false (to == chunk) (Takes n None (Some (Puts to (ops.Write span sectors)))) no_deed (ne_eqb to chunk apart))
              ∙ sym (cond-false ((chunk == to) && (8 * piece == span.first)) sectors old (and_left (chunk == to) (8 * piece == span.first) (ne_eqb chunk to (λ same. apart (sym same)))))
        ]

    module _ (k : ℕ) (t : MountTold) (at : slice_get told k ≡ Some t) where
      turn_put : (was now : Option Ask) (event : PortEvent) (its : List Exchange) → IsKind layout v volume room (HasCall k t at) t.mount (its_told k t at).pending was event now its
          → ((c : ℕ) → slice_get (deeds c) (at_moment k) ≡ Some (deed_of c (its_told k t at).pending event)) → put_by (suc (at_moment k)) ≡ put_ask chunk (8 * piece) (put_by (at_moment k)) (went_out was now)
      turn_put was now _ _ Nothing there_at =
          left_quiet (at_moment k) no_deed (there_at chunk) (λ client bytes a. quiet_none layout v volume room groups deeds routed (at_moment k) (its_told k t at).pending Passes there_at tt chunk piece 0 client bytes of_data some_nth a)
          ∙ sym (same_out (put_by (at_moment k)) was)
      turn_put was now _ _ (Elsewhere port owed is_owed other free) there_at =
          left_quiet (at_moment k) (deed_at chunk owed (Takes owed.client None (Some (port_ask owed.ask)))) (there_at chunk)
          (λ client bytes a. quiet_other layout v volume room groups deeds routed (at_moment k) (its_told k t at).pending t.mount port owed there_at is_owed other chunk piece 0 client bytes of_data some_nth a)
          ∙ sym (same_out (put_by (at_moment k)) was)
      turn_put was now _ _ (Asked ask its is_owed free has) there_at =
          put_next chunk (8 * piece) (deeds chunk) (at_moment k) (deed_at chunk (record { client = t.mount; ask = ask; matter = OfData }) (Takes t.mount None (Some (port_ask ask)))) (there_at chunk)
          ∙ asked_put t.mount ask its (put_by (at_moment k))
          ∙ ap (λ o. put_ask chunk (8 * piece) (put_by (at_moment k)) (went_out o (Some ask))) (sym free)
      turn_put was now _ _ (Heard port reply epoch by answer low_port replied) there_at =
          left_quiet (at_moment k) (deed_answered chunk epoch by answer ((its_told k t at).pending t.mount port) reply) (there_at chunk)
          (λ client bytes a. quiet_none layout v volume room groups deeds routed (at_moment k) (its_told k t at).pending (Comes t.mount port reply epoch by answer) there_at tt chunk piece 0 client bytes of_data some_nth a)
          ∙ sym (same_out (put_by (at_moment k)) was)
      turn_put was now _ _ (Replied ask reply epoch by answer is_ask replied) there_at =
          left_quiet (at_moment k) (deed_answered chunk epoch by answer ((its_told k t at).pending t.mount (anchors_in layout)) reply) (there_at chunk)
          (λ client bytes a. quiet_none layout v volume room groups deeds routed (at_moment k) (its_told k t at).pending (Comes t.mount (anchors_in layout) reply epoch by answer) there_at tt chunk piece 0 client bytes of_data some_nth a)
          ∙ ap (λ o. put_ask chunk (8 * piece) (put_by (at_moment k)) (went_out o None)) (sym is_ask)

    -- at the moment of what was told, what was put last is what was told
    pub put_is : (k : ℕ) → k < length told → put_by (at_moment k) ≡ put_in chunk (8 * piece) layout v (take k told)
    put_is zero low =
        ap put_by (sym (zero-add (at_moment 0))) ∙ idle_put (at_moment 0) 0 (λ j above below. elim (moment_is 0 j low (let same = zero-add (at_moment 0) in omega (arith, below, same))) [
          | inl before ↦ absurd (let less = before.1 in omega (arith, less))
          | inr idle ↦ idle
        ])
    put_is (suc k) low =
        let it = something_there told k (omega (arith, low)) in
        let t = it.0 in
        let o = told_at k t it.1 in
        let x = (lives layout v (take k told) t.mount).mount in
        let rise = rises k (suc k) (omega arith) low in
        let gap : suc (at_moment k) + (at_moment (suc k) - suc (at_moment k)) ≡ at_moment (suc k) = omega (arith, rise) in
        ap put_by (sym gap)
        ∙ idle_put (at_moment (suc k) - suc (at_moment k)) (suc (at_moment k)) (λ j above below. elim (moment_is (suc k) j low (omega (arith, below, gap))) [
          | inr idle ↦ idle
          | inl told_then ↦ elim (cases_eq told_then.0 k) [
            | inl same ↦ absurd (let is_it = told_then.2 in let here = ap at_moment same in omega (arith, is_it, here, above))
            | inr apart ↦ absurd (let is_it = told_then.2 in let less = told_then.1 in let before = rises told_then.0 k (omega (arith, less, apart)) (omega (arith, low)) in omega (arith, is_it, before, above))
          ]
        ])
        ∙ turn_put k t it.1 (pends_at k t.mount) (pends_after x (pends_at k t.mount) t.input) o.event (exchanged x (pends_at k t.mount) t.input) o.kind o.at
        ∙ ap (λ old. put_ask chunk (8 * piece) old (went_out (pends_at k t.mount) (pends_after x (pends_at k t.mount) t.input))) (put_is k (omega (arith, low)))
        ∙ sym (put_more chunk (8 * piece) layout v (take k told) t)
        ∙ ap (put_in chunk (8 * piece) layout v) (sym (take_one_more told k t it.1))

    -- At this time mount m asks to write the block
    pub record WritesThen (time m : ℕ) : Type 0 where
      pub t : MountTold
      pub there : slice_get told time ≡ Some t
      pub mount_is : t.mount ≡ m
      pub free : pends_at time m ≡ None
      pub sectors : List Sector
      pub asked : pends_at (suc time) m ≡ Some (Write chunk (eight_from (8 * piece)) sectors)

    -- what it had pending then at the chunk was answered between two times
    pub record HeardBetween (from m to : ℕ) : Type 0 where
      pub time : ℕ
      pub above : from < time
      pub below : time < to
      pub t : MountTold
      pub there : slice_get told time ≡ Some t
      pub mount_is : t.mount ≡ m
      pub ask : Ask
      pub was : pends_at time m ≡ Some ask
      pub at_chunk : chunk_of ask ≡ chunk
      pub now : pends_at (suc time) m ≡ None

    -- the writes of the block before a time are each answered before the next one, and all before mount m asked its read
    pub record AreInTurnThen (asked m time : ℕ) : Type 0 where
      pub before : (write other : ℕ) → write < time → WritesThen write other → (write < asked) × ((other ≡ m) ⊎ HeardBetween write other asked)
      pub apart : (write later one other : ℕ) → write < later → later < time → WritesThen write one → WritesThen later other → (one ≡ other) ⊎ HeardBetween write one later

    eight_span : (span : Span) (sectors its : List Sector) → eight_in (8 * piece) (ops.Write span sectors) ≡ Some its → span ≡ eight_from (8 * piece)
    eight_span span sectors its is =
        by_test ((span.first == 8 * piece) && (span.count == 8) && (length sectors == 8)) (λ b. (if b then Some sectors else None) ≡ Some its → span ≡ eight_from (8 * piece))
        (λ all _.
        let first = and_parts _ _ (and_parts _ _ all).0 in
        let make : (first count : ℕ) → Span = λ first count. record { first = first; count = count } in
        ap (λ n. make n span.count) (eqb-true span.first (8 * piece) first.0) ∙ ap (make (8 * piece)) (eqb-true span.count 8 first.1))
        (λ _ none. absurd (none-some its none)) is

    -- what asks to write a sector of it is told so
    module _ (k : ℕ) (t : MountTold) (at : slice_get told k ≡ Some t) (nth client : ℕ) (inside : nth < 8) (bytes : Sector) (a : AsksBytes (deeds chunk) chunk (8 * piece + nth) client (at_moment k) bytes) where
      asks_then : (was now : Option Ask) (event : PortEvent) (its : List Exchange) → IsKind layout v volume room (HasCall k t at) t.mount (its_told k t at).pending was event now its
          → ((c : ℕ) → slice_get (deeds c) (at_moment k) ≡ Some (deed_of c (its_told k t at).pending event)) → (client ≡ t.mount) × (was ≡ None) × (sectors : List Sector) × (now ≡ Some (Write chunk (eight_from (8 * piece)) sectors))
      asks_then was now _ _ Nothing there_at = absurd (quiet_none layout v volume room groups deeds routed (at_moment k) (its_told k t at).pending Passes there_at tt chunk piece nth client bytes of_data inside a)
      asks_then was now _ _ (Elsewhere port owed is_owed other free) there_at =
          absurd (quiet_other layout v volume room groups deeds routed (at_moment k) (its_told k t at).pending t.mount port owed there_at is_owed other chunk piece nth client bytes of_data inside a)
      asks_then was now _ _ (Asked ask its is_owed free has) there_at = by ask its refl
        where
          owed : PortOwed
          owed = record { client = t.mount; ask = ask; matter = OfData }

          out : (chunk_of ask ≡ chunk) × (port_ask ask ≡ Puts chunk a.op)
          out = went_at layout v volume room groups deeds routed (at_moment k) (its_told k t at).pending t.mount (anchors_in layout) (record { client = t.mount; ask = ask; matter = OfData }) there_at chunk client a.reply a.op a.at

          client_is : client ≡ t.mount
          client_is =
              let deed = there_at chunk ∙ ap Some (there chunk (record { client = t.mount; ask = ask; matter = OfData }) (Takes t.mount None (Some (port_ask ask))) out.0) in
              let e : Takes t.mount None (Some (port_ask ask)) ≡ Takes client a.reply (Some (Puts chunk a.op)) = same_Some _ _ (sym deed ∙ a.at) in
              let same : t.mount ≡ client = cc in
              sym same

          by : (x : Ask) → IsDataAsk layout v volume room x → ask ≡ x → (client ≡ t.mount) × (was ≡ None) × (sectors : List Sector) × (now ≡ Some (Write chunk (eight_from (8 * piece)) sectors))
          by (Read from span) its is_ask = (let e : Gets from span ≡ Puts chunk a.op = sym (ap port_ask is_ask) ∙ out.1 in absurd (cc))
          by (Write to span sectors) its is_ask =
              let e : Puts to (ops.Write span sectors) ≡ Puts chunk a.op = sym (ap port_ask is_ask) ∙ out.1 in
              let to_is : to ≡ chunk = cc in
              let op_is : ops.Write span sectors ≡ a.op = cc in
              let whole = whole_block layout v volume volume.blocks.0 volume.blocks.1 to piece nth span sectors bytes inside its.block (ap (λ o. given o (8 * piece + nth)) op_is ∙ a.gives) in
              let span_is = eight_span span sectors sectors whole in
              (client_is, free, sectors, ap Some is_ask ∙ ap (λ c. Some (Write c span sectors)) to_is ∙ ap (λ x. Some (Write chunk x sectors)) span_is)
      asks_then was now _ _ (Heard port reply epoch by answer low_port replied) there_at =
          absurd (quiet_none layout v volume room groups deeds routed (at_moment k) (its_told k t at).pending (Comes t.mount port reply epoch by answer) there_at tt chunk piece nth client bytes of_data inside a)
      asks_then was now _ _ (Replied ask reply epoch by answer is_ask replied) there_at =
          absurd (quiet_none layout v volume room groups deeds routed (at_moment k) (its_told k t at).pending (Comes t.mount (anchors_in layout) reply epoch by answer) there_at tt chunk piece nth client bytes of_data inside a)

    writes_then : (k : ℕ) → k < length told → (nth client : ℕ) → nth < 8 → (bytes : Sector) → AsksBytes (deeds chunk) chunk (8 * piece + nth) client (at_moment k) bytes → WritesThen k client
    writes_then k low nth client inside bytes a =
        let it = something_there told k low in
        let t = it.0 in
        let o = told_at k t it.1 in
        let x = (lives layout v (take k told) t.mount).mount in
        let its = asks_then k t it.1 nth client inside bytes a (pends_at k t.mount) (pends_after x (pends_at k t.mount) t.input) o.event (exchanged x (pends_at k t.mount) t.input) o.kind o.at in
        record { t = t; there = it.1; mount_is = sym its.0; free = ap (pends_at k) its.0 ∙ its.1; sectors = its.2; asked = ap (pends_at (suc k)) its.0 ∙ pends_own k t it.1 ∙ its.3 }

    -- what is heard is a turn
    module _ (k : ℕ) (t : MountTold) (at : slice_get told k ≡ Some t) (ask : Ask) (at_chunk : chunk_of ask ≡ chunk) where
      heard_turn : (was now : Option Ask) (event : PortEvent) (its : List Exchange) → IsKind layout v volume room (HasCall k t at) t.mount (its_told k t at).pending was event now its
          → ((c : ℕ) → slice_get (deeds c) (at_moment k) ≡ Some (deed_of c (its_told k t at).pending event)) → was ≡ pends_at k t.mount → was ≡ Some ask → now ≡ None
          → (reply : Option PortReply) × (slice_get (deeds chunk) (at_moment k) ≡ Some (Takes t.mount reply None))
      heard_turn was now _ _ Nothing there_at is_was some none = absurd (none-some ask (sym none ∙ some))
      heard_turn was now _ _ (Elsewhere port owed is_owed other free) there_at is_was some none = absurd (none-some ask (sym free ∙ some))
      heard_turn was now _ _ (Asked its_ask its is_owed free has) there_at is_was some none = absurd (none-some ask (sym free ∙ some))
      heard_turn was now _ _ (Heard port reply epoch by answer low_port replied) there_at is_was some none = absurd (none-some ask (sym none ∙ some))
      heard_turn was now _ _ (Replied its_ask reply epoch by answer is_ask replied) there_at is_was some none = (
        port_reply ask epoch by answer reply,
        there_at chunk
            ∙ ap (λ o. Some (deed_answered chunk epoch by answer o reply)) ((its_told k t at).owes t.mount (its_told k t at).low ∙ ap (data_owed layout v volume room t.mount) (sym is_was ∙ some))
            ∙ ap Some (there chunk (record { client = t.mount; ask = ask; matter = OfData }) (Takes t.mount (port_reply ask epoch by answer reply) None) at_chunk),
      )

    turn_then : (from m to : ℕ) → to < length told → HeardBetween from m to → (moment : ℕ) × (at_moment from < moment) × (moment < at_moment to) × (reply : Option PortReply) × (slice_get (deeds chunk) moment ≡ Some (Takes m reply None))
    turn_then from m to low h =
        let above = h.above in
        let below = h.below in
        let o = told_at h.time h.t h.there in
        let x = (lives layout v (take h.time told) h.t.mount).mount in
        let own = h.mount_is in
        let turn =
        heard_turn h.time h.t h.there h.ask h.at_chunk (pends_at h.time h.t.mount) (pends_after x (pends_at h.time h.t.mount) h.t.input) o.event (exchanged x (pends_at h.time h.t.mount) h.t.input) o.kind o.at refl
        (ap (pends_at h.time) own ∙ h.was) (sym (pends_own h.time h.t h.there) ∙ ap (pends_at (suc h.time)) own ∙ h.now) in
        (at_moment h.time, rises from h.time above (omega (arith, below, low)), rises h.time to below low, turn.0, subst (λ client. slice_get (deeds chunk) (at_moment h.time) ≡ Some (Takes client turn.0 None)) own turn.1)

    -- A read that is answered

    module _ (k : ℕ) (t : MountTold) (at : slice_get told k ≡ Some t) (sectors : List Sector) where
      abbrev the_read : Ask
      the_read = Read chunk (eight_from (8 * piece))

      low_k : k < length told
      low_k = slice_get_within told k t at

      replied_so : (was now : Option Ask) (event : PortEvent) (its : List Exchange) → IsKind layout v volume room (HasCall k t at) t.mount (its_told k t at).pending was event now its
          → ((c : ℕ) → slice_get (deeds c) (at_moment k) ≡ Some (deed_of c (its_told k t at).pending event)) → was ≡ pends_at k t.mount → its ≡ (the_read, Bytes sectors) ∷ []
          → (was ≡ Some the_read) × (epoch : ℕ) × (by : ℕ) × (answer : Answered) × (answer.bytes ≡ sectors) × (slice_get (deeds chunk) (at_moment k) ≡ Some (Takes t.mount (Some (Got chunk epoch by answer)) None))
      replied_so was now _ _ Nothing there_at is_was is_its = absurd (cc)
      replied_so was now _ _ (Elsewhere port owed is_owed other free) there_at is_was is_its = absurd (cc)
      replied_so was now _ _ (Asked its_ask its is_owed free has) there_at is_was is_its = absurd (cc)
      replied_so was now _ _ (Heard port reply epoch by answer low_port replied) there_at is_was is_its = absurd (cc)
      replied_so was now _ _ (Replied its_ask reply epoch by answer is_ask replied) there_at is_was is_its =
          let one : (its_ask, reply) ≡ (the_read, Bytes sectors) = cc in
          let ask_is : its_ask ≡ the_read = ap (λ (e : Exchange). e.0) one in
          let reply_is : reply ≡ Bytes sectors = ap (λ (e : Exchange). e.1) one in
          let its : IsAnswerOf the_read (Bytes sectors) answer = subst (λ a. IsAnswerOf a (Bytes sectors) answer) ask_is (subst (λ r. IsAnswerOf its_ask r answer) reply_is replied) in
          let was_is : was ≡ Some the_read = is_ask ∙ ap Some ask_is in (
            was_is,
            epoch,
            by,
            answer,
            its.1,
            there_at chunk
                ∙ ap (λ o. Some (deed_answered chunk epoch by answer o reply)) ((its_told k t at).owes t.mount (its_told k t at).low ∙ ap (data_owed layout v volume room t.mount) (sym is_was ∙ was_is))
                ∙ ap Some (there chunk (record { client = t.mount; ask = the_read; matter = OfData }) (Takes t.mount (port_reply the_read epoch by answer reply) None) refl)
                ∙ ap (λ r. Some (Takes t.mount (port_reply the_read epoch by answer r) None)) reply_is,
          )

      -- it brings what was put there last before it was asked
      pub tells_put : exchanged (lives layout v (take k told) t.mount).mount (pends_at k t.mount) t.input ≡ (the_read, Bytes sectors) ∷ []
          → ((w : Waits k t.mount the_read) → AreInTurnThen w.asked t.mount k) → (w : Waits k t.mount the_read) × (sectors ≡ put_in chunk (8 * piece) layout v (take w.asked told))
      tells_put its_are turns =
          let o = told_at k t at in
          let x = (lives layout v (take k told) t.mount).mount in
          let was = replied_so (pends_at k t.mount) (pends_after x (pends_at k t.mount) t.input) o.event (exchanged x (pends_at k t.mount) t.input) o.kind o.at refl its_are in
          let w = all_wait k low_k t.mount o.low the_read was.0 in
          let low_w = w.low in
          let low_asked : w.asked < length told = omega (arith, low_w, low_k) in
          let served = blocks_served layout v volume room hs list are registers is groups all_routed in (
            w,
            sym was.4
                ∙ last_of_eight (groups_in (groups chunk)) (deeds chunk) chunk piece (served.routed chunk piece of_data) t.mount (at_moment w.asked) (at_moment k) was.1 was.2 was.3 None was.5 w.pending (in_turn w (turns w)) (served.whole chunk piece of_data)
                ∙ put_is w.asked low_asked,
          )
        where
          asked_low : (w : Waits k t.mount the_read) → w.asked < length told
          asked_low w = (let low = w.low in omega (arith, low, low_k))

          answered_by : (write client later : ℕ) (nth : ℕ) (bytes : Sector) → write < later → later < length told → AsksBytes (deeds chunk) chunk (8 * piece + nth) client (at_moment write) bytes
              → (moment : ℕ) (reply : Option PortReply) (next : Option PortAsk) → at_moment write < moment → moment ≤ at_moment later → slice_get (deeds chunk) moment ≡ Some (Takes client reply next) → IsTurnAnsweredBy (deeds chunk) client (at_moment write) (at_moment later)
          answered_by write client later nth bytes below low a moment reply next above within turn =
              next_turn (deeds chunk) client (at_moment write) a.reply (Puts chunk a.op) a.at moment above reply next turn (at_moment later) within

          in_turn : (w : Waits k t.mount the_read) → AreInTurnThen w.asked t.mount k → AreEightInTurn (deeds chunk) chunk (8 * piece) (at_moment w.asked) (at_moment k)
          in_turn w turns nth inside = record {
            before = λ client write bytes below a. elim (moment_is k write low_k below) [
              | inr idle ↦ absurd (idle_asks idle client nth bytes a)
              | inl sent ↦
                  let here : AsksBytes (deeds chunk) chunk (8 * piece + nth) client (at_moment sent.0) bytes = subst (λ n. AsksBytes (deeds chunk) chunk (8 * piece + nth) client n bytes) sent.2 a in
                  let less = sent.1 in
                  let its = writes_then sent.0 (omega (arith, less, low_k)) nth client inside bytes here in
                  let turn = turns.before sent.0 client less its in
                  subst (λ n. IsTurnAnsweredBy (deeds chunk) client n (at_moment w.asked)) (sym sent.2) (elim turn.1 [
                    | inl own ↦ answered_by sent.0 client w.asked nth bytes turn.0 (asked_low w) here (at_moment w.asked) w.pending.reply (Some (port_ask the_read)) (rises sent.0 w.asked turn.0 (asked_low w)) (omega arith) (subst (λ c. slice_get (deeds chunk) (at_moment w.asked) ≡ Some (Takes c w.pending.reply (Some (port_ask the_read)))) (sym own) w.pending.at)
                    | inr heard ↦ let at_turn = turn_then sent.0 client w.asked (asked_low w) heard in let low_turn = at_turn.2 in answered_by sent.0 client w.asked nth bytes turn.0 (asked_low w) here at_turn.0 at_turn.3 None at_turn.1 (omega (arith, low_turn)) at_turn.4
                  ])
            ];
            apart = λ client write other later bytes its above below a b. elim (moment_is k write low_k (omega (arith, above, below))) [
              | inr idle ↦ absurd (idle_asks idle client nth bytes a)
              | inl sent ↦ elim (moment_is k later low_k below) [
                | inr idle ↦ absurd (idle_asks idle other nth its b)
                | inl after ↦
                    let one : AsksBytes (deeds chunk) chunk (8 * piece + nth) client (at_moment sent.0) bytes = subst (λ n. AsksBytes (deeds chunk) chunk (8 * piece + nth) client n bytes) sent.2 a in
                    let two : AsksBytes (deeds chunk) chunk (8 * piece + nth) other (at_moment after.0) its = subst (λ n. AsksBytes (deeds chunk) chunk (8 * piece + nth) other n its) after.2 b in
                    let less = sent.1 in
                    let less_after = after.1 in
                    let first_is = sent.2 in
                    let later_is = after.2 in
                    let low_after : after.0 < length told = omega (arith, less_after, low_k) in
                    let order : sent.0 < after.0 = elim (cases_lt sent.0 after.0) [
                      | inl sooner ↦ sooner
                      | inr not_sooner ↦ elim (cases_eq sent.0 after.0) [
                        | inl same ↦ absurd (let here = ap at_moment same in omega (arith, here, first_is, later_is, above))
                        | inr other_time ↦ absurd (let rise = rises after.0 sent.0 (omega (arith, not_sooner, other_time)) (omega (arith, less, low_k)) in omega (arith, rise, first_is, later_is, above))
                      ]
                    ] in
                    let w_one = writes_then sent.0 (omega (arith, less, low_k)) nth client inside bytes one in
                    let w_two = writes_then after.0 low_after nth other inside its two in
                    subst (λ n. IsTurnAnsweredBy (deeds chunk) client n later) (sym sent.2) (subst (λ n. IsTurnAnsweredBy (deeds chunk) client (at_moment sent.0) n) (sym after.2) (elim (turns.apart sent.0 after.0 client other order less_after w_one w_two) [
                      | inl own ↦ answered_by sent.0 client after.0 nth bytes order low_after one (at_moment after.0) two.reply (Some (Puts chunk two.op)) (rises sent.0 after.0 order low_after) (omega arith) (subst (λ c. slice_get (deeds chunk) (at_moment after.0) ≡ Some (Takes c two.reply (Some (Puts chunk two.op)))) (sym own) two.at)
                      | inr heard ↦ let at_turn = turn_then sent.0 client after.0 low_after heard in let low_turn = at_turn.2 in answered_by sent.0 client after.0 nth bytes order low_after one at_turn.0 at_turn.3 None at_turn.1 (omega (arith, low_turn)) at_turn.4
                    ]))
              ]
            ];
          }
            where
              idle_asks : {moment : ℕ} → IsBetween layout v volume room deeds moment → (client nth : ℕ) (bytes : Sector) → AsksBytes (deeds chunk) chunk (8 * piece + nth) client moment bytes → ⊥
              idle_asks b client nth bytes a = none-some (Puts chunk a.op) (sym (asks_none chunk b.pending b.event (no_ask b.event b.idle)) ∙ ap asks_in (same_Some _ _ (sym (b.at chunk) ∙ a.at)))
