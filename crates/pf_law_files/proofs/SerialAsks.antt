-- File data that are asked one at a time are asked serially of the chunks.
use Rattle.std.proofs.Common.{◌≡◌, ◌≢◌, ◌⊎◌, inl, inr, ℕ, zero, suc, ◌+◌, ◌*◌, ◌<◌, ◌≤◌, ◌==◌, ◌&&◌, Bool, true, if◌then◌else◌, List, [], ◌∷◌, ◌++◌, drop, length, take, Option, Some, None, slice_get, arith, refl, sym, ap, subst, ◌∙◌}
use Rattle.std.proofs.Math.Nat.{zero-add}
use Rattle.std.proofs.lemmas.Bool.{and_from, and_left, and_parts, and_right, cases_eq, cases_lt, cond-false, cond-true, eq-eqb, eqb-false, eqb-true, ne_eqb}
use Rattle.std.proofs.lemmas.Option.{none-some, same_Some}
use Rattle.pf_base.specs.Asks.{Answers, chunk_of, span_of}
use Rattle.pf_base.specs.Span.{Span}
use Rattle.pf_base.specs.declared.asks.Ask.{Ask}
use Rattle.pf_base.specs.declared.asks.Ask.TheVariants.{Write, Read}
use Rattle.pf_base.specs.declared.asks.Reply.{Reply}
use Rattle.pf_base.specs.declared.asks.Reply.TheVariants.{Written, Bytes}
use Rattle.pf_entry.specs.Ops.{Sector}
use Rattle.pf_entry.specs.declared.ops.Op.{Op}
use Rattle.pf_entry.specs.declared.ops.Op.TheVariants as ops
use Rattle.pf_entry.proofs.Cases.{by_test}
use Rattle.pf_protocol.specs.Groups.{Answered}
use Rattle.pf_law_registers.proofs.AnswersKept.{answered_stays}
use Rattle.pf_law_positions.specs.Deeds.{Brings as BringsDeed, Deed, Gets, Got, DeedIsPending, PortAsk, PortReply, Put, Puts, Reads, Submits, Takes}
use Rattle.pf_law_positions.specs.PortDeeds.{no_deed, port_ask, port_reply}
use Rattle.pf_law_positions.proofs.Answers.{prefix_taken}
use Rattle.pf_law_positions.proofs.PositionAnswers.{same_ask}
use Rattle.pf_law_positions.proofs.TakenReads.{answered_taken_up}
use Rattle.pf_law_epochs.specs.InTurn.{AsksBytes}
use Rattle.pf_law_epochs.specs.Routed.{IsRouted}
use Rattle.pf_volume.specs.Volumes.{Extent, IsVolume}
use Rattle.pf_tree.specs.Calls.{FileCall}
use Rattle.pf_journal.specs.declared.layouts.Layout.{Layout}
use Rattle.pf_journal.specs.Layouts.{VolumeHasRoom, LayoutIs, layout_of}
use Rattle.pf_mount_errands.specs.Positions.{anchors_of}
use Rattle.pf_mount.specs.Mounts.{MountIs, anchor_hands, ask_at, asked_anchor, asked_data, stand_of}
use Rattle.pf_law_plans.specs.Exchanges.{Exchange}
use Rattle.pf_law_contents.specs.Serial.{AreSerial, AreServed as AreServedBlocks, SectorsAreBrought, IsOfPiece, NoneAsks, NoneAsksElsewhere, WasAsked, asked_as}
use Rattle.pf_law_calls.specs.Doings.{HaveRegisters, IsListOf}
use Rattle.pf_law_calls.specs.Lives.{Asks, Begins, CanComeFrom, CanTake, Hears, Input, Life, MountTold, all_opened, lived, lives, lives_from, lives_on, mount_after}
use Rattle.pf_law_calls.proofs.Layouts.{anchors_in}
use Rattle.pf_law_calls.specs.Exchanges.{exchange, exchanged, pends_after, pends_in, pends_with}
use Rattle.pf_law_homes.specs.Chunks.{ChunkGroups, groups_in}
use Rattle.pf_law_homes.specs.Ports.{Comes, Goes, Hands, IsAnswerOf, IsBehindJournal, IsOwed, IsReplyTo, OfData, PortOwed, Passes, Pending, PortEvent, deed_answered, deed_at, deed_handed, deed_of, deeds_from, deeds_on, nothing_pending, pending_after, pending_with}
use Rattle.pf_law_homes.specs.Routed.{AreRoutedChunks}
use Rattle.pf_law_events.specs.Events.{MountsAreServed, AreServedFrom, Brings, CanAsk, HandsOn, Happening, IsDataBehind, InputIsServed, client_of, port_event, port_events, events_with, goes, owed_now, owed_to, mounts_told}
use Rattle.pf_law_events.proofs.LayoutAsks.{IfOwed}
use Rattle.pf_law_events.proofs.EventTurns.{AllOf, opened_of, owed_is, told_of_all}
use Rattle.pf_law_files.specs.Blocks.{is_data_piece}
use Rattle.pf_law_files.specs.Calls.{AreOneAtATime, HaveEnded, data_from, data_in}
use Rattle.pf_law_files.proofs.MountAsks.{IsFar, IsNoCall, IsOther, anchor_none, anchor_other, data_now, next_data, none_pends, pending_data, still_rests}
use Rattle.pf_law_files.proofs.Blocks.{IsBefore, IsOfBlock, block_eight, data_past, of_chunk, of_piece, other_before}
use Rattle.pf_law_files.proofs.Pieces.{FarThrough, IsElsewhere, blocks_served, elsewhere_none, far_through, laid_out}

-- Deeds

abbrev pub asks_in : Deed → Option PortAsk
asks_in (Takes client reply ask) = ask
asks_in (Submits client chunk epoch place) = None

-- not a turn of this client
abbrev pub IsNoTurn : (client : ℕ) → Deed → Type 0
IsNoTurn client (Takes other reply ask) = other ≢ client
IsNoTurn client (Submits other chunk epoch place) = Unit {0}

pub nobody : (client : ℕ) → client < 16 → IsNoTurn client no_deed
nobody client low same = absurd (omega (arith, low, same))

at_none : (chunk : ℕ) (owed : PortOwed) (deed : Deed) → asks_in deed ≡ None → asks_in (deed_at chunk owed deed) ≡ None
at_none chunk owed deed none = by_test (chunk_of owed.ask == chunk) (λ b. asks_in (if b then deed else no_deed) ≡ None) (λ _. none) (λ _. refl)

-- at a chunk a deed is what it is there, where it is of the chunk
pub if_there : (P : Deed → Type 0) (chunk : ℕ) (owed : PortOwed) (deed : Deed) → P no_deed → (chunk_of owed.ask ≡ chunk → P deed) → P (deed_at chunk owed deed)
if_there P chunk owed deed none its = by_test (chunk_of owed.ask == chunk) (λ b. P (if b then deed else no_deed)) (λ same. its (eqb-true (chunk_of owed.ask) chunk same)) (λ _. none)

pub there : (chunk : ℕ) (owed : PortOwed) (deed : Deed) → chunk_of owed.ask ≡ chunk → deed_at chunk owed deed ≡ deed
there chunk owed deed same = cond-true (chunk_of owed.ask == chunk) deed no_deed (eq-eqb (chunk_of owed.ask) chunk same)

-- nothing goes out
abbrev pub IsNoAsk : PortEvent → Type 0
IsNoAsk (Goes m port owed) = ⊥
IsNoAsk event = Unit {0}

pub asks_none : (chunk : ℕ) (pending : Pending) (event : PortEvent) → IsNoAsk event → asks_in (deed_of chunk pending event) ≡ None
asks_none chunk pending (Goes m port owed) quiet = absurd quiet
asks_none chunk pending (Comes m port reply epoch by answer) quiet = of (pending m port)
  where
    of : (o : Option PortOwed) → asks_in (deed_answered chunk epoch by answer o reply) ≡ None
    of None = refl
    of (Some owed) = at_none chunk owed (Takes owed.client (port_reply owed.ask epoch by answer reply) None) refl
asks_none chunk pending (Hands m port epoch place) quiet = of (pending m port)
  where
    of : (o : Option PortOwed) → asks_in (deed_handed chunk epoch place o) ≡ None
    of None = refl
    of (Some owed) = at_none chunk owed (Submits owed.client (chunk_of owed.ask) epoch place) refl
asks_none chunk pending Passes quiet = refl

pub handed_none : (client chunk epoch place : ℕ) → client < 16 → (o : Option PortOwed) → IsNoTurn client (deed_handed chunk epoch place o)
handed_none client chunk epoch place low None = nobody client low
handed_none client chunk epoch place low (Some owed) = if_there (IsNoTurn client) chunk owed (Submits owed.client (chunk_of owed.ask) epoch place) (nobody client low) (λ _. tt)

-- A client has one ask pending at a moment
one_pending : (deeds : List Deed) (client a b moment : ℕ) (ask other : PortAsk) → DeedIsPending deeds client a moment ask → DeedIsPending deeds client b moment other → a ≡ b
one_pending deeds client a b moment ask other p q = elim (cases_lt a b) [
  | inl before ↦ absurd (p.no_other b q.reply (Some other) before q.earlier q.at)
  | inr not_before ↦ elim (cases_lt b a) [
    | inl after ↦ absurd (q.no_other a p.reply (Some ask) after p.earlier p.at)
    | inr not_after ↦ omega (arith, not_before, not_after)
  ]
]

pub port_asks : (ask : Ask) → port_ask ask ≡ asked_as ask
port_asks (Write chunk span sectors) = refl
port_asks (Read chunk span) = refl

pub brought : (ask : Ask) (reply : Reply) (epoch by : ℕ) (answer : Answered) → IsAnswerOf ask reply answer → SectorsAreBrought ask reply (port_reply ask epoch by answer reply)
brought (Write chunk span sectors) reply epoch by answer its = tt
brought (Read chunk span) Written epoch by answer its = tt
brought (Read chunk span) (Bytes sectors) epoch by answer its = (epoch, by, answer, refl, sym its.1)

-- Who has asked

module _ (layout : Layout) (v : Extent) (volume : IsVolume v) (room : VolumeHasRoom layout v) where
  abbrev l : LayoutIs
  l = layout_of layout

  abbrev A : ℕ
  A = anchors_in layout

  abbrev is_piece : (chunk piece : ℕ) → Bool
  is_piece = is_data_piece layout v

  -- an ask for file data
  pub record IsDataAsk (ask : Ask) : Type 0 where
    pub block : IsOfBlock v ask
    pub behind : IsBehindJournal l v ask

  pub piece_of : (ask : Ask) → IsDataAsk ask → IsOfPiece is_piece ask
  piece_of ask its = of_piece layout v volume volume.blocks.0 volume.blocks.1 ask its.block its.behind

  -- it is of other sectors than what lies before
  apart : (ask other : Ask) → IsDataAsk ask → IsBefore l v other → chunk_of ask ≡ chunk_of other → span_of ask ≡ span_of other → ⊥
  apart ask other its before chunk span =
      let behind = subst (λ c. 8 * l.first ≤ v.sectors * c + (span_of ask).first) chunk its.behind.behind in
      let eight = block_eight layout v volume volume.blocks.0 volume.blocks.1 ask its.block in
      let first = ap (λ (s : Span). s.first) span in
      let count = ap (λ (s : Span). s.count) span in
      let end = before.before in
      absurd (omega (arith, behind, eight, first, count, end))

  abbrev pub data_owed : (m : ℕ) → Option Ask → Option PortOwed
  data_owed m ask = owed_to m OfData ask

  -- an ask that went out, and for what
  pub record IsSent (m port : ℕ) (owed : PortOwed) : Type 0 where
    pub is : IsOwed l v m port owed
    pub other : port < A → owed.matter ≢ OfData

  abbrev pub AreSent : Pending → Type 0
  AreSent pending = (m port : ℕ) (owed : PortOwed) → pending m port ≡ Some owed → IsSent m port owed

  -- what is pending at the ports for file data
  abbrev pub OwesData : Pending → (last : ℕ → Option Ask) → Type 0
  OwesData pending last = (m : ℕ) → m < 16 → pending m A ≡ data_owed m (last m)

  -- What happens at a port of mount n, where this ask is pending at its port for file data: afterwards it is that one, and this was answered
  pub data IsKind (q : Type 0) (n : ℕ) (pending : Pending) (was : Option Ask) : PortEvent → (now : Option Ask) → List Exchange → Type 0 where
    Nothing : IsKind q n pending was Passes was []
    Elsewhere : (port : ℕ) (owed : PortOwed) → IsOwed l v n port owed → IsElsewhere layout v volume port owed → was ≡ None → IsKind q n pending was (Goes n port owed) was []
    Asked : (ask : Ask) → IsDataAsk ask → IsOwed l v n A (record { client = n; ask = ask; matter = OfData }) → was ≡ None → q → IsKind q n pending was (Goes n A (record { client = n; ask = ask; matter = OfData })) (Some ask) []
    Heard : (port : ℕ) (reply : Reply) (epoch by : ℕ) (answer : Answered) → port < A → IsReplyTo (pending n port) reply answer → IsKind q n pending was (Comes n port reply epoch by answer) was []
    Replied : (ask : Ask) (reply : Reply) (epoch by : ℕ) (answer : Answered) → was ≡ Some ask → IsAnswerOf ask reply answer → IsKind q n pending was (Comes n A reply epoch by answer) None ((ask, reply) ∷ [])

  module _ (x : MountIs) (n : ℕ) (low : n < 16) (number : x.files.mount ≡ n) (lies : anchors_of x.position ≡ A) (pending : Pending) (was : Option Ask) (far : IsFar v was x) (owes : pending n A ≡ data_owed n was) where
    abbrev Kind : PortEvent → Option Ask → List Exchange → Type 0
    Kind event now its = IsKind (x.files.pending ≢ None) n pending was event now its

    asks_data : (port : ℕ) → port ≡ anchors_of x.position → IsDataBehind layout v port x.task.ask → (o : Option Ask) → x.task.ask ≡ o → Kind (goes n port (owed_to (client_of x.files.mount x.task.work) OfData o)) (pends_with was o) []
    asks_data port here behind None is = Nothing
    asks_data port here behind (Some ask) is =
        let next = next_data v was x ask is far in
        let client : client_of x.files.mount x.task.work ≡ n = next.by_itself ∙ number in
        let at : port ≡ A = here ∙ lies in
        let its_behind : IsBehindJournal l v ask = subst (IsDataBehind layout v port) is behind at in
        subst (λ c. Kind (Goes n port (record { client = c; ask = ask; matter = OfData })) (Some ask) []) (sym client)
        (subst (λ p. Kind (Goes n p (record { client = n; ask = ask; matter = OfData })) (Some ask) []) (sym at)
        (Asked ask (record { block = next.block; behind = its_behind }) (record { mount_low = low; client = inl refl; ask = its_behind }) next.free next.calls))

    asks_other : (port : ℕ) → port < anchors_of x.position → IfOwed l v n port (owed_now x port) → (o : Option Ask) → was ≡ o → Kind (goes n port (owed_now x port)) was []
    asks_other port low_port owed (Some ask) is =
        let pends = pending_data v was x ask is far in
        subst (λ o. Kind (goes n port o) was []) (sym (anchor_none x port low_port pends.moving pends.at_data)) Nothing
    asks_other port low_port owed None is = by (owed_now x port) (anchor_other x port low_port) owed
      where
        by : (o : Option PortOwed) → IsOther o → IfOwed l v n port o → Kind (goes n port o) was []
        by None other its = Nothing
        by (Some owed) other its = Elsewhere port owed its.0 (omega (arith, low_port, lies), other) is

    hears_data : (port : ℕ) → port ≡ A → (reply : Reply) (epoch by : ℕ) (answer : Answered) → IsReplyTo (pending n port) reply answer → (o : Option Ask) → was ≡ o → Kind (Comes n port reply epoch by answer) None (exchange o reply)
    hears_data port at reply epoch by answer its o is =
        replied o is (subst (λ a. IsReplyTo (data_owed n a) reply answer) is (subst (λ x. IsReplyTo x reply answer) owes (subst (λ p. IsReplyTo (pending n p) reply answer) at its)))
      where
        replied : (o : Option Ask) → was ≡ o → IsReplyTo (data_owed n o) reply answer → Kind (Comes n port reply epoch by answer) None (exchange o reply)
        replied None is its = absurd its
        replied (Some ask) is its = subst (λ p. Kind (Comes n p reply epoch by answer) None ((ask, reply) ∷ [])) (sym at) (Replied ask reply epoch by answer is its.1)

    pub kind_of : (epoch by : ℕ) (answer : Answered) (input : Input) → CanTake x input → InputIsServed layout v pending n x answer input → ((port : ℕ) → port ≤ anchors_of x.position → CanAsk layout v pending n x port → IfOwed l v n port (owed_now x port))
        → Kind (port_event n x epoch by answer input) (pends_after x was input) (exchanged x was input)
    kind_of epoch by answer (Begins call) can its owed = Nothing
    kind_of epoch by answer (Asks port) can its owed =
        by_test (port == anchors_of x.position) (λ b. Kind (goes n port (owed_now x port)) (if b then pends_with was (ask_at x port) else was) [])
        (λ is.
        let here = eqb-true port (anchors_of x.position) is in
        let ask_is : ask_at x port ≡ x.task.ask = cond-true (port == anchors_of x.position) x.task.ask (anchor_hands (stand_of x) x.task.work port).ask is in
        subst (λ o. Kind (goes n port (owed_now x port)) (pends_with was o) []) (sym ask_is)
        (subst (λ o. Kind (goes n port o) (pends_with was x.task.ask) []) (sym (data_now x port here))
        (asks_data port here (subst (IsDataBehind layout v port) ask_is its.behind) x.task.ask refl)))
        (λ other.
        let apart = eqb-false port (anchors_of x.position) other in
        asks_other port (omega (arith, can, apart)) (owed port can its) was refl)
    kind_of epoch by answer (Hears port reply) can its owed =
        by_test (port == anchors_of x.position) (λ b. Kind (Comes n port reply epoch by answer) (if b then None else was) (if b then exchange was reply else []))
        (λ is. hears_data port (eqb-true port (anchors_of x.position) is ∙ lies) reply epoch by answer its was refl)
        (λ other.
        let apart = eqb-false port (anchors_of x.position) other in
        let low_port = can.port_low in
        Heard port reply epoch by answer (omega (arith, low_port, apart, lies)) its)

  -- What is pending afterwards

  module _ (pending : Pending) (n : ℕ) (o : Option PortOwed) where
    with_own : (port : ℕ) → pending_with pending n port o n port ≡ o
    with_own port = cond-true (n == n && port == port) o (pending n port) (and_from (n == n) (port == port) (eq-eqb n n refl) (eq-eqb port port refl))

    with_other : (m port a : ℕ) → m ≢ n → pending_with pending n port o m a ≡ pending m a
    with_other m port a other = cond-false (m == n && a == port) o (pending m a) (and_left (m == n) (a == port) (ne_eqb m n other))

    with_port : (m port a : ℕ) → a ≢ port → pending_with pending n port o m a ≡ pending m a
    with_port m port a other = cond-false (m == n && a == port) o (pending m a) (and_right (m == n) (a == port) (ne_eqb a port other))

    sent_with : (port : ℕ) → ((owed : PortOwed) → o ≡ Some owed → IsSent n port owed) → AreSent pending → AreSent (pending_with pending n port o)
    sent_with port new sent m p owed =
        by_test (m == n && p == port) (λ b. (if b then o else pending m p) ≡ Some owed → IsSent m p owed)
        (λ both is.
        let parts = and_parts (m == n) (p == port) both in
        subst (λ k. IsSent k p owed) (sym (eqb-true m n parts.0)) (subst (λ a. IsSent n a owed) (sym (eqb-true p port parts.1)) (new owed is)))
        (λ _ is. sent m p owed is)

  -- these are pending at the ports for file data, once this is at that of mount n
  pub record IsWith (last : ℕ → Option Ask) (n : ℕ) (now : Option Ask) (after : ℕ → Option Ask) : Type 0 where
    pub own : after n ≡ now
    pub others : (m : ℕ) → m ≢ n → after m ≡ last m

  module _ (q : Type 0) (n : ℕ) (low : n < 16) (pending : Pending) where
    pub sent_on : (was now : Option Ask) (event : PortEvent) (its : List Exchange) → IsKind q n pending was event now its → AreSent pending → AreSent (pending_after pending event)
    sent_on was now _ its Nothing sent = sent
    sent_on was now _ its (Elsewhere port owed is other free) sent =
        sent_with pending n (Some owed) port (λ x same. subst (IsSent n port) (same_Some owed x same) (record { is = is; other = λ _. other.1 })) sent
    sent_on was now _ its (Asked ask data_ask is free calls) sent =
        sent_with pending n (data_owed n (Some ask)) A (λ x same. subst (IsSent n A) (same_Some _ x same) (record { is = is; other = λ below. absurd (omega (arith, below)) })) sent
    sent_on was now _ its (Heard port reply epoch by answer low_port replied) sent = sent_with pending n None port (λ x same. absurd (none-some x same)) sent
    sent_on was now _ its (Replied ask reply epoch by answer is replied) sent = sent_with pending n None A (λ x same. absurd (none-some x same)) sent

    module _ (last after : ℕ → Option Ask) (owes : OwesData pending last) where
      owes_still : (its : Pending) → ((m : ℕ) → its m A ≡ pending m A) → IsWith last n (last n) after → OwesData its after
      owes_still its same with_now m small = elim (cases_eq m n) [
        | inl here ↦ same m ∙ owes m small ∙ ap (data_owed m) (ap last here ∙ sym with_now.own ∙ ap after (sym here))
        | inr other ↦ same m ∙ owes m small ∙ ap (data_owed m) (sym (with_now.others m other))
      ]

      owes_now : (now : Option Ask) → IsWith last n now after → OwesData (pending_with pending n A (data_owed n now)) after
      owes_now now with_now m small = elim (cases_eq m n) [
        | inl here ↦ subst (λ k. pending_with pending n A (data_owed n now) k A ≡ data_owed k (after k)) (sym here) (with_own pending n (data_owed n now) A ∙ ap (data_owed n) (sym with_now.own))
        | inr other ↦ with_other pending n (data_owed n now) m A A other ∙ owes m small ∙ ap (data_owed m) (sym (with_now.others m other))
      ]

      pub owes_on : (now : Option Ask) (event : PortEvent) (its : List Exchange) → IsKind q n pending (last n) event now its → IsWith last n now after → OwesData (pending_after pending event) after
      owes_on now _ its Nothing with_now = owes_still pending (λ m. refl) with_now
      owes_on now _ its (Elsewhere port owed is other free) with_now = owes_still (pending_with pending n port (Some owed)) (λ m. with_port pending n (Some owed) m port A (λ e. (let below = other.0 in absurd (omega (arith, below, e))))) with_now
      owes_on now _ its (Asked ask data_ask is free calls) with_now = owes_now (Some ask) with_now
      owes_on now _ its (Heard port reply epoch by answer low_port replied) with_now = owes_still (pending_with pending n port None) (λ m. with_port pending n None m port A (λ e. absurd (omega (arith, low_port, e)))) with_now
      owes_on now _ its (Replied ask reply epoch by answer is replied) with_now = owes_now None with_now

  -- What the chunks were asked

  module _ (groups : (chunk : ℕ) → ChunkGroups) (deeds : (chunk : ℕ) → List Deed) (routed : (chunk piece : ℕ) → chunk < v.chunks → 8 * piece < v.sectors → IsRouted (groups_in (groups chunk)) (deeds chunk) chunk piece) where
    abbrev pub IsAt : (moment : ℕ) → Pending → PortEvent → Type 0
    IsAt moment pending event = (chunk : ℕ) → slice_get (deeds chunk) moment ≡ Some (deed_of chunk pending event)

    -- While a client has an ask for file data pending at a chunk, nothing that was asked before the file data is answered to it there

    module _ (chunk : ℕ) (low_chunk : chunk < v.chunks) (client asked moment : ℕ) (ask : Ask) (its : IsDataAsk ask) (here : chunk_of ask ≡ chunk) (pending : DeedIsPending (deeds chunk) client asked moment (port_ask ask)) where
      its_route : IsRouted (groups_in (groups chunk)) (deeds chunk) chunk 0
      its_route = routed chunk 0 low_chunk (let most = volume.some_sectors in omega (arith, most))

      -- what is answered is the ask that is pending
      is_own : (was : ℕ) (asks : PortAsk) → DeedIsPending (deeds chunk) client was moment asks → asks ≡ port_ask ask
      is_own was asks p =
          let same = one_pending (deeds chunk) client was asked moment asks (port_ask ask) p pending in
          same_ask (deeds chunk) asked client p.reply pending.reply asks (port_ask ask) (subst (λ k. slice_get (deeds chunk) k ≡ Some (Takes client p.reply (Some asks))) same p.at) pending.at

      span_written : (to : ℕ) (span : Span) (sectors : List Sector) → Puts to (ops.Write span sectors) ≡ port_ask ask → span_of ask ≡ span
      span_written to span sectors e = by ask refl
        where
          by : (a : Ask) → ask ≡ a → span_of ask ≡ span
          by (Write other its its_sectors) is =
              let same : Puts to (ops.Write span sectors) ≡ Puts other (ops.Write its its_sectors) = e ∙ ap port_ask is in
              let spans : its ≡ span = cc in
              ap span_of is ∙ spans
          by (Read other its) is = (let same : Puts to (ops.Write span sectors) ≡ Gets other its = e ∙ ap port_ask is in absurd (cc))

      span_read : (from : ℕ) (span : Span) → Gets from span ≡ port_ask ask → span_of ask ≡ span
      span_read from span e = by ask refl
        where
          by : (a : Ask) → ask ≡ a → span_of ask ≡ span
          by (Write other its its_sectors) is = (let same : Gets from span ≡ Puts other (ops.Write its its_sectors) = e ∙ ap port_ask is in absurd (cc))
          by (Read other its) is =
              let same : Gets from span ≡ Gets other its = e ∙ ap port_ask is in
              let spans : its ≡ span = cc in
              ap span_of is ∙ spans

      written_own : (epoch by : ℕ) (span : Span) (sectors : List Sector) → slice_get (deeds chunk) moment ≡ Some (Takes client (Some (Put chunk epoch by (ops.Write span sectors))) None) → span_of ask ≡ span
      written_own epoch by span sectors at =
          let put = its_route.fits.put client moment epoch by (ops.Write span sectors) None at in
          span_written chunk span sectors (is_own put.asked (Puts chunk (ops.Write span sectors)) put.pending)

      read_own : (epoch by : ℕ) (answer : Answered) → slice_get (deeds chunk) moment ≡ Some (Takes client (Some (Got chunk epoch by answer)) None) → span_of ask ≡ answer.range
      read_own epoch by answer at =
          let g = groups_in (groups chunk) in
          let got = its_route.fits.got client moment epoch by answer None at in
          let reached = its_route.fits.reached moment epoch _ at (BringsDeed by _ (Reads client answer None)) in
          let there = answered_stays (g.setup chunk epoch) (take by (g.history chunk epoch)) (g.history chunk epoch) got.k answer (prefix_taken by (g.history chunk epoch)) got.answered in
          let taken = answered_taken_up (g.setup chunk epoch) (g.history chunk epoch) got.place got.server got.k got.range answer (its_route.legal epoch reached) got.taken there in
          span_read chunk got.range (is_own got.asked (Gets chunk got.range) got.pending) ∙ sym taken.same_range

      other_answer : (other : Ask) (reply : Reply) (epoch by : ℕ) (answer : Answered) → IsBefore l v other → chunk_of other ≡ chunk → Answers other reply → IsAnswerOf other reply answer
          → slice_get (deeds chunk) moment ≡ Some (Takes client (port_reply other epoch by answer reply) None) → ⊥
      other_answer (Write to span sectors) Written epoch by answer before at answers of is =
          apart ask (Write to span sectors) its before (here ∙ sym at) (written_own epoch by span sectors (subst (λ c. slice_get (deeds chunk) moment ≡ Some (Takes client (Some (Put c epoch by (ops.Write span sectors))) None)) at is))
      other_answer (Write to span sectors) (Bytes bytes) epoch by answer before at answers of is = absurd answers
      other_answer (Read from span) Written epoch by answer before at answers of is = absurd answers
      other_answer (Read from span) (Bytes bytes) epoch by answer before at answers of is =
          apart ask (Read from span) its before (here ∙ sym at) (read_own epoch by answer (subst (λ c. slice_get (deeds chunk) moment ≡ Some (Takes client (Some (Got c epoch by answer)) None)) at is) ∙ of.0)

    -- One moment

    -- nobody asks to write a sector of file data
    abbrev pub IsQuiet : (moment : ℕ) → Type 0
    IsQuiet moment = (chunk piece nth client : ℕ) (bytes : Sector) → is_piece chunk piece ≡ true → nth < 8 → AsksBytes (deeds chunk) chunk (8 * piece + nth) client moment bytes → ⊥

    -- and the client has no turn at the chunk
    abbrev pub HasNoTurn : (chunk client moment : ℕ) → Type 0
    HasNoTurn chunk client moment = (reply : Option PortReply) (next : Option PortAsk) → slice_get (deeds chunk) moment ≡ Some (Takes client reply next) → ⊥

    pub turn_none : (client : ℕ) (deed : Deed) → IsNoTurn client deed → (reply : Option PortReply) (next : Option PortAsk) → deed ≡ Takes client reply next → ⊥
    turn_none client (Takes other its ask) no_turn reply next same = (let e : other ≡ client = cc in absurd (no_turn e))
    turn_none client (Submits other chunk epoch place) no_turn reply next same = absurd (cc)

    pub has_no_turn : (chunk client moment : ℕ) (deed : Deed) → slice_get (deeds chunk) moment ≡ Some deed → IsNoTurn client deed → HasNoTurn chunk client moment
    has_no_turn chunk client moment deed at no_turn reply next is = turn_none client deed no_turn reply next (same_Some deed (Takes client reply next) (sym at ∙ is))

    module _ (moment : ℕ) (pending : Pending) (event : PortEvent) (at : IsAt moment pending event) where
      pub quiet_none : IsNoAsk event → IsQuiet moment
      quiet_none none chunk piece nth client bytes of_data inside a =
          let same = same_Some _ _ (sym (at chunk) ∙ a.at) in
          absurd (none-some (Puts chunk a.op) (sym (asks_none chunk pending event none) ∙ ap asks_in same))

    module _ (moment : ℕ) (pending : Pending) (n port : ℕ) (owed : PortOwed) (at : IsAt moment pending (Goes n port owed)) where
      -- what goes out at a chunk is what is asked of it
      pub went_at : (chunk client : ℕ) (reply : Option PortReply) (op : Op) → slice_get (deeds chunk) moment ≡ Some (Takes client reply (Some (Puts chunk op))) → (chunk_of owed.ask ≡ chunk) × (port_ask owed.ask ≡ Puts chunk op)
      went_at chunk client reply op is =
          if_there (λ deed. deed ≡ Takes client reply (Some (Puts chunk op)) → (chunk_of owed.ask ≡ chunk) × (port_ask owed.ask ≡ Puts chunk op)) chunk owed (Takes owed.client None (Some (port_ask owed.ask)))
          (λ none. absurd (none-some (Puts chunk op) (ap asks_in none)))
          (λ here same. (here, same_Some _ _ (ap asks_in same)))
          (same_Some _ _ (sym (at chunk) ∙ is))

      pub quiet_other : IsOwed l v n port owed → IsElsewhere layout v volume port owed → IsQuiet moment
      quiet_other is other chunk piece nth client bytes of_data inside a =
          elsewhere_none layout v volume room n port owed is other chunk piece nth a.op bytes of_data (went_at chunk client a.reply a.op a.at).1 a.gives

      pub no_turn_of : (chunk client : ℕ) → client < 16 → owed.client ≢ client → HasNoTurn chunk client moment
      no_turn_of chunk client low other =
          has_no_turn chunk client moment (deed_at chunk owed (Takes owed.client None (Some (port_ask owed.ask)))) (at chunk) (if_there (IsNoTurn client) chunk owed (Takes owed.client None (Some (port_ask owed.ask))) (nobody client low) (λ _. other))

    -- All moments so far: from one on nobody has asked to write file data, and nothing is pending
    record IsFree (from moment : ℕ) (last : ℕ → Option Ask) : Type 0 where
      low : from ≤ moment
      none : NoneAsks is_piece deeds from moment
      free : (m : ℕ) → m < 16 → last m ≡ None

    -- or one mount asked for some, which is pending, and nobody else
    record IsBusy (from moment : ℕ) (last : ℕ → Option Ask) : Type 0 where
      mount : ℕ
      small : mount < 16
      ask : Ask
      is : last mount ≡ Some ask
      of_data : IsDataAsk ask
      asked : ℕ
      low : from ≤ asked
      pending : DeedIsPending (deeds (chunk_of ask)) mount asked moment (port_ask ask)
      before : NoneAsks is_piece deeds from asked
      elsewhere : NoneAsksElsewhere is_piece deeds (chunk_of ask) asked
      behind : NoneAsks is_piece deeds (suc asked) moment

    abbrev State : (from moment : ℕ) → (last : ℕ → Option Ask) → Type 0
    State from moment last = IsFree from moment last ⊎ IsBusy from moment last

    none_on : (from moment : ℕ) → NoneAsks is_piece deeds from moment → IsQuiet moment → NoneAsks is_piece deeds from (suc moment)
    none_on from moment none quiet chunk piece nth client asked bytes of_data inside low below a = elim (cases_lt asked moment) [
      | inl sooner ↦ absurd (none chunk piece nth client asked bytes of_data inside low sooner a)
      | inr not_sooner ↦
          let here : asked ≡ moment = omega (arith, below, not_sooner) in
          absurd (quiet chunk piece nth client bytes of_data inside (subst (λ k. AsksBytes (deeds chunk) chunk (8 * piece + nth) client k bytes) here a))
    ]

    pub pending_on : (chunk client asked moment : ℕ) (ask : PortAsk) → DeedIsPending (deeds chunk) client asked moment ask → HasNoTurn chunk client moment → DeedIsPending (deeds chunk) client asked (suc moment) ask
    pending_on chunk client asked moment ask p no_turn = record { reply = p.reply; at = p.at; earlier = (let e = p.earlier in omega (arith, e)); no_other = no_other }
      where
        no_other : (k : ℕ) (its : Option PortReply) (next : Option PortAsk) → asked < k → k < suc moment → slice_get (deeds chunk) k ≡ Some (Takes client its next) → ⊥
        no_other k its next after below is = elim (cases_lt k moment) [
          | inl sooner ↦ absurd (p.no_other k its next after sooner is)
          | inr not_sooner ↦
              let here : k ≡ moment = omega (arith, below, not_sooner) in
              absurd (no_turn its next (subst (λ j. slice_get (deeds chunk) j ≡ Some (Takes client its next)) here is))
        ]

    -- at a quiet moment
    module _ (from moment : ℕ) (last after : ℕ → Option Ask) (same : (m : ℕ) → m < 16 → after m ≡ last m) (quiet : IsQuiet moment) where
      quiet_on : (state : State from moment last) → ((m : ℕ) (ask : Ask) → m < 16 → last m ≡ Some ask → (asked : ℕ) → IsDataAsk ask → DeedIsPending (deeds (chunk_of ask)) m asked moment (port_ask ask) → HasNoTurn (chunk_of ask) m moment) → State from (suc moment) after
      quiet_on (inl f) no_turn = inl (record { low = (let low = f.low in omega (arith, low)); none = none_on from moment f.none quiet; free = λ m small. same m small ∙ f.free m small })
      quiet_on (inr b) no_turn = inr (record {
        mount = b.mount;
        small = b.small;
        ask = b.ask;
        is = same b.mount b.small ∙ b.is;
        of_data = b.of_data;
        asked = b.asked;
        low = b.low;
        pending = pending_on (chunk_of b.ask) b.mount b.asked moment (port_ask b.ask) b.pending (no_turn b.mount b.ask b.small b.is b.asked b.of_data b.pending);
        before = b.before;
        elsewhere = b.elsewhere;
        behind = none_on (suc b.asked) moment b.behind quiet;
      })

    -- An event of a mount

    -- from one moment on these exchanges were made, and from the next one on it goes on so
    record Steps (from : ℕ) (its : List Exchange) (moment : ℕ) (last : ℕ → Option Ask) : Type 0 where
      next : ℕ
      state : State next moment last
      serial : (came : List Exchange) (end : ℕ) → AreSerial is_piece deeds next came end → AreSerial is_piece deeds from (its ++ came) end

    stays_so : (from moment : ℕ) (last : ℕ → Option Ask) → State from moment last → Steps from [] moment last
    stays_so from moment last state = record { next = from; state = state; serial = λ came end serial. serial }

    module _ (n : ℕ) (pending : Pending) (sent : AreSent pending) (moment : ℕ) where
      -- an answer at an anchor
      pub heard_none : (port : ℕ) (reply : Reply) (epoch by : ℕ) (answer : Answered) → IsAt moment pending (Comes n port reply epoch by answer) → port < A → IsReplyTo (pending n port) reply answer
          → (m : ℕ) (ask : Ask) → m < 16 → (asked : ℕ) → IsDataAsk ask → DeedIsPending (deeds (chunk_of ask)) m asked moment (port_ask ask) → HasNoTurn (chunk_of ask) m moment
      heard_none port reply epoch by answer at low_port replied m ask small asked its p r next turn = of (pending n port) refl replied (same_Some _ _ (sym (at (chunk_of ask)) ∙ turn))
        where
          c : ℕ
          c = chunk_of ask

          own : (owed : PortOwed) → pending n port ≡ Some owed → IsReplyTo (Some owed) reply answer → chunk_of owed.ask ≡ c → Takes owed.client (port_reply owed.ask epoch by answer reply) None ≡ Takes m r next → ⊥
          own owed is replied here same =
              let s = sent n port owed is in
              let client : owed.client ≡ m = cc in
              other_answer c (of_chunk layout v volume volume.blocks.0 volume.blocks.1 ask (piece_of ask its)) m asked moment ask its refl p owed.ask reply epoch by answer
              (other_before l v (laid_out layout v volume room) (data_past layout) n port owed.client owed.matter owed.ask s.is.mount_low low_port (s.other low_port) s.is.ask) here replied.0 replied.1
              (turn ∙ ap Some (sym same) ∙ ap (λ k. Some (Takes k (port_reply owed.ask epoch by answer reply) None)) client)

          of : (o : Option PortOwed) → pending n port ≡ o → IsReplyTo o reply answer → deed_answered c epoch by answer o reply ≡ Takes m r next → ⊥
          of None is replied same = absurd replied
          of (Some owed) is replied same =
              if_there (λ deed. deed ≡ Takes m r next → ⊥) c owed (Takes owed.client (port_reply owed.ask epoch by answer reply) None)
              (λ none. turn_none m no_deed (nobody m small) r next none) (λ here its. own owed is replied here its) same

    module _ (q : Type 0) (n : ℕ) (low_n : n < 16) (pending : Pending) (sent : AreSent pending) (from moment : ℕ) (last after : ℕ → Option Ask) (owes : OwesData pending last)
        (calls : (ask : Ask) → last n ≡ Some ask → q) (alone : (m : ℕ) (ask : Ask) → m < 16 → last m ≡ Some ask → q → m ≡ n) where
      as_before : IsWith last n (last n) after → (m : ℕ) → m < 16 → after m ≡ last m
      as_before with_now m small = elim (cases_eq m n) [
        | inl here ↦ ap after here ∙ with_now.own ∙ ap last (sym here)
        | inr other ↦ with_now.others m other
      ]

      -- file data are asked for
      asks_next : (ask : Ask) → IsAt moment pending (Goes n A (record { client = n; ask = ask; matter = OfData })) → IsDataAsk ask → last n ≡ None → q → IsWith last n (Some ask) after → State from moment last → State from (suc moment) after
      asks_next ask at its free has with_now (inr b) = absurd (none-some b.ask (sym free ∙ ap last (sym (alone b.mount b.ask b.small b.is has)) ∙ b.is))
      asks_next ask at its free has with_now (inl f) = inr (record {
        mount = n;
        small = low_n;
        ask = ask;
        is = with_now.own;
        of_data = its;
        asked = moment;
        low = f.low;
        pending = record {
          reply = None;
          at = at (chunk_of ask) ∙ ap Some (there (chunk_of ask) (record { client = n; ask = ask; matter = OfData }) (Takes n None (Some (port_ask ask))) refl);
          earlier = omega arith;
          no_other = λ k its next after below is. absurd (omega (arith, after, below));
        };
        before = f.none;
        elsewhere = λ chunk piece nth client bytes of_data inside a. sym (went_at moment pending n A (record { client = n; ask = ask; matter = OfData }) at chunk client a.reply a.op a.at).0;
        behind = λ chunk piece nth client asked bytes of_data inside low below a. absurd (omega (arith, low, below));
      })

      -- and answered
      answers_it : (ask : Ask) (reply : Reply) (epoch by : ℕ) (answer : Answered) → IsAt moment pending (Comes n A reply epoch by answer) → last n ≡ Some ask → IsAnswerOf ask reply answer → IsWith last n None after → State from moment last → Steps from ((ask, reply) ∷ []) (suc moment) after
      answers_it ask reply epoch by answer at is replied with_now (inl f) = absurd (none-some ask (sym (f.free n low_n) ∙ is))
      answers_it ask reply epoch by answer at is replied with_now (inr b) = record { next = moment; state = inl (record { low = omega arith; none = none_since; free = free_then }); serial = serial }
        where
          none_since : NoneAsks is_piece deeds moment (suc moment)
          none_since = none_on moment moment (λ chunk piece nth client asked bytes of_data inside low below a. absurd (omega (arith, low, below))) (quiet_none moment pending (Comes n A reply epoch by answer) at tt)

          free_then : (m : ℕ) → m < 16 → after m ≡ None
          free_then m small = elim (cases_eq m n) [
            | inl here ↦ ap after here ∙ with_now.own
            | inr other ↦ with_now.others m other ∙ none other (last m) refl
          ]
            where
              none : m ≢ n → (o : Option Ask) → last m ≡ o → last m ≡ None
              none other None is_none = is_none
              none other (Some its) pends = absurd (other (alone m its small pends (calls ask is)))

          mount_is : b.mount ≡ n
          mount_is = alone b.mount b.ask b.small b.is (calls ask is)

          ask_is : b.ask ≡ ask
          ask_is = same_Some b.ask ask (sym b.is ∙ ap last mount_is ∙ is)

          answered_at : slice_get (deeds (chunk_of b.ask)) moment ≡ Some (Takes b.mount (port_reply b.ask epoch by answer reply) None)
          answered_at =
              let c = chunk_of b.ask in
              at c
              ∙ ap (λ o. Some (deed_answered c epoch by answer o reply)) (owes n low_n ∙ ap (data_owed n) (is ∙ ap Some (sym ask_is)))
              ∙ ap Some (there c (record { client = n; ask = b.ask; matter = OfData }) (Takes n (port_reply b.ask epoch by answer reply) None) refl)
              ∙ ap (λ k. Some (Takes k (port_reply b.ask epoch by answer reply) None)) (sym mount_is)

          was_asked : WasAsked deeds (b.ask, reply) b.asked moment
          was_asked = record {
            client = b.mount;
            pending = subst (λ asks. DeedIsPending (deeds (chunk_of b.ask)) b.mount b.asked moment asks) (port_asks b.ask) b.pending;
            reply = port_reply b.ask epoch by answer reply;
            next = None;
            at = answered_at;
            brought = brought b.ask reply epoch by answer (subst (λ a. IsAnswerOf a reply answer) (sym ask_is) replied);
          }

          serial : (came : List Exchange) (end : ℕ) → AreSerial is_piece deeds moment came end → AreSerial is_piece deeds from ((ask, reply) ∷ came) end
          serial came end goes_on =
              subst (λ a. AreSerial is_piece deeds from ((a, reply) ∷ came) end) ask_is
              (b.asked, moment, b.low, was_asked, piece_of b.ask b.of_data, b.before, b.elsewhere, b.behind, goes_on)

      step : (now : Option Ask) (event : PortEvent) (its : List Exchange) → IsAt moment pending event → IsKind q n pending (last n) event now its → IsWith last n now after → State from moment last → Steps from its (suc moment) after
      step now _ _ at Nothing with_now state =
          stays_so from (suc moment) after (quiet_on from moment last after (as_before with_now) (quiet_none moment pending Passes at tt) state
          (λ m ask small is asked its p. has_no_turn (chunk_of ask) m moment no_deed (at (chunk_of ask)) (nobody m small)))
      step now _ _ at (Elsewhere port owed its other free) with_now state =
          stays_so from (suc moment) after (quiet_on from moment last after (as_before with_now) (quiet_other moment pending n port owed at its other) state
          (λ m ask small is asked its_data p. no_turn_of moment pending n port owed at (chunk_of ask) m small (apart_from m ask small is its.client)))
        where
          apart_from : (m : ℕ) (ask : Ask) → m < 16 → last m ≡ Some ask → (owed.client ≡ n) ⊎ (owed.client ≡ 17 + n) → owed.client ≢ m
          apart_from m ask small is (inl own) same = absurd (none-some ask (sym free ∙ ap last (sym own ∙ same) ∙ is))
          apart_from m ask small is (inr looker) same = absurd (omega (arith, looker, same, small))
      step now _ _ at (Asked ask its owed free has) with_now state = stays_so from (suc moment) after (asks_next ask at its free has with_now state)
      step now _ _ at (Heard port reply epoch by answer low_port replied) with_now state =
          stays_so from (suc moment) after (quiet_on from moment last after (as_before with_now) (quiet_none moment pending (Comes n port reply epoch by answer) at tt) state
          (λ m ask small is asked its p. heard_none n pending sent moment port reply epoch by answer at low_port replied m ask small asked its p))
      step now _ _ at (Replied ask reply epoch by answer is replied) with_now state = answers_it ask reply epoch by answer at is replied with_now state

-- Mounts, moment by moment

-- no call is pending
abbrev pub HaveAllEnded : (ℕ → Life) → Type 0
HaveAllEnded lives = (m : ℕ) → m < 16 → (lives m).mount.files.pending ≡ None

-- of at most one mount one is
pub record HaveOne (lives : ℕ → Life) : Type 0 where
  pub mount : ℕ
  pub only : (m : ℕ) → m < 16 → m ≢ mount → (lives m).mount.files.pending ≡ None

-- each call begins where none is, from a moment on
abbrev pub AreOneThrough : (ℕ → Life) → List MountTold → Type 0
AreOneThrough lives told = (k n : ℕ) (call : FileCall) → slice_get told k ≡ Some (record { mount = n; input = Begins call }) → HaveAllEnded (lives_from lives (take k told))

pub one_on : (lives : ℕ → Life) (t : MountTold) → HaveOne lives → ((call : FileCall) → t.input ≡ Begins call → HaveAllEnded lives) → HaveOne (lived lives t)
one_on lives t one begins = of t.input refl
  where
    still : IsNoCall t.input → HaveOne (lived lives t)
    still none = record {
      mount = one.mount;
      only = λ m small other.
          by_test (m == t.mount) (λ b. (let life : Life = if b then lives_on (lives m) t.input else lives m in life.mount.files.pending ≡ None))
          (λ _. still_rests (lives m).mount t.input none (one.only m small other)) (λ _. one.only m small other);
    }

    begun : HaveAllEnded lives → HaveOne (lived lives t)
    begun ended = record {
      mount = t.mount;
      only = λ m small other. ap (λ (life : Life). life.mount.files.pending) (cond-false (m == t.mount) (lives_on (lives m) t.input) (lives m) (ne_eqb m t.mount other)) ∙ ended m small;
    }

    of : (input : Input) → t.input ≡ input → HaveOne (lived lives t)
    of (Begins call) is = begun (begins call is)
    of (Asks port) is = still (subst IsNoCall (sym is) tt)
    of (Hears port reply) is = still (subst IsNoCall (sym is) tt)

-- an input leaves the number
pub same_number : (x : MountIs) (input : Input) → (mount_after x input).files.mount ≡ x.files.mount
same_number x (Begins call) = refl
same_number x (Hears port reply) = refl
same_number x (Asks port) = by_test (port == anchors_of x.position) (λ b. (if b then asked_data x else asked_anchor x port).files.mount ≡ x.files.mount) (λ _. refl) (λ _. refl)

module _ (layout : Layout) (v : Extent) (volume : IsVolume v) (room : VolumeHasRoom layout v) where
  -- Each mount has its number, and at most one has a pending call; what is pending at ports went out, and at the ports for file data it is this
  record Holds (lives : ℕ → Life) (pending : Pending) (last : ℕ → Option Ask) : Type 0 where
    of : AllOf layout v lives
    number : (m : ℕ) → (lives m).mount.files.mount ≡ m
    one : HaveOne lives
    sent : AreSent layout v volume room pending
    owes : OwesData layout v volume room pending last

  alone : (lives : ℕ → Life) (pending : Pending) (last : ℕ → Option Ask) → Holds lives pending last → (m n : ℕ) → m < 16 → n < 16 → (lives m).mount.files.pending ≢ None → (lives n).mount.files.pending ≢ None → m ≡ n
  alone lives pending last holds m n low_m low_n has_m has_n = elim (cases_eq m holds.one.mount) [
    | inr other ↦ absurd (has_m (holds.one.only m low_m other))
    | inl here ↦ elim (cases_eq n holds.one.mount) [
      | inr other ↦ absurd (has_n (holds.one.only n low_n other))
      | inl too ↦ here ∙ sym too
    ]
  ]

  module _ (lives : ℕ → Life) (pending : Pending) (last : ℕ → Option Ask) (holds : Holds lives pending last) (far : (m : ℕ) → m < 16 → IsFar v (last m) (lives m).mount) (t : MountTold) (low : t.mount < 16) (epoch by : ℕ) (answer : Answered)
      (can : CanTake (lives t.mount).mount t.input) (served : InputIsServed layout v pending t.mount (lives t.mount).mount answer t.input) where
    abbrev n : ℕ
    n = t.mount

    abbrev x : MountIs
    x = (lives n).mount

    abbrev event : PortEvent
    event = port_event n x epoch by answer t.input

    abbrev after : ℕ → Option Ask
    after m = pends_in m (lives m).mount (last m) t

    abbrev q : Type 0
    q = x.files.pending ≢ None

    kind : IsKind layout v volume room q n pending (last n) event (pends_after x (last n) t.input) (exchanged x (last n) t.input)
    kind =
        kind_of layout v volume room x n low (holds.number n) (ap anchors_in (holds.of n).lies.lies) pending (last n) (far n low) (holds.owes n low) epoch by answer t.input can served
        (λ port low_port can. owed_is layout v lives n low (holds.number n) holds.of pending port low_port can)

    with_now : IsWith layout v volume room last n (pends_after x (last n) t.input) after
    with_now = record {
      own = cond-true (n == n) (pends_after x (last n) t.input) (last n) (eq-eqb n n refl);
      others = λ m other. cond-false (m == n) (pends_after (lives m).mount (last m) t.input) (last m) (ne_eqb m n other);
    }

    told_number : (m : ℕ) → (lived lives t m).mount.files.mount ≡ m
    told_number m =
        by_test (m == n) (λ b. (let life : Life = if b then lives_on (lives m) t.input else lives m in life.mount.files.mount ≡ m))
        (λ _. same_number (lives m).mount t.input ∙ holds.number m)
        (λ _. holds.number m)

    told_holds : ((call : FileCall) → t.input ≡ Begins call → HaveAllEnded lives) → Holds (lived lives t) (pending_after pending event) after
    told_holds ones = record {
      of = told_of_all layout v lives t holds.of;
      number = told_number;
      one = one_on lives t holds.one ones;
      sent = sent_on layout v volume room q n low pending (last n) (pends_after x (last n) t.input) event (exchanged x (last n) t.input) kind holds.sent;
      owes = owes_on layout v volume room q n low pending last after holds.owes (pends_after x (last n) t.input) event (exchanged x (last n) t.input) kind with_now;
    }

  module _ (groups : (chunk : ℕ) → ChunkGroups) (deeds : (chunk : ℕ) → List Deed) (routed : (chunk piece : ℕ) → chunk < v.chunks → 8 * piece < v.sectors → IsRouted (groups_in (groups chunk)) (deeds chunk) chunk piece) where
    abbrev AreFrom : (moment : ℕ) → Pending → List PortEvent → Type 0
    AreFrom moment pending events = (chunk k : ℕ) → slice_get (deeds chunk) (moment + k) ≡ slice_get (deeds_from chunk pending events) k

    next_from : (moment : ℕ) (pending : Pending) (event : PortEvent) (events : List PortEvent) → AreFrom moment pending (event ∷ events) → AreFrom (suc moment) (pending_after pending event) events
    next_from moment pending event events from chunk k = let next : suc moment + k ≡ moment + suc k = omega arith in ap (slice_get (deeds chunk)) next ∙ from chunk (suc k)

    now_at : (moment : ℕ) (pending : Pending) (event : PortEvent) (events : List PortEvent) → AreFrom moment pending (event ∷ events) → (chunk : ℕ) → slice_get (deeds chunk) moment ≡ Some (deed_of chunk pending event)
    now_at moment pending event events from chunk = let here : moment ≡ moment + 0 = omega arith in ap (slice_get (deeds chunk)) here ∙ from chunk 0

    abbrev StateAt : (from moment : ℕ) → (last : ℕ → Option Ask) → Type 0
    StateAt from moment last = State layout v volume room groups deeds routed from moment last

    abbrev Serial : (from : ℕ) → List Exchange → (end : ℕ) → Type 0
    Serial from came end = AreSerial (is_data_piece layout v) deeds from came end

    -- at the end nothing is pending
    ends_free : (lives : ℕ → Life) (last : ℕ → Option Ask) (from moment : ℕ) → ((m : ℕ) → m < 16 → IsFar v (last m) (lives m).mount) → HaveAllEnded lives → StateAt from moment last → Serial from [] moment
    ends_free lives last from moment far ended (inl f) = (f.low, f.none)
    ends_free lives last from moment far ended (inr b) = absurd (none-some b.ask (sym (none_pends v (last b.mount) (lives b.mount).mount (ended b.mount b.small) (far b.mount b.small)) ∙ b.is))

    -- nothing happens
    passes : (from moment : ℕ) (pending : Pending) (last : ℕ → Option Ask) → ((chunk : ℕ) → slice_get (deeds chunk) moment ≡ Some (deed_of chunk pending Passes)) → StateAt from moment last → StateAt from (suc moment) last
    passes from moment pending last at state =
        quiet_on layout v volume room groups deeds routed from moment last last (λ m small. refl) (quiet_none layout v volume room groups deeds routed moment pending Passes at tt) state
        (λ m ask small is asked its p. has_no_turn layout v volume room groups deeds routed (chunk_of ask) m moment no_deed (at (chunk_of ask)) (nobody m small))

    all_serial : (hs rest : List Happening) (lives : ℕ → Life) (pending : Pending) (last : ℕ → Option Ask) (from moment : ℕ) → AreFrom moment pending (events_with lives (hs ++ rest)) → FarThrough v lives last (mounts_told (hs ++ rest)) → CanComeFrom lives (mounts_told (hs ++ rest))
        → AreServedFrom layout v lives pending (hs ++ rest) → AreOneThrough lives (mounts_told hs) → HaveAllEnded (lives_from lives (mounts_told hs)) → Holds lives pending last → StateAt from moment last
        → Serial from (data_from lives last (mounts_told hs)) (moment + length (events_with lives hs))
    all_serial [] rest lives pending last from moment there far can served ones ended holds state =
        let end : moment ≡ moment + 0 = omega arith in
        subst (Serial from []) end (ends_free lives last from moment (far 0) ended state)
    all_serial (HandsOn m port epoch place ∷ hs) rest lives pending last from moment there far can served ones ended holds state =
        let at = now_at moment pending (Hands m port epoch place) (events_with lives (hs ++ rest)) there in
        let end : suc moment + length (events_with lives hs) ≡ moment + suc (length (events_with lives hs)) = omega arith in
        subst (Serial from (data_from lives last (mounts_told hs))) end
        (all_serial hs rest lives pending last from (suc moment) (next_from moment pending (Hands m port epoch place) (events_with lives (hs ++ rest)) there) far can served ones ended holds
        (quiet_on layout v volume room groups deeds routed from moment last last (λ m small. refl) (quiet_none layout v volume room groups deeds routed moment pending (Hands m port epoch place) at tt) state
        (λ k ask small is asked its p. has_no_turn layout v volume room groups deeds routed (chunk_of ask) k moment (deed_handed (chunk_of ask) epoch place (pending m port)) (at (chunk_of ask)) (handed_none k (chunk_of ask) epoch place small (pending m port)))))
    all_serial (Brings t epoch by answer ∷ hs) rest lives pending last from moment there far can served ones ended holds state =
        let n = t.mount in
        let x = (lives n).mount in
        let low = can.0.number in
        let event = port_event n x epoch by answer t.input in
        let its = exchanged x (last n) t.input in
        let after : ℕ → Option Ask = λ m. pends_in m (lives m).mount (last m) t in
        let begins : (call : FileCall) → t.input ≡ Begins call → HaveAllEnded lives = λ call is. ones 0 n call (ap (λ input. Some (record { mount = n; input = input })) is) in
        let has : (m : ℕ) → m < 16 → (ask : Ask) → last m ≡ Some ask → (lives m).mount.files.pending ≢ None = λ m small ask is. (pending_data v (last m) (lives m).mount ask is (far 0 m small)).calls in
        let tail = events_with (lived lives t) (hs ++ rest) in
        let there_next = next_from moment pending event (Passes ∷ tail) there in
        let one =
        step layout v volume room groups deeds routed (x.files.pending ≢ None) n low pending holds.sent from moment last after holds.owes (λ ask is. has n low ask is)
        (λ m ask small is its. alone lives pending last holds m n small low (has m small ask is) its) (pends_after x (last n) t.input) event its
        (now_at moment pending event (Passes ∷ tail) there) (kind lives pending last holds (far 0) t low epoch by answer can.0.takes served.0) (with_now lives pending last holds (far 0) t low epoch by answer can.0.takes served.0) state in
        let later = pending_after pending event in
        let two = passes one.next (suc moment) later after (now_at (suc moment) later Passes tail there_next) one.state in
        let end : suc (suc moment) + length (events_with (lived lives t) hs) ≡ moment + suc (suc (length (events_with (lived lives t) hs))) = omega arith in
        subst (Serial from (its ++ data_from (lived lives t) after (mounts_told hs))) end
        (one.serial (data_from (lived lives t) after (mounts_told hs)) (suc (suc moment) + length (events_with (lived lives t) hs))
        (all_serial hs rest (lived lives t) later after one.next (suc (suc moment)) (next_from (suc moment) later Passes tail there_next) (λ k. far (suc k)) can.1 served.1 (λ k. ones (suc k)) ended
        (told_holds lives pending last holds (far 0) t low epoch by answer can.0.takes served.0 begins) two))

-- The law

pub at_place : {X : Type 0} → (xs : List X) (k : ℕ) (x : X) → slice_get xs k ≡ Some x → xs ≡ take k xs ++ x ∷ drop (suc k) xs
at_place [] k x at = absurd (none-some x at)
at_place (y ∷ xs) zero x at = ap (λ z. z ∷ xs) (same_Some y x at)
at_place (y ∷ xs) (suc k) x at = ap (λ zs. y ∷ zs) (at_place xs k x at)

pub one_through : (layout : Layout) (v : Extent) (told : List MountTold) → AreOneAtATime layout v told → AreOneThrough (all_opened layout v) told
one_through layout v told ones k n call at = ones (take k told) (drop (suc k) told) n call (at_place told k (record { mount = n; input = Begins call }) at)

module _ (layout : Layout) (v : Extent) (volume : IsVolume v) (room : VolumeHasRoom layout v) (list : List (List ℕ)) (groups : (chunk : ℕ) → ChunkGroups) where
  serial_from : (first rest : List Happening) → (let hs = first ++ rest in MountsAreServed layout v hs → HaveRegisters layout v (mounts_told hs) → IsListOf layout v (mounts_told hs) list → AreRoutedChunks v groups (port_events layout v hs) → AreOneAtATime layout v (mounts_told first) → HaveEnded layout v (mounts_told first)
      → AreSerial (is_data_piece layout v) (deeds_on (port_events layout v hs)) 0 (data_in layout v (mounts_told first)) (length (port_events layout v first)))
  serial_from first rest are registers is routed ones ended =
      let hs = first ++ rest in
      let deeds = deeds_on (port_events layout v hs) in
      let told = mounts_told first in
      subst (λ end. AreSerial (is_data_piece layout v) deeds 0 (data_in layout v told) end) (zero-add (length (port_events layout v first)))
      (all_serial layout v volume room groups deeds routed first rest (all_opened layout v) nothing_pending (λ m. None) 0 0
      (λ chunk k. ap (slice_get (deeds chunk)) (zero-add k)) (far_through layout v volume (mounts_told hs) list are.can_be registers is) are.can_be are.served
      (one_through layout v told ones) ended
      (record {
        of = opened_of layout v;
        number = λ m. refl;
        one = record { mount = 0; only = λ m small other. refl };
        sent = λ m port owed same. absurd (none-some owed same);
        owes = λ m small. refl;
      })
      (inl (record { low = omega arith; none = λ chunk piece nth client asked bytes of_data inside low below a. absurd (omega (arith, below)); free = λ m small. refl })))

  pub data_serial : (hs : List Happening) → MountsAreServed layout v hs → HaveRegisters layout v (mounts_told hs) → IsListOf layout v (mounts_told hs) list → AreRoutedChunks v groups (port_events layout v hs)
      → (first rest : List Happening) → hs ≡ first ++ rest → AreOneAtATime layout v (mounts_told first) → HaveEnded layout v (mounts_told first)
      → (let deeds = deeds_on (port_events layout v hs) in AreServedBlocks (is_data_piece layout v) (λ chunk. groups_in (groups chunk)) deeds × AreSerial (is_data_piece layout v) deeds 0 (data_in layout v (mounts_told first)) (length (port_events layout v first)))
  data_serial hs are registers is routed first rest same ones ended = (
    blocks_served layout v volume room hs list are registers is groups routed,
    subst
        (λ (hs : List Happening). MountsAreServed layout v hs → HaveRegisters layout v (mounts_told hs) → IsListOf layout v (mounts_told hs) list → AreRoutedChunks v groups (port_events layout v hs)
        → AreSerial (is_data_piece layout v) (deeds_on (port_events layout v hs)) 0 (data_in layout v (mounts_told first)) (length (port_events layout v first)))
        (sym same) (λ are registers is routed. serial_from first rest are registers is routed ones ended) are registers is routed,
  )
