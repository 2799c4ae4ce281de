-- Exchanges that are made one at a time are answered what is stored.
use Rattle.std.proofs.Common.{◌≡◌, ◌≢◌, ℕ, zero, suc, ◌+◌, ◌-◌, ◌*◌, ◌<◌, ◌≤◌, ◌&&◌, ◌==◌, inl, inr, Bool, true, false, if◌then◌else◌, List, [], ◌∷◌, length, take, Option, Some, None, slice_get, unwrap_or, arith, refl, sym, ap, subst, ◌∙◌}
use Rattle.std.proofs.lemmas.Bool.{cases_eq, cases_lt, and_from, eq-eqb, ne_eqb}
use Rattle.std.proofs.lemmas.List.Sums.{fold-append}
use Rattle.std.proofs.lemmas.Option.{none-some, same_Some}
use Rattle.pf_base.specs.Asks.{chunk_of}
use Rattle.pf_base.specs.Span.{Span}
use Rattle.pf_base.specs.declared.asks.Ask.{Ask}
use Rattle.pf_base.specs.declared.asks.Ask.TheVariants.{Write, Read}
use Rattle.pf_base.specs.declared.asks.Reply.{Reply}
use Rattle.pf_base.specs.declared.asks.Reply.TheVariants.{Written, Bytes}
use Rattle.pf_entry.specs.Ops.{Sector}
use Rattle.pf_entry.specs.declared.ops.Op.{Op}
use Rattle.pf_entry.specs.declared.ops.Op.TheVariants.{Write as WriteOp}
use Rattle.pf_protocol.specs.Groups.{Answered}
use Rattle.pf_law_registers.specs.Orders.{given}
use Rattle.pf_law_registers.proofs.Lists.{something_there}
use Rattle.pf_law_positions.specs.Deeds.{PortReply, Puts, Gets, Got, Deed, Takes, Submits, Groups, DeedIsPending}
use Rattle.pf_law_epochs.specs.InTurn.{AreEightInTurn, AsksBytes, IsTurnAnsweredBy, eight_from, eight_in, last_put, put_over}
use Rattle.pf_law_epochs.proofs.InTurn.{eight_give, eight_length, last_of_eight}
use Rattle.pf_law_plans.specs.Exchanges.{Exchange}
use Rattle.pf_law_plans.proofs.Lists.{take_one_more}
use Rattle.pf_law_contents.specs.Going.{all_zeros}
use Rattle.pf_law_contents.specs.Serial.{AreSerial, AreServed, SectorsAreBrought, IsOfPiece, IsPut, NoneAsks, NoneAsksElsewhere, WasAsked, asked_as}
use Rattle.pf_law_contents.specs.Stored.{Stored, TellStored, TellsStored, stored_after, stored_by}

-- all of a list that is no longer
pub all_taken : {X : Type 0} → (n : ℕ) (xs : List X) → length xs ≤ n → take n xs ≡ xs
all_taken zero [] le = refl
all_taken zero (x ∷ xs) le = absurd (omega (arith, le))
all_taken (suc n) [] le = refl
all_taken (suc n) (x ∷ xs) le = ap (λ ys. x ∷ ys) (all_taken n xs (omega (arith, le)))

-- One deed

module _ (chunk first : ℕ) where
  -- what a deed of this list is to eight sectors
  pub put_next : (deeds : List Deed) (n : ℕ) (deed : Deed) → slice_get deeds n ≡ Some deed → last_put chunk first (take (suc n) deeds) ≡ put_over chunk first (last_put chunk first (take n deeds)) deed
  put_next deeds n deed at = ap (last_put chunk first) (take_one_more deeds n deed at) ∙ fold-append (put_over chunk first) _ (take n deeds) (deed ∷ [])

  -- past its end there is none
  pub put_past : (deeds : List Deed) (n : ℕ) → slice_get deeds n ≡ None → last_put chunk first (take (suc n) deeds) ≡ last_put chunk first (take n deeds)
  put_past deeds n none = elim (cases_lt n (length deeds)) [
    | inl low ↦ let some = something_there deeds n low in absurd (none-some some.0 (sym none ∙ some.1))
    | inr past ↦ ap (last_put chunk first) (all_taken (suc n) deeds (omega (arith, past)) ∙ sym (all_taken n deeds (omega (arith, past))))
  ]

  -- a deed that asks no write of these sectors leaves them
  pub left_if : (old : List Sector) (deed : Deed) → ((client : ℕ) (reply : Option PortReply) (op : Op) (bytes : Sector) → deed ≡ Takes client reply (Some (Puts chunk op)) → given op (first + 0) ≡ Some bytes → ⊥) → put_over chunk first old deed ≡ old
  left_if old (Submits client to epoch place) none = refl
  left_if old (Takes client reply None) none = refl
  left_if old (Takes client reply (Some (Gets to range))) none = refl
  left_if old (Takes client reply (Some (Puts to op))) none = elim (cases_eq to chunk) [
    | inr other ↦ ap (λ (b : Bool). if b then unwrap_or (eight_in first op) old else old) (ne_eqb to chunk other)
    | inl same ↦ ap (λ (b : Bool). if b then unwrap_or (eight_in first op) old else old) (eq-eqb to chunk same) ∙ by same (eight_in first op) refl
  ]
    where
      by : to ≡ chunk → (o : Option (List Sector)) → eight_in first op ≡ o → unwrap_or (eight_in first op) old ≡ old
      by same None is = ap (λ o. unwrap_or o old) is
      by same (Some its) is =
          let some = something_there its 0 (let e = eight_length first op its is in omega (arith, e)) in
          absurd (none client reply op some.0 (ap (λ to. Takes client reply (Some (Puts to op))) same) (eight_give first 0 op its (omega arith) is ∙ some.1))

-- a written piece is stored as it is put
pub written_is : (s : Stored) (old : List Sector) (chunk piece : ℕ) (span : Span) (sectors : List Sector) (its client : ℕ) (reply : Option PortReply) → s chunk (8 * piece) ≡ old → span ≡ eight_from (8 * its) → length sectors ≡ 8
    → stored_by s (Write chunk span sectors) chunk (8 * piece) ≡ put_over chunk (8 * piece) old (Takes client reply (Some (Puts chunk (WriteOp span sectors))))
written_is s old chunk piece span sectors its client reply was at size =
    ap (λ (b : Bool). if b && (8 * piece == span.first) then sectors else s chunk (8 * piece)) (eq-eqb chunk chunk refl)
    ∙ here
    ∙ sym (ap (λ (b : Bool). if b then unwrap_or (eight_in (8 * piece) (WriteOp span sectors)) old else old) (eq-eqb chunk chunk refl))
  where
    here : (if 8 * piece == span.first then sectors else s chunk (8 * piece)) ≡ unwrap_or (eight_in (8 * piece) (WriteOp span sectors)) old
    here =
        let count = ap (λ (x : Span). x.count) at in
        elim (cases_eq (8 * piece) span.first) [
          | inl one ↦
              let whole : ((span.first == 8 * piece) && (span.count == 8) && (length sectors == 8)) ≡ true = and_from _ _ (and_from _ _ (eq-eqb span.first (8 * piece) (sym one)) (eq-eqb span.count 8 count)) (eq-eqb (length sectors) 8 size) in
              ap (λ (b : Bool). if b then sectors else s chunk (8 * piece)) (eq-eqb (8 * piece) span.first one)
              ∙ sym (ap (λ (b : Bool). unwrap_or (if b then Some sectors else None) old) whole)
          | inr elsewhere ↦
              let no : (span.first == 8 * piece) ≡ false = ne_eqb span.first (8 * piece) (λ same. elsewhere (sym same)) in
              ap (λ (b : Bool). if b then sectors else s chunk (8 * piece)) (ne_eqb (8 * piece) span.first elsewhere)
              ∙ was
              ∙ sym (ap (λ (b : Bool). unwrap_or (if b && (span.count == 8) && (length sectors == 8) then Some sectors else None) old) no)
        ]

-- in other chunks all is stored as before
stored_elsewhere : (s : Stored) (ask : Ask) (chunk first : ℕ) → chunk ≢ chunk_of ask → stored_by s ask chunk first ≡ s chunk first
stored_elsewhere s (Read from span) chunk first other = refl
stored_elsewhere s (Write to span sectors) chunk first other = ap (λ (b : Bool). if b && (first == span.first) then sectors else s chunk first) (ne_eqb chunk to other)

module _ (is_data : (chunk piece : ℕ) → Bool) (deeds : (chunk : ℕ) → List Deed) where
  -- from one moment up to another nobody asks to write the first sector of the piece
  abbrev NoneHere : (chunk piece from to : ℕ) → Type 0
  NoneHere chunk piece from to = (client asked : ℕ) (bytes : Sector) → from ≤ asked → asked < to → AsksBytes (deeds chunk) chunk (8 * piece + 0) client asked bytes → ⊥

  -- then what was put last stays
  stays : (n from chunk piece : ℕ) → NoneHere chunk piece from (from + n) → last_put chunk (8 * piece) (take (from + n) (deeds chunk)) ≡ last_put chunk (8 * piece) (take from (deeds chunk))
  stays zero from chunk piece none = let same : from + 0 ≡ from = omega arith in ap (λ k. last_put chunk (8 * piece) (take k (deeds chunk))) same
  stays (suc n) from chunk piece none =
      let next : from + suc n ≡ suc (from + n) = omega arith in
      ap (λ k. last_put chunk (8 * piece) (take k (deeds chunk))) next
      ∙ one (slice_get (deeds chunk) (from + n)) refl
      ∙ stays n from chunk piece (λ client asked bytes low below a. none client asked bytes low (omega (arith, below)) a)
    where
      one : (o : Option Deed) → slice_get (deeds chunk) (from + n) ≡ o → last_put chunk (8 * piece) (take (suc (from + n)) (deeds chunk)) ≡ last_put chunk (8 * piece) (take (from + n) (deeds chunk))
      one None at = put_past chunk (8 * piece) (deeds chunk) (from + n) at
      one (Some deed) at =
          put_next chunk (8 * piece) (deeds chunk) (from + n) deed at
          ∙ left_if chunk (8 * piece) (last_put chunk (8 * piece) (take (from + n) (deeds chunk))) deed
          (λ client reply op bytes same gives. none client (from + n) bytes (omega arith) (omega arith) (record { reply = reply; op = op; at = at ∙ ap Some same; gives = gives }))

  stays_here : (from to chunk piece : ℕ) → from ≤ to → NoneHere chunk piece from to → last_put chunk (8 * piece) (take to (deeds chunk)) ≡ last_put chunk (8 * piece) (take from (deeds chunk))
  stays_here from to chunk piece le none =
      let same : from + (to - from) ≡ to = omega (arith, le) in
      ap (λ k. last_put chunk (8 * piece) (take k (deeds chunk))) (sym same)
      ∙ stays (to - from) from chunk piece (subst (NoneHere chunk piece from) (sym same) none)

  stays_to : (from to chunk piece : ℕ) → from ≤ to → is_data chunk piece ≡ true → NoneAsks is_data deeds from to → last_put chunk (8 * piece) (take to (deeds chunk)) ≡ last_put chunk (8 * piece) (take from (deeds chunk))
  stays_to from to chunk piece le is none = stays_here from to chunk piece le (λ client asked bytes. none chunk piece 0 client asked bytes is (omega arith))

  -- all that was asked to be written before a moment was asked in turn, and answered by then
  pub record AreThrough (moment : ℕ) : Type 0 where
    pub before : (chunk piece nth client write : ℕ) (bytes : Sector) → is_data chunk piece ≡ true → nth < 8 → write < moment → AsksBytes (deeds chunk) chunk (8 * piece + nth) client write bytes → IsTurnAnsweredBy (deeds chunk) client write moment
    pub apart : (chunk piece nth client write other later : ℕ) (bytes its : Sector) → is_data chunk piece ≡ true → nth < 8 → write < later → later < moment → AsksBytes (deeds chunk) chunk (8 * piece + nth) client write bytes → AsksBytes (deeds chunk) chunk (8 * piece + nth) other later its
        → IsTurnAnsweredBy (deeds chunk) client write later

  by_later : (chunk client write moment later : ℕ) → moment ≤ later → IsTurnAnsweredBy (deeds chunk) client write moment → IsTurnAnsweredBy (deeds chunk) client write later
  by_later chunk client write moment later le a = record { turn = a.turn; by_then = (let b = a.by_then in omega (arith, le, b)); ask = a.ask; pending = a.pending; reply = a.reply; next = a.next; at = a.at }

  module _ (groups : (chunk : ℕ) → Groups) (served : AreServed is_data groups deeds) where
    -- one exchange
    module _ (from : ℕ) (through : AreThrough from) (s : Stored) (put : IsPut is_data deeds s from) (e : Exchange) (asked answered : ℕ) (low : from ≤ asked) (was : WasAsked deeds e asked answered) (none_before : NoneAsks is_data deeds from asked) (none_elsewhere : NoneAsksElsewhere is_data deeds (chunk_of e.0) asked) (none_behind : NoneAsks is_data deeds (suc asked) answered) where
      high : asked < answered
      high = was.pending.earlier

      -- whoever asked to write in this time did it in this exchange
      its_own : (chunk piece nth client write : ℕ) (bytes : Sector) → is_data chunk piece ≡ true → nth < 8 → from ≤ write → write < answered → AsksBytes (deeds chunk) chunk (8 * piece + nth) client write bytes → write ≡ asked
      its_own chunk piece nth client write bytes of_data inside after before a = elim (cases_lt write asked) [
        | inl sooner ↦ absurd (none_before chunk piece nth client write bytes of_data inside after sooner a)
        | inr not_sooner ↦ elim (cases_lt asked write) [
          | inl later ↦ absurd (none_behind chunk piece nth client write bytes of_data inside (omega (arith, later)) before a)
          | inr not_later ↦ omega (arith, not_sooner, not_later)
        ]
      ]

      answered_it : (chunk piece nth client : ℕ) (bytes : Sector) → is_data chunk piece ≡ true → nth < 8 → AsksBytes (deeds chunk) chunk (8 * piece + nth) client asked bytes → IsTurnAnsweredBy (deeds chunk) client asked answered
      answered_it chunk piece nth client bytes of_data inside a =
          let here = none_elsewhere chunk piece nth client bytes of_data inside a in
          let at = subst (λ c. slice_get (deeds c) asked ≡ Some (Takes client a.reply (Some (Puts chunk a.op)))) here a.at in
          let same : Takes client a.reply (Some (Puts chunk a.op)) ≡ Takes was.client was.pending.reply (Some (asked_as e.0)) = same_Some _ _ (sym at ∙ was.pending.at) in
          let one : client ≡ was.client = cc in
          subst (λ n. IsTurnAnsweredBy (deeds chunk) n asked answered) (sym one)
          (subst (λ c. IsTurnAnsweredBy (deeds c) was.client asked answered) (sym here) (record { turn = answered; by_then = omega arith; ask = asked_as e.0; pending = was.pending; reply = was.reply; next = was.next; at = was.at }))

      through_it : AreThrough answered
      through_it = record { before = before; apart = apart }
        where
          before : (chunk piece nth client write : ℕ) (bytes : Sector) → is_data chunk piece ≡ true → nth < 8 → write < answered → AsksBytes (deeds chunk) chunk (8 * piece + nth) client write bytes → IsTurnAnsweredBy (deeds chunk) client write answered
          before chunk piece nth client write bytes of_data inside below a = elim (cases_lt write from) [
            | inl old ↦ by_later chunk client write from answered (let h = high in omega (arith, low, h)) (through.before chunk piece nth client write bytes of_data inside old a)
            | inr new ↦
                let one = its_own chunk piece nth client write bytes of_data inside (omega (arith, new)) below a in
                let here = subst (λ n. AsksBytes (deeds chunk) chunk (8 * piece + nth) client n bytes) one a in
                subst (λ n. IsTurnAnsweredBy (deeds chunk) client n answered) (sym one) (answered_it chunk piece nth client bytes of_data inside here)
          ]

          apart : (chunk piece nth client write other later : ℕ) (bytes its : Sector) → is_data chunk piece ≡ true → nth < 8 → write < later → later < answered → AsksBytes (deeds chunk) chunk (8 * piece + nth) client write bytes → AsksBytes (deeds chunk) chunk (8 * piece + nth) other later its → IsTurnAnsweredBy (deeds chunk) client write later
          apart chunk piece nth client write other later bytes its of_data inside less below a b = elim (cases_lt later from) [
            | inl old ↦ through.apart chunk piece nth client write other later bytes its of_data inside less old a b
            | inr new ↦ elim (cases_lt write from) [
              | inl sooner ↦ by_later chunk client write from later (omega (arith, new)) (through.before chunk piece nth client write bytes of_data inside sooner a)
              | inr too ↦
                  let one = its_own chunk piece nth client write bytes of_data inside (omega (arith, too)) (omega (arith, less, below)) a in
                  let two = its_own chunk piece nth other later its of_data inside (omega (arith, new)) below b in
                  absurd (omega (arith, one, two, less))
            ]
          ]

      -- a read is answered what is stored
      read_tells : (chunk piece : ℕ) (span : Span) → is_data chunk piece ≡ true → span ≡ eight_from (8 * piece) → e.0 ≡ Read chunk span → (sectors : List Sector) (epoch by : ℕ) (read : Answered) → was.reply ≡ Some (Got chunk epoch by read) → sectors ≡ read.bytes → sectors ≡ s chunk span.first
      read_tells chunk piece span of_data at is sectors epoch by read brought gives =
          let ask : asked_as e.0 ≡ Gets chunk (eight_from (8 * piece)) = ap asked_as is ∙ ap (Gets chunk) at in
          let in_chunk : chunk_of e.0 ≡ chunk = ap chunk_of is in
          let pending = subst (λ a. DeedIsPending (deeds chunk) was.client asked answered a) ask (subst (λ c. DeedIsPending (deeds c) was.client asked answered (asked_as e.0)) in_chunk was.pending) in
          let got = subst (λ c. slice_get (deeds c) answered ≡ Some (Takes was.client was.reply was.next)) in_chunk was.at ∙ ap (λ r. Some (Takes was.client r was.next)) brought in
          let none_here : NoneAsks is_data deeds from answered = λ c p nth client write bytes of_data inside after before a.
          (let one = its_own c p nth client write bytes of_data inside after before a in
          let there = subst (λ n. AsksBytes (deeds c) c (8 * p + nth) client n bytes) one a in
          let its = none_elsewhere c p nth client bytes of_data inside there ∙ in_chunk in
          no_put (same_Some _ _ (sym (subst (λ d. slice_get (deeds d) asked ≡ Some (Takes client there.reply (Some (Puts c there.op)))) its there.at) ∙ pending.at))) in
          let turns : AreEightInTurn (deeds chunk) chunk (8 * piece) asked answered = λ nth inside. record {
            before = λ client write bytes below a. elim (cases_lt write from) [
              | inl old ↦ by_later chunk client write from asked low (through.before chunk piece nth client write bytes of_data inside old a)
              | inr new ↦ absurd (none_here chunk piece nth client write bytes of_data inside (omega (arith, new)) below a)
            ];
            apart = λ client write other later bytes its less below a b. elim (cases_lt later from) [
              | inl old ↦ through.apart chunk piece nth client write other later bytes its of_data inside less old a b
              | inr new ↦ absurd (none_here chunk piece nth other later its of_data inside (omega (arith, new)) below b)
            ];
          } in
          gives
          ∙ last_of_eight (groups chunk) (deeds chunk) chunk piece (served.routed chunk piece of_data) was.client asked answered epoch by read was.next got pending turns (served.whole chunk piece of_data)
          ∙ stays_to from asked chunk piece low of_data none_before
          ∙ sym (put chunk piece of_data)
          ∙ ap (λ (x : Span). s chunk x.first) (sym at)
        where
          no_put : {client : ℕ} {reply its : Option PortReply} {other to from_chunk : ℕ} {op : Op} {range : Span} → Takes client reply (Some (Puts to op)) ≡ Takes other its (Some (Gets from_chunk range)) → ⊥
          no_put same = absurd (cc)

      tells : IsOfPiece is_data e.0 → TellsStored s e.0 e.1
      tells of = by e.0 e.1 refl of was.brought
        where
          by : (ask : Ask) (reply : Reply) → e.0 ≡ ask → IsOfPiece is_data ask → SectorsAreBrought ask reply was.reply → TellsStored s ask reply
          by (Write chunk span sectors) reply is of brought = tt
          by (Read chunk span) Written is of brought = tt
          by (Read chunk span) (Bytes sectors) is of brought = read_tells chunk of.0 span of.1 of.2 is sectors brought.0 brought.1 brought.2 brought.3 brought.4

      -- and then what was put last is stored again
      put_then : IsOfPiece is_data e.0 → IsPut is_data deeds (stored_by s e.0) answered
      put_then of chunk piece of_data = until_behind ∙ sym (stays_to (suc asked) answered chunk piece (let h = high in omega (arith, h)) of_data none_behind)
        where
          until_asked : s chunk (8 * piece) ≡ last_put chunk (8 * piece) (take asked (deeds chunk))
          until_asked = put chunk piece of_data ∙ sym (stays_to from asked chunk piece low of_data none_before)

          next : (ask : Ask) → e.0 ≡ ask → chunk ≡ chunk_of ask → last_put chunk (8 * piece) (take (suc asked) (deeds chunk)) ≡ put_over chunk (8 * piece) (last_put chunk (8 * piece) (take asked (deeds chunk))) (Takes was.client was.pending.reply (Some (asked_as ask)))
          next ask is here =
              let at = subst (λ c. slice_get (deeds c) asked ≡ Some (Takes was.client was.pending.reply (Some (asked_as e.0)))) (ap chunk_of is ∙ sym here) was.pending.at in
              put_next chunk (8 * piece) (deeds chunk) asked _ (at ∙ ap (λ a. Some (Takes was.client was.pending.reply (Some (asked_as a)))) is)

          by : (ask : Ask) → e.0 ≡ ask → chunk ≡ chunk_of ask → IsOfPiece is_data ask → stored_by s ask chunk (8 * piece) ≡ last_put chunk (8 * piece) (take (suc asked) (deeds chunk))
          by (Read from_chunk span) is here of_piece = until_asked ∙ sym (next (Read from_chunk span) is here)
          by (Write to span sectors) is here of_piece =
              ap (λ to. stored_by s (Write to span sectors) chunk (8 * piece)) (sym here)
              ∙ written_is s (last_put chunk (8 * piece) (take asked (deeds chunk))) chunk piece span sectors of_piece.0 was.client was.pending.reply until_asked of_piece.2 of_piece.3
              ∙ ap (λ to. put_over chunk (8 * piece) (last_put chunk (8 * piece) (take asked (deeds chunk))) (Takes was.client was.pending.reply (Some (Puts to (WriteOp span sectors))))) here
              ∙ sym (next (Write to span sectors) is here)

          until_behind : stored_by s e.0 chunk (8 * piece) ≡ last_put chunk (8 * piece) (take (suc asked) (deeds chunk))
          until_behind = elim (cases_eq chunk (chunk_of e.0)) [
            | inl here ↦ by e.0 refl here of
            | inr other ↦
                stored_elsewhere s e.0 chunk (8 * piece) other
                ∙ until_asked
                ∙ sym (stays_here asked (suc asked) chunk piece (omega arith)
                (λ client its bytes low below a.
                let one : its ≡ asked = omega (arith, low, below) in
                other (none_elsewhere chunk piece 0 client bytes of_data (omega arith) (subst (λ n. AsksBytes (deeds chunk) chunk (8 * piece + 0) client n bytes) one a))))
          ]

    serial_tells : (came : List Exchange) (from end : ℕ) (s : Stored) → AreThrough from → IsPut is_data deeds s from → AreSerial is_data deeds from came end → TellStored s came × IsPut is_data deeds (stored_after s came) end
    serial_tells [] from end s through put goes = (tt, λ chunk piece of_data. put chunk piece of_data ∙ sym (stays_end chunk piece of_data))
      where
        stays_end : (chunk piece : ℕ) → is_data chunk piece ≡ true → last_put chunk (8 * piece) (take end (deeds chunk)) ≡ last_put chunk (8 * piece) (take from (deeds chunk))
        stays_end chunk piece of_data = stays_to from end chunk piece goes.0 of_data goes.1
    serial_tells (e ∷ came) from end s through put goes =
        let asked = goes.0 in
        let rest = serial_tells came goes.1 end (stored_by s e.0)
        (through_it from through s put e goes.0 goes.1 goes.2 goes.3 goes.5 goes.6 goes.7)
        (put_then from through s put e goes.0 goes.1 goes.2 goes.3 goes.5 goes.6 goes.7 goes.4) goes.8 in
        ((tells from through s put e goes.0 goes.1 goes.2 goes.3 goes.5 goes.6 goes.7 goes.4, rest.0), rest.1)

    pub all_serial : (came : List Exchange) (end : ℕ) → AreSerial is_data deeds 0 came end → TellStored all_zeros came × IsPut is_data deeds (stored_after all_zeros came) end
    all_serial came end goes =
        serial_tells came 0 end all_zeros
        (record {
          before = λ chunk piece nth client write bytes of_data inside below a. absurd (omega (arith, below));
          apart = λ chunk piece nth client write other later bytes its of_data inside less below a b. absurd (omega (arith, below));
        })
        (λ chunk piece of_data. refl) goes
