-- What answers an ask of a half is of this half: a port has one ask pending at a time.
use Rattle.std.proofs.Common.{◌≡◌, ◌≢◌, ℕ, zero, suc, ◌*◌, ◌/◌, ◌<◌, inl, inr, ◌==◌, Bool, true, false, cond, ◌&&◌, List, [], ◌∷◌, length, Option, Some, None, slice_get, arith, refl, sym, ap, subst, ◌∙◌}
use Rattle.std.proofs.lemmas.Bool.{and_from, and_parts, cases_Bool, cond-false, cond-true, eq-eqb, eqb-true}
use Rattle.std.proofs.lemmas.Option.{none-some, same_Some}
use Rattle.pf_base.specs.declared.asks.Reply.{Reply}
use Rattle.pf_entry.proofs.Cases.{by_test}
use Rattle.pf_protocol.specs.Groups.{Answered}
use Rattle.pf_volume.specs.Volumes.{Extent}
use Rattle.pf_paxos.specs.Registers.{Ask as BlockAsk, AsksRead, AsksWrite, Reply as BlockReply, Turn}
use Rattle.pf_law_halves.specs.Halves.{IsAskOfHalf}
use Rattle.pf_law_positions.specs.Homes.{if_asked, turn_in, turn_or_idle}
use Rattle.pf_journal.specs.Sectors.{block_in}
use Rattle.pf_journal.specs.Layouts.{IsLayout, LayoutIs, home_on}
use Rattle.pf_law_homes.specs.Chunks.{only_half}
use Rattle.pf_law_homes.specs.Ports.{AreEventsFrom, CanHappen, Comes, Goes, Hands, IsClientOf, IsOwed, IsReplyTo, Matter, OfBlock, OfData, OfHalf, OfPause, OfSuper, PortOwed, Passes, Pending, PortEvent, ask_on, asks_there, block_reply, deed_answered, pending_after, pending_with, port_turn_answered, turn_of_event, port_turns_from}
use Rattle.pf_law_homes.proofs.Asks.{half_ask}
use Rattle.pf_law_homes.proofs.PortPending.{AreOwed, owed_after}
use Rattle.pf_law_homes.proofs.Turns.{comes_turn, half_turn, half_turns}

-- a turn with a reply answers something

asks_none : (client : ℕ) (ask : Option BlockAsk) (turn : Turn) (reply : BlockReply) → turn_or_idle client None ask ≡ turn → turn.reply ≡ Some reply → ⊥
asks_none client None turn reply is gives = none-some reply (ap (λ (t : Turn). t.reply) is ∙ gives)
asks_none client (Some ask) turn reply is gives = none-some reply (ap (λ (t : Turn). t.reply) is ∙ gives)

record IsReplyOf (client : ℕ) (asked : Option BlockAsk) (turn : Turn) : Type 0 where
  ask : BlockAsk
  is : asked ≡ Some ask
  its : turn.client ≡ client

reply_of : (client : ℕ) (asked : Option BlockAsk) (reply : BlockReply) (turn : Turn) (its : BlockReply) → turn_or_idle client (if_asked asked reply) None ≡ turn → turn.reply ≡ Some its → IsReplyOf client asked turn
reply_of client None reply turn its is gives = absurd (none-some its (ap (λ (t : Turn). t.reply) is ∙ gives))
reply_of client (Some ask) reply turn its is gives = record { ask = ask; is = refl; its = sym (ap (λ (t : Turn). t.client) is) }

-- a turn with an ask asks it

record IsAskOfTurn (client : ℕ) (asks : Option BlockAsk) (turn : Turn) (ask : BlockAsk) : Type 0 where
  is : asks ≡ Some ask
  its : turn.client ≡ client

ask_of : (client : ℕ) (asks : Option BlockAsk) (turn : Turn) (ask : BlockAsk) → turn_or_idle client None asks ≡ turn → turn.ask ≡ Some ask → IsAskOfTurn client asks turn ask
ask_of client None turn ask is has = absurd (none-some ask (ap (λ (t : Turn). t.ask) is ∙ has))
ask_of client (Some its) turn ask is has = record { is = ap (λ (t : Turn). t.ask) is ∙ has; its = sym (ap (λ (t : Turn). t.client) is) }

no_ask : (client : ℕ) (reply : Option BlockReply) (turn : Turn) (ask : BlockAsk) → turn_or_idle client reply None ≡ turn → turn.ask ≡ Some ask → ⊥
no_ask client None turn ask is has = none-some ask (ap (λ (t : Turn). t.ask) is ∙ has)
no_ask client (Some reply) turn ask is has = none-some ask (ap (λ (t : Turn). t.ask) is ∙ has)

answered_none : (a q p : ℕ) (owed : Option PortOwed) (reply : Reply) (turn : Turn) (ask : BlockAsk) → port_turn_answered a q p owed reply ≡ turn → turn.ask ≡ Some ask → ⊥
answered_none a q p None reply turn ask is has = none-some ask (ap (λ (t : Turn). t.ask) is ∙ has)
answered_none a q p (Some owed) reply turn ask is has = no_ask owed.client (if_asked (ask_on a q p owed.matter) (block_reply reply)) turn ask is has

-- an ask of an anchor's position is one of its port
port_is : (p a q : ℕ) (matter : Matter) (ask : BlockAsk) → ask_on a q p matter ≡ Some ask → p ≡ a
port_is p a q matter ask is = elim (cases_Bool (p == a)) [
  | inl same ↦ eqb-true p a same
  | inr other ↦ absurd (none-some ask (sym (cond-false (p == a) (asks_there q matter) None other) ∙ is))
]

-- which half it is of is what the port was asked for
whole_is : (half client a q p : ℕ) (matter : Matter) (ask : BlockAsk) → ask_on a q p matter ≡ Some ask → IsAskOfHalf half client (Some ask) → half_ask half client matter (ask_on a q p matter) ≡ ask_on a q p matter
whole_is half client a q p (OfBlock u block) ask is of = cond-true (client / 8 == half) _ _ (eq-eqb (client / 8) half (written (p == a) (q == u) ask is of))
  where
    written : (b c : Bool) (o : BlockAsk) → cond b (cond c (Some (AsksWrite block)) None) None ≡ Some o → IsAskOfHalf half client (Some o) → client / 8 ≡ half
    written true true o same its = (subst (λ (x : BlockAsk). IsAskOfHalf half client (Some x)) (sym (same_Some (AsksWrite block) o same)) its).0
    written true false o same its = absurd (none-some o same)
    written false c o same its = absurd (none-some o same)
whole_is half client a q p (OfHalf u other) ask is of = cond-true (other == half) _ _ (eq-eqb other half (read (p == a) (q == u) ask is of))
  where
    read : (b c : Bool) (o : BlockAsk) → cond b (cond c (Some (AsksRead other)) None) None ≡ Some o → IsAskOfHalf half client (Some o) → other ≡ half
    read true true o same its = (subst (λ (x : BlockAsk). IsAskOfHalf half client (Some x)) (sym (same_Some (AsksRead other) o same)) its).0
    read true false o same its = absurd (none-some o same)
    read false c o same its = absurd (none-some o same)
whole_is half client a q p (OfPause u) ask is of = absurd (by (p == a) is)
  where
    by : (b : Bool) → cond b None None ≡ Some ask → ⊥
    by true same = none-some ask same
    by false same = none-some ask same
whole_is half client a q p OfSuper ask is of = absurd (by (p == a) is)
  where
    by : (b : Bool) → cond b None None ≡ Some ask → ⊥
    by true same = none-some ask same
    by false same = none-some ask same
whole_is half client a q p OfData ask is of = absurd (by (p == a) is)
  where
    by : (b : Bool) → cond b None None ≡ Some ask → ⊥
    by true same = none-some ask same
    by false same = none-some ask same

-- a client is of one mount
one_mount : (m n client : ℕ) → m < 16 → n < 16 → IsClientOf m client → IsClientOf n client → m ≡ n
one_mount m n client low_m low_n (inl is) (inl its) = omega (arith, is, its)
one_mount m n client low_m low_n (inl is) (inr its) = absurd (omega (arith, is, its, low_m))
one_mount m n client low_m low_n (inr is) (inl its) = absurd (omega (arith, is, its, low_n))
one_mount m n client low_m low_n (inr is) (inr its) = omega (arith, is, its)

module _ (l : LayoutIs) (v : Extent) (is : IsLayout l v) (k : ℕ) (eight : v.sectors ≡ 8 * k) (some : 0 < k) (a q : ℕ) (low_a : a < length l.anchors) (low_q : q < l.positions) (half : ℕ) (low : half < 2) where
  abbrev halves : Pending → List PortEvent → List Turn
  halves pending events = half_turns l v is k eight some a q low_a low_q half pending events

  -- From the ask on

  module _ (m : ℕ) (owed : PortOwed) (its : IsOwed l v m a owed) (ask : BlockAsk) (on : ask_on a q a owed.matter ≡ Some ask) (of : IsAskOfHalf half owed.client (Some ask)) where
    -- the port has it pending
    abbrev IsStill : Pending → Type 0
    IsStill pending = pending m a ≡ Some owed

    -- another port is another matter
    still_with : (pending : Pending) (n p : ℕ) (o : Option PortOwed) → IsStill pending → (n ≡ m → p ≡ a → ⊥) → IsStill (pending_with pending n p o)
    still_with pending n p o still apart =
        by_test (m == n && a == p) (λ b. cond b o (pending m a) ≡ Some owed)
        (λ same. let both = and_parts (m == n) (a == p) same in absurd (apart (sym (eqb-true m n both.0)) (sym (eqb-true a p both.1))))
        (λ other. still)

    -- its answer is a turn of the client
    not_answered : (pending : Pending) (n p : ℕ) (reply : Reply) → IsStill pending → n ≡ m → p ≡ a → (port_turn_answered a q p (pending n p) reply).client ≡ owed.client
    not_answered pending n p reply still same_n same_p =
        ap (λ (t : Turn). t.client)
        (ap (λ i. port_turn_answered a q p (pending i p) reply) same_n ∙ ap (λ i. port_turn_answered a q i (pending m i) reply) same_p
        ∙ ap (λ o. port_turn_answered a q a o reply) still ∙ ap (λ o. turn_or_idle owed.client (if_asked o (block_reply reply)) None) on)

    still_after : (pending : Pending) (event : PortEvent) → IsStill pending → CanHappen l v pending event → (turn_of_event a q pending event).client ≢ owed.client → IsStill (pending_after pending event)
    still_after pending (Goes n p o) still can other =
        still_with pending n p (Some o) still (λ same_n same_p. none-some owed (sym (subst (λ i. pending i a ≡ None) same_n (subst (λ i. pending n i ≡ None) same_p can.0)) ∙ still))
    still_after pending (Comes n p reply epoch by answer) still can other = still_with pending n p None still (λ same_n same_p. other (not_answered pending n p reply still same_n same_p))
    still_after pending (Hands n p epoch place) still can other = still
    still_after pending Passes still can other = still

    -- what comes at a port, as a turn of the client, is of the half
    came : (n p epoch by : ℕ) (answer : Answered) (reply : Reply) (o : Option PortOwed) (turn : Turn) (gave : BlockReply) → ((x : PortOwed) → o ≡ Some x → IsOwed l v n p x) → (n ≡ m → p ≡ a → o ≡ Some owed) → IsReplyTo o reply answer
        → port_turn_answered a q p o reply ≡ turn → turn.client ≡ owed.client → turn.reply ≡ Some gave
        → (o ≡ Some owed) × (p ≡ a)
    came n p epoch by answer reply None turn gave are here right same client gives = absurd right
    came n p epoch by answer reply (Some x) turn gave are here right same client gives =
        let r = reply_of x.client (ask_on a q p x.matter) (block_reply reply) turn gave same gives in
        let port = port_is p a q x.matter r.ask r.is in
        let mine : x.client ≡ owed.client = sym r.its ∙ client in
        let of_n = are x refl in
        let mount = one_mount n m owed.client of_n.mount_low its.mount_low (subst (IsClientOf n) mine of_n.client) its.client in
        (here mount port, port)

    abbrev half_came : (epoch by : ℕ) → Answered → Reply → Option PortOwed → Turn
    half_came epoch by answer reply o = turn_in block_in (only_half (home_on l v.sectors a q) half) (deed_answered ((home_on l v.sectors a q).chunk half) epoch by answer o reply)

    -- so the turn is that of the half
    now : (pending : Pending) (event : PortEvent) (turn : Turn) (gave : BlockReply) → IsStill pending → AreOwed l v pending → CanHappen l v pending event
        → turn_of_event a q pending event ≡ turn → turn.client ≡ owed.client → turn.reply ≡ Some gave
        → half_turn l v is k eight some a q low_a low_q half pending event ≡ turn
    now pending (Goes n p o) turn gave still are can same client gives = absurd (asks_none o.client (ask_on a q p o.matter) turn gave same gives)
    now pending (Hands n p epoch place) turn gave still are can same client gives = absurd (none-some gave (ap (λ (t : Turn). t.reply) same ∙ gives))
    now pending Passes turn gave still are can same client gives = absurd (none-some gave (ap (λ (t : Turn). t.reply) same ∙ gives))
    now pending (Comes n p reply epoch by answer) turn gave still are can same client gives =
        let it = came n p epoch by answer reply (pending n p) turn gave (are n p) (λ same_n same_p. ap (λ i. pending i p) same_n ∙ ap (pending m) same_p ∙ still) can same client gives in
        subst (λ (o : Option PortOwed). IsReplyTo o reply answer → port_turn_answered a q p o reply ≡ turn → half_came epoch by answer reply o ≡ turn) (sym it.0)
        (λ right so.
        comes_turn l v is k eight some a q low_a low_q m a owed its half epoch by answer reply low right
        ∙ ap (λ x. turn_or_idle owed.client (if_asked x (block_reply reply)) None) (whole_is half owed.client a q a owed.matter ask on of)
        ∙ ap (λ i. port_turn_answered a q i (Some owed) reply) (sym it.1) ∙ so)
        can same

    -- up to the answer
    still_through : (events : List PortEvent) (n : ℕ) (pending : Pending) (turn : Turn) (gave : BlockReply) → IsStill pending → AreOwed l v pending → AreEventsFrom l v pending events
        → slice_get (port_turns_from a q pending events) n ≡ Some turn → turn.client ≡ owed.client → turn.reply ≡ Some gave
        → ((j : ℕ) (other : Turn) → j < n → slice_get (port_turns_from a q pending events) j ≡ Some other → other.client ≢ owed.client)
        → slice_get (halves pending events) n ≡ Some turn
    still_through [] n pending turn gave still are can at client gives none = absurd (none-some turn at)
    still_through (event ∷ events) zero pending turn gave still are can at client gives none =
        ap (λ t. Some t) (now pending event turn gave still are can.0 (same_Some (turn_of_event a q pending event) turn at) client gives)
    still_through (event ∷ events) (suc n) pending turn gave still are can at client gives none =
        still_through events n (pending_after pending event) turn gave (still_after pending event still can.0 (none 0 (turn_of_event a q pending event) (omega arith) refl)) (owed_after l v pending are event can.0) can.1 at client gives
        (λ j other less there. none (suc j) other (omega (arith, less)) there)

  -- the ask goes out
  from_ask : (pending : Pending) (event : PortEvent) (events : List PortEvent) (turn next : Turn) (ask : BlockAsk) (gave : BlockReply) (client n : ℕ) → AreOwed l v pending → CanHappen l v pending event → AreEventsFrom l v (pending_after pending event) events
      → turn_of_event a q pending event ≡ turn → turn.client ≡ client → turn.ask ≡ Some ask → IsAskOfHalf half client (Some ask)
      → slice_get (port_turns_from a q (pending_after pending event) events) n ≡ Some next → next.client ≡ client → next.reply ≡ Some gave
      → ((j : ℕ) (other : Turn) → j < n → slice_get (port_turns_from a q (pending_after pending event) events) j ≡ Some other → other.client ≢ client)
      → slice_get (halves (pending_after pending event) events) n ≡ Some next
  from_ask pending (Hands m p epoch place) events turn next ask gave client n are can rest same its asks of at its_next gives none = absurd (none-some ask (ap (λ (t : Turn). t.ask) same ∙ asks))
  from_ask pending Passes events turn next ask gave client n are can rest same its asks of at its_next gives none = absurd (none-some ask (ap (λ (t : Turn). t.ask) same ∙ asks))
  from_ask pending (Comes m p reply epoch by answer) events turn next ask gave client n are can rest same its asks of at its_next gives none = absurd (answered_none a q p (pending m p) reply turn ask same asks)
  from_ask pending (Goes m p owed) events turn next ask gave client n are can rest same its asks of at its_next gives none =
      let it = ask_of owed.client (ask_on a q p owed.matter) turn ask same asks in
      let port = port_is p a q owed.matter ask it.is in
      let mine : client ≡ owed.client = sym its ∙ it.its in
      let after = pending_after pending (Goes m p owed) in
      still_through m owed (subst (λ i. IsOwed l v m i owed) port can.1) ask (ap (λ i. ask_on a q i owed.matter) (sym port) ∙ it.is) (subst (λ i. IsAskOfHalf half i (Some ask)) mine of)
      events n after next gave
      (cond-true (m == m && a == p) (Some owed) (pending m a) (and_from (m == m) (a == p) (eq-eqb m m refl) (eq-eqb a p (sym port))))
      (owed_after l v pending are (Goes m p owed) can) rest at (its_next ∙ mine) gives
      (λ j other less there. subst (λ i. other.client ≢ i) mine (none j other less there))

  pub answered_there : (events : List PortEvent) (asked answered : ℕ) (pending : Pending) (turn next : Turn) (ask : BlockAsk) (gave : BlockReply) (client : ℕ) → AreOwed l v pending → AreEventsFrom l v pending events
      → slice_get (port_turns_from a q pending events) asked ≡ Some turn → turn.client ≡ client → turn.ask ≡ Some ask → IsAskOfHalf half client (Some ask)
      → slice_get (port_turns_from a q pending events) answered ≡ Some next → next.client ≡ client → next.reply ≡ Some gave → asked < answered
      → ((j : ℕ) (other : Turn) → asked < j → j < answered → slice_get (port_turns_from a q pending events) j ≡ Some other → other.client ≢ client)
      → slice_get (halves pending events) answered ≡ Some next
  answered_there [] asked answered pending turn next ask gave client are can at its asks of at_next its_next gives later none = absurd (none-some turn at)
  answered_there (event ∷ events) asked zero pending turn next ask gave client are can at its asks of at_next its_next gives later none = absurd (omega (arith, later))
  answered_there (event ∷ events) zero (suc n) pending turn next ask gave client are can at its asks of at_next its_next gives later none =
      from_ask pending event events turn next ask gave client n are can.0 can.1 (same_Some (turn_of_event a q pending event) turn at) its asks of at_next its_next gives
      (λ j other less there. none (suc j) other (omega arith) (omega (arith, less)) there)
  answered_there (event ∷ events) (suc asked) (suc n) pending turn next ask gave client are can at its asks of at_next its_next gives later none =
      answered_there events asked n (pending_after pending event) turn next ask gave client (owed_after l v pending are event can.0) can.1 at its asks of at_next its_next gives (omega (arith, later))
      (λ j other after before there. none (suc j) other (omega (arith, after)) (omega (arith, before)) there)
