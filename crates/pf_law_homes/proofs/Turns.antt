-- What happens at ports is a turn of one half of a position, and nobody's in the other.
use Rattle.std.proofs.Common.{◌≡◌, ◌≢◌, ℕ, zero, suc, ◌*◌, ◌/◌, ◌<◌, ◌⊎◌, inl, inr, ◌==◌, Bool, true, false, cond, List, [], ◌∷◌, map, length, Option, Some, None, arith, refl, sym, ap, subst, ◌∙◌}
use Rattle.std.proofs.lemmas.Bool.{cases_eq, cond-false, cond-true, eq-eqb, eqb-true, ne_eqb}
use Rattle.pf_base.specs.Asks.{Answers, chunk_of}
use Rattle.pf_base.specs.declared.asks.Ask.{Ask}
use Rattle.pf_base.specs.declared.asks.Ask.TheVariants.{Write, Read}
use Rattle.pf_base.specs.declared.asks.Reply.{Reply}
use Rattle.pf_base.specs.declared.asks.Reply.TheVariants.{Written, Bytes}
use Rattle.pf_entry.specs.Ops.{Sector}
use Rattle.pf_protocol.specs.Groups.{Answered}
use Rattle.pf_volume.specs.Volumes.{Extent}
use Rattle.pf_paxos.specs.Registers.{Ask as BlockAsk, AsksRead, AsksWrite, Gives, Reply as BlockReply, Turn}
use Rattle.pf_paxos.specs.Runs.{idle_turn}
use Rattle.pf_law_halves.specs.Halves.{AreBeside, AreOfHalf, IsAskOfHalf, IsEither}
use Rattle.pf_law_positions.specs.Deeds.{Gets, Submits, Takes}
use Rattle.pf_law_positions.specs.Homes.{PositionHome, ask_in, if_asked, reply_in, turn_in, turn_or_idle, turns_in}
use Rattle.pf_law_positions.specs.PortDeeds.{no_deed, port_ask, port_reply}
use Rattle.pf_journal.specs.Sectors.{block_in}
use Rattle.pf_journal.specs.Layouts.{IsLayout, LayoutIs, home_on}
use Rattle.pf_law_homes.specs.Chunks.{only_half}
use Rattle.pf_law_homes.specs.Ports.{AreEventsFrom, CanHappen, Comes, Goes, Hands, IsAnswerOf, IsAskFor, IsClientOf, IsOwed, IsReplyTo, Matter, OfBlock, OfData, OfHalf, OfPause, OfSuper, PortOwed, Passes, Pending, PortEvent, ask_on, block_reply, deed_answered, deed_at, deed_handed, deed_of, deeds_from, pending_after, port_turn_answered, turn_of_event, port_turns_from}
use Rattle.pf_law_homes.proofs.Asks.{ask_is, ask_other, half_ask}
use Rattle.pf_law_homes.proofs.PortPending.{AreOwed, owed_after}

-- a reply is one to what was asked
reply_is : (home : PositionHome) (client epoch by : ℕ) (answer : Answered) (ask : Ask) (reply : Reply) → Answers ask reply → IsAnswerOf ask reply answer
    → reply_in block_in home client (port_reply ask epoch by answer reply) ≡ if_asked (ask_in block_in home client (port_ask ask)) (block_reply reply)
reply_is home client epoch by answer (Write chunk span sectors) Written answers its = refl
reply_is home client epoch by answer (Write chunk span sectors) (Bytes bytes) answers its = absurd answers
reply_is home client epoch by answer (Read chunk span) Written answers its = absurd answers
reply_is home client epoch by answer (Read chunk span) (Bytes bytes) answers its =
    ap (λ range. if_asked (ask_in block_in home client (Gets chunk range)) (Gives (map block_in answer.bytes))) its.0
    ∙ ap (λ (sectors : List Sector). if_asked (ask_in block_in home client (Gets chunk span)) (Gives (map block_in sectors))) its.1

handed_idle : (home : PositionHome) (c epoch place : ℕ) (owed : Option PortOwed) → turn_in block_in home (deed_handed c epoch place owed) ≡ idle_turn
handed_idle home c epoch place None = refl
handed_idle home c epoch place (Some owed) = by (chunk_of owed.ask == c)
  where
    by : (b : Bool) → turn_in block_in home (cond b (Submits owed.client (chunk_of owed.ask) epoch place) no_deed) ≡ idle_turn
    by true = refl
    by false = refl

-- an ask is of one half, or of none
record IsOneHalf (client : ℕ) (matter : Matter) (ask : Option BlockAsk) : Type 0 where
  is : ((half_ask 0 client matter ask ≡ ask) × (half_ask 1 client matter ask ≡ None)) ⊎ ((half_ask 0 client matter ask ≡ None) × (half_ask 1 client matter ask ≡ ask))

by_half : (h : ℕ) → h < 2 → (ask : Option BlockAsk) → ((cond (h == 0) ask None ≡ ask) × (cond (h == 1) ask None ≡ None)) ⊎ ((cond (h == 0) ask None ≡ None) × (cond (h == 1) ask None ≡ ask))
by_half zero low ask = inl (refl, refl)
by_half (suc zero) low ask = inr (refl, refl)
by_half (suc (suc h)) low ask = absurd (omega (arith, low))

nothing_on : (b : Bool) (ask : Option BlockAsk) → ask ≡ None → cond b ask None ≡ None
nothing_on true ask is = is
nothing_on false ask is = refl

one_half : (l : LayoutIs) (v : Extent) (m p a q client : ℕ) (matter : Matter) (ask : Ask) → m < 16 → IsAskFor l v m p client matter ask → IsOneHalf client matter (ask_on a q p matter)
one_half l v m p a q client (OfBlock u block) ask low its = let same = its.2 in record { is = by_half (client / 8) (omega (arith, same, low)) (ask_on a q p (OfBlock u block)) }
one_half l v m p a q client (OfHalf u other) ask low its = record { is = by_half other its.2 (ask_on a q p (OfHalf u other)) }
one_half l v m p a q client (OfPause u) ask low its = record { is = inl (sym (nothing_on (p == a) None refl), refl) }
one_half l v m p a q client OfSuper ask low its = record { is = inl (sym (nothing_on (p == a) None refl), refl) }
one_half l v m p a q client OfData ask low its = record { is = inl (sym (nothing_on (p == a) None refl), refl) }

-- asks of a half are of this half
of_nested : (b c d : Bool) (half client : ℕ) (ask : BlockAsk) → (b ≡ true → IsAskOfHalf half client (Some ask)) → (let t = turn_or_idle client None (cond b (cond c (cond d (Some ask) None) None) None) in IsAskOfHalf half t.client t.ask)
of_nested true true true half client ask is = is refl
of_nested true true false half client ask is = tt
of_nested true false d half client ask is = tt
of_nested false c d half client ask is = tt

no_reader : (m client : ℕ) → m < 16 → IsClientOf m client → client ≢ 16
no_reader m client low (inl same) = λ e. absurd (omega (arith, same, low, e))
no_reader m client low (inr same) = λ e. absurd (omega (arith, same, e))

of_half : (l : LayoutIs) (v : Extent) (m p a q half client : ℕ) (matter : Matter) (ask : Ask) → m < 16 → IsClientOf m client → IsAskFor l v m p client matter ask
    → (let t = turn_or_idle client None (half_ask half client matter (ask_on a q p matter)) in IsAskOfHalf half t.client t.ask)
of_half l v m p a q half client (OfBlock u block) ask low is its = of_nested (client / 8 == half) (p == a) (q == u) half client (AsksWrite block) (λ b. (eqb-true (client / 8) half b, no_reader m client low is))
of_half l v m p a q half client (OfHalf u other) ask low is its = of_nested (other == half) (p == a) (q == u) half client (AsksRead other) (λ b. (eqb-true other half b, no_reader m client low is))
of_half l v m p a q half client (OfPause u) ask low is its = tt
of_half l v m p a q half client OfSuper ask low is its = tt
of_half l v m p a q half client OfData ask low is its = tt

-- a turn that answers asks nothing
answers_none : (half client : ℕ) (reply : Option BlockReply) → (let t = turn_or_idle client reply None in IsAskOfHalf half t.client t.ask)
answers_none half client None = tt
answers_none half client (Some reply) = tt

-- where only one half has the ask
either : (f : Option BlockAsk → Turn) (whole low high : Option BlockAsk) → f None ≡ idle_turn → ((low ≡ whole) × (high ≡ None)) ⊎ ((low ≡ None) × (high ≡ whole)) → IsEither (f whole) (f low) (f high)
either f whole low high none (inl its) = inl (ap f its.0, ap f its.1 ∙ none)
either f whole low high none (inr its) = inr (ap f its.0 ∙ none, ap f its.1)

module _ (l : LayoutIs) (v : Extent) (is : IsLayout l v) (k : ℕ) (eight : v.sectors ≡ 8 * k) (some : 0 < k) (a q : ℕ) (low_a : a < length l.anchors) (low_q : q < l.positions) where
  abbrev pub home : PositionHome
  home = home_on l v.sectors a q

  -- what happens, as it is in one half
  abbrev pub half_turn : (half : ℕ) → Pending → PortEvent → Turn
  half_turn half pending event = turn_in block_in (only_half home half) (deed_of (home.chunk half) pending event)

  module _ (m p : ℕ) (owed : PortOwed) (its : IsOwed l v m p owed) where
    abbrev of_whole : Option BlockAsk
    of_whole = ask_on a q p owed.matter

    abbrev of_one : (half : ℕ) → Option BlockAsk
    of_one half = half_ask half owed.client owed.matter (ask_on a q p owed.matter)

    pub goes_turn : (half : ℕ) → half < 2 → turn_in block_in (only_half home half) (deed_at (home.chunk half) owed (Takes owed.client None (Some (port_ask owed.ask)))) ≡ turn_or_idle owed.client None (of_one half)
    goes_turn half low = elim (cases_eq (chunk_of owed.ask) (home.chunk half)) [
      | inl same ↦
          ap (turn_in block_in (only_half home half)) (cond-true (chunk_of owed.ask == home.chunk half) (Takes owed.client None (Some (port_ask owed.ask))) no_deed (eq-eqb (chunk_of owed.ask) (home.chunk half) same))
          ∙ ap (turn_or_idle owed.client None) (ask_is l v is k eight some a q half low_a low_q low m p its.mount_low owed.client owed.matter owed.ask its.ask same)
      | inr other ↦
          ap (turn_in block_in (only_half home half)) (cond-false (chunk_of owed.ask == home.chunk half) (Takes owed.client None (Some (port_ask owed.ask))) no_deed (ne_eqb (chunk_of owed.ask) (home.chunk half) other))
          ∙ ap (turn_or_idle owed.client None) (sym (ask_other l v is k eight some a q half low_a low_q low m p its.mount_low owed.client owed.matter owed.ask its.ask other))
    ]

    pub comes_turn : (half epoch by : ℕ) (answer : Answered) (reply : Reply) → half < 2 → IsReplyTo (Some owed) reply answer → turn_in block_in (only_half home half) (deed_answered (home.chunk half) epoch by answer (Some owed) reply) ≡ turn_or_idle owed.client (if_asked (of_one half) (block_reply reply)) None
    comes_turn half epoch by answer reply low right =
        let deed = Takes owed.client (port_reply owed.ask epoch by answer reply) None in
        elim (cases_eq (chunk_of owed.ask) (home.chunk half)) [
          | inl same ↦
              ap (turn_in block_in (only_half home half)) (cond-true (chunk_of owed.ask == home.chunk half) deed no_deed (eq-eqb (chunk_of owed.ask) (home.chunk half) same))
              ∙ ap (λ r. turn_or_idle owed.client r None) (reply_is (only_half home half) owed.client epoch by answer owed.ask reply right.0 right.1)
              ∙ ap (λ o. turn_or_idle owed.client (if_asked o (block_reply reply)) None) (ask_is l v is k eight some a q half low_a low_q low m p its.mount_low owed.client owed.matter owed.ask its.ask same)
          | inr other ↦
              ap (turn_in block_in (only_half home half)) (cond-false (chunk_of owed.ask == home.chunk half) deed no_deed (ne_eqb (chunk_of owed.ask) (home.chunk half) other))
              ∙ ap (λ o. turn_or_idle owed.client (if_asked o (block_reply reply)) None) (sym (ask_other l v is k eight some a q half low_a low_q low m p its.mount_low owed.client owed.matter owed.ask its.ask other))
        ]

    goes_either : IsEither (turn_or_idle owed.client None of_whole) (half_turn 0 (λ i j. None) (Goes m p owed)) (half_turn 1 (λ i j. None) (Goes m p owed))
    goes_either =
        subst (λ (t : Turn). IsEither (turn_or_idle owed.client None of_whole) t (half_turn 1 (λ i j. None) (Goes m p owed))) (sym (goes_turn 0 (omega arith)))
        (subst (λ (t : Turn). IsEither (turn_or_idle owed.client None of_whole) (turn_or_idle owed.client None (of_one 0)) t) (sym (goes_turn 1 (omega arith)))
        (either (turn_or_idle owed.client None) of_whole (of_one 0) (of_one 1) refl (one_half l v m p a q owed.client owed.matter owed.ask its.mount_low its.ask).is))

    comes_either : (epoch by : ℕ) (answer : Answered) (reply : Reply) → IsReplyTo (Some owed) reply answer
        → IsEither (port_turn_answered a q p (Some owed) reply) (turn_in block_in (only_half home 0) (deed_answered (home.chunk 0) epoch by answer (Some owed) reply)) (turn_in block_in (only_half home 1) (deed_answered (home.chunk 1) epoch by answer (Some owed) reply))
    comes_either epoch by answer reply right =
        let f : Option BlockAsk → Turn = λ o. turn_or_idle owed.client (if_asked o (block_reply reply)) None in
        subst (λ (t : Turn). IsEither (f of_whole) t (turn_in block_in (only_half home 1) (deed_answered (home.chunk 1) epoch by answer (Some owed) reply))) (sym (comes_turn 0 epoch by answer reply (omega arith) right))
        (subst (λ (t : Turn). IsEither (f of_whole) (f (of_one 0)) t) (sym (comes_turn 1 epoch by answer reply (omega arith) right))
        (either f of_whole (of_one 0) (of_one 1) refl (one_half l v m p a q owed.client owed.matter owed.ask its.mount_low its.ask).is))

    goes_of_half : (half : ℕ) → half < 2 → (let t = half_turn half (λ i j. None) (Goes m p owed) in IsAskOfHalf half t.client t.ask)
    goes_of_half half low = subst (λ (t : Turn). IsAskOfHalf half t.client t.ask) (sym (goes_turn half low)) (of_half l v m p a q half owed.client owed.matter owed.ask its.mount_low its.client its.ask)

    comes_of_half : (half epoch by : ℕ) (answer : Answered) (reply : Reply) → half < 2 → IsReplyTo (Some owed) reply answer → (let t = turn_in block_in (only_half home half) (deed_answered (home.chunk half) epoch by answer (Some owed) reply) in IsAskOfHalf half t.client t.ask)
    comes_of_half half epoch by answer reply low right = subst (λ (t : Turn). IsAskOfHalf half t.client t.ask) (sym (comes_turn half epoch by answer reply low right)) (answers_none half owed.client (if_asked (of_one half) (block_reply reply)))

  -- what comes at a port

  came_either : (m p epoch by : ℕ) (answer : Answered) (reply : Reply) (owed : Option PortOwed) → ((o : PortOwed) → owed ≡ Some o → IsOwed l v m p o) → IsReplyTo owed reply answer
      → IsEither (port_turn_answered a q p owed reply) (turn_in block_in (only_half home 0) (deed_answered (home.chunk 0) epoch by answer owed reply)) (turn_in block_in (only_half home 1) (deed_answered (home.chunk 1) epoch by answer owed reply))
  came_either m p epoch by answer reply None its right = absurd right
  came_either m p epoch by answer reply (Some owed) its right = comes_either m p owed (its owed refl) epoch by answer reply right

  came_of_half : (m p half epoch by : ℕ) (answer : Answered) (reply : Reply) (owed : Option PortOwed) → half < 2 → ((o : PortOwed) → owed ≡ Some o → IsOwed l v m p o) → IsReplyTo owed reply answer
      → (let t = turn_in block_in (only_half home half) (deed_answered (home.chunk half) epoch by answer owed reply) in IsAskOfHalf half t.client t.ask)
  came_of_half m p half epoch by answer reply None low its right = absurd right
  came_of_half m p half epoch by answer reply (Some owed) low its right = comes_of_half m p owed (its owed refl) half epoch by answer reply low right

  -- Whatever happens

  event_either : (pending : Pending) (event : PortEvent) → AreOwed l v pending → CanHappen l v pending event → IsEither (turn_of_event a q pending event) (half_turn 0 pending event) (half_turn 1 pending event)
  event_either pending (Goes m p owed) are can = goes_either m p owed can.1
  event_either pending (Comes m p reply epoch by answer) are can = came_either m p epoch by answer reply (pending m p) (are m p) can
  event_either pending (Hands m p epoch place) are can = inl (handed_idle (only_half home 0) (home.chunk 0) epoch place (pending m p), handed_idle (only_half home 1) (home.chunk 1) epoch place (pending m p))
  event_either pending Passes are can = inl (refl, refl)

  event_of_half : (half : ℕ) → half < 2 → (pending : Pending) (event : PortEvent) → AreOwed l v pending → CanHappen l v pending event → (let t = half_turn half pending event in IsAskOfHalf half t.client t.ask)
  event_of_half half low pending (Goes m p owed) are can = goes_of_half m p owed can.1 half low
  event_of_half half low pending (Comes m p reply epoch by answer) are can = came_of_half m p half epoch by answer reply (pending m p) low (are m p) can
  event_of_half half low pending (Hands m p epoch place) are can = subst (λ (t : Turn). IsAskOfHalf half t.client t.ask) (sym (handed_idle (only_half home half) (home.chunk half) epoch place (pending m p))) tt
  event_of_half half low pending Passes are can = tt

  -- All that happens

  abbrev pub half_turns : (half : ℕ) → Pending → List PortEvent → List Turn
  half_turns half pending events = turns_in block_in (only_half home half) (deeds_from (home.chunk half) pending events)

  pub events_beside : (events : List PortEvent) (pending : Pending) → AreOwed l v pending → AreEventsFrom l v pending events → AreBeside (port_turns_from a q pending events) (half_turns 0 pending events) (half_turns 1 pending events)
  events_beside [] pending are can = tt
  events_beside (event ∷ events) pending are can = (event_either pending event are can.0, events_beside events (pending_after pending event) (owed_after l v pending are event can.0) can.1)

  pub events_of_half : (half : ℕ) → half < 2 → (events : List PortEvent) (pending : Pending) → AreOwed l v pending → AreEventsFrom l v pending events → AreOfHalf half (half_turns half pending events)
  events_of_half half low [] pending are can = tt
  events_of_half half low (event ∷ events) pending are can = (event_of_half half low pending event are can.0, events_of_half half low events (pending_after pending event) (owed_after l v pending are event can.0) can.1)
