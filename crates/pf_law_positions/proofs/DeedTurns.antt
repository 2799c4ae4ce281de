-- What turns tell of deeds.
use Rattle.std.proofs.Common.{◌≡◌, ℕ, ◌<◌, ◌==◌, ◌⊎◌, inl, inr, true, false, ◌&&◌, nat_lt, if◌then◌else◌, List, map, Option, Some, None, slice_get, arith, refl, sym, ap, subst, ◌∙◌}
use Rattle.std.specs.Option.{option_map}
use Rattle.std.proofs.lemmas.Option.{same_Some, none-some, slice_get-map}
use Rattle.std.proofs.lemmas.Bool.{cases_Bool, and_parts, cond-true, cond-false, eqb-true, ltb-true, and_from, lt-ltb, eq-eqb}
use Rattle.pf_base.specs.Span.{Span}
use Rattle.pf_entry.specs.Ops.{Sector}
use Rattle.pf_entry.specs.declared.ops.Op.{Op}
use Rattle.pf_protocol.specs.Groups.{Answered}
use Rattle.pf_law_registers.specs.Orders.{given}
use Rattle.pf_law_registers.proofs.Lists.{got_mapped}
use Rattle.pf_paxos.specs.declared.block.Block.{Block}
use Rattle.pf_paxos.specs.Registers.{Ask, AsksWrite, AsksRead, Reply, Written, Gives, Turn}
use Rattle.pf_law_positions.specs.Deeds.{PortAsk, Puts, Gets, PortReply, Put, Got, Deed, Takes, Submits}
use Rattle.pf_law_positions.specs.Homes.{PositionHome, chunk_of_block, sector_of, is_half, asks_write, ask_in, next_in_half, if_asked, reply_in, turn_or_idle, turn_in, turns_in}

asks_of : (client : ℕ) (reply : Option Reply) (next : Option Ask) (turn : Turn) (ask : Ask) → turn_or_idle client reply next ≡ turn → turn.ask ≡ Some ask → (next ≡ Some ask) × (client ≡ turn.client)
asks_of client None None turn ask is asks = absurd (none-some ask (ap (λ (t : Turn). t.ask) is ∙ asks))
asks_of client None (Some x) turn ask is asks = (ap (λ (t : Turn). t.ask) is ∙ asks, ap (λ (t : Turn). t.client) is)
asks_of client (Some r) next turn ask is asks = (ap (λ (t : Turn). t.ask) is ∙ asks, ap (λ (t : Turn). t.client) is)

gives_of : (client : ℕ) (its : Option Reply) (next : Option Ask) (turn : Turn) (reply : Reply) → turn_or_idle client its next ≡ turn → turn.reply ≡ Some reply → (its ≡ Some reply) × (client ≡ turn.client)
gives_of client None None turn reply is gives = absurd (none-some reply (ap (λ (t : Turn). t.reply) is ∙ gives))
gives_of client None (Some x) turn reply is gives = (ap (λ (t : Turn). t.reply) is ∙ gives, ap (λ (t : Turn). t.client) is)
gives_of client (Some r) next turn reply is gives = (ap (λ (t : Turn). t.reply) is ∙ gives, ap (λ (t : Turn). t.client) is)

asking_turn : (client : ℕ) (reply : Option Reply) (ask : Ask) → turn_or_idle client reply (Some ask) ≡ record { client = client; reply = reply; ask = Some ask }
asking_turn client None ask = refl
asking_turn client (Some r) ask = refl

-- a write of the position
pub record IsOwnWrite (read : Sector → Block) (home : PositionHome) (client chunk : ℕ) (op : Op) (ask : Ask) : Type 0 where
  pub low : client < 16
  pub in_chunk : chunk ≡ chunk_of_block home client
  pub bytes : Sector
  pub gives : given op (sector_of home client) ≡ Some bytes
  pub is : ask ≡ AsksWrite (read bytes)

-- a read of the position
pub record IsHalfRead (home : PositionHome) (chunk : ℕ) (range : Span) (ask : Ask) : Type 0 where
  pub half : ℕ
  pub low : half < 2
  pub in_chunk : chunk ≡ home.chunk half
  pub first : range.first ≡ home.first half
  pub eight : range.count ≡ 8
  pub is : ask ≡ AsksRead half

-- a read of half 1, or nothing
abbrev if_high : PositionHome → (chunk : ℕ) → Span → Option Ask
if_high home chunk range = if is_half home 1 chunk range then Some (AsksRead 1) else None

module _ (read : Sector → Block) (home : PositionHome) where
  pub own_write : (client chunk : ℕ) (op : Op) (ask : Ask) → ask_in read home client (Puts chunk op) ≡ Some ask → IsOwnWrite read home client chunk op ask
  own_write client chunk op ask is = elim (cases_Bool (nat_lt client 16 && chunk == chunk_of_block home client)) [
    | inl holds ↦
        let p = and_parts (nat_lt client 16) (chunk == chunk_of_block home client) holds in
        by_bytes (ltb-true client 16 p.0) (eqb-true chunk (chunk_of_block home client) p.1) (given op (sector_of home client)) refl
        (sym (cond-true (nat_lt client 16 && chunk == chunk_of_block home client) (asks_write read (given op (sector_of home client))) None holds) ∙ is)
    | inr fails ↦ absurd (none-some ask (sym (cond-false (nat_lt client 16 && chunk == chunk_of_block home client) (asks_write read (given op (sector_of home client))) None fails) ∙ is))
  ]
    where
      by_bytes : client < 16 → chunk ≡ chunk_of_block home client → (o : Option Sector) → given op (sector_of home client) ≡ o → asks_write read o ≡ Some ask → IsOwnWrite read home client chunk op ask
      by_bytes low same None has it = absurd (none-some ask it)
      by_bytes low same (Some bytes) has it = record { low = low; in_chunk = same; bytes = bytes; gives = has; is = same_Some ask (AsksWrite (read bytes)) (sym it) }

  -- and the other way round
  pub asks_own : (client : ℕ) (op : Op) (bytes : Sector) → client < 16 → given op (sector_of home client) ≡ Some bytes → ask_in read home client (Puts (chunk_of_block home client) op) ≡ Some (AsksWrite (read bytes))
  asks_own client op bytes low has =
      cond-true (nat_lt client 16 && chunk_of_block home client == chunk_of_block home client) (asks_write read (given op (sector_of home client))) None (and_from _ _ (lt-ltb client 16 low) (eq-eqb (chunk_of_block home client) (chunk_of_block home client) refl))
      ∙ ap (asks_write read) has

  is_half_read : (half chunk : ℕ) (range : Span) (ask : Ask) → half < 2 → is_half home half chunk range ≡ true → AsksRead half ≡ ask → IsHalfRead home chunk range ask
  is_half_read half chunk range ask low holds is =
      let p = and_parts (chunk == home.chunk half) (range.first == home.first half && range.count == 8) holds in
      let q = and_parts (range.first == home.first half) (range.count == 8) p.1 in
      record { half = half; low = low; in_chunk = eqb-true chunk (home.chunk half) p.0; first = eqb-true range.first (home.first half) q.0; eight = eqb-true range.count 8 q.1; is = sym is }

  pub half_read : (client chunk : ℕ) (range : Span) (ask : Ask) → ask_in read home client (Gets chunk range) ≡ Some ask → IsHalfRead home chunk range ask
  half_read client chunk range ask is = elim (cases_Bool (is_half home 0 chunk range)) [
    | inl low ↦ is_half_read 0 chunk range ask (omega arith) low (same_Some (AsksRead 0) ask (sym (cond-true (is_half home 0 chunk range) (Some (AsksRead 0)) (if_high home chunk range) low) ∙ is))
    | inr not_low ↦ by_high (sym (cond-false (is_half home 0 chunk range) (Some (AsksRead 0)) (if_high home chunk range) not_low) ∙ is) (cases_Bool (is_half home 1 chunk range))
  ]
    where
      by_high : if_high home chunk range ≡ Some ask → (is_half home 1 chunk range ≡ true) ⊎ (is_half home 1 chunk range ≡ false) → IsHalfRead home chunk range ask
      by_high it (inl high) = is_half_read 1 chunk range ask (omega arith) high (same_Some (AsksRead 1) ask (sym (cond-true (is_half home 1 chunk range) (Some (AsksRead 1)) None high) ∙ it))
      by_high it (inr neither) = absurd (none-some ask (sym (cond-false (is_half home 1 chunk range) (Some (AsksRead 1)) None neither) ∙ it))

  -- a reply that a write of the position was acknowledged
  pub record PutsIt (client : ℕ) (its : PortReply) : Type 0 where
    pub chunk : ℕ
    pub epoch : ℕ
    pub by : ℕ
    pub op : Op
    pub is_it : its ≡ Put chunk epoch by op
    pub ask : Ask
    pub asked : ask_in read home client (Puts chunk op) ≡ Some ask
    pub own : IsOwnWrite read home client chunk op ask

  -- a reply with what a read of the position gave
  pub record GetsIt (client : ℕ) (its : PortReply) (blocks : List Block) : Type 0 where
    pub chunk : ℕ
    pub epoch : ℕ
    pub by : ℕ
    pub answer : Answered
    pub is_it : its ≡ Got chunk epoch by answer
    pub ask : Ask
    pub asked : ask_in read home client (Gets chunk answer.range) ≡ Some ask
    pub half : IsHalfRead home chunk answer.range ask
    pub are : blocks ≡ map read answer.bytes

  pub puts_it : (client : ℕ) (its : PortReply) → reply_in read home client (Some its) ≡ Some Written → PutsIt client its
  puts_it client (Put chunk epoch by op) is = by_ask (ask_in read home client (Puts chunk op)) refl is
    where
      by_ask : (o : Option Ask) → ask_in read home client (Puts chunk op) ≡ o → if_asked o Written ≡ Some Written → PutsIt client (Put chunk epoch by op)
      by_ask None asked it = absurd (none-some Written it)
      by_ask (Some ask) asked it = record { chunk = chunk; epoch = epoch; by = by; op = op; is_it = refl; ask = ask; asked = asked; own = own_write client chunk op ask asked }
  puts_it client (Got chunk epoch by answer) is = by_ask (ask_in read home client (Gets chunk answer.range)) is
    where
      by_ask : (o : Option Ask) → if_asked o (Gives (map read answer.bytes)) ≡ Some Written → PutsIt client (Got chunk epoch by answer)
      by_ask None it = absurd (none-some Written it)
      by_ask (Some ask) it = absurd (cc)

  pub gets_it : (client : ℕ) (its : PortReply) (blocks : List Block) → reply_in read home client (Some its) ≡ Some (Gives blocks) → GetsIt client its blocks
  gets_it client (Got chunk epoch by answer) blocks is = by_ask (ask_in read home client (Gets chunk answer.range)) refl is
    where
      by_ask : (o : Option Ask) → ask_in read home client (Gets chunk answer.range) ≡ o → if_asked o (Gives (map read answer.bytes)) ≡ Some (Gives blocks) → GetsIt client (Got chunk epoch by answer) blocks
      by_ask None asked it = absurd (none-some (Gives blocks) it)
      by_ask (Some ask) asked it = record { chunk = chunk; epoch = epoch; by = by; answer = answer; is_it = refl; ask = ask; asked = asked; half = half_read client chunk answer.range ask asked; are = cc }
  gets_it client (Put chunk epoch by op) blocks is = by_ask (ask_in read home client (Puts chunk op)) is
    where
      by_ask : (o : Option Ask) → if_asked o Written ≡ Some (Gives blocks) → GetsIt client (Put chunk epoch by op) blocks
      by_ask None it = absurd (none-some (Gives blocks) it)
      by_ask (Some ask) it = absurd (cc)

  module _ (deeds : List Deed) where
    -- a deed in which the client asks this
    pub record AsksAt (k client : ℕ) (ask : Ask) : Type 0 where
      pub its : Option PortReply
      pub next : PortAsk
      pub at : slice_get deeds k ≡ Some (Takes client its (Some next))
      pub is : ask_in read home client next ≡ Some ask

    -- a deed in which it is answered this
    pub record GivesAt (k client : ℕ) (reply : Reply) : Type 0 where
      pub its : PortReply
      pub next : Option PortAsk
      pub at : slice_get deeds k ≡ Some (Takes client (Some its) next)
      pub is : reply_in read home client (Some its) ≡ Some reply

    asks_next : (k client : ℕ) (ask : Ask) (its : Option PortReply) (next : Option PortAsk) → slice_get deeds k ≡ Some (Takes client its next) → next_in_half read home client next ≡ Some ask → AsksAt k client ask
    asks_next k client ask its None at is = absurd (none-some ask is)
    asks_next k client ask its (Some next) at is = record { its = its; next = next; at = at; is = is }

    gives_its : (k client : ℕ) (reply : Reply) (its : Option PortReply) (next : Option PortAsk) → slice_get deeds k ≡ Some (Takes client its next) → reply_in read home client its ≡ Some reply → GivesAt k client reply
    gives_its k client reply None next at is = absurd (none-some reply is)
    gives_its k client reply (Some its) next at is = record { its = its; next = next; at = at; is = is }

    asks_deed : (k : ℕ) (turn : Turn) (ask : Ask) (deed : Deed) → slice_get deeds k ≡ Some deed → turn_in read home deed ≡ turn → turn.ask ≡ Some ask → AsksAt k turn.client ask
    asks_deed k turn ask (Takes client its next) at is asks =
        let p = asks_of client (reply_in read home client its) (next_in_half read home client next) turn ask is asks in
        subst (λ c. AsksAt k c ask) p.1 (asks_next k client ask its next at p.0)
    asks_deed k turn ask (Submits client chunk epoch place) at is asks = absurd (none-some ask (ap (λ (t : Turn). t.ask) is ∙ asks))

    gives_deed : (k : ℕ) (turn : Turn) (reply : Reply) (deed : Deed) → slice_get deeds k ≡ Some deed → turn_in read home deed ≡ turn → turn.reply ≡ Some reply → GivesAt k turn.client reply
    gives_deed k turn reply (Takes client its next) at is gives =
        let p = gives_of client (reply_in read home client its) (next_in_half read home client next) turn reply is gives in
        subst (λ c. GivesAt k c reply) p.1 (gives_its k client reply its next at p.0)
    gives_deed k turn reply (Submits client chunk epoch place) at is gives = absurd (none-some reply (ap (λ (t : Turn). t.reply) is ∙ gives))

    pub asks_at : (k client : ℕ) (turn : Turn) (ask : Ask) → slice_get (turns_in read home deeds) k ≡ Some turn → turn.client ≡ client → turn.ask ≡ Some ask → AsksAt k client ask
    asks_at k client turn ask at its asks =
        let d = got_mapped (λ deed. turn_in read home deed) deeds k turn at in
        subst (λ c. AsksAt k c ask) its (asks_deed k turn ask d.0 d.1 d.2 asks)

    pub gives_at : (k client : ℕ) (turn : Turn) (reply : Reply) → slice_get (turns_in read home deeds) k ≡ Some turn → turn.client ≡ client → turn.reply ≡ Some reply → GivesAt k client reply
    gives_at k client turn reply at its gives =
        let d = got_mapped (λ deed. turn_in read home deed) deeds k turn at in
        subst (λ c. GivesAt k c reply) its (gives_deed k turn reply d.0 d.1 d.2 gives)

    -- the turn of a client that asks something of the position
    pub record TurnAsks (k client : ℕ) (ask : Ask) : Type 0 where
      pub turn : Turn
      pub at : slice_get (turns_in read home deeds) k ≡ Some turn
      pub its : turn.client ≡ client
      pub asks : turn.ask ≡ Some ask

    pub turn_asks : (k client : ℕ) (its : Option PortReply) (next : PortAsk) (ask : Ask) → slice_get deeds k ≡ Some (Takes client its (Some next)) → ask_in read home client next ≡ Some ask → TurnAsks k client ask
    turn_asks k client its next ask at is = record {
      turn = record { client = client; reply = reply_in read home client its; ask = Some ask };
      at =
          slice_get-map (λ deed. turn_in read home deed) deeds k
          ∙ ap (λ o. option_map (λ deed. turn_in read home deed) o) at
          ∙ ap (λ a. Some (turn_or_idle client (reply_in read home client its) a)) is
          ∙ ap (λ t. Some t) (asking_turn client (reply_in read home client its) ask);
      its = refl;
      asks = refl;
    }
