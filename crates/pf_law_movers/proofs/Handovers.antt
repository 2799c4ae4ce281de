-- By which event a step of a port hands its ask on.
use Rattle.std.proofs.Common.{◌≡◌, ℕ, if◌then◌else◌, List, [], ◌∷◌, ◌++◌, length, Option, Some, None, slice_get, refl, sym, ap, subst, ◌∙◌}
use Rattle.pf_base.specs.declared.asks.Ask.{Ask}
use Rattle.pf_base.specs.declared.asks.Ask.TheVariants as asks
use Rattle.pf_base.specs.declared.asks.Reply.{Reply}
use Rattle.pf_entry.proofs.Cases.{by_test}
use Rattle.pf_protocol.specs.declared.answers.Answer.{Answer}
use Rattle.pf_protocol.specs.declared.events.Event.{Event}
use Rattle.pf_protocol.specs.declared.events.Happening.{Happening}
use Rattle.pf_protocol.specs.Histories.{History}
use Rattle.pf_asks.specs.Ports.{PortIs, goes_to}
use Rattle.pf_law_movers.specs.pf_group_network.proofs.Lists.{at_end, at_front}
use Rattle.pf_law_movers.specs.pf_group_rounds.specs.Halts.{Halt}
use Rattle.pf_law_movers.specs.pf_group_rounds.specs.Chunks.{after, event_answered, event_listed}
use Rattle.pf_law_movers.specs.pf_chunk.specs.Asks.{serving_leader, ask_reply}
use Rattle.pf_law_movers.specs.pf_chunk.specs.Driving.{Driven, driven, driven_at, driven_for, event_of_ask, handed_to, idle, led_to, replied, sent_of, with_port}
use Rattle.pf_law_movers.specs.pf_chunk.specs.Runs.{ChunkRun}
use Rattle.pf_law_movers.proofs.HistoryGrowth.{after_history, followed_grows}
use Rattle.pf_law_movers.proofs.WriteEvents.{AddsNoWrite, happened_adds_one}

-- the port of mount m handed its ask to a server, by the next event of the group at this place, and nothing that followed on it was a write
pub record IsHandedAt (m : ℕ) (c : ChunkRun) (d : Driven) (place : ℕ) : Type 0 where
  pub at : place ≡ length c.group.history
  pub port : PortIs
  pub there : slice_get c.ports m ≡ Some port
  pub ask : Ask
  pub pending : port.ask ≡ Some ask
  pub server : ℕ
  pub answer : Answer
  pub is : slice_get d.chunk.group.history place ≡ Some (record { event = event_of_ask ask server; answer = answer })
  pub adds : AddsNoWrite (c.group.history ++ record { event = event_of_ask ask server; answer = answer } ∷ []) d.chunk.group.history

-- or it handed nothing on
abbrev pub IsHandedIf : (m : ℕ) (c : ChunkRun) (d : Driven) (place : Option ℕ) → Type 0
IsHandedIf m c d None = d.chunk.group ≡ c.group
IsHandedIf m c d (Some place) = IsHandedAt m c d place

module _ (halts : List Halt) (c : ChunkRun) (m : ℕ) where
  as_listed : (ask : Ask) (server : ℕ) → event_listed halts c.group (event_of_ask ask server) ≡ event_of_ask ask server
  as_listed (asks.Write chunk range sectors) server = refl
  as_listed (asks.Read chunk range) server = refl

  module _ (p : PortIs) (there : slice_get c.ports m ≡ Some p) (ask : Ask) (pending : p.ask ≡ Some ask) where
    hands_to : (term server : ℕ) → IsHandedAt m c (handed_to halts c m p (event_of_ask ask server) term) (length c.group.history)
    hands_to term server =
        let event : Event = event_of_ask ask server in
        let answer : Answer = event_answered halts c.group event in
        let x : Happening = record { event = event_listed halts c.group event; answer = answer } in
        let y : Happening = record { event = event; answer = answer } in
        let same : x ≡ y = ap (λ (e : Event). let z : Happening = record { event = e; answer = answer } in z) (as_listed ask server) in
        let mid : ChunkRun = with_port c m (record p { sent = sent_of answer; last = term }) in
        let d : Driven = handed_to halts c m p event term in
        let later = (followed_grows halts (record mid { group = after halts c.group event }) answer).later in
        let first : slice_get (after halts c.group event).history (length c.group.history) ≡ Some y =
        ap (λ (history : History). slice_get history (length c.group.history)) (after_history halts c.group event) ∙ at_end c.group.history x ∙ ap (λ (z : Happening). Some z) same in record {
          at = refl;
          port = p;
          there = there;
          ask = ask;
          pending = pending;
          server = server;
          answer = answer;
          is = ap (λ (history : History). slice_get history (length c.group.history)) (sym later.whole) ∙ at_front (after halts c.group event).history later.rest (length c.group.history) y first;
          adds = subst (λ (z : Happening). AddsNoWrite (c.group.history ++ z ∷ []) d.chunk.group.history) same (happened_adds_one halts mid event);
        }

    pub leader_hands : (leader : Option (ℕ × ℕ)) → let d : Driven = led_to halts c m p ask leader in IsHandedIf m c d d.place
    leader_hands None = refl
    leader_hands (Some (term, server)) =
        by_test (goes_to p.sent p.last term) (λ b. let d : Driven = if b then handed_to halts c m p (event_of_ask ask server) term else idle c in IsHandedIf m c d d.place)
        (λ _. hands_to term server)
        (λ _. refl)

    reply_hands : (reply : Option Reply) → let d : Driven = replied halts c m p ask reply in IsHandedIf m c d d.place
    reply_hands None = leader_hands (serving_leader c.group.state)
    reply_hands (Some reply) = refl

  ask_hands : (p : PortIs) → slice_get c.ports m ≡ Some p → (ask : Option Ask) → p.ask ≡ ask → let d : Driven = driven_for halts c m p ask in IsHandedIf m c d d.place
  ask_hands p there None pending = refl
  ask_hands p there (Some ask) pending = reply_hands p there ask pending (ask_reply c.group.state p.sent p.last)

  port_hands : (o : Option PortIs) → slice_get c.ports m ≡ o → let d : Driven = driven_at halts c m o in IsHandedIf m c d d.place
  port_hands None there = refl
  port_hands (Some p) there = ask_hands p there p.ask refl

  pub driven_hands : let d : Driven = driven halts c m in IsHandedIf m c d d.place
  driven_hands = port_hands (slice_get c.ports m) refl
