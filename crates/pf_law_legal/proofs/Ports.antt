-- Ports of a chunk whose asks may come to its group: their steps leave it legal with no open claim.
use Rattle.std.proofs.Common.{◌≡◌, ℕ, ◌<◌, inl, inr, if◌then◌else◌, List, [], ◌∷◌, ◌++◌, Option, Some, None, slice_get, slice_set, refl, sym, ap, subst, ◌∙◌}
use Rattle.std.proofs.lemmas.Option.{none-some, same_Some}
use Rattle.pf_base.specs.Asks.{Answers}
use Rattle.pf_base.specs.Span.{IsWritable}
use Rattle.pf_base.specs.declared.asks.Ask.{Ask}
use Rattle.pf_base.specs.declared.asks.Ask.TheVariants as asks
use Rattle.pf_base.specs.declared.asks.Reply.{Reply}
use Rattle.pf_entry.specs.declared.ops.Op.TheVariants.{Write}
use Rattle.pf_entry.proofs.Cases.{by_test}
use Rattle.pf_entry.proofs.Lists.{set_cases}
use Rattle.pf_asks.specs.Ports.{PortIs, ask_answered as answered_port, goes_to}
use Rattle.pf_protocol.specs.declared.events.Event.{Event}
use Rattle.pf_protocol.specs.Histories.{History, IsPrefix}
use Rattle.pf_protocol.specs.declared.answers.Answer.{Answer}
use Rattle.pf_protocol.specs.Groups.{Group}
use Rattle.pf_protocol.specs.Answers.{IsSubmitted}
use Rattle.pf_world.specs.pf_group_rounds.specs.Halts.{Halt}
use Rattle.pf_world.specs.pf_group_rounds.specs.Chunks.{after, event_answered}
use Rattle.pf_law_movers.specs.pf_group_network.specs.Shown.{IsLeader}
use Rattle.pf_world.specs.pf_chunk.specs.Asks.{serving_leader, ask_reply}
use Rattle.pf_world.specs.pf_chunk.specs.Driving.{port_asked, asked_at, driven, driven_at, driven_for, event_of_ask, handed_to, port_heard, heard_at, heard_for, heard_if, led, led_at, led_for, led_to, replied, replying, idle, sent_of, with_port}
use Rattle.pf_world.specs.pf_chunk.specs.Happenings.{happened}
use Rattle.pf_world.specs.pf_chunk.specs.Runs.{ChunkRun}
use Rattle.pf_law_movers.proofs.HistoryGrowth.{after_history, followed_grows, happened_grows}
use Rattle.pf_law_movers.proofs.PortLooks.{leader_leads}
use Rattle.pf_law_movers.proofs.Ports.{happened_ports}
use Rattle.pf_law_movers.proofs.GroupReplies.{driven_replies}
use Rattle.pf_law_movers.proofs.SubmitAnswers.{is_answer}
use Rattle.pf_law_legal.proofs.Rounds.{IsIdle}
use Rattle.pf_law_legal.proofs.GroupEvents.{MayCome, happened_idle}
use Rattle.pf_law_legal.proofs.Sent.{IsFull, IsSentFor, reply_full, sent_later, sent_none, sent_now}

-- what a group may be asked: a range, and sectors of 512 bytes for all of it
abbrev pub IsFit : Ask → Type 0
IsFit (asks.Write chunk range sectors) = IsSubmitted (Write range sectors)
IsFit (asks.Read chunk range) = IsWritable range.first range.count

-- the asks that are pending in ports
abbrev pub AreFit : List PortIs → Type 0
AreFit ports = (m : ℕ) (port : PortIs) (ask : Ask) → slice_get ports m ≡ Some port → port.ask ≡ Some ask → IsFit ask

-- what tells their answers is of their kinds
abbrev pub AreSent : History → List PortIs → Type 0
AreSent history ports = (m : ℕ) (port : PortIs) (ask : Ask) → slice_get ports m ≡ Some port → port.ask ≡ Some ask → IsSentFor history ask port.sent

-- a group that is legal with no open claim, whose ports have asks that may come
pub record IsFitRun (c : ChunkRun) : Type 0 where
  pub group : IsIdle c.group
  pub ports : AreFit c.ports
  pub sent : AreSent c.group.history c.ports

pub may_come : (ask : Ask) (server : ℕ) → server < 3 → IsFit ask → MayCome (event_of_ask ask server)
may_come (asks.Write chunk range sectors) server low fit = (low, fit)
may_come (asks.Read chunk range) server low fit = (low, fit)

set_fit : (ports : List PortIs) (m : ℕ) (p : PortIs) → ((ask : Ask) → p.ask ≡ Some ask → IsFit ask) → AreFit ports → AreFit (slice_set ports m p)
set_fit ports m p its are j port ask there pending = elim (set_cases ports m p j port there) [
  | inl here ↦ its ask (ap (λ (x : PortIs). x.ask) here.1 ∙ pending)
  | inr away ↦ are j port ask away.1 pending
]

set_sent : (history : History) (ports : List PortIs) (m : ℕ) (p : PortIs) → ((ask : Ask) → p.ask ≡ Some ask → IsSentFor history ask p.sent) → AreSent history ports → AreSent history (slice_set ports m p)
set_sent history ports m p its are j port ask there pending = elim (set_cases ports m p j port there) [
  | inl here ↦ subst (λ (x : PortIs). IsSentFor history ask x.sent) here.1 (its ask (ap (λ (x : PortIs). x.ask) here.1 ∙ pending))
  | inr away ↦ are j port ask away.1 pending
]

pub still_sent : (old new : History) (ports : List PortIs) → IsPrefix old new → AreSent old ports → AreSent new ports
still_sent old new ports later are = λ m port ask there pending. sent_later old new ask port.sent later (are m port ask there pending)

-- an ask is put into a port
pub asked_fit : (c : ChunkRun) (m : ℕ) (ask : Ask) → IsFit ask → IsFitRun c → IsFitRun (port_asked c m ask)
asked_fit c m ask fit is = by (slice_get c.ports m)
  where
    by : (o : Option PortIs) → IsFitRun (asked_at c m ask o)
    by None = is
    by (Some p) =
        let q : PortIs = record p { ask = Some ask; sent = None } in record {
          group = is.group;
          ports = set_fit c.ports m q (λ other same. subst IsFit (same_Some ask other same) fit) is.ports;
          sent = set_sent c.group.history c.ports m q (λ other same. sent_none c.group.history other) is.sent;
        }

-- a leader is one of three servers
abbrev IsLow : Option (ℕ × ℕ) → Type 0
IsLow None = Unit {0}
IsLow (Some (term, server)) = server < 3

low_leader : (g : Group) → IsLow (serving_leader g)
low_leader g = by (serving_leader g) (leader_leads g)
  where
    by : (leader : Option (ℕ × ℕ)) → IsLeader g leader → IsLow leader
    by None is = tt
    by (Some (term, server)) is = is.0.low

module _ (halts : List Halt) where
  -- what happens leaves the ports alone
  pub happened_fit : (c : ChunkRun) (event : Event) → MayCome event → IsFitRun c → IsFitRun (happened halts c event).chunk
  happened_fit c event may is = record { group = happened_idle halts c event may is.group; ports = subst AreFit (sym (happened_ports halts c event)) is.ports; sent = subst (AreSent (happened halts c event).chunk.group.history) (sym (happened_ports halts c event)) (still_sent c.group.history (happened halts c event).chunk.group.history c.ports (happened_grows halts c event).later is.sent) }

  module _ (c : ChunkRun) (m : ℕ) (is : IsFitRun c) (p : PortIs) (there : slice_get c.ports m ≡ Some p) where
    handed_fit : (ask : Ask) → p.ask ≡ Some ask → (term server : ℕ) → server < 3 → IsFitRun (handed_to halts c m p (event_of_ask ask server) term).chunk
    handed_fit ask pending term server low =
        let event : Event = event_of_ask ask server in
        let answer : Answer = event_answered halts c.group event in
        let q : PortIs = record p { sent = sent_of answer; last = term } in
        let mid : ChunkRun = with_port c m q in
        let next : ChunkRun = (happened halts mid event).chunk in
        let now : History = c.group.history ++ record { event = event; answer = answer } ∷ [] in
        let first : IsPrefix c.group.history now = record { rest = record { event = event; answer = answer } ∷ []; whole = refl } in
        let later : IsPrefix now next.group.history = subst (λ history. IsPrefix history next.group.history) (recorded ask server) (followed_grows halts (record mid { group = after halts c.group event }) answer).later in
        let its : (other : Ask) → q.ask ≡ Some other → IsSentFor now other q.sent = λ other same. subst (λ a. IsSentFor now a q.sent) (same_Some ask other (sym pending ∙ same)) (sent_now c.group.setup c.group.state c.group.history ask server answer (is_answer halts c.group event)) in
        record {
          group = happened_idle halts mid event (may_come ask server low (is.ports m p ask there pending)) is.group;
          ports = subst AreFit (sym (happened_ports halts mid event)) (set_fit c.ports m q (λ other same. is.ports m p other there same) is.ports);
          sent = subst (AreSent next.group.history) (sym (happened_ports halts mid event)) (still_sent now next.group.history mid.ports later (set_sent now c.ports m q its (still_sent c.group.history now c.ports first is.sent)));
        }
      where
        recorded : (ask : Ask) (server : ℕ) → (after halts c.group (event_of_ask ask server)).history ≡ c.group.history ++ record { event = event_of_ask ask server; answer = event_answered halts c.group (event_of_ask ask server) } ∷ []
        recorded (asks.Write chunk range sectors) server = after_history halts c.group (event_of_ask (asks.Write chunk range sectors) server)
        recorded (asks.Read chunk range) server = after_history halts c.group (event_of_ask (asks.Read chunk range) server)

    led_to_fit : (ask : Ask) → p.ask ≡ Some ask → (leader : Option (ℕ × ℕ)) → IsLow leader → IsFitRun (led_to halts c m p ask leader).chunk
    led_to_fit ask pending None low = is
    led_to_fit ask pending (Some (term, server)) low =
        by_test (goes_to p.sent p.last term) (λ b. IsFitRun (if b then handed_to halts c m p (event_of_ask ask server) term else idle c).chunk) (λ _. handed_fit ask pending term server low) (λ _. is)

    replying_fit : (reply : Reply) → IsFitRun (replying c m p reply).chunk
    replying_fit reply = record { group = is.group; ports = set_fit c.ports m (answered_port p) (λ ask none. absurd (none-some ask none)) is.ports; sent = set_sent c.group.history c.ports m (answered_port p) (λ ask none. absurd (none-some ask none)) is.sent }

    replied_fit : (ask : Ask) → p.ask ≡ Some ask → (reply : Option Reply) → IsFitRun (replied halts c m p ask reply).chunk
    replied_fit ask pending None = led_to_fit ask pending (serving_leader c.group.state) (low_leader c.group.state)
    replied_fit ask pending (Some reply) = replying_fit reply

    driven_for_fit : (o : Option Ask) → p.ask ≡ o → IsFitRun (driven_for halts c m p o).chunk
    driven_for_fit None pending = is
    driven_for_fit (Some ask) pending = replied_fit ask pending (ask_reply c.group.state p.sent p.last)

    led_for_fit : (o : Option Ask) → p.ask ≡ o → IsFitRun (led_for halts c m p o).chunk
    led_for_fit None pending = is
    led_for_fit (Some ask) pending = led_to_fit ask pending (serving_leader c.group.state) (low_leader c.group.state)

    heard_if_fit : (reply : Option Reply) → IsFitRun (heard_if c m p reply).chunk
    heard_if_fit None = is
    heard_if_fit (Some reply) = replying_fit reply

    heard_for_fit : (o : Option Ask) → IsFitRun (heard_for c m p o).chunk
    heard_for_fit None = is
    heard_for_fit (Some ask) = heard_if_fit (ask_reply c.group.state p.sent p.last)

  -- a step of a port, and either half of it
  pub driven_fit : (c : ChunkRun) (m : ℕ) → IsFitRun c → IsFitRun (driven halts c m).chunk
  driven_fit c m is = by (slice_get c.ports m) refl
    where
      by : (o : Option PortIs) → slice_get c.ports m ≡ o → IsFitRun (driven_at halts c m o).chunk
      by None there = is
      by (Some p) there = driven_for_fit c m is p there p.ask refl

  pub led_fit : (c : ChunkRun) (m : ℕ) → IsFitRun c → IsFitRun (led halts c m).chunk
  led_fit c m is = by (slice_get c.ports m) refl
    where
      by : (o : Option PortIs) → slice_get c.ports m ≡ o → IsFitRun (led_at halts c m o).chunk
      by None there = is
      by (Some p) there = led_for_fit c m is p there p.ask refl

  pub heard_fit : (c : ChunkRun) (m : ℕ) → IsFitRun c → IsFitRun (port_heard c m).chunk
  heard_fit c m is = by (slice_get c.ports m) refl
    where
      by : (o : Option PortIs) → slice_get c.ports m ≡ o → IsFitRun (heard_at c m o).chunk
      by None there = is
      by (Some p) there = heard_for_fit c m is p there p.ask

-- a reply that a step of a port gives answers the ask that was pending there, with whole sectors
pub record IsAnswered (c : ChunkRun) (m : ℕ) (reply : Reply) : Type 0 where
  pub port : PortIs
  pub there : slice_get c.ports m ≡ Some port
  pub ask : Ask
  pub pending : port.ask ≡ Some ask
  pub answers : Answers ask reply
  pub full : IsFull reply

pub driven_answers : (halts : List Halt) (c : ChunkRun) (m : ℕ) (reply : Reply) → IsFitRun c → (driven halts c m).reply ≡ Some reply → IsAnswered c m reply
driven_answers halts c m reply is replied_so =
    let r = driven_replies halts c m reply replied_so in
    let both = reply_full c.group.setup c.group.history is.group.standing.legal r.ask r.port.sent r.port.last reply (is.sent m r.port r.ask r.there r.pending)
    (ap (λ (g : Group). ask_reply g r.port.sent r.port.last) (sym is.group.standing.stands) ∙ r.told) in
    record { port = r.port; there = r.there; ask = r.ask; pending = r.pending; answers = both.0; full = both.1 }

pub heard_answers : (c : ChunkRun) (m : ℕ) (reply : Reply) → IsFitRun c → (port_heard c m).reply ≡ Some reply → IsAnswered c m reply
heard_answers c m reply is = at (slice_get c.ports m) refl
  where
    told : (p : PortIs) → slice_get c.ports m ≡ Some p → (ask : Ask) → p.ask ≡ Some ask → (o : Option Reply) → ask_reply c.group.state p.sent p.last ≡ o → (heard_if c m p o).reply ≡ Some reply → IsAnswered c m reply
    told p there ask pending None said none = absurd (none-some reply none)
    told p there ask pending (Some r) said one =
        let both = reply_full c.group.setup c.group.history is.group.standing.legal ask p.sent p.last reply (is.sent m p ask there pending)
        (ap (λ (g : Group). ask_reply g p.sent p.last) (sym is.group.standing.stands) ∙ (said ∙ one)) in
        record { port = p; there = there; ask = ask; pending = pending; answers = both.0; full = both.1 }

    for : (p : PortIs) → slice_get c.ports m ≡ Some p → (o : Option Ask) → p.ask ≡ o → (heard_for c m p o).reply ≡ Some reply → IsAnswered c m reply
    for p there None pending none = absurd (none-some reply none)
    for p there (Some ask) pending said = told p there ask pending (ask_reply c.group.state p.sent p.last) refl said

    at : (o : Option PortIs) → slice_get c.ports m ≡ o → (heard_at c m o).reply ≡ Some reply → IsAnswered c m reply
    at None there none = absurd (none-some reply none)
    at (Some p) there said = for p there p.ask refl said
