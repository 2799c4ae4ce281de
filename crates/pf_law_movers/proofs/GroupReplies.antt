-- Where a step of a port gives a reply, it is the group's.
use Rattle.std.proofs.Common.{◌≡◌, ℕ, if◌then◌else◌, List, Option, Some, None, slice_get, refl, ◌∙◌}
use Rattle.std.proofs.lemmas.Option.{none-some}
use Rattle.pf_base.specs.declared.asks.Ask.{Ask}
use Rattle.pf_base.specs.declared.asks.Reply.{Reply}
use Rattle.pf_entry.proofs.Cases.{by_test}
use Rattle.pf_protocol.specs.Answers.{IsLegal}
use Rattle.pf_protocol.specs.declared.events.Event.{Event}
use Rattle.pf_asks.specs.Ports.{PortIs, ask_answered as answered_port, goes_to}
use Rattle.pf_protocol.specs.Histories.{replay}
use Rattle.pf_law_movers.specs.pf_law_ports.specs.Calls.{PortPast}
use Rattle.pf_law_movers.specs.pf_law_ports.specs.Driven.{IsDriven}
use Rattle.pf_law_movers.specs.pf_law_ports.specs.Replies.{IsReplied}
use Rattle.pf_law_movers.specs.pf_law_ports.proofs.PortSteps.{answers}
use Rattle.pf_law_movers.specs.pf_group_rounds.specs.Chunks.{event_answered}
use Rattle.pf_law_movers.specs.pf_group_rounds.specs.Halts.{Halt}
use Rattle.pf_law_movers.specs.pf_chunk.specs.Asks.{serving_leader, ask_reply}
use Rattle.pf_law_movers.specs.pf_chunk.specs.Driving.{Driven, driven, driven_at, driven_for, event_of_ask, handed_to, idle, led_to, replied, sent_of, with_port}
use Rattle.pf_law_movers.specs.pf_chunk.specs.Runs.{ChunkRun}
use Rattle.pf_law_movers.specs.Pasts.{PortTrace, past_in}
use Rattle.pf_law_movers.proofs.HistoryGrowth.{Grows, grows_refl, happened_grows}
use Rattle.pf_law_movers.proofs.MoverAsTold.{reply_step}

module _ (halts : List Halt) (c : ChunkRun) (m : ℕ) where
  -- A step only adds to the history of the group

  abbrev Grown : Driven → Type 0
  Grown d = Grows c.group d.chunk.group

  pub leader_grows : (p : PortIs) (ask : Ask) (leader : Option (ℕ × ℕ)) → Grown (led_to halts c m p ask leader)
  leader_grows p ask None = grows_refl c.group
  leader_grows p ask (Some (term, server)) =
      let event : Event = event_of_ask ask server in
      by_test (goes_to p.sent p.last term) (λ b. Grown (if b then handed_to halts c m p event term else idle c))
      (λ _. happened_grows halts (with_port c m (record p { sent = sent_of (event_answered halts c.group event); last = term })) event)
      (λ _. grows_refl c.group)

  reply_grows : (p : PortIs) (ask : Ask) (reply : Option Reply) → Grown (replied halts c m p ask reply)
  reply_grows p ask None = leader_grows p ask (serving_leader c.group.state)
  reply_grows p ask (Some reply) = grows_refl c.group

  ask_grows : (p : PortIs) (ask : Option Ask) → Grown (driven_for halts c m p ask)
  ask_grows p None = grows_refl c.group
  ask_grows p (Some ask) = reply_grows p ask (ask_reply c.group.state p.sent p.last)

  port_grows : (o : Option PortIs) → Grown (driven_at halts c m o)
  port_grows None = grows_refl c.group
  port_grows (Some p) = ask_grows p p.ask

  pub driven_grows : Grown (driven halts c m)
  driven_grows = port_grows (slice_get c.ports m)

  -- A reply is to the pending ask, and is looked up

  pub record Replies (d : Driven) (reply : Reply) : Type 0 where
    pub port : PortIs
    pub there : slice_get c.ports m ≡ Some port
    pub ask : Ask
    pub pending : port.ask ≡ Some ask
    pub told : ask_reply c.group.state port.sent port.last ≡ Some reply
    pub still : d.chunk.group ≡ c.group
    pub place : d.place ≡ None

  abbrev RepliesIf : Driven → Type 0
  RepliesIf d = (reply : Reply) → d.reply ≡ Some reply → Replies d reply

  leader_replies : (p : PortIs) (ask : Ask) (leader : Option (ℕ × ℕ)) → RepliesIf (led_to halts c m p ask leader)
  leader_replies p ask None = λ reply is. absurd (none-some reply is)
  leader_replies p ask (Some (term, server)) =
      let event : Event = event_of_ask ask server in
      by_test (goes_to p.sent p.last term) (λ b. RepliesIf (if b then handed_to halts c m p event term else idle c))
      (λ _ reply is. absurd (none-some reply is))
      (λ _ reply is. absurd (none-some reply is))

  reply_replies : (p : PortIs) (ask : Ask) → slice_get c.ports m ≡ Some p → p.ask ≡ Some ask → (o : Option Reply) → ask_reply c.group.state p.sent p.last ≡ o → RepliesIf (replied halts c m p ask o)
  reply_replies p ask there pending None told = leader_replies p ask (serving_leader c.group.state)
  reply_replies p ask there pending (Some its) told = λ reply is. record { port = p; there = there; ask = ask; pending = pending; told = told ∙ is; still = refl; place = refl }

  ask_replies : (p : PortIs) → slice_get c.ports m ≡ Some p → (ask : Option Ask) → p.ask ≡ ask → RepliesIf (driven_for halts c m p ask)
  ask_replies p there None pending = λ reply is. absurd (none-some reply is)
  ask_replies p there (Some ask) pending = reply_replies p ask there pending (ask_reply c.group.state p.sent p.last) refl

  port_replies : (o : Option PortIs) → slice_get c.ports m ≡ o → RepliesIf (driven_at halts c m o)
  port_replies None there = λ reply is. absurd (none-some reply is)
  port_replies (Some p) there = ask_replies p there p.ask refl

  pub driven_replies : RepliesIf (driven halts c m)
  driven_replies = port_replies (slice_get c.ports m) refl

-- and it is the group's answer, by what the port did
pub reply_is : (c : ChunkRun) → c.group.state ≡ replay c.group.setup c.group.history → (t : PortTrace) (p : PortIs) → IsDriven c.group.setup (past_in c.group.history t) p → (ask : Ask) → p.ask ≡ Some ask → (reply : Reply) → ask_reply c.group.state p.sent p.last ≡ Some reply
    → IsLegal c.group.setup c.group.history → IsReplied c.group.setup (past_in c.group.history t) ask reply
reply_is c stands t p driven_so ask pending reply told_so legal =
    let past : PortPast = past_in c.group.history t in
    answers c.group.setup past past p (answered_port p) ask reply driven_so (reply_step c stands t p ask pending reply p.sent refl told_so) legal
