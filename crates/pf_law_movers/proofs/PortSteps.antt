-- What a step of a port, or a half of it, does to its group.
use Rattle.std.proofs.Common.{◌≡◌, ◌≢◌, ℕ, ◌<◌, length, Option, Some, None, List, slice_get, refl, subst}
use Rattle.std.proofs.lemmas.Option.{none-some, same_Some, slice_get_within}
use Rattle.pf_base.specs.declared.asks.Ask.{Ask}
use Rattle.pf_base.specs.declared.asks.Reply.{Reply}
use Rattle.pf_asks.specs.Ports.{PortIs, ask_answered as answered_port}
use Rattle.pf_law_movers.specs.pf_group_network.proofs.Lists.{set_elsewhere, set_length}
use Rattle.pf_law_movers.specs.pf_group_rounds.specs.Halts.{Halt}
use Rattle.pf_law_movers.specs.pf_chunk.specs.Asks.{serving_leader, ask_reply}
use Rattle.pf_law_movers.specs.pf_chunk.specs.Driving.{Driven, driven, event_of_ask, port_heard, heard_at, heard_for, heard_if, idle, led, led_at, led_for, led_to}
use Rattle.pf_law_movers.specs.pf_chunk.specs.Runs.{ChunkRun}
use Rattle.pf_law_movers.proofs.HistoryGrowth.{Grows, grows_refl}
use Rattle.pf_law_movers.proofs.Handovers.{IsHandedIf, driven_hands, leader_hands}
use Rattle.pf_law_movers.proofs.Ports.{DrivesPort, drives_port, leads}
use Rattle.pf_law_movers.proofs.GroupReplies.{driven_grows, leader_grows}

-- events are added, there are as many ports, no other port is different, and an ask was handed on by the next event, which lies in the history, or by none
pub record IsPortStep (m : ℕ) (c : ChunkRun) (d : Driven) : Type 0 where
  pub grows : Grows c.group d.chunk.group
  pub count : length d.chunk.ports ≡ length c.ports
  pub others : (n : ℕ) → n ≢ m → slice_get d.chunk.ports n ≡ slice_get c.ports n
  pub hands : (place : ℕ) → d.place ≡ Some place → place < length d.chunk.group.history
  pub handed : IsHandedIf m c d d.place

place_within : (m : ℕ) (c : ChunkRun) (d : Driven) (o : Option ℕ) → IsHandedIf m c d o → (place : ℕ) → o ≡ Some place → place < length d.chunk.group.history
place_within m c d None none place is = absurd (none-some place is)
place_within m c d (Some n) h place is =
    subst (λ i. i < length d.chunk.group.history) (same_Some n place is) (slice_get_within d.chunk.group.history n (record { event = event_of_ask h.ask h.server; answer = h.answer }) h.is)

module _ (c : ChunkRun) (m : ℕ) where
  idles : IsPortStep m c (idle c)
  idles = record { grows = grows_refl c.group; count = refl; others = λ n other. refl; hands = λ place none. absurd (none-some place none); handed = refl }

  -- an answer is heard, and nothing is handed on
  hears_if : (p : PortIs) (reply : Option Reply) → IsPortStep m c (heard_if c m p reply) × ((heard_if c m p reply).place ≡ None)
  hears_if p None = (idles, refl)
  hears_if p (Some reply) = (
    record {
      grows = grows_refl c.group;
      count = set_length c.ports m (answered_port p);
      others = λ n other. set_elsewhere c.ports m n (answered_port p) other;
      hands = λ place none. absurd (none-some place none);
      handed = refl;
    },
    refl,
  )

  hears_for : (p : PortIs) (ask : Option Ask) → IsPortStep m c (heard_for c m p ask) × ((heard_for c m p ask).place ≡ None)
  hears_for p None = (idles, refl)
  hears_for p (Some ask) = hears_if p (ask_reply c.group.state p.sent p.last)

  hears_at : (o : Option PortIs) → IsPortStep m c (heard_at c m o) × ((heard_at c m o).place ≡ None)
  hears_at None = (idles, refl)
  hears_at (Some p) = hears_for p p.ask

  pub hears_step : IsPortStep m c (port_heard c m) × ((port_heard c m).place ≡ None)
  hears_step = hears_at (slice_get c.ports m)

  -- by its parts
  together : (d : Driven) → Grows c.group d.chunk.group → DrivesPort m c d → IsHandedIf m c d d.place → IsPortStep m c d
  together d grows drives hands = record { grows = grows; count = drives.count; others = drives.others; hands = place_within m c d d.place hands; handed = hands }

  module _ (halts : List Halt) where
    -- an ask is handed on, and no answer is looked for
    leads_for : (p : PortIs) → slice_get c.ports m ≡ Some p → (ask : Option Ask) → p.ask ≡ ask → IsPortStep m c (led_for halts c m p ask)
    leads_for p there None pending = idles
    leads_for p there (Some ask) pending =
        let leader = serving_leader c.group.state in
        together (led_to halts c m p ask leader) (leader_grows halts c m p ask leader) (leads halts c m p there ask leader) (leader_hands halts c m p there ask pending leader)

    leads_at : (o : Option PortIs) → slice_get c.ports m ≡ o → IsPortStep m c (led_at halts c m o)
    leads_at None there = idles
    leads_at (Some p) there = leads_for p there p.ask refl

    pub leads_step : IsPortStep m c (led halts c m)
    leads_step = leads_at (slice_get c.ports m) refl

    pub drives_step : IsPortStep m c (driven halts c m)
    drives_step = together (driven halts c m) (driven_grows halts c m) (drives_port halts c m) (driven_hands halts c m)
