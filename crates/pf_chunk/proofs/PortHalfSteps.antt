-- A step of a port, or a half of it.
use Rattle.std.proofs.Common.{◌≡◌, ℕ, List, [], Option, None, length, sym, ap, subst, append-nil}
use Rattle.std.specs.Prelude.{IsTrue}
use Rattle.pf_base.specs.declared.asks.Reply.{Reply}
use Rattle.pf_protocol.specs.Answers.{IsLegal}
use Rattle.pf_chunk.specs.declared.driving.PortStep.{PortStep}
use Rattle.pf_chunk.specs.declared.driving.PortStep.TheVariants.{Hear, Lead, Drive}
use Rattle.pf_chunk.specs.Driving.{HandsOn, ChunkHasGone, PortDrove}
use Rattle.pf_chunk.specs.Views.{ChunkIs, ChunkIsReady}
use Rattle.pf_chunk.proofs.Calls.{LedOn, led_on}
use Rattle.pf_chunk.proofs.Driven.{IsHandedOn, an_event, led_away, led_port, led_still, leads_for, no_event, none_given, out, port_drove}
use Rattle.pf_chunk.proofs.PortReplies.{hears}

-- an ask that was led alone is not replied to
pub none_led : (step : PortStep) (m : ℕ) (old new : ChunkIs) (reply : Option Reply) → HandsOn step m old reply new → ChunkIsReady old → step ≡ Lead → reply ≡ None
none_led step m old new reply hands ready is =
    let h = subst (λ s. HandsOn s m old reply new) is hands in
    (none_given Lead m old new reply h ready h.steps.0).0

module _ (m : ℕ) (old new : ChunkIs) (reply : Option Reply) (ready : ChunkIsReady old) (legal : IsTrue old.group.told → IsLegal old.group.setup old.group.history) where
  led_so : (h : HandsOn Lead m old reply new) → LedOn (out Lead m old new reply h ready) h.port h.ask h.given h.left h.after
  led_so h = led_on (out Lead m old new reply h ready) h.port h.ask h.given h.left h.after legal (λ n sent. (ready.kept.ports_fit.reads m h.port n h.there sent).pending) h.calls h.steps.0 h.steps.1 h.leads

  -- what it did to its port
  pub drove : (step : PortStep) → HandsOn step m old reply new → PortDrove m reply old new
  drove Hear h = (hears m old new reply h ready legal).port
  drove Lead h = led_port Lead m old new reply h ready (led_so h)
  drove Drive h = port_drove m old new reply h ready legal

  -- no event took place
  pub gone_still : (step : PortStep) → HandsOn step m old reply new → length new.group.history ≡ length old.group.history → (before : List ℕ) → ChunkHasGone step m old before reply before new
  gone_still Hear h same before =
      let w = (hears m old new reply h ready legal).went in
      record { grown = w.grown; ready = w.ready; left = w.left; first = w.first; text = []; place = None; put = sym (append-nil before); run = w.run }
  gone_still Lead h same before = led_still Lead m old new reply h ready (λ halts told. leads_for m old h.port h.ask h.there h.pending ready halts) (led_so h) same before
  gone_still Drive h same before = no_event m old new reply h ready legal same before

  -- one did
  pub gone_on : (step : PortStep) → HandsOn step m old reply new → (length new.group.history ≡ length old.group.history → ⊥) → IsHandedOn step m old reply new
  gone_on Hear h more = absurd (more (ap length (hears m old new reply h ready legal).quiet))
  gone_on Lead h more = led_away Lead m old new reply h ready (λ halts told. leads_for m old h.port h.ask h.there h.pending ready halts) (led_so h) more
  gone_on Drive h more = an_event m old new reply h ready legal more
