-- A port that takes a step over the rest of its chunk.
use Rattle.std.proofs.Common.{◌≡◌, ℕ, ◌<◌, inl, inr, List, Option, Some, None, length, slice_get, slice_set, arith, refl, sym, ap, subst, ◌∙◌}
use Rattle.std.specs.Prelude.{IfSome, IsSome, IsTrue}
use Rattle.std.specs.Option.{option_and_then}
use Rattle.std.proofs.lemmas.Bool.{false≢true}
use Rattle.pf_base.specs.Asks.{Answers}
use Rattle.pf_base.specs.declared.asks.Ask.{Ask}
use Rattle.pf_base.specs.declared.asks.Ask.TheVariants as asks
use Rattle.pf_base.specs.declared.asks.Reply.{Reply}
use Rattle.pf_entry.specs.Lists.{Every}
use Rattle.pf_law_ports.specs.pf_group_network.proofs.Lists.{set_again, set_length, set_same}
use Rattle.pf_asks.specs.declared.port.Sent.{Sent}
use Rattle.pf_asks.specs.declared.port.Sent.TheVariants.{Slot, Number}
use Rattle.pf_asks.specs.Desks.{DeskCall, CallsLead, CallIsLook}
use Rattle.pf_asks.specs.Ports.{DrivesFrom, HearsFrom, ReadIsCounted, IsOfKind, PortIs, new_port}
use Rattle.pf_chunk.specs.declared.driving.PortStep.{PortStep}
use Rattle.pf_chunk.specs.declared.driving.PortStep.TheVariants.{Hear, Lead, Drive}
use Rattle.pf_chunk.specs.Asks.{CountsSectors, ChunkSays}
use Rattle.pf_chunk.specs.Driving.{HandsOn, Heeds, StepsBy, ask_at_port}
use Rattle.pf_chunk.specs.Views.{ChunkIs, ChunkIsReady}
use Rattle.pf_chunk.proofs.Calls.{lead_ports, looks_same}

pub some_ask : (ask : Option Ask) → IsSome ask → (a : Ask) × (ask ≡ Some a)
some_ask None is = absurd (false≢true is)
some_ask (Some a) is = (a, refl)

silent_by : (p left : PortIs) (ask : Ask) (calls : List DeskCall) (sent : Option Sent) (given : Option Reply) → DrivesFrom sent p ask calls given left → IsSome given → left.ask ≡ None
silent_by p left ask calls None given drives is = absurd (false≢true (subst IsSome drives.0 is))
silent_by p left ask calls (Some sent) None drives is = absurd (false≢true is)
silent_by p left ask calls (Some sent) (Some reply) drives is = ap (λ (q : PortIs). q.ask) drives.goes.1

silent_heard : (p left : PortIs) (calls : List DeskCall) (sent : Option Sent) (given : Option Reply) → HearsFrom sent p calls given left → IsSome given → left.ask ≡ None
silent_heard p left calls None given hears is = absurd (false≢true (subst IsSome hears.0 is))
silent_heard p left calls (Some sent) None hears is = absurd (false≢true is)
silent_heard p left calls (Some sent) (Some reply) hears is = ap (λ (q : PortIs). q.ask) hears.is

silent_after : (step : PortStep) (p left : PortIs) (ask : Ask) (calls : List DeskCall) (given : Option Reply) → StepsBy step p ask calls given left → IsSome given → left.ask ≡ None
silent_after Hear p left ask calls given steps is = silent_heard p left calls p.sent given steps is
silent_after Lead p left ask calls given steps is = absurd (false≢true (subst IsSome steps.0 is))
silent_after Drive p left ask calls given steps is = silent_by p left ask calls p.sent given steps is

pub kind_of : (p : PortIs) (given : Option Reply) (ask : Ask) → p.ask ≡ Some ask → IfSome given (λ r. (ask : Ask) → p.ask ≡ Some ask → IsOfKind ask r) → IfSome given (IsOfKind ask)
kind_of p None ask is kind = tt
kind_of p (Some r) ask is kind = kind ask is

-- a reply that is heeded fits its ask
heeded_fits : (ask : Ask) (given : Option Reply) (left : PortIs) (reply : Option Reply) (next : PortIs) → Heeds ask given left reply next → IfSome reply (Answers ask)
heeded_fits ask None left reply next heeds = subst (λ o. IfSome o (Answers ask)) (sym heeds.0) tt
heeded_fits ask (Some given) left reply next heeds = elim heeds [
  | inl fits ↦ subst (λ o. IfSome o (Answers ask)) (sym fits.1) fits.0
  | inr other ↦ subst (λ o. IfSome o (Answers ask)) (sym other.1) tt
]

module _ (m : ℕ) (old : ChunkIs) (p : PortIs) (there : slice_get old.ports m ≡ Some p) (start : ChunkIs) (start_is : start ≡ record old { ports = slice_set old.ports m new_port }) where
  abbrev out : ChunkIs
  out = record old { ports = slice_set old.ports m new_port }

  pub asks_this : ask_at_port old.ports m ≡ p.ask
  asks_this = ap (option_and_then (λ (q : PortIs). q.ask)) there

  pub pending : IsSome (ask_at_port old.ports m) → (ask : Ask) × (p.ask ≡ Some ask)
  pending is = some_ask p.ask (subst IsSome asks_this is)

  by_sent : ChunkIsReady old → IsTrue old.group.told → (sent : Option Sent) (ask : Option Ask) → p.sent ≡ sent → p.ask ≡ ask → ReadIsCounted (CountsSectors out) sent ask
  by_sent ready told None ask is asks = tt
  by_sent ready told (Some (Slot slot)) ask is asks = tt
  by_sent ready told (Some (Number n)) None is asks = tt
  by_sent ready told (Some (Number n)) (Some (asks.Write chunk range sectors)) is asks = tt
  by_sent ready told (Some (Number n)) (Some (asks.Read chunk range)) is asks = (told, (range, (ready.kept.ports_fit.reads m p n there is).asked chunk range asks, refl))

  pub is_counted : ChunkIsReady old → IsTrue old.group.told → ReadIsCounted (CountsSectors start) p.sent p.ask
  is_counted ready told = subst (λ (c : ChunkIs). ReadIsCounted (CountsSectors c) p.sent p.ask) (sym start_is) (by_sent ready told p.sent p.ask refl refl)

  pub answers_it : (given : Option Reply) (left : PortIs) (reply : Option Reply) (next : PortIs) → ((ask : Ask) → p.ask ≡ Some ask → Heeds ask given left reply next) → IfSome reply (λ r. (ask : Ask) → ask_at_port old.ports m ≡ Some ask → Answers ask r)
  answers_it given left None next heeds = tt
  answers_it given left (Some r) next heeds = λ ask is. heeded_fits ask given left (Some r) next (heeds ask (sym asks_this ∙ is))

  module _ (after : ChunkIs) (left : PortIs) where
    inside_by : (calls : List DeskCall) → CallsLead ChunkSays start calls after → m < length old.ports → m < length after.ports
    inside_by calls lead low = omega (arith, low, ap (λ (ps : List PortIs). length ps) (lead_ports start calls after lead ∙ ap (λ (c : ChunkIs). c.ports) start_is), set_length old.ports m new_port)

    -- the port took the step, and what it gave is heeded
    module _ (step : PortStep) (given : Option Reply) (stepped : (ask : Ask) → p.ask ≡ Some ask → (calls : List DeskCall) × CallsLead ChunkSays start calls after × StepsBy step p ask calls given left) (asks : IsSome (ask_at_port old.ports m)) where
      pub inside : m < length old.ports → m < length after.ports
      inside low = let a = pending asks in let d = stepped a.0 a.1 in inside_by d.0 d.1 low

      -- an answered ask is pending no more
      pub silent_then : IsSome given → left.ask ≡ None
      silent_then is = let a = pending asks in let d = stepped a.0 a.1 in silent_after step p left a.0 d.0 given d.2 is

      pub hands_on : (next : PortIs) (reply : Option Reply) (final : ChunkIs) → final ≡ record after { ports = slice_set after.ports m next }
          → (IsTrue old.group.told → IfSome given (λ r. (ask : Ask) → p.ask ≡ Some ask → Answers ask r)) → ((ask : Ask) → p.ask ≡ Some ask → Heeds ask given left reply next) → HandsOn step m old reply final
      hands_on next reply final final_is fits heeds =
          let a = pending asks in
          let d = stepped a.0 a.1 in record {
            port = p;
            there = there;
            ask = a.0;
            pending = a.1;
            calls = d.0;
            after = after;
            leads = subst (λ (c : ChunkIs). CallsLead ChunkSays c d.0 after) start_is d.1;
            given = given;
            left = left;
            steps = d.2;
            fits = λ told. fits_it given a.0 a.1 (fits told);
            next = next;
            heeds = heeds a.0 a.1;
            is = final_is;
          }
        where
          fits_it : (given : Option Reply) (ask : Ask) → p.ask ≡ Some ask → IfSome given (λ r. (ask : Ask) → p.ask ≡ Some ask → Answers ask r) → IfSome given (Answers ask)
          fits_it None ask is whole = tt
          fits_it (Some r) ask is whole = whole ask is

    -- there was no memory for it
    module _ (same : left ≡ p) (looked : (calls : List DeskCall) × CallsLead ChunkSays start calls after × Every CallIsLook calls) where
      pub inside_still : m < length old.ports → m < length after.ports
      inside_still low = inside_by looked.0 looked.1 low

      pub left_alone : (final : ChunkIs) → final ≡ record after { ports = slice_set after.ports m left } → final ≡ old
      left_alone final final_is =
          let out_is : after ≡ out = looks_same start looked.0 after looked.2 looked.1 ∙ start_is in
          final_is
          ∙ ap (λ (c : ChunkIs). let x : ChunkIs = record c { ports = slice_set c.ports m left } in x) out_is
          ∙ ap (λ (ps : List PortIs). let x : ChunkIs = record old { ports = ps } in x)
          (set_again old.ports m new_port left ∙ ap (slice_set old.ports m) same ∙ set_same old.ports m p there)
