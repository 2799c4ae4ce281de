-- A port that hears its reply alone.
use Rattle.std.proofs.Common.{◌≡◌, ℕ, inl, Option, Some, None, Result, refl, sym, ap, subst, ◌∙◌}
use Rattle.std.specs.Prelude.{IfOk, IsTrue}
use Rattle.std.proofs.lemmas.Option.{same_Some}
use Rattle.std.proofs.lemmas.Result.{IfOk-weaker}
use Rattle.pf_base.specs.declared.asks.Reply.{Reply}
use Rattle.pf_law_ports.specs.pf_group_network.proofs.Lists.{set_same}
use Rattle.pf_protocol.specs.Answers.{IsLegal}
use Rattle.pf_asks.specs.Ports.{Drives, Hears, PortIs}
use Rattle.pf_asks.proofs.StepCalls.{drives_so}
use Rattle.pf_group_rounds.proofs.GroupGrowth.{grown_refl}
use Rattle.pf_chunk.specs.declared.driving.PortStep.TheVariants.{Hear, Drive}
use Rattle.pf_chunk.specs.Driving.{HandsOn}
use Rattle.pf_chunk.specs.Views.{ChunkIs, ChunkIsReady}
use Rattle.pf_chunk.proofs.Calls.{IsNotTold, heard_none}
use Rattle.pf_chunk.proofs.Driven.{IsHeard, heard_reply, hears_for, none_given, out, same_again}

module _ (m : ℕ) (old new : ChunkIs) (reply : Option Reply) (h : HandsOn Hear m old reply new) (ready : ChunkIsReady old) (legal : IsTrue old.group.told → IsLegal old.group.setup old.group.history) where
  abbrev around : ChunkIs
  around = out Hear m old new reply h ready

  -- a reply is what the whole step would have given
  abbrev as_driven : (given : Reply) → h.given ≡ Some given → HandsOn Drive m old reply new
  as_driven given is = record {
    port = h.port;
    there = h.there;
    ask = h.ask;
    pending = h.pending;
    calls = h.calls;
    after = h.after;
    leads = h.leads;
    given = h.given;
    left = h.left;
    steps = subst (λ r. Drives h.port h.ask h.calls r h.left) (sym is) (drives_so h.port h.ask h.calls given h.left (subst (λ r. Hears h.port h.calls r h.left) is h.steps));
    fits = h.fits;
    next = h.next;
    heeds = h.heeds;
    is = h.is;
  }

  silent : h.given ≡ None → IsNotTold around h.port h.ask h.given h.left h.after × (h.after ≡ around) × (h.left ≡ h.port)
  silent none = heard_none around h.port h.ask h.given h.left h.after legal (λ n sent. (ready.kept.ports_fit.reads m h.port n h.there sent).pending) h.calls h.steps none h.leads

  none_heard : h.given ≡ None → IsHeard m old None old
  none_heard none =
      let untold = (silent none).0.untold in record {
        went = record {
          grown = grown_refl old.group;
          ready = ready;
          left = λ told k is. inl is;
          first = refl;
          run = λ halts tells. hears_for m old h.port h.ask h.there h.pending ready halts None (untold tells.told);
        };
        port = record {
          port = h.port;
          ports = sym (set_same old.ports m h.port h.there);
          asks = λ before at. ap (λ (q : PortIs). q.ask) (same_Some h.port before (sym h.there ∙ at));
          unsent = λ before at none. refl;
        };
        quiet = refl;
      }

  by_given : (given : Option Reply) → h.given ≡ given → IsHeard m old reply new
  by_given (Some given) is = heard_reply m old new reply (as_driven given is) ready legal given is
  by_given None is =
      let s = silent is in
      subst (λ o. IsHeard m old o new) (sym (none_given Hear m old new reply h ready is).0)
      (subst (IsHeard m old None) (sym (same_again Hear m old new reply h ready is s.1 s.2)) (none_heard is))

  pub hears : IsHeard m old reply new
  hears = by_given h.given refl

-- the first half of a step that found memory
pub is_heard : (m : ℕ) (old new : ChunkIs) {E : Type 0} (r : Result (Option Reply) E) → ChunkIsReady old → (IsTrue old.group.told → IsLegal old.group.setup old.group.history) → IfOk r (λ reply. HandsOn Hear m old reply new) → IfOk r (λ reply. IsHeard m old reply new)
is_heard m old new r ready legal ok = IfOk-weaker r (λ reply. HandsOn Hear m old reply new) (λ reply. IsHeard m old reply new) (λ reply h. hears m old new reply h ready legal) ok
