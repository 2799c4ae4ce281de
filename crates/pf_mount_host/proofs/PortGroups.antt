-- The port of a mount into one of the groups.
use Rattle.std.proofs.Common.{◌≡◌, ℕ, List, [], Option, Some, None, Result, Ok, Err, IfOk, IfSome, IsSome, OnErr, OnOk, get_or, slice_get, slice_set, refl, sym, ap, subst, ◌∙◌}
use Rattle.std.specs.Option.{option_and_then}
use Rattle.std.proofs.lemmas.Option.{same_Some, slice_get_within, slice_get-get_or}
use Rattle.pf_base.specs.declared.asks.Ask.{Ask}
use Rattle.pf_base.specs.declared.asks.Reply.{Reply}
use Rattle.pf_base.specs.declared.errors.NoMemory.{NoMemory}
use Rattle.pf_base.specs.Asks.{Answers}
use Rattle.pf_world_moments.specs.pf_group_network.proofs.Lists.{set_same}
use Rattle.pf_asks.specs.Ports.{PortIs}
use Rattle.pf_world_moments.specs.pf_chunk.specs.Driving.{HasHeard, HasLed, PortDrove, ask_at_port, port_heard, led}
use Rattle.pf_world_moments.specs.pf_chunk.specs.Steps.{EventHasFailed}
use Rattle.pf_world_moments.specs.pf_chunk.specs.Views.{ChunkIs, run_of}
use Rattle.pf_world_moments.specs.Parts.{PortIsPending}
use Rattle.pf_world_moments.specs.Steps.{AreReady}
use Rattle.pf_mount_host.specs.Parts.{HasHeardAt, HasLedAt, HasNotLedAt}
use Rattle.pf_mount_host.proofs.GroupPorts.{has_met, not_led}

module _ (mount k : ℕ) (chunks : List ChunkIs) (d : ChunkIs) (pending : PortIsPending mount k chunks) where
  pub at_it : slice_get chunks k ≡ Some (get_or chunks k d)
  at_it = slice_get-get_or chunks k d (slice_get_within chunks k pending.chunk pending.there)

  its_port : slice_get (get_or chunks k d).ports mount ≡ Some pending.port
  its_port = subst (λ (c : ChunkIs). slice_get c.ports mount ≡ Some pending.port) (same_Some pending.chunk (get_or chunks k d) (sym pending.there ∙ at_it)) pending.its

  pub its_ask : IsSome (ask_at_port (get_or chunks k d).ports mount)
  its_ask = subst (λ (o : Option Ask). IsSome o) (sym (ap (option_and_then (λ (p : PortIs). p.ask)) its_port ∙ pending.pending)) refl

  module _ (is : ChunkIs) (ready : AreReady chunks) where
    -- it was looked at
    pub has_heard : (r : Result (Option Reply) NoMemory) → IfOk r (λ reply. HasHeard mount (get_or chunks k d) reply is) → IfOk r (λ reply. PortDrove mount reply (get_or chunks k d) is) → OnOk r (is.next ≡ (get_or chunks k d).next)
        → IfOk r (λ reply. HasHeardAt mount k chunks reply (slice_set chunks k is))
    has_heard (Ok reply) h port next =
        has_met mount k chunks (get_or chunks k d) is at_it (λ halts c. port_heard c mount) [] reply [] [] None ready h.grown h.ready h.first next port refl h.run
    has_heard (Err e) h port next = tt

    -- its ask was led on
    pub has_led : (before after : List ℕ) (r : Result Unit NoMemory) → OnOk r (HasLed mount (get_or chunks k d) before after is) → OnOk r (PortDrove mount None (get_or chunks k d) is) → OnOk r (is.next ≡ (get_or chunks k d).next)
        → OnOk r (HasLedAt mount k chunks before after (slice_set chunks k is))
    has_led before after (Ok x) h port next =
        has_met mount k chunks (get_or chunks k d) is at_it (λ halts c. led halts c mount) before None after h.text h.place ready h.grown h.ready h.first next port h.put h.run
    has_led before after (Err e) h port next = tt

    pub has_not_led : (r : Result Unit NoMemory) → OnErr r (EventHasFailed (λ halts. (led halts (run_of halts (get_or chunks k d)) mount).chunk.group) (get_or chunks k d).group is.group) → OnErr r (HasNotLedAt mount k chunks (slice_set chunks k is))
    has_not_led (Ok x) failed = tt
    has_not_led (Err e) failed = not_led mount k chunks (get_or chunks k d) is at_it failed

  pub all_same : (is : ChunkIs) (r : Result (Option Reply) NoMemory) → OnErr r (is ≡ get_or chunks k d) → OnErr r (slice_set chunks k is ≡ chunks)
  all_same is (Ok reply) same = tt
  all_same is (Err e) same = ap (slice_set chunks k) same ∙ set_same chunks k (get_or chunks k d) at_it

  of_some : (reply : Option Reply) → IfSome reply (λ r. (ask : Ask) → ask_at_port (get_or chunks k d).ports mount ≡ Some ask → Answers ask r)
      → IfSome reply (λ r. (c : ChunkIs) (port : PortIs) (ask : Ask) → slice_get chunks k ≡ Some c → slice_get c.ports mount ≡ Some port → port.ask ≡ Some ask → Answers ask r)
  of_some None its = tt
  of_some (Some r) its = λ c port ask there port_is pending_ask.
      its ask (ap (option_and_then (λ (p : PortIs). p.ask)) (subst (λ (x : ChunkIs). slice_get x.ports mount ≡ Some port) (same_Some c (get_or chunks k d) (sym there ∙ at_it)) port_is) ∙ pending_ask)

  pub all_answered : (r : Result (Option Reply) NoMemory) → IfOk r (λ reply. IfSome reply (λ r. (ask : Ask) → ask_at_port (get_or chunks k d).ports mount ≡ Some ask → Answers ask r))
      → IfOk r (λ reply. IfSome reply (λ r. (c : ChunkIs) (port : PortIs) (ask : Ask) → slice_get chunks k ≡ Some c → slice_get c.ports mount ≡ Some port → port.ask ≡ Some ask → Answers ask r))
  all_answered (Ok reply) its = of_some reply its
  all_answered (Err e) its = tt
