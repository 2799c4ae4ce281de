use Rattle.std.proofs.Common.{◌≡◌, ℕ, List, Option, Some, None, Result, Ok, Err, IfOk, IfSome, IsSome, OnErr, OnOk, get_or, slice_get, slice_set, refl, sym, ap, subst, ◌∙◌}
use Rattle.std.specs.Option.{option_and_then}
use Rattle.std.proofs.lemmas.Option.{same_Some, slice_get_within, slice_get-get_or}
use Rattle.pf_base.specs.declared.asks.Ask.{Ask}
use Rattle.pf_base.specs.declared.asks.Reply.{Reply}
use Rattle.pf_base.specs.declared.errors.NoMemory.{NoMemory}
use Rattle.pf_base.specs.Asks.{Answers}
use Rattle.pf_asks.specs.Ports.{PortIs}
use Rattle.pf_chunk.specs.Driving.{HasDriven, PortDrove, ask_at_port, driven}
use Rattle.pf_chunk.specs.Steps.{EventHasFailed}
use Rattle.pf_chunk.specs.Views.{ChunkIs, run_of}
use Rattle.pf_world_moments.specs.Parts.{HasDrove, HasNotDrove, PortIsPending}
use Rattle.pf_world_moments.specs.Steps.{AreReady}
use Rattle.pf_world_moments.proofs.PortDrives.{drove_failed, drove_went}
use Rattle.pf_world_moments.proofs.ports.drive_at.Goals as goal

module _ (mount k : ℕ) (chunks : List ChunkIs) (d : ChunkIs) (pending : PortIsPending mount k chunks) where
  at_it : slice_get chunks k ≡ Some (get_or chunks k d)
  at_it = slice_get-get_or chunks k d (slice_get_within chunks k pending.chunk pending.there)

  its_port : slice_get (get_or chunks k d).ports mount ≡ Some pending.port
  its_port = subst (λ (c : ChunkIs). slice_get c.ports mount ≡ Some pending.port) (same_Some pending.chunk (get_or chunks k d) (sym pending.there ∙ at_it)) pending.its

  module _ (before after : List ℕ) (is : ChunkIs) where
    all_went : (r : Result (Option Reply) NoMemory) → AreReady chunks → IfOk r (λ reply. HasDriven mount (get_or chunks k d) before reply after is) → IfOk r (λ reply. PortDrove mount reply (get_or chunks k d) is) → OnOk r (is.next ≡ (get_or chunks k d).next)
        → IfOk r (λ reply. HasDrove mount k chunks before reply after (slice_set chunks k is))
    all_went (Ok reply) ready went port next = drove_went mount k chunks (get_or chunks k d) is at_it before after reply went port ready next
    all_went (Err e) ready went port next = tt

    all_failed : (r : Result (Option Reply) NoMemory) → OnErr r (EventHasFailed (λ halts. (driven halts (run_of halts (get_or chunks k d)) mount).chunk.group) (get_or chunks k d).group is.group) → OnErr r (HasNotDrove mount k chunks (slice_set chunks k is))
    all_failed (Ok reply) failed = tt
    all_failed (Err e) failed = drove_failed mount k chunks (get_or chunks k d) is at_it failed

  of_some : (reply : Option Reply) → IfSome reply (λ r. (ask : Ask) → ask_at_port (get_or chunks k d).ports mount ≡ Some ask → Answers ask r)
      → IfSome reply (λ r. (c : ChunkIs) (port : PortIs) (ask : Ask) → slice_get chunks k ≡ Some c → slice_get c.ports mount ≡ Some port → port.ask ≡ Some ask → Answers ask r)
  of_some None its = tt
  of_some (Some r) its = λ c port ask there port_is pending_ask.
      its ask (ap (option_and_then (λ (p : PortIs). p.ask)) (subst (λ (x : ChunkIs). slice_get x.ports mount ≡ Some port) (same_Some c (get_or chunks k d) (sym there ∙ at_it)) port_is) ∙ pending_ask)

  all_answered : (r : Result (Option Reply) NoMemory) → IfOk r (λ reply. IfSome reply (λ r. (ask : Ask) → ask_at_port (get_or chunks k d).ports mount ≡ Some ask → Answers ask r))
      → IfOk r (λ reply. IfSome reply (λ r. (c : ChunkIs) (port : PortIs) (ask : Ask) → slice_get chunks k ≡ Some c → slice_get c.ports mount ≡ Some port → port.ask ≡ Some ask → Answers ask r))
  all_answered (Ok reply) its = of_some reply its
  all_answered (Err e) its = tt

pub drive-requires-clause-ready : goal.drive-requires-clause-ready
drive-requires-clause-ready g c κs within = (c.requires.ready c.args.group _ (at_it c.args.mount c.args.group c.args.chunks.now c.index-chunks-group.result c.requires.pending)).1

pub drive-requires-clause-pending : goal.drive-requires-clause-pending
drive-requires-clause-pending g c κs within =
    subst (λ (o : Option Ask). IsSome o)
    (sym (ap (option_and_then (λ (p : PortIs). p.ask)) (its_port c.args.mount c.args.group c.args.chunks.now c.index-chunks-group.result c.requires.pending) ∙ c.requires.pending.pending)) refl

pub returns-clause-went : goal.returns-clause-went
returns-clause-went g c =
    all_went c.args.mount c.args.group c.args.chunks.now c.index-chunks-group.result c.requires.pending c.args.out.now.items c.drive.new.out.items c.drive.new.self c.drive.result
    c.requires.ready c.drive.ensures.went c.drive.ensures.port c.drive.ensures.next

pub returns-clause-answers : goal.returns-clause-answers
returns-clause-answers g c = all_answered c.args.mount c.args.group c.args.chunks.now c.index-chunks-group.result c.requires.pending c.drive.result c.drive.ensures.answers

pub returns-clause-err : goal.returns-clause-err
returns-clause-err g c =
    all_failed c.args.mount c.args.group c.args.chunks.now c.index-chunks-group.result c.requires.pending c.args.out.now.items c.drive.new.out.items c.drive.new.self c.drive.result
    c.drive.ensures.err
