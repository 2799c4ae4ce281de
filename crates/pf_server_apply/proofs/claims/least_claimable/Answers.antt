use Rattle.std.proofs.Common.{◌≡◌, ℕ, ◌+◌, ◌<◌, ◌≤◌, ◌∙◌, Some, false, ap, arith, is_some, subst, sym}
use Rattle.std.specs.FinMap
use Rattle.pf_entry.specs.Records.{Durable}
use Rattle.pf_entry.specs.Sets as set
use Rattle.pf_server_memory.specs.Standing.{IsCached}
use Rattle.pf_server_apply.specs.Claims.{can_claim}
use Rattle.pf_server_apply.proofs.LeastClaims.{least_is, none_is, not_again, not_there}
use Rattle.pf_server_apply.proofs.NameBounds.{absent_past, left_kept, left_one, left_upto, none_above, none_past, none_upto}
use Rattle.pf_server_apply.proofs.claims.least_claimable.Goals.{then-is_applied, else-is_applied+in_default+else-passed-me}
use Rattle.pf_server_apply.proofs.claims.least_claimable.Goals as goal

pub loop-below-init : goal.loop-below-init
loop-below-init c = record {
  above = omega (arith, c.max-from.ensures, c.base.ensures.base);
  none = λ q low high d cached. not_again d c.args.me.now cached q (omega (arith, low)) (c.upto.ensures.reached q (omega (arith, low)) (omega (arith, low, high, c.max-from.ensures, c.base.ensures.base)));
  few = omega arith;
  count = omega arith;
}

pub loop-below-preserved : goal.loop-below-preserved
loop-below-preserved c =
    let me = c.args.me.now in
    let done = set.contains me.applied.slots in
    let before = c.loop-below.invariant in
    let below = c.loop-below.below in
    let none = λ (here : (d : Durable) → IsCached d me → can_claim d me (below + 1) ≡ false) (q : ℕ) (low : me.log.base < q) (high : q ≤ below + 1) (d : Durable) (cached : IsCached d me).
    none_upto (can_claim d me) me.log.base below (λ k a b. before.none k a b d cached) (here d cached) q low high in
    elim c.if-is_applied.branch [
      | then-is_applied w ↦
          let kept = left_kept done below in
          let past = λ (d : Durable) (cached : IsCached d me). not_again d me cached (below + 1) (omega arith) (sym c.is_applied.ensures ∙ w.if-is_applied.true) in
          record { above = omega (arith, before.above); none = none past; few = omega (arith, before.few, w.passed-is); count = omega (arith, before.count, w.passed-is, kept) }
      | else-is_applied+in_default+else-passed-me w ↦
          let apart = w.if-passed-me.false in
          let more = left_one done below (sym c.is_applied.ensures ∙ w.if-is_applied.false) in
          record { above = omega (arith, before.above); none = none w.in_default.ensures; few = omega (arith, before.few, w.passed-is, apart); count = omega (arith, before.count, w.passed-is, more) }
    ]

pub returns-in-Some : goal.returns-in-Some
returns-in-Some c =
    let me = c.args.me.now in
    let slot = c.loop-below.below + 1 in
    let e = c.in-Some.entry.now in
    let ready = c.in-Some.ensures in
    let w = c.base.ensures.within slot (ap is_some ready.held) in
    record {
      held = subst (λ k. FinMap.get me.log.entries k ≡ Some e) (sym ready.in_slot) ready.held;
      least = λ d cached.
          least_is d me cached slot w.0 w.1
          (λ q low high. c.loop-below.invariant.none q low (omega (arith, high)) d cached)
          (ready.can d cached)
          ∙ ap Some (sym ready.in_slot);
    }

pub returns-then-passed-me : goal.returns-then-passed-me
returns-then-passed-me c = λ d cached.
    let me = c.args.me.now in
    let done = set.contains me.applied.slots in
    let before = c.loop-below.invariant in
    let below = c.loop-below.below in
    let more = left_one done below (sym c.is_applied.ensures ∙ c.if-is_applied.false) in
    let many : me.names < left_upto done (below + 1) = omega (arith, before.count, more, c.if-passed-me.true) in
    none_is d me cached (none_above (can_claim d me) me.log.base (below + 1)
    (λ q low high. none_upto (can_claim d me) me.log.base below (λ k a b. before.none k a b d cached) (c.in_default.ensures d cached) q low high)
    (λ q past. none_past d me cached c.requires.bounded (below + 1) q many past))

pub returns : goal.returns
returns c = λ d cached.
    let me = c.args.me.now in
    let below = c.loop-below.below in
    none_is d me cached (none_above (can_claim d me) me.log.base below
    (λ q low high. c.loop-below.invariant.none q low high d cached)
    (λ q past. not_there d me cached q (absent_past (FinMap.contains_key me.log.entries) c.last-below-end.result q c.last-below-end.ensures (omega (arith, past, c.loop-below-test.false)))))
