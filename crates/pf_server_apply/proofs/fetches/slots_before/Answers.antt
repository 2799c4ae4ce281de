use Rattle.std.proofs.Common.{◌≡◌, ◌+◌, ◌++◌, ◌&&◌, ◌≤◌, ◌∙◌, ℕ, true, false, [], ◌∷◌, ap, arith, sym}
use Rattle.pf_entry.specs.Sets as set
use Rattle.pf_entry.specs.Tables.{ascends}
use Rattle.pf_server_apply.specs.Fetching.{is_waited_for}
use Rattle.pf_server_apply.proofs.TakenReads.{filtered_ascends, one_fails, one_passes, waits_is}
use Rattle.pf_server_apply.proofs.fetches.slots_before.Goals as goal
use Rattle.pf_server_apply.proofs.fetches.slots_before.Goals.{then-is_waited_for+in_ok-push, else-is_waited_for}

pub loop-passed-preserved : goal.loop-passed-preserved
loop-passed-preserved c =
    let me = c.args.me.now in
    let test = λ (slot : ℕ). set.contains me.log.committed slot && is_waited_for me c.args.range.now slot in
    let from = c.max-from.result in
    let n = c.loop-passed.passed in
    elim c.if-is_waited_for.branch [
      | then-is_waited_for+in_ok-push w ↦
          let passes : test (from + n + 1) ≡ true = sym c.is_waited_for.ensures ∙ w.if-is_waited_for.true in
          ap (λ v. v.items) w.slots-is ∙ w.in_ok-push.ensures.items
          ∙ ap (λ xs. xs ++ (from + n + 1) ∷ []) c.loop-passed.invariant
          ∙ one_passes test from n passes
      | else-is_waited_for w ↦
          let fails : test (from + n + 1) ≡ false = sym c.is_waited_for.ensures ∙ w.if-is_waited_for.false in
          ap (λ v. v.items) w.slots-is ∙ c.loop-passed.invariant
          ∙ one_fails test from n fails
    ]

pub new-requires : goal.new-requires
new-requires c =
    let me = c.args.me.now in
    let test = λ (slot : ℕ). set.contains me.log.committed slot && is_waited_for me c.args.range.now slot in
    ap ascends c.loop-passed.invariant ∙ filtered_ascends test c.max-from.result c.loop-passed.passed

pub returns : goal.returns
returns c = λ d cached.
    let me = c.args.me.now in
    c.new.ensures ∙ waits_is d me cached c.args.range.now c.base.ensures.within c.base.ensures.held c.max-from.result c.loop-passed.passed
    (λ q low high. c.upto.ensures.reached q (omega (arith, low)) (omega (arith, low, high, c.max-from.ensures, c.base.ensures.base)))
    (λ q has. let upto : q ≤ c.last.result = c.last.ensures q has in omega (arith, upto, c.saturating_sub-count.ensures, c.loop-passed-test.false))
    c.loop-passed.slots.items c.loop-passed.invariant
