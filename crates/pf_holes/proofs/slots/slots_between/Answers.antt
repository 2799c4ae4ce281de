use Rattle.std.proofs.Common.{◌≡◌, ◌+◌, ◌-◌, ◌++◌, ◌∷◌, [], arith, ap, ◌∙◌}
use Rattle.std.specs.List.{range_with_len}
use Rattle.pf_holes.proofs.SlotOrder.{range_more}
use Rattle.pf_holes.proofs.slots.slots_between.Goals as goal

pub loop-passed-preserved : goal.loop-passed-preserved
loop-passed-preserved c =
    c.in_ok-push.ensures.items ∙ ap (λ xs. xs ++ (c.args.base + c.loop-passed.passed + 1) ∷ []) c.loop-passed.invariant ∙ range_more c.args.base c.loop-passed.passed

pub returns : goal.returns
returns c =
    let e : c.loop-passed.passed ≡ c.args.upto - c.args.base = omega arith in
    c.loop-passed.invariant ∙ ap (range_with_len (c.args.base + 1)) e
