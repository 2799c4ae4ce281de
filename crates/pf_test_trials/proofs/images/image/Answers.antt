use Rattle.std.proofs.Common.{◌≡◌, ◌++◌, replicate, arith, ap, ◌∙◌}
use Rattle.pf_test_trials.proofs.Bodies.{body, body_is, body_more, body_size, front}
use Rattle.pf_test_trials.proofs.images.image.Goals as goal

pub loop-k-preserved : goal.loop-k-preserved
loop-k-preserved c = body_more _ _ _ _ _ c.loop-k.invariant c.in_ok-push.ensures.items

pub returns-clause-body : goal.returns-clause-body
returns-clause-body c = let end : c.loop-k._k ≡ 8193 = omega arith in ((1, front c.args.generation c.args.term ++ replicate 8192 0), body_is _ _ _ (c.loop-k.invariant ∙ ap (body c.args.generation c.args.term) end))

pub returns-clause-size : goal.returns-clause-size
returns-clause-size c = let end : c.loop-k._k ≡ 8193 = omega arith in body_size _ _ _ (c.loop-k.invariant ∙ ap (body c.args.generation c.args.term) end)
