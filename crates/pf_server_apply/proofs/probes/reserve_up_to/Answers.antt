use Rattle.std.proofs.Common.{◌+◌, arith, ap, ◌∙◌}
use Rattle.pf_server_memory.specs.Replying.{Replying}
use Rattle.pf_server_apply.proofs.probes.reserve_up_to.Goals as goal

pub loop-preserved : goal.loop-preserved
loop-preserved c =
    let one = c.in_ok-reserve.ensures.ok in
    record {
      same = ap (λ (r : Replying). r.answers) one ∙ c.loop.invariant.same;
      rooms = ap (λ (r : Replying). r.rooms) one ∙ ap (λ n. n + 1) c.loop.invariant.rooms;
      low = let low = c.loop.invariant.low in omega (arith, low);
    }

pub returns-in_err-reserve-clause-more : goal.returns-in_err-reserve-clause-more
returns-in_err-reserve-clause-more c =
    let none = c.in_err-reserve.ensures.err in
    record {
      same = ap (λ (r : Replying). r.answers) none ∙ c.loop.invariant.same;
      rooms = omega (arith, ap (λ (r : Replying). r.rooms) none, c.loop.invariant.rooms, c.loop.invariant.low);
    }

pub returns-clause-more : goal.returns-clause-more
returns-clause-more c = record { same = c.loop.invariant.same; rooms = omega (arith, c.loop.invariant.rooms, c.loop.invariant.low) }

pub returns-clause-enough : goal.returns-clause-enough
returns-clause-enough c = omega (arith, c.loop.invariant.rooms, c.loop-test.false)
