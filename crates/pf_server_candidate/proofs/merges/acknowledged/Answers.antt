use Rattle.std.proofs.Common.{arith, ◌∙◌}
use Rattle.pf_server_candidate.proofs.Made.{none_begun, one_begun}
use Rattle.pf_server_candidate.proofs.merges.acknowledged.Goals as goal

pub loop-init : goal.loop-init
loop-init c = record {
  begun = none_begun c.args.me c.args.base c.reserve.new.self (c.reserve.ensures.base ∙ c.new-acks.ensures.base) (c.reserve.ensures.count ∙ c.new-acks.ensures.count) (c.reserve.ensures.acks ∙ c.new-acks.ensures.acks);
  room = omega (arith, c.in_ok-reserve.ensures.room);
}

pub loop-preserved : goal.loop-preserved
loop-preserved c = record {
  begun = one_begun c.args.me c.args.base c.loop.counter c.loop.acks c.begin.new.self c.loop.invariant.begun c.begin.ensures.base c.begin.ensures.count c.begin.ensures.acks;
  room = omega (arith, c.loop.invariant.room, c.begin.ensures.spare, c.loop-test.true);
}
