use Rattle.std.proofs.Common.{arith}
use Rattle.pf_text.proofs.Stretches.{in_next, run_is}
use Rattle.pf_text.proofs.put.run_end.Goals as goal

pub loop-end-preserved : goal.loop-end-preserved
loop-end-preserved c =
    let before = c.loop-end.invariant in
    let block = c.is_block.ensures c.if-is_block.true in
    record {
      above = omega (arith, before.above);
      within = omega (arith, before.within, c.loop-end-test.true);
      each = in_next 64 c.args.bytes.now c.args.at c.loop-end.end before.each block;
    }

pub returns-else-bytes-end : goal.returns-else-bytes-end
returns-else-bytes-end c =
    let now = c.loop-end-2.invariant in
    run_is c.args.bytes.now c.args.at c.loop-end-2.end now.above now.within now.each (λ low e. c.if-bytes-end.false e)

pub returns-after-loop-end-2 : goal.returns-after-loop-end-2
returns-after-loop-end-2 c =
    let now = c.loop-end-2.invariant in
    run_is c.args.bytes.now c.args.at c.loop-end-2.end now.above now.within now.each (λ low e. absurd (omega (arith, low, c.loop-end-2-test.false)))
