use Rattle.std.proofs.Common.{arith}
use Rattle.pf_paxos.proofs.Forms.{greatest_low}
use Rattle.pf_paxos.proofs.proposer.greatest_of.Goals as goal

pub returns-clause-low : goal.returns-clause-low
returns-clause-low c = λ are.
    let low = greatest_low c.args.blocks.now are in
    let is = c.loop-block.invariant in
    omega (arith, low, is)
