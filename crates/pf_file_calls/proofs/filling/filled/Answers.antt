use Rattle.std.proofs.Common.{arith}
use Rattle.pf_file_calls.proofs.FilledBlocks.{length_upto}
use Rattle.pf_file_calls.proofs.filling.filled.Goals as goal

pub returns-clause-count : goal.returns-clause-count
returns-clause-count c =
    length_upto c.args.fill.now _ c.args.bytes.now c.loop-k.k c.loop-k.after.items c.loop-k.invariant (omega arith)
