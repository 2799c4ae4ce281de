use Rattle.std.proofs.Common.{rules}
use Rattle.pf_text.proofs.ZeroRuns.{one_more}
use Rattle.pf_text.proofs.zeros.before_zeros.Goals as goal

pub loop-end-preserved : goal.loop-end-preserved
loop-end-preserved c = record {
  within = search rules;
  zeros = one_more c.args.bytes.now c.loop-end.end c.loop-end.invariant.within (search rules) (search rules) c.loop-end.invariant.zeros;
}
