use Rattle.std.proofs.Common.{ℕ, Option, arith, None}
use Rattle.pf_check.proofs.MadeTables.{all_made}
use Rattle.pf_check.proofs.tagging.no_blocks.Goals as goal

nothing : Option ℕ
nothing = None

pub returns : goal.returns
unfolding nothing
returns c = all_made nothing c.loop-number.number 49152 c.loop-number.firsts.items c.loop-number.invariant (omega arith)
