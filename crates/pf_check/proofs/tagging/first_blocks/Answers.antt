use Rattle.std.proofs.Common.{refl}
use Rattle.pf_check.proofs.KindRules.{none_first}
use Rattle.pf_check.proofs.tagging.first_blocks.Goals as goal

pub loop-number-init : goal.loop-number-init
loop-number-init c = none_first c.args.tables.now c.in_ok-firsts.firsts.items 49152 c.in_ok-firsts.ensures refl
