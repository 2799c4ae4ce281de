use Rattle.std.proofs.Common.{arith}
use Rattle.pf_check.proofs.KindRules.{low_kept, sizes_kept}
use Rattle.pf_check.proofs.judging.is_shown.Goals as goal

pub has_stray_tag-requires-clause-low : goal.has_stray_tag-requires-clause-low
has_stray_tag-requires-clause-low c = low_kept c.args.tables.now c.args.kind (omega arith) c.requires.below

pub has_stray_tag-requires-clause-sizes : goal.has_stray_tag-requires-clause-sizes
has_stray_tag-requires-clause-sizes c = sizes_kept c.args.tables.now c.args.kind (omega arith) c.requires.below

pub has_gap-requires-clause-low : goal.has_gap-requires-clause-low
has_gap-requires-clause-low c = low_kept c.args.tables.now c.args.kind (omega arith) c.requires.below

pub has_gap-requires-clause-sizes : goal.has_gap-requires-clause-sizes
has_gap-requires-clause-sizes c = sizes_kept c.args.tables.now c.args.kind (omega arith) c.requires.below
