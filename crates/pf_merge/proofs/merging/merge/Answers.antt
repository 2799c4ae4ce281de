use Rattle.std.proofs.Common.{◌+◌, ap, ◌∙◌}
use Rattle.pf_merge.proofs.MergeResults.{first_is}
use Rattle.pf_merge.proofs.merging.merge.Goals as goal

pub returns-clause-first : goal.returns-clause-first
returns-clause-first c =
    ap (λ n. n + 1) c.max-last.ensures
    ∙ first_is c.args.base c.args.own.now c.args.other.now c.last_left-mine.result c.last_left-theirs.result c.last_left-mine.ensures c.last_left-theirs.ensures
