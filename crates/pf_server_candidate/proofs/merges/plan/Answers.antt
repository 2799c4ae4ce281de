use Rattle.std.proofs.Common.{◌<◌, subst, sym}
use Rattle.pf_entry.proofs.MergedEntries.{base_below_first}
use Rattle.pf_server_candidate.proofs.merges.plan.Goals as goal

pub acknowledged-requires-clause-above : goal.acknowledged-requires-clause-above
acknowledged-requires-clause-above c = subst (λ n. c.base-base.result < n) (sym c.in_ok-first.ensures.first) (base_below_first c.base-base.result c.args.own.now c.args.vote.now)
