use Rattle.std.proofs.Common.{◌∙◌, sym}
use Rattle.pf_server_candidate.proofs.LeaderMemory.{some_start, no_start}
use Rattle.pf_server_candidate.proofs.leads.put_start.Goals as goal

pub returns-then-not-is_empty : goal.returns-then-not-is_empty
returns-then-not-is_empty c = c.put.ensures.starts ∙ some_start c.args.starts.now.starts c.args.term c.args.first c.args.merged.now (sym c.is_empty.ensures ∙ c.if-not-is_empty.true)

pub returns-else-not-is_empty : goal.returns-else-not-is_empty
returns-else-not-is_empty c = no_start c.args.starts.now.starts c.args.term c.args.first c.args.merged.now (sym c.is_empty.ensures ∙ c.if-not-is_empty.false)
