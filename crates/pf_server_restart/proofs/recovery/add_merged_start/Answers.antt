use Rattle.std.proofs.Common.{◌∙◌, ◌≡◌, OnOk, sym, subst}
use Rattle.pf_server_restart.proofs.RecordReads.{some_start, no_start}
use Rattle.pf_server_restart.proofs.recovery.add_merged_start.Goals as goal

pub returns-then-is_empty : goal.returns-then-is_empty
returns-then-is_empty c = no_start c.args.starts.now.starts c.args.term c.args.first c.args.merged.now (sym c.is_empty.ensures ∙ c.if-is_empty.true)

pub returns : goal.returns
returns c = subst (λ s. OnOk c.add_start.result (c.add_start.new.starts.starts ≡ s)) (some_start c.args.starts.now.starts c.args.term c.args.first c.args.merged.now (sym c.is_empty.ensures ∙ c.if-is_empty.false)) c.add_start.ensures
