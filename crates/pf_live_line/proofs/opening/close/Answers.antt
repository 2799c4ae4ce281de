use Rattle.pf_live_line.proofs.Tidy.{own_free}
use Rattle.pf_live_line.proofs.opening.close.Goals as goal

pub returns-clause-none : goal.returns-clause-none
returns-clause-none g c bare = let line = c.args.line in c.close-group.ensures.claims (λ n k. own_free line.group line.plan c.args.crew.seat c.requires.seat k n)
