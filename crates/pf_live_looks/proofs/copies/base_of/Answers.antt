use Rattle.std.proofs.Common.{◌∙◌}
use Rattle.pf_live_looks.proofs.copies.base_of.Goals as goal

pub returns : goal.returns
returns g c told = let at = c.in_ok-running.ensures told in (at.0, at.1, c.base.ensures.base ∙ at.2.cached.base)
