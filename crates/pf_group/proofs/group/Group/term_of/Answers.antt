use Rattle.pf_group.proofs.group.Group.term_of.Goals as goal

pub returns : goal.returns
returns g c told = let at = c.in_ok-running.ensures told in (at.0, at.1, at.2.cached.term)
